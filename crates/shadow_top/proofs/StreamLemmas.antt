-- The lines of connections, behind all else that is put at the end of a run.
use Rattle.std.proofs.Common.{◌≡◌, ℕ, Bool, true, List, Option, Some, option_map, Result, Ok, Err, sym, ap, subst, ◌∙◌}
use Rattle.run_outside.specs.Sink.{Content}
use Rattle.run_outside.specs.declared.sink.WriteError.{WriteError}
use Rattle.run_files.specs.Files.{Put}
use Rattle.run_files.specs.Listed.{HostNames, names_of}
use Rattle.host_state.specs.Gains.{names_in}
use Rattle.host_state.specs.World.{World}
use Rattle.host_state.specs.WorldStreams.{streams_in}
use Rattle.run_files.specs.declared.listed.Listing.{Listing}
use Rattle.out_text.specs.declared.streams.Stream.{Stream}
use Rattle.net_run.specs.Pieces.{with_pieces, PutsFront}
use Rattle.net_run.specs.Shown.{run_pieces}
use Rattle.net_run.specs.Streams.{told_puts, stream_puts}
use Rattle.round_lookahead.specs.WorldStands.{WorldStands}
use Rattle.round_lookahead.specs.declared.world.world_state.World as rounds
use Rattle.shadow_top.specs.inside.Ending.{PutsEnd, PutsAll}
use Rattle.shadow_top.proofs.GrowLemmas.{AreBetween, with_append}
use Rattle.shadow_top.proofs.PartLemmas.{between_after, between_more}

-- what is told of a world's connections, where they are asked for, by what the code lists
pub lines_are : (asked : Bool) → asked ≡ true → (c : rounds.World) (w : World) → WorldStands c w → (listing : Listing) (streams es : List Stream) → listing ≡ c.listing → es ≡ streams
    → streams ≡ streams_in w → told_puts (names_of listing) es ≡ stream_puts asked w
lines_are asked are c w at listing streams es is same told =
    ap (λ (l : Listing). told_puts (names_of l) es) is ∙ ap (λ (ns : List HostNames). told_puts ns es) at.listed ∙ ap (λ (l : List Stream). told_puts (names_in w) l) (same ∙ told)
    ∙ sym (ap (λ (b : Bool). stream_puts b w) are)

module _ (load streams : Bool) (w : World) (old mid new : Option Content) where
  abbrev rest : List Put
  rest = run_pieces load w

  abbrev lines : List Put
  lines = stream_puts streams w

  -- both were put
  pub all_told : (status : ℕ) → PutsEnd load w old mid (let r : Result ℕ WriteError = Ok status in r) → new ≡ option_map (with_pieces lines) mid
      → PutsAll load streams w old new (let r : Result ℕ WriteError = Ok status in r)
  all_told status told put = (λ begun is. put ∙ ap (option_map (with_pieces lines)) (told.0 begun is) ∙ ap Some (sym (with_append rest lines begun)), told.1)

  -- a front of what stands before them
  pub all_stopped : AreBetween → (error : WriteError) → PutsEnd load w old new (let r : Result ℕ WriteError = Err error in r)
      → PutsAll load streams w old new (let r : Result ℕ WriteError = Err error in r)
  all_stopped parts error told = λ begun is. between_more parts rest lines begun new (told begun is)

  -- a front of them
  pub all_in_part : AreBetween → (status : ℕ) (error : WriteError) → PutsEnd load w old mid (let r : Result ℕ WriteError = Ok status in r) → PutsFront lines mid new
      → PutsAll load streams w old new (let r : Result ℕ WriteError = Err error in r)
  all_in_part parts status error told front = λ begun is.
      between_after parts rest lines begun new (parts lines (with_pieces rest begun) new (subst (λ (o : Option Content). PutsFront lines o new) (told.0 begun is) front))
