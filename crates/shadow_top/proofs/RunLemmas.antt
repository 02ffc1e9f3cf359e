-- What a run leaves, from what its steps leave.
use Rattle.std.proofs.Common.{◌≡◌, ℕ, ◌≤◌, Bool, List, [], ◌∷◌, map, All, Option, Some, None, option_map, Result, Ok, Err, IfOk, IfSome, refl, sym, ap, subst, ◌∙◌}
use Rattle.run_outside.specs.Sink.{Content}
use Rattle.run_outside.specs.declared.sink.WriteError.{WriteError}
use Rattle.host_state.specs.World.{World, IsResult, opening_world}
use Rattle.host_link.specs.Net.{Net}
use Rattle.host_rows.specs.declared.row.Row.{Row}
use Rattle.net_run.specs.Grown.{HaveOwnFiles}
use Rattle.run_files.specs.Listed.{HostNames, HasIds, listed, names_of}
use Rattle.host_state.specs.Gains.{names_in}
use Rattle.net_run.specs.Parts.{Between}
use Rattle.net_run.specs.Pieces.{with_pieces, PutsFront}
use Rattle.net_run.specs.Shown.{note_puts, run_pieces, all_pieces, unmet}
use Rattle.net_run.specs.Streams.{stream_puts}
use Rattle.round_lookahead.specs.OpeningWorld.{AreHostRows}
use Rattle.round_lookahead.specs.WorldStands.{nanos_of, HasRounds, IsBetweenRounds, WorldStands}
use Rattle.round_lookahead.specs.declared.world.world_state.World as rounds
use Rattle.run_plan.specs.Names.{AreApart}
use Rattle.shadow_top.specs.inside.Ending.{PutsAll}
use Rattle.opened_run.specs.Opened.{HasOpened}
use Rattle.shadow_top.specs.inside.Rounds.{HasAllRounds, PutsInPart}
use Rattle.shadow_top.specs.inside.Steps.{RunsNoted, RunsOpened}
use Rattle.opened_run.specs.declared.opened.Opened.{Opened}
use Rattle.shadow_top.proofs.EndLemmas.{small}
use Rattle.shadow_top.proofs.GrowLemmas.{AreBetween, with_append, Grows-refl, Grows_with_pieces}
use Rattle.shadow_top.proofs.NameLemmas.{opening_names, own_files}
use Rattle.shadow_top.proofs.OpenedLemmas.{has_rounds, host_rows_is}
use Rattle.shadow_top.proofs.PartLemmas.{between_after, between_first, between_more}

-- what is told of results: there is one from each world between rounds, as from the one in which all hosts begin
abbrev pub HaveResults : Type 0
HaveResults = (net : Net) (lookahead : Option ℕ) (w : World) → HasRounds net lookahead → IsBetweenRounds net w → (r : World) × IsResult net r w × IsBetweenRounds net r

abbrev pub OpenBetween : Type 0
OpenBetween = (net : Net) (rows : List Row) → AreHostRows net rows → IsBetweenRounds net (opening_world rows)

-- a run has a result
ran_exists : HaveResults → OpenBetween → (opened : Opened) → HasOpened opened → (w : World) × IsResult opened.net w (opening_world opened.rows.items)
ran_exists results between opened has =
    let r = results opened.net (nanos_of opened.lookahead) (opening_world opened.rows.items) (has_rounds opened has) (between opened.net opened.rows.items (host_rows_is opened has)) in (r.0, r.1)

-- no memory for the run: nothing was put
pub not_run : HaveResults → OpenBetween → AreBetween → (opened : Opened) (old : Option Content) (error : WriteError) → HasOpened opened
    → IfSome old (λ c. RunsNoted opened c old (let r : Result ℕ WriteError = Err error in r))
not_run results between parts opened None error has = tt
not_run results between parts opened (Some c) error has =
    let (w, result) = ran_exists results between opened has in
    (w, result, record { now = c; now_is = refl; grown = Grows-refl c; rest = Grows_with_pieces parts (all_pieces opened.is_self_load opened.streams w) c })

-- ---- the beginning

names_listed : (rows : List Row) → map (λ (h : HostNames). h.name) (map listed rows) ≡ map (λ (row : Row). row.name) rows
names_listed [] = refl
names_listed (row ∷ rows) = ap (λ (names : List (List ℕ)). row.name ∷ names) (names_listed rows)

-- the files of a run's hosts are apart
pub begins_own : (opened : Opened) (c : rounds.World) → HasOpened opened → WorldStands c (opening_world opened.rows.items) → All HasIds (names_of c.listing) → HaveOwnFiles (names_of c.listing)
begins_own opened c has stands ids =
    let rows : List Row = opened.rows.items in
    let names : List HostNames = names_in (opening_world rows) in
    let apart : map (λ (h : HostNames). h.name) names ≡ map (λ (row : Row). row.name) rows = ap (map (λ (h : HostNames). h.name)) (opening_names rows) ∙ names_listed rows in
    subst HaveOwnFiles (sym stands.listed) (own_files names (subst AreApart (sym apart) has.names) (subst (All HasIds) stands.listed ids))

-- ---- rounds and the end

pub ended_small : (load streams : Bool) (w : World) (old new : Option Content) (r : Result ℕ WriteError) → PutsAll load streams w old new r → IfOk r (λ status. status ≤ 1)
ended_small load streams w old new (Ok status) told = subst (λ (s : ℕ). s ≤ 1) (sym told.1) (small (unmet w))
ended_small load streams w old new (Err error) told = tt

module _ (parts : AreBetween) (opened : Opened) (c : rounds.World) (same : c.net ≡ opened.net) (old : Option Content) where
  abbrev start : World
  start = opening_world opened.rows.items

  result_of : (w : World) → IsResult c.net w start → IsResult opened.net w start
  result_of w result = subst (λ (n : Net). IsResult n w start) same result

  part_of : (new : Option Content) → PutsInPart c start old new → (o : Option Content) → o ≡ old
      → IfSome o (λ begun. (w : World) × IsResult opened.net w start × Between begun new (with_pieces (all_pieces opened.is_self_load opened.streams w) begun))
  part_of new part None is = tt
  part_of new (w, result, stands) (Some begun) is =
      (w, result_of w result, between_more parts (run_pieces opened.is_self_load w) (stream_puts opened.streams w) begun new (stands begun (sym is) opened.is_self_load))

  -- a round stopped
  pub rounds_stopped : (new : Option Content) (error : WriteError) → PutsInPart c start old new → IfSome old (λ begun. RunsNoted opened begun new (let r : Result ℕ WriteError = Err error in r))
  rounds_stopped new error part = part_of new part old refl

  -- all rounds were made, and what is left was put, or a front of it
  module _ (d : rounds.World) (mid new : Option Content) (all : HasAllRounds c d start old mid) where
    ended_at : (r : Result ℕ WriteError) → PutsAll opened.is_self_load opened.streams all.world old new r → (o : Option Content) → o ≡ old → IfSome o (λ begun. RunsNoted opened begun new r)
    ended_at (Ok status) told None is = tt
    ended_at (Ok status) told (Some begun) is = (all.world, result_of all.world all.result, (told.0 begun (sym is), told.1, all.fit tt))
    ended_at (Err error) told None is = tt
    ended_at (Err error) told (Some begun) is = (all.world, result_of all.world all.result, told begun (sym is))

    pub run_ended : (r : Result ℕ WriteError) → PutsAll opened.is_self_load opened.streams all.world old new r → IfSome old (λ begun. RunsNoted opened begun new r)
    run_ended r told = ended_at r told old refl

-- ---- the notes

noted_here : AreBetween → (opened : Opened) (c : Content) (new : Option Content) (r : Result ℕ WriteError) → RunsNoted opened (with_pieces (note_puts opened.notes) c) new r → RunsOpened opened c new r
noted_here parts opened c new (Ok status) (w, result, told) =
    (w, result, told.0 ∙ ap Some (sym (with_append (note_puts opened.notes) (all_pieces opened.is_self_load opened.streams w) c)), told.1, told.2)
noted_here parts opened c new (Err error) (w, result, part) = (w, result, between_after parts (note_puts opened.notes) (all_pieces opened.is_self_load opened.streams w) c new part)

-- the notes were put, and the run was made
pub noted : AreBetween → (opened : Opened) (old mid new : Option Content) (r : Result ℕ WriteError) → mid ≡ option_map (with_pieces (note_puts opened.notes)) old
    → IfSome mid (λ c. RunsNoted opened c new r) → IfSome old (λ c. RunsOpened opened c new r)
noted parts opened None mid new r is ran = tt
noted parts opened (Some c) mid new r is ran = noted_here parts opened c new r (subst (λ (m : Option Content). IfSome m (λ d. RunsNoted opened d new r)) is ran)

-- a write of the notes failed
pub notes_stopped : HaveResults → OpenBetween → AreBetween → (opened : Opened) (old new : Option Content) (error : WriteError) → HasOpened opened → PutsFront (note_puts opened.notes) old new
    → IfSome old (λ c. RunsOpened opened c new (let r : Result ℕ WriteError = Err error in r))
notes_stopped results between parts opened None new error has some = tt
notes_stopped results between parts opened (Some c) new error has some =
    let (w, result) = ran_exists results between opened has in
    (w, result, between_first parts (note_puts opened.notes) (all_pieces opened.is_self_load opened.streams w) c new some)
