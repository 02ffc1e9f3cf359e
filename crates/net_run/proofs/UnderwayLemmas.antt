-- A run that is under way: its files have grown as far as its world, round by round, and at the end they are those of the run.
use Rattle.std.proofs.Common.{◌≡◌, ℕ, List, ◌++◌, length, map, slice_get, Bool, Option, Some, option_map, refl, sym, ap, subst, ◌∙◌}
use Rattle.run_outside.specs.Sink.{Content}
use Rattle.sim_base.specs.declared.state.State.{State}
use Rattle.file_calls.specs.declared.task.Output.{Output}
use Rattle.host_state.specs.Extends.{Extends}
use Rattle.host_state.specs.HostRecord.{HostRecord}
use Rattle.host_link.specs.declared.line.Line.{Line}
use Rattle.host_rows.specs.declared.row.Row.{Row}
use Rattle.run_files.specs.Grown.{all_grown, with_bytes}
use Rattle.host_state.specs.Gains.{Gains, names_in}
use Rattle.net_run.specs.Grown.{IsGrown, HaveOwnFiles, IsUnderway}
use Rattle.run_files.specs.Listed.{HostNames, listed}
use Rattle.net_run.specs.Heads.{all_heads}
use Rattle.net_run.specs.Parts.{Between}
use Rattle.run_files.specs.Files.{Put}
use Rattle.net_run.specs.Pieces.{with_pieces}
use Rattle.net_run.specs.Rest.{all_rest, summary_in, TellsStates}
use Rattle.net_run.specs.inside.Rest.{rest_in}
use Rattle.net_run.specs.Shown.{run_pieces}
use Rattle.net_run.specs.World.{World, opening_world}
use Rattle.net_run.proofs.ExtendsLemmas.{gains_later}
use Rattle.net_run.proofs.FrontLemmas.{with_append}
use Rattle.host_state.proofs.Gaining.{names_kept}
use Rattle.net_run.proofs.GrownLemmas.{opening_grown, round_grown, end_whole}
use Rattle.net_run.proofs.StandingLemmas.{part_so_far}
use Rattle.net_run.proofs.ToldLemmas.{opening_names, rest_told}

-- the heads of captures were put
pub underway_opening : (names : List HostNames) (rows : List Row) (begun : Content) → names ≡ map listed rows → HaveOwnFiles names → IsUnderway names begun (Some (with_pieces (all_heads names) begun)) (opening_world rows)
underway_opening names rows begun names_are own =
    let same : names ≡ names_in (opening_world rows) = names_are ∙ sym (opening_names rows) in
    record { names_are = same; own = own; puts = all_heads names; grown = subst (λ (hosts : List HostNames). IsGrown (opening_world rows) (all_heads hosts)) (sym same) (opening_grown rows); now_is = refl }

module _ (names : List HostNames) (begun : Content) (now : Option Content) (w : World) (underway : IsUnderway names begun now w) where
  own_files : HaveOwnFiles (names_in w)
  own_files = subst HaveOwnFiles underway.names_are underway.own

  -- ---- so far

  -- it is a front of what is shown of a later world
  pub underway_part : (load : Bool) (u : World) → Extends w u → Between begun now (with_pieces (run_pieces load u) begun)
  underway_part load u later =
      let gains = gains_later w u later in
      subst (λ (o : Option Content). Between begun o (with_pieces (run_pieces load u) begun)) (sym underway.now_is)
      (part_so_far load w u gains.0 gains.1 own_files gains.2 underway.puts underway.grown begun)

  -- ---- a round

  module _ (v : World) (outputs : List (List Output)) (lines : List Line) (gains : Gains w v outputs lines) (new : Option Content) where
    -- what it gained was put
    pub underway_round : new ≡ option_map (with_pieces (with_bytes (all_grown names outputs lines))) now → IsUnderway names begun new v
    underway_round put = record {
      names_are = underway.names_are ∙ sym (names_kept w v outputs lines gains);
      own = underway.own;
      puts = underway.puts ++ with_bytes (all_grown (names_in w) outputs lines);
      grown = round_grown w v outputs lines own_files gains underway.puts underway.grown;
      now_is = put ∙ ap (option_map (with_pieces (with_bytes (all_grown names outputs lines)))) underway.now_is
          ∙ ap (λ (hosts : List HostNames). Some (with_pieces (with_bytes (all_grown hosts outputs lines)) (with_pieces underway.puts begun))) underway.names_are
          ∙ ap Some (sym (with_append underway.puts (with_bytes (all_grown (names_in w) outputs lines)) begun));
    }

  -- ---- the end

  module _ (states : List (List State)) (count : length states ≡ length w.hosts)
      (tells : (k : ℕ) (h : HostRecord) (told : List State) → slice_get w.hosts k ≡ Some h → slice_get states k ≡ Some told → TellsStates h told) where
    rest-is : (load : Bool) → all_rest names states (summary_in load w) ≡ rest_in load w
    rest-is load = ap (λ (hosts : List HostNames). all_rest hosts states (summary_in load w)) underway.names_are ∙ rest_told w states count tells load

    -- the rest was put: what stands is what is shown
    pub underway_end : (load : Bool) (new : Option Content) → new ≡ option_map (with_pieces (all_rest names states (summary_in load w))) now → new ≡ Some (with_pieces (run_pieces load w) begun)
    underway_end load new put =
        put ∙ ap (λ (l : List Put). option_map (with_pieces l) now) (rest-is load) ∙ ap (option_map (with_pieces (rest_in load w))) underway.now_is
        ∙ ap Some (sym (with_append underway.puts (rest_in load w) begun) ∙ end_whole load w own_files underway.puts underway.grown begun)
