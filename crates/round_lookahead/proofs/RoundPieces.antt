-- What a round gained, as targets and bytes.
use Rattle.std.proofs.Common.{◌≡◌, ℕ, List, length, map, sym, ap, subst, ◌∙◌}
use Rattle.std.proofs.lemmas.List.{length-map}
use Rattle.file_calls.specs.declared.task.Output.{Output}
use Rattle.run_files.specs.Files.{put_of}
use Rattle.run_files.specs.Grown.{all_grown, with_bytes}
use Rattle.host_state.specs.HostRecord.{HostRecord}
use Rattle.run_files.specs.LinesFit.{AllFit}
use Rattle.run_files.specs.Listed.{HostNames, listed, names_of}
use Rattle.run_files.specs.Written.{written_in}
use Rattle.host_link.specs.Logs.{kept_lines}
use Rattle.host_state.proofs.Gaining.{gains_round}
use Rattle.world_order.specs.Window.{window_end}
use Rattle.round_lookahead.specs.declared.world.gained.Gained.{Gained}
use Rattle.round_lookahead.specs.declared.world.pieces.Pieces.{Pieces}
use Rattle.round_lookahead.specs.declared.world.took.Took.{Took}
use Rattle.round_lookahead.specs.declared.world.world_state.World.{World}
use Rattle.round_lookahead.specs.Gains.{HasTurns, HasRound}
use Rattle.round_lookahead.specs.inside.Gains.{HasGained}
use Rattle.round_lookahead.specs.Took.{took_in}
use Rattle.round_lookahead.specs.WorldStands.{HostWorld, nanos_of, WorldStands}
use Rattle.round_lookahead.proofs.CountSteps.{lines_gained}
use Rattle.round_lookahead.proofs.Extending.{result_extends}

abbrev pub outputs_of : Gained → List (List Output)
outputs_of g = written_in g.outputs

-- each host has its outputs
pub outputs_fit : (c d : World) (workers : ℕ) (w v : HostWorld) (g : Gained) → WorldStands c w → HasGained c d workers w v g → length (outputs_of g) ≡ length (names_of c.listing)
outputs_fit c d workers w v g stands round = round.gained.count ∙ sym (length-map w.hosts (λ (h : HostRecord). listed h.row)) ∙ sym (ap length stands.listed)

pub round_pieces : (c d : World) (workers : ℕ) (w v : HostWorld) (g : Gained) (p : Pieces) → WorldStands c w → HasGained c d workers w v g → p.took ≡ g.took
    → map put_of p.files.items ≡ with_bytes (all_grown (names_of c.listing) (outputs_of g) (kept_lines g.lines.items)) → AllFit (kept_lines g.lines.items) → HasRound c d workers w v p
round_pieces c d workers w v g p stands round took files fit =
    let t = round.turns in
    record {
      turns = subst (λ (k : Took). HasTurns c d workers w v (took_in k)) (sym took) t;
      files = record {
        outputs = outputs_of g;
        lines = kept_lines g.lines.items;
        gained = gains_round w v (outputs_of g) (kept_lines g.lines.items) (result_extends c.net (window_end (nanos_of c.lookahead) c.net.stop.nanos t.least) v w t.result) round.gained.count round.gained.outputs (lines_gained w.log v.log g.lines.items round.gained.lines);
        files_are = files ∙ ap (λ (names : List HostNames). with_bytes (all_grown names (outputs_of g) (kept_lines g.lines.items))) stands.listed;
        fit = fit;
      };
    }
