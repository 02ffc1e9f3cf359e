use Rattle.std.proofs.Common.{◌∙◌, length, refl, sym, ap}
use Rattle.run_files.specs.Grown.{all_grown, with_bytes}
use Rattle.run_files.specs.Listed.{names_of}
use Rattle.host_link.specs.Logs.{kept_lines}
use Rattle.run_files.specs.declared.listed.Listing.{Listing}
use Rattle.round_lookahead.proofs.RoundPieces.{outputs_fit, outputs_of, round_pieces}
use Rattle.round_lookahead.proofs.world.world_state.World.round.Goals as goal

pub round_pieces-requires : goal.round_pieces-requires
round_pieces-requires g c =
    let (w, stands) = c.requires.stands in
    let turns = c.in_ok-outputs.ensures.turns w stands in (
      c.type_bounds.sync-R,
      outputs_fit c.args.self.now c.advance.new.self c.args.workers w turns.0 c.in_ok-outputs.field-0 stands turns.1
          ∙ ap (λ (l : Listing). length (names_of l)) (sym c.in_ok-outputs.ensures.listing),
    )

pub returns-clause-round : goal.returns-clause-round
returns-clause-round g c = λ w stands.
    (let turns = c.in_ok-outputs.ensures.turns w stands in
    let gained = c.in_ok-outputs.field-0 in (
      turns.0,
      round_pieces c.args.self.now c.advance.new.self c.args.workers w turns.0 gained _ stands turns.1 refl
          (c.in_ok-files.ensures.pieces
          ∙ ap (λ (l : Listing). with_bytes (all_grown (names_of l) (outputs_of gained) (kept_lines gained.lines.items))) c.in_ok-outputs.ensures.listing)
          c.in_ok-files.ensures.fit,
    ))
