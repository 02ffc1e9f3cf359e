use Rattle.std.proofs.Common.{◌∙◌, refl, ap, map}
use Rattle.run_files.specs.Listed.{listed}
use Rattle.round_lookahead.proofs.WorldOpenings.{starts_so}
use Rattle.round_lookahead.proofs.world.world_state.World.start.Goals as goal

pub returns-clause-stands : goal.returns-clause-stands
returns-clause-stands c =
    starts_so _ c.args.rows.items c.requires.rows c.requires.rounds c.in_ok-tasks.ensures (c.in_ok-listing.ensures.names ∙ ap (map listed) c.as_slice.ensures.value) c.new-2.ensures

pub returns-clause-net : goal.returns-clause-net
returns-clause-net c = refl

pub returns-clause-lookahead : goal.returns-clause-lookahead
returns-clause-lookahead c = refl

pub returns-clause-ids : goal.returns-clause-ids
returns-clause-ids c = c.in_ok-listing.ensures.ids
