use Rattle.std.proofs.Common.{flat_map, arith}
use Rattle.run_files.specs.Written.{with_silent}
use Rattle.round_lookahead.proofs.ShareSteps.{silent_both}
use Rattle.round_lookahead.proofs.world.in_place.join_silent.Goals as goal

pub returns : goal.returns
returns c = silent_both (flat_map with_silent c.args.all.now.hosts.items) c.args.all.now.silent c.args.count c.in-Some.silent c.in-Some.ensures.1
