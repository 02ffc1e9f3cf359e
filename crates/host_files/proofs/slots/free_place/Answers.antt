use Rattle.std.proofs.Common.{is_none, rules}
use Rattle.host_files.proofs.Places.{position_unwrap_or}
use Rattle.host_files.proofs.slots.free_place.Goals as goal

pub returns : goal.returns
returns g c = grind (rules, position_unwrap_or is_none c.args.slots.now)
