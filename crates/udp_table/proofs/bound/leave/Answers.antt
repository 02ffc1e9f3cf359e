use Rattle.std.proofs.Common.{◌∙◌}
use Rattle.std.specs.HashMap.{get}
use Rattle.sim_base.specs.Addresses.{is_same}
use Rattle.udp_table.proofs.Found.{taken_out}
use Rattle.udp_table.proofs.bound.leave.Goals as goal

pub returns-in-Some : goal.returns-in-Some
returns-in-Some c = λ place old new was is others h.
    taken_out (get is_same c.args.bound.now) (get is_same c.remove.new.self) c.in-Some.at place old new (was ∙ c.in-Some.is) is others c.remove.ensures.updates.0 h
