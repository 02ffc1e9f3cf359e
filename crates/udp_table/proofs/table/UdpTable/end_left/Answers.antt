use Rattle.std.proofs.Common.{true, false, sym, ◌∙◌}
use Rattle.udp_table.specs.Table.{bound_ends}
use Rattle.udp_table.proofs.Meeting.{free_left, none_left, named_left}
use Rattle.udp_table.proofs.table.UdpTable.end_left.Goals as goal

pub returns-in-Some : goal.returns-in-Some
returns-in-Some c = free_left (bound_ends c.args.self.now) c.args.at c.in-Some.port c.if-at-eq0.true (sym c.in-Some.is ∙ c.free_port.ensures)

pub returns-in-None : goal.returns-in-None
returns-in-None c = none_left (bound_ends c.args.self.now) c.args.at c.if-at-eq0.true (sym c.in-None.is ∙ c.free_port.ensures)

pub returns-then-is_taken : goal.returns-then-is_taken
returns-then-is_taken c = named_left (bound_ends c.args.self.now) c.args.at true c.if-at-eq0.false (sym c.if-is_taken.true ∙ c.is_taken.ensures)

pub returns : goal.returns
returns c = named_left (bound_ends c.args.self.now) c.args.at false c.if-at-eq0.false (sym c.if-is_taken.false ∙ c.is_taken.ensures)
