use Rattle.std.proofs.Common.{Some}
use Rattle.round_schedule.proofs.Dues.{time_due}
use Rattle.round_schedule.proofs.member.Member.has_due.Goals as goal

pub returns-in-Some : goal.returns-in-Some
returns-in-Some c = time_due c.args.end.nanos c.args.self.now.host.queue (Some c.in-Some.due) c.in-Some.ensures.least
