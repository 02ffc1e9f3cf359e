use Rattle.std.proofs.Common.{refl}
use Rattle.round_schedule.proofs.MemberTurns.{turn_due, turns}
use Rattle.round_schedule.proofs.member.Member.fire.Goals as goal

pub fire-requires-clause-before : goal.fire-requires-clause-before
fire-requires-clause-before c = turn_due c.args.net.now c.args.self.now c.take_least.new.self c.in-Some.event c.requires c.in-Some.ensures.taken c.in-Some.ensures.least

pub returns : goal.returns
returns c =
    turns c.args.net.now c.args.self.now c.take_least.new.self c.in-Some.event c.requires c.in-Some.ensures.taken c.in-Some.ensures.least
    c.fire.new.self c.new-out.result c.fire.new.out c.take_least.ensures.ordered c.take_least.ensures.body c.new-out.ensures c.in_ok-fire.ensures
    _ _ refl refl refl c.in_ok-append.ensures.items refl refl
