use Rattle.std.specs.Prelude.{MatchBool}
use Rattle.std.proofs.Common.{◌≡◌, ◌+◌, ◌<◌, Bool, true, length, subst, ◌∙◌, arith, rules}
use Rattle.steal_workers.specs.Deals.{Deal}
use Rattle.steal_workers.specs.SeatViews.{HasMark}
use Rattle.steal_workers.proofs.SameSeats.{same_seat_trans}
use Rattle.round_lookahead.specs.declared.workers.host_task.HostTask.{HostTask}
use Rattle.round_lookahead.specs.Tasks.{AreTasks}
use Rattle.round_lookahead.specs.Works.{IsWork}
use Rattle.round_lookahead.proofs.workers.working.work.Goals as goal

pub returns-then-not-branch-clause-worked : goal.returns-then-not-branch-clause-worked
returns-then-not-branch-clause-worked g c = λ rec are.
    subst (λ (d : Deal HostTask). AreTasks c.args.net.now d.tasks rec → IsWork c.args.net.now c.args.end.nanos c.args.worker d.tasks rec c.args.seat.now.numbers c.loop.seat.numbers c.loop.carrier.entries c.loop.shift.worked
    → IsWork c.args.net.now c.args.end.nanos c.args.worker d.tasks rec c.args.seat.now.numbers c.turn.new.seat.numbers c.turn.new.carrier.entries c.turn.new.shift.worked)
    c.loop.invariant.same.deal (c.in_ok-turn.ensures.worked rec c.args.seat.now.numbers) are (c.loop.invariant.worked rec are)

pub loop-preserved : goal.loop-preserved
loop-preserved g c =
    let inv = c.loop.invariant in
    let is : c.in_ok-turn.field-0 ≡ true = search rules in
    let more : (c.turn.new.shift.lost < 69632) × (length c.turn.new.seat.numbers + c.turn.new.shift.lost ≡ length c.loop.seat.numbers + c.loop.shift.lost + 1) =
    subst (λ (b : Bool). MatchBool b ((c.turn.new.shift.lost < 69632) × (length c.turn.new.seat.numbers + c.turn.new.shift.lost ≡ length c.loop.seat.numbers + c.loop.shift.lost + 1)) (HasMark c.turn.new.seat c.turn.new.seat.place))
    is c.in_ok-turn.ensures.more in
    record {
      same = same_seat_trans c.args.seat.now c.loop.seat c.turn.new.seat inv.same c.turn.ensures.same;
      boards = c.turn.ensures.boards ∙ inv.boards;
      puts = c.in_ok-turn.ensures.puts;
      few = more.0;
      count = (let n = inv.count in let m = more.1 in omega arith);
      below = λ some. c.in_ok-turn.ensures.below;
      worked = λ rec are.
          subst (λ (d : Deal HostTask). AreTasks c.args.net.now d.tasks rec → IsWork c.args.net.now c.args.end.nanos c.args.worker d.tasks rec c.args.seat.now.numbers c.loop.seat.numbers c.loop.carrier.entries c.loop.shift.worked
          → IsWork c.args.net.now c.args.end.nanos c.args.worker d.tasks rec c.args.seat.now.numbers c.turn.new.seat.numbers c.turn.new.carrier.entries c.turn.new.shift.worked)
          c.loop.invariant.same.deal (c.in_ok-turn.ensures.worked rec c.args.seat.now.numbers) are (c.loop.invariant.worked rec are);
    }
