use Rattle.std.proofs.Common.{arith, length, ap}
use Rattle.shadow_top.proofs.EndLemmas.{none_there, one_more, states_more}
use Rattle.shadow_top.proofs.ending.host_states.Goals as goal

pub loop-process-init : goal.loop-process-init
loop-process-init c = record { count = ap length c.new-states.ensures.items; each = λ w h stands there p state at. none_there c.new-states.result.items p state c.new-states.ensures.items at }

pub loop-process-preserved : goal.loop-process-preserved
loop-process-preserved c =
    let i = c.loop-process.invariant in
    record {
      count = one_more c.loop-process.states.items c.push.new.self.items c.state.result c.loop-process.process c.in_ok-push.ensures.items i.count;
      each = λ w h stands there p state at.
          states_more c.loop-process.states.items c.push.new.self.items c.state.result c.loop-process.process h c.in_ok-push.ensures.items i.count (i.each w h stands there) (c.state.ensures w h stands there) p state at;
    }

pub returns : goal.returns
returns c = λ w h stands there few. record { count = (let i = c.loop-process.invariant.count in let e = c.loop-process-test.false in omega arith); each = c.loop-process.invariant.each w h stands there }
