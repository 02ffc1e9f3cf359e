use Rattle.std.proofs.Common.{◌∙◌, ap, refl, arith}
use Rattle.rv32_machine.specs.Table.{after}
use Rattle.rv32_machine.specs.Turn.{Turn}
use Rattle.rv32_machine.specs.declared.outcome.Outcome.TheVariants as outcome
use Rattle.rv32_machine.specs.declared.outcome.TurnEnd.TheVariants as end
use Rattle.rv32_machine.proofs.TurnSteps.{turn_next, turn_whole, turn_spent, ran_none, ran_more}
use Rattle.rv32_machine.proofs.TurnLaws.{turn_as}
use Rattle.rv32_machine.proofs.turns.turn.Goals as goal

pub loop-ran-init : goal.loop-ran-init
loop-ran-init g c = record { same = ran_none _ _; counted = omega arith; within = omega arith }

pub loop-ran-preserved : goal.loop-ran-preserved
loop-ran-preserved g c = record {
  same = (ran_more _ _ _ _ _ _ c.loop-ran.invariant.same c.run_ahead-ahead.ensures.same) ∙ turn_next _ _ _ _ _ (omega arith) (c.step_fetched.ensures ∙ ap (after _ _) c.in-Next.is);
  counted = omega arith;
  within = omega arith;
}

pub returns-then-ran-budget-clause-state : goal.returns-then-ran-budget-clause-state
returns-then-ran-budget-clause-state g c = ap (λ (t : Turn). t.state) (turn_spent _ _ _ _ _ c.if-ran-budget.true (ran_more _ _ _ _ _ _ c.loop-ran.invariant.same c.run_ahead-ahead.ensures.same))

pub returns-then-ran-budget-clause-end : goal.returns-then-ran-budget-clause-end
returns-then-ran-budget-clause-end g c = ap (λ (t : Turn). t.end) (turn_spent _ _ _ _ _ c.if-ran-budget.true (ran_more _ _ _ _ _ _ c.loop-ran.invariant.same c.run_ahead-ahead.ensures.same))

pub returns-then-ran-budget-clause-ledger : goal.returns-then-ran-budget-clause-ledger
returns-then-ran-budget-clause-ledger g c =
    let whole = ap (λ (t : Turn). t.ran) (turn_spent _ _ _ _ _ c.if-ran-budget.true (ran_more _ _ _ _ _ _ c.loop-ran.invariant.same c.run_ahead-ahead.ensures.same)) in
    omega (arith, whole)

pub returns-then-ran-budget-clause-least : goal.returns-then-ran-budget-clause-least
returns-then-ran-budget-clause-least g c = turn_as _ _ _ _ (turn_spent _ _ _ _ _ c.if-ran-budget.true (ran_more _ _ _ _ _ _ c.loop-ran.invariant.same c.run_ahead-ahead.ensures.same)) (omega arith)

pub returns-in-Call-clause-state : goal.returns-in-Call-clause-state
returns-in-Call-clause-state g c = ap (λ (t : Turn). t.state) (turn_whole _ _ _ _ _ _ outcome.Call end.Call (omega arith) (ran_more _ _ _ _ _ _ c.loop-ran.invariant.same c.run_ahead-ahead.ensures.same) (c.step_fetched.ensures ∙ ap (after _ _) c.in-Call.is) refl)

pub returns-in-Call-clause-end : goal.returns-in-Call-clause-end
returns-in-Call-clause-end g c = ap (λ (t : Turn). t.end) (turn_whole _ _ _ _ _ _ outcome.Call end.Call (omega arith) (ran_more _ _ _ _ _ _ c.loop-ran.invariant.same c.run_ahead-ahead.ensures.same) (c.step_fetched.ensures ∙ ap (after _ _) c.in-Call.is) refl)

pub returns-in-Call-clause-ledger : goal.returns-in-Call-clause-ledger
returns-in-Call-clause-ledger g c =
    let whole = ap (λ (t : Turn). t.ran) (turn_whole _ _ _ _ _ _ outcome.Call end.Call (omega arith) (ran_more _ _ _ _ _ _ c.loop-ran.invariant.same c.run_ahead-ahead.ensures.same) (c.step_fetched.ensures ∙ ap (after _ _) c.in-Call.is) refl) in
    omega (arith, whole)

pub returns-in-Call-clause-least : goal.returns-in-Call-clause-least
returns-in-Call-clause-least g c = turn_as _ _ _ _ (turn_whole _ _ _ _ _ _ outcome.Call end.Call (omega arith) (ran_more _ _ _ _ _ _ c.loop-ran.invariant.same c.run_ahead-ahead.ensures.same) (c.step_fetched.ensures ∙ ap (after _ _) c.in-Call.is) refl) (omega arith)

pub returns-in-Trap-clause-state : goal.returns-in-Trap-clause-state
returns-in-Trap-clause-state g c = ap (λ (t : Turn). t.state) (turn_whole _ _ _ _ _ _ (outcome.Trap c.in-Trap.signal) (end.Trap c.in-Trap.signal) (omega arith) (ran_more _ _ _ _ _ _ c.loop-ran.invariant.same c.run_ahead-ahead.ensures.same) (c.step_fetched.ensures ∙ ap (after _ _) c.in-Trap.is) refl)

pub returns-in-Trap-clause-end : goal.returns-in-Trap-clause-end
returns-in-Trap-clause-end g c = ap (λ (t : Turn). t.end) (turn_whole _ _ _ _ _ _ (outcome.Trap c.in-Trap.signal) (end.Trap c.in-Trap.signal) (omega arith) (ran_more _ _ _ _ _ _ c.loop-ran.invariant.same c.run_ahead-ahead.ensures.same) (c.step_fetched.ensures ∙ ap (after _ _) c.in-Trap.is) refl)

pub returns-in-Trap-clause-ledger : goal.returns-in-Trap-clause-ledger
returns-in-Trap-clause-ledger g c =
    let whole = ap (λ (t : Turn). t.ran) (turn_whole _ _ _ _ _ _ (outcome.Trap c.in-Trap.signal) (end.Trap c.in-Trap.signal) (omega arith) (ran_more _ _ _ _ _ _ c.loop-ran.invariant.same c.run_ahead-ahead.ensures.same) (c.step_fetched.ensures ∙ ap (after _ _) c.in-Trap.is) refl) in
    omega (arith, whole)

pub returns-in-Trap-clause-least : goal.returns-in-Trap-clause-least
returns-in-Trap-clause-least g c = turn_as _ _ _ _ (turn_whole _ _ _ _ _ _ (outcome.Trap c.in-Trap.signal) (end.Trap c.in-Trap.signal) (omega arith) (ran_more _ _ _ _ _ _ c.loop-ran.invariant.same c.run_ahead-ahead.ensures.same) (c.step_fetched.ensures ∙ ap (after _ _) c.in-Trap.is) refl) (omega arith)

pub returns-clause-state : goal.returns-clause-state
returns-clause-state g c = ap (λ (t : Turn). t.state) (turn_spent _ _ _ _ _ (omega arith) c.loop-ran.invariant.same)

pub returns-clause-end : goal.returns-clause-end
returns-clause-end g c = ap (λ (t : Turn). t.end) (turn_spent _ _ _ _ _ (omega arith) c.loop-ran.invariant.same)

pub returns-clause-ledger : goal.returns-clause-ledger
returns-clause-ledger g c =
    let whole = ap (λ (t : Turn). t.ran) (turn_spent _ _ _ _ _ (omega arith) c.loop-ran.invariant.same) in
    omega (arith, whole)

pub returns-clause-least : goal.returns-clause-least
returns-clause-least g c = turn_as _ _ _ _ (turn_spent _ _ _ _ _ (omega arith) c.loop-ran.invariant.same) (omega arith)
