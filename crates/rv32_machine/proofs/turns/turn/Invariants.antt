use Rattle.std.proofs.Common.{◌≡◌, ◌+◌, ◌-◌, ◌≤◌}
use Rattle.rv32_machine.specs.Table.{state}
use Rattle.rv32_machine.specs.Turn.{turn, ran_before}
use Rattle.rv32_machine.proofs.turns.turn.Given as goal

abbrev pub invariant-loop-ran : goal.invariant-loop-ran
invariant-loop-ran g l = record {
  same : turn l.budget (state l.initial.cpu l.initial.mem) ≡ ran_before l.ran (turn (l.budget - l.ran) (state l.cpu l.mem));
  counted : l.steps ≡ l.initial.steps + l.ran;
  within : l.ran ≤ l.budget;
}

abbrev pub decreases-loop-ran : goal.decreases-loop-ran
decreases-loop-ran g l = l.budget - l.ran
