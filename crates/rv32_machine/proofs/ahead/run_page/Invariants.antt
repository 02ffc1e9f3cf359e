use Rattle.std.proofs.Common.{◌≡◌, ◌+◌, ◌-◌}
use Rattle.guest_mem.specs.Memory.{IsCode}
use Rattle.rv32_machine.specs.Table.{state}
use Rattle.rv32_machine.specs.Turn.{turn, ran_before}
use Rattle.rv32_machine.proofs.ahead.run_page.Given as goal

abbrev pub invariant-loop-ran : goal.invariant-loop-ran
invariant-loop-ran g l = record {
  same : turn l.most (state l.initial.cpu l.initial.mem) ≡ ran_before l.ran (turn (l.most - l.ran) (state l.cpu l.mem));
  counted : l.steps ≡ l.initial.steps + l.ran;
  code : IsCode l.mem.cells l.number l.page;
}
