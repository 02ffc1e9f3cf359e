use Rattle.std.proofs.Common.{◌∙◌, arith}
use Rattle.rv32_machine.proofs.TurnSteps.{turn_next, ran_none, fetched_insn}
use Rattle.rv32_machine.proofs.ahead.run_page.Goals as goal

pub loop-ran-init : goal.loop-ran-init
loop-ran-init g c = record { same = ran_none _ _; counted = omega arith; code = c.requires.code }

pub loop-ran-preserved : goal.loop-ran-preserved
loop-ran-preserved g c = record {
  same =
      c.loop-ran.invariant.same
      ∙ turn_next _ _ _ _ _ c.loop-ran-test.true (fetched_insn _ c.in-Some.word _ (c.in-Some.ensures c.loop-ran.mem c.loop-ran.invariant.code) c.if-not-run_one.ensures.ran);
  counted = omega arith;
  code = c.run_one.ensures.code _ _ c.loop-ran.invariant.code;
}
