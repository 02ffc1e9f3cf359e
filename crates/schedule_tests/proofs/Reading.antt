-- One input has one run.
use Rattle.std.proofs.Common.{◌≡◌, ℕ, List, subst}
use Rattle.std.specs.Prelude.{Result, Ok}
use Rattle.run_outside.specs.Files.{Held}
use Rattle.run_plan.specs.Planned.{planned}
use Rattle.run_plan.specs.declared.fault.Fault.{Fault}
use Rattle.run_plan.specs.declared.planned.Planned.{Planned}
use Rattle.run_plan.specs.declared.planned.Planned.TheVariants.{Runs}
use Rattle.run_plan.specs.declared.planned.Run.{Run}

-- what is told of plans
abbrev pub OnePlan : Type 0
OnePlan = (words : List (List ℕ)) (held : Held) (r s : Result Planned Fault) → (planned words held).answers r → (planned words held).answers s → r ≡ s

same_run : (a b : Run) → ◌≡◌ {A = Result Planned Fault} (Ok (Runs a)) (Ok (Runs b)) → a ≡ b
same_run a b e = cc

-- two readings of the same files
pub one_run : OnePlan → (words : List (List ℕ)) (held again : Held) (a b : Run) → again ≡ held → (planned words held).answers (Ok (Runs a)) → (planned words again).answers (Ok (Runs b)) → a ≡ b
one_run one words held again a b same first second =
    same_run a b (one words held (Ok (Runs a)) (Ok (Runs b)) first (subst (λ (h : Held). (planned words h).answers (Ok (Runs b))) same second))
