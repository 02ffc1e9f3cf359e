use Rattle.std.proofs.Common.{◌≡◌}
use Rattle.std.specs.Prelude.{Result, Ok, Err}
use Rattle.run_plan.specs.declared.fault.Fault.{Fault}
use Rattle.run_plan.specs.declared.planned.Planned.{Planned}
use Rattle.run_plan.proofs.SameLemmas.{one_answer}
use Rattle.run_plan.proofs.laws.one_fault.Goals as goal

one_err : (f g : Fault) → (let r : Result Planned Fault = Err f in r) ≡ Err g → f ≡ g
one_err f g e = cc

no_both : (p : Planned) (f : Fault) → (let r : Result Planned Fault = Ok p in r) ≡ Err f → ⊥
no_both p f e = cc

pub returns-clause-same : goal.returns-clause-same
returns-clause-same c words held f g h k = one_err f g (one_answer words held (Err f) (Err g) h k)

pub returns-clause-none : goal.returns-clause-none
returns-clause-none c words held p f h k = no_both p f (one_answer words held (Ok p) (Err f) h k)
