-- How the answers of calls follow from those of the calls in them.
use Rattle.std.proofs.Common.{◌≡◌, true, false, Option, Some, None, Result, Ok, Err, refl, sym, ap, subst, ◌∙◌}
use Rattle.sim_base.specs.Refusals.{◌>>=◌}
use Rattle.yaml_merge.specs.Plain.{is_null}
use Rattle.yaml_merge.specs.declared.plain.Pair.{Pair}
use Rattle.shd_config.specs.declared.fault.ConfigFault.{ConfigFault}
use Rattle.shd_config.specs.declared.fault.ConfigError.{ConfigError}
use Rattle.shd_config.specs.declared.fault.ConfigError.TheVariants as errors
use Rattle.shd_config.specs.Steps.{IsFault, IsBelow, Fails, Gives, below, path_below, optional}

-- an error that is this fault is that of a definition that gives it
pub fault_fails : {A : Type 0} (e : ConfigError) (f : ConfigFault) (d : Result A ConfigFault) → IsFault e f → d ≡ Err f → Fails e d
fault_fails (errors.Fault g) f d h r = r ∙ ap Err (sym h)
fault_fails errors.NoMemory f d h r = tt

-- an error below a pair is that of what is read below it
pub below_fails : {A : Type 0} (e b : ConfigError) (p : Pair) (d : Result A ConfigFault) → IsBelow p.key e b → Fails e d → Fails b (below p d)
below_fails (errors.Fault g) b p d h r = fault_fails b (path_below p.key g) (below p d) h (ap (below p) r)
below_fails errors.NoMemory b p d h r = rw h tt

-- an error of the first step is that of all steps
pub first_fails : {A B : Type 0} (e : ConfigError) (d : Result A ConfigFault) (next : A → Result B ConfigFault) → Fails e d → Fails e (d >>= next)
first_fails (errors.Fault g) d next h = ap (λ x. x >>= next) h
first_fails errors.NoMemory d next h = tt

-- a first step that gives a value leaves what the next one gives
pub then_gives : {A B : Type 0} (r : Result B ConfigError) (d : Result A ConfigFault) (next : A → Result B ConfigFault) (x : A) → d ≡ Ok x → Gives r (next x) → Gives r (d >>= next)
then_gives {B = B} r d next x e h = subst (λ y. Gives r (y >>= next)) (sym e) h

pub same_fails : {A : Type 0} (e : ConfigError) (d r : Result A ConfigFault) → Fails e d → r ≡ d → Fails e r
same_fails (errors.Fault g) d r h q = q ∙ h
same_fails errors.NoMemory d r h q = tt

-- a null passes as absent, and a value that is read passes
pub null_passes : {A : Type 0} (p : Pair) (read : Result A ConfigFault) → is_null p.value ≡ true → (y : Option A) × (optional p read ≡ Ok y)
null_passes p read e = (None, rw e refl)

pub read_passes : {A : Type 0} (p : Pair) (read : Result A ConfigFault) (x : A) → is_null p.value ≡ false → read ≡ Ok x → (y : Option A) × (optional p read ≡ Ok y)
read_passes p read x e r = (Some x, rw (e, r) refl)

pub ruleset steps = (fault_fails, below_fails, first_fails, same_fails)
