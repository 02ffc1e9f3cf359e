-- The refusals of a call or of an input, one after another: the first that applies answers.
use Rattle.std.specs.Prelude.{Bool, Option, Some, None, Result, Ok, Err, if◌then◌else◌}

-- what is done after a step that did not refuse
infixl 10 ◌>>=◌
abbrev pub ◌>>=◌ : {A B E : Type 0} → Result A E → (A → Result B E) → Result B E
Ok a >>= next = next a
Err refusal >>= next = Err refusal

infixl 10 ◌>>◌
abbrev pub ◌>>◌ : {A B E : Type 0} → Result A E → Result B E → Result B E
Ok a >> next = next
Err refusal >> next = Err refusal

-- a refusal that a test tells
abbrev pub refuse_if : {E : Type 0} → Bool → E → Result (Unit {0}) E
refuse_if applies refusal = if applies then Err refusal else Ok tt

-- a value that is needed, or a refusal where there is none
abbrev pub or_refuse : {A E : Type 0} → Option A → E → Result A E
or_refuse None refusal = Err refusal
or_refuse (Some a) refusal = Ok a
