-- What holds of the answer of steps that may refuse.
use Rattle.std.proofs.Common.{◌≡◌, Some, IfSome, IfOk, Result, Ok, Err, refl, ap, ◌∙◌}
use Rattle.sim_base.specs.Refusals.{◌>>=◌, ◌>>◌}

-- what a step gives has this, and what follows has that
pub then_has : {A B E : Type 0} (P : A → Type 0) (Q : B → Type 0) (first : Result A E) (next : A → Result B E) → IfOk first P → ((a : A) → P a → IfOk (next a) Q) → IfOk (first >>= next) Q
then_has P Q (Ok a) next h k = k a h
then_has P Q (Err refusal) next h k = tt

-- of a step nothing is known
pub then_all : {A B E : Type 0} (Q : B → Type 0) (first : Result A E) (next : A → Result B E) → ((a : A) → IfOk (next a) Q) → IfOk (first >>= next) Q
then_all Q (Ok a) next k = k a
then_all Q (Err refusal) next k = tt

-- what has this has that
pub weaker : {A E : Type 0} (P Q : A → Type 0) (answer : Result A E) → IfOk answer P → ((a : A) → P a → Q a) → IfOk answer Q
weaker P Q (Ok a) h k = k a h
weaker P Q (Err refusal) h k = tt

pub some_has : {A E : Type 0} (P : A → Type 0) (first : Result A E) → IfOk first P → IfOk (first >>= λ a. Ok (Some a)) (λ o. IfSome o P)
some_has P (Ok a) h = h
some_has P (Err refusal) h = tt

-- a step that succeeds, before the others
pub then_is : {A B E : Type 0} (first : Result A E) (next : A → Result B E) (a : A) (answer : Result B E) → first ≡ Ok a → next a ≡ answer → (first >>= next) ≡ answer
then_is first next a answer e f = ap (λ step. step >>= next) e ∙ f

-- what a step gave that was gone on from
pub bind_ok : {A B E : Type 0} (first : Result A E) (next : A → Result B E) (b : B) → (first >>= next) ≡ Ok b → (a : A) × ((first ≡ Ok a) × (next a ≡ Ok b))
bind_ok (Ok a) next b e = (a, (refl, e))
bind_ok (Err refusal) next b e = cc

pub bind_ok_by : {A B E : Type 0} (first : Result A E) (next : A → Result B E) (b : B) (P : Type 0) → (first >>= next) ≡ Ok b → ((a : A) → first ≡ Ok a → next a ≡ Ok b → P) → P
bind_ok_by (Ok a) next b P e k = k a refl e
bind_ok_by (Err refusal) next b P e k = cc

pub then_ok : {A B E : Type 0} (first : Result A E) (next : Result B E) (b : B) → (first >> next) ≡ Ok b → next ≡ Ok b
then_ok (Ok a) next b e = e
then_ok (Err refusal) next b e = cc
