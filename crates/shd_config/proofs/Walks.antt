-- What each step of a reading has, the whole reading has: walks over steps, which end at the first fault.
use Rattle.std.specs.Prelude.{if◌then◌else◌}
use Rattle.std.proofs.Common.{◌≡◌, ℕ, ◌+◌, ◌&&◌, Bool, true, false, List, [], ◌∷◌, ◌++◌, length, All, Option, Some, None, IfSome, IfOk, Result, Ok, Err, refl, sym, ap, subst, ◌∙◌, arith, length-append}
use Rattle.std.proofs.lemmas.List.Elements.{All-push}
use Rattle.sim_base.specs.Refusals.{◌>>=◌}
use Rattle.sim_base.proofs.RefusalLemmas.{then_has, some_has}
use Rattle.yaml_merge.specs.Plain.{is_null}
use Rattle.yaml_merge.specs.declared.plain.Pair.{Pair}
use Rattle.shd_config.specs.declared.fault.ConfigKind.{ConfigKind}
use Rattle.shd_config.specs.declared.fault.ConfigFault.{ConfigFault}
use Rattle.shd_config.specs.Steps.{needed, valued, checked, below, through, given, optional}

-- what reading gives: a value, or the first fault
abbrev pub Read : Type 0 → Type 0
Read A = Result A ConfigFault

pub checked_has : {B : Type 0} (Q : B → Type 0) (kind : ConfigKind) (p : Pair) (t : Bool) (next : Unit {0} → Read B) → (t ≡ true → IfOk (next tt) Q) → IfOk (checked kind p t >>= next) Q
checked_has Q kind p true next h = h refl
checked_has Q kind p false next h = tt

pub below_has : {A : Type 0} (P : A → Type 0) (p : Pair) (read : Read A) → IfOk read P → IfOk (below p read) P
below_has P p (Ok a) h = h
below_has P p (Err f) h = tt

pub valued_has : {A : Type 0} (P : A → Type 0) (kind : ConfigKind) (p : Pair) (o : Option A) → IfSome o P → IfOk (valued kind p o) P
valued_has P kind p None h = tt
valued_has P kind p (Some a) h = h

pub needed_has : {A : Type 0} (P : A → Type 0) (key : List ℕ) (line : ℕ) (o : Option A) → IfSome o P → IfOk (needed key line o) P
needed_has P key line None h = tt
needed_has P key line (Some a) h = h

optional_by : {A : Type 0} (P : A → Type 0) (null : Bool) (read : Read A) → IfOk read P → IfOk (if null then Ok None else (read >>= λ x. Ok (Some x))) (λ o. IfSome o P)
optional_by P true read h = tt
optional_by P false read h = some_has P read h

pub given_has : {A : Type 0} (P : A → Type 0) (b : Bool) (p : Pair) (read : Read A) → IfOk read P → IfOk (given b p read) (λ o. IfSome o P)
given_has P b p read h = optional_by P (b && is_null p.value) read h

pub optional_has : {A : Type 0} (P : A → Type 0) (p : Pair) (read : Read A) → IfOk read P → IfOk (optional p read) (λ o. IfSome o P)
optional_has P p read h = optional_by P (is_null p.value) read h

-- what is passed over stays as it was
pub kept_or_read : {S : Type 0} (P : S → Type 0) (passed : Bool) (before : S) (read : Read S) → P before → IfOk read P → IfOk (if passed then Ok before else read) P
kept_or_read P true before read h k = h
kept_or_read P false before read h k = k

pub through_keeps : {S A : Type 0} (P : S → Type 0) (step : S → A → Read S) → ((s : S) (a : A) → P s → IfOk (step s a) P) → (s : S) (xs : List A) → P s → IfOk (through step s xs) P
through_keeps P step keeps s [] h = h
through_keeps P step keeps s (x ∷ xs) h = then_has P P (step s x) (λ next. through step next xs) (keeps s x h) (λ next k. through_keeps P step keeps next xs k)

-- one more at the end
pub record IsMore {B : Type 0} (P : B → Type 0) (before after : List B) : Type 0 where
  pub last : B
  pub has : P last
  pub is : after ≡ before ++ last ∷ []

-- as many as these behind those before, and each has this
pub record AreMore {B : Type 0} (P : B → Type 0) (count : ℕ) (all : List B) : Type 0 where
  pub each : All P all
  pub length_is : length all ≡ count

pub through_pushes : {A B : Type 0} (P : B → Type 0) (step : List B → A → Read (List B)) → ((before : List B) (a : A) → IfOk (step before a) (IsMore P before)) → (before : List B) (xs : List A) → All P before
    → IfOk (through step before xs) (AreMore P (length before + length xs))
through_pushes {B = B} P step pushes before [] h = record { each = h; length_is = omega arith }
through_pushes {B = B} P step pushes before (x ∷ xs) h =
    then_has (IsMore P before) (AreMore P (length before + length (x ∷ xs))) (step before x) (λ next. through step next xs) (pushes before x)
    (λ next more.
    let count : length next ≡ length before + 1 = ap (λ (l : List B). length l) more.is ∙ length-append before (more.last ∷ []) in
    let sum : length next + length xs ≡ length before + length (x ∷ xs) = omega (arith, count) in
    subst (λ (n : ℕ). IfOk (through step next xs) (AreMore P n)) sum
    (through_pushes P step pushes next xs (subst (All P) (sym more.is) (All-push P before more.last h more.has))))
