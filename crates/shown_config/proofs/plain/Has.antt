-- What holds of the answer of steps that read.
use Rattle.std.proofs.Common.{◌≡◌, suc, Bool, true, false, List, [], ◌∷◌, ◌++◌, map, length, Option, Some, None, IfSome, IfOk, unwrap_or, refl, sym, ap, ◌∙◌, append_assoc, append-nil}
use Rattle.std.specs.List.{AllByRecursion}
use Rattle.sim_base.proofs.RefusalLemmas.{then_has, weaker}
use Rattle.shd_config.proofs.Walks.{Read}
use Rattle.yaml_merge.specs.declared.plain.Pair.{Pair}
use Rattle.shd_config.specs.Steps.{through}
use Rattle.shd_config.specs.Values.{ranged}

pub ranged_has : {A : Type 0} (P : A → Type 0) (test : A → Bool) (p : Pair) (x : A) → (test x ≡ true → P x) → IfOk (ranged test p x) P
ranged_has P test p x h = by (test x) refl
  where
    by : (t : Bool) → test x ≡ t → IfOk (ranged (λ _. t) p x) P
    by true e = h e
    by false e = tt

pub or_default_has : {A : Type 0} (P : A → Type 0) (o : Option A) (default : A) → IfSome o P → P default → P (unwrap_or o default)
or_default_has P None default h k = k
or_default_has P (Some a) default h k = h

-- ---- through lists

-- each step keeps this, where that holds of what is read
pub through_keeps : {S A : Type 0} (P : S → Type 0) (G : A → Type 0) (step : S → A → Read S) → ((s : S) (a : A) → P s → G a → IfOk (step s a) P) → (s : S) (xs : List A) → P s → AllByRecursion G xs → IfOk (through step s xs) P
through_keeps P G step keeps s [] h g = h
through_keeps P G step keeps s (x ∷ xs) h g = then_has P P (step s x) (λ next. through step next xs) (keeps s x h g.0) (λ next k. through_keeps P G step keeps next xs k g.1)

-- each of these is read of one of those
abbrev pub AreRead : {A B : Type 0} → (A → B → Type 0) → List A → List B → Type 0
AreRead R [] [] = Unit {0}
AreRead R [] (b ∷ bs) = ⊥
AreRead R (a ∷ xs) [] = ⊥
AreRead R (a ∷ xs) (b ∷ bs) = R a b × AreRead R xs bs

-- one more, read of this
pub record IsPushed {A B : Type 0} (R : A → B → Type 0) (a : A) (before after : List B) : Type 0 where
  pub last : B
  pub read : R a last
  pub is : after ≡ before ++ last ∷ []

-- those that are read of these behind those before
pub record ArePushed {A B : Type 0} (R : A → B → Type 0) (xs : List A) (before after : List B) : Type 0 where
  pub more : List B
  pub read : AreRead R xs more
  pub are : after ≡ before ++ more

pub through_pushes : {A B : Type 0} (R : A → B → Type 0) (G : A → Type 0) (step : List B → A → Read (List B)) → ((before : List B) (a : A) → G a → IfOk (step before a) (IsPushed R a before)) → (before : List B) (xs : List A) → AllByRecursion G xs
    → IfOk (through step before xs) (ArePushed R xs before)
through_pushes R G step pushes before [] g = record { more = []; read = tt; are = sym (append-nil before) }
through_pushes {B = B} R G step pushes before (x ∷ xs) g =
    then_has (IsPushed R x before) (ArePushed R (x ∷ xs) before) (step before x) (λ next. through step next xs) (pushes before x g.0)
    (λ next one. weaker (ArePushed R xs next) (ArePushed R (x ∷ xs) before) (through step next xs) (through_pushes R G step pushes next xs g.1)
    (λ all rest. record { more = one.last ∷ rest.more; read = (one.read, rest.read); are = rest.are ∙ ap (λ (l : List B). l ++ rest.more) one.is ∙ append_assoc before (one.last ∷ []) rest.more }))

pub read_length : {A B : Type 0} (R : A → B → Type 0) (xs : List A) (bs : List B) → AreRead R xs bs → length bs ≡ length xs
read_length R [] [] h = refl
read_length R [] (b ∷ bs) h = absurd h
read_length R (a ∷ xs) [] h = absurd h
read_length R (a ∷ xs) (b ∷ bs) h = ap suc (read_length R xs bs h.1)

pub read_each : {A B : Type 0} (R : A → B → Type 0) (Q : B → Type 0) → ((a : A) (b : B) → R a b → Q b) → (xs : List A) (bs : List B) → AreRead R xs bs → AllByRecursion Q bs
read_each R Q f [] [] h = tt
read_each R Q f [] (b ∷ bs) h = absurd h
read_each R Q f (a ∷ xs) [] h = absurd h
read_each R Q f (a ∷ xs) (b ∷ bs) h = (f a b h.0, read_each R Q f xs bs h.1)

pub read_names : {A B C : Type 0} (R : A → B → Type 0) (of : A → C) (name : B → C) → ((a : A) (b : B) → R a b → name b ≡ of a) → (xs : List A) (bs : List B) → AreRead R xs bs → map name bs ≡ map of xs
read_names R of name f [] [] h = refl
read_names R of name f [] (b ∷ bs) h = absurd h
read_names R of name f (a ∷ xs) [] h = absurd h
read_names R of name f (a ∷ xs) (b ∷ bs) h = λ i. f a b h.0 i ∷ read_names R of name f xs bs h.1 i
