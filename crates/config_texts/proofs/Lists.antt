-- lists of which each member has something
use Rattle.std.proofs.Common.{IfOk, IfSome, List, None, Option, Some, [], option_to_list, slice_get, suc, unwrap_or, zero, ℕ, ◌++◌, ◌∷◌}
use Rattle.std.specs.List.{AllByRecursion}
use Rattle.sim_base.proofs.RefusalLemmas.{then_has}
use Rattle.shd_config.proofs.Walks.{Read}
use Rattle.shd_config.specs.Steps.{through}

module _ {X : Type 0} (P : X → Type 0) where
  pub all_behind : (xs ys : List X) → AllByRecursion P xs → AllByRecursion P ys → AllByRecursion P (xs ++ ys)
  all_behind [] ys h k = k
  all_behind (x ∷ xs) ys h k = (h.0, all_behind xs ys h.1 k)

  -- one more at the end
  pub all_pushed : (xs : List X) (x : X) → AllByRecursion P xs → P x → AllByRecursion P (xs ++ x ∷ [])
  all_pushed xs x h k = all_behind xs (x ∷ []) h (k, tt)

  pub option_all : (o : Option X) → IfSome o P → AllByRecursion P (option_to_list o)
  option_all None h = tt
  option_all (Some x) h = (h, tt)

  pub member : (xs : List X) (i : ℕ) → AllByRecursion P xs → IfSome (slice_get xs i) P
  member [] i h = tt
  member (x ∷ xs) zero h = h.0
  member (x ∷ xs) (suc i) h = member xs i h.1

  -- a list that is there, or none
  pub or_none : (o : Option (List X)) → IfSome o (λ (xs : List X). AllByRecursion P xs) → AllByRecursion P (unwrap_or o [])
  or_none None h = tt
  or_none (Some xs) h = h

-- steps of which each keeps something, over members that each have something
pub through_members : {S A : Type 0} (P : S → Type 0) (Q : A → Type 0) (step : S → A → Read S) → ((s : S) (a : A) → P s → Q a → IfOk (step s a) P) → (s : S) (xs : List A) → P s → AllByRecursion Q xs → IfOk (through step s xs) P
through_members P Q step keeps s [] h all = h
through_members P Q step keeps s (x ∷ xs) h all =
    then_has P P (step s x) (λ next. through step next xs) (keeps s x h all.0) (λ next k. through_members P Q step keeps next xs k all.1)
