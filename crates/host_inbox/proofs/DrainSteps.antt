-- Places are taken out one after the other.
use Rattle.std.proofs.Common.{◌≡◌, ◌≢◌, ℕ, zero, suc, ◌+◌, ◌*◌, ◌<◌, ◌≤◌, Bool, true, false, List, [], ◌∷◌, ◌++◌, length, get_or, set, Option, Some, None, nat_le, sym, refl, ap, ◌∙◌, subst, arith}
use mathlib.Core.Option.{some, some-injective, some-ne-none}
use mathlib.Core.Logic.{dite}
use native.Mathlib.Decide.{ℕ_discrete}
use lib.ListN.{get_elem?}
use Rattle.std.proofs.lemmas.List.{length-set, get_or-set_other, get_or-set_same}
use Rattle.std.proofs.lemmas.Bool.{le-leb, lt-leb}
use Rattle.host_inbox.specs.inside.Slots.{IsTakenTo, listed, parcels_from}

-- one place more
pub takes_next : (filled : List Bool) (n m : ℕ) → n < length filled → m ≡ n + 1 → IsTakenTo n filled → IsTakenTo m (set filled n false)
takes_next filled n m near is taken k within = dite (ℕ_discrete k n)
    (λ (e : k ≡ n). ap (λ (j : ℕ). get_or (set filled n false) j false) e ∙ get_or-set_same filled n false false near ∙ sym (lt-leb m k (omega arith)))
    (λ (ne : k ≢ n).
    let there : k < length filled = omega (arith, length-set filled n false) in
    get_or-set_other filled n k false false ne ∙ taken k there ∙ same k ne)
  where
    same : (k : ℕ) → k ≢ n → nat_le n k ≡ nat_le m k
    same k ne = dite (native.Mathlib.Decide.dec_le n k)
        (λ (le : n ≤ k). le-leb n k le ∙ sym (le-leb m k (omega arith)))
        (λ not. lt-leb n k (Rattle.std.proofs.Common.lt_of_not-le not) ∙ sym (lt-leb m k (let lt : k < n = Rattle.std.proofs.Common.lt_of_not-le not in omega arith)))

-- which isn't taken before
pub not_taken : (filled : List Bool) (n : ℕ) → n < length filled → IsTakenTo n filled → get_or filled n false ≡ true
not_taken filled n near taken = taken n near ∙ le-leb n n (omega arith)

-- none is taken at first
pub none_taken : (filled : List Bool) → ((k : ℕ) → 0 ≤ k → k < length filled → get_or filled k false ≡ true) → IsTakenTo 0 filled
none_taken filled full k within = full k (omega arith) within ∙ sym (le-leb 0 k (omega arith))

-- all are taken at the end
pub all_taken : (filled : List Bool) (n : ℕ) → IsTakenTo n filled → length filled ≤ n → (k : ℕ) → k < length filled → get_or filled k false ≡ false
all_taken filled n taken all k within = taken k within ∙ lt-leb n k (omega arith)

module _ {X : Type 0} where
  pub read_at : (xs : List X) (k : ℕ) (x d : X) → get_elem? xs k ≡ some x → get_or xs k d ≡ x
  read_at [] k x d e = absurd (some-ne-none x (sym e))
  read_at (y ∷ xs) zero x d e = some-injective y x e
  read_at (y ∷ xs) (suc k) x d e = read_at xs k x d e

module _ {T : Type 0} where
  -- what was taken joins the row
  pub row_next : (slots : List (Option T)) (from n m : ℕ) (found : Option T) (old new : List T) → m ≡ n + 1 → get_elem? slots (from + n) ≡ some found → old ≡ parcels_from slots from n → new ≡ old ++ listed found → new ≡ parcels_from slots from m
  row_next slots from n m found old new is at was joins =
      joins
      ∙ ap (λ (l : List T). l ++ listed found) was
      ∙ ap (λ (x : Option T). parcels_from slots from n ++ listed x) (sym (read_at slots (from + n) found None at))
      ∙ ap (parcels_from slots from) (let e : suc n ≡ m = omega arith in e)
