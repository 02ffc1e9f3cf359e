-- Lines that a stable sort put in the order of their keys.
use Rattle.std.proofs.Common.{◌≡◌, ℕ, suc, ◌+◌, ◌<◌, Bool, true, false, ◌&&◌, not, List, [], ◌∷◌, map, filter, length, get_or, refl, sym, ap, subst, ◌∙◌, arith, IsPermutation}
use Rattle.std.specs.Prelude.{if◌then◌else◌}
use Rattle.std.specs.List.Sorted.{IsSortedByKey, IsStableByKey, ties}
use Rattle.std.specs.Ordering.{is_eq, is_lt, ordering_reverse}
use Rattle.std.specs.declared.cmp.Ordering.{Ordering}
use Rattle.std.specs.declared.cmp.Ordering.TheVariants.{Less, Equal, Greater}
use Rattle.std.proofs.lemmas.List.{nil_from_length}
use Rattle.std.proofs.lemmas.List.Sorted.{length_permutation}
use Rattle.sim_base.specs.declared.key.Key.{Key}
use Rattle.sim_base.specs.Key.{key_order}
use Rattle.sim_base.specs.KeyLaws.{key_order_total}
use Rattle.world_order.specs.EventOrder.{same_key}
use Rattle.world_order.specs.Round.{in_order}
use Rattle.world_order.specs.World.{Logged}
use Rattle.world_order.proofs.Keys.{key_before}
use Rattle.world_order.proofs.Logs.{lines_with, with_first, InOrder, NotBefore, not_before_through_is, lines_with_in_order, order_in_order, same_log}
use Rattle.world_order.proofs.Members.{Each_cons}

-- keys of which neither comes before the other are the same
tie_by : (o : Ordering) → (not (is_lt o) && not (is_lt (ordering_reverse o))) ≡ is_eq o
tie_by Less = refl
tie_by Equal = refl
tie_by Greater = refl

tie_is : (a b : Key) → (not (is_lt (key_order a b)) && not (is_lt (key_order b a))) ≡ same_key a b
tie_is a b =
    ap (λ (o : Ordering). not (is_lt (key_order a b)) && not (is_lt o)) (key_order_total.antisymm b a) ∙ tie_by (key_order a b)

-- things with a key, which are lines
module _ {X L : Type 0} (key : X → Key) (line : X → L) where
  abbrev pub line_of : X → Logged L
  line_of x = record { key = key x; line = line x }

  abbrev lt : X → X → Bool
  lt x y = is_lt (key_order (key x) (key y))

  first_if : (b : Bool) (x : X) (xs : List X) → with_first b (line x) (map line xs) ≡ map line (if b then x ∷ xs else xs)
  first_if true x xs = refl
  first_if false x xs = refl

  with_same : (k : Key) (xs : List X) → lines_with k (map line_of xs) ≡ map line (filter (λ y. same_key k (key y)) xs)
  with_same k [] = refl
  with_same k (x ∷ xs) = ap (with_first (same_key k (key x)) (line x)) (with_same k xs) ∙ first_if (same_key k (key x)) x (filter (λ y. same_key k (key y)) xs)

  tied : (x : X) (ys : List X) → filter (ties lt x) ys ≡ filter (λ y. same_key (key x) (key y)) ys
  tied x [] = refl
  tied x (y ∷ ys) =
      ap (λ (b : Bool). if b then y ∷ filter (ties lt x) ys else filter (ties lt x) ys) (tie_is (key x) (key y))
      ∙ ap (λ (l : List X). if same_key (key x) (key y) then y ∷ l else l) (tied x ys)

  not_before : (x : X) (ys : List X) → (0 < length ys → lt (get_or ys 0 x) x ≡ false) → InOrder (map line_of ys) → NotBefore (key x) (map line_of ys)
  not_before x [] first order = λ l h. absurd h
  not_before x (y ∷ ys) first order =
      let here : is_lt (key_order (key y) (key x)) ≡ false = first (omega arith) in
      Each_cons (λ (l : Logged L). key_before l.key (key x) ≡ false) (line_of y) (map line_of ys) here (not_before_through_is (key x) (key y) (map line_of ys) order.0 here)

  sorted_in_order : (ys : List X) → IsSortedByKey key key_order ys → InOrder (map line_of ys)
  sorted_in_order [] sorted = tt
  sorted_in_order (x ∷ ys) sorted =
      let rest : InOrder (map line_of ys) = sorted_in_order ys (λ k d from below.
      (let next : suc k + 1 ≡ suc (k + 1) = omega arith in
      subst (λ (n : ℕ). lt (get_or (x ∷ ys) n d) (get_or (x ∷ ys) (suc k) d) ≡ false) next (sorted (suc k) d (omega arith) (omega arith)))) in
      let one : 0 + 1 ≡ suc 0 = omega arith in (
        not_before x ys (λ some. subst (λ (n : ℕ). lt (get_or (x ∷ ys) n x) x ≡ false) one (sorted 0 x (omega arith) (omega arith))) rest,
        rest,
      )

-- lines sorted so are in order, those of one key as they were
module _ {X L : Type 0} (key : X → Key) (line : X → L) (with_key : Key → X → X) (keyed : (k : Key) (x : X) → key (with_key k x) ≡ k) where
  same_lines : (xs ys : List X) → IsPermutation xs ys → IsStableByKey key key_order xs ys → (k : Key) → lines_with k (map (line_of key line) ys) ≡ lines_with k (map (line_of key line) xs)
  same_lines [] ys moved stable k =
      let none : ys ≡ [] = nil_from_length ys (let e = length_permutation [] ys moved in omega arith) in
      ap (λ (l : List X). lines_with k (map (line_of key line) l)) none
  same_lines (x ∷ xs) ys moved stable k =
      let z : X = with_key k x in
      let is : filter (λ y. same_key (key z) (key y)) ys ≡ filter (λ y. same_key (key z) (key y)) (x ∷ xs) =
      sym (tied key line z ys) ∙ stable z ∙ tied key line z (x ∷ xs) in
      with_same key line k ys
      ∙ ap (map line) (subst (λ (j : Key). filter (λ y. same_key j (key y)) ys ≡ filter (λ y. same_key j (key y)) (x ∷ xs)) (keyed k x) is)
      ∙ sym (with_same key line k (x ∷ xs))

  pub sorted_log : (xs ys : List X) → IsPermutation xs ys → IsSortedByKey key key_order ys → IsStableByKey key key_order xs ys
      → map (line_of key line) ys ≡ in_order (map (line_of key line) xs)
  sorted_log xs ys moved sorted stable =
      same_log (map (line_of key line) ys) (in_order (map (line_of key line) xs)) (sorted_in_order key line ys sorted) (order_in_order (map (line_of key line) xs))
      (λ k. same_lines xs ys moved stable k ∙ sym (lines_with_in_order k (map (line_of key line) xs)))
