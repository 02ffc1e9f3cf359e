-- Lists whose elements stand for those of another one.
use Rattle.std.proofs.Common.{◌≡◌, ◌≢◌, ℕ, zero, suc, ◌+◌, ◌<◌, ◌≤◌, ⊎_elim, Bool, true, false, ◌&&◌, List, [], ◌∷◌, ◌++◌, length, get_or, map, flat_map, Option, Some, None, option_map, slice_get, slice_set, cond, nat_lt, refl, sym, ap, subst, ◌∙◌, arith, rules, IsPermutation}
use Rattle.std.specs.Prelude.{if◌then◌else◌, position}
use Rattle.std.specs.List.{list_all}
use Rattle.std.proofs.lemmas.Bool.{cases_eq}
use Rattle.std.proofs.lemmas.List.Sorted.{IsPermutation-refl, IsPermutation-append}
use Rattle.world_order.specs.Round.{Member}
use Rattle.world_order.specs.Steps.{is_held, held}
use Rattle.world_order.proofs.Homes.{some_is, get_set_same, get_set_other, get_below, below_get}
use Rattle.round_schedule.specs.Standing.{EachStands}

-- an element that is there, by the list's accessor
pub get_at : {X : Type 0} (xs : List X) (i : ℕ) (x : X) → i < length xs → x ≡ get_or xs i x → slice_get xs i ≡ Some x
get_at [] i x below is = absurd (omega arith)
get_at (y ∷ xs) zero x below is = ap Some (sym is)
get_at (y ∷ xs) (suc i) x below is = get_at xs i x (omega arith) is

pub length-set : {X : Type 0} (xs : List X) (i : ℕ) (x : X) → length (slice_set xs i x) ≡ length xs
length-set [] i x = refl
length-set (y ∷ xs) zero x = refl
length-set (y ∷ xs) (suc i) x = ap suc (length-set xs i x)

module _ {C X : Type 0} (R : ℕ → C → X → Type 0) (cs : List C) (xs : List X) (pairs : EachStands R cs xs) (i : ℕ) where
  -- the one that stands for an element
  pub pair_of : (x : X) → slice_get xs i ≡ Some x → (c : C) × (slice_get cs i ≡ Some c) × R i c x
  pair_of x at =
      let below = below_get xs i x at in
      let count = pairs.count in
      let (c, here) = get_below cs i (omega arith) in
      (c, here, pairs.each i c x here at)

  -- the element that one stands for
  pub pair_back : (c : C) → slice_get cs i ≡ Some c → (x : X) × (slice_get xs i ≡ Some x) × R i c x
  pair_back c at =
      let below = below_get cs i c at in
      let count = pairs.count in
      let (x, here) = get_below xs i (omega arith) in
      (x, here, pairs.each i c x at here)

  -- one changes, and with it the one that it stands for
  pub pair_set : (c d : C) (x y : X) → slice_get cs i ≡ Some c → slice_get xs i ≡ Some x → R i d y → EachStands R (slice_set cs i d) (slice_set xs i y)
  pair_set c d x y at there new = record {
    count = length-set cs i d ∙ pairs.count ∙ sym (length-set xs i y);
    each = λ j e z in_cs in_xs. ⊎_elim
        (λ (same : j ≡ i).
        let d_is : d ≡ e = some_is d e (sym (ap (slice_get (slice_set cs i d)) same ∙ get_set_same cs i c d at) ∙ in_cs) in
        let y_is : y ≡ z = some_is y z (sym (ap (slice_get (slice_set xs i y)) same ∙ get_set_same xs i x y there) ∙ in_xs) in
        subst (λ (k : ℕ). R k e z) (sym same) (subst (λ (f : C). R i f z) d_is (subst (λ (v : X). R i d v) y_is new)))
        (λ (other : j ≢ i). pairs.each j e z (sym (get_set_other cs i j d other) ∙ in_cs) (sym (get_set_other xs i j y other) ∙ in_xs))
        (cases_eq j i);
  }

-- the first element and the others
module _ {C X : Type 0} (R : ℕ → C → X → Type 0) (c : C) (x : X) (cs : List C) (xs : List X) where
  pub pair_first : EachStands R (c ∷ cs) (x ∷ xs) → R 0 c x
  pair_first pairs = pairs.each 0 c x refl refl

  pub pair_rest : EachStands R (c ∷ cs) (x ∷ xs) → EachStands (λ i. R (suc i)) cs xs
  pair_rest pairs = record { count = (let count = pairs.count in omega arith); each = λ i d y at there. pairs.each (suc i) d y at there }

pub pair_weaker : {C X : Type 0} (R S : ℕ → C → X → Type 0) (cs : List C) (xs : List X) → ((i : ℕ) (c : C) (x : X) → R i c x → S i c x) → EachStands R cs xs → EachStands S cs xs
pair_weaker R S cs xs more pairs = record { count = pairs.count; each = λ i c x at there. more i c x (pairs.each i c x at there) }

-- ---- the host in a worker's hand

module _ {C : Type 0} (p : C → Bool) where
  first_by : (c : C) (cs : List C) (b : Bool) → p c ≡ b → position p (c ∷ cs) ≡ (if b then Some 0 else option_map suc (position p cs))
  first_by c cs true is = search (rules)
  first_by c cs false is = search (rules)

  -- where an element is found
  pub position_cons : (c : C) (cs : List C) → position p (c ∷ cs) ≡ (if p c then Some 0 else option_map suc (position p cs))
  position_cons c cs = first_by c cs (p c) refl

module _ {C H : Type 0} (w : ℕ) (p : C → Bool) where
  -- the host in a worker's hand, found by one that tells each
  pub held_position : (cs : List C) (xs : List (Member H)) → EachStands (λ i (c : C) (x : Member H). p c ≡ is_held w x.stage) cs xs → position p cs ≡ held w xs
  held_position [] [] pairs = refl
  held_position [] (x ∷ xs) pairs = absurd (let count = pairs.count in omega arith)
  held_position (c ∷ cs) [] pairs = absurd (let count = pairs.count in omega arith)
  held_position (c ∷ cs) (x ∷ xs) pairs =
      position_cons p c cs
      ∙ ap (λ (o : Option ℕ). if p c then Some 0 else option_map suc o) (held_position cs xs (pair_rest (λ i (c : C) (x : Member H). p c ≡ is_held w x.stage) c x cs xs pairs))
      ∙ ap (λ (b : Bool). if b then Some 0 else option_map suc (held w xs)) (pair_first (λ i (c : C) (x : Member H). p c ≡ is_held w x.stage) c x cs xs pairs)

-- tests that agree on each element agree on all
pub all-same : {C X : Type 0} (p : C → Bool) (q : X → Bool) (cs : List C) (xs : List X) → EachStands (λ i (c : C) (x : X). p c ≡ q x) cs xs → list_all p cs ≡ list_all q xs
all-same p q [] [] pairs = refl
all-same p q [] (x ∷ xs) pairs = absurd (let count = pairs.count in omega arith)
all-same p q (c ∷ cs) [] pairs = absurd (let count = pairs.count in omega arith)
all-same p q (c ∷ cs) (x ∷ xs) pairs =
    ap (λ (b : Bool). b && list_all p cs) (pair_first (λ i (c : _) (x : _). p c ≡ q x) c x cs xs pairs)
    ∙ ap (λ (b : Bool). q x && b) (all-same p q cs xs (pair_rest (λ i (c : _) (x : _). p c ≡ q x) c x cs xs pairs))

-- what all have in another order
pub flat_map_order : {C X Y : Type 0} (f : C → List Y) (g : X → List Y) (cs : List C) (xs : List X) → EachStands (λ i (c : C) (x : X). IsPermutation (f c) (g x)) cs xs
    → IsPermutation (flat_map f cs) (flat_map g xs)
flat_map_order f g [] [] pairs = IsPermutation-refl []
flat_map_order f g [] (x ∷ xs) pairs = absurd (let count = pairs.count in omega arith)
flat_map_order f g (c ∷ cs) [] pairs = absurd (let count = pairs.count in omega arith)
flat_map_order f g (c ∷ cs) (x ∷ xs) pairs =
    IsPermutation-append (f c) (g x) (flat_map f cs) (flat_map g xs) (pair_first (λ i (c : _) (x : _). IsPermutation (f c) (g x)) c x cs xs pairs)
    (flat_map_order f g cs xs (pair_rest (λ i (c : _) (x : _). IsPermutation (f c) (g x)) c x cs xs pairs))
