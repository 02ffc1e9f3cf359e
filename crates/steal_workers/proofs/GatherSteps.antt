-- Gathering, step by step.
use Rattle.std.proofs.Common.{◌≡◌, ℕ, zero, suc, ◌+◌, ◌<◌, ◌==◌, Bool, true, false, List, [], ◌∷◌, ◌++◌, map, length, get_or, set, sym, refl, ap, ◌∙◌, subst, length-append, arith}
use mathlib.Core.Option.{some}
use lib.ListN.{get_elem?}
use Rattle.std.proofs.lemmas.List.{length-map, get_or_append_left, get_or_push, get_or_default}
use Rattle.crossbeam_deque.proofs.Lists.{at_index}
use Rattle.steal_workers.specs.declared.item.Item.{Item}
use Rattle.steal_workers.specs.declared.share.Share.{Share}
use Rattle.steal_workers.specs.declared.seat.Stack.{Stack}
use Rattle.list_weights.specs.Weights.{weigh, only}
use Rattle.steal_workers.specs.inside.Handles.{is_own}
use Rattle.steal_workers.specs.Deals.{Deal}
use Rattle.steal_workers.specs.inside.Backs.{own_weight}
use Rattle.steal_workers.specs.Gathers.{joined, IsShareAt, IsStack, PopsEach, share_taken, stack_taken, all_taken, places}
use Rattle.list_weights.proofs.Weights.{weigh_append, weigh_set}

module _ {X : Type 0} where
  -- weights of lists that are alike, member by member
  pub weigh_alike : {Y : Type 0} (f : X → ℕ) (g : Y → ℕ) (xs : List X) (ys : List Y) → length xs ≡ length ys → ((i : ℕ) (e : X) (k : Y) → i < length xs → f (get_or xs i e) ≡ g (get_or ys i k)) → weigh f xs ≡ weigh g ys
  weigh_alike f g [] [] long alike = refl
  weigh_alike f g [] (y ∷ ys) long alike = absurd (omega arith)
  weigh_alike f g (x ∷ xs) [] long alike = absurd (omega arith)
  weigh_alike f g (x ∷ xs) (y ∷ ys) long alike =
      let here = alike 0 x y (omega arith) in
      let rest = weigh_alike f g xs ys (omega arith) (λ i e k w. alike (suc i) e k (omega arith)) in
      omega arith

pub weigh_joined : {X : Type 0} (h : X → ℕ) (xss : List (List X)) → weigh h (joined xss) ≡ weigh (weigh h) xss
weigh_joined h [] = refl
weigh_joined h (xs ∷ rest) = omega (arith, weigh_append h xs (joined rest), weigh_joined h rest)

pub weigh_map : {X Y : Type 0} (f : X → Y) (h : Y → ℕ) (xs : List X) → weigh h (map f xs) ≡ weigh (λ x. h (f x)) xs
weigh_map f h [] = refl
weigh_map f h (x ∷ xs) = omega (arith, weigh_map f h xs)

not_own : (b : Bool) → only b 1 ≡ 0 → b ≡ false
not_own true e = absurd (omega arith)
not_own false e = refl

module _ {T : Type 0} where
  -- a column has an owner
  pub no_owner : (column : List (Share T)) → ((k : ℕ) (e : Share T) → k < length column → is_own (get_or column k e).handle ≡ false) → weigh own_weight column ≡ 0
  no_owner [] none = refl
  no_owner (x ∷ xs) none =
      let here : own_weight x ≡ 0 = ap (λ b. only b 1) (none 0 x (omega arith)) in
      omega (arith, no_owner xs (λ k e w. none (suc k) e (omega arith)))

  -- once the owner's share is out, the others are not owners'
  pub others : (column : List (Share T)) → weigh own_weight column ≡ 0 → (k : ℕ) (e : Share T) → k < length column → is_own (get_or column k e).handle ≡ false
  others [] none k e w = absurd (omega arith)
  others (x ∷ xs) none zero e w = not_own (is_own x.handle) (omega arith)
  others (x ∷ xs) none (suc k) e w = others xs (omega arith) k e (omega arith)

  -- one stack gives its last share
  pub stack_front : (P : Type 0) (deal : Deal T) (d : ℕ) (old new : Stack T) (share : Share T) → IsStack P deal (d + 1) old → old.shares.items ≡ new.shares.items ++ share ∷ [] → new.place ≡ old.place → IsStack P deal d new
  stack_front P deal d old new share h is place =
      let long = ap length is in
      let count = h.count in
      record {
        count = omega (arith, length-append new.shares.items (share ∷ []));
        each = λ k e w. subst (λ (p : ℕ × Share T). IsShareAt P deal k p.0 p.1)
            (λ i. (sym place i, (ap (λ (l : List (Share T)). get_or l k e) is ∙ get_or_append_left new.shares.items (share ∷ []) e k w) i))
            (h.each k e (omega (arith, length-append new.shares.items (share ∷ []))));
      }

  pub stack_top : (P : Type 0) (deal : Deal T) (d : ℕ) (old new : Stack T) (share : Share T) → IsStack P deal (d + 1) old → old.shares.items ≡ new.shares.items ++ share ∷ [] → IsShareAt P deal d old.place share
  stack_top P deal d old new share h is =
      let long = ap length is in
      let count = h.count in
      let here : length new.shares.items ≡ d = omega (arith, length-append new.shares.items (share ∷ [])) in
      subst (λ (p : ℕ × Share T). IsShareAt P deal p.0 old.place p.1)
      (λ i. (here i, (ap (λ (l : List (Share T)). get_or l (length new.shares.items) share) is ∙ get_or_push new.shares.items share share (length new.shares.items) refl) i))
      (h.each (length new.shares.items) share (omega arith))

  pub stack_taken_less : (h : Item T → ℕ) (old new : Stack T) (share : Share T) → old.shares.items ≡ new.shares.items ++ share ∷ [] → stack_taken h old ≡ stack_taken h new + share_taken h share
  stack_taken_less h old new share is =
      let e : stack_taken h old ≡ weigh (share_taken h) (new.shares.items ++ share ∷ []) = ap (weigh (share_taken h)) is in
      omega (arith, weigh_append (share_taken h) new.shares.items (share ∷ []))

  pub all_taken_less : (h : Item T → ℕ) (stacks : List (Stack T)) (s : ℕ) (e new : Stack T) (share : Share T) → s < length stacks → (get_or stacks s e).shares.items ≡ new.shares.items ++ share ∷ []
      → all_taken h (set stacks s new) + share_taken h share ≡ all_taken h stacks
  all_taken_less h stacks s e new share within is =
      let old : Stack T = get_or stacks s e in
      let there : get_elem? stacks s ≡ some old = at_index stacks s old within (get_or_default stacks s e old within) in
      let change = weigh_set (stack_taken h) stacks s old new there in
      let less = stack_taken_less h old new share is in
      omega arith

  -- the column of one deque has one owner
  pub one_owner : (P : Type 0) (deal : Deal T) (d n : ℕ) (old new : List (Stack T)) (column : List (Share T)) → PopsEach P deal d old new column → d < n → weigh (λ p. only (d == p) 1) (places old) ≡ 1
      → weigh own_weight column ≡ 1
  one_owner P deal d n old new column popped within once =
      weigh_alike own_weight (λ p. only (d == p) 1) column (places old) (popped.count ∙ sym (length-map old (λ (stack : Stack T). stack.place)))
      (λ i e k w. ap (λ b. only b 1) ((popped.tops i e w).3) ∙ ap (λ p. only (d == p) 1) (number (places old) i k (let c = popped.count in omega (arith, length-map old (λ (stack : Stack T). stack.place))))) ∙ once
    where
      number : (xs : List ℕ) (i k : ℕ) → i < length xs → get_or xs i 0 ≡ get_or xs i k
      number [] i k w = absurd (omega arith)
      number (x ∷ xs) zero k w = refl
      number (x ∷ xs) (suc i) k w = number xs i k (omega arith)
