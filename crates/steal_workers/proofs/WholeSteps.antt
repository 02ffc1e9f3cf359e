-- The shares of one deque, taken back into the owner's.
use Rattle.std.proofs.Common.{◌≡◌, ℕ, ◌+◌, ◌<◌, true, false, List, ◌∷◌, length, get_or, All, sym, ap, ◌∙◌, subst, arith}
use Rattle.std.specs.List.{swap_remove}
use Rattle.std.specs.List.Sorted.{IsPermutation}
use Rattle.std.proofs.lemmas.List.Sorted.{IsPermutation-swap_remove, length_permutation, All-permutation}
use Rattle.std.proofs.lemmas.List.Elements.{All-tail}
use Rattle.steal_workers.specs.declared.item.Item.{Item}
use Rattle.steal_workers.specs.declared.hand.Hand.{Hand}
use Rattle.steal_workers.specs.declared.share.Share.{Share}
use Rattle.list_weights.specs.Weights.{weigh, only}
use Rattle.steal_workers.specs.inside.Handles.{deque_of, hand_of, is_own}
use Rattle.steal_workers.specs.inside.Shares.{IsShare, dealt_to, taken_from}
use Rattle.steal_workers.specs.inside.Backs.{own_weight, IsWholeColumn, IsBack}
use Rattle.steal_workers.specs.Gathers.{share_taken}
use Rattle.list_weights.proofs.Permutations.{weigh_permutation}
use Rattle.steal_workers.proofs.GatherSteps.{others}

module _ {T : Type 0} where
  -- the owner's share x is out of the column xs, and the rest are others'
  pub record IsOwnerOut (xs rest : List (Share T)) (x : Share T) : Type 0 where
    pub sound : IsShare x
    pub others_left : All (λ (s : Share T). IsShare s × (deque_of s.handle ≡ deque_of x.handle) × (is_own s.handle ≡ false)) rest
    pub taken : (h : Item T → ℕ) → weigh (share_taken h) rest + share_taken h x ≡ weigh (share_taken h) xs
    pub count : length rest + 1 ≡ length xs
    pub dealt : (items : List (Item T)) → All (λ (s : Share T). dealt_to s ≡ items) xs → dealt_to x ≡ items

  pub owner_out : (xs rest : List (Share T)) (x : Share T) (place : ℕ) → IsWholeColumn xs → weigh own_weight xs ≡ 1 → place < length xs → x ≡ get_or xs place x → is_own x.handle ≡ true → rest ≡ swap_remove xs place x
      → IsOwnerOut xs rest x
  owner_out xs rest x place whole one within is own removed =
      let moved : IsPermutation xs (x ∷ rest) = subst (λ (l : List (Share T)). IsPermutation xs (x ∷ l)) (sym removed) (IsPermutation-swap_remove xs place x within is) in
      let mine : own_weight x ≡ 1 = ap (λ b. only b 1) own in
      let all = weigh_permutation own_weight xs (x ∷ rest) moved in
      let here = whole.2 place x within in
      let same : deque_of x.handle ≡ whole.0 = ap (λ (s : Share T). deque_of s.handle) is ∙ here.1 in
      let each = All-tail (λ (s : Share T). IsShare s × (deque_of s.handle ≡ whole.0) × (dealt_to s ≡ whole.1)) x rest
      (All-permutation (λ (s : Share T). IsShare s × (deque_of s.handle ≡ whole.0) × (dealt_to s ≡ whole.1)) xs (x ∷ rest) moved whole.2) in
      record {
        sound = subst IsShare (sym is) here.0;
        others_left = λ k e w. ((each k e w).0, (each k e w).1 ∙ sym same, others rest (omega arith) k e w);
        taken = λ h. (let m = weigh_permutation (share_taken h) xs (x ∷ rest) moved in omega arith);
        count = (let l = length_permutation xs (x ∷ rest) moved in omega arith);
        dealt = λ items h. ap dealt_to is ∙ h place x within;
      }

  -- where all are taken back
  pub all_back : (xs rest : List (Share T)) (x : Share T) (first last : Hand T) → IsOwnerOut xs rest x → first ≡ hand_of x.handle → last.deals ≡ true → last.dealt ≡ first.dealt → last.share ≡ first.share + length rest
      → ((h : Item T → ℕ) → weigh h last.taken ≡ weigh h first.taken + weigh (share_taken h) rest) → IsBack xs last
  all_back xs rest x first last out is deals dealt share taken = record {
    deals = deals;
    share = (let one : first.share ≡ 1 = ap (λ (v : Hand T). v.share) is ∙ out.sound.1 in let c = out.count in omega arith);
    dealt = λ items h. dealt ∙ ap (λ (v : Hand T). v.dealt) is ∙ out.dealt items h;
    taken = λ h. (let t = taken h in let o = out.taken h in let f : weigh h first.taken ≡ weigh h (taken_from x) = ap (λ (v : Hand T). weigh h v.taken) is in omega arith);
  }
