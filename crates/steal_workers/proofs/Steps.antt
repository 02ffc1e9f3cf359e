-- Each step on a deque keeps its rule.
use Rattle.std.proofs.Common.{◌≡◌, ◌≢◌, ℕ, zero, suc, ◌+◌, ◌<◌, ◌≤◌, true, false, true≢false, List, [], ◌∷◌, ◌++◌, length, set, sym, refl, ap, ◌∙◌, subst, ⊎_elim, append_assoc, append-nil, arith}
use mathlib.Core.Option.{some, some-injective, some-ne-none}
use lib.ListN.{get_elem?}
use Rattle.crossbeam_deque.specs.Tasks.{Pushes, Takes, Finds, FindsFew, Forks, Merges}
use Rattle.crossbeam_deque.proofs.Lists.{at_set, at_snoc, at_longer}
use Rattle.steal_workers.specs.declared.item.Item.{Item}
use Rattle.steal_workers.specs.declared.item.Item.TheVariants.{Task, Mark}
use Rattle.steal_workers.specs.declared.hand.Hand.{Hand}
use Rattle.list_weights.specs.Weights.{weigh}
use Rattle.steal_workers.specs.inside.Items.{marks, mark_weight, IsAllMarks, MarksLast}
use Rattle.steal_workers.specs.OneDeque.{hand, Fits, IsOneDeque, after_push, after_take, less_one_share, one_share, taken_back, Took}
use Rattle.list_weights.proofs.Weights.{weigh_append, weigh_set, weigh_part, weigh_two, weigh_alone}
use Rattle.steal_workers.proofs.Weights.{weigh_level, at_behind}

module _ {T : Type 0} where
  abbrev Each : (ℕ → Hand T → Type 0) → List (Hand T) → Type 0
  Each F views = (port : ℕ) (v : Hand T) → get_elem? views port ≡ some v → F port v

  each_set : (F : ℕ → Hand T → Type 0) (views : List (Hand T)) (port : ℕ) (w : Hand T) → F port w → ((j : ℕ) (u : Hand T) → j ≢ port → get_elem? views j ≡ some u → F j u) → Each F (set views port w)
  each_set F views port w mine others j u e = ⊎_elim (λ (x : (j ≡ port) × (w ≡ u)). subst (λ (y : ℕ × Hand T). F y.0 y.1) (λ i. (sym x.0 i, x.1 i)) mine)
      (λ (x : (j ≢ port) × (get_elem? views j ≡ some u)). others j u x.0 x.1) (at_set views port j w u e)

  share : Hand T → ℕ
  share v = v.share

  pub marks_append : (xs ys : List (Item T)) → marks (xs ++ ys) ≡ marks xs + marks ys
  marks_append xs ys = weigh_append mark_weight xs ys

  marks_le_length : (xs : List (Item T)) → marks xs ≤ length xs
  marks_le_length [] = omega arith
  marks_le_length (Task k t ∷ xs) = omega (arith, marks_le_length xs)
  marks_le_length (Mark ∷ xs) = omega (arith, marks_le_length xs)

  IsAllMarks_behind : (xs ys : List (Item T)) → IsAllMarks (xs ++ ys) → IsAllMarks ys
  IsAllMarks_behind [] ys h = h
  IsAllMarks_behind (x ∷ xs) ys h = IsAllMarks_behind xs ys h.1

  IsAllMarks_at : (xs : List (Item T)) (i : ℕ) (x : Item T) → IsAllMarks xs → get_elem? xs i ≡ some x → x ≡ Mark
  IsAllMarks_at [] i x h e = absurd (some-ne-none x (sym e))
  IsAllMarks_at (y ∷ ys) zero x h e = sym (some-injective y x e) ∙ h.0
  IsAllMarks_at (y ∷ ys) (suc i) x h e = IsAllMarks_at ys i x h.1 e

  marks_behind : (xs ys : List (Item T)) → MarksLast (xs ++ ys) → 0 < marks xs → IsAllMarks ys
  marks_behind [] ys h some_mark = absurd (omega arith)
  marks_behind (Task k t ∷ xs) ys h some_mark = marks_behind xs ys h (omega arith)
  marks_behind (Mark ∷ xs) ys h some_mark = IsAllMarks_behind xs ys h

  pub begins : IsOneDeque {T = T} [] (hand true 0 [] [] ∷ [])
  begins = (
    0,
    [],
    [],
    refl,
    refl,
    (λ h. refl),
    each_set (Fits 0 []) (hand true 0 [] [] ∷ []) 0 (hand true 0 [] [])
        (record { deals = λ _. (refl, refl); knows = λ _. refl; idle = λ _. refl; within = omega arith })
        (λ j u other e. absurd (only j u other e)),
  )
    where
      only : (j : ℕ) (u : Hand T) → j ≢ 0 → get_elem? (hand true 0 [] [] ∷ []) j ≡ some u → ⊥
      only zero u other e = other refl
      only (suc j) u other e = some-ne-none u (sym e)

  pub pushes : (port : ℕ) (v : Hand T) (x : Item T) → v.deals ≡ true → v.share ≡ marks v.dealt → Pushes IsOneDeque port v (x ∷ []) (λ w. w ≡ after_push v (x ∷ []))
  pushes port v x deals all items views h at =
      let w : Hand T = after_push v (x ∷ []) in
      let mine = h.6 port v at in
      let known : v.dealt ≡ h.2 = (mine.deals deals).1 in
      let same : marks v.dealt ≡ marks h.2 = ap marks known in
      let total : weigh (λ (u : Hand T). u.share) views ≡ marks h.2 = h.4 in
      let here = weigh_set (λ (u : Hand T). u.share) views port v w at in
      let more = marks_append h.2 (x ∷ []) in (
        w,
        (
          h.0,
          h.1,
          h.2 ++ x ∷ [],
          ap (λ l. l ++ x ∷ []) h.3 ∙ append_assoc h.1 items (x ∷ []),
          omega arith,
          (λ g. let once = h.5 g in let s = weigh_set (λ (u : Hand T). weigh g u.taken) views port v w at in omega arith),
          each_set (Fits h.0 (h.2 ++ x ∷ [])) views port w
              (record {
                deals = λ _. ((mine.deals deals).0, ap (λ l. l ++ x ∷ []) known);
                knows = λ _. ap (λ l. l ++ x ∷ []) known;
                idle = λ none. mine.idle (omega arith);
                within = let within = mine.within in omega arith;
              })
              (λ j u other e. let theirs = h.6 j u e in let two = weigh_two (λ (u : Hand T). u.share) views port j v u other at e in record {
                deals = λ p. absurd (other ((theirs.deals p).0 ∙ sym (mine.deals deals).0));
                knows = λ p. absurd (omega arith);
                idle = theirs.idle;
                within = theirs.within;
              }),
        ),
        refl,
      )

  -- an item leaves to a pass that has a share, and room for the marks
  takes_if : (port : ℕ) (v : Hand T) (xs items : List (Item T)) (views : List (Hand T)) → 0 < v.share → marks (v.taken ++ xs) ≤ v.share
      → IsOneDeque (xs ++ items) views → get_elem? views port ≡ some v → (w : Hand T) × IsOneDeque items (set views port w) × Took v xs w
  takes_if port v xs items views some_share room h at =
      let w : Hand T = after_take v xs in
      let mine = h.6 port v at in
      let known : v.dealt ≡ h.2 = mine.knows some_share in
      let here = weigh_set (λ (u : Hand T). u.share) views port v w at in
      let total : weigh (λ (u : Hand T). u.share) views ≡ marks h.2 = h.4 in
      let part = weigh_part (λ (u : Hand T). marks u.taken) views port v at in
      let all = h.5 mark_weight in (
        w,
        (
          h.0,
          h.1 ++ xs,
          h.2,
          h.3 ∙ sym (append_assoc h.1 xs items),
          omega arith,
          (λ g. let once = h.5 g in let s = weigh_set (λ (u : Hand T). weigh g u.taken) views port v w at in
              let a = weigh_append g v.taken xs in let b = weigh_append g h.1 xs in omega arith),
          each_set (Fits h.0 h.2) views port w (record { deals = mine.deals; knows = mine.knows; idle = λ none. absurd (omega arith); within = room })
              (λ j u other e. h.6 j u e),
        ),
        (
          refl,
          (λ item s. (length h.1 + s.0, subst (λ (l : List (Item T)). get_elem? l (length h.1 + s.0) ≡ some item) (sym (known ∙ h.3)) (at_behind h.1 (xs ++ items) s.0 item (at_longer xs items s.0 item s.1)))),
          (λ item s last some_mark. IsAllMarks_at (xs ++ items) s.0 item
              (marks_behind h.1 (xs ++ items) (subst MarksLast (known ∙ h.3) last) (let p : marks v.taken ≤ weigh (λ (u : Hand T). marks u.taken) views = part in omega arith))
              (at_longer xs items s.0 item s.1)),
          (λ g.
              let once = h.5 g in
              let taken = weigh_part (λ (u : Hand T). weigh g u.taken) views port v at in
              let cut : weigh g v.dealt ≡ weigh g (h.1 ++ (xs ++ items)) = ap (weigh g) (known ∙ h.3) in
              omega (arith, weigh_append g v.taken xs, weigh_append g h.1 (xs ++ items), weigh_append g xs items)),
        ),
      )

  pub takes : (port : ℕ) (v : Hand T) → marks v.taken < v.share → Takes IsOneDeque port v 1 (Took v)
  takes port v lacks xs items views nonempty short h at =
      takes_if port v xs items views (omega arith) (omega (arith, marks_append v.taken xs, marks_le_length xs)) h at

  -- who has all shares has taken all that is out
  all_out : (port : ℕ) (v : Hand T) (items : List (Item T)) (views : List (Hand T)) → v.deals ≡ true → v.share ≡ marks v.dealt
      → (h : IsOneDeque items views) → get_elem? views port ≡ some v → (g : Item T → ℕ) → weigh g v.taken ≡ weigh g h.1
  all_out port v items views deals all h at g =
      let known : v.dealt ≡ h.2 = ((h.6 port v at).deals deals).1 in
      let same : marks v.dealt ≡ marks h.2 = ap marks known in
      let total : weigh (λ (u : Hand T). u.share) views ≡ marks h.2 = h.4 in
      sym (weigh_alone (λ (u : Hand T). weigh g u.taken) (λ (u : Hand T). u.share) views port v at (omega arith) (λ j u e none. ap (weigh g) ((h.6 j u e).idle none))) ∙ h.5 g

  pub takes_back : (port : ℕ) (v : Hand T) → v.deals ≡ true → v.share ≡ marks v.dealt → 0 < v.share → Takes IsOneDeque port v 1 (Took v)
  takes_back port v deals all some_share xs items views nonempty short h at =
      let known : v.dealt ≡ h.2 = ((h.6 port v at).deals deals).1 in
      let same : marks v.dealt ≡ marks h.2 = ap marks known in
      let cut : marks h.2 ≡ marks (h.1 ++ (xs ++ items)) = ap marks h.3 in
      let out = all_out port v (xs ++ items) views deals all h at mark_weight in
      takes_if port v xs items views some_share (omega (arith, marks_append v.taken xs, marks_append h.1 (xs ++ items), marks_append xs items)) h at

  pub finds : (port : ℕ) (v : Hand T) → Finds IsOneDeque port v (v.share ≤ marks v.taken)
  finds port v views h at =
      let cut : marks h.2 ≡ marks (h.1 ++ []) = ap marks h.3 in
      let out = h.5 mark_weight in
      let total : weigh (λ (u : Hand T). u.share) views ≡ marks h.2 = h.4 in
      weigh_level (λ (u : Hand T). marks u.taken) (λ (u : Hand T). u.share) views port v at (omega (arith, marks_append h.1 [])) (λ j u e. (h.6 j u e).within)

  pub finds_few : (port : ℕ) (v : Hand T) → FindsFew IsOneDeque 0 port v (v.share ≤ marks v.taken)
  finds_few port v [] views few h at = finds port v views h at
  finds_few port v (x ∷ items) views few h at = absurd (omega arith)

  pub finds_all : (port : ℕ) (v : Hand T) → v.deals ≡ true → v.share ≡ marks v.dealt → Finds IsOneDeque port v ((g : Item T → ℕ) → weigh g v.taken ≡ weigh g v.dealt)
  finds_all port v deals all views h at g =
      let known : v.dealt ≡ h.2 = ((h.6 port v at).deals deals).1 in
      all_out port v [] views deals all h at g ∙ ap (weigh g) (sym (known ∙ h.3 ∙ append-nil h.1))

  pub forks : (port : ℕ) (v : Hand T) → v.deals ≡ true → v.taken ≡ [] → 0 < v.share → Forks IsOneDeque port v (less_one_share v) (one_share v)
  forks port v deals fresh some_share items views h at =
      let l : Hand T = less_one_share v in
      let r : Hand T = one_share v in
      let mine = h.6 port v at in
      let known : v.dealt ≡ h.2 = (mine.deals deals).1 in
      let vs : List (Hand T) = set views port l in
      let here = weigh_set (λ (u : Hand T). u.share) views port v l at in
      let more = weigh_append (λ (u : Hand T). u.share) vs (r ∷ []) in
      let total : weigh (λ (u : Hand T). u.share) views ≡ marks h.2 = h.4 in
      let none : marks v.taken ≡ 0 = ap marks fresh in
      let old : Each (Fits h.0 h.2) vs = each_set (Fits h.0 h.2) views port l
      (record { deals = mine.deals; knows = λ _. known; idle = λ _. fresh; within = omega arith })
      (λ j u other e. h.6 j u e) in (
        h.0,
        h.1,
        h.2,
        h.3,
        omega arith,
        (λ g. let once = h.5 g in let s = weigh_set (λ (u : Hand T). weigh g u.taken) views port v l at in
            let a = weigh_append (λ (u : Hand T). weigh g u.taken) vs (r ∷ []) in omega arith),
        λ j u e. ⊎_elim (λ (x : get_elem? vs j ≡ some u). old j u x)
            (λ (is : r ≡ u). subst (Fits h.0 h.2 j) is (record { deals = λ p. absurd (true≢false (sym p)); knows = λ _. known; idle = λ p. absurd (omega arith); within = omega arith }))
            (at_snoc vs r u j e),
      )

  pub merges : (port : ℕ) (v : Hand T) (other : ℕ) (u : Hand T) → v.deals ≡ true → Merges IsOneDeque port v other u (taken_back v u) (hand false 0 [] [])
  merges port v other u deals items views h at two at' =
      let both : Hand T = taken_back v u in
      let spent : Hand T = hand false 0 [] [] in
      let mine = h.6 port v at in
      let known : v.dealt ≡ h.2 = (mine.deals deals).1 in
      let vs : List (Hand T) = set views port both in
      let was : get_elem? views other ≡ some u = ⊎_elim (λ (x : (other ≡ port) × (both ≡ u)). absurd (two x.0)) (λ (x : (other ≢ port) × (get_elem? views other ≡ some u)). x.1) (at_set views port other both u at') in
      let theirs = h.6 other u was in
      let total : weigh (λ (u : Hand T). u.share) views ≡ marks h.2 = h.4 in
      let a = weigh_set (λ (u : Hand T). u.share) views port v both at in
      let b = weigh_set (λ (u : Hand T). u.share) vs other u spent at' in
      let within = mine.within in
      let within' = theirs.within in (
        h.0,
        h.1,
        h.2,
        h.3,
        omega arith,
        (λ g. let once = h.5 g in
            let s = weigh_set (λ (u : Hand T). weigh g u.taken) views port v both at in
            let t = weigh_set (λ (u : Hand T). weigh g u.taken) vs other u spent at' in
            let p = weigh_append g v.taken u.taken in omega arith),
        each_set (Fits h.0 h.2) vs other spent (record { deals = λ p. absurd (true≢false (sym p)); knows = λ p. absurd (omega arith); idle = λ _. refl; within = omega arith })
            (λ j y apart e. each_set (Fits h.0 h.2) views port both
            (record {
              deals = mine.deals;
              knows = λ _. known;
              idle = λ none. ap (λ l. l ++ u.taken) (mine.idle (omega arith)) ∙ theirs.idle (omega arith);
              within = omega (arith, marks_append v.taken u.taken);
            })
            (λ k z _ f. h.6 k z f) j y e),
      )
