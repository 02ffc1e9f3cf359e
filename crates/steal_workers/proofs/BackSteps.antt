-- Taking back what is left of a deque.
use Rattle.std.proofs.Common.{◌≡◌, ℕ, ◌+◌, ◌<◌, ◌≤◌, List, [], ◌∷◌, ◌++◌, length, All, sym, refl, ap, ◌∙◌, subst, append_assoc, length-append, arith}
use Rattle.std.proofs.lemmas.List.{length-map, map-append}
use Rattle.std.proofs.lemmas.List.Elements.{All-nil, All-cons, All-append}
use Rattle.steal_workers.specs.declared.item.Item.{Item}
use Rattle.steal_workers.specs.declared.item.Item.TheVariants.{Task, Mark}
use Rattle.steal_workers.specs.declared.item.Numbered.{Numbered}
use Rattle.steal_workers.specs.declared.hand.Hand.{Hand}
use Rattle.list_weights.specs.Weights.{weigh}
use Rattle.steal_workers.specs.inside.Items.{marks, number_weight, Stands, MarksLast}
use Rattle.steal_workers.specs.OneDeque.{hand, after_take, Took}
use Rattle.steal_workers.specs.inside.TookBack.{kept, numbers_of}
use Rattle.list_weights.proofs.Weights.{weigh_append, weigh_ones}
use Rattle.steal_workers.proofs.Steps.{marks_append}

module _ {T : Type 0} where
  -- what was taken since v0, into a list that began as old
  abbrev pub More : Hand T → Hand T → List (Numbered T) → List (Numbered T) → Type 0
  More v0 v old now =
      (more : List (Numbered T)) × (now ≡ old ++ more)
      × ((h : ℕ → ℕ) → weigh (number_weight h) v0.taken + weigh h (numbers_of more) ≡ weigh (number_weight h) v.taken)
      × All (λ (entry : Numbered T). Stands v0.dealt (Task entry.number entry.task)) more
      × (0 < marks v0.taken → (0 < marks v.taken) × (more ≡ []))

  abbrev pub IsSince : Hand T → Hand T → Type 0
  IsSince v0 v = v ≡ hand v0.deals v0.share v0.dealt v.taken

  pub since_take : (v0 v w : Hand T) (item : Item T) → IsSince v0 v → w ≡ after_take v (item ∷ []) → IsSince v0 w
  since_take v0 v w item is p =
      let q : after_take v (item ∷ []) ≡ hand v0.deals v0.share v0.dealt (v.taken ++ item ∷ []) = (λ i. hand (is i).deals (is i).share (is i).dealt (v.taken ++ item ∷ [])) in
      p ∙ q ∙ ap (λ t. hand v0.deals v0.share v0.dealt t) (sym (ap (λ (u : Hand T). u.taken) p))

  kept_weight : (h : ℕ → ℕ) (item : Item T) → weigh h (numbers_of (kept item)) ≡ number_weight h item
  kept_weight h (Task number task) = omega arith
  kept_weight h Mark = refl

  kept_stands : (dealt : List (Item T)) (item : Item T) → Stands dealt item → All (λ (entry : Numbered T). Stands dealt (Task entry.number entry.task)) (kept item)
  kept_stands dealt (Task number task) s = All-cons (λ (entry : Numbered T). Stands dealt (Task entry.number entry.task)) (record { number = number; task = task }) [] s (All-nil (λ (entry : Numbered T). Stands dealt (Task entry.number entry.task)))
  kept_stands dealt Mark s = All-nil (λ (entry : Numbered T). Stands dealt (Task entry.number entry.task))

  pub more_taken : (v0 v w : Hand T) (item : Item T) (old now : List (Numbered T)) → More v0 v old now → IsSince v0 v → MarksLast v0.dealt → Took v (item ∷ []) w → More v0 w old (now ++ kept item)
  more_taken v0 v w item old now m is last took =
      let dealt : v.dealt ≡ v0.dealt = ap (λ (u : Hand T). u.dealt) is in
      let taken : w.taken ≡ v.taken ++ item ∷ [] = ap (λ (u : Hand T). u.taken) took.0 in (
        m.0 ++ kept item,
        ap (λ l. l ++ kept item) m.1 ∙ append_assoc old m.0 (kept item),
        (λ h.
            let before = m.2 h in
            let e : weigh (number_weight h) w.taken ≡ weigh (number_weight h) (v.taken ++ item ∷ []) = ap (weigh (number_weight h)) taken in
            let n : weigh h (numbers_of (m.0 ++ kept item)) ≡ weigh h (numbers_of m.0 ++ numbers_of (kept item)) = ap (weigh h) (map-append (λ (entry : Numbered T). entry.number) m.0 (kept item)) in
            omega (arith, weigh_append (number_weight h) v.taken (item ∷ []), weigh_append h (numbers_of m.0) (numbers_of (kept item)), kept_weight h item)),
        All-append (λ (entry : Numbered T). Stands v0.dealt (Task entry.number entry.task)) m.0 (kept item) m.3
            (kept_stands v0.dealt item (subst (λ (l : List (Item T)). Stands l item) dealt (took.1 item (0, refl)))),
        (λ some_mark.
            let had = m.4 some_mark in
            let is_mark : item ≡ Mark = took.2 item (0, refl) (subst MarksLast (sym dealt) last) had.0 in
            let e : marks w.taken ≡ marks (v.taken ++ item ∷ []) = ap marks taken in
            ((let a = marks_append v.taken (item ∷ []) in let had_mark = had.0 in omega arith), (λ i. had.1 i ++ kept (is_mark i)))),
      )

  -- there is room for one more
  pub room_for : (v0 v w : Hand T) (item : Item T) (old now : List (Numbered T)) → More v0 v old now → IsSince v0 v → Took v (item ∷ []) w
      → length now ≤ length old + weigh (number_weight (λ _. 1)) v0.dealt
  room_for v0 v w item old now m is took =
      let below = took.3 (number_weight (λ _. 1)) in
      let same : weigh (number_weight (λ _. 1)) w.dealt ≡ weigh (number_weight (λ _. 1)) v.dealt = ap (λ (u : Hand T). weigh (number_weight (λ _. 1)) u.dealt) took.0 in
      let dealt : weigh (number_weight (λ _. 1)) v.dealt ≡ weigh (number_weight (λ _. 1)) v0.dealt = ap (λ (u : Hand T). weigh (number_weight (λ _. 1)) u.dealt) is in
      let taken : weigh (number_weight (λ _. 1)) w.taken ≡ weigh (number_weight (λ _. 1)) (v.taken ++ item ∷ []) = ap (λ (u : Hand T). weigh (number_weight (λ _. 1)) u.taken) took.0 in
      let a = weigh_append (number_weight (λ _. 1)) v.taken (item ∷ []) in
      let so_far = m.2 (λ _. 1) in
      let count : weigh (λ (n : ℕ). 1) (numbers_of m.0) ≡ length (numbers_of m.0) = weigh_ones (numbers_of m.0) in
      let long : length now ≡ length (old ++ m.0) = ap length m.1 in
      omega (arith, length-append old m.0, length-map m.0 (λ (entry : Numbered T). entry.number))

  pub nearer : (v w : Hand T) (item : Item T) → Took v (item ∷ []) w → (length w.taken ≡ length v.taken + 1) × (length w.taken ≤ length v.dealt) × (length w.dealt ≡ length v.dealt)
  nearer v w item took =
      let taken : length w.taken ≡ length (v.taken ++ item ∷ []) = ap (λ (u : Hand T). length u.taken) took.0 in
      let same : length w.dealt ≡ length v.dealt = ap (λ (u : Hand T). length u.dealt) took.0 in
      let below = took.3 (λ _. 1) in (
        omega (arith, length-append v.taken (item ∷ [])),
        omega (arith, weigh_ones w.taken, weigh_ones w.dealt),
        same,
      )
