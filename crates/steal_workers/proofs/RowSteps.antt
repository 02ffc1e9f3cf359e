-- The shares of one seat.
use Rattle.std.proofs.Common.{◌≡◌, ℕ, zero, suc, ◌+◌, ◌<◌, ◌≤◌, ◌==◌, false, List, [], ◌∷◌, ◌++◌, map, length, get_or, set, sym, refl, ap, ◌∙◌, subst, Vec, length-append, arith}
use Rattle.std.proofs.lemmas.List.{get_or-map, length-map, take_more, get_or_append_left, get_or_push, map_push}
use Rattle.std.proofs.Math.ListN.{length-set}
use Rattle.std.specs.declared.alloc.Global.{Global}
use Rattle.atomic_blocks.specs.Lent.{RowsId}
use Rattle.list_weights.specs.Places.{EachAt}
use Rattle.steal_workers.specs.declared.item.Item.{Item}
use Rattle.steal_workers.specs.declared.deck.Deck.{Deck}
use Rattle.steal_workers.specs.declared.share.Share.{Share}
use Rattle.steal_workers.specs.inside.Handles.{deque_of, is_own}
use Rattle.steal_workers.specs.inside.Shares.{IsShare, dealt_to, taken_from}
use Rattle.steal_workers.specs.inside.Columns.{IsFresh, IsColumn, AreColumns, IsRow, closed, deck_deque}
use Rattle.list_weights.proofs.Places.{EachAt_push}
use Rattle.steal_workers.proofs.DeckSteps.{each_at_set}
use Rattle.steal_workers.proofs.ColumnSteps.{eq_same}

member : {X : Type 0} (xs : List X) (d : ℕ) → d < length xs → X
member [] d within = absurd (omega arith)
member (x ∷ xs) zero within = x
member (x ∷ xs) (suc d) within = member xs d (omega arith)

module _ {T : Type 0} where
  column_front : (deque : RowsId × Global) (items : List (Item T)) (n d : ℕ) (xs ys : List (Share T)) (share : Share T) → xs ≡ ys ++ share ∷ [] → IsColumn deque items n d xs → IsColumn deque items n d ys
  column_front deque items n d xs ys share is h i j e within sum =
      let long = ap length is in
      subst (λ (s : Share T). IsFresh deque items s × (is_own s.handle ≡ (j == d))) (ap (λ (l : List (Share T)). get_or l i e) is ∙ get_or_append_left ys (share ∷ []) e i within)
      (h i j e (omega (arith, length-append ys (share ∷ []))) sum)

  column_end : (deque : RowsId × Global) (items : List (Item T)) (n d place : ℕ) (xs ys : List (Share T)) (share : Share T) → xs ≡ ys ++ share ∷ [] → length xs + place ≡ n → IsColumn deque items n d xs
      → IsFresh deque items share × (is_own share.handle ≡ (place == d))
  column_end deque items n d place xs ys share is height h =
      let long = ap length is in
      subst (λ (s : Share T). IsFresh deque items s × (is_own s.handle ≡ (place == d))) (ap (λ (l : List (Share T)). get_or l (length ys) share) is ∙ get_or_push ys share share (length ys) refl)
      (h (length ys) place share (omega (arith, length-append ys (share ∷ []))) (omega (arith, length-append ys (share ∷ []))))

  -- one share leaves a column
  pub columns_after : (decks : List (Deck T)) (n : ℕ) (columns : List (Vec (Share T) Global)) (d : ℕ) (old new : Vec (Share T) Global) (share : Share T) (e : Vec (Share T) Global) → AreColumns decks n columns → d < n
      → old ≡ get_or columns d e → old.items ≡ new.items ++ share ∷ [] → AreColumns decks n (set columns d new)
  columns_after decks n columns d old new share e h within is popped = record {
    count = length-set columns d new ∙ h.count;
    same_count = h.same_count;
    each = each_at_set (λ j (column : Vec (Share T) Global). (k : Deck T) → IsColumn (deck_deque (get_or decks j k)) (closed n (get_or decks j k)) n j column.items) columns d new
        (λ k. column_front (deck_deque (get_or decks d k)) (closed n (get_or decks d k)) n d old.items new.items share popped
        (subst (λ (v : Vec (Share T) Global). IsColumn (deck_deque (get_or decks d k)) (closed n (get_or decks d k)) n d v.items) (sym is) (h.each d e (let c = h.count in omega arith) k)))
        (λ j x ne w. h.each j x w);
  }

  pub heights_after : (n d place : ℕ) (columns : List (Vec (Share T) Global)) (old new : Vec (Share T) Global) (share : Share T) → old.items ≡ new.items ++ share ∷ [] → length old.items + place ≡ n
      → EachAt (λ j (column : Vec (Share T) Global). (j < d → length column.items + (place + 1) ≡ n) × (d ≤ j → length column.items + place ≡ n)) columns
      → EachAt (λ j (column : Vec (Share T) Global). (j < d + 1 → length column.items + (place + 1) ≡ n) × (d + 1 ≤ j → length column.items + place ≡ n)) (set columns d new)
  heights_after n d place columns old new share popped height h =
      let long = ap length popped in
      each_at_set (λ j (column : Vec (Share T) Global). (j < d + 1 → length column.items + (place + 1) ≡ n) × (d + 1 ≤ j → length column.items + place ≡ n)) columns d new
      ((λ _. omega (arith, length-append new.items (share ∷ []))), λ more. absurd (omega arith))
      (λ j x ne w. let t = h j x w in ((λ less. t.0 (omega arith)), λ more. t.1 (omega arith)))

  -- and joins the row
  pub row_more : (decks : List (Deck T)) (n d place : ℕ) (shares : List (Share T)) (columns : List (Vec (Share T) Global)) (old new : Vec (Share T) Global) (share : Share T) (e : Vec (Share T) Global)
      → AreColumns decks n columns → d < n → old ≡ get_or columns d e → old.items ≡ new.items ++ share ∷ [] → length old.items + place ≡ n → IsRow decks n d place shares → IsRow decks n (d + 1) place (shares ++ share ∷ [])
  row_more decks n d place shares columns old new share e h within is popped height row =
      let k : Deck T = member decks d (let c = h.same_count in omega arith) in
      let inside : d < length decks = (let c = h.same_count in omega arith) in
      let there = h.each d e (let c = h.count in omega arith) k in
      let fresh = column_end (deck_deque (get_or decks d k)) (closed n (get_or decks d k)) n d place old.items new.items share popped height
      (subst (λ (v : Vec (Share T) Global). IsColumn (deck_deque (get_or decks d k)) (closed n (get_or decks d k)) n d v.items) (sym is) there) in
      let deques : List (RowsId × Global) = map deck_deque decks in
      let queues : List (List (Item T)) = map (closed n) decks in
      record {
        count = (let c = row.count in omega (arith, length-append shares (share ∷ [])));
        deques = map_push (λ (s : Share T). deque_of s.handle) shares share ∙ (λ i. row.deques i ++ ((fresh.0.same_deque ∙ sym (get_or-map deck_deque decks d k (deck_deque k) inside)) i ∷ []))
            ∙ sym (take_more deques d (deck_deque k) (omega (arith, length-map decks (deck_deque {T = T}))));
        queues = map_push dealt_to shares share ∙ (λ i. row.queues i ++ ((fresh.0.dealt ∙ sym (get_or-map (closed n) decks d k [] inside)) i ∷ []))
            ∙ sym (take_more queues d [] (omega (arith, length-map decks (closed {T = T} n))));
        each = EachAt_push (λ j (s : Share T). IsShare s × (taken_from s ≡ []) × (s.marked ≡ false) × (is_own s.handle ≡ (j == place))) shares share row.each
            (fresh.0.sound, fresh.0.taken, fresh.0.unmarked, fresh.1 ∙ eq_same place d (length shares) place (λ q. let c = row.count in omega arith) (λ q. let c = row.count in omega arith));
      }
