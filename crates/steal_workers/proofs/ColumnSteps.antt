-- The shares of one deque.
use Rattle.std.proofs.Common.{◌≡◌, ◌≢◌, ℕ, zero, suc, ◌+◌, ◌-◌, ◌<◌, ◌≤◌, ◌==◌, true, false, List, [], ◌∷◌, ◌++◌, length, get_or, set, sym, refl, ap, ◌∙◌, subst, eq-eqb, ne_eqb, length-append, arith}
use mathlib.Core.Logic.{dite}
use native.Mathlib.Decide.{ℕ_discrete}
use Rattle.std.proofs.lemmas.List.{get_or-set_other, get_or-set_same}
use Rattle.std.proofs.lemmas.List.Edits.{swap_is}
use Rattle.std.proofs.Math.ListN.{length-set}
use Rattle.std.specs.List.{swap}
use Rattle.std.specs.declared.alloc.Global.{Global}
use Rattle.atomic_blocks.specs.Lent.{RowsId}
use Rattle.crossbeam_deque.specs.Handles.{Pass, view, IsPassOf, worker_deque, worker_flavor, worker_view}
use Rattle.crossbeam_deque.specs.declared.handles.Stealer.{Stealer}
use Rattle.crossbeam_deque.specs.declared.handles.Worker.{Worker}
use Rattle.steal_workers.specs.declared.item.Item.{Item}
use Rattle.steal_workers.specs.declared.item.Item.TheVariants.{Mark}
use Rattle.steal_workers.specs.declared.hand.Hand.{Hand}
use Rattle.steal_workers.specs.declared.hand.OneDeque.{OneDeque}
use Rattle.steal_workers.specs.declared.share.Share.{Share}
use Rattle.steal_workers.specs.declared.handle.Handle.TheVariants.{Own, Other}
use Rattle.list_weights.specs.Places.{EachAt}
use Rattle.list_weights.specs.Weights.{weigh}
use Rattle.steal_workers.specs.inside.Items.{marks}
use Rattle.steal_workers.specs.OneDeque.{hand}
use Rattle.steal_workers.specs.inside.Handles.{is_own}
use Rattle.steal_workers.specs.inside.Decks.{IsThiefOf, mark_list}
use Rattle.steal_workers.specs.inside.Columns.{IsFresh, IsColumn}
use Rattle.list_weights.proofs.Places.{EachAt_push}
use Rattle.steal_workers.proofs.Steps.{marks_append}

pub eq_same : (a b c d : ℕ) → (a ≡ b → c ≡ d) → (c ≡ d → a ≡ b) → (a == b) ≡ (c == d)
eq_same a b c d f g = dite (ℕ_discrete a b)
    (λ e. eq-eqb a b e ∙ sym (eq-eqb c d (f e)))
    (λ ne. ne_eqb a b ne ∙ sym (ne_eqb c d (λ e. ne (g e))))

module _ {X : Type 0} where
  get_swap : (F : ℕ → X → Type 0) (xs : List X) (a b i : ℕ) (d : X) → a < length xs → b < length xs
      → (i ≡ b → F i (get_or xs a d)) → (i ≢ b → i ≡ a → F i (get_or xs b d)) → (i ≢ b → i ≢ a → F i (get_or xs i d)) → F i (get_or (swap xs a b) i d)
  get_swap F xs a b i d wa wb at_b at_a else =
      let once : List X = set xs a (get_or xs b d) in
      let l = length-set xs a (get_or xs b d) in
      subst (λ (ys : List X). F i (get_or ys i d)) (swap_is xs a b d wa wb)
      (dite (ℕ_discrete i b)
      (λ (e : i ≡ b). subst (F i) (sym (ap (λ n. get_or (set once b (get_or xs a d)) n d) e ∙ get_or-set_same once b (get_or xs a d) d (let w : b < length once = omega arith in w))) (at_b e))
      (λ (ne : i ≢ b). subst (F i) (sym (get_or-set_other once b i (get_or xs a d) d ne))
      (dite (ℕ_discrete i a)
      (λ (e : i ≡ a). subst (F i) (sym (ap (λ n. get_or once n d) e ∙ get_or-set_same xs a (get_or xs b d) d wa)) (at_a ne e))
      (λ (no : i ≢ a). subst (F i) (sym (get_or-set_other xs a i (get_or xs b d) d no)) (else ne no)))))

pub marks_mark_list : (T : Type 0) (n : ℕ) → marks (mark_list {T = T} n) ≡ n
marks_mark_list T zero = refl
marks_mark_list T (suc n) = omega (arith, marks_append (mark_list {T = T} n) (Mark ∷ []), marks_mark_list T n)

module _ {T : Type 0} where
  pub marks_closed : (queue : List (Item T)) (n : ℕ) → marks queue ≡ 0 → marks (queue ++ mark_list n) ≡ n
  marks_closed queue n none = omega (arith, marks_append queue (mark_list n), marks_mark_list T n)

  nothing_taken : (v : Hand T) → v.taken ≡ [] → (h : Item T → ℕ) → weigh h v.taken ≤ weigh h v.dealt
  nothing_taken v none h = let nothing : weigh h v.taken ≡ 0 = ap (weigh h) none in omega arith

  pub fresh_other : (deque : RowsId × Global) (items : List (Item T)) (thief : Stealer (Item T) Global (Hand T) OneDeque) (claim : Pass (Item T) (Hand T) Global)
      → IsThiefOf deque thief → IsPassOf deque claim → view claim ≡ hand false 1 items [] → IsFresh deque items (record { handle = Other thief claim; marked = false })
  fresh_other deque items thief claim t p v = record {
    sound = ((t.1, subst (λ (d : RowsId × Global). IsPassOf d claim) (sym t.0) p), ap (λ (h : Hand T). h.share) v, ap (λ (h : Hand T). marks h.taken) v, nothing_taken (view claim) (ap (λ (h : Hand T). h.taken) v));
    same_deque = t.0;
    dealt = ap (λ (h : Hand T). h.dealt) v;
    taken = ap (λ (h : Hand T). h.taken) v;
    unmarked = refl;
  }

  pub fresh_own : (deque : RowsId × Global) (items : List (Item T)) (worker : Worker (Item T) Global (Hand T) OneDeque)
      → worker_deque worker ≡ deque → worker_flavor worker ≡ 0 → worker_view worker ≡ hand true 1 items [] → IsFresh deque items (record { handle = Own worker; marked = false })
  fresh_own deque items worker same fifo v = record {
    sound = ((fifo, ap (λ (h : Hand T). h.deals) v), ap (λ (h : Hand T). h.share) v, ap (λ (h : Hand T). marks h.taken) v, nothing_taken (worker_view worker) (ap (λ (h : Hand T). h.taken) v));
    same_deque = same;
    dealt = ap (λ (h : Hand T). h.dealt) v;
    taken = ap (λ (h : Hand T). h.taken) v;
    unmarked = refl;
  }

  -- the others' shares, and the owner's behind them
  pub own_last : (F : Share T → Type 0) (xs : List (Share T)) (y : Share T) (m : ℕ) → length xs ≡ m → EachAt (λ i share. F share × (is_own share.handle ≡ false)) xs
      → F y → is_own y.handle ≡ true → (i : ℕ) (e : Share T) → i < m + 1 → F (get_or (xs ++ y ∷ []) i e) × (is_own (get_or (xs ++ y ∷ []) i e).handle ≡ (i == m))
  own_last F xs y m long each fresh own i e within =
      EachAt_push (λ j share. F share × (is_own share.handle ≡ (j == m))) xs y
      (λ j d w. ((each j d w).0, (each j d w).1 ∙ sym (ne_eqb j m (λ s. absurd (omega arith)))))
      (fresh, own ∙ sym (eq-eqb (length xs) m long)) i e (omega (arith, length-append xs (y ∷ [])))

  -- the owner's share moved to the owner's place
  pub column_swapped : (deque : RowsId × Global) (items : List (Item T)) (n place m : ℕ) (xs : List (Share T)) → place < n → m + 1 ≡ n → length xs ≡ n
      → ((i : ℕ) (e : Share T) → i < n → IsFresh deque items (get_or xs i e) × (is_own (get_or xs i e).handle ≡ (i == m)))
      → IsColumn deque items n place (swap xs (m - place) m)
  column_swapped deque items n place m xs within last long each i j e w sum =
      get_swap (λ k share. k + j + 1 ≡ n → IsFresh deque items share × (is_own share.handle ≡ (j == place))) xs (m - place) m i e (omega arith) (omega arith)
      (λ at s. ((each (m - place) e (omega arith)).0, (each (m - place) e (omega arith)).1 ∙ eq_same (m - place) m j place (λ q. omega arith) (λ q. omega arith)))
      (λ ne at s. ((each m e (omega arith)).0, (each m e (omega arith)).1 ∙ eq_same m m j place (λ q. omega arith) (λ q. omega arith)))
      (λ ne no s. ((each i e (omega arith)).0, (each i e (omega arith)).1 ∙ eq_same i m j place (λ q. absurd (ne q)) (λ q. absurd (no (omega arith)))))
      sum
