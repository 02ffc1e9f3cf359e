-- A seat's shares, step by step.
use Rattle.std.proofs.Common.{◌≡◌, ℕ, zero, suc, ◌+◌, ◌<◌, true, false, List, [], ◌∷◌, map, length, get_or, set, All, Option, Some, None, MatchOption, IfNone, sym, refl, ap, ◌∙◌, subst, arith}
use Rattle.std.proofs.lemmas.List.{get_or-map, get_or_default}
use Rattle.std.proofs.lemmas.List.Elements.{All-nil, All-cons, All-head, All-tail}
use Rattle.std.proofs.Math.ListN.{length-set}
use Rattle.crossbeam_deque.proofs.Lists.{at_index}
use Rattle.steal_workers.specs.declared.item.Item.{Item}
use Rattle.steal_workers.specs.declared.item.Item.TheVariants.{Task as task_item}
use Rattle.steal_workers.specs.declared.share.Share.{Share}
use Rattle.steal_workers.specs.declared.share.Finding.TheVariants.{Task}
use Rattle.steal_workers.specs.inside.Items.{Stands}
use Rattle.steal_workers.specs.inside.Shares.{IsShare, Follows, Finds, Moves, dealt_to, is_marked, taken_weight, taken_weights, Found, TookNone}
use Rattle.list_weights.proofs.Weights.{weigh_set}
use Rattle.steal_workers.proofs.ShareSteps.{stays}

module _ {T : Type 0} where
  pub follows_trans : (a b c : Share T) → Follows a b → Follows b c → Follows a c
  follows_trans a b c p q = record {
    sound = q.sound;
    same_deque = q.same_deque ∙ p.same_deque;
    same_items = q.same_items ∙ p.same_items;
    same_owner = q.same_owner ∙ p.same_owner;
    mark_stays = λ m. q.mark_stays (p.mark_stays m);
  }

  pub stays_all : (xs : List (Share T)) → All IsShare xs → Moves xs xs
  stays_all [] sound = tt
  stays_all (x ∷ xs) sound = (stays x (All-head IsShare x xs sound), stays_all xs (All-tail IsShare x xs sound))

  pub moves_trans : (a b c : List (Share T)) → Moves a b → Moves b c → Moves a c
  moves_trans [] [] [] p q = tt
  moves_trans [] [] (z ∷ c) p q = absurd q
  moves_trans [] (y ∷ b) c p q = absurd p
  moves_trans (x ∷ a) [] c p q = absurd p
  moves_trans (x ∷ a) (y ∷ b) [] p q = absurd q
  moves_trans (x ∷ a) (y ∷ b) (z ∷ c) p q = (follows_trans x y z p.0 q.0, moves_trans a b c p.1 q.1)

  pub moves_sound : (a b : List (Share T)) → Moves a b → All IsShare b
  moves_sound [] [] p = All-nil IsShare
  moves_sound [] (y ∷ b) p = absurd p
  moves_sound (x ∷ a) [] p = absurd p
  moves_sound (x ∷ a) (y ∷ b) p = All-cons IsShare y b p.0.sound (moves_sound a b p.1)

  pub moves_map : {X : Type 0} (f : Share T → X) (same : (r s : Share T) → Follows r s → f s ≡ f r) (a b : List (Share T)) → Moves a b → map f b ≡ map f a
  moves_map f same [] [] p = refl
  moves_map f same [] (y ∷ b) p = absurd p
  moves_map f same (x ∷ a) [] p = absurd p
  moves_map f same (x ∷ a) (y ∷ b) p = λ i. same x y p.0 i ∷ moves_map f same a b p.1 i

  pub moves_length : (a b : List (Share T)) → Moves a b → length b ≡ length a
  moves_length [] [] p = refl
  moves_length [] (y ∷ b) p = absurd p
  moves_length (x ∷ a) [] p = absurd p
  moves_length (x ∷ a) (y ∷ b) p = ap suc (moves_length a b p.1)

  pub moves_marked : (a b : List (Share T)) (d : ℕ) → Moves a b → get_or (map is_marked a) d false ≡ true → get_or (map is_marked b) d false ≡ true
  moves_marked [] [] d p m = m
  moves_marked [] (y ∷ b) d p m = absurd p
  moves_marked (x ∷ a) [] d p m = absurd p
  moves_marked (x ∷ a) (y ∷ b) zero p m = p.0.mark_stays m
  moves_marked (x ∷ a) (y ∷ b) (suc d) p m = moves_marked a b d p.1 m

  pub moves_set : (xs : List (Share T)) (d : ℕ) (e s : Share T) → All IsShare xs → d < length xs → Follows (get_or xs d e) s → Moves xs (set xs d s)
  moves_set [] d e s sound within p = tt
  moves_set (x ∷ xs) zero e s sound within p = (p, stays_all xs (All-tail IsShare x xs sound))
  moves_set (x ∷ xs) (suc d) e s sound within p = (stays x (All-head IsShare x xs sound), moves_set xs d e s (All-tail IsShare x xs sound) (omega arith) p)

  weights_set : (h : ℕ → ℕ) (xs : List (Share T)) (d : ℕ) (e s : Share T) → d < length xs → taken_weights h (set xs d s) + taken_weight h (get_or xs d e) ≡ taken_weights h xs + taken_weight h s
  weights_set h xs d e s within = let r : Share T = get_or xs d e in weigh_set (taken_weight h) xs d r s (at_index xs d r within (get_or_default xs d e r within))

  -- one share's step is a step of all
  pub none_set : (xs : List (Share T)) (d : ℕ) (e s : Share T) → d < length xs → ((h : ℕ → ℕ) → taken_weight h s ≡ taken_weight h (get_or xs d e)) → TookNone xs (set xs d s)
  none_set xs d e s within same h = let w = weights_set h xs d e s within in let k = same h in omega arith

  marked_set : (xs : List (Share T)) (d : ℕ) (s : Share T) → d < length xs → get_or (map is_marked (set xs d s)) d false ≡ s.marked
  marked_set [] d s within = absurd (omega arith)
  marked_set (x ∷ xs) zero s within = refl
  marked_set (x ∷ xs) (suc d) s within = marked_set xs d s (omega arith)

  pub marked_here : (xs : List (Share T)) (d : ℕ) (s : Share T) → d < length xs → s.marked ≡ true → get_or (map is_marked (set xs d s)) d false ≡ true
  marked_here xs d s within m = marked_set xs d s within ∙ m

  pub found_set : (xs : List (Share T)) (d : ℕ) (e s : Share T) (number : ℕ) (task : T) → d < length xs → Finds (get_or xs d e) (Task number task) s → Found xs (set xs d s) number task
  found_set xs d e s number task within step = record {
    taken = λ h. let w = weights_set h xs d e s within in let k = step.2 h in omega arith;
    dealt = (d, within, subst (λ (l : List (Item T)). Stands l (task_item number task)) (sym (get_or-map dealt_to xs d e [] within)) step.1);
    lacks = (d, (let l = length-set xs d s in omega arith), marked_set xs d s within ∙ step.0);
  }

  pub none_trans : (a b c : List (Share T)) → TookNone a b → TookNone b c → TookNone a c
  none_trans a b c p q h = q h ∙ p h

  -- a task that was found after a part of the sweep
  pub found_after : (a b c : List (Share T)) (number : ℕ) (task : T) → Moves a b → TookNone a b → Found b c number task → Found a c number task
  found_after a b c number task p none found = record {
    taken = λ h. let w = found.taken h in let e = none h in omega arith;
    dealt = (
      found.dealt.0,
      (let l = moves_length a b p in let w = found.dealt.1 in omega arith),
      subst (λ (l : List (List (Item T))). Stands (get_or l found.dealt.0 []) (task_item number task)) (moves_map dealt_to (λ r s f. f.same_items) a b p) found.dealt.2,
    );
    lacks = found.lacks;
  }

  -- what the last part of the sweep found
  pub ends_with : (a b c : List (Share T)) (r : Option (ℕ × T)) → Moves a b → TookNone a b → MatchOption r (TookNone b c) (λ found. Found b c found.0 found.1)
      → MatchOption r (TookNone a c) (λ found. Found a c found.0 found.1)
  ends_with a b c None p none h = none_trans a b c none h
  ends_with a b c (Some found) p none h = found_after a b c found.0 found.1 p none h

pub if_none : {X : Type 0} (r : Option X) (P : Type 0) → P → IfNone r P
if_none None P p = p
if_none (Some x) P p = tt
