-- A seat's step on one deque keeps its share.
use Rattle.std.proofs.Common.{◌≡◌, ℕ, ◌+◌, ◌≤◌, false, true≢false, [], ◌∷◌, ◌++◌, sym, refl, ap, ◌∙◌, subst, arith}
use Rattle.steal_workers.specs.declared.item.Item.{Item}
use Rattle.steal_workers.specs.declared.item.Item.TheVariants.{Task as task_item, Mark as mark_item}
use Rattle.steal_workers.specs.declared.hand.Hand.{Hand}
use Rattle.steal_workers.specs.declared.share.Share.{Share}
use Rattle.steal_workers.specs.declared.share.Finding.TheVariants.{Lost}
use Rattle.list_weights.specs.Weights.{weigh, only}
use Rattle.steal_workers.specs.inside.Items.{marks, mark_weight, number_weight, Stands}
use Rattle.steal_workers.specs.OneDeque.{Took}
use Rattle.steal_workers.specs.inside.Handles.{hand_of, is_own, CanTake, IsSameHandle}
use Rattle.steal_workers.specs.inside.Shares.{IsShare, Follows, Finds, finding_of, is_mark, dealt_to, taken_from, taken_weight}
use Rattle.list_weights.proofs.Weights.{weigh_append}

module _ {T : Type 0} where
  pub can_take : (s : Share T) → IsShare s → s.marked ≡ false → CanTake s.handle
  can_take s sound unmarked = let none : only s.marked 1 ≡ 0 = ap (λ b. only b 1) unmarked in (sound.0, (let one = sound.1 in let count = sound.2 in omega arith))

  pub stays : (old : Share T) → IsShare old → Follows old old
  stays old sound = record { sound = sound; same_deque = refl; same_items = refl; same_owner = refl; mark_stays = λ m. m }

  pub lost : (old new : Share T) → IsShare old → new.marked ≡ old.marked → IsSameHandle old.handle new.handle → hand_of new.handle ≡ hand_of old.handle → is_own old.handle ≡ false → Follows old new × Finds old Lost new
  lost old new sound marked same hand other = (
    record {
      sound = (
        same.0,
        ap (λ (v : Hand T). v.share) hand ∙ sound.1,
        ap (λ (v : Hand T). marks v.taken) hand ∙ sound.2 ∙ ap (λ b. only b 1) (sym marked),
        λ h. subst (λ (v : Hand T). weigh h v.taken ≤ weigh h v.dealt) (sym hand) (sound.3 h),
      );
      same_deque = same.1;
      same_items = ap (λ (v : Hand T). v.dealt) hand;
      same_owner = same.2;
      mark_stays = λ m. marked ∙ m;
    },
    (other, λ h. ap (λ (v : Hand T). weigh (number_weight h) v.taken) hand),
  )

  taken_mark : (item : Item T) → mark_weight item ≡ only (is_mark item) 1
  taken_mark (task_item number task) = refl
  taken_mark mark_item = refl

  steps : (old new : Share T) (item : Item T) → new.marked ≡ is_mark item → Stands (dealt_to old) item
      → ((h : ℕ → ℕ) → taken_weight h new ≡ taken_weight h old + (number_weight h item + 0)) → Finds old (finding_of item) new
  steps old new (task_item number task) marked stands weights = (marked, stands, λ h. let w = weights h in omega arith)
  steps old new mark_item marked stands weights = (marked, λ h. let w = weights h in omega arith)

  pub took_item : (old new : Share T) (item : Item T) → IsShare old → old.marked ≡ false → new.marked ≡ is_mark item
      → IsSameHandle old.handle new.handle → Took (hand_of old.handle) (item ∷ []) (hand_of new.handle) → Follows old new × Finds old (finding_of item) new
  took_item old new item sound unmarked now same took =
      let all : marks (taken_from new) ≡ marks (taken_from old ++ item ∷ []) = ap (λ (v : Hand T). marks v.taken) took.0 in
      let before : only old.marked 1 ≡ 0 = ap (λ b. only b 1) unmarked in
      let after : only new.marked 1 ≡ only (is_mark item) 1 = ap (λ b. only b 1) now in (
        record {
          sound = (
            same.0,
            ap (λ (v : Hand T). v.share) took.0 ∙ sound.1,
            (let count = sound.2 in omega (arith, weigh_append mark_weight (taken_from old) (item ∷ []), taken_mark item)),
            took.3,
          );
          same_deque = same.1;
          same_items = ap (λ (v : Hand T). v.dealt) took.0;
          same_owner = same.2;
          mark_stays = λ m. absurd (true≢false (sym m ∙ unmarked));
        },
        steps old new item now (took.1 item (0, refl))
            (λ h. ap (λ (v : Hand T). weigh (number_weight h) v.taken) took.0 ∙ weigh_append (number_weight h) (taken_from old) (item ∷ [])),
      )
