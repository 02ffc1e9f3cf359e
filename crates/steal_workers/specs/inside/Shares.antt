-- What is said of a seat's shares, one in each deque of the deal.
use Rattle.std.specs.Prelude.{◌≡◌, ℕ, ◌+◌, ◌<◌, ◌≤◌, Bool, true, false, List, [], ◌∷◌, map, length, slice_index_or}
use Rattle.steal_workers.specs.declared.item.Item.{Item}
use Rattle.steal_workers.specs.declared.item.Item.TheVariants.{Task as task_item, Mark as mark_item}
use Rattle.steal_workers.specs.declared.share.Share.{Share}
use Rattle.steal_workers.specs.declared.share.Finding.{Finding}
use Rattle.steal_workers.specs.declared.share.Finding.TheVariants.{Task, Marked, Lost}
use Rattle.list_weights.specs.Weights.{weigh, only}
use Rattle.steal_workers.specs.inside.Items.{marks, number_weight, Stands}
use Rattle.steal_workers.specs.inside.Handles.{deque_of, hand_of, is_own, IsFit}

module _ {T : Type 0} where
  -- what was dealt to the deque
  abbrev pub dealt_to : Share T → List (Item T)
  dealt_to s = (hand_of s.handle).dealt

  abbrev pub taken_from : Share T → List (Item T)
  taken_from s = (hand_of s.handle).taken

  abbrev pub is_own_share : Share T → Bool
  is_own_share s = is_own s.handle

  abbrev pub is_marked : Share T → Bool
  is_marked s = s.marked

  -- the share of one seat, which has taken one mark of the deque or none, and nothing more often than it was dealt
  abbrev pub IsShare : Share T → Type 0
  IsShare s = IsFit s.handle × ((hand_of s.handle).share ≡ 1) × (marks (taken_from s) ≡ only s.marked 1) × ((h : Item T → ℕ) → weigh h (taken_from s) ≤ weigh h (dealt_to s))

  -- how much the numbers of the tasks weigh that were taken
  abbrev pub taken_weight : (ℕ → ℕ) → Share T → ℕ
  taken_weight h s = weigh (number_weight h) (taken_from s)

  -- what an item tells the seat that took it
  abbrev pub finding_of : Item T → Finding T
  finding_of (task_item number task) = Task number task
  finding_of mark_item = Marked

  abbrev pub is_mark : Item T → Bool
  is_mark (task_item number task) = false
  is_mark mark_item = true

  -- the same share, later
  pub record Follows (old new : Share T) : Type 0 where
    pub sound : IsShare new
    pub same_deque : deque_of new.handle ≡ deque_of old.handle
    pub same_items : dealt_to new ≡ dealt_to old
    pub same_owner : is_own new.handle ≡ is_own old.handle
    pub mark_stays : old.marked ≡ true → new.marked ≡ true

  abbrev pub Finds : Share T → Finding T → Share T → Type 0
  Finds old (Task number task) new =
      (new.marked ≡ false) × Stands (dealt_to old) (task_item number task) × ((h : ℕ → ℕ) → taken_weight h new ≡ taken_weight h old + h number)
  Finds old Marked new = (new.marked ≡ true) × ((h : ℕ → ℕ) → taken_weight h new ≡ taken_weight h old)
  Finds old Lost new = (is_own old.handle ≡ false) × ((h : ℕ → ℕ) → taken_weight h new ≡ taken_weight h old)

  -- the same shares, later
  abbrev pub Moves : List (Share T) → List (Share T) → Type 0
  Moves [] [] = Unit {0}
  Moves [] (s ∷ new) = ⊥
  Moves (r ∷ old) [] = ⊥
  Moves (r ∷ old) (s ∷ new) = Follows r s × Moves old new

  abbrev pub taken_weights : (ℕ → ℕ) → List (Share T) → ℕ
  taken_weights h shares = weigh (taken_weight h) shares

  -- the task of that number was taken: it stands in what was dealt to some deque, and some deque still lacks its mark
  pub record Found (old new : List (Share T)) (number : ℕ) (task : T) : Type 0 where
    pub taken : (h : ℕ → ℕ) → taken_weights h new ≡ taken_weights h old + h number
    pub dealt : (d : ℕ) × (d < length old) × Stands (slice_index_or (map dealt_to old) d []) (task_item number task)
    pub lacks : (d : ℕ) × (d < length new) × (slice_index_or (map is_marked new) d false ≡ false)

  abbrev pub TookNone : List (Share T) → List (Share T) → Type 0
  TookNone old new = (h : ℕ → ℕ) → taken_weights h new ≡ taken_weights h old

  abbrev pub AllMarked : List (Share T) → Type 0
  AllMarked shares = (d : ℕ) → d < length shares → slice_index_or (map is_marked shares) d false ≡ true
