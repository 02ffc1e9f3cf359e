-- Gathering the seats of a deal.
use Rattle.std.specs.Prelude.{◌≡◌, ℕ, ◌+◌, ◌==◌, true, List, [], ◌++◌, map, length, slice_get, slice_index, slice_index_or, Some, All, IsPermutation}
use Rattle.std.specs.List.{flat_map}
use Rattle.std.specs.declared.alloc.Global.{Global}
use Rattle.atomic_blocks.specs.Lent.{RowsId}
use Rattle.steal_workers.specs.declared.item.Item.{Item}
use Rattle.steal_workers.specs.declared.item.Numbered.{Numbered}
use Rattle.steal_workers.specs.declared.share.Share.{Share}
use Rattle.steal_workers.specs.declared.seat.Stack.{Stack}
use Rattle.list_weights.specs.Places.{EachAt}
use Rattle.list_weights.specs.Weights.{weigh, numbers_below}
use Rattle.steal_workers.specs.inside.Handles.{deque_of, is_own}
use Rattle.steal_workers.specs.inside.Shares.{IsShare, dealt_to, taken_from}
use Rattle.steal_workers.specs.Deals.{Deal}
use Rattle.steal_workers.specs.SeatViews.{SeatView, HasMark}
use Rattle.steal_workers.specs.WholeDeals.{common_deal}
use Rattle.steal_workers.specs.inside.TookBack.{numbers_of}

-- the lists, one behind the other
abbrev pub joined : {X : Type 0} → List (List X) → List X
joined xss = flat_map (λ xs. xs) xss

module _ {T : Type 0} where
  -- each seat has the end mark of its own deque
  abbrev pub AreOwnMarked : List (SeatView T) → Type 0
  AreOwnMarked seats = All (λ seat. HasMark seat seat.place) seats

  -- Each dealt task was taken by one seat, or is left, with its number. Where each seat has its own deque's mark, none is left.
  pub record IsGathered (seats : List (SeatView T)) (left : List (Numbered T)) : Type 0 where
    pub each_once : IsPermutation (joined (map (λ seat. seat.numbers) seats) ++ numbers_of left) (numbers_below (length (common_deal seats).tasks))
    pub numbered : All (λ entry. slice_get (common_deal seats).tasks entry.number ≡ Some entry.task) left
    pub none_left : AreOwnMarked seats → left ≡ []

  -- a share in the deque at the place d, of the seat at `place`, which has its own mark if P
  abbrev pub IsShareAt : Type 0 → Deal T → ℕ → ℕ → Share T → Type 0
  IsShareAt P deal d place share =
      IsShare share × ((e : RowsId × Global) → deque_of share.handle ≡ slice_index_or deal.deques d e) × (dealt_to share ≡ slice_index_or deal.queues d [])
      × (is_own share.handle ≡ (d == place)) × (P → is_own share.handle ≡ true → share.marked ≡ true)

  -- the seat's shares in the first m deques
  pub record IsStack (P : Type 0) (deal : Deal T) (m : ℕ) (stack : Stack T) : Type 0 where
    pub count : length stack.shares.items ≡ m
    pub each : EachAt (λ d share. IsShareAt P deal d stack.place share) stack.shares.items

  -- what all shares of all stacks took, weighed
  abbrev pub share_taken : (Item T → ℕ) → Share T → ℕ
  share_taken h share = weigh h (taken_from share)

  abbrev pub stack_taken : (Item T → ℕ) → Stack T → ℕ
  stack_taken h stack = weigh (share_taken h) stack.shares.items

  abbrev pub all_taken : (Item T → ℕ) → List (Stack T) → ℕ
  all_taken h stacks = weigh (stack_taken h) stacks

  abbrev pub places : List (Stack T) → List ℕ
  places stacks = map (λ stack. stack.place) stacks

  -- the last share of each stack went into the column
  pub record PopsEach (P : Type 0) (deal : Deal T) (d : ℕ) (old new : List (Stack T)) (column : List (Share T)) : Type 0 where
    pub same_places : places new ≡ places old
    pub stacks : All (IsStack P deal d) new
    pub count : length column ≡ length old
    pub tops : EachAt (λ s share. IsShareAt P deal d (slice_index (places old) s) share) column
    pub taken : (h : Item T → ℕ) → all_taken h new + weigh (share_taken h) column ≡ all_taken h old
