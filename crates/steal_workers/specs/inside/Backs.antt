-- All shares of one deque, and what comes back of them.
use Rattle.std.specs.Prelude.{◌≡◌, ℕ, true, List, length, All}
use Rattle.std.specs.declared.alloc.Global.{Global}
use Rattle.atomic_blocks.specs.Lent.{RowsId}
use Rattle.steal_workers.specs.declared.item.Item.{Item}
use Rattle.steal_workers.specs.declared.hand.Hand.{Hand}
use Rattle.steal_workers.specs.declared.share.Share.{Share}
use Rattle.list_weights.specs.Weights.{weigh, only}
use Rattle.steal_workers.specs.inside.Handles.{deque_of, is_own}
use Rattle.steal_workers.specs.inside.Shares.{IsShare, dealt_to, taken_from}

module _ {T : Type 0} where
  abbrev pub own_weight : Share T → ℕ
  own_weight share = only (is_own share.handle) 1

  -- shares of one deque, to which one list was dealt
  abbrev pub IsWholeColumn : List (Share T) → Type 0
  IsWholeColumn shares = (deque : RowsId × Global) × (items : List (Item T)) × All (λ share. IsShare share × (deque_of share.handle ≡ deque) × (dealt_to share ≡ items)) shares

  -- The view has all shares, and has taken what they had taken. It has a mark where the owner had one.
  pub record IsBack (shares : List (Share T)) (v : Hand T) : Type 0 where
    pub deals : v.deals ≡ true
    pub share : v.share ≡ length shares
    pub dealt : (items : List (Item T)) → All (λ share. dealt_to share ≡ items) shares → v.dealt ≡ items
    pub taken : (h : Item T → ℕ) → weigh h v.taken ≡ weigh (λ share. weigh h (taken_from share)) shares
