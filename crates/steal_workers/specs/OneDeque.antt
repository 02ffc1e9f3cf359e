-- The rule of one deque, over its queue and the views of its passes alone.
use Rattle.std.specs.Prelude.{◌≡◌, ℕ, ◌+◌, ◌-◌, ◌<◌, ◌≤◌, Bool, true, false, List, [], ◌++◌}
use mathlib.Core.Option.{some}
use lib.ListN.{get_elem?}
use Rattle.steal_workers.specs.declared.item.Item.{Item}
use Rattle.steal_workers.specs.declared.item.Item.TheVariants.{Mark}
use Rattle.steal_workers.specs.declared.hand.Hand.{Hand}
use Rattle.list_weights.specs.Weights.{weigh}
use Rattle.steal_workers.specs.inside.Items.{marks, Stands, MarksLast}

module _ {T : Type 0} where
  abbrev pub hand : Bool → ℕ → List (Item T) → List (Item T) → Hand T
  hand deals share dealt taken = record { deals = deals; share = share; dealt = dealt; taken = taken }

  -- What one pass knows is so. The dealer's pass and each one with a share know what was dealt.
  -- A pass without a share has taken nothing, and none has more marks than its share.
  pub record Fits (dealer : ℕ) (dealt : List (Item T)) (port : ℕ) (v : Hand T) : Type 0 where
    pub deals : v.deals ≡ true → (port ≡ dealer) × (v.dealt ≡ dealt)
    pub knows : 0 < v.share → v.dealt ≡ dealt
    pub idle : v.share ≡ 0 → v.taken ≡ []
    pub within : marks v.taken ≤ v.share

  -- What is out is a prefix of what was dealt. Each item that is out stands in one view.
  -- The shares together are the marks that were dealt.
  abbrev pub IsOneDeque : List (Item T) → List (Hand T) → Type 0
  IsOneDeque items views =
      (dealer : ℕ) × (out : List (Item T)) × (dealt : List (Item T))
      × (dealt ≡ out ++ items)
      × (weigh (λ v. v.share) views ≡ marks dealt)
      × ((h : Item T → ℕ) → weigh (λ v. weigh h v.taken) views ≡ weigh h out)
      × ((port : ℕ) (v : Hand T) → get_elem? views port ≡ some v → Fits dealer dealt port v)

  -- the views after each kind of step
  abbrev pub after_push : Hand T → List (Item T) → Hand T
  after_push v items = hand v.deals (v.share + marks items) (v.dealt ++ items) v.taken

  abbrev pub after_take : Hand T → List (Item T) → Hand T
  after_take v items = hand v.deals v.share v.dealt (v.taken ++ items)

  abbrev pub less_one_share : Hand T → Hand T
  less_one_share v = hand v.deals (v.share - 1) v.dealt v.taken

  abbrev pub one_share : Hand T → Hand T
  one_share v = hand false 1 v.dealt []

  abbrev pub taken_back : Hand T → Hand T → Hand T
  taken_back v u = hand v.deals (v.share + u.share) v.dealt (v.taken ++ u.taken)

  -- What a pop or steal that found an item tells: each item was dealt, behind a mark that was taken there are only marks,
  -- and nothing was taken more often than it was dealt.
  abbrev pub Took : Hand T → List (Item T) → Hand T → Type 0
  Took v items w =
      (w ≡ after_take v items)
      × ((item : Item T) → Stands items item → Stands v.dealt item)
      × ((item : Item T) → Stands items item → MarksLast v.dealt → 0 < marks v.taken → item ≡ Mark)
      × ((h : Item T → ℕ) → weigh h w.taken ≤ weigh h w.dealt)
