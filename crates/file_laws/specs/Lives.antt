-- Things by number over a history: each is made at the least free number, is acted on by its number, and ends. Then its number is
-- free, and another thing may be made with it: so the life of a thing begins where it was made.
use Rattle.std.specs.Prelude.{◌≡◌, ℕ, ◌==◌, true, List, [], ◌∷◌, ◌++◌, Option, Some, None, is_some, option_map, if◌then◌else◌}
use Rattle.host_files.specs.Slots.{at, free_place, added, without, after, acts}

-- a kind of things: what is made of what was asked for, and what an act leaves of one, where None means that it is gone
pub record Kind (M A B : Type 0) : Type 0 where
  pub new : M → A
  pub leaves : B → A → Option A

pub data SlotAct (M B : Type 0) : Type 0 where
  makes : M → SlotAct M B
  does : ℕ → B → SlotAct M B
  ends : ℕ → SlotAct M B

-- what a thing was made of, and the acts on it since
pub record Life (M B : Type 0) : Type 0 where
  pub made : M
  pub acts : List B

module _ {M B : Type 0} where
  abbrev pub born : M → Life M B
  born made = record { made = made; acts = [] }

  abbrev pub with_act : B → Life M B → Life M B
  with_act act life = record { made = life.made; acts = life.acts ++ act ∷ [] }

module _ {M A B : Type 0} (kind : Kind M A B) where
  -- the things after acts, one behind another
  abbrev pub slots_acted : SlotAct M B → List (Option A) → List (Option A)
  slots_acted (makes made) slots = added (kind.new made) slots
  slots_acted (does k act) slots = acts (kind.leaves act) k slots
  slots_acted (ends k) slots = without k slots

  abbrev pub slots_after : List (SlotAct M B) → List (Option A) → List (Option A)
  slots_after [] slots = slots
  slots_after (act ∷ more) slots = slots_after more (slots_acted act slots)

  -- the life of the thing with a number, if there is one: an act that leaves nothing ends it
  abbrev pub life_acted : ℕ → SlotAct M B → List (Option A) → Option (Life M B) → Option (Life M B)
  life_acted k (makes made) slots life = if free_place slots == k then Some (born made) else life
  life_acted k (does j act) slots life =
      if j == k then (if is_some (after (kind.leaves act) (at k slots)) then option_map (with_act act) life else None) else life
  life_acted k (ends j) slots life = if j == k then None else life

  abbrev pub life_after : ℕ → List (SlotAct M B) → List (Option A) → Option (Life M B) → Option (Life M B)
  life_after k [] slots life = life
  life_after k (act ∷ more) slots life = life_after k more (slots_acted act slots) (life_acted k act slots life)

  -- where there was nothing at first
  abbrev pub slots_of : List (SlotAct M B) → List (Option A)
  slots_of history = slots_after history []

  abbrev pub life_of : ℕ → List (SlotAct M B) → Option (Life M B)
  life_of k history = life_after k history [] None

  -- what acts leave of a thing
  abbrev pub left_by : List B → Option A → Option A
  left_by [] thing = thing
  left_by (act ∷ more) thing = left_by more (after (kind.leaves act) thing)

  -- a thing that is there after each of some acts, one behind another: nothing else was made with its number meanwhile
  abbrev pub Lasts : ℕ → List (SlotAct M B) → List (Option A) → Type 0
  Lasts k [] slots = Unit {0}
  Lasts k (act ∷ more) slots = (is_some (at k (slots_acted act slots)) ≡ true) × Lasts k more (slots_acted act slots)

  -- those of the acts that are on it
  abbrev pub acts_on : ℕ → List (SlotAct M B) → List B
  acts_on k [] = []
  acts_on k (makes made ∷ more) = acts_on k more
  acts_on k (does j act ∷ more) = if j == k then act ∷ acts_on k more else acts_on k more
  acts_on k (ends j ∷ more) = acts_on k more
