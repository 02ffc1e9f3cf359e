-- What each kind of step tells a seat.
use Rattle.std.specs.Prelude.{◌≡◌, ℕ, ◌+◌, ◌-◌, ◌<◌, ◌≤◌, List, [], ◌∷◌, ◌++◌, map, Option, None}
use Rattle.atomic_table.specs.Table.{Me, Step, rest}
use Rattle.host_inbox.specs.declared.rule.Known.{Known}
use Rattle.host_inbox.specs.Entries.{inbox_places, entry, claim, place_of}
use Rattle.host_inbox.specs.Inboxes.{known}

module _ {T : Type 0} where
  -- a claim that has a place, which is taken
  abbrev pub after_claim : Known T → ℕ → ℕ → Known T
  after_claim v host number = known v.share v.entered (v.pending ++ claim host number ∷ [])

  -- a claim that has none
  abbrev pub after_full : Known T → ℕ → ℕ → Known T
  after_full v host number = known v.share (v.entered ++ entry host number None ∷ []) v.pending

  -- the claims that were pending have their parcel at its place
  abbrev pub after_fill : Known T → Option T → Known T
  after_fill v parcel = known v.share (v.entered ++ map (λ c. entry c.host c.number parcel) v.pending) []

  -- what lies in the place that was taken last
  abbrev pub laid : List (ℕ × Option T) → Option T
  laid [] = None
  laid (x ∷ xs) = x.1

  pub record Claimed (s : Step (Option T)) (v : Me (Option T) (Known T)) (found : ℕ) (w : Me (Option T) (Known T)) : Type 0 where
    pub placed : found < inbox_places → w ≡ (after_claim v.0 s.word found, (place_of s.word found, None) ∷ v.1)
    pub full : inbox_places ≤ found → w ≡ (after_full v.0 s.word found, v.1)

  abbrev pub Filled : Step (Option T) → Me (Option T) (Known T) → ℕ → Me (Option T) (Known T) → Type 0
  Filled s v found w = w ≡ (after_fill v.0 (laid v.1), rest v.1)

  abbrev pub less_one : Known T → Known T
  less_one v = known (v.share - 1) v.entered v.pending

  abbrev pub one : Known T → Known T
  one v = known 1 [] []

  abbrev pub both : Known T → Known T → Known T
  both v w = known (v.share + w.share) (v.entered ++ w.entered) (v.pending ++ w.pending)

  abbrev pub spent : Known T
  spent = known 0 [] []
