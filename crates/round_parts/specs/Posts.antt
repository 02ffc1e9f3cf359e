-- What becomes of the parcels that a worker's hosts make.
use Rattle.std.specs.Prelude.{◌≡◌, ◌⊎◌, ◌-◌, ◌^◌, List, [], ◌++◌, map, filter, length, nat_le, All}
use Rattle.sim_base.specs.declared.event.Parcel.{Parcel}
use Rattle.host_inbox.specs.declared.entry.Entry.{Entry}
use Rattle.host_inbox.specs.Entries.{inbox_places}
use Rattle.round_parts.specs.Arrivals.{Boxed}

abbrev pub carried : List (Entry Boxed) → List Parcel
carried entries = map (λ e. e.parcel.value) entries

-- the entries whose parcel came back, because the places of its host are full
abbrev pub given_back : List (Entry Boxed) → List (Entry Boxed)
given_back entries = filter (λ e. nat_le inbox_places e.number) entries

-- Each parcel was put for its host, in the order in which they were made, until 2^32 - 1 puts were made; those behind are kept.
-- The spill has what came back and what was kept.
pub record IsPosted (all : List Parcel) (entries : List (Entry Boxed)) (spill : List Parcel) : Type 0 where
  pub kept : List Parcel
  pub sent : all ≡ carried entries ++ kept
  pub spilled : spill ≡ carried (given_back entries) ++ kept
  pub last : (kept ≡ []) ⊎ (length entries ≡ 2 ^ 32 - 1)
  pub theirs : All (λ e. e.host ≡ e.parcel.value.to.index) entries
