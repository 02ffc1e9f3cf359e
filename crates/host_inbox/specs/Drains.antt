-- What is drained when boards are closed.
use Rattle.std.specs.Prelude.{◌≡◌, ℕ, ◌<◌, ◌==◌, List, map, filter, length, min, slice_get, All, IsPermutation, Some, Vec}
use Rattle.std.specs.List.{flat_map}
use Rattle.std.specs.declared.alloc.Global.{Global}
use Rattle.host_inbox.specs.declared.entry.Entry.{Entry}
pub use Rattle.list_weights.specs.Places.{EachAt}
use Rattle.list_weights.specs.Weights.{numbers_below}
use Rattle.host_inbox.specs.Entries.{inbox_places}
use Rattle.host_inbox.specs.CarrierViews.{CarrierView}

module _ {T : Type 0} where
  -- the entries of all carriers
  abbrev pub all_entries : List (CarrierView T) → List (Entry T)
  all_entries carriers = flat_map (λ carrier. carrier.entries) carriers

  -- the numbers that were claimed of a host
  abbrev pub numbers_of : ℕ → List (Entry T) → List ℕ
  numbers_of host entries = map (λ e. e.number) (filter (λ e. e.host == host) entries)

  -- The numbers claimed of the host are those below some number, each once. For each of them that has a place its entry's
  -- parcel is there, and nothing else is drained.
  pub record IsInboxOf (host : ℕ) (entries : List (Entry T)) (parcels : List T) : Type 0 where
    pub claimed : ℕ
    pub once : IsPermutation (numbers_of host entries) (numbers_below claimed)
    pub count : length parcels ≡ min claimed inbox_places
    pub placed : All (λ e. e.host ≡ host → e.number < inbox_places → slice_get parcels e.number ≡ Some e.parcel) entries

  -- a row for each host, and no entry of another host
  pub record IsDrained (hosts : ℕ) (entries : List (Entry T)) (rows : List (Vec T Global)) : Type 0 where
    pub count : length rows ≡ hosts
    pub hosts_of : All (λ e. e.host < hosts) entries
    pub each : EachAt (λ host row. IsInboxOf host entries row.items) rows
