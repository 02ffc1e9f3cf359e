-- The places of boards that are closed.
use Rattle.std.specs.Prelude.{◌≡◌, ℕ, zero, suc, ◌+◌, ◌*◌, ◌<◌, ◌≤◌, Bool, false, List, [], ◌∷◌, ◌++◌, map, length, nat_le, slice_index_or, All, IsPermutation, Option, Some, None, Vec, vec_capacity}
use Rattle.std.specs.List.{AllByRecursion}
use mathlib.Core.Option.{some}
use lib.ListN.{get_elem?}
use Rattle.std.specs.declared.alloc.Global.{Global}
use Rattle.atomic_table.specs.Table.{Me}
use Rattle.atomic_table.specs.Seated.{TableId}
use Rattle.host_inbox.specs.declared.entry.Entry.{Entry}
use Rattle.host_inbox.specs.declared.rule.Known.{Known}
use Rattle.list_weights.specs.Weights.{numbers_below}
use Rattle.host_inbox.specs.Entries.{inbox_places, place_of}
use Rattle.host_inbox.specs.Inboxes.{known}
use Rattle.host_inbox.specs.inside.Carriers.{filed}
use Rattle.host_inbox.specs.CarrierViews.{CarrierView}
use Rattle.host_inbox.specs.Drains.{all_entries, numbers_of}

-- the first n are taken, and the others not
abbrev pub IsTakenTo : ℕ → List Bool → Type 0
IsTakenTo n filled = (k : ℕ) → k < length filled → slice_index_or filled k false ≡ nat_le n k

module _ {T : Type 0} where
  abbrev pub listed : Option T → List T
  listed (Some parcel) = parcel ∷ []
  listed None = []

  -- what lies in n places from that one on
  abbrev pub parcels_from : List (Option T) → ℕ → ℕ → List T
  parcels_from slots from zero = []
  parcels_from slots from (suc n) = parcels_from slots from n ++ listed (slice_index_or slots (from + n) None)

  -- the parcels of one host, in the order of their places
  unfoldable pub row_of : List (Option T) → ℕ → List T
  row_of slots host = parcels_from slots (host * inbox_places) inbox_places

  -- room for the parcels of one host
  abbrev pub IsRoom : Vec T Global → Type 0
  IsRoom row = (row.items ≡ []) × (inbox_places ≤ vec_capacity row)

  -- Some carriers' seats are joined into one, which knows all their entries. The others are left.
  pub record IsJoining (id : TableId) (carriers left : List (CarrierView T)) (me : Me (Option T) (Known T)) : Type 0 where
    pub entries : List (Entry T)
    pub share : ℕ
    pub knows : me ≡ (known share (map filed entries) [], [])
    pub count : length left + share ≡ length carriers
    pub all : all_entries left ++ entries ≡ all_entries carriers
    pub theirs : All (λ carrier. carrier.boards ≡ id) left

  -- A host's places: those below the number of claims have their parcels, and the others nothing.
  pub record AreLaid (host : ℕ) (entries : List (Entry T)) (slots : List (Option T)) : Type 0 where
    pub claimed : ℕ
    pub once : IsPermutation (numbers_of host entries) (numbers_below claimed)
    pub full : (number : ℕ) → number < claimed → number < inbox_places → (parcel : T) × (get_elem? slots (place_of host number) ≡ some (Some parcel))
    pub empty : (number : ℕ) → claimed ≤ number → number < inbox_places → get_elem? slots (place_of host number) ≡ some None
    pub placed : AllByRecursion (λ e. e.host ≡ host → e.number < inbox_places → get_elem? slots (place_of host e.number) ≡ some (Some e.parcel)) entries

  pub record AreClosed (hosts : ℕ) (entries : List (Entry T)) (slots : List (Option T)) : Type 0 where
    pub hosts_of : AllByRecursion (λ e. e.host < hosts) entries
    pub each : (host : ℕ) → host < hosts → AreLaid host entries slots
