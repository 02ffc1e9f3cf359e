-- A carrier's fields, as contracts see them.
use Rattle.std.specs.Prelude.{◌≡◌, Bool, true, false, [], map, nat_lt, Option, Some, None}
use Rattle.host_inbox.specs.declared.entry.Entry.{Entry}
use Rattle.host_inbox.specs.declared.carrier.Carrier.TheInside.{Inside}
use Rattle.host_inbox.specs.CarrierViews.{CarrierView}
use Rattle.host_inbox.specs.Entries.{inbox_places, entry}
use Rattle.host_inbox.specs.Inboxes.{known}

module _ {T : Type 0} where
  abbrev pub kept_if : Bool → T → Option T
  kept_if true parcel = Some parcel
  kept_if false parcel = None

  -- an entry as a seat knows it: with its parcel where the number has a place
  abbrev pub filed : Entry T → Entry (Option T)
  filed e = entry e.host e.number (kept_if (nat_lt e.number inbox_places) e.parcel)

  abbrev pub carrier_view : Inside T → CarrierView T
  carrier_view c = record { boards = c.seat.table_id; entries = c.trail }

  -- the seat knows just the entries, and holds no place
  abbrev pub IsSoundCarrier : Inside T → Type 0
  IsSoundCarrier c = c.seat.me ≡ (known 1 (map filed c.trail) [], [])
