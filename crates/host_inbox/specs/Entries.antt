-- What was put, and the numbers that were claimed.
use Rattle.std.specs.Prelude.{ℕ, ◌+◌, ◌*◌, ◌==◌}
pub use Rattle.list_weights.specs.Weights.{only}
use Rattle.host_inbox.specs.declared.entry.Entry.{Entry}
use Rattle.host_inbox.specs.declared.entry.Claim.{Claim}

-- the places of a host's inbox, in the order of the numbers that are claimed for them
abbrev pub inbox_places : ℕ
inbox_places = 16

abbrev pub place_of : ℕ → ℕ → ℕ
place_of host number = host * inbox_places + number

abbrev pub claim : ℕ → ℕ → Claim
claim host number = record { host = host; number = number }

-- the number's weight, where the claim is of that host
abbrev pub claim_weight : ℕ → (ℕ → ℕ) → Claim → ℕ
claim_weight host h c = only (c.host == host) (h c.number)

module _ {X : Type 0} where
  abbrev pub entry : ℕ → ℕ → X → Entry X
  entry host number parcel = record { host = host; number = number; parcel = parcel }

  abbrev pub entry_weight : ℕ → (ℕ → ℕ) → Entry X → ℕ
  entry_weight host h e = only (e.host == host) (h e.number)
