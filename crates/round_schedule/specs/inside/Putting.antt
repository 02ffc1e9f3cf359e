-- What becomes of workers and hosts as a packet is put.
use Rattle.std.specs.Prelude.{◌≡◌, ℕ, [], ◌∷◌, ◌++◌, Some, slice_set}
use Rattle.sim_base.specs.declared.event.Parcel.{Parcel}
use Rattle.round_schedule.specs.declared.member.Member.{Member}
use Rattle.round_schedule.specs.declared.member.Worker.{Worker}

-- the first packet of the hand is the last of the spill
pub record Spills (old new : Worker) : Type 0 where
  pub parcel : Parcel
  pub hand : old.hand.items ≡ parcel ∷ new.hand.items
  pub spill : new.spill.items ≡ old.spill.items ++ parcel ∷ []

-- a place has a packet, and all else is the same
pub record HasPlaced (place : ℕ) (parcel : Parcel) (old new : Member) : Type 0 where
  pub places : new.places.items ≡ slice_set old.places.items place (Some parcel)
  pub host : new.host ≡ old.host
  pub stage : new.stage ≡ old.stage
  pub outputs : new.outputs ≡ old.outputs
