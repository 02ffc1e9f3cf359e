-- Hosts that come back from workers, by their numbers.
use Rattle.std.specs.Prelude.{◌≡◌, ℕ, List, [], ◌∷◌, ◌++◌, map, flat_map, replicate, Option, Some, None, slice_set, Vec}
use Rattle.std.specs.declared.alloc.Global.{Global}
use Rattle.sim_base.specs.declared.event.Parcel.{Parcel}
use Rattle.sim_base.specs.declared.host.HostId.{HostId}
use Rattle.host_link.specs.declared.line.Logged.{Logged}
use Rattle.round_lookahead.specs.declared.workers.worked.Done.{Done}
use Rattle.round_lookahead.specs.declared.workers.worked.Worked.{Worked}
use Rattle.round_lookahead.specs.declared.world.backs.Back.{Back}
use Rattle.round_lookahead.specs.declared.world.backs.Returned.{Returned}

abbrev pub back_of : Done → Back
back_of d = record { id = d.id; host = d.host; outputs = d.outputs }

-- each host in the slot of its number
abbrev pub with_done : List Done → List (Option Back) → List (Option Back)
with_done [] slots = slots
with_done (d ∷ ds) slots = with_done ds (slice_set slots d.id.index (Some (back_of d)))

abbrev pub ids_of : List Done → List HostId
ids_of ds = map (λ d. d.id) ds

abbrev pub lines_done : List Done → List Logged
lines_done ds = flat_map (λ d. d.lines.items) ds

-- what all workers did and spilled, in the order of the workers
abbrev pub all_done : List Worked → List Done
all_done works = flat_map (λ w. w.done.items) works

abbrev pub all_spilled : List Worked → List Parcel
all_spilled works = flat_map (λ w. w.spill.items) works

abbrev pub took_by : List Worked → List (List HostId)
took_by works = map (λ w. ids_of w.done.items) works

abbrev pub lists_of : {X : Type 0} → List (Vec X Global) → List (List X)
lists_of vecs = map (λ (v : Vec _ Global). v.items) vecs

-- the work of these workers comes back
pub record Returns (works : List Worked) (old new : Returned) : Type 0 where
  pub slots : new.slots.items ≡ with_done (all_done works) old.slots.items
  pub lines : new.lines.items ≡ old.lines.items ++ lines_done (all_done works)
  pub took : lists_of new.took.items ≡ lists_of old.took.items ++ took_by works
  pub spill : new.spill.items ≡ old.spill.items ++ all_spilled works

-- it has come back, for so many hosts
pub record AreReturned (count : ℕ) (works : List Worked) (r : Returned) : Type 0 where
  pub slots : r.slots.items ≡ with_done (all_done works) (replicate count None)
  pub lines : r.lines.items ≡ lines_done (all_done works)
  pub took : lists_of r.took.items ≡ took_by works
  pub spill : r.spill.items ≡ all_spilled works
