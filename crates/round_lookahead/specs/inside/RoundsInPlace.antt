-- A round in which each host is run in its place is a round of workers whose work is put back.
use Rattle.std.specs.Prelude.{◌≡◌, ℕ, List, ◌++◌, map, length, Vec, All, Option, IsPermutation}
use Rattle.std.specs.declared.alloc.Global.{Global}
use Rattle.sim_base.specs.declared.event.Parcel.{Parcel}
use Rattle.sim_base.specs.declared.time.Time.{Time}
use Rattle.event_order.specs.Events.{IsLeastDue}
use Rattle.host_link.specs.declared.line.Line.{Line}
use Rattle.host_link.specs.Home.{home}
use Rattle.host_link.specs.Net.{Net}
use Rattle.host_link.specs.Parcels.{parcel_event}
use Rattle.host_state.specs.Running.{kept_line}
use Rattle.world_order.specs.Round.{in_order}
use Rattle.world_order.specs.World as order
use Rattle.host_state.specs.HostRecord.{HostRecord}
use Rattle.round_lookahead.specs.declared.workers.host_task.HostTask.{HostTask}
use Rattle.round_lookahead.specs.declared.workers.worked.Worked.{Worked}
use Rattle.round_lookahead.specs.declared.world.gained.Gained.{Gained}
use Rattle.round_lookahead.specs.declared.world.in_place.Alone.{Alone}
use Rattle.round_lookahead.specs.declared.world.settling_in_place.RanInPlace.{RanInPlace}
use Rattle.round_lookahead.specs.declared.world.took.Took.{Took}
use Rattle.round_parts.specs.Arrivals.{Boxed}
use Rattle.round_parts.specs.Dues.{lesser_due}
use Rattle.round_parts.specs.Rows.{row_arrivals, AreAtHome}
use Rattle.round_lookahead.specs.inside.Rounds.{IsRound}
use Rattle.round_lookahead.specs.inside.Settles.{HasSettled}
use Rattle.round_lookahead.specs.inside.Waits.{IsSameHosts, rows_of}
use Rattle.round_lookahead.specs.Tasks.{AreTasks}

-- some work of so many workers gives these tasks and pieces
pub record IsRoundInPlace (net : Net) (end workers : ℕ) (old : List HostTask) (new : Vec HostTask Global) (p : Gained) : Type 0 where
  pub works : List Worked
  pub rows : List (Vec Boxed Global)
  pub many : length works ≡ workers
  pub round : (rec : ℕ → HostRecord) → AreTasks net old rec → IsRound net end old rec works rows
  pub settled : HasSettled (length old) works rows (record { tasks = new; gained = p })

-- the packets that hosts made in their places wait for them; the lines stand in the order of their keys
pub record HasSettledInPlace (old : List HostTask) (a : Alone) (how : Took) (new : Vec HostTask Global) (ran : RanInPlace) : Type 0 where
  pub same : IsSameHosts old new.items
  pub packets : IsPermutation (row_arrivals (rows_of new.items)) (map parcel_event a.spill.items ++ row_arrivals (rows_of old))
  pub theirs : (n : Net) → All (λ (p : Parcel). home n (parcel_event p) ≡ p.to.index) a.spill.items → AreAtHome n (rows_of old) → AreAtHome n (rows_of new.items)
  pub outputs : ran.gained.outputs ≡ a.outputs
  pub lines : (all : List (order.Logged Line)) → a.lines.items ≡ map kept_line all → ran.gained.lines.items ≡ map kept_line (in_order all)
  pub took : ran.gained.took ≡ how
  pub first : Option Time
  pub arrive : IsLeastDue (map parcel_event a.spill.items) first
  pub due : ran.due ≡ lesser_due first a.due
