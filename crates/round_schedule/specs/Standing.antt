-- What a round of hosts stands for.
use Rattle.std.specs.Prelude.{◌≡◌, ℕ, List, [], ◌++◌, length, map, flat_map, All, IsPermutation, Option, Some, None, option_map, slice_get, replicate, true, false}
use Rattle.sim_base.specs.declared.event.Event.{Event}
use Rattle.sim_base.specs.declared.event.Parcel.{Parcel}
use Rattle.file_calls.specs.declared.task.Output.{Output}
use Rattle.host_state.specs.declared.host.Host.{Host}
use Rattle.host_link.specs.declared.line.Line.{Line}
use Rattle.host_link.specs.declared.line.Logged.{Logged as HostLogged}
use Rattle.host_link.specs.Net.{Net}
use Rattle.host_link.specs.Home.{home}
use Rattle.host_state.specs.HostRecord.{HostRecord}
use Rattle.host_state.specs.HostStands.{Stands}
use Rattle.host_link.specs.Parcels.{parcel_event}
use Rattle.world_order.specs.Round as order
use Rattle.world_order.specs.World.{World, Logged}
use Rattle.round_schedule.specs.declared.member.Member.{Member}
use Rattle.round_schedule.specs.declared.member.Stage.{Stage}
use Rattle.round_schedule.specs.declared.member.Stage.TheVariants as stage
use Rattle.round_schedule.specs.declared.member.Worker.{Worker}
use Rattle.round_schedule.specs.declared.round.Round.{Round}

-- ---- each of a list for one of another

-- as many, and each stands for the one of its place
pub record EachStands {C X : Type 0} (IsFor : ℕ → C → X → Type 0) (cs : List C) (xs : List X) : Type 0 where
  pub count : length cs ≡ length xs
  pub each : (i : ℕ) (c : C) (x : X) → slice_get cs i ≡ Some c → slice_get xs i ≡ Some x → IsFor i c x

-- ---- hosts and their events

-- the hosts stand for those of a world, and hold its events, each once and at its home
pub record HostsStand (net : Net) (cs : List Host) (w : World HostRecord Line) : Type 0 where
  pub hosts : EachStands (λ i (c : Host) (h : HostRecord). Stands c h) cs w.hosts
  pub events : IsPermutation (flat_map (λ (c : Host). c.queue) cs) w.events
  pub home : (i : ℕ) (c : Host) → slice_get cs i ≡ Some c → All (λ (e : Event). home net e ≡ i) c.queue

-- ---- parcels, lines and outputs

-- the parcels are these packets, each for the host at which it fires
pub record ParcelsStand (net : Net) (parcels : List Parcel) (es : List Event) : Type 0 where
  pub events : map parcel_event parcels ≡ es
  pub home : All (λ (p : Parcel). p.to.index ≡ home net (parcel_event p)) parcels

-- what stands in a place
abbrev pub PlaceStands : Net → ℕ → Option Parcel → Option Event → Type 0
PlaceStands net i None None = Unit {0}
PlaceStands net i (Some p) (Some e) = (parcel_event p ≡ e) × (p.to.index ≡ home net e)
PlaceStands net i _ _ = ⊥

abbrev pub line_of : HostLogged → Logged Line
line_of l = record { key = l.key; line = l.line }

-- the lines of a list, with their keys
abbrev pub lines_of : List HostLogged → List (Logged Line)
lines_of lines = map line_of lines

abbrev pub written_in : Option HostRecord → List Output
written_in None = []
written_in (Some h) = h.written

-- what the processes of a world's host have written
abbrev pub written_at : World HostRecord Line → ℕ → List Output
written_at w i = written_in (slice_get w.hosts i)

-- ---- a round that goes on

abbrev pub stage_of : Stage → order.Stage
stage_of stage.Waits = order.Waits
stage_of (stage.InHand worker) = order.InHand worker
stage_of stage.Done = order.Done

-- host i of a round that was opened on a world, with its events, its stage, its places, and what its processes wrote behind what they had
-- written in that world
pub record MemberStands (net : Net) (w : World HostRecord Line) (i : ℕ) (c : Member) (x : order.Member HostRecord) : Type 0 where
  pub host : Stands c.host x.host
  pub queue : IsPermutation c.host.queue x.queue
  pub home : All (λ (e : Event). home net e ≡ i) c.host.queue
  pub stage : stage_of c.stage ≡ x.stage
  pub places : EachStands (PlaceStands net) c.places.items x.places
  pub outputs : x.host.written ≡ written_at w i ++ c.outputs.items

pub record WorkerStands (net : Net) (c : Worker) (x : order.Worker) : Type 0 where
  pub hand : ParcelsStand net c.hand.items x.hand
  pub spill : ParcelsStand net c.spill.items x.spill

-- a round that was opened on a world, and goes on
pub record GoingStands (net : Net) (w : World HostRecord Line) (c : Round) (r : order.Round HostRecord Line) : Type 0 where
  pub unclosed : c.closed ≡ false
  pub end : c.window.end.nanos ≡ r.end
  pub members : EachStands (MemberStands net w) c.members.items r.members
  pub workers : EachStands (λ i. WorkerStands net) c.workers.items r.workers
  pub lines : lines_of c.lines.items ≡ r.lines

-- ---- a closed round

-- a round that was opened on a world, and is closed: its lines and outputs end the log and what was written
pub record ClosedStands (net : Net) (w : World HostRecord Line) (c : Round) (v : World HostRecord Line) : Type 0 where
  pub closed : c.closed ≡ true
  pub hosts : HostsStand net (map (λ (m : Member). m.host) c.members.items) v
  pub outputs : EachStands (λ i (m : Member) (h : HostRecord). h.written ≡ written_at w i ++ m.outputs.items) c.members.items v.hosts
  pub lines : lines_of c.lines.items ≡ v.log

-- a round that was opened on a world
abbrev pub RoundStands : Net → World HostRecord Line → Round → order.State HostRecord Line → Type 0
RoundStands net w c (order.Going r) = GoingStands net w c r
RoundStands net w c (order.Closed v) = ClosedStands net w c v

-- ---- a round that begins

-- workers with nothing in their hands
pub record AreIdle (n : ℕ) (workers : List Worker) : Type 0 where
  pub count : length workers ≡ n
  pub each : (i : ℕ) (m : Worker) → slice_get workers i ≡ Some m → (m.hand.items ≡ []) × (m.spill.items ≡ [])

-- a host waits, with free places, and has written nothing
pub record IsWaiting (h : Host) (m : Member) : Type 0 where
  pub host : m.host ≡ h
  pub stage : m.stage ≡ stage.Waits
  pub places : m.places.items ≡ replicate 16 None
  pub outputs : m.outputs.items ≡ []
