-- The walk over every event at a host: a property that each step of an event keeps is kept by the event.
use Rattle.std.proofs.Common.{◌≡◌, ℕ, zero, suc, ◌≤◌, ◌&&◌, Bool, true, false, not, List, [], ◌∷◌, min, length, Option, Some, None, nat_lt, slice_get, refl, rules, tests}
use Rattle.std.specs.List.{AllByRecursion}
use Rattle.sim_base.specs.Limits.{most_processes}
use Rattle.sim_base.specs.Packet.{packet_size}
use Rattle.sim_base.specs.declared.act.Act.TheVariants.{FullDown}
use Rattle.sim_base.specs.declared.alarm.AlarmTarget.{AlarmTarget}
use Rattle.sim_base.specs.declared.event.Event.{Event}
use Rattle.sim_base.specs.declared.event.What.{What}
use Rattle.sim_base.specs.declared.event.What.TheVariants as what
use Rattle.sim_base.specs.declared.packet.Packet.{Packet}
use Rattle.sim_base.specs.declared.signal.Signal.{Signal}
use Rattle.sim_base.specs.declared.signal.Signal.TheVariants.{SigXcpu}
use Rattle.sim_base.specs.declared.size.TheConstants.{MAX_PACKET}
use Rattle.sim_base.specs.declared.time.Time.{Time}
use Rattle.net_iface.specs.declared.lane.Pushed.{Pushed}
use Rattle.net_iface.specs.declared.lane.Pushed.TheVariants.{Leaves, Waits, Dropped}
use Rattle.net_iface.specs.Lane.{pushed, released}
use Rattle.rv32_machine.specs.declared.cpu.Cpu.{Cpu}
use Rattle.rv32_machine.specs.declared.outcome.TurnEnd.{TurnEnd}
use Rattle.rv32_machine.specs.declared.outcome.TurnEnd.TheVariants as end
use Rattle.rv32_machine.specs.Table.{state}
use Rattle.rv32_machine.specs.Turn.{turn}
use Rattle.file_calls.specs.declared.task.Task.{Task}
use Rattle.file_calls.specs.declared.task.Why.{Why}
use Rattle.host_calls.specs.Calls.{call}
use Rattle.host_calls.specs.Events.{alarmed, ended}
use Rattle.host_calls.specs.Parts.{PartsRecord}
use Rattle.host_calls.specs.Starting.{task_starts}
use Rattle.host_link.specs.Net.{Net}
use Rattle.host_link.specs.Lanes.{with_down}
use Rattle.host_link.specs.Link.{makes, later, logs}
use Rattle.host_link.specs.Sending.{is_bootstrapping, makes_if, drop_all, up_comes}
use Rattle.guest_process.specs.declared.process.Process.{Process}
use Rattle.guest_process.specs.declared.process.Running.{Running}
use Rattle.guest_process.specs.declared.start.Started.{Started}
use Rattle.host_state.specs.Step.{Step}
use Rattle.host_state.specs.Step as step
use Rattle.host_state.specs.Arriving.{is_handed_over, are_handed_over, goes_in, comes_to_router, comes_in, down_comes}
use Rattle.host_state.specs.Fire.{begins, starts, ready, running_in, is_not_started, kept_by, runs_on, goes_if, goes, is_shut, shutdown_signal, shuts_if, shuts, rings, acts, wakes_if, would_answer, wakes_in, wakes, wakes_from, wakes_all, at_time, has_acted}
use Rattle.host_state.specs.Host.{with_link, with_parts, on_wire, does_wanted}
use Rattle.host_state.specs.HostRecord.{HostRecord}
use Rattle.host_state.specs.Slice.{has_task, with_task, number_in, arguments_in, calls, closes, is_killed, by_turn_end, turns, runs_to_call, rests, has_ended, after_step, slice, follows, goes_later, pause}
use Rattle.host_laws.proofs.Links.{by_if}

-- ---- packets of the router's lane

-- what a push gives, also what it drops
abbrev pub PushIs : (Packet → Type 0) → Pushed → Type 0
PushIs P (Leaves packet) = P packet
PushIs P (Waits due) = Unit {0}
PushIs P (Dropped packet) = P packet

-- what is done with packets that are so keeps a property of the host
pub record HandsKeep (net : Net) (P : Packet → Type 0) (H : HostRecord → Type 0) : Type 0 where
  pub handed : (packet : Packet) (h : HostRecord) → P packet → H h → H (is_handed_over net packet h)
  pub full : (packet : Packet) (h : HostRecord) → P packet → H h → H (with_link (logs FullDown packet h.link) h)
  pub next : (due : Option Time) (h : HostRecord) → H h → H (with_link (makes_if due what.Down h.link) h)

-- a host with what came to its lane, and with what left it
abbrev pub HasPushed : (Packet → Type 0) → (HostRecord → Type 0) → Packet → HostRecord → Type 0
HasPushed P H packet h =
    PushIs P (pushed h.link.time packet h.link.down).0 × H (with_link (with_down (pushed h.link.time packet h.link.down).1 h.link) h)

abbrev pub HasReleased : (Packet → Type 0) → (HostRecord → Type 0) → HostRecord → Type 0
HasReleased P H h =
    AllByRecursion P (released h.link.time h.link.down).packets
    × H (with_link (drop_all (released h.link.time h.link.down).dropped (with_down (released h.link.time h.link.down).lane h.link)) h)

module _ (net : Net) (P : Packet → Type 0) (H : HostRecord → Type 0) (hands : HandsKeep net P H) where
  all_handed : (packets : List Packet) (h : HostRecord) → AllByRecursion P packets → H h → H (are_handed_over net packets h)
  unfolding are_handed_over
  all_handed [] h each k = k
  all_handed (p ∷ packets) h each k = all_handed packets (is_handed_over net p h) each.1 (hands.handed p h each.0 k)

  going_in : (t : Pushed) (h : HostRecord) → PushIs P t → H h → H (goes_in net t h)
  going_in (Leaves p) h fits k = hands.handed p h fits k
  going_in (Waits due) h fits k = hands.next due h k
  going_in (Dropped p) h fits k = hands.full p h fits k

  pub router_keeps : (packet : Packet) (h : HostRecord) → HasPushed P H packet h → H (comes_to_router net packet h)
  unfolding comes_to_router
  router_keeps packet h has =
      let t = pushed h.link.time packet h.link.down in going_in t.0 (with_link (with_down t.1 h.link) h) has.0 has.1

  pub down_keeps : (h : HostRecord) → HasReleased P H h → H (down_comes net h)
  unfolding down_comes
  down_keeps h has =
      let r = released h.link.time h.link.down in
      let left : HostRecord = with_link (drop_all r.dropped (with_down r.lane h.link)) h in
      hands.next r.next (are_handed_over net r.packets left) (all_handed r.packets left has.0 has.1)

-- ---- steps

-- how the parts of a host act, other than by an arrival: a process calls, begins or ends, an alarm rings, the machine turns, and what
-- a process was in is let go
pub data PartsAct (net : Net) (h : HostRecord) : PartsRecord → Type 0 where
  Calls : (p number : ℕ) (arguments : List ℕ) → PartsAct net h (call net.known h.link.time p number arguments h.parts).1
  Begins : (p : ℕ) (s : Started) → ready net h.row p ≡ Some s → PartsAct net h (task_starts p s.memory h.parts)
  Ends : (p : ℕ) → PartsAct net h (ended h.link.time p h.parts)
  Rings : (target : AlarmTarget) (serial : ℕ) → PartsAct net h (alarmed h.link.time target serial h.parts)
  Turns : (p : ℕ) (cpu : Cpu) (task : Task) → slice_get h.parts.tasks p ≡ Some (Some task)
      → PartsAct net h (with_task p (Some (record task { memory = (turn net.budget (state cpu task.memory)).state.memory })) h.parts)
  LetsGo : (p : ℕ) → PartsAct net h (with_task p None h.parts)

-- the steps of an event that brings what fits keep a property of the host
pub record StepsKeep (net : Net) (Fits : What → Type 0) (H : HostRecord → Type 0) : Type 0 where
  pub acted : (h : HostRecord) (parts : PartsRecord) → PartsAct net h parts → H h → H (with_parts parts h)
  pub wanted : (h : HostRecord) → H h → H (does_wanted net h)
  pub beside : (processes : List Process) (h : HostRecord) → H h → H (record h { processes = processes })
  pub pauses : (nanos p : ℕ) (h : HostRecord) → H h → H (with_link (makes (later h.link.time nanos) (what.Go p) h.link) h)
  pub up : (h : HostRecord) → H h → H (on_wire (up_comes net) h)
  pub down : (h : HostRecord) → Fits what.Down → H h → H (down_comes net h)
  pub loops : (packet : Packet) (h : HostRecord) → Fits (what.Loop packet) → H h → H (is_handed_over net packet h)
  pub comes : (packet : Packet) (h : HostRecord) → Fits (what.Packet packet) → packet_size packet ≤ MAX_PACKET → H h → H (is_handed_over net packet h)
  pub routed : (packet : Packet) (h : HostRecord) → Fits (what.Packet packet) → packet_size packet ≤ MAX_PACKET → H h → H (comes_to_router net packet h)

module _ (net : Net) (Fits : What → Type 0) (H : HostRecord → Type 0) (keep : StepsKeep net Fits H) where
  -- of a step's host
  abbrev S : Step × HostRecord → Type 0
  S t = H t.1

  parts_acted : (h : HostRecord) (parts : PartsRecord) → PartsAct net h parts → H h → H (does_wanted net (with_parts parts h))
  parts_acted h parts act k = keep.wanted (with_parts parts h) (keep.acted h parts act k)

  -- ---- slices

  calling : (p number : ℕ) (arguments : List ℕ) (cpu : Cpu) (h : HostRecord) → H h → S (calls net p number arguments cpu h)
  unfolding calls
  calling p number arguments cpu h k =
      by_if S (has_task p h.parts) _ _
      (λ e. parts_acted h (call net.known h.link.time p number arguments h.parts).1 (Calls p number arguments) k)
      (λ e. k)

  closing : (p : ℕ) (h : HostRecord) → H h → H (closes net p h)
  unfolding closes
  closing p h k = by_if H (has_task p h.parts) _ _ (λ e. parts_acted h (ended h.link.time p h.parts) (Ends p) k) (λ e. k)

  killing : (p : ℕ) (cause : Signal) (h : HostRecord) → H h → S (is_killed net p cause h)
  unfolding is_killed
  killing p cause h k = closing p h k

  ending : (p : ℕ) (e : TurnEnd) (cpu : Cpu) (h : HostRecord) → H h → S (by_turn_end net p e cpu h)
  unfolding by_turn_end
  ending p end.Call cpu h k = calling p (number_in cpu) (arguments_in cpu) cpu h k
  ending p (end.Trap cause) cpu h k = killing p cause h k
  ending p end.Spent cpu h k = killing p SigXcpu h k

  turning : (p : ℕ) (cpu : Cpu) (found : Option (Option Task)) (h : HostRecord) → slice_get h.parts.tasks p ≡ found → H h → S (turns net p cpu found h)
  turning p cpu None h there k = k
  turning p cpu (Some None) h there k = k
  turning p cpu (Some (Some task)) h there k =
      let t = turn net.budget (state cpu task.memory) in
      let parts = with_task p (Some (record task { memory = t.state.memory })) h.parts in
      ending p t.end t.state.cpu (with_parts parts h) (keep.acted h parts (Turns p cpu task there) k)

  running : (p : ℕ) (cpu : Cpu) (h : HostRecord) → H h → S (runs_to_call net p cpu h)
  unfolding runs_to_call
  running p cpu h k = turning p cpu (slice_get h.parts.tasks p) h refl k

  pausing : (nanos p : ℕ) (cpu : Cpu) (h : HostRecord) → H h → H (goes_later nanos p cpu h)
  unfolding goes_later
  pausing nanos p cpu h k = keep.beside _ (with_link (makes (later h.link.time nanos) (what.Go p) h.link) h) (keep.pauses nanos p h k)

  after : (p n : ℕ) (s : Step) (h : HostRecord) → ((cpu : Cpu) (x : HostRecord) → H x → H (slice net p n cpu x)) → H h → H (after_step (slice net p n) p (s, h))
  unfolding rests has_ended
  after p n (step.GoesOn cpu) h more k = more cpu h k
  after p n (step.Blocks cpu) h more k = keep.beside _ h k
  after p n (step.Ends s) h more k =
      let parts = with_task p None h.parts in keep.beside _ (with_parts parts h) (keep.acted h parts (LetsGo p) k)

  slicing : (p n : ℕ) (cpu : Cpu) (h : HostRecord) → H h → H (slice net p n cpu h)
  unfolding slice
  slicing p zero cpu h k = pausing pause p cpu h k
  slicing p (suc n) cpu h k =
      after p n (runs_to_call net p cpu h).0 (runs_to_call net p cpu h).1 (λ cpu x j. slicing p n cpu x j) (running p cpu h k)

  following : (p : ℕ) (t : Step × HostRecord) → S t → H (follows net p t)
  unfolding follows
  following p t k = after p 99 t.0 t.1 (λ cpu x j. slicing p 99 cpu x j) k

  -- ---- the table of events

  beginning : (p : ℕ) (found : Option Started) (h : HostRecord) → ready net h.row p ≡ found → H h → H (begins net p found h)
  beginning p None h is k = k
  beginning p (Some s) h is k =
      let parts = task_starts p s.memory h.parts in
      by_if H (has_task p h.parts) _ _ (λ e. slicing p 100 s.cpu (with_parts parts h) (keep.acted h parts (Begins p s is) k)) (λ e. k)

  starting : (p : ℕ) (h : HostRecord) → H h → H (starts net p h)
  unfolding starts
  starting p h k =
      by_if H (is_not_started (slice_get h.processes p)) _ _ (λ e. beginning p (ready net h.row p) h refl k) (λ e. k)

  running_on : (p : ℕ) (r : Running) (why : Option Why) (h : HostRecord) → H h → H (runs_on net p r why h)
  running_on p r None h k = slicing p 100 r.cpu h k
  running_on p r (Some why) h k = following p (calls net p why.number why.args r.cpu h) (calling p why.number why.args r.cpu h k)

  going_if : (p : ℕ) (found : Option Running) (h : HostRecord) → H h → H (goes_if net p found h)
  going_if p None h k = k
  going_if p (Some r) h k = running_on p r (kept_by p h) h k

  going_on : (p : ℕ) (h : HostRecord) → H h → H (goes net p h)
  unfolding goes
  going_on p h k = going_if p (running_in (slice_get h.processes p)) h k

  being_shut : (p : ℕ) (found : Option Signal) (h : HostRecord) → H h → H (is_shut net p found h)
  being_shut p None h k = k
  being_shut p (Some cause) h k = following p (is_killed net p cause h) (killing p cause h k)

  shutting_if : (p : ℕ) (found : Option Running) (h : HostRecord) → H h → H (shuts_if net p found h)
  shutting_if p None h k = k
  shutting_if p (Some r) h k = being_shut p (shutdown_signal h.row p) h k

  shutting : (p : ℕ) (h : HostRecord) → H h → H (shuts net p h)
  unfolding shuts
  shutting p h k = shutting_if p (running_in (slice_get h.processes p)) h k

  ringing : (target : AlarmTarget) (serial : ℕ) (h : HostRecord) → H h → H (rings net target serial h)
  unfolding rings
  ringing target serial h k = parts_acted h (alarmed h.link.time target serial h.parts) (Rings target serial) k

  coming_in : (packet : Packet) (h : HostRecord) → Fits (what.Packet packet) → H h → H (comes_in net packet h)
  unfolding comes_in
  coming_in packet h fits k =
      by_if H (nat_lt MAX_PACKET (packet_size packet)) _ _ (λ e. k)
      (λ is.
      let small : packet_size packet ≤ MAX_PACKET = search (rules, tests) in
      by_if H (is_bootstrapping net h.link.time) _ _ (λ e. keep.comes packet h fits small k) (λ e. keep.routed packet h fits small k))

  acting : (w : What) (h : HostRecord) → Fits w → H h → H (acts net w h)
  unfolding acts
  acting (what.Start p) h fits k = starting p h k
  acting (what.Go p) h fits k = going_on p h k
  acting (what.Shutdown p) h fits k = shutting p h k
  acting (what.Alarm target serial) h fits k = ringing target serial h k
  acting (what.Loop packet) h fits k = keep.loops packet h fits k
  acting what.Up h fits k = keep.up h k
  acting what.Down h fits k = keep.down h fits k
  acting (what.Packet packet) h fits k = coming_in packet h fits k

  -- ---- processes wake

  waking_if : (wake : Bool) (p : ℕ) (r : Running) (h : HostRecord) → H h → H (wakes_if wake p r h)
  waking_if true p r h k = pausing 1 p r.cpu h k
  waking_if false p r h k = k

  waking_in : (p : ℕ) (found : Option Running) (h : HostRecord) → H h → H (wakes_in net p found h)
  waking_in p None h k = k
  waking_in p (Some r) h k = waking_if (not r.goes && would_answer net p (kept_by p h) h) p r h k

  waking : (p : ℕ) (h : HostRecord) → H h → H (wakes net p h)
  unfolding wakes
  waking p h k = waking_in p (running_in (slice_get h.processes p)) h k

  waking_from : (p n : ℕ) (h : HostRecord) → H h → H (wakes_from net p n h)
  unfolding wakes_from
  waking_from p zero h k = k
  waking_from p (suc n) h k = waking_from (suc p) n (wakes net p h) (waking p h k)

  waking_all : (h : HostRecord) → H h → H (wakes_all net h)
  unfolding wakes_all
  waking_all h k = waking_from 0 (min (length h.processes) most_processes) h k

  -- an event fires at its time
  pub event_keeps : (e : Event) (h : HostRecord) → Fits e.what → H (at_time e.key.due h) → H (has_acted net e h)
  unfolding has_acted
  event_keeps e h fits k =
      let start : HostRecord = at_time e.key.due h in waking_all (acts net e.what start) (acting e.what start fits k)
