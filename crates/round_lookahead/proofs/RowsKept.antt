-- A firing leaves a host's row as it is.
use Rattle.std.proofs.Common.{◌≡◌, ℕ, zero, suc, ◌&&◌, Bool, true, false, not, List, [], ◌∷◌, min, length, Option, Some, None, nat_lt, slice_get, refl, ◌∙◌}
use Rattle.sim_base.specs.declared.event.Event.{Event}
use Rattle.sim_base.specs.declared.event.What.{What}
use Rattle.sim_base.specs.declared.event.What.TheVariants as what
use Rattle.sim_base.specs.declared.packet.Packet.{Packet}
use Rattle.sim_base.specs.declared.signal.Signal.{Signal}
use Rattle.sim_base.specs.declared.signal.Signal.TheVariants.{SigXcpu}
use Rattle.sim_base.specs.declared.size.TheConstants.{MAX_PACKET}
use Rattle.sim_base.specs.Packet.{packet_size}
use Rattle.net_iface.specs.declared.lane.Pushed.{Pushed}
use Rattle.net_iface.specs.declared.lane.Pushed.TheVariants.{Leaves, Waits, Dropped}
use Rattle.rv32_machine.specs.declared.cpu.Cpu.{Cpu}
use Rattle.rv32_machine.specs.declared.outcome.TurnEnd.{TurnEnd}
use Rattle.rv32_machine.specs.declared.outcome.TurnEnd.TheVariants as end
use Rattle.rv32_machine.specs.Table.{state}
use Rattle.rv32_machine.specs.Turn.{turn}
use Rattle.file_calls.specs.declared.task.Task.{Task}
use Rattle.file_calls.specs.declared.task.Why.{Why}
use Rattle.host_calls.specs.Calls.{call}
use Rattle.host_calls.specs.Events.{ended}
use Rattle.host_calls.specs.Starting.{task_starts}
use Rattle.host_link.specs.Net.{Net}
use Rattle.guest_process.specs.declared.process.Running.{Running}
use Rattle.host_state.specs.Arriving.{is_handed_over, are_handed_over, goes_in, comes_to_router, comes_in, down_comes}
use Rattle.host_state.specs.Fire.{begins, starts, ready, running_in, is_not_started, kept_by, runs_on, goes_if, goes, is_shut, shutdown_signal, shuts_if, shuts, rings, acts, wakes_if, would_answer, wakes_in, wakes, wakes_from, wakes_all, at_time, has_acted}
use Rattle.host_state.specs.Host.{with_link, with_parts, does_wanted}
use Rattle.host_state.specs.HostRecord.{HostRecord}
use Rattle.host_link.specs.Lanes.{pushes_down, releases_down}
use Rattle.host_link.specs.Sending.{is_bootstrapping, drop_all}
use Rattle.host_state.specs.Step.{Step}
use Rattle.host_state.specs.Step as step
use Rattle.host_state.specs.Slice.{has_task, number_in, arguments_in, calls, closes, is_killed, by_turn_end, turns, runs_to_call, rests, has_ended, after_step, slice, follows, goes_later, pause}
use Rattle.host_state.proofs.Growth.{by_if}

by_found : {X : Type 0} (P : Option X → Type 0) (found : Option X) → P None → ((x : X) → P (Some x)) → P found
by_found P None none some = none
by_found P (Some x) none some = some x

module _ (net : Net) where
  -- the second host has the row of the first
  abbrev Kept : HostRecord → HostRecord → Type 0
  Kept h k = k.row ≡ h.row

  doing_wanted : (h : HostRecord) → Kept h (does_wanted net h)
  unfolding does_wanted
  doing_wanted h = refl

  -- ---- packets

  handed : (packet : Packet) (h : HostRecord) → Kept h (is_handed_over net packet h)
  unfolding is_handed_over does_wanted
  handed packet h = refl

  all_handed : (packets : List Packet) (h : HostRecord) → Kept h (are_handed_over net packets h)
  unfolding are_handed_over
  all_handed [] h = refl
  all_handed (p ∷ ps) h = all_handed ps (is_handed_over net p h) ∙ handed p h

  going_in : (t : Pushed) (h : HostRecord) → Kept h (goes_in net t h)
  going_in (Leaves p) h = handed p h
  going_in (Waits due) h = refl
  going_in (Dropped p) h = refl

  coming_to_router : (packet : Packet) (h : HostRecord) → Kept h (comes_to_router net packet h)
  unfolding comes_to_router
  coming_to_router packet h = let t = pushes_down packet h.link in going_in t.0 (with_link t.1 h)

  coming_in : (packet : Packet) (h : HostRecord) → Kept h (comes_in net packet h)
  unfolding comes_in
  coming_in packet h =
      by_if (Kept h) (nat_lt MAX_PACKET (packet_size packet)) _ _ (λ _. refl)
      (λ _. by_if (Kept h) (is_bootstrapping net h.link.time) _ _ (λ _. handed packet h) (λ _. coming_to_router packet h))

  coming_down : (h : HostRecord) → Kept h (down_comes net h)
  unfolding down_comes
  coming_down h = let t = releases_down h.link in all_handed t.0.packets (with_link (drop_all t.0.dropped t.1) h)

  -- ---- slices

  -- and that of a step
  abbrev KeptBy : HostRecord → Step × HostRecord → Type 0
  KeptBy h t = Kept h t.1

  calling : (p number : ℕ) (arguments : List ℕ) (cpu : Cpu) (h : HostRecord) → KeptBy h (calls net p number arguments cpu h)
  unfolding calls
  calling p number arguments cpu h =
      by_if (KeptBy h) (has_task p h.parts) _ _ (λ _. doing_wanted (with_parts (call net.known h.link.time p number arguments h.parts).1 h)) (λ _. refl)

  closing : (p : ℕ) (h : HostRecord) → Kept h (closes net p h)
  unfolding closes
  closing p h = by_if (Kept h) (has_task p h.parts) _ _ (λ _. doing_wanted (with_parts (ended h.link.time p h.parts) h)) (λ _. refl)

  killing : (p : ℕ) (signal : Signal) (h : HostRecord) → KeptBy h (is_killed net p signal h)
  unfolding is_killed
  killing p _ h = closing p h

  ending : (p : ℕ) (e : TurnEnd) (cpu : Cpu) (h : HostRecord) → KeptBy h (by_turn_end net p e cpu h)
  unfolding by_turn_end
  ending p end.Call cpu h = calling p (number_in cpu) (arguments_in cpu) cpu h
  ending p (end.Trap signal) cpu h = killing p signal h
  ending p end.Spent cpu h = killing p SigXcpu h

  turning : (p : ℕ) (cpu : Cpu) (found : Option (Option Task)) (h : HostRecord) → KeptBy h (turns net p cpu found h)
  turning p cpu None h = refl
  turning p cpu (Some None) h = refl
  turning p cpu (Some (Some task)) h = ending p (turn net.budget (state cpu task.memory)).end (turn net.budget (state cpu task.memory)).state.cpu _

  running : (p : ℕ) (cpu : Cpu) (h : HostRecord) → KeptBy h (runs_to_call net p cpu h)
  unfolding runs_to_call
  running p cpu h = turning p cpu (slice_get h.parts.tasks p) h

  going_later : (nanos p : ℕ) (cpu : Cpu) (h : HostRecord) → Kept h (goes_later nanos p cpu h)
  unfolding goes_later
  going_later nanos p cpu h = refl

  after : (p n : ℕ) (h : HostRecord) (s : Step) (k : HostRecord) → ((cpu : Cpu) (x : HostRecord) → Kept x (slice net p n cpu x)) → Kept h k
      → Kept h (after_step (slice net p n) p (s, k))
  unfolding rests has_ended
  after p n h (step.GoesOn cpu) k more kept = more cpu k ∙ kept
  after p n h (step.Blocks cpu) k more kept = kept
  after p n h (step.Ends state) k more kept = kept

  slicing : (p n : ℕ) (cpu : Cpu) (h : HostRecord) → Kept h (slice net p n cpu h)
  unfolding slice
  slicing p zero cpu h = going_later pause p cpu h
  slicing p (suc n) cpu h = after p n h (runs_to_call net p cpu h).0 (runs_to_call net p cpu h).1 (λ cpu x. slicing p n cpu x) (running p cpu h)

  following : (p : ℕ) (h : HostRecord) (t : Step × HostRecord) → KeptBy h t → Kept h (follows net p t)
  unfolding follows
  following p h t kept = after p 99 h t.0 t.1 (λ cpu x. slicing p 99 cpu x) kept

  -- ---- the table of events

  starting : (p : ℕ) (h : HostRecord) → Kept h (starts net p h)
  unfolding starts
  starting p h =
      by_if (Kept h) (is_not_started (slice_get h.processes p)) _ _
      (λ _. by_found (λ found. Kept h (begins net p found h)) (ready net h.row p) refl
      (λ s. by_if (Kept h) (has_task p h.parts) _ _ (λ _. slicing p 100 s.cpu (with_parts (task_starts p s.memory h.parts) h)) (λ _. refl)))
      (λ _. refl)

  running_on : (p : ℕ) (r : Running) (why : Option Why) (h : HostRecord) → Kept h (runs_on net p r why h)
  running_on p r None h = slicing p 100 r.cpu h
  running_on p r (Some why) h = following p h _ (calling p why.number why.args r.cpu h)

  going_if : (p : ℕ) (found : Option Running) (h : HostRecord) → Kept h (goes_if net p found h)
  going_if p None h = refl
  going_if p (Some r) h = running_on p r (kept_by p h) h

  going : (p : ℕ) (h : HostRecord) → Kept h (goes net p h)
  unfolding goes
  going p h = going_if p (running_in (slice_get h.processes p)) h

  being_shut : (p : ℕ) (found : Option Signal) (h : HostRecord) → Kept h (is_shut net p found h)
  being_shut p None h = refl
  being_shut p (Some signal) h = following p h _ (killing p signal h)

  shutting_if : (p : ℕ) (found : Option Running) (h : HostRecord) → Kept h (shuts_if net p found h)
  shutting_if p None h = refl
  shutting_if p (Some r) h = being_shut p (shutdown_signal h.row p) h

  shutting : (p : ℕ) (h : HostRecord) → Kept h (shuts net p h)
  unfolding shuts
  shutting p h = shutting_if p (running_in (slice_get h.processes p)) h

  acting : (w : What) (h : HostRecord) → Kept h (acts net w h)
  unfolding acts rings does_wanted
  acting (what.Start p) h = starting p h
  acting (what.Go p) h = going p h
  acting (what.Shutdown p) h = shutting p h
  acting (what.Alarm target serial) h = refl
  acting (what.Loop packet) h = handed packet h
  acting what.Up h = refl
  acting what.Down h = coming_down h
  acting (what.Packet packet) h = coming_in packet h

  -- ---- the end of a firing

  waking_if : (wake : Bool) (p : ℕ) (r : Running) (h : HostRecord) → Kept h (wakes_if wake p r h)
  waking_if true p r h = going_later 1 p r.cpu h
  waking_if false p r h = refl

  waking_in : (p : ℕ) (found : Option Running) (h : HostRecord) → Kept h (wakes_in net p found h)
  waking_in p None h = refl
  waking_in p (Some r) h = waking_if (not r.goes && would_answer net p (kept_by p h) h) p r h

  waking : (p : ℕ) (h : HostRecord) → Kept h (wakes net p h)
  unfolding wakes
  waking p h = waking_in p (running_in (slice_get h.processes p)) h

  waking_from : (p n : ℕ) (h : HostRecord) → Kept h (wakes_from net p n h)
  unfolding wakes_from
  waking_from p zero h = refl
  waking_from p (suc n) h = waking_from (suc p) n (wakes net p h) ∙ waking p h

  waking_all : (h : HostRecord) → Kept h (wakes_all net h)
  unfolding wakes_all
  waking_all h = waking_from 0 (min (length h.processes) 64) h

  -- an event at its time
  pub row_kept : (e : Event) (h : HostRecord) → Kept h (has_acted net e h)
  unfolding has_acted
  row_kept e h = waking_all (acts net e.what (at_time e.key.due h)) ∙ acting e.what (at_time e.key.due h)
