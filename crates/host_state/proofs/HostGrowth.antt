-- What firings add to a host's events.
use Rattle.std.proofs.Common.{◌≡◌, ℕ, zero, suc, ◌≤◌, ◌&&◌, Bool, true, false, not, List, [], ◌∷◌, min, length, Option, Some, None, nat_lt, slice_get, refl, sym, subst, rules, tests}
use Rattle.sim_base.specs.declared.act.Act.TheVariants.{FullDown}
use Rattle.sim_base.specs.declared.alarm.AlarmTarget.{AlarmTarget}
use Rattle.sim_base.specs.declared.event.Event.{Event}
use Rattle.sim_base.specs.declared.event.What.{What}
use Rattle.sim_base.specs.declared.event.What.TheVariants as what
use Rattle.sim_base.specs.declared.packet.Packet.{Packet}
use Rattle.sim_base.specs.declared.signal.Signal.{Signal}
use Rattle.sim_base.specs.declared.signal.Signal.TheVariants.{SigXcpu}
use Rattle.sim_base.specs.declared.size.TheConstants.{MAX_PACKET}
use Rattle.sim_base.specs.Packet.{packet_size}
use Rattle.net_iface.specs.declared.lane.Pushed.{Pushed}
use Rattle.net_iface.specs.declared.lane.Pushed.TheVariants.{Leaves, Waits, Dropped}
use Rattle.net_iface.specs.Lane.{pushed, released}
use Rattle.rv32_machine.specs.declared.cpu.Cpu.{Cpu}
use Rattle.rv32_machine.specs.declared.outcome.TurnEnd.{TurnEnd}
use Rattle.rv32_machine.specs.declared.outcome.TurnEnd.TheVariants as end
use Rattle.rv32_machine.specs.Table.{state}
use Rattle.rv32_machine.specs.Turn.{turn}
use Rattle.file_calls.specs.declared.task.Task.{Task}
use Rattle.file_calls.specs.declared.task.Why.{Why}
use Rattle.host_calls.specs.Calls.{call}
use Rattle.host_calls.specs.Events.{arrives, alarmed, ended}
use Rattle.host_calls.specs.Starting.{task_starts}
use Rattle.host_link.specs.Net.{Net}
use Rattle.guest_process.specs.declared.process.Running.{Running}
use Rattle.host_state.specs.Step.{Step}
use Rattle.host_state.specs.Step as step
use Rattle.guest_process.specs.declared.start.Started.{Started}
use Rattle.host_state.specs.Arriving.{is_handed_over, are_handed_over, goes_in, comes_to_router, comes_in, down_comes}
use Rattle.host_state.specs.Fire.{begins, starts, ready, running_in, is_not_started, kept_by, runs_on, goes_if, goes, is_shut, shutdown_signal, shuts_if, shuts, rings, acts, wakes_if, would_answer, wakes_in, wakes, wakes_from, wakes_all, at_time, has_acted}
use Rattle.host_state.specs.Fits.{IsLookaheadOf, IsShort}
use Rattle.host_state.specs.Host.{with_link, with_parts, on_wire, wire_of, does_wanted}
use Rattle.host_state.specs.HostRecord.{HostRecord}
use Rattle.host_link.specs.Lanes.{with_down}
use Rattle.host_link.specs.Link.{LinkState, later, logs}
use Rattle.host_link.specs.Sending.{is_bootstrapping, drop_all, up_comes}
use Rattle.host_state.specs.Slice.{has_task, number_in, arguments_in, calls, closes, is_killed, by_turn_end, turns, runs_to_call, rests, has_ended, after_step, slice, follows, goes_later, pause}
use Rattle.host_state.proofs.Growth.{IsSound, Grows, by_if, pushed_fits, released_fits, grows_not, grows_on, grows_makes, grows_made_if, grows_logs, grows_down, grows_drop_all, grows_up_comes, grows_does_wanted}

module _ (net : Net) (lookahead : Option ℕ) (routes : IsLookaheadOf net lookahead) (short : IsShort lookahead) where
  abbrev G : LinkState → LinkState → Type 0
  G l m = Grows net lookahead l m

  abbrev H : HostRecord → HostRecord → Type 0
  H h k = G h.link k.link

  -- and of a step's host
  abbrev S : HostRecord → Step × HostRecord → Type 0
  S h t = H h t.1

  on : (l m n : LinkState) → G l m → (IsSound net m → G m n) → G l n
  on l m n first then_ = grows_on net lookahead routes short l m n first then_

  stays : (h k : HostRecord) → k.link ≡ h.link → IsSound net h.link → H h k
  stays h k same sound = subst (λ (m : LinkState). G h.link m) (sym same) (grows_not net lookahead routes short h.link sound)

  doing_wanted : (h : HostRecord) → IsSound net h.link → H h (does_wanted net h)
  doing_wanted h sound = grows_does_wanted net lookahead routes short h sound

  -- ---- packets

  handed : (packet : Packet) (h : HostRecord) → IsSound net h.link → H h (is_handed_over net packet h)
  unfolding is_handed_over
  handed packet h sound =
      let r = arrives h.link.time packet h.parts in
      let m : LinkState = logs r.0 packet h.link in
      on h.link m _ (grows_logs net lookahead routes short h.link r.0 packet sound) (λ next. doing_wanted (with_parts r.1 (with_link m h)) next)

  all_handed : (packets : List Packet) (h : HostRecord) → IsSound net h.link → H h (are_handed_over net packets h)
  unfolding are_handed_over
  all_handed [] h sound = stays h h refl sound
  all_handed (p ∷ ps) h sound = on h.link (is_handed_over net p h).link _ (handed p h sound) (λ next. all_handed ps (is_handed_over net p h) next)

  going_in : (t : Pushed) (h : HostRecord) → IsSound net h.link → H h (goes_in net t h)
  going_in (Leaves p) h sound = handed p h sound
  going_in (Waits due) h sound = grows_made_if net lookahead routes short h.link due what.Down sound refl tt
  going_in (Dropped p) h sound = grows_logs net lookahead routes short h.link FullDown p sound

  coming_to_router : (packet : Packet) (h : HostRecord) → IsSound net h.link → packet_size packet ≤ MAX_PACKET → H h (comes_to_router net packet h)
  unfolding comes_to_router
  coming_to_router packet h sound small =
      let t = pushed h.link.time packet h.link.down in
      let m : LinkState = with_down t.1 h.link in
      on h.link m _ (grows_down net lookahead routes short h.link t.1 sound (pushed_fits h.link.time packet h.link.down small sound.down).1)
      (λ next. going_in t.0 (with_link m h) next)

  coming_in : (packet : Packet) (h : HostRecord) → IsSound net h.link → H h (comes_in net packet h)
  unfolding comes_in
  coming_in packet h sound =
      by_if (H h) (nat_lt MAX_PACKET (packet_size packet)) _ _ (λ _. stays h h refl sound)
      (λ is.
      let small : packet_size packet ≤ MAX_PACKET = search (rules, tests) in
      by_if (H h) (is_bootstrapping net h.link.time) _ _ (λ _. handed packet h sound) (λ _. coming_to_router packet h sound small))

  coming_down : (h : HostRecord) → IsSound net h.link → H h (down_comes net h)
  unfolding down_comes
  coming_down h sound =
      let r = released h.link.time h.link.down in
      let start : LinkState = with_down r.lane h.link in
      let dropped : LinkState = drop_all r.dropped start in
      let over : HostRecord = are_handed_over net r.packets (with_link dropped h) in
      on h.link start _ (grows_down net lookahead routes short h.link r.lane sound (released_fits h.link.time h.link.down sound.down).1)
      (λ a. on start dropped _ (grows_drop_all net lookahead routes short r.dropped start a)
      (λ b. on dropped over.link _ (all_handed r.packets (with_link dropped h) b)
      (λ d. grows_made_if net lookahead routes short over.link r.next what.Down d refl tt)))

  coming_up : (h : HostRecord) → IsSound net h.link → H h (on_wire (up_comes net) h)
  coming_up h sound = grows_up_comes net lookahead routes short (wire_of h) sound

  -- ---- slices

  calling : (p number : ℕ) (arguments : List ℕ) (cpu : Cpu) (h : HostRecord) → IsSound net h.link → S h (calls net p number arguments cpu h)
  unfolding calls
  calling p number arguments cpu h sound =
      by_if (S h) (has_task p h.parts) _ _ (λ _. doing_wanted (with_parts (call net.known h.link.time p number arguments h.parts).1 h) sound) (λ _. stays h h refl sound)

  closing : (p : ℕ) (h : HostRecord) → IsSound net h.link → H h (closes net p h)
  unfolding closes
  closing p h sound =
      by_if (H h) (has_task p h.parts) _ _ (λ _. doing_wanted (with_parts (ended h.link.time p h.parts) h) sound) (λ _. stays h h refl sound)

  killing : (p : ℕ) (signal : Signal) (h : HostRecord) → IsSound net h.link → S h (is_killed net p signal h)
  unfolding is_killed
  killing p signal h sound = closing p h sound

  ending : (p : ℕ) (e : TurnEnd) (cpu : Cpu) (h : HostRecord) → IsSound net h.link → S h (by_turn_end net p e cpu h)
  unfolding by_turn_end
  ending p end.Call cpu h sound = calling p (number_in cpu) (arguments_in cpu) cpu h sound
  ending p (end.Trap signal) cpu h sound = killing p signal h sound
  ending p end.Spent cpu h sound = killing p SigXcpu h sound

  turning : (p : ℕ) (cpu : Cpu) (found : Option (Option Task)) (h : HostRecord) → IsSound net h.link → S h (turns net p cpu found h)
  turning p cpu None h sound = stays h h refl sound
  turning p cpu (Some None) h sound = stays h h refl sound
  turning p cpu (Some (Some task)) h sound = ending p (turn net.budget (state cpu task.memory)).end (turn net.budget (state cpu task.memory)).state.cpu _ sound

  running : (p : ℕ) (cpu : Cpu) (h : HostRecord) → IsSound net h.link → S h (runs_to_call net p cpu h)
  unfolding runs_to_call
  running p cpu h sound = turning p cpu (slice_get h.parts.tasks p) h sound

  going_later : (nanos p : ℕ) (cpu : Cpu) (h : HostRecord) → IsSound net h.link → H h (goes_later nanos p cpu h)
  unfolding goes_later
  going_later nanos p cpu h sound = grows_makes net lookahead routes short h.link (later h.link.time nanos) (what.Go p) sound (λ differ. absurd (differ refl)) tt

  after : (p n : ℕ) (h : HostRecord) (s : Step) (k : HostRecord) → ((cpu : Cpu) (x : HostRecord) → IsSound net x.link → H x (slice net p n cpu x)) → H h k
      → H h (after_step (slice net p n) p (s, k))
  unfolding rests has_ended
  after p n h (step.GoesOn cpu) k more grown = on h.link k.link _ grown (λ next. more cpu k next)
  after p n h (step.Blocks cpu) k more grown = grown
  after p n h (step.Ends state) k more grown = grown

  slicing : (p n : ℕ) (cpu : Cpu) (h : HostRecord) → IsSound net h.link → H h (slice net p n cpu h)
  unfolding slice
  slicing p zero cpu h sound = going_later pause p cpu h sound
  slicing p (suc n) cpu h sound =
      after p n h (runs_to_call net p cpu h).0 (runs_to_call net p cpu h).1 (λ cpu x s. slicing p n cpu x s) (running p cpu h sound)

  following : (p : ℕ) (h : HostRecord) (t : Step × HostRecord) → S h t → H h (follows net p t)
  unfolding follows
  following p h t grown = after p 99 h t.0 t.1 (λ cpu x s. slicing p 99 cpu x s) grown

  -- ---- the table of events

  beginning : (p : ℕ) (found : Option Started) (h : HostRecord) → IsSound net h.link → H h (begins net p found h)
  beginning p None h sound = stays h h refl sound
  beginning p (Some s) h sound =
      by_if (H h) (has_task p h.parts) _ _ (λ _. slicing p 100 s.cpu (with_parts (task_starts p s.memory h.parts) h) sound) (λ _. stays h h refl sound)

  starting : (p : ℕ) (h : HostRecord) → IsSound net h.link → H h (starts net p h)
  unfolding starts
  starting p h sound =
      by_if (H h) (is_not_started (slice_get h.processes p)) _ _ (λ _. beginning p (ready net h.row p) h sound) (λ _. stays h h refl sound)

  running_on : (p : ℕ) (r : Running) (why : Option Why) (h : HostRecord) → IsSound net h.link → H h (runs_on net p r why h)
  running_on p r None h sound = slicing p 100 r.cpu h sound
  running_on p r (Some why) h sound = following p h _ (calling p why.number why.args r.cpu h sound)

  going_if : (p : ℕ) (found : Option Running) (h : HostRecord) → IsSound net h.link → H h (goes_if net p found h)
  going_if p None h sound = stays h h refl sound
  going_if p (Some r) h sound = running_on p r (kept_by p h) h sound

  going : (p : ℕ) (h : HostRecord) → IsSound net h.link → H h (goes net p h)
  unfolding goes
  going p h sound = going_if p (running_in (slice_get h.processes p)) h sound

  being_shut : (p : ℕ) (found : Option Signal) (h : HostRecord) → IsSound net h.link → H h (is_shut net p found h)
  being_shut p None h sound = stays h h refl sound
  being_shut p (Some signal) h sound = following p h _ (killing p signal h sound)

  shutting_if : (p : ℕ) (found : Option Running) (h : HostRecord) → IsSound net h.link → H h (shuts_if net p found h)
  shutting_if p None h sound = stays h h refl sound
  shutting_if p (Some r) h sound = being_shut p (shutdown_signal h.row p) h sound

  shutting : (p : ℕ) (h : HostRecord) → IsSound net h.link → H h (shuts net p h)
  unfolding shuts
  shutting p h sound = shutting_if p (running_in (slice_get h.processes p)) h sound

  ringing : (target : AlarmTarget) (serial : ℕ) (h : HostRecord) → IsSound net h.link → H h (rings net target serial h)
  unfolding rings
  ringing target serial h sound = doing_wanted (with_parts (alarmed h.link.time target serial h.parts) h) sound

  acting : (w : What) (h : HostRecord) → IsSound net h.link → H h (acts net w h)
  unfolding acts
  acting (what.Start p) h sound = starting p h sound
  acting (what.Go p) h sound = going p h sound
  acting (what.Shutdown p) h sound = shutting p h sound
  acting (what.Alarm target serial) h sound = ringing target serial h sound
  acting (what.Loop packet) h sound = handed packet h sound
  acting what.Up h sound = coming_up h sound
  acting what.Down h sound = coming_down h sound
  acting (what.Packet packet) h sound = coming_in packet h sound

  -- ---- the end of a firing

  waking_if : (wake : Bool) (p : ℕ) (r : Running) (h : HostRecord) → IsSound net h.link → H h (wakes_if wake p r h)
  waking_if true p r h sound = going_later 1 p r.cpu h sound
  waking_if false p r h sound = stays h h refl sound

  waking_in : (p : ℕ) (found : Option Running) (h : HostRecord) → IsSound net h.link → H h (wakes_in net p found h)
  waking_in p None h sound = stays h h refl sound
  waking_in p (Some r) h sound = waking_if (not r.goes && would_answer net p (kept_by p h) h) p r h sound

  waking : (p : ℕ) (h : HostRecord) → IsSound net h.link → H h (wakes net p h)
  unfolding wakes
  waking p h sound = waking_in p (running_in (slice_get h.processes p)) h sound

  waking_from : (p n : ℕ) (h : HostRecord) → IsSound net h.link → H h (wakes_from net p n h)
  unfolding wakes_from
  waking_from p zero h sound = stays h h refl sound
  waking_from p (suc n) h sound = on h.link (wakes net p h).link _ (waking p h sound) (λ next. waking_from (suc p) n (wakes net p h) next)

  waking_all : (h : HostRecord) → IsSound net h.link → H h (wakes_all net h)
  unfolding wakes_all
  waking_all h sound = waking_from 0 (min (length h.processes) 64) h sound

  -- an event at its time
  pub grows_acted : (e : Event) (h : HostRecord) → IsSound net (at_time e.key.due h).link → H (at_time e.key.due h) (has_acted net e h)
  unfolding has_acted
  grows_acted e h sound =
      let start : HostRecord = at_time e.key.due h in
      on start.link (acts net e.what start).link _ (acting e.what start sound) (λ next. waking_all (acts net e.what start) next)
