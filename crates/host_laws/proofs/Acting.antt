-- What events do to a host's processes.
use Rattle.std.proofs.Common.{◌≡◌, ℕ, zero, suc, List, [], ◌∷◌, Option, Some, None, nat_lt, slice_get, refl, sym, subst, ◌∙◌, append-nil, arith}
use Rattle.sim_base.specs.declared.act.Act.TheVariants.{FullDown}
use Rattle.sim_base.specs.declared.alarm.AlarmTarget.{AlarmTarget}
use Rattle.sim_base.specs.declared.event.What.{What}
use Rattle.sim_base.specs.declared.event.What.TheVariants as what
use Rattle.sim_base.specs.declared.packet.Packet.{Packet}
use Rattle.sim_base.specs.declared.signal.Signal.{Signal}
use Rattle.sim_base.specs.declared.signal.Signal.TheVariants.{SigXcpu}
use Rattle.sim_base.specs.declared.size.TheConstants.{MAX_PACKET}
use Rattle.sim_base.specs.Packet.{packet_size}
use Rattle.net_iface.specs.declared.lane.Pushed.{Pushed}
use Rattle.net_iface.specs.declared.lane.Pushed.TheVariants.{Leaves, Waits, Dropped}
use Rattle.net_iface.specs.Lane.{pushed, released}
use Rattle.rv32_machine.specs.declared.cpu.Cpu.{Cpu}
use Rattle.rv32_machine.specs.declared.outcome.TurnEnd.{TurnEnd}
use Rattle.rv32_machine.specs.declared.outcome.TurnEnd.TheVariants as end
use Rattle.rv32_machine.specs.Table.{state}
use Rattle.rv32_machine.specs.Turn.{turn}
use Rattle.file_calls.specs.declared.task.Task.{Task}
use Rattle.file_calls.specs.declared.task.Why.{Why}
use Rattle.host_calls.specs.Calls.{call}
use Rattle.host_calls.specs.Events.{arrives, alarmed, ended}
use Rattle.host_calls.specs.Starting.{task_starts}
use Rattle.host_wants.specs.Wanted.{without_wants}
use Rattle.host_link.specs.Net.{Net}
use Rattle.guest_process.specs.declared.process.Process.{Process}
use Rattle.guest_process.specs.declared.process.Process.TheVariants as process
use Rattle.guest_process.specs.declared.process.Running.{Running}
use Rattle.host_state.specs.Step.{Step}
use Rattle.host_state.specs.Step as step
use Rattle.host_state.specs.Arriving.{is_handed_over, are_handed_over, goes_in, comes_to_router, comes_in, down_comes}
use Rattle.host_state.specs.Fire.{begins, starts, ready, running_in, is_not_started, kept_by, runs_on, goes_if, goes, is_shut, shutdown_signal, shuts_if, shuts, rings, acts}
use Rattle.host_state.specs.Host.{with_link, with_parts, on_wire, wire_of, does_wanted}
use Rattle.host_link.specs.Wants.{does_wants}
use Rattle.host_state.specs.HostRecord.{HostRecord}
use Rattle.host_link.specs.Lanes.{with_down}
use Rattle.host_link.specs.Link.{LinkState, later, logs}
use Rattle.host_link.specs.Sending.{is_bootstrapping, drop_all, makes_if, up_comes}
use Rattle.host_state.specs.Slice.{has_task, number_in, arguments_in, calls, closes, is_killed, by_turn_end, turns, runs_to_call, rests, has_ended, after_step, slice, follows, pause}
use Rattle.host_laws.proofs.Links.{IsLater, then_later, by_if, makes_if_later, logs_later, drop_all_later, up_comes_later, wants_later}
use Rattle.host_laws.proofs.Passing.{IsQuiet, still, quiet_on, PassesTo, passes_quiet, passes_on, rests_pass, ended_pass, later_passes, IsFresh, rests_fresh, ended_fresh, later_fresh}

module _ (net : Net) where
  -- a link that does something
  linked : (h : HostRecord) (m : LinkState) → IsLater h.link m → IsQuiet h (with_link m h)
  linked h m later = record { processes = refl; link = later }

  doing_wanted : (h : HostRecord) → IsQuiet h (does_wanted net h)
  unfolding does_wanted does_wants
  doing_wanted h = record {
    processes = refl;
    link = wants_later net h.row.address h.parts.shared.outlet.wants (h.link, without_wants h.parts.shared.outlet);
  }

  -- ---- packets

  handed : (packet : Packet) (h : HostRecord) → IsQuiet h (is_handed_over net packet h)
  unfolding is_handed_over
  handed packet h =
      let r = arrives h.link.time packet h.parts in
      let m : LinkState = logs r.0 packet h.link in
      quiet_on h (with_parts r.1 (with_link m h)) (does_wanted net (with_parts r.1 (with_link m h))) (linked h m (logs_later h.link r.0 packet)) (doing_wanted (with_parts r.1 (with_link m h)))

  all_handed : (packets : List Packet) (h : HostRecord) → IsQuiet h (are_handed_over net packets h)
  unfolding are_handed_over
  all_handed [] h = still h
  all_handed (p ∷ ps) h = quiet_on h (is_handed_over net p h) (are_handed_over net ps (is_handed_over net p h)) (handed p h) (all_handed ps (is_handed_over net p h))

  going_in : (t : Pushed) (h : HostRecord) → IsQuiet h (goes_in net t h)
  going_in (Leaves p) h = handed p h
  going_in (Waits due) h = linked h _ (makes_if_later h.link due what.Down)
  going_in (Dropped p) h = linked h _ (logs_later h.link FullDown p)

  -- a lane is no part of what stays
  lane_down : (h : HostRecord) (m : LinkState) → m ≡ m → IsLater h.link (with_down m.down h.link)
  lane_down h m e = record { number = refl; time = refl; more = []; made = sym (append-nil h.link.made); next = omega arith }

  coming_to_router : (packet : Packet) (h : HostRecord) → IsQuiet h (comes_to_router net packet h)
  unfolding comes_to_router
  coming_to_router packet h =
      let t = pushed h.link.time packet h.link.down in
      let m : LinkState = with_down t.1 h.link in
      quiet_on h (with_link m h) (goes_in net t.0 (with_link m h)) (linked h m (lane_down h m refl)) (going_in t.0 (with_link m h))

  coming_in : (packet : Packet) (h : HostRecord) → IsQuiet h (comes_in net packet h)
  unfolding comes_in
  coming_in packet h =
      by_if (IsQuiet h) (nat_lt MAX_PACKET (packet_size packet)) _ _ (λ e. still h)
      (λ e. by_if (IsQuiet h) (is_bootstrapping net h.link.time) _ _ (λ k. handed packet h) (λ k. coming_to_router packet h))

  coming_down : (h : HostRecord) → IsQuiet h (down_comes net h)
  unfolding down_comes
  coming_down h =
      let r = released h.link.time h.link.down in
      let start : LinkState = with_down r.lane h.link in
      let dropped : LinkState = drop_all r.dropped start in
      let over : HostRecord = are_handed_over net r.packets (with_link dropped h) in
      quiet_on h (with_link dropped h) (with_link (makes_if r.next what.Down over.link) over) (linked h dropped (then_later h.link start dropped (lane_down h start refl) (drop_all_later net r.dropped start)))
      (quiet_on (with_link dropped h) over (with_link (makes_if r.next what.Down over.link) over) (all_handed r.packets (with_link dropped h)) (linked over _ (makes_if_later over.link r.next what.Down)))

  coming_up : (h : HostRecord) → IsQuiet h (on_wire (up_comes net) h)
  coming_up h = record { processes = refl; link = up_comes_later net (wire_of h) }

  -- ---- slices

  -- of a step's host
  abbrev S : HostRecord → Step × HostRecord → Type 0
  S h t = IsQuiet h t.1

  calling : (p number : ℕ) (arguments : List ℕ) (cpu : Cpu) (h : HostRecord) → S h (calls net p number arguments cpu h)
  unfolding calls
  calling p number arguments cpu h =
      by_if (S h) (has_task p h.parts) _ _ (λ e. doing_wanted (with_parts (call net.known h.link.time p number arguments h.parts).1 h)) (λ e. still h)

  closing : (p : ℕ) (h : HostRecord) → IsQuiet h (closes net p h)
  unfolding closes
  closing p h = by_if (IsQuiet h) (has_task p h.parts) _ _ (λ e. doing_wanted (with_parts (ended h.link.time p h.parts) h)) (λ e. still h)

  killing : (p : ℕ) (signal : Signal) (h : HostRecord) → S h (is_killed net p signal h)
  unfolding is_killed
  killing p signal h = closing p h

  ending : (p : ℕ) (e : TurnEnd) (cpu : Cpu) (h : HostRecord) → S h (by_turn_end net p e cpu h)
  unfolding by_turn_end
  ending p end.Call cpu h = calling p (number_in cpu) (arguments_in cpu) cpu h
  ending p (end.Trap signal) cpu h = killing p signal h
  ending p end.Spent cpu h = killing p SigXcpu h

  turning : (p : ℕ) (cpu : Cpu) (found : Option (Option Task)) (h : HostRecord) → S h (turns net p cpu found h)
  turning p cpu None h = still h
  turning p cpu (Some None) h = still h
  turning p cpu (Some (Some task)) h = ending p (turn net.budget (state cpu task.memory)).end (turn net.budget (state cpu task.memory)).state.cpu _

  running : (p : ℕ) (cpu : Cpu) (h : HostRecord) → S h (runs_to_call net p cpu h)
  unfolding runs_to_call
  running p cpu h = turning p cpu (slice_get h.parts.tasks p) h

  after : (p n : ℕ) (h : HostRecord) (s : Step) (k : HostRecord) → ((cpu : Cpu) (x : HostRecord) → PassesTo x (slice net p n cpu x)) → IsQuiet h k
      → PassesTo h (after_step (slice net p n) p (s, k))
  after p n h (step.GoesOn cpu) k more quiet = passes_on h k (slice net p n cpu k) (passes_quiet h k quiet) (more cpu k)
  after p n h (step.Blocks cpu) k more quiet = passes_on h k (rests p cpu k) (passes_quiet h k quiet) (rests_pass p cpu k)
  after p n h (step.Ends s) k more quiet = passes_on h k (has_ended p s k) (passes_quiet h k quiet) (ended_pass p s k)

  slicing : (p n : ℕ) (cpu : Cpu) (h : HostRecord) → PassesTo h (slice net p n cpu h)
  unfolding slice
  slicing p zero cpu h = later_passes pause p cpu h
  slicing p (suc n) cpu h =
      after p n h (runs_to_call net p cpu h).0 (runs_to_call net p cpu h).1 (λ cpu x. slicing p n cpu x) (running p cpu h)

  following : (p : ℕ) (h : HostRecord) (t : Step × HostRecord) → S h t → PassesTo h (follows net p t)
  unfolding follows
  following p h t quiet = after p 99 h t.0 t.1 (λ cpu x. slicing p 99 cpu x) quiet

  -- ---- the table of events

  beginning : (p : ℕ) (h : HostRecord) → PassesTo h (begins net p (ready net h.row p) h)
  beginning p h =
      elim (ready net h.row p) as (λ found. PassesTo h (begins net p found h)) [
        | None ↦ passes_quiet h h (still h)
        | Some s ↦
            by_if (PassesTo h) (has_task p h.parts) _ _ (λ e. slicing p 100 s.cpu (with_parts (task_starts p s.memory h.parts) h)) (λ e. passes_quiet h h (still h))
      ]

  starting : (p : ℕ) (h : HostRecord) → PassesTo h (starts net p h)
  unfolding starts
  starting p h =
      by_if (PassesTo h) (is_not_started (slice_get h.processes p)) _ _ (λ e. beginning p h) (λ e. passes_quiet h h (still h))

  running_on : (p : ℕ) (r : Running) (why : Option Why) (h : HostRecord) → PassesTo h (runs_on net p r why h)
  running_on p r None h = slicing p 100 r.cpu h
  running_on p r (Some why) h = following p h (calls net p why.number why.args r.cpu h) (calling p why.number why.args r.cpu h)

  going_if : (p : ℕ) (found : Option Running) (h : HostRecord) → PassesTo h (goes_if net p found h)
  going_if p None h = passes_quiet h h (still h)
  going_if p (Some r) h = running_on p r (kept_by p h) h

  going_on : (p : ℕ) (h : HostRecord) → PassesTo h (goes net p h)
  unfolding goes
  going_on p h = going_if p (running_in (slice_get h.processes p)) h

  being_shut : (p : ℕ) (found : Option Signal) (h : HostRecord) → PassesTo h (is_shut net p found h)
  being_shut p None h = passes_quiet h h (still h)
  being_shut p (Some signal) h = following p h (is_killed net p signal h) (killing p signal h)

  shutting_if : (p : ℕ) (found : Option Running) (h : HostRecord) → PassesTo h (shuts_if net p found h)
  shutting_if p None h = passes_quiet h h (still h)
  shutting_if p (Some r) h = being_shut p (shutdown_signal h.row p) h

  shutting : (p : ℕ) (h : HostRecord) → PassesTo h (shuts net p h)
  unfolding shuts
  shutting p h = shutting_if p (running_in (slice_get h.processes p)) h

  ringing : (target : AlarmTarget) (serial : ℕ) (h : HostRecord) → IsQuiet h (rings net target serial h)
  unfolding rings
  ringing target serial h = doing_wanted (with_parts (alarmed h.link.time target serial h.parts) h)

  pub acting : (w : What) (h : HostRecord) → PassesTo h (acts net w h)
  unfolding acts
  acting (what.Start p) h = starting p h
  acting (what.Go p) h = going_on p h
  acting (what.Shutdown p) h = shutting p h
  acting (what.Alarm target serial) h = passes_quiet h (rings net target serial h) (ringing target serial h)
  acting (what.Loop packet) h = passes_quiet h (is_handed_over net packet h) (handed packet h)
  acting what.Up h = passes_quiet h (on_wire (up_comes net) h) (coming_up h)
  acting what.Down h = passes_quiet h (down_comes net h) (coming_down h)
  acting (what.Packet packet) h = passes_quiet h (comes_in net packet h) (coming_in packet h)

  -- ---- a process that goes on is to go on only by a Go made anew

  there_still : (h k : HostRecord) (p : ℕ) (x : Process) → IsQuiet h k → slice_get h.processes p ≡ Some x → slice_get k.processes p ≡ Some x
  there_still h k p x quiet there =
      subst (λ (ps : List Process). slice_get ps p ≡ Some x) (sym quiet.processes) there

  after_fresh : (p n : ℕ) (x : Process) (s : Step) (k : HostRecord)
      → ((cpu : Cpu) (h : HostRecord) → slice_get h.processes p ≡ Some x → IsFresh p (slice net p n cpu h)) → slice_get k.processes p ≡ Some x
      → IsFresh p (after_step (slice net p n) p (s, k))
  after_fresh p n x (step.GoesOn cpu) k more there = more cpu k there
  after_fresh p n x (step.Blocks cpu) k more there = rests_fresh p cpu k x there
  after_fresh p n x (step.Ends s) k more there = ended_fresh p s k x there

  slicing_fresh : (p n : ℕ) (x : Process) (cpu : Cpu) (h : HostRecord) → slice_get h.processes p ≡ Some x → IsFresh p (slice net p n cpu h)
  unfolding slice
  slicing_fresh p zero x cpu h there = later_fresh pause p cpu h
  slicing_fresh p (suc n) x cpu h there =
      after_fresh p n x (runs_to_call net p cpu h).0 (runs_to_call net p cpu h).1 (λ cpu k at. slicing_fresh p n x cpu k at)
      (there_still h (runs_to_call net p cpu h).1 p x (running p cpu h) there)

  following_fresh : (p : ℕ) (x : Process) (t : Step × HostRecord) → slice_get t.1.processes p ≡ Some x → IsFresh p (follows net p t)
  unfolding follows
  following_fresh p x t there = after_fresh p 99 x t.0 t.1 (λ cpu k at. slicing_fresh p 99 x cpu k at) there

  running_on_fresh : (p : ℕ) (x : Process) (r : Running) (why : Option Why) (h : HostRecord) → slice_get h.processes p ≡ Some x → IsFresh p (runs_on net p r why h)
  running_on_fresh p x r None h there = slicing_fresh p 100 x r.cpu h there
  running_on_fresh p x r (Some why) h there =
      following_fresh p x (calls net p why.number why.args r.cpu h) (there_still h (calls net p why.number why.args r.cpu h).1 p x (calling p why.number why.args r.cpu h) there)

  going_fresh_in : (p : ℕ) (found : Option Process) (h : HostRecord) → slice_get h.processes p ≡ found → IsFresh p (goes_if net p (running_in found) h)
  going_fresh_in p None h there = λ r at on left. let e : None ≡ Some (process.Running r) = sym there ∙ at in absurd (cc)
  going_fresh_in p (Some process.NotStarted) h there = λ r at on left. let e : Some process.NotStarted ≡ Some (process.Running r) = sym there ∙ at in absurd (cc)
  going_fresh_in p (Some (process.Running q)) h there = running_on_fresh p (process.Running q) q (kept_by p h) h there
  going_fresh_in p (Some (process.Ended s)) h there = λ r at on left. let e : Some (process.Ended s) ≡ Some (process.Running r) = sym there ∙ at in absurd (cc)

  pub going_fresh : (p : ℕ) (h : HostRecord) → IsFresh p (acts net (what.Go p) h)
  unfolding acts goes
  going_fresh p h = going_fresh_in p (slice_get h.processes p) h refl
