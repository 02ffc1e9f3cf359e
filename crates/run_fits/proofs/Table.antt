-- the table of system calls, and what else happens at a host
use Rattle.std.proofs.Common.{Err, IfSome, List, None, Ok, Option, Result, Some, drop, flat_map, not, slice_get, ◌++◌, suc, take, w16, w32, w64, zero, ℕ, ◌*◌, ◌+◌}
use Rattle.std.specs.Int.{to_le_bytes}
use Rattle.std.specs.List.{AllByRecursion}
use Rattle.std.specs.Option.{option_flatten}
use Rattle.host_files.specs.Epolls.{told_by, epoll_at}
use Rattle.guest_args.specs.Span.{can_write, int_size}
use Rattle.host_fds.specs.declared.epoll.Entry.{Entry}
use Rattle.pcap_text.specs.Laws.{IsByte, IsWhole}
use Rattle.run_fits.proofs.Bytes.{all_append, all_drop, all_flat_map, all_set, all_take, got, le_are}
use Rattle.run_fits.proofs.Memories.{filled_in}
use Rattle.run_fits.proofs.NetworkRows.{accept_keeps, bind_keeps, connect_keeps, getpeername_keeps, getsockname_keeps, getsockopt_keeps, listen_keeps, recv_keeps, send_keeps, shutdown_keeps, socket_keeps}
use Rattle.run_fits.proofs.PlainRows.{plain_keeps, reads_keep, writes_keep}
use Rattle.run_fits.proofs.Rows.{LeavesLocal, LeavesScene, LocalFits, SceneFits, pipe_shuts, spans}
use Rattle.run_fits.proofs.Steps.{Gives, knows, steps, tries}
use Rattle.run_fits.proofs.TcpSockets.{alarm_comes_fits, alarm_fits, closes_tcp_fits}
use Rattle.run_fits.proofs.UdpSockets.{arrives_fits, closes_udp_fits}
use Rattle.run_fits.specs.Bytes.{AreBytes, HasBytes}
use Rattle.run_fits.specs.Packets.{WantsFit}
use Rattle.run_fits.specs.Parts.{FilesFit, PartsFit, TaskFits}
use Rattle.run_fits.specs.Sockets.{SocketsFit}
use Rattle.sim_base.specs.Refusals.{refuse_if}
use Rattle.sim_base.specs.declared.alarm.AlarmTarget.{AlarmTarget}
use Rattle.sim_base.specs.declared.alarm.AlarmTarget.TheVariants as alarm_of
use Rattle.sim_base.specs.declared.errno.Errno.TheVariants.{Efault}
use Rattle.sim_base.specs.declared.packet.Packet.{Packet}
use Rattle.sim_base.specs.declared.time.Time.{Time}
use Rattle.host_fds.specs.Descriptors.{limit}
use Rattle.host_fds.specs.declared.pipe.End.TheVariants.{Reading, Writing}
use Rattle.guest_mem.specs.Memory.{Memory}
use Rattle.host_files.specs.Files.{timer_at}
use Rattle.host_files.specs.Slots.{at}
use Rattle.host_files.specs.declared.file.Object.{Object}
use Rattle.host_files.specs.declared.file.Object.TheVariants as kind
use Rattle.host_wants.specs.declared.error.Refusal.{Refusal}
use Rattle.host_wants.specs.declared.error.Refusal.TheVariants as refusal
use Rattle.call_parts.specs.declared.call.Call.{Call}
use Rattle.call_parts.specs.declared.call.Call.TheVariants as system_call
use Rattle.call_parts.specs.declared.call.NetworkCall.{NetworkCall}
use Rattle.call_parts.specs.declared.call.NetworkCall.TheVariants as network
use Rattle.file_calls.specs.declared.descriptors.Descriptor.{Descriptor}
use Rattle.call_parts.specs.declared.epoll.WaitPlan.{WaitPlan}
use Rattle.file_calls.specs.declared.known.Known.{Known}
use Rattle.host_calls.specs.declared.parts.Reaction.{Reaction}
use Rattle.host_calls.specs.declared.parts.Reaction.TheVariants.{Value, Waits}
use Rattle.file_calls.specs.declared.task.Shared.{Shared}
use Rattle.file_calls.specs.declared.task.Task.{Task}
use Rattle.file_calls.specs.declared.task.Why.{Why}
use Rattle.host_calls.specs.declared.plan.Plan.{Plan}
use Rattle.host_calls.specs.declared.plan.Plan.TheVariants as plan
use Rattle.host_calls.specs.declared.polling.PollPlan.{PollPlan}
use Rattle.call_parts.specs.Call.{call_of}
use Rattle.host_calls.specs.Calls.{reacts, network_row, asked, done, row, row_of, with_alarm, blocks_by, blocked, all_ended, cleared, answered, scene_at, call_by, call, call_scene}
use Rattle.call_parts.specs.Plain.{arg, plain_row}
use Rattle.host_calls.specs.Closing.{ends, closes, close, closed_by, closed_below}
use Rattle.file_calls.specs.Descriptors.{descriptor}
use Rattle.host_calls.specs.Epoll.{all_seen, epoll_waits}
use Rattle.call_parts.specs.Epoll.{event_bytes}
use Rattle.host_calls.specs.Events.{arrives, alarmed, ended_by, ended}
use Rattle.file_calls.specs.Files.{reads, writes}
use Rattle.host_calls.specs.Parts.{PartsRecord, Slot, slot, slot_in, with_slot, Scene, local_of, plainly}
use Rattle.call_parts.specs.Polling.{poll_entries, entry_size}
use Rattle.host_calls.specs.Polling.{polls, came, told_entries, told_entry}
use Rattle.file_calls.specs.Scene.{Local}
use Rattle.host_calls.specs.Sockets.{accepts, sends_by, receives}
use Rattle.host_calls.specs.Starting.{task_starts}
use Rattle.call_parts.specs.Starting.{starts}
use Rattle.file_calls.specs.Times.{at_nanos, rings_at, next_ring}

-- ---- single rows

plain_rows : {A : Type 0} (s : Scene) (row : Result (A × Local) Refusal) → SceneFits s → Gives LeavesLocal row → Gives LeavesScene (plainly row s)
plain_rows s (Ok (a, local)) h k = (k.0, k.1, k.2, h.3)
plain_rows s (Err why) h k = tt

reacting : (row : Result (ℕ × Scene) Refusal) → Gives LeavesScene row → Gives LeavesScene (reacts row)
reacting (Ok (value, after)) h = h
reacting (Err why) h = tt

-- close(2)
ends_fit : (now : Time) (object : Object) (s : Scene) → SceneFits s
    → FilesFit (ends now object s.shared s.sockets).0.files × WantsFit (ends now object s.shared s.sockets).0.outlet × SocketsFit (ends now object s.shared s.sockets).1
ends_fit now kind.Input s h = (h.1, h.2, h.3)
ends_fit now kind.Output s h = (h.1, h.2, h.3)
ends_fit now kind.Errors s h = (h.1, h.2, h.3)
ends_fit now (kind.Hosts read) s h = (h.1, h.2, h.3)
ends_fit now (kind.ReadEnd k) s h = (pipe_shuts Reading k s.shared.files h.1, h.2, h.3)
ends_fit now (kind.WriteEnd k) s h = (pipe_shuts Writing k s.shared.files h.1, h.2, h.3)
ends_fit now (kind.Timer k) s h = (h.1, h.2, h.3)
ends_fit now (kind.Eventfd k) s h = (h.1, h.2, h.3)
ends_fit now (kind.Epoll k) s h = (h.1, h.2, h.3)
ends_fit now (kind.Udp k) s h = (h.1, h.2, closes_udp_fits k s.sockets h.3)
ends_fit now (kind.Tcp k) s h =
    let left = closes_tcp_fits now k s.sockets s.shared.outlet (h.3, h.2) in (h.1, left.1, left.0)

closes_fit : (now : Time) (fd : ℕ) (d : Descriptor) (s : Scene) → SceneFits s → SceneFits (closes now fd d s)
closes_fit now fd d s h =
    let left = ends_fit now d.file.object s h in (h.0, left.0, left.1, left.2)

closed_by_fits : (now : Time) (fd : ℕ) (o : Result Descriptor Refusal) (s : Scene) → SceneFits s → SceneFits (closed_by now fd o s)
closed_by_fits now fd (Ok d) s h = closes_fit now fd d s h
closed_by_fits now fd (Err why) s h = h

closed_below_fits : (now : Time) (count : ℕ) (s : Scene) → SceneFits s → SceneFits (closed_below now count s)
unfolding closed_below
closed_below_fits now zero s h = h
closed_below_fits now (suc fd) s h =
    let before = closed_below now fd s in
    closed_by_fits now fd (descriptor fd before.task before.shared.files) before (closed_below_fits now fd s h)

all_ended_fits : (now : Time) (s : Scene) → SceneFits s → SceneFits (all_ended now s)
all_ended_fits now s h = closed_below_fits now limit (cleared s) h

-- epoll_pwait(2) and ppoll(2)
event_are : (e : Entry) → AreBytes (event_bytes e)
event_are e =
    all_append IsByte (to_le_bytes w32 e.events) (to_le_bytes w32 0 ++ to_le_bytes w64 e.«data») (le_are w32 e.events) (all_append IsByte (to_le_bytes w32 0) (to_le_bytes w64 e.«data») (le_are w32 0) (le_are w64 e.«data»))

waits_fit : (now : Time) (p : WaitPlan) (s : Scene) → SceneFits s → Gives LeavesScene (epoll_waits now p s)
waits_fit now p s h =
    let told = told_by p.room (all_seen now s (epoll_at p.place s.task.epolls)) (epoll_at p.place s.task.epolls) in
    (filled_in p.at (flat_map event_bytes told) s.task.memory (all_flat_map IsByte event_bytes told event_are) h.0, h.1, h.2, h.3)

entries_are : (now : Time) (s : Scene) (count : ℕ) (entries : List ℕ) → AreBytes entries → AreBytes (told_entries now s count entries)
entries_are now s zero entries are = tt
entries_are now s (suc count) entries are =
    let entry = take entry_size entries in
    let here = all_take IsByte entry_size entries are in
    all_append IsByte (told_entry now s entry) (told_entries now s count (drop entry_size entries))
    (all_append IsByte (take (int_size + 2) entry) (to_le_bytes w16 (came now s entry)) (all_take IsByte (int_size + 2) entry here) (le_are w16 (came now s entry)))
    (entries_are now s count (drop entry_size entries) (all_drop IsByte entry_size entries are))

polled_are : (at size : ℕ) (memory : Memory) → HasBytes memory → Gives AreBytes (poll_entries at size memory)
polled_are at size memory h =
    spans AreBytes size at memory (refusal.Errno Efault) _ h (λ entries are. tries AreBytes (refuse_if (not (can_write size at memory)) (refusal.Errno Efault)) _ are)

polls_fit : (now : Time) (p : PollPlan) (s : Scene) → SceneFits s → Gives LeavesScene (polls now p s)
polls_fit now p s h =
    knows AreBytes LeavesScene (poll_entries p.at (entry_size * p.count) s.task.memory) _ (polled_are p.at (entry_size * p.count) s.task.memory h.0)
    (λ entries are. (filled_in p.at (told_entries now s p.count entries) s.task.memory (entries_are now s p.count entries are) h.0, h.1, h.2, h.3))

-- ---- what is answered

-- a call that waits wants an alarm
alarm_wants : (process : ℕ) (deadline : Option Time) (shared : Shared) → WantsFit shared.outlet → WantsFit (with_alarm process deadline shared).outlet
alarm_wants process None shared h = h
alarm_wants process (Some deadline) shared h = alarm_fits (alarm_of.Process process) deadline shared.outlet h

alarm_files : (process : ℕ) (deadline : Option Time) (shared : Shared) → FilesFit shared.files → FilesFit (with_alarm process deadline shared).files
alarm_files process None shared h = h
alarm_files process (Some deadline) shared h = h

blocks_fit : (process : ℕ) (why : Why) (kept : Option Why) (task : Task) (shared : Shared) → LocalFits (task, shared) → LocalFits (blocks_by process why kept (task, shared)).1
blocks_fit process why None task shared h = (h.0, alarm_files process why.deadline shared h.1, alarm_wants process why.deadline shared h.2)
blocks_fit process why (Some first) task shared h = h

blocked_fits : (process : ℕ) (why : Why) (s : Scene) → SceneFits s → SceneFits (blocked process why s).1
blocked_fits process why s h =
    let left = blocks_fit process why s.task.kept s.task s.shared (h.0, h.1, h.2) in (left.0, left.1, left.2, h.3)

answered_fits : (now : Time) (process number : ℕ) (args : List ℕ) (r : Result (Reaction × Scene) Refusal) (before : Scene) → Gives LeavesScene r → SceneFits before → SceneFits (answered now process number args r before).1
answered_fits now process number args (Ok (Value v, s)) before k h = k
answered_fits now process number args (Ok (Waits, s)) before k h = blocked_fits process _ s k
answered_fits now process number args (Err (refusal.Errno errno)) before k h = h
answered_fits now process number args (Err (refusal.Kept errno)) before k h = h
answered_fits now process number args (Err (refusal.Wait deadline)) before k h = blocked_fits process _ before h
answered_fits now process number args (Err (refusal.End state)) before k h = all_ended_fits now before h

-- ---- the rows

module _ (known : Known) (hosts : AreBytes known.hosts) (now : Time) where
  done_fits : (process : ℕ) (p : Plan) (s : Scene) → SceneFits s → Gives LeavesScene (done known now process p s)
  done_fits process (plan.Read t) s h =
      let r = reads known.hosts now t (local_of s) in
      reacting (plainly r s) (plain_rows s r h (reads_keep known.hosts now t s.task s.shared hosts (h.0, h.1, h.2)))
  done_fits process (plan.Write t) s h =
      let r = writes process t (local_of s) in
      reacting (plainly r s) (plain_rows s r h (writes_keep process t s.task s.shared (h.0, h.1, h.2)))
  done_fits process (plan.Accept a) s h = reacting (accepts a s) (accept_keeps a s h)
  done_fits process (plan.Connect c) s h = connect_keeps known.book now c s h
  done_fits process (plan.Send m) s h = reacting (sends_by known.book now m s) (send_keeps known.book now m s h)
  done_fits process (plan.Receive r) s h = reacting (receives now r s) (recv_keeps now r s h)
  done_fits process plan.Sleep s h = h
  done_fits process (plan.Poll p) s h = reacting (polls now p s) (polls_fit now p s h)
  done_fits process (plan.EpollWait p) s h = reacting (epoll_waits now p s) (waits_fit now p s h)

  network_fits : (call : NetworkCall) (args : List ℕ) (s : Scene) → SceneFits s → Gives LeavesScene (network_row known now call args s)
  network_fits network.Socket args s h = reacting _ (socket_keeps (arg args 0) (arg args 1) (arg args 2) s h)
  network_fits network.Bind args s h = reacting _ (bind_keeps known.book (arg args 0) (arg args 1) (arg args 2) s h)
  network_fits network.Listen args s h = reacting _ (listen_keeps (arg args 0) (arg args 1) s h)
  network_fits network.Getsockname args s h = reacting _ (getsockname_keeps (arg args 0) (arg args 1) (arg args 2) s h)
  network_fits network.Getpeername args s h = reacting _ (getpeername_keeps (arg args 0) (arg args 1) (arg args 2) s h)
  network_fits network.Getsockopt args s h = reacting _ (getsockopt_keeps now (arg args 0) (arg args 1) (arg args 2) (arg args 3) (arg args 4) s h)
  network_fits network.Shutdown args s h = reacting _ (shutdown_keeps now (arg args 0) (arg args 1) s h)

  row_fits : (process : ℕ) (c : Call) (args : List ℕ) (s : Scene) → SceneFits s → Gives LeavesScene (row known now process c args s)
  row_fits process (system_call.Plain p) args s h =
      let r = plain_row now process p args (local_of s) in
      reacting (plainly r s) (plain_rows s r h (plain_keeps now process p args s.task s.shared (h.0, h.1, h.2)))
  row_fits process (system_call.Network n) args s h = network_fits n args s h
  row_fits process (system_call.Waiting w) args s h = steps LeavesScene (asked known now w args s) _ (λ p e. done_fits process p s h)
  row_fits process system_call.Close args s h =
      reacting (close now (arg args 0) s)
      (steps LeavesScene (descriptor (arg args 0) s.task s.shared.files) _ (λ d e. closes_fit now (arg args 0) d s h))
  row_fits process system_call.Exit args s h = tt

  row_of_fits : (process : ℕ) (o : Option Call) (args : List ℕ) (s : Scene) → SceneFits s → Gives LeavesScene (row_of known now process o args s)
  row_of_fits process None args s h = tt
  row_of_fits process (Some c) args s h = row_fits process c args s h

  scene_fits : (process number : ℕ) (args : List ℕ) (s : Scene) → SceneFits s → SceneFits (call_scene known now process number args s).1
  scene_fits process number args s h =
      answered_fits now process number args (row_of known now process (call_of number) args s) s (row_of_fits process (call_of number) args s h) h

-- ---- a process in its place among those of its host

-- what is in a slot
abbrev SlotFits : Slot → Type 0
SlotFits p = TaskFits p.task × FilesFit p.shared.files × WantsFit p.shared.outlet × SocketsFit p.sockets

task_at : (process : ℕ) (tasks : List (Option Task)) → AllByRecursion TaskFits tasks → TaskFits (at process tasks)
task_at process tasks h = flat (slice_get tasks process) (got TaskFits tasks process h)
  where
    flat : (found : Option (Option Task)) → IfSome found TaskFits → TaskFits (option_flatten found)
    flat None h = tt
    flat (Some slot) h = h

in_slot_fits : (process : ℕ) (h : PartsRecord) → PartsFit h → SlotFits (slot_in process h)
in_slot_fits process h fits = (task_at process h.tasks fits.tasks, fits.files, fits.wants, fits.sockets)

put_back : (process : ℕ) (p : Slot) (h : PartsRecord) → SlotFits p → PartsFit h → PartsFit (with_slot process p h)
put_back process p h k fits = record {
  tasks = all_set TaskFits h.tasks process p.task fits.tasks k.0;
  files = k.1;
  wants = k.2;
  sockets = k.3;
}

call_by_fits : (known : Known) (now : Time) (process number : ℕ) (args : List ℕ) (o : Option Task) (p : Slot) → AreBytes known.hosts → TaskFits o → SlotFits p → SlotFits (call_by known now process number args o p).1
call_by_fits known now process number args None p hosts here h = h
call_by_fits known now process number args (Some task) p hosts here h =
    scene_fits known hosts now process number args (scene_at task p) (here, h.1, h.2, h.3)

-- a call
pub call_fits : (known : Known) (now : Time) (process number : ℕ) (args : List ℕ) (h : PartsRecord) → AreBytes known.hosts → PartsFit h → PartsFit (call known now process number args h).1
call_fits known now process number args h hosts fits =
    let p = slot_in process h in
    let k = in_slot_fits process h fits in
    put_back process (call_by known now process number args p.task p).1 h (call_by_fits known now process number args p.task p hosts k.0 k) fits

-- an end of a process, and a start
ended_by_fits : (now : Time) (o : Option Task) (p : Slot) → TaskFits o → SlotFits p → SlotFits (ended_by now o p)
ended_by_fits now None p here h = h
ended_by_fits now (Some task) p here h = all_ended_fits now (scene_at task p) (here, h.1, h.2, h.3)

pub ended_fits : (now : Time) (process : ℕ) (h : PartsRecord) → PartsFit h → PartsFit (ended now process h)
ended_fits now process h fits =
    let p = slot_in process h in
    let k = in_slot_fits process h fits in
    put_back process (ended_by now p.task p) h (ended_by_fits now p.task p k.0 k) fits

pub starts_fit : (process : ℕ) (memory : Memory) (h : PartsRecord) → HasBytes memory → PartsFit h → PartsFit (task_starts process memory h)
starts_fit process memory h are fits =
    let s = starts memory h.shared in
    put_back process (slot (Some s.0) s.1 h.sockets) h (are, fits.files, fits.wants, fits.sockets) fits

-- an arrival
pub arrival_fits : (now : Time) (packet : Packet) (h : PartsRecord) → IsWhole packet → PartsFit h → PartsFit (arrives now packet h).1
arrival_fits now packet h whole fits =
    let left = arrives_fits now packet h.sockets h.shared.outlet whole (fits.sockets, fits.wants) in
    record { tasks = fits.tasks; files = fits.files; wants = left.1; sockets = left.0 }

-- an alarm
rings_fit : (k : ℕ) (o : Option ℕ) (shared : Shared) → WantsFit shared.outlet → WantsFit (rings_at k o shared).outlet
rings_fit k None shared h = h
rings_fit k (Some due) shared h = alarm_fits (alarm_of.Timer k) (at_nanos due) shared.outlet h

rings_files : (k : ℕ) (o : Option ℕ) (shared : Shared) → FilesFit shared.files → FilesFit (rings_at k o shared).files
rings_files k None shared h = h
rings_files k (Some due) shared h = h

pub alarmed_fits : (now : Time) (target : AlarmTarget) (serial : ℕ) (h : PartsRecord) → PartsFit h → PartsFit (alarmed now target serial h)
alarmed_fits now (alarm_of.Process p) serial h fits = fits
alarmed_fits now (alarm_of.Timer k) serial h fits =
    let next = next_ring now serial (timer_at k h.shared.files) in
    record { tasks = fits.tasks; files = rings_files k next h.shared fits.files; wants = rings_fit k next h.shared fits.wants; sockets = fits.sockets }
alarmed_fits now (alarm_of.Socket k) serial h fits =
    let left = alarm_comes_fits now k serial h.sockets h.shared.outlet (fits.sockets, fits.wants) in
    record { tasks = fits.tasks; files = fits.files; wants = left.1; sockets = left.0 }
