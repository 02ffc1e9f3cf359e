-- the whole table, ends of processes, arrivals and alarms
use Rattle.std.proofs.Common.{◌≡◌, ℕ, zero, suc, ◌*◌, List, [], ◌∷◌, ◌++◌, Contains, Option, Some, None, Result, Ok, Err, refl}
use Rattle.sim_base.specs.declared.address.Ip.{Ip}
use Rattle.sim_base.specs.declared.alarm.AlarmTarget.{AlarmTarget}
use Rattle.sim_base.specs.declared.alarm.AlarmTarget.TheVariants as alarm_of
use Rattle.sim_base.specs.declared.packet.Packet.{Packet}
use Rattle.sim_base.specs.declared.time.Time.{Time}
use Rattle.guest_mem.specs.Memory.{Memory}
use Rattle.host_fds.specs.Descriptors.{limit}
use Rattle.host_files.specs.declared.file.Object.{Object}
use Rattle.host_files.specs.declared.file.Object.TheVariants as kind
use Rattle.host_wants.specs.declared.error.Refusal.{Refusal}
use Rattle.host_wants.specs.declared.error.Refusal.TheVariants as refusal
use Rattle.host_wants.specs.Wanted.{Wanted}
use Rattle.host_sockets.specs.Sockets.{SocketsRecord}
use Rattle.call_parts.specs.declared.call.Call.{Call}
use Rattle.call_parts.specs.declared.call.Call.TheVariants as system_call
use Rattle.call_parts.specs.declared.call.NetworkCall.{NetworkCall}
use Rattle.call_parts.specs.declared.call.NetworkCall.TheVariants as network
use Rattle.file_calls.specs.declared.descriptors.Descriptor.{Descriptor}
use Rattle.file_calls.specs.declared.known.Known.{Known}
use Rattle.host_calls.specs.declared.plan.Plan.{Plan}
use Rattle.host_calls.specs.declared.plan.Plan.TheVariants as plan
use Rattle.host_calls.specs.declared.polling.PollPlan.{PollPlan}
use Rattle.host_calls.specs.declared.parts.Reaction.{Reaction}
use Rattle.host_calls.specs.declared.parts.Reaction.TheVariants.{Value, Waits}
use Rattle.file_calls.specs.declared.task.Shared.{Shared}
use Rattle.file_calls.specs.declared.task.Task.{Task}
use Rattle.file_calls.specs.declared.task.Why.{Why}
use Rattle.call_parts.specs.Call.{call_of}
use Rattle.host_calls.specs.Closing.{ends, closes, close, closed_by, closed_one, closed_below}
use Rattle.file_calls.specs.Descriptors.{descriptor}
use Rattle.host_calls.specs.Events.{arrives, alarmed, ended_by, ended}
use Rattle.host_calls.specs.Parts.{PartsRecord, Slot, slot_in, Scene, local_of, plainly}
use Rattle.file_calls.specs.Files.{reads, writes}
use Rattle.host_calls.specs.Sockets.{socket, bind, listen, accepts, getsockname, getpeername, sends_by, receives, getsockopt, shutdown}
use Rattle.host_calls.specs.Starting.{task_starts}
use Rattle.file_calls.specs.Times.{at_nanos, rings_at, next_ring}
use Rattle.call_parts.specs.declared.epoll.WaitPlan.{WaitPlan}
use Rattle.host_files.specs.Epolls.{epoll_at}
use Rattle.host_calls.specs.Epoll.{all_seen, told_of, epoll_waits}
use Rattle.call_parts.specs.Polling.{entry_size, poll_entries}
use Rattle.host_calls.specs.Polling.{polled, polls}
use Rattle.host_calls.specs.Calls.{network_row, asked, done, row, row_of, with_alarm, blocks_by, blocked, all_ended, cleared, answered, scene_at, call_by, call}
use Rattle.call_parts.specs.Plain.{arg, plain_row}
use Rattle.host_files.specs.Files.{timer_at}
use Rattle.socket_laws.specs.Histories.{SocketsAct as act}
use Rattle.socket_streams.specs.Records.{packets_of}
use Rattle.socket_streams.specs.May.{Moves, MovesFreely}
use Rattle.socket_streams.proofs.Moving.{moves_none, moves_by, moves_both, moves_quietly}
use Rattle.socket_streams.proofs.Wants.{alarm_packets}
use Rattle.call_streams.specs.Parts.{sockets_in}
use Rattle.call_streams.proofs.PlainRows.{plain_rests, reads_rest, writes_rest}
use Rattle.call_streams.proofs.Rows.{sockets_at, RowMoves, answers, refused, asks, reacting, plain_moves}
use Rattle.call_streams.proofs.NetworkRows.{socket_moves, bind_moves, listen_moves, accept_moves, connect_moves, getsockname_moves, getpeername_moves, send_moves, recv_moves, getsockopt_moves, shutdown_moves}

module _ (hosts : List Ip) (flying : List Packet) where
  abbrev M : SocketsRecord × Wanted → SocketsRecord × Wanted → Type 0
  M x y = Moves hosts flying x y

  -- close(2): a socket is closed, and other files leave the sockets alone
  ends_move : (now : Time) (object : Object) (shared : Shared) (t : SocketsRecord) → M (t, shared.outlet) ((ends now object shared t).1, (ends now object shared t).0.outlet)
  ends_move now kind.Input shared t = moves_none hosts flying (t, shared.outlet)
  ends_move now kind.Output shared t = moves_none hosts flying (t, shared.outlet)
  ends_move now kind.Errors shared t = moves_none hosts flying (t, shared.outlet)
  ends_move now (kind.Hosts read) shared t = moves_none hosts flying (t, shared.outlet)
  ends_move now (kind.ReadEnd k) shared t = moves_none hosts flying (t, shared.outlet)
  ends_move now (kind.WriteEnd k) shared t = moves_none hosts flying (t, shared.outlet)
  ends_move now (kind.Timer k) shared t = moves_none hosts flying (t, shared.outlet)
  ends_move now (kind.Eventfd k) shared t = moves_none hosts flying (t, shared.outlet)
  ends_move now (kind.Epoll k) shared t = moves_none hosts flying (t, shared.outlet)
  ends_move now (kind.Udp k) shared t = moves_by hosts flying now (act.close_udp k) t shared.outlet tt tt
  ends_move now (kind.Tcp k) shared t = moves_by hosts flying now (act.close_tcp k) t shared.outlet tt tt

  closes_move : (now : Time) (fd : ℕ) (d : Descriptor) (s : Scene) → M (sockets_at s) (sockets_at (closes now fd d s))
  closes_move now fd d s = ends_move now d.file.object s.shared s.sockets

  close_moves : (now : Time) (fd : ℕ) (s : Scene) → RowMoves hosts flying (sockets_at s) (close now fd s)
  close_moves now fd s =
      asks hosts flying (sockets_at s) (descriptor fd s.task s.shared.files) _
      (λ d e. answers hosts flying (sockets_at s) _ _ (closes_move now fd d s))

  closed_move_by : (now : Time) (fd : ℕ) (o : Result Descriptor Refusal) (s : Scene) → M (sockets_at s) (sockets_at (closed_by now fd o s))
  closed_move_by now fd (Ok d) s = closes_move now fd d s
  closed_move_by now fd (Err why) s = moves_none hosts flying (sockets_at s)

  closed_below_move : (now : Time) (count : ℕ) (s : Scene) → M (sockets_at s) (sockets_at (closed_below now count s))
  unfolding closed_below
  closed_below_move now zero s = moves_none hosts flying (sockets_at s)
  closed_below_move now (suc fd) s =
      let before = closed_below now fd s in
      moves_both hosts flying (sockets_at s) (sockets_at before) (sockets_at (closed_one now fd before))
      (closed_below_move now fd s)
      (closed_move_by now fd (descriptor fd before.task before.shared.files) before)

  all_ended_move : (now : Time) (s : Scene) → M (sockets_at s) (sockets_at (all_ended now s))
  all_ended_move now s = closed_below_move now limit (cleared s)

  -- a call that waits wants an alarm
  alarm_quiet : (process : ℕ) (deadline : Option Time) (shared : Shared) → packets_of (with_alarm process deadline shared).outlet ≡ packets_of shared.outlet
  alarm_quiet process None shared = refl
  alarm_quiet process (Some deadline) shared = alarm_packets (alarm_of.Process process) deadline shared.outlet

  blocks_quiet : (process : ℕ) (why : Why) (kept : Option Why) (task : Task) (shared : Shared) → packets_of (blocks_by process why kept (task, shared)).1.1.outlet ≡ packets_of shared.outlet
  blocks_quiet process why None task shared = alarm_quiet process why.deadline shared
  blocks_quiet process why (Some first) task shared = refl

  blocked_move : (process : ℕ) (why : Why) (s : Scene) → M (sockets_at s) (sockets_at (blocked process why s).1)
  blocked_move process why s =
      moves_quietly hosts flying s.sockets s.shared.outlet (blocks_by process why s.task.kept (s.task, s.shared)).1.1.outlet (blocks_quiet process why s.task.kept s.task s.shared)

  -- what is answered
  answered_move : (now : Time) (process number : ℕ) (args : List ℕ) (r : Result (Reaction × Scene) Refusal) (before : Scene) → RowMoves hosts flying (sockets_at before) r → M (sockets_at before) (sockets_at (answered now process number args r before).1)
  answered_move now process number args (Ok (Value v, s)) before h = h.moves (Value v) s refl
  answered_move now process number args (Ok (Waits, s)) before h =
      moves_both hosts flying (sockets_at before) (sockets_at s) (sockets_at (answered now process number args (Ok (Waits, s)) before).1) (h.moves Waits s refl) (blocked_move process _ s)
  answered_move now process number args (Err (refusal.Errno errno)) before h = moves_none hosts flying (sockets_at before)
  answered_move now process number args (Err (refusal.Kept errno)) before h = moves_none hosts flying (sockets_at before)
  answered_move now process number args (Err (refusal.Wait deadline)) before h = blocked_move process _ before
  answered_move now process number args (Err (refusal.End state)) before h = all_ended_move now before

  -- epoll_pwait(2)
  waits_move : (now : Time) (p : WaitPlan) (s : Scene) → RowMoves hosts flying (sockets_at s) (epoll_waits now p s)
  waits_move now p s =
      let told = told_of p (all_seen now s (epoll_at p.place s.task.epolls)) s in
      answers hosts flying (sockets_at s) told.0 told.1 (moves_none hosts flying (sockets_at s))

  -- ppoll(2)
  polls_move : (now : Time) (p : PollPlan) (s : Scene) → RowMoves hosts flying (sockets_at s) (polls now p s)
  polls_move now p s =
      asks hosts flying (sockets_at s) (poll_entries p.at (entry_size * p.count) s.task.memory) (λ entries. Ok (p.found, polled now p.at p.count entries s))
      (λ entries e. answers hosts flying (sockets_at s) p.found (polled now p.at p.count entries s) (moves_none hosts flying (sockets_at s)))

  -- an end of a process
  ended_move_by : (now : Time) (o : Option Task) (p : Slot) → M (p.sockets, p.shared.outlet) ((ended_by now o p).sockets, (ended_by now o p).shared.outlet)
  ended_move_by now None p = moves_none hosts flying (p.sockets, p.shared.outlet)
  ended_move_by now (Some task) p = all_ended_move now (scene_at task p)

  pub ended_moves : (now : Time) (process : ℕ) (h : PartsRecord) → M (sockets_in h) (sockets_in (ended now process h))
  ended_moves now process h = let p = slot_in process h in ended_move_by now p.task p

  pub starts_move : (process : ℕ) (memory : Memory) (h : PartsRecord) → M (sockets_in h) (sockets_in (task_starts process memory h))
  starts_move process memory h = moves_none hosts flying (sockets_in h)

  -- an arrival
  pub arrives_moves : (now : Time) (packet : Packet) (h : PartsRecord) → Contains flying packet → M (sockets_in h) (sockets_in (arrives now packet h).1)
  arrives_moves now packet h c = moves_by hosts flying now (act.arrival packet) h.sockets h.shared.outlet c tt

  pub arrives_freely : (now : Time) (packet : Packet) (h : PartsRecord) → Contains (flying ++ packets_of h.shared.outlet) packet → MovesFreely hosts flying (sockets_in h) (sockets_in (arrives now packet h).1)
  arrives_freely now packet h c = record { acts = (now, act.arrival packet) ∷ []; may = (c, tt); after = refl }

  -- an alarm
  rings_quiet : (k : ℕ) (o : Option ℕ) (shared : Shared) → packets_of (rings_at k o shared).outlet ≡ packets_of shared.outlet
  rings_quiet k None shared = refl
  rings_quiet k (Some due) shared = alarm_packets (alarm_of.Timer k) (at_nanos due) shared.outlet

  pub alarmed_moves : (now : Time) (target : AlarmTarget) (serial : ℕ) (h : PartsRecord) → M (sockets_in h) (sockets_in (alarmed now target serial h))
  alarmed_moves now (alarm_of.Process p) serial h = moves_none hosts flying (sockets_in h)
  alarmed_moves now (alarm_of.Timer k) serial h =
      let o = next_ring now serial (timer_at k h.shared.files) in
      moves_quietly hosts flying h.sockets h.shared.outlet (rings_at k o h.shared).outlet (rings_quiet k o h.shared)
  alarmed_moves now (alarm_of.Socket k) serial h = moves_by hosts flying now (act.alarm k serial) h.sockets h.shared.outlet tt tt

module _ (known : Known) (flying : List Packet) where
  abbrev R : {A : Type 0} → Scene → Result (A × Scene) Refusal → Type 0
  R s r = RowMoves known.book flying (sockets_at s) r

  -- what is done that was asked
  done_moves : (now : Time) (process : ℕ) (p : Plan) (s : Scene) → R s (done known now process p s)
  done_moves now process (plan.Read t) s =
      let r = reads known.hosts now t (local_of s) in
      reacting known.book flying (sockets_at s) (plainly r s) (plain_moves known.book flying s r (reads_rest known.hosts now t s.task s.shared))
  done_moves now process (plan.Write t) s =
      let r = writes process t (local_of s) in
      reacting known.book flying (sockets_at s) (plainly r s) (plain_moves known.book flying s r (writes_rest process t s.task s.shared))
  done_moves now process (plan.Accept a) s = reacting known.book flying (sockets_at s) (accepts a s) (accept_moves known.book flying a s)
  done_moves now process (plan.Connect c) s = connect_moves known.book flying now c s
  done_moves now process (plan.Send m) s = reacting known.book flying (sockets_at s) (sends_by known.book now m s) (send_moves known.book flying now m s)
  done_moves now process (plan.Receive r) s = reacting known.book flying (sockets_at s) (receives now r s) (recv_moves known.book flying now r s)
  done_moves now process plan.Sleep s = answers known.book flying (sockets_at s) _ _ (moves_none known.book flying (sockets_at s))
  done_moves now process (plan.Poll p) s = reacting known.book flying (sockets_at s) (polls now p s) (polls_move known.book flying now p s)
  done_moves now process (plan.EpollWait p) s = reacting known.book flying (sockets_at s) (epoll_waits now p s) (waits_move known.book flying now p s)

  network_moves : (now : Time) (call : NetworkCall) (args : List ℕ) (s : Scene) → R s (network_row known now call args s)
  network_moves now network.Socket args s =
      reacting known.book flying (sockets_at s) (socket (arg args 0) (arg args 1) (arg args 2) s) (socket_moves known.book flying (arg args 0) (arg args 1) (arg args 2) s)
  network_moves now network.Bind args s =
      reacting known.book flying (sockets_at s) (bind known.book (arg args 0) (arg args 1) (arg args 2) s) (bind_moves known.book flying (arg args 0) (arg args 1) (arg args 2) s)
  network_moves now network.Listen args s =
      reacting known.book flying (sockets_at s) (listen (arg args 0) (arg args 1) s) (listen_moves known.book flying (arg args 0) (arg args 1) s)
  network_moves now network.Getsockname args s =
      reacting known.book flying (sockets_at s) (getsockname (arg args 0) (arg args 1) (arg args 2) s) (getsockname_moves known.book flying (arg args 0) (arg args 1) (arg args 2) s)
  network_moves now network.Getpeername args s =
      reacting known.book flying (sockets_at s) (getpeername (arg args 0) (arg args 1) (arg args 2) s) (getpeername_moves known.book flying (arg args 0) (arg args 1) (arg args 2) s)
  network_moves now network.Getsockopt args s =
      reacting known.book flying (sockets_at s) (getsockopt now (arg args 0) (arg args 1) (arg args 2) (arg args 3) (arg args 4) s) (getsockopt_moves known.book flying now (arg args 0) (arg args 1) (arg args 2) (arg args 3) (arg args 4) s)
  network_moves now network.Shutdown args s =
      reacting known.book flying (sockets_at s) (shutdown now (arg args 0) (arg args 1) s) (shutdown_moves known.book flying now (arg args 0) (arg args 1) s)

  row_moves : (now : Time) (process : ℕ) (call : Call) (args : List ℕ) (s : Scene) → R s (row known now process call args s)
  row_moves now process (system_call.Plain p) args s =
      reacting known.book flying (sockets_at s) (plainly (plain_row now process p args (local_of s)) s)
      (plain_moves known.book flying s (plain_row now process p args (local_of s)) (plain_rests now process p args s.task s.shared))
  row_moves now process (system_call.Network n) args s = network_moves now n args s
  row_moves now process (system_call.Waiting w) args s =
      asks known.book flying (sockets_at s) (asked known now w args s) _ (λ p e. done_moves now process p s)
  row_moves now process system_call.Close args s =
      reacting known.book flying (sockets_at s) (close now (arg args 0) s) (close_moves known.book flying now (arg args 0) s)
  row_moves now process system_call.Exit args s = refused known.book flying (sockets_at s) _

  row_of_moves : (now : Time) (process : ℕ) (o : Option Call) (args : List ℕ) (s : Scene) → R s (row_of known now process o args s)
  row_of_moves now process None args s = refused known.book flying (sockets_at s) _
  row_of_moves now process (Some c) args s = row_moves now process c args s

  call_move_by : (now : Time) (process number : ℕ) (args : List ℕ) (o : Option Task) (p : Slot) → Moves known.book flying (p.sockets, p.shared.outlet) ((call_by known now process number args o p).1.sockets, (call_by known now process number args o p).1.shared.outlet)
  call_move_by now process number args None p = moves_none known.book flying (p.sockets, p.shared.outlet)
  call_move_by now process number args (Some task) p =
      let s = scene_at task p in
      answered_move known.book flying now process number args (row_of known now process (call_of number) args s) s (row_of_moves now process (call_of number) args s)

  pub call_moves : (now : Time) (process number : ℕ) (args : List ℕ) (h : PartsRecord) → Moves known.book flying (sockets_in h) (sockets_in (call known now process number args h).1)
  call_moves now process number args h =
      let p = slot_in process h in call_move_by now process number args p.task p
