-- The table of system calls: which row a number has, what its answer is to a guest, and whether one that waits would answer.
use Rattle.std.specs.Prelude.{◌≡◌, ◌≤◌, ℕ, ◌%◌, Bool, true, false, not, List, Option, Some, None, Result, Ok, Err}
use Rattle.sim_base.specs.declared.errno.Errno.TheVariants.{Enosys}
use Rattle.sim_base.specs.declared.alarm.AlarmTarget.TheVariants.{Process}
use Rattle.sim_base.specs.declared.state.State.{State}
use Rattle.sim_base.specs.declared.state.State.TheVariants.{Exited}
use Rattle.sim_base.specs.declared.time.Time.{Time}
use Rattle.host_wants.specs.declared.error.Refusal.{Refusal}
use Rattle.host_wants.specs.declared.error.Refusal.TheVariants as refusal
use Rattle.host_sockets.specs.Sockets.{SocketsRecord}
use Rattle.host_wants.specs.Wanted.{wants_alarm}
use Rattle.host_calls.specs.declared.all.Parts.{Parts}
use Rattle.call_parts.specs.declared.call.Call.{Call}
use Rattle.call_parts.specs.declared.call.Call.TheVariants as system_call
use Rattle.call_parts.specs.declared.call.NetworkCall.{NetworkCall}
use Rattle.call_parts.specs.declared.call.NetworkCall.TheVariants as network
use Rattle.call_parts.specs.declared.call.WaitingCall.{WaitingCall}
use Rattle.call_parts.specs.declared.call.WaitingCall.TheVariants as waiting
use Rattle.file_calls.specs.declared.descriptors.Descriptor.{Descriptor}
use Rattle.host_calls.specs.declared.parts.Answer.{Answer}
use Rattle.host_calls.specs.declared.parts.Answer.TheVariants as answer
use Rattle.file_calls.specs.declared.known.Known.{Known}
use Rattle.host_calls.specs.declared.parts.Reaction.{Reaction}
use Rattle.host_calls.specs.declared.parts.Reaction.TheVariants.{Value, Waits}
use Rattle.file_calls.specs.declared.task.Shared.{Shared}
use Rattle.file_calls.specs.declared.task.Task.{Task}
use Rattle.file_calls.specs.declared.task.Why.{Why}
use Rattle.host_calls.specs.declared.plan.Plan.{Plan}
use Rattle.host_calls.specs.declared.plan.Plan.TheVariants as plan
use Rattle.call_parts.specs.declared.messages.Room.{Room}
use Rattle.call_parts.specs.declared.messages.Message.{Message}
use Rattle.call_parts.specs.declared.sockets.OpenSocket.{OpenSocket}
use Rattle.call_parts.specs.declared.sockets.SocketNumber.{SocketNumber}
use Rattle.call_parts.specs.Call.{call_of}
use Rattle.call_parts.specs.Plain.{arg, plain_row}
use Rattle.host_calls.specs.Closing.{close, all_closed}
use Rattle.file_calls.specs.Descriptors.{descriptor, IsFree}
use Rattle.host_calls.specs.Epoll.{wait_plan, epoll_waits}
use Rattle.file_calls.specs.Files.{file_read_plan, reads, file_write_plan, writes}
use Rattle.host_calls.specs.Parts.{PartsRecord, PartsStand, Slot, slot_of, slot_in, with_slot, Scene, scene, local_of, plainly}
use Rattle.call_parts.specs.Polling.{max_entries}
use Rattle.host_calls.specs.Polling.{poll_plan, polls}
use Rattle.file_calls.specs.Scene.{Local, negative}
use Rattle.host_calls.specs.Sockets.{socket, bind, listen, accept_plan, accepts, connect_plan, connects, getsockname, getpeername, send_plan, sendto_plan, sends_by, recv_plan, recvfrom_plan, receives, getsockopt, shutdown}
use Rattle.call_parts.specs.Sockets.{socket_number}
use Rattle.file_calls.specs.Times.{sleep_asked}
use Rattle.sim_base.specs.Refusals.{◌>>=◌, ◌>>◌}

-- the arguments that say what is sent, and where what is received goes
abbrev pub message_of : ℕ → ℕ → ℕ → ℕ → Message
message_of at n to_at size = record { at = at; n = n; to_at = to_at; size = size }

abbrev pub room_of : ℕ → ℕ → ℕ → ℕ → Room
room_of at n from_at size_at = record { at = at; n = n; from_at = from_at; size_at = size_at }

-- a row that answers a value
abbrev pub reacts : Result (ℕ × Scene) Refusal → Result (Reaction × Scene) Refusal
reacts (Ok (value, s)) = Ok (Value value, s)
reacts (Err r) = Err r

abbrev pub network_row : Known → Time → NetworkCall → List ℕ → Scene → Result (Reaction × Scene) Refusal
network_row known now network.Socket args s = reacts (socket (arg args 0) (arg args 1) (arg args 2) s)
network_row known now network.Bind args s = reacts (bind known.book (arg args 0) (arg args 1) (arg args 2) s)
network_row known now network.Listen args s = reacts (listen (arg args 0) (arg args 1) s)
network_row known now network.Getsockname args s = reacts (getsockname (arg args 0) (arg args 1) (arg args 2) s)
network_row known now network.Getpeername args s = reacts (getpeername (arg args 0) (arg args 1) (arg args 2) s)
network_row known now network.Getsockopt args s = reacts (getsockopt now (arg args 0) (arg args 1) (arg args 2) (arg args 3) (arg args 4) s)
network_row known now network.Shutdown args s = reacts (shutdown now (arg args 0) (arg args 1) s)

-- read(2) and write(2): on a socket they are recv(2) and send(2) without flags and address
abbrev pub open_by : Descriptor → SocketNumber → OpenSocket
open_by d socket = record { nonblocking = d.file.nonblocking; number = socket }

abbrev pub read_plan_of : Time → Descriptor → Result SocketNumber Refusal → ℕ → ℕ → Scene → Result Plan Refusal
read_plan_of now d (Ok socket) at n s = do
  r ← recv_plan (open_by d socket) 0 (room_of at n 0 0) s.task.memory s.sockets
  Ok (plan.Receive r)
read_plan_of now d (Err refusal) at n s = do
  t ← file_read_plan now d at n (local_of s)
  Ok (plan.Read t)

abbrev pub read_plan : Time → ℕ → ℕ → ℕ → Scene → Result Plan Refusal
read_plan now fd at n s = do
  d ← descriptor fd s.task s.shared.files
  read_plan_of now d (socket_number d.file.object) at n s

abbrev pub write_plan_of : Known → Descriptor → Result SocketNumber Refusal → ℕ → ℕ → Scene → Result Plan Refusal
write_plan_of known d (Ok socket) at n s = do
  m ← send_plan known.book (open_by d socket) 0 (message_of at n 0 0) s.task.memory s.sockets
  Ok (plan.Send m)
write_plan_of known d (Err refusal) at n s = do
  t ← file_write_plan d at n (local_of s)
  Ok (plan.Write t)

abbrev pub write_plan : Known → ℕ → ℕ → ℕ → Scene → Result Plan Refusal
write_plan known fd at n s = do
  d ← descriptor fd s.task s.shared.files
  write_plan_of known d (socket_number d.file.object) at n s

-- what a call that may wait would do in a scene, or what refuses it, or that it waits. It changes nothing
abbrev pub asked : Known → Time → WaitingCall → List ℕ → Scene → Result Plan Refusal
asked known now waiting.Read args s = read_plan now (arg args 0) (arg args 1) (arg args 2) s
asked known now waiting.Write args s = write_plan known (arg args 0) (arg args 1) (arg args 2) s
asked known now waiting.Accept args s = do
  a ← accept_plan (arg args 0) (arg args 1) (arg args 2) s
  Ok (plan.Accept a)
asked known now waiting.Connect args s = do
  c ← connect_plan (arg args 0) (arg args 1) (arg args 2) s
  Ok (plan.Connect c)
asked known now waiting.Sendto args s = do
  m ← sendto_plan known.book (arg args 0) (arg args 3) (message_of (arg args 1) (arg args 2) (arg args 4) (arg args 5)) s
  Ok (plan.Send m)
asked known now waiting.Recvfrom args s = do
  r ← recvfrom_plan (arg args 0) (arg args 3) (room_of (arg args 1) (arg args 2) (arg args 4) (arg args 5)) s
  Ok (plan.Receive r)
asked known now waiting.ClockNanosleep args s = do
  sleep_asked now (arg args 0) (arg args 1) (arg args 2) s.task
  Ok plan.Sleep
asked known now waiting.Ppoll args s = do
  p ← poll_plan now (arg args 0) (arg args 1) (arg args 2) s
  Ok (plan.Poll p)
asked known now waiting.EpollWait args s = do
  p ← wait_plan now (arg args 0) (arg args 1) (arg args 2) (arg args 3) s
  Ok (plan.EpollWait p)

-- what is then done. Of a UDP socket that sends, and of a TCP socket that connects, this also has what refuses
abbrev pub done : Known → Time → ℕ → Plan → Scene → Result (Reaction × Scene) Refusal
done known now process (plan.Read t) s = reacts (plainly (reads known.hosts now t (local_of s)) s)
done known now process (plan.Write t) s = reacts (plainly (writes process t (local_of s)) s)
done known now process (plan.Accept a) s = reacts (accepts a s)
done known now process (plan.Connect c) s = connects known.book now c s
done known now process (plan.Send m) s = reacts (sends_by known.book now m s)
done known now process (plan.Receive r) s = reacts (receives now r s)
done known now process plan.Sleep s = Ok (Value 0, s)
done known now process (plan.Poll p) s = reacts (polls now p s)
done known now process (plan.EpollWait p) s = reacts (epoll_waits now p s)

-- what the code has to know of a plan: a new descriptor is free, and no more than so many entries are polled
abbrev pub Fits : Plan → Task → Type 0
Fits (plan.Accept a) task = IsFree a.new.fd task.table
Fits (plan.Poll p) task = p.count ≤ max_entries
Fits _ task = Unit {0}

abbrev pub waiting_row : Known → Time → ℕ → WaitingCall → List ℕ → Scene → Result (Reaction × Scene) Refusal
waiting_row known now process w args s = do
  p ← asked known now w args s
  done known now process p s

-- exit(2): the process has exited with the low byte of the status
abbrev pub exited : ℕ → State
exited status = Exited (status % 256)

-- the row of a call
abbrev pub row : Known → Time → ℕ → Call → List ℕ → Scene → Result (Reaction × Scene) Refusal
row known now process (system_call.Plain p) args s = reacts (plainly (plain_row now process p args (local_of s)) s)
row known now process (system_call.Network n) args s = network_row known now n args s
row known now process (system_call.Waiting w) args s = waiting_row known now process w args s
row known now process system_call.Close args s = reacts (close now (arg args 0) s)
row known now process system_call.Exit args s = Err (refusal.End (exited (arg args 0)))

abbrev pub row_of : Known → Time → ℕ → Option Call → List ℕ → Scene → Result (Reaction × Scene) Refusal
row_of known now process None args s = Err (refusal.Errno Enosys)
row_of known now process (Some c) args s = row known now process c args s

abbrev pub with_kept : Option Why → Task → Task
with_kept why task = record task { kept = why }

-- a call that waits is kept, with its deadline, of which an alarm tells; one that is made again is kept as it was
abbrev pub with_alarm : ℕ → Option Time → Shared → Shared
with_alarm process None shared = shared
with_alarm process (Some deadline) shared = record shared { outlet = (wants_alarm (Process process) deadline shared.outlet).1 }

abbrev pub blocks_by : ℕ → Why → Option Why → Local → Answer × Local
blocks_by process why None (task, shared) = (answer.Block why, (with_kept (Some why) task, with_alarm process why.deadline shared))
blocks_by process why (Some first) s = (answer.Block first, s)

abbrev pub blocks : ℕ → Why → Local → Answer × Local
blocks process why (task, shared) = blocks_by process why task.kept (task, shared)

abbrev pub in_scene : SocketsRecord → Answer × Local → Answer × Scene
in_scene t (a, s) = (a, scene s t)

abbrev pub blocked : ℕ → Why → Scene → Answer × Scene
blocked process why s = in_scene s.sockets (blocks process why (local_of s))

-- every other answer clears the kept call
abbrev pub cleared : Scene → Scene
cleared s = record s { task = with_kept None s.task }

abbrev pub value : ℕ → Scene → Answer × Scene
value number s = (answer.Value number, cleared s)

abbrev pub why_of : ℕ → List ℕ → Option Time → Why
why_of number args deadline = record { number = number; args = args; deadline = deadline }

abbrev pub all_ended : Time → Scene → Scene
all_ended now s = all_closed now (cleared s)

abbrev pub answered : Time → ℕ → ℕ → List ℕ → Result (Reaction × Scene) Refusal → Scene → Answer × Scene
answered now process number args (Ok (Value v, s)) before = value v s
answered now process number args (Ok (Waits, s)) before = blocked process (why_of number args None) s
answered now process number args (Err (refusal.Errno errno)) before = value (negative errno) before
answered now process number args (Err (refusal.Kept errno)) before = value (negative errno) before
answered now process number args (Err (refusal.Wait deadline)) before = blocked process (why_of number args deadline) before
answered now process number args (Err (refusal.End state)) before = (answer.End state, all_ended now before)

abbrev pub call_scene : Known → Time → ℕ → ℕ → List ℕ → Scene → Answer × Scene
call_scene known now process number args s = answered now process number args (row_of known now process (call_of number) args s) s

-- a process that isn't there has no calls
abbrev pub scene_at : Task → Slot → Scene
scene_at task p = record { task = task; shared = p.shared; sockets = p.sockets }

abbrev pub in_slot : Answer × Scene → Answer × Slot
in_slot (a, s) = (a, slot_of s)

abbrev pub call_by : Known → Time → ℕ → ℕ → List ℕ → Option Task → Slot → Answer × Slot
call_by known now process number args None p = (answer.Value (negative Enosys), p)
call_by known now process number args (Some task) p = in_slot (call_scene known now process number args (scene_at task p))

abbrev pub call_slot : Known → Time → ℕ → ℕ → List ℕ → Slot → Answer × Slot
call_slot known now process number args p = call_by known now process number args p.task p

abbrev pub answers_in : ℕ → Answer × Slot → PartsRecord → Answer × PartsRecord
answers_in process (a, p) h = (a, with_slot process p h)

-- a system call of a process: its answer, and what it leaves
abbrev pub call : Known → Time → ℕ → ℕ → List ℕ → PartsRecord → Answer × PartsRecord
call known now process number args h = answers_in process (call_slot known now process number args (slot_in process h)) h

-- what the code answers and leaves
abbrev pub PartsCalled : Answer × PartsRecord → Answer → Parts → Type 0
PartsCalled (b, h) a c = (a ≡ b) × PartsStand c h

-- whether a call waits: the others never do
abbrev pub is_wait : Result Plan Refusal → Bool
is_wait (Err (refusal.Wait deadline)) = true
is_wait _ = false

abbrev pub waits : Known → Time → Option Call → List ℕ → Scene → Bool
waits known now (Some (system_call.Waiting w)) args s = is_wait (asked known now w args s)
waits known now _ args s = false

abbrev pub answers_scene : Known → Time → Why → Scene → Bool
answers_scene known now why s = not (waits known now (call_of why.number) why.args s)

-- a process that isn't there waits for nothing
abbrev pub answers_by : Known → Time → Why → Option Task → Slot → Bool
answers_by known now why None p = true
answers_by known now why (Some task) p = answers_scene known now why (scene_at task p)

abbrev pub answers_slot : Known → Time → Why → Slot → Bool
answers_slot known now why p = answers_by known now why p.task p

-- whether the kept call of a process would answer
abbrev pub answers : Known → Time → ℕ → Why → PartsRecord → Bool
answers known now process why h = answers_slot known now why (slot_in process h)
