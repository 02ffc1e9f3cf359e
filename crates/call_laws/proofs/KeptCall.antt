-- The call that a process waits in.
use Rattle.std.proofs.Common.{◌≡◌, ℕ, Bool, true, false, not, List, Option, Some, None, Result, Ok, Err, refl, sym, ◌∙◌}
use Rattle.sim_base.specs.declared.time.Time.{Time}
use Rattle.host_files.specs.Slots.{at}
use Rattle.host_wants.specs.declared.error.Refusal.{Refusal}
use Rattle.host_wants.specs.declared.error.Refusal.TheVariants as refusal
use Rattle.host_sockets.specs.Sockets.{SocketsRecord}
use Rattle.call_parts.specs.declared.call.Call.{Call}
use Rattle.call_parts.specs.declared.call.Call.TheVariants as system_call
use Rattle.call_parts.specs.declared.call.NetworkCall.{NetworkCall}
use Rattle.call_parts.specs.declared.call.NetworkCall.TheVariants as network
use Rattle.call_parts.specs.declared.call.WaitingCall.{WaitingCall}
use Rattle.call_parts.specs.declared.call.WaitingCall.TheVariants as waiting
use Rattle.file_calls.specs.declared.descriptors.Descriptor.{Descriptor}
use Rattle.host_calls.specs.declared.plan.Plan.{Plan}
use Rattle.host_calls.specs.declared.plan.Plan.TheVariants as plan
use Rattle.file_calls.specs.declared.transfer.Transfer.{Transfer}
use Rattle.host_calls.specs.declared.polling.PollPlan.{PollPlan}
use Rattle.file_calls.specs.declared.known.Known.{Known}
use Rattle.host_calls.specs.declared.parts.Reaction.{Reaction}
use Rattle.host_calls.specs.declared.parts.Reaction.TheVariants.{Value, Waits}
use Rattle.file_calls.specs.declared.task.Task.{Task}
use Rattle.file_calls.specs.declared.task.Why.{Why}
use Rattle.call_parts.specs.declared.sockets.SocketNumber.{SocketNumber}
use Rattle.call_parts.specs.Call.{call_of}
use Rattle.file_calls.specs.Times.{sleep_asked}
use Rattle.std.specs.Prelude.{IfOk}
use Rattle.host_calls.specs.Calls.{message_of, room_of, open_by, read_plan_of, write_plan_of, asked, done, network_row, row_of, waits, answered, blocks_by, in_scene, call_scene, call_by, scene_at, answers_scene, answers_by, call, answers}
use Rattle.call_parts.specs.Plain.{arg, plain_row}
use Rattle.host_calls.specs.Closing.{close}
use Rattle.file_calls.specs.Descriptors.{descriptor}
use Rattle.host_calls.specs.Epoll.{wait_plan}
use Rattle.file_calls.specs.Files.{file_read_plan, reads, file_write_plan, writes}
use Rattle.call_laws.specs.Laws.{is_block, kept_by, kept_call}
use Rattle.host_calls.specs.Parts.{PartsRecord, Slot, Scene, local_of, slot_in, plainly}
use Rattle.host_calls.specs.Polling.{poll_plan, polls}
use Rattle.file_calls.specs.Scene.{Local}
use Rattle.host_calls.specs.Sockets.{socket, bind, listen, accept_plan, accepts, connect_plan, getsockname, getpeername, send_plan, sendto_plan, sends_by, recv_plan, recvfrom_plan, receives, getsockopt, shutdown}
use Rattle.call_parts.specs.Sockets.{open_socket, socket_number}
use Rattle.call_laws.proofs.Waits.{Never, reaction_waits, is_wait_is, nevers, reacts_is, plainly_is, asked_then, gives_bind, gives_then, gives_map}
use Rattle.call_laws.proofs.PlainWaits.{plain_never}
use Rattle.call_laws.proofs.SocketWaits.{accept_never_waits, connect_never_waits, send_never_waits, recv_never_waits}
use Rattle.call_laws.proofs.SocketNevers.{socket_never, bind_never, listen_never, getsockname_never, getpeername_never, getsockopt_never, shutdown_never}

-- calls on sockets that never wait
network_never : (known : Known) (now : Time) (n : NetworkCall) (args : List ℕ) (s : Scene) → reaction_waits (network_row known now n args s) ≡ false
network_never known now network.Socket args s =
    reacts_is (socket (arg args 0) (arg args 1) (arg args 2) s) ∙ socket_never (arg args 0) (arg args 1) (arg args 2) s
network_never known now network.Bind args s =
    reacts_is (bind known.book (arg args 0) (arg args 1) (arg args 2) s) ∙ bind_never known.book (arg args 0) (arg args 1) (arg args 2) s
network_never known now network.Listen args s = reacts_is (listen (arg args 0) (arg args 1) s) ∙ listen_never (arg args 0) (arg args 1) s
network_never known now network.Getsockname args s =
    reacts_is (getsockname (arg args 0) (arg args 1) (arg args 2) s) ∙ getsockname_never (arg args 0) (arg args 1) (arg args 2) s
network_never known now network.Getpeername args s =
    reacts_is (getpeername (arg args 0) (arg args 1) (arg args 2) s) ∙ getpeername_never (arg args 0) (arg args 1) (arg args 2) s
network_never known now network.Getsockopt args s =
    reacts_is (getsockopt now (arg args 0) (arg args 1) (arg args 2) (arg args 3) (arg args 4) s)
    ∙ getsockopt_never now (arg args 0) (arg args 1) (arg args 2) (arg args 3) (arg args 4) s
network_never known now network.Shutdown args s = reacts_is (shutdown now (arg args 0) (arg args 1) s) ∙ shutdown_never now (arg args 0) (arg args 1) s

-- what is done after a call was asked doesn't wait
abbrev NeverWaits : Known → Time → ℕ → Scene → Plan → Type 0
NeverWaits known now process s p = reaction_waits (done known now process p s) ≡ false

read_plan_of_never_waits : (known : Known) (now : Time) (process : ℕ) (d : Descriptor) (n : Result SocketNumber Refusal) (at count : ℕ) (s : Scene)
    → IfOk (read_plan_of now d n at count s) (NeverWaits known now process s)
read_plan_of_never_waits known now process d (Ok socket) at count s =
    gives_map (recv_plan (open_by d socket) 0 (room_of at count 0 0) s.task.memory s.sockets) (λ r. plan.Receive r) _ _ (recv_never_waits now (open_by d socket) 0 (room_of at count 0 0) s)
    (λ r h. reacts_is (receives now r s) ∙ h)
read_plan_of_never_waits known now process d (Err e) at count s =
    gives_bind (file_read_plan now d at count (local_of s)) _ _
    (λ t e. reacts_is (plainly (reads known.hosts now t (local_of s)) s) ∙ plainly_is (reads known.hosts now t (local_of s)) s)

writes_never : (process : ℕ) (t : Transfer) (s : Scene) → Never (writes process t (local_of s))
writes_never process t s = search nevers

write_plan_of_never_waits : (known : Known) (now : Time) (process : ℕ) (d : Descriptor) (n : Result SocketNumber Refusal) (at count : ℕ) (s : Scene)
    → IfOk (write_plan_of known d n at count s) (NeverWaits known now process s)
write_plan_of_never_waits known now process d (Ok socket) at count s =
    gives_map (send_plan known.book (open_by d socket) 0 (message_of at count 0 0) s.task.memory s.sockets) (λ m. plan.Send m) _ _
    (send_never_waits known.book now (open_by d socket) 0 (message_of at count 0 0) s) (λ m h. reacts_is (sends_by known.book now m s) ∙ h)
write_plan_of_never_waits known now process d (Err e) at count s =
    gives_bind (file_write_plan d at count (local_of s)) _ _
    (λ t e. reacts_is (plainly (writes process t (local_of s)) s) ∙ plainly_is (writes process t (local_of s)) s ∙ writes_never process t s)

polls_never : (now : Time) (p : PollPlan) (s : Scene) → Never (polls now p s)
polls_never now p s = search nevers

asked_never_waits : (known : Known) (now : Time) (process : ℕ) (w : WaitingCall) (args : List ℕ) (s : Scene) (why : Why) → s.task.kept ≡ Some why
    → IfOk (asked known now w args s) (NeverWaits known now process s)
asked_never_waits known now process waiting.Read args s why e =
    gives_bind (descriptor (arg args 0) s.task s.shared.files) _ _ (λ d f. read_plan_of_never_waits known now process d (socket_number d.file.object) (arg args 1) (arg args 2) s)
asked_never_waits known now process waiting.Write args s why e =
    gives_bind (descriptor (arg args 0) s.task s.shared.files) _ _ (λ d f. write_plan_of_never_waits known now process d (socket_number d.file.object) (arg args 1) (arg args 2) s)
asked_never_waits known now process waiting.Accept args s why e =
    gives_map (accept_plan (arg args 0) (arg args 1) (arg args 2) s) (λ a. plan.Accept a) _ _ (accept_never_waits (arg args 0) (arg args 1) (arg args 2) s)
    (λ a h. reacts_is (accepts a s) ∙ h)
asked_never_waits known now process waiting.Connect args s why e =
    gives_map (connect_plan (arg args 0) (arg args 1) (arg args 2) s) (λ c. plan.Connect c) _ _
    (connect_never_waits known.book now (arg args 0) (arg args 1) (arg args 2) s why e) (λ c h. h)
asked_never_waits known now process waiting.Sendto args s why e =
    gives_map (sendto_plan known.book (arg args 0) (arg args 3) (message_of (arg args 1) (arg args 2) (arg args 4) (arg args 5)) s) (λ m. plan.Send m) _ _
    (gives_bind (open_socket (arg args 0) (local_of s)) _ _ (λ socket f. send_never_waits known.book now socket (arg args 3) (message_of (arg args 1) (arg args 2) (arg args 4) (arg args 5)) s))
    (λ m h. reacts_is (sends_by known.book now m s) ∙ h)
asked_never_waits known now process waiting.Recvfrom args s why e =
    gives_map (recvfrom_plan (arg args 0) (arg args 3) (room_of (arg args 1) (arg args 2) (arg args 4) (arg args 5)) s) (λ r. plan.Receive r) _ _
    (gives_bind (open_socket (arg args 0) (local_of s)) _ _ (λ socket f. recv_never_waits now socket (arg args 3) (room_of (arg args 1) (arg args 2) (arg args 4) (arg args 5)) s))
    (λ r h. reacts_is (receives now r s) ∙ h)
asked_never_waits known now process waiting.ClockNanosleep args s why e = gives_then (sleep_asked now (arg args 0) (arg args 1) (arg args 2) s.task) _ _ (λ u f. refl)
asked_never_waits known now process waiting.Ppoll args s why e =
    gives_bind (poll_plan now (arg args 0) (arg args 1) (arg args 2) s) _ _ (λ p f. reacts_is (polls now p s) ∙ polls_never now p s)
asked_never_waits known now process waiting.EpollWait args s why e =
    gives_bind (wait_plan now (arg args 0) (arg args 1) (arg args 2) (arg args 3) s) _ _ (λ p f. refl)

close_never : (now : Time) (fd : ℕ) (s : Scene) → Never (close now fd s)
close_never now fd s = search nevers

row-same : (known : Known) (now : Time) (process : ℕ) (c : Option Call) (args : List ℕ) (s : Scene) (why : Why) → s.task.kept ≡ Some why
    → reaction_waits (row_of known now process c args s) ≡ waits known now c args s
row-same known now process None args s why e = refl
row-same known now process (Some (system_call.Plain p)) args s why e =
    reacts_is (plainly (plain_row now process p args (local_of s)) s) ∙ plainly_is (plain_row now process p args (local_of s)) s
    ∙ plain_never now process p args s.task s.shared
row-same known now process (Some (system_call.Network n)) args s why e = network_never known now n args s
row-same known now process (Some (system_call.Waiting w)) args s why e =
    asked_then (asked known now w args s) _ (asked_never_waits known now process w args s why e) ∙ sym (is_wait_is (asked known now w args s))
row-same known now process (Some system_call.Close) args s why e = reacts_is (close now (arg args 0) s) ∙ close_never now (arg args 0) s
row-same known now process (Some system_call.Exit) args s why e = refl

-- a process waits where its row does
blocks_by_waits : (process : ℕ) (why : Why) (kept : Option Why) (s : Local) (t : SocketsRecord) → is_block (in_scene t (blocks_by process why kept s)).0 ≡ true
blocks_by_waits process why None (task, shared) t = refl
blocks_by_waits process why (Some first) (task, shared) t = refl

answered_waits : (now : Time) (process number : ℕ) (args : List ℕ) (r : Result (Reaction × Scene) Refusal) (s : Scene)
    → is_block (answered now process number args r s).0 ≡ reaction_waits r
answered_waits now process number args (Ok (Value value, t)) s = refl
answered_waits now process number args (Ok (Waits, t)) s = blocks_by_waits process _ t.task.kept (t.task, t.shared) t.sockets
answered_waits now process number args (Err (refusal.Errno errno)) s = refl
answered_waits now process number args (Err (refusal.Kept errno)) s = refl
answered_waits now process number args (Err (refusal.Wait until)) s = blocks_by_waits process _ s.task.kept (s.task, s.shared) s.sockets
answered_waits now process number args (Err (refusal.End state)) s = refl

not-not : (b : Bool) → b ≡ not (not b)
not-not true = refl
not-not false = refl

scene_answers : (known : Known) (now : Time) (process : ℕ) (why : Why) (s : Scene) → s.task.kept ≡ Some why
    → is_block (call_scene known now process why.number why.args s).0 ≡ not (answers_scene known now why s)
scene_answers known now process why s e =
    answered_waits now process why.number why.args (row_of known now process (call_of why.number) why.args s) s
    ∙ row-same known now process (call_of why.number) why.args s why e ∙ not-not _

slot_answers : (known : Known) (now : Time) (process : ℕ) (why : Why) (task : Option Task) (p : Slot) → kept_by task ≡ Some why
    → is_block (call_by known now process why.number why.args task p).0 ≡ not (answers_by known now why task p)
slot_answers known now process why None p e = cc
slot_answers known now process why (Some task) p e = scene_answers known now process why (scene_at task p) e

-- the call that a process waits in would answer exactly where making it again doesn't wait
pub kept_call_answers_is : (known : Known) (now : Time) (process : ℕ) (why : Why) (h : PartsRecord) → kept_call process h ≡ Some why
    → is_block (call known now process why.number why.args h).0 ≡ not (answers known now process why h)
kept_call_answers_is known now process why h e = slot_answers known now process why (at process h.tasks) (slot_in process h) e
