-- the table of system calls, and what else happens at a host
use Rattle.std.proofs.Common.{◌≡◌, ◌⊎◌, ⊎_elim, ℕ, zero, suc, ◌*◌, true, List, Option, Some, None, is_some, Result, Ok, Err, slice_set, refl, sym, ap, subst, ◌∙◌}
use Rattle.std.specs.FinMap as map
use Rattle.sim_base.specs.declared.address.Ip.{Ip}
use Rattle.sim_base.specs.declared.alarm.AlarmTarget.{AlarmTarget}
use Rattle.sim_base.specs.declared.alarm.AlarmTarget.TheVariants as alarm_of
use Rattle.sim_base.specs.declared.packet.Packet.{Packet}
use Rattle.sim_base.specs.declared.time.Time.{Time}
use Rattle.host_fds.specs.declared.file_id.FileId.{FileId}
use Rattle.host_fds.specs.declared.epoll.Seen.{Seen}
use Rattle.host_fds.specs.declared.epoll.Watch.{Watch}
use Rattle.host_fds.specs.Descriptors.{limit}
use Rattle.host_fds.specs.Epoll.{report_of}
use Rattle.host_fds.specs.declared.pipe.End.TheVariants.{Reading, Writing}
use Rattle.guest_mem.specs.Memory.{Memory}
use Rattle.host_files.specs.Epolls.{EpollsState, epoll_at, forgotten, entries_reported}
use Rattle.host_files.specs.declared.file.File.{File}
use Rattle.host_files.specs.Files.{FilesState, file_at, timer_at, closed, after_serial}
use Rattle.host_files.specs.Slots.{at}
use Rattle.host_files.specs.declared.file.Object.{Object}
use Rattle.host_files.specs.declared.file.Object.TheVariants as kind
use Rattle.host_wants.specs.declared.error.Refusal.{Refusal}
use Rattle.host_wants.specs.declared.error.Refusal.TheVariants as refusal
use Rattle.host_sockets.specs.Sockets.{SocketsRecord}
use Rattle.host_wants.specs.Wanted.{wants_alarm}
use Rattle.call_parts.specs.declared.call.Call.{Call}
use Rattle.call_parts.specs.declared.call.Call.TheVariants as system_call
use Rattle.call_parts.specs.declared.call.NetworkCall.{NetworkCall}
use Rattle.call_parts.specs.declared.call.NetworkCall.TheVariants as network
use Rattle.file_calls.specs.declared.descriptors.Descriptor.{Descriptor}
use Rattle.call_parts.specs.declared.epoll.WaitPlan.{WaitPlan}
use Rattle.file_calls.specs.declared.known.Known.{Known}
use Rattle.host_calls.specs.declared.parts.Reaction.{Reaction}
use Rattle.host_calls.specs.declared.parts.Reaction.TheVariants.{Value, Waits}
use Rattle.file_calls.specs.declared.task.Shared.{Shared}
use Rattle.file_calls.specs.declared.task.Task.{Task}
use Rattle.file_calls.specs.declared.task.Why.{Why}
use Rattle.host_calls.specs.declared.plan.Plan.{Plan}
use Rattle.host_calls.specs.declared.plan.Plan.TheVariants as plan
use Rattle.host_calls.specs.declared.polling.PollPlan.{PollPlan}
use Rattle.call_parts.specs.Call.{call_of}
use Rattle.host_calls.specs.Calls.{reacts, network_row, asked, done, row, row_of, with_alarm, blocks_by, blocked, all_ended, cleared, answered, scene_at, call_by, call}
use Rattle.call_parts.specs.Plain.{arg, plain_row}
use Rattle.host_calls.specs.Closing.{ends, without_epoll, closes, close, closed_by, closed_one, closed_below}
use Rattle.file_calls.specs.Descriptors.{descriptor}
use Rattle.host_calls.specs.Epoll.{seen_of, all_seen, told_of, epoll_waits}
use Rattle.host_calls.specs.Events.{arrives, alarmed, ended_by, ended}
use Rattle.file_calls.specs.Files.{reads, writes}
use Rattle.host_calls.specs.Parts.{PartsRecord, Slot, slot, slot_in, slot_of, with_slot, Scene, local_of, with_local, plainly}
use Rattle.call_parts.specs.Polling.{poll_entries, entry_size}
use Rattle.host_calls.specs.Polling.{polled, polls}
use Rattle.file_calls.specs.Scene.{Local}
use Rattle.host_calls.specs.Ready.{seen}
use Rattle.host_calls.specs.Sockets.{socket, bind, listen, getsockname, getpeername, getsockopt, shutdown, accepts, sends_by, receives}
use Rattle.host_calls.specs.Starting.{task_starts}
use Rattle.call_parts.specs.Starting.{starts}
use Rattle.file_calls.specs.Times.{at_nanos, rings_at, next_ring}
use Rattle.socket_laws.specs.Histories.{SocketsAct as act}
use Rattle.socket_laws.specs.Histories.{SocketsAct, sockets_acted}
use Rattle.pipe_laws.specs.Acts.{LetsGo}
use Rattle.file_laws.specs.Lives.{does, ends as slot_ends}
use Rattle.file_laws.specs.Timers.{Rings}
use Rattle.file_laws.proofs.Places.{set_same, set_other}
use Rattle.call_rises.specs.Moves.{FilesMove, AllRise, TasksRise}
use Rattle.call_rises.specs.Sockets.{SocketsMove}
use Rattle.call_rises.specs.Names.{named_in, names, HasEntry, NamesHold, NamesOne, NamesMove, MarksMove}
use Rattle.call_rises.proofs.Asked.{PlanFits, asked_fits}
use Rattle.call_rises.proofs.Ending.{ended_is, sockets_ended, closed_named, closed_fewer, dropped_named, dropped_fewer}
use Rattle.call_rises.proofs.Epolls.{rise_reported, rise_ended, rise_forgotten, none_rise, seen_of_all, entry_reported}
use Rattle.call_rises.proofs.Growing.{grows_timer}
use Rattle.call_rises.proofs.Hosts.{placed_same, hold_after, one_after, marks_after, were_after, hold_rests, one_rests, marks_rest, hold_begun, one_begun, entry_begun, marks_begun}
use Rattle.call_rises.proofs.Moving.{none, stays, on_pipe, on_eventfd, on_timer, both, Moved, moved_by, moved_none, moved_both, Leads, answers, refused, asks_so, asks}
use Rattle.call_rises.proofs.PlainRows.{LocalMoved, plain_leads, reads_lead, writes_lead}
use Rattle.call_rises.proofs.NetworkRows.{scene_view, SceneMoved, keeps, socket_leads, bind_leads, listen_leads, accept_leads, connect_leads, getsockname_leads, getpeername_leads, send_leads, recv_leads, getsockopt_leads, shutdown_leads}
use Rattle.call_rises.proofs.There.{AllStay, all_stay, same_stay}
use Rattle.call_rises.proofs.SocketActs.{Stays, stays_there}
use Rattle.call_rises.proofs.SocketMoves.{sockets_rest, sockets_move, sockets_both}
use Rattle.call_rises.proofs.Views as views
use Rattle.call_rises.proofs.Views.{View, view, came_as_it_was, came_told, Named, Grows, grows_so, fewer_so, resting, by_number, descriptor_named}

module _ (hosts : List Ip) (now : Time) where
  abbrev M : FilesState → FilesState → Type 0
  M x y = FilesMove now.nanos x y

  -- what a scene leaves, and what a row leaves of it
  abbrev Q : Scene → Scene → Type 0
  Q s t = SceneMoved hosts now.nanos s t

  abbrev R : {A : Type 0} → Scene → Result (A × Scene) Refusal → Type 0
  R s row = Leads (Q s) row

  rests : (x : FilesState) → M x x
  rests x = none now.nanos x

  stays_so : (s : Scene) → Q s s
  stays_so s = (moved_none now.nanos (scene_view s), sockets_rest hosts s.sockets)

  -- the second opens and makes nothing
  abbrev Fewer : Scene → Scene → Type 0
  Fewer s t = views.Fewer (scene_view s) (scene_view t)

  then : (s t u : Scene) → Q s t → Q t u → Fewer t u → Q s u
  then s t u a b fewer = (
    moved_both now.nanos (scene_view s) (scene_view t) (scene_view u) a.0 b.0 fewer,
    sockets_both hosts s.sockets t.sockets u.sockets a.1 b.1 fewer.sockets,
  )

  fewer_none : (v : View) → views.Fewer v v
  fewer_none v = fewer_so now.nanos v v refl refl refl refl refl refl (all_stay v.sockets)

  reacting : (s : Scene) (row : Result (ℕ × Scene) Refusal) → R s row → R s (reacts row)
  reacting s (Ok (value, after)) h = answers (Q s) (Value value) after (h.leads value after refl)
  reacting s (Err why) h = refused (Q s) why

  plain_rows : {A : Type 0} (s : Scene) (row : Result (A × Local) Refusal) → Leads (LocalMoved now.nanos s.task s.shared) row → R s (plainly row s)
  plain_rows s (Ok (a, (task, shared))) h =
      answers (Q s) a (with_local (task, shared) s)
      (h.leads a (task, shared) refl s.sockets, sockets_rest hosts s.sockets)
  plain_rows s (Err why) h = refused (Q s) why

  -- close(2): an end of a pipe is let go, and a timer, an eventfd and an epoll end
  ends_move : (object : Object) (shared : Shared) (t : SocketsRecord) → M shared.files (ends now object shared t).0.files
  ends_move kind.Input shared t = rests shared.files
  ends_move kind.Output shared t = rests shared.files
  ends_move kind.Errors shared t = rests shared.files
  ends_move (kind.Hosts read) shared t = rests shared.files
  ends_move (kind.ReadEnd k) shared t =
      on_pipe now.nanos (does k (LetsGo Reading)) shared.files (ends now (kind.ReadEnd k) shared t).0.files refl refl refl
  ends_move (kind.WriteEnd k) shared t =
      on_pipe now.nanos (does k (LetsGo Writing)) shared.files (ends now (kind.WriteEnd k) shared t).0.files refl refl refl
  ends_move (kind.Timer k) shared t =
      on_timer now.nanos (slot_ends k) shared.files (ends now (kind.Timer k) shared t).0.files tt refl refl refl
  ends_move (kind.Eventfd k) shared t =
      on_eventfd now.nanos (slot_ends k) shared.files (ends now (kind.Eventfd k) shared t).0.files refl refl refl
  ends_move (kind.Epoll k) shared t = rests shared.files
  ends_move (kind.Udp k) shared t = rests shared.files
  ends_move (kind.Tcp k) shared t = rests shared.files

  sockets_end : (object : Object) (shared : Shared) (t : SocketsRecord) → SocketsMove hosts t (ends now object shared t).1
  sockets_end kind.Input shared t = sockets_rest hosts t
  sockets_end kind.Output shared t = sockets_rest hosts t
  sockets_end kind.Errors shared t = sockets_rest hosts t
  sockets_end (kind.Hosts read) shared t = sockets_rest hosts t
  sockets_end (kind.ReadEnd k) shared t = sockets_rest hosts t
  sockets_end (kind.WriteEnd k) shared t = sockets_rest hosts t
  sockets_end (kind.Timer k) shared t = sockets_rest hosts t
  sockets_end (kind.Eventfd k) shared t = sockets_rest hosts t
  sockets_end (kind.Epoll k) shared t = sockets_rest hosts t
  sockets_end (kind.Udp k) shared t = sockets_move hosts now (act.close_udp k) t _ shared.outlet refl
  sockets_end (kind.Tcp k) shared t = sockets_move hosts now (act.close_tcp k) t _ shared.outlet refl

  ended_rises : (object : Object) (epolls : EpollsState) → AllRise epolls → AllRise (without_epoll object epolls)
  ended_rises kind.Input epolls rise = rise
  ended_rises kind.Output epolls rise = rise
  ended_rises kind.Errors epolls rise = rise
  ended_rises (kind.Hosts read) epolls rise = rise
  ended_rises (kind.ReadEnd k) epolls rise = rise
  ended_rises (kind.WriteEnd k) epolls rise = rise
  ended_rises (kind.Timer k) epolls rise = rise
  ended_rises (kind.Eventfd k) epolls rise = rise
  ended_rises (kind.Epoll k) epolls rise = rise_ended k epolls rise
  ended_rises (kind.Udp k) epolls rise = rise
  ended_rises (kind.Tcp k) epolls rise = rise

  abbrev after_closing : ℕ → Descriptor → Scene → FilesState → View
  after_closing fd d s y = record {
    table = map.remove s.task.table fd;
    files = closed d.id y;
    epolls = forgotten fd (without_epoll d.file.object s.task.epolls);
    sockets = (ends now d.file.object s.shared s.sockets).1;
  }

  closes_move : (fd : ℕ) (d : Descriptor) (s : Scene) → descriptor fd s.task s.shared.files ≡ Ok d → Q s (closes now fd d s)
  closes_move fd d s e =
      let ended = (ends now d.file.object s.shared s.sockets).0.files in
      let after = (closes now fd d s).shared.files in
      let named = descriptor_named (map.get s.task.table fd) s.shared.files d e in (
        record {
          files = both now.nanos s.shared.files ended after (ends_move d.file.object s.shared s.sockets) (stays now.nanos ended after refl refl refl)
              (record { pipes = λ k h. h; eventfds = λ k h. h; timers = λ k h. h });
          epolls = λ rise. rise_forgotten fd (without_epoll d.file.object s.task.epolls) (ended_rises d.file.object s.task.epolls rise);
          names = subst (λ (y : FilesState). Named now.nanos (scene_view s) (after_closing fd d s y)) (ended_is now d.file.object s.shared s.sockets)
              (closed_named now.nanos (scene_view s) fd d (ends now d.file.object s.shared s.sockets).1 (sockets_ended now d.file.object s.shared s.sockets) named.0 named.1);
        },
        sockets_end d.file.object s.shared s.sockets,
      )

  closes_fewer : (fd : ℕ) (d : Descriptor) (s : Scene) → descriptor fd s.task s.shared.files ≡ Ok d → Fewer s (closes now fd d s)
  closes_fewer fd d s e =
      let named = descriptor_named (map.get s.task.table fd) s.shared.files d e in
      subst (λ (y : FilesState). views.Fewer (scene_view s) (after_closing fd d s y)) (ended_is now d.file.object s.shared s.sockets)
      (closed_fewer now.nanos (scene_view s) fd d (ends now d.file.object s.shared s.sockets).1 (sockets_ended now d.file.object s.shared s.sockets) named.0 named.1)

  close_leads : (fd : ℕ) (s : Scene) → R s (close now fd s)
  close_leads fd s =
      asks_so (Q s) (descriptor fd s.task s.shared.files) _ (λ d e. answers (Q s) _ _ (closes_move fd d s e))

  closed_move_by : (fd : ℕ) (o : Result Descriptor Refusal) (s : Scene) → descriptor fd s.task s.shared.files ≡ o → Q s (closed_by now fd o s)
  closed_move_by fd (Ok d) s e = closes_move fd d s e
  closed_move_by fd (Err why) s e = (
    moved_by now.nanos (scene_view s) (scene_view (closed_by now fd (Err why) s)) (rests s.shared.files) refl (dropped_named now.nanos (scene_view s) fd why e),
    sockets_rest hosts s.sockets,
  )

  closed_fewer_by : (fd : ℕ) (o : Result Descriptor Refusal) (s : Scene) → descriptor fd s.task s.shared.files ≡ o → Fewer s (closed_by now fd o s)
  closed_fewer_by fd (Ok d) s e = closes_fewer fd d s e
  closed_fewer_by fd (Err why) s e = dropped_fewer now.nanos (scene_view s) fd why e

  closed_below_move : (count : ℕ) (s : Scene) → Q s (closed_below now count s)
  unfolding closed_below
  closed_below_move zero s = stays_so s
  closed_below_move (suc fd) s =
      let before = closed_below now fd s in
      let d = descriptor fd before.task before.shared.files in
      then s before (closed_one now fd before) (closed_below_move fd s) (closed_move_by fd d before refl) (closed_fewer_by fd d before refl)

  all_ended_move : (s : Scene) → Q s (all_ended now s)
  all_ended_move s = closed_below_move limit (cleared s)

  -- a call that waits wants an alarm
  alarm_same : (process : ℕ) (deadline : Option Time) (shared : Shared) → shared.files ≡ (with_alarm process deadline shared).files
  alarm_same process None shared = refl
  alarm_same process (Some deadline) shared = refl

  abbrev blocked_view : ℕ → Why → Option Why → Task → Shared → SocketsRecord → View
  blocked_view process why kept task shared t =
      let left = (blocks_by process why kept (task, shared)).1 in view left.0 left.1 t

  blocks_same : (process : ℕ) (why : Why) (kept : Option Why) (task : Task) (shared : Shared) (t : SocketsRecord) → view task shared t ≡ blocked_view process why kept task shared t
  blocks_same process why None task shared t =
      ap (λ (x : FilesState). record { table = task.table; files = x; epolls = task.epolls; sockets = t }) (alarm_same process why.deadline shared)
  blocks_same process why (Some first) task shared t = refl

  blocked_move : (process : ℕ) (why : Why) (s : Scene) → Q s (blocked process why s).1
  blocked_move process why s = (
    subst (λ (w : View). Moved now.nanos (scene_view s) w) (blocks_same process why s.task.kept s.task s.shared s.sockets) (moved_none now.nanos (scene_view s)),
    sockets_rest hosts s.sockets,
  )

  blocked_fewer : (process : ℕ) (why : Why) (s : Scene) → Fewer s (blocked process why s).1
  blocked_fewer process why s =
      subst (λ (w : View). views.Fewer (scene_view s) w) (blocks_same process why s.task.kept s.task s.shared s.sockets) (fewer_none (scene_view s))

  -- what is answered
  answered_move : (process number : ℕ) (args : List ℕ) (r : Result (Reaction × Scene) Refusal) (before : Scene) → R before r → Q before (answered now process number args r before).1
  answered_move process number args (Ok (Value v, s)) before h = h.leads (Value v) s refl
  answered_move process number args (Ok (Waits, s)) before h =
      then before s (answered now process number args (Ok (Waits, s)) before).1 (h.leads Waits s refl) (blocked_move process _ s) (blocked_fewer process _ s)
  answered_move process number args (Err (refusal.Errno errno)) before h = stays_so before
  answered_move process number args (Err (refusal.Kept errno)) before h = stays_so before
  answered_move process number args (Err (refusal.Wait deadline)) before h = blocked_move process _ before
  answered_move process number args (Err (refusal.End state)) before h = all_ended_move before

  -- epoll_pwait(2) and ppoll(2)
  seen_is : (s : Scene) (o : Option (List Watch)) → seen_of_all (seen_of now s) o ≡ all_seen now s o
  seen_is s None = refl
  seen_is s (Some entries) = refl

  reported_from : (p : WaitPlan) (s : Scene) (k : ℕ) (x : Watch) → HasEntry k (entries_reported p.room (all_seen now s (epoll_at p.place s.task.epolls)) p.place s.task.epolls) x → (w : Watch) × (HasEntry k s.task.epolls w × ((x ≡ w) ⊎ (x ≡ report_of w (seen now s w.fd))))
  reported_from p s k x h =
      entry_reported x p.room (seen_of now s) p.place s.task.epolls k
      (subst (λ (all : List Seen). HasEntry k (entries_reported p.room all p.place s.task.epolls) x) (sym (seen_is s (epoll_at p.place s.task.epolls))) h)

  report_named : (p : WaitPlan) (s after : Scene) → s.task.table ≡ after.task.table → s.shared.files ≡ after.shared.files → after.task.epolls ≡ entries_reported p.room (all_seen now s (epoll_at p.place s.task.epolls)) p.place s.task.epolls → AllStay s.sockets after.sockets → Named now.nanos (scene_view s) (scene_view after)
  report_named p s after table files epolls stay =
      resting now.nanos (scene_view s) (scene_view after) table (ap (λ (x : FilesState). x.files) files)
      (grows_so s.shared.files after.shared.files (ap (λ (x : FilesState). x.pipes) files) (ap (λ (x : FilesState). x.eventfds) files) (ap (λ (x : FilesState). x.timers) files)) stay
      (λ process tasks h k x e.
      let from = reported_from p s k x (subst (λ (es : EpollsState). HasEntry k es x) epolls e) in
      let is_open = h.watched k from.0 from.1.0 in
      ⊎_elim (λ same. subst (λ (v : Watch). is_some (map.get s.task.table v.fd) ≡ true) (sym same) is_open)
      (λ told. subst (λ (v : Watch). is_some (map.get s.task.table v.fd) ≡ true) (sym told) is_open) from.1.1)
      (λ k x e.
      let from = reported_from p s k x (subst (λ (es : EpollsState). HasEntry k es x) epolls e) in
      ⊎_elim (λ same. came_as_it_was (subst (λ (v : Watch). HasEntry k s.task.epolls v) (sym same) from.1.0)) (λ is_told. came_told from.0 from.1.0 is_told) from.1.1)

  waits_lead : (p : WaitPlan) (s : Scene) → R s (epoll_waits now p s)
  waits_lead p s =
      let all = all_seen now s (epoll_at p.place s.task.epolls) in
      let answer = told_of p all s in
      answers (Q s) answer.0 answer.1
      (record { files = rests s.shared.files; epolls = λ rise. rise_reported p.room all p.place s.task.epolls rise; names = report_named p s answer.1 refl refl refl (all_stay s.sockets) }, sockets_rest hosts s.sockets)

  polls_lead : (p : PollPlan) (s : Scene) → R s (polls now p s)
  polls_lead p s =
      asks (Q s) (poll_entries p.at (entry_size * p.count) s.task.memory) (λ entries. Ok (p.found, polled now p.at p.count entries s))
      (λ entries. keeps hosts now.nanos p.found s (polled now p.at p.count entries s) refl refl refl refl)

-- a process in its place among those of its host
module _ (h : PartsRecord) (process : ℕ) where
  none_there : (task : Task) → None ≡ Some task → AllRise task.epolls
  none_there task e = cc

  pub placed_by : (p : Slot) (task : Task) → p.task ≡ Some task → AllRise task.epolls → TasksRise h → TasksRise (with_slot process p h)
  placed_by p task is here rise q other there =
      by_number process q (AllRise other.epolls)
      (λ same.
      let found : p.task ≡ Some other = set_same process p.task h.tasks other (subst (λ (n : ℕ). at n (slice_set h.tasks process p.task) ≡ Some other) (sym same) there) in
      let one : Some task ≡ Some other = sym is ∙ found in
      same_task task other one here)
      (λ apart. rise q other (sym (set_other process q p.task h.tasks apart) ∙ there))
    where
      same_task : (task other : Task) → Some task ≡ Some other → AllRise task.epolls → AllRise other.epolls
      same_task task other e here =
          let one : task ≡ other = cc in subst (λ (t : Task). AllRise t.epolls) one here

  -- one that is gone
  pub emptied : TasksRise h → TasksRise (with_slot process (slot None h.shared h.sockets) h)
  emptied rise q other there =
      by_number process q (AllRise other.epolls)
      (λ same.
      none_there other
      (set_same process None h.tasks other (subst (λ (n : ℕ). at n (slice_set h.tasks process None) ≡ Some other) (sym same) there)))
      (λ apart. rise q other (sym (set_other process q None h.tasks apart) ∙ there))

  kept_by : (p : Slot) → p.task ≡ at process h.tasks → TasksRise h → TasksRise (with_slot process p h)
  kept_by p is rise q other there =
      by_number process q (AllRise other.epolls)
      (λ same.
      let found : p.task ≡ Some other = set_same process p.task h.tasks other (subst (λ (n : ℕ). at n (slice_set h.tasks process p.task) ≡ Some other) (sym same) there) in
      rise process other (sym is ∙ found))
      (λ apart. rise q other (sym (set_other process q p.task h.tasks apart) ∙ there))

-- what is left of all processes of a host
pub record Keeps (hosts : List Ip) (now : Time) (x y : PartsRecord) : Type 0 where
  pub files : FilesMove now.nanos x.shared.files y.shared.files
  pub sockets : SocketsMove hosts x.sockets y.sockets
  pub tasks : TasksRise x → TasksRise y
  pub hold : NamesHold x.tasks x.shared.files x.sockets → NamesHold y.tasks y.shared.files y.sockets
  pub marks : MarksMove now x y
  -- a process that has entries was there
  pub were : (q k : ℕ) (last : Task) (w : Watch) → at q y.tasks ≡ Some last → HasEntry k last.epolls w → (first : Task) × (at q x.tasks ≡ Some first)
  -- the descriptors of entries name what they named
  pub entries_name : NamesHold x.tasks x.shared.files x.sockets → (q k : ℕ) (last : Task) (w : Watch) → at q y.tasks ≡ Some last → HasEntry k last.epolls w → (id jd : FileId) (f g : File) → names q w.fd x.tasks ≡ Some id → names q w.fd y.tasks ≡ Some jd → file_at id x.shared.files ≡ Some f → file_at jd y.shared.files ≡ Some g → NamesOne hosts now.nanos x y files sockets id jd f g

-- and all descriptors do
abbrev pub NameOne : (hosts : List Ip) (now : Time) (x y : PartsRecord) → FilesMove now.nanos x.shared.files y.shared.files → SocketsMove hosts x.sockets y.sockets → Type 0
NameOne hosts now x y files sockets =
    (q fd : ℕ) (id jd : FileId) (f g : File) → names q fd x.tasks ≡ Some id → names q fd y.tasks ≡ Some jd → file_at id x.shared.files ≡ Some f → file_at jd y.shared.files ≡ Some g → NamesOne hosts now.nanos x y files sockets id jd f g

pub record KeepsNames (hosts : List Ip) (now : Time) (x y : PartsRecord) : Type 0 where
  pub keeps : Keeps hosts now x y
  pub one : NamesHold x.tasks x.shared.files x.sockets → NameOne hosts now x y keeps.files keeps.sockets

pub moves_names : (hosts : List Ip) (now : Time) (x y : PartsRecord) → KeepsNames hosts now x y → NamesHold x.tasks x.shared.files x.sockets → NamesMove hosts now.nanos x y
moves_names hosts now x y k hold = record { files = k.keeps.files; sockets = k.keeps.sockets; hold = k.keeps.hold hold; one = k.one hold }

keeps_by : (hosts : List Ip) (now : Time) (x y : PartsRecord) (m : FilesMove now.nanos x.shared.files y.shared.files) (s : SocketsMove hosts x.sockets y.sockets) → (TasksRise x → TasksRise y) → (NamesHold x.tasks x.shared.files x.sockets → NamesHold y.tasks y.shared.files y.sockets) → MarksMove now x y → ((q : ℕ) (last : Task) → at q y.tasks ≡ Some last → (first : Task) × (at q x.tasks ≡ Some first)) → (NamesHold x.tasks x.shared.files x.sockets → NameOne hosts now x y m s) → KeepsNames hosts now x y
keeps_by hosts now x y m s tasks hold marks were one = record {
  keeps = record {
    files = m;
    sockets = s;
    tasks = tasks;
    hold = hold;
    marks = marks;
    were = λ q k last w e entry. were q last e;
    entries_name = λ h q k last w e entry id jd f g. one h q w.fd id jd f g;
  };
  one = one;
}

-- a process is left as an act leaves it
pub moved_slot : (hosts : List Ip) (now : Time) (h : PartsRecord) (process : ℕ) (before : Task) (p : Slot) (left : Task) → at process h.tasks ≡ Some before → p.task ≡ Some left → Moved now.nanos (view before h.shared h.sockets) (view left p.shared p.sockets) → SocketsMove hosts h.sockets p.sockets → KeepsNames hosts now h (with_slot process p h)
moved_slot hosts now h process before p left there is m s =
    keeps_by hosts now h (with_slot process p h) m.files s
    (λ rise. placed_by h process p left is (m.epolls (rise process before there)) rise)
    (hold_after h process p left is now before there m.names)
    (marks_after h process p left is now before there m.names)
    (were_after h process p left is now before there m.names)
    (one_after h process p left is now before there m.names hosts m.files s)

-- none of them is
pub rest_there : (hosts : List Ip) (now : Time) (x y : PartsRecord) (m : FilesMove now.nanos x.shared.files y.shared.files) (s : SocketsMove hosts x.sockets y.sockets) → (TasksRise x → TasksRise y) → ((q : ℕ) → at q y.tasks ≡ at q x.tasks) → x.shared.files.files ≡ y.shared.files.files → Grows x.shared.files y.shared.files → AllStay x.sockets y.sockets → KeepsNames hosts now x y
rest_there hosts now x y m s tasks same files grows stay =
    keeps_by hosts now x y m s tasks (hold_rests now x y same files grows stay) (marks_rest now x y same files grows stay) (λ q last e. (last, sym (same q) ∙ e)) (one_rests now x y same files grows stay hosts m s)

module _ (hosts : List Ip) (now : Time) where
  no_task : (process : ℕ) (h : PartsRecord) → KeepsNames hosts now h (with_slot process (slot_in process h) h)
  no_task process h =
      rest_there hosts now h (with_slot process (slot_in process h) h) (none now.nanos h.shared.files) (sockets_rest hosts h.sockets) (kept_by h process (slot_in process h) refl) (placed_same process h.tasks) refl
      (grows_so h.shared.files h.shared.files refl refl refl) (all_stay h.sockets)

  -- an end of a process, and a start
  ended_by_option : (process : ℕ) (h : PartsRecord) (o : Option Task) → at process h.tasks ≡ o → KeepsNames hosts now h (with_slot process (ended_by now o (slot_in process h)) h)
  ended_by_option process h None e = no_task process h
  ended_by_option process h (Some task) e =
      let s = scene_at task (slot_in process h) in
      let left = all_ended_move hosts now s in
      moved_slot hosts now h process task (slot_of (all_ended now s)) (all_ended now s).task e refl left.0 left.1

  pub ended_keep_names : (process : ℕ) (h : PartsRecord) → KeepsNames hosts now h (ended now process h)
  ended_keep_names process h = ended_by_option process h (at process h.tasks) refl

  pub ended_keeps : (process : ℕ) (h : PartsRecord) → Keeps hosts now h (ended now process h)
  ended_keeps process h = (ended_keep_names process h).keeps

  pub starts_keep : (process : ℕ) (memory : Memory) (h : PartsRecord) → Keeps hosts now h (task_starts process memory h)
  starts_keep process memory h =
      let s = starts memory h.shared in
      let m = stays now.nanos h.shared.files (task_starts process memory h).shared.files refl refl refl in
      let rest = sockets_rest hosts h.sockets in
      record {
        files = m;
        sockets = rest;
        tasks = λ rise. placed_by h process (slot (Some s.0) s.1 h.sockets) s.0 refl none_rise rise;
        hold = hold_begun process memory h;
        marks = marks_begun process memory h now;
        were = λ q k last w e entry.
            entry_begun process memory h ((first : Task) × (at q h.tasks ≡ Some first)) q k last w e entry (λ apart there. (last, there));
        entries_name = λ hold q k last w e entry id jd f g first last_is there_f there_g.
            entry_begun process memory h (NamesOne hosts now.nanos h (task_starts process memory h) m rest id jd f g) q k last w e entry
            (λ apart there. one_begun process memory h hosts now m rest hold q w.fd id jd f g apart first last_is there_f there_g);
      }

  -- where no process was in its place, all names stay
  pub starts_keep_names : (process : ℕ) (memory : Memory) (h : PartsRecord) → at process h.tasks ≡ None → KeepsNames hosts now h (task_starts process memory h)
  starts_keep_names process memory h empty =
      let k = starts_keep process memory h in
      record {
        keeps = k;
        one = λ hold q fd id jd f g e last_is there_f there_g.
            by_number process q (NamesOne hosts now.nanos h (task_starts process memory h) k.files k.sockets id jd f g)
            (λ same. absurd (none_named fd id (at q h.tasks) (subst (λ (n : ℕ). at n h.tasks ≡ None) same empty) e))
            (λ apart. one_begun process memory h hosts now k.files k.sockets hold q fd id jd f g apart e last_is there_f there_g);
      }
    where
      none_named : (fd : ℕ) (id : FileId) (o : Option Task) → o ≡ None → named_in fd o ≡ Some id → ⊥
      none_named fd id None e h = cc
      none_named fd id (Some task) e h = cc

  -- an alarm
  rings_move : (k : ℕ) (o : Option ℕ) (shared : Shared) → FilesMove now.nanos shared.files (rings_at k o shared).files
  rings_move k None shared = none now.nanos shared.files
  rings_move k (Some due) shared =
      let serial = (wants_alarm (alarm_of.Timer k) (at_nanos due) shared.outlet).0 in
      on_timer now.nanos (does k (Rings serial)) shared.files (rings_at k (Some due) shared).files (tt, tt) refl refl refl

  rings_grow : (k : ℕ) (o : Option ℕ) (shared : Shared) → Grows shared.files (rings_at k o shared).files
  rings_grow k None shared = grows_so shared.files shared.files refl refl refl
  rings_grow k (Some due) shared =
      grows_timer (after_serial (wants_alarm (alarm_of.Timer k) (at_nanos due) shared.outlet).0) (λ t. refl) k shared.files

  rings_same : (k : ℕ) (o : Option ℕ) (shared : Shared) → shared.files.files ≡ (rings_at k o shared).files.files
  rings_same k None shared = refl
  rings_same k (Some due) shared = refl

  -- the files rest, and an act that makes and closes none is done to the sockets
  files_rest : (x y : PartsRecord) (done : SocketsAct) → Stays done → (sockets_acted hosts now done x.sockets x.shared.outlet).0 ≡ y.sockets → x.shared.files ≡ y.shared.files → (TasksRise x → TasksRise y) → ((q : ℕ) → at q y.tasks ≡ at q x.tasks) → KeepsNames hosts now x y
  files_rest x y done quiet acted files tasks same =
      let pipes = ap (λ (z : FilesState). z.pipes) files in
      let eventfds = ap (λ (z : FilesState). z.eventfds) files in
      let timers = ap (λ (z : FilesState). z.timers) files in
      let left = (sockets_acted hosts now done x.sockets x.shared.outlet).0 in
      rest_there hosts now x y (stays now.nanos x.shared.files y.shared.files pipes eventfds timers) (sockets_move hosts now done x.sockets y.sockets x.shared.outlet acted) tasks same (ap (λ (z : FilesState). z.files) files) (grows_so x.shared.files y.shared.files pipes eventfds timers)
      (subst (λ (u : SocketsRecord). AllStay x.sockets u) acted (same_stay x.sockets left (stays_there x.sockets hosts now done x.shared.outlet quiet)))

  all_rest : (h : PartsRecord) → KeepsNames hosts now h h
  all_rest h =
      rest_there hosts now h h (none now.nanos h.shared.files) (sockets_rest hosts h.sockets) (λ rise. rise) (λ q. refl) refl (grows_so h.shared.files h.shared.files refl refl refl) (all_stay h.sockets)

  pub alarmed_keep_names : (target : AlarmTarget) (serial : ℕ) (h : PartsRecord) → KeepsNames hosts now h (alarmed now target serial h)
  alarmed_keep_names (alarm_of.Process p) serial h = all_rest h
  alarmed_keep_names (alarm_of.Timer k) serial h =
      let o = next_ring now serial (timer_at k h.shared.files) in
      rest_there hosts now h (alarmed now (alarm_of.Timer k) serial h) (rings_move k o h.shared) (sockets_rest hosts h.sockets) (λ rise. rise) (λ q. refl) (rings_same k o h.shared) (rings_grow k o h.shared) (all_stay h.sockets)
  alarmed_keep_names (alarm_of.Socket k) serial h = files_rest h _ (act.alarm k serial) tt refl refl (λ rise. rise) (λ q. refl)

  pub alarmed_keeps : (target : AlarmTarget) (serial : ℕ) (h : PartsRecord) → Keeps hosts now h (alarmed now target serial h)
  alarmed_keeps target serial h = (alarmed_keep_names target serial h).keeps

  pub arrives_keep_names : (packet : Packet) (h : PartsRecord) → KeepsNames hosts now h (arrives now packet h).1
  arrives_keep_names packet h = files_rest h (arrives now packet h).1 (act.arrival packet) tt refl refl (λ rise. rise) (λ q. refl)

  pub arrives_keeps : (packet : Packet) (h : PartsRecord) → Keeps hosts now h (arrives now packet h).1
  arrives_keeps packet h = (arrives_keep_names packet h).keeps

-- the rows
module _ (known : Known) (now : Time) where
  done_leads : (process : ℕ) (p : Plan) (s : Scene) → PlanFits s p → R known.book now s (done known now process p s)
  done_leads process (plan.Read t) s fits =
      let r = reads known.hosts now t (local_of s) in
      reacting known.book now s (plainly r s) (plain_rows known.book now s r (reads_lead now known.hosts t s.task s.shared fits))
  done_leads process (plan.Write t) s fits =
      let r = writes process t (local_of s) in
      reacting known.book now s (plainly r s) (plain_rows known.book now s r (writes_lead now process t s.task s.shared))
  done_leads process (plan.Accept a) s fits = reacting known.book now s (accepts a s) (accept_leads known.book now.nanos a s fits)
  done_leads process (plan.Connect c) s fits = connect_leads known.book now.nanos now c s
  done_leads process (plan.Send m) s fits = reacting known.book now s (sends_by known.book now m s) (send_leads known.book now.nanos now m s)
  done_leads process (plan.Receive r) s fits = reacting known.book now s (receives now r s) (recv_leads known.book now.nanos now r s)
  done_leads process plan.Sleep s fits = keeps known.book now.nanos _ s s refl refl refl refl
  done_leads process (plan.Poll p) s fits = reacting known.book now s (polls now p s) (polls_lead known.book now p s)
  done_leads process (plan.EpollWait p) s fits = reacting known.book now s (epoll_waits now p s) (waits_lead known.book now p s)

  network_leads : (call : NetworkCall) (args : List ℕ) (s : Scene) → R known.book now s (network_row known now call args s)
  network_leads network.Socket args s =
      reacting known.book now s (socket (arg args 0) (arg args 1) (arg args 2) s) (socket_leads known.book now.nanos (arg args 0) (arg args 1) (arg args 2) s)
  network_leads network.Bind args s =
      reacting known.book now s (bind known.book (arg args 0) (arg args 1) (arg args 2) s) (bind_leads known.book now.nanos (arg args 0) (arg args 1) (arg args 2) s)
  network_leads network.Listen args s =
      reacting known.book now s (listen (arg args 0) (arg args 1) s) (listen_leads known.book now.nanos (arg args 0) (arg args 1) s)
  network_leads network.Getsockname args s =
      reacting known.book now s (getsockname (arg args 0) (arg args 1) (arg args 2) s) (getsockname_leads known.book now.nanos (arg args 0) (arg args 1) (arg args 2) s)
  network_leads network.Getpeername args s =
      reacting known.book now s (getpeername (arg args 0) (arg args 1) (arg args 2) s) (getpeername_leads known.book now.nanos (arg args 0) (arg args 1) (arg args 2) s)
  network_leads network.Getsockopt args s =
      reacting known.book now s (getsockopt now (arg args 0) (arg args 1) (arg args 2) (arg args 3) (arg args 4) s) (getsockopt_leads known.book now.nanos now (arg args 0) (arg args 1) (arg args 2) (arg args 3) (arg args 4) s)
  network_leads network.Shutdown args s =
      reacting known.book now s (shutdown now (arg args 0) (arg args 1) s) (shutdown_leads known.book now.nanos now (arg args 0) (arg args 1) s)

  row_leads : (process : ℕ) (call : Call) (args : List ℕ) (s : Scene) → R known.book now s (row known now process call args s)
  row_leads process (system_call.Plain p) args s =
      let r = plain_row now process p args (local_of s) in
      reacting known.book now s (plainly r s) (plain_rows known.book now s r (plain_leads now process p args s.task s.shared))
  row_leads process (system_call.Network n) args s = network_leads n args s
  row_leads process (system_call.Waiting w) args s =
      asks_so (Q known.book now s) (asked known now w args s) _ (λ p e. done_leads process p s ((asked_fits known now w args s).gives p e))
  row_leads process system_call.Close args s = reacting known.book now s (close now (arg args 0) s) (close_leads known.book now (arg args 0) s)
  row_leads process system_call.Exit args s = refused (Q known.book now s) _

  row_of_leads : (process : ℕ) (o : Option Call) (args : List ℕ) (s : Scene) → R known.book now s (row_of known now process o args s)
  row_of_leads process None args s = refused (Q known.book now s) _
  row_of_leads process (Some c) args s = row_leads process c args s

  call_by_option : (process number : ℕ) (args : List ℕ) (h : PartsRecord) (o : Option Task) → at process h.tasks ≡ o → KeepsNames known.book now h (with_slot process (call_by known now process number args o (slot_in process h)).1 h)
  call_by_option process number args h None e = no_task known.book now process h
  call_by_option process number args h (Some task) e =
      let s = scene_at task (slot_in process h) in
      let answer = answered now process number args (row_of known now process (call_of number) args s) s in
      let left = answered_move known.book now process number args (row_of known now process (call_of number) args s) s (row_of_leads process (call_of number) args s) in
      moved_slot known.book now h process task (slot_of answer.1) answer.1.task e refl left.0 left.1

  pub call_keep_names : (process number : ℕ) (args : List ℕ) (h : PartsRecord) → KeepsNames known.book now h (call known now process number args h).1
  call_keep_names process number args h = call_by_option process number args h (at process h.tasks) refl

  pub call_keeps : (process number : ℕ) (args : List ℕ) (h : PartsRecord) → Keeps known.book now h (call known now process number args h).1
  call_keeps process number args h = (call_keep_names process number args h).keeps
