-- rows that need no sockets
use Rattle.std.proofs.Common.{◌≡◌, ⊎_elim, ℕ, ◌+◌, ◌==◌, true, false, not, List, length, Some, None, is_some, Result, Ok, nat_lt, refl, sym, ap, subst}
use Rattle.std.specs.FinMap as map
use Rattle.sim_base.specs.declared.alarm.AlarmTarget.TheVariants.{Timer}
use Rattle.sim_base.specs.Refusals.{refuse_if, or_refuse}
use Rattle.sim_base.specs.declared.errno.Errno.TheVariants.{Efault, Einval}
use Rattle.sim_base.specs.declared.time.Time.{Time}
use Rattle.guest_args.specs.Span.{counted, can_write}
use Rattle.guest_args.specs.Time.{timespec_of, timespec_size}
use Rattle.host_fds.specs.declared.epoll.Watch.{Watch}
use Rattle.host_fds.specs.Eventfd as eventfd
use Rattle.host_timers.specs.Clock.{clock_at}
use Rattle.host_files.specs.declared.file.File.{File}
use Rattle.host_files.specs.declared.file.Object.{Object}
use Rattle.host_files.specs.declared.file.Object.TheVariants as kind
use Rattle.host_files.specs.Epolls.{EpollsState, next_epoll, with_epoll}
use Rattle.host_files.specs.Files.{FilesState, next_pipe, next_timer, next_eventfd, new_timer as kept_timer, timer_set, after_set, after_count, after_taken, after_added}
use Rattle.host_files.specs.Slots.{at}
use Rattle.host_wants.specs.declared.error.Refusal.{Refusal}
use Rattle.host_wants.specs.declared.error.Refusal.TheVariants.{Errno}
use Rattle.host_wants.specs.Wanted.{wants_alarm}
use Rattle.call_parts.specs.declared.call.PlainCall.{PlainCall}
use Rattle.call_parts.specs.declared.call.PlainCall.TheVariants as plain
use Rattle.host_sockets.specs.Sockets.{SocketsRecord}
use Rattle.file_calls.specs.declared.controlling.Change.{Change}
use Rattle.file_calls.specs.declared.controlling.Change.TheVariants.{Put, Remove}
use Rattle.file_calls.specs.declared.controlling.Control.{Control}
use Rattle.file_calls.specs.declared.descriptors.Descriptor.{Descriptor}
use Rattle.file_calls.specs.declared.task.Shared.{Shared}
use Rattle.file_calls.specs.declared.task.Task.{Task}
use Rattle.file_calls.specs.declared.transfer.Transfer.{Transfer}
use Rattle.file_calls.specs.declared.times.OldTimer.{OldTimer}
use Rattle.file_calls.specs.declared.times.Setting.{Setting}
use Rattle.call_parts.specs.Plain.{arg, plain_row}
use Rattle.file_calls.specs.Descriptors.{descriptor, opens}
use Rattle.file_calls.specs.EpollControl.{epoll_asked, epoll_file, new_epoll, epoll_create1, ctl_asked, changed, controlled, epoll_ctl}
use Rattle.file_calls.specs.Eventfd.{eventfd_asked, eventfd_file, new_eventfd, eventfd2, number_of}
use Rattle.file_calls.specs.Files.{with_flags, fcntl_by, fcntl, hosts_file, openat_asked, openat, ends_bytes, with_ends, pipe2_asked, pipe2, text_left, is_read_by, is_read, reads, after_write, is_written, writes}
use Rattle.file_calls.specs.Flags.{o_nonblock, efd_semaphore, has}
use Rattle.file_calls.specs.Guest.{getpid, brk, words, words_in, random_count, random_told, getrandom}
use Rattle.file_calls.specs.Numbers.{f_getfd, f_setfd, f_getfl, f_setfl, grnd_nonblock, grnd_random}
use Rattle.file_calls.specs.Scene.{Local, tell_memory}
use Rattle.call_parts.specs.Sockets.{setsockopt_asked, setsockopt}
use Rattle.file_calls.specs.Times.{at_nanos, clock_gettime, timer_file, new_timer, create_asked, timerfd_create, sets, set_by, old_timer, tell_setting, settime_asked, timerfd_settime}
use Rattle.pipe_laws.specs.Acts.{Writes, Reads}
use Rattle.pipe_laws.specs.Eventfds.{Adds, Takes}
use Rattle.file_laws.specs.Lives.{makes, does}
use Rattle.file_laws.specs.Timers.{Sets, Counts}
use Rattle.file_laws.proofs.Places.{made_here, none_free}
use Rattle.call_rises.specs.Moves.{FilesMove, AllRise}
use Rattle.call_rises.specs.Names.{is_there, is_single, object_alone, HasEntry}
use Rattle.call_rises.proofs.Asked.{ChangeFits, openat_free, pipe_free, create_free, eventfd_free, epoll_free, ctl_fits}
use Rattle.call_rises.proofs.Epolls.{rise_made, rise_changed, entry_made, entry_put, entry_removed}
use Rattle.call_rises.proofs.Growing.{grows_read, grows_written, grows_timer, grows_eventfd, grows_by_timer, grows_by_eventfd}
use Rattle.call_rises.proofs.Moving.{by_test, none, stays, Moved, moved_by, moved, on_pipe, on_eventfd, on_timer, Leads, answers, refused, asks, asks_so, tries}
use Rattle.call_rises.proofs.Opening.{with_open, opened_named, changed_named, new_object, pipe_named}
use Rattle.call_rises.proofs.There.{all_stay}
use Rattle.call_rises.proofs.Views.{View, view, came_as_it_was, came_unsaid, Named, Grows, grows_so, quiet, resting, descriptor_named, is_there_of}

module _ (now : ℕ) where
  abbrev pub LocalMoved : Task → Shared → Local → Type 0
  LocalMoved task shared s = (t : SocketsRecord) → Moved now (view task shared t) (view s.0 s.1 t)

  abbrev R : {A : Type 0} → Task → Shared → Result (A × Local) Refusal → Type 0
  R task shared row = Leads (LocalMoved task shared) row

  moves : {A : Type 0} (a : A) (task : Task) (shared : Shared) (after : Local) → FilesMove now shared.files after.1.files → task.epolls ≡ after.0.epolls → ((t : SocketsRecord) → Named now (view task shared t) (view after.0 after.1 t)) → R task shared (Ok (a, after))
  moves a task shared after m e named =
      answers (LocalMoved task shared) a after (λ t. moved_by now (view task shared t) (view after.0 after.1 t) m e (named t))

  -- of these rows none changes them
  keeps : {A : Type 0} (a : A) (task : Task) (shared : Shared) (after : Local) → shared.files ≡ after.1.files → task.table ≡ after.0.table → task.epolls ≡ after.0.epolls → R task shared (Ok (a, after))
  keeps a task shared after files table epolls =
      let pipes = ap (λ (x : FilesState). x.pipes) files in
      let eventfds = ap (λ (x : FilesState). x.eventfds) files in
      let timers = ap (λ (x : FilesState). x.timers) files in
      answers (LocalMoved task shared) a after
      (λ t.
      moved now (view task shared t) (view after.0 after.1 t) (stays now shared.files after.1.files pipes eventfds timers) table (ap (λ (x : FilesState). x.files) files) epolls
      (grows_so shared.files after.1.files pipes eventfds timers) (all_stay t))

  -- nothing is opened or closed
  acted : (task after : Task) (shared left : Shared) → task.table ≡ after.table → shared.files.files ≡ left.files.files → task.epolls ≡ after.epolls → Grows shared.files left.files → (t : SocketsRecord) → Named now (view task shared t) (view after left t)
  acted task after shared left table files epolls grows t =
      quiet now (view task shared t) (view after left t) table files epolls grows (all_stay t)

  -- an open file, as it is named
  abbrev IsNamed : Descriptor → Shared → Type 0
  IsNamed d shared = at d.id.number shared.files.files ≡ Some d.file

  flags_move : (flags : ℕ) (d : Descriptor) (task : Task) (shared : Shared) → IsNamed d shared → R {A = ℕ} task shared (Ok (0, with_flags flags d (task, shared)))
  flags_move flags d task shared named =
      let after = with_flags flags d (task, shared) in
      moves 0 task shared after (stays now shared.files after.1.files refl refl refl) refl
      (λ t.
      changed_named now (view task shared t) d.id d.file (record d.file { nonblocking = has o_nonblock flags }) named refl (λ e. e) (λ e. refl))

  fcntl_leads : (command flags : ℕ) (d : Descriptor) (task : Task) (shared : Shared) → IsNamed d shared → R task shared (fcntl_by command flags d (task, shared))
  fcntl_leads command flags d task shared named =
      by_test (R task shared) (command == f_getfd) _ _
      (λ e. keeps 0 task shared (task, shared) refl refl refl)
      (λ e. by_test (R task shared) (command == f_setfd) _ _
      (λ k. keeps 0 task shared (task, shared) refl refl refl)
      (λ k. by_test (R task shared) (command == f_getfl) _ _
      (λ m. keeps _ task shared (task, shared) refl refl refl)
      (λ m. by_test (R task shared) (command == f_setfl) _ _
      (λ n. flags_move flags d task shared named)
      (λ n. refused (LocalMoved task shared) _))))

  fcntl_rows : (fd command flags : ℕ) (task : Task) (shared : Shared) → R task shared (fcntl fd command flags (task, shared))
  fcntl_rows fd command flags task shared =
      asks_so (LocalMoved task shared) (descriptor fd task shared.files) (λ d. fcntl_by command flags d (task, shared))
      (λ d e. fcntl_leads command flags d task shared (descriptor_named (map.get task.table fd) shared.files d e).1)

  -- rows that open a file
  opens_row : {A : Type 0} (a : A) (fd : ℕ) (file : File) (task : Task) (shared made : Shared) (after : Local) (epolls : EpollsState) → FilesMove now shared.files after.1.files → (AllRise task.epolls → AllRise after.0.epolls) → map.get task.table fd ≡ None → shared.files.files ≡ made.files.files → Grows shared.files made.files → ((t : SocketsRecord) → is_there file.object made.files t ≡ true) → ((t : SocketsRecord) → is_single file.object ≡ true → is_there file.object shared.files t ≡ false) → ((k : ℕ) (x : Watch) → HasEntry k epolls x → HasEntry k task.epolls x) → ((t : SocketsRecord) → view after.0 after.1 t ≡ with_open (view task shared t) fd file made.files epolls t) → R task shared (Ok (a, after))
  opens_row a fd file task shared made after epolls m rise free files grows here new entries is =
      answers (LocalMoved task shared) a after
      (λ t.
      record {
        files = m;
        epolls = rise;
        names = subst (λ (w : View). Named now (view task shared t) w) (sym (is t))
            (opened_named now (view task shared t) fd file made.files epolls t free files grows (all_stay t) (here t) entries
            (λ process tasks h. new_object (view task shared t) file process tasks h (new t)));
      })

  openat_leads : (path flags : ℕ) (task : Task) (shared : Shared) → R task shared (openat path flags (task, shared))
  openat_leads path flags task shared =
      asks_so (LocalMoved task shared) (openat_asked path flags task) (λ fd. Ok (fd, opens fd hosts_file (task, shared)))
      (λ fd e.
      let after = opens fd hosts_file (task, shared) in
      opens_row fd fd hosts_file task shared shared after task.epolls (stays now shared.files after.1.files refl refl refl) (λ rise. rise) ((openat_free path flags task).gives fd e) refl
      (grows_so shared.files shared.files refl refl refl) (λ t. refl) (λ t one. cc) (λ k x h. h) (λ t. refl))

  pipe2_leads : (at flags : ℕ) (task : Task) (shared : Shared) → R task shared (pipe2 at flags (task, shared))
  pipe2_leads at flags task shared =
      asks_so (LocalMoved task shared) (pipe2_asked at flags task) _
      (λ fds e.
      let after = tell_memory at (ends_bytes fds) (with_ends fds (has o_nonblock flags) (next_pipe shared.files) (task, shared)) in
      moves 0 task shared after (on_pipe now (makes tt) shared.files after.1.files refl refl refl) refl
      (λ t. pipe_named now (view task shared t) fds (has o_nonblock flags) ((pipe_free at flags task).gives fds e)))

  create_leads : (clock flags : ℕ) (task : Task) (shared : Shared) → R task shared (timerfd_create clock flags (task, shared))
  create_leads clock flags task shared =
      asks_so (LocalMoved task shared) (create_asked clock flags task) _
      (λ fd e.
      let made = (new_timer clock (task, shared)).1 in
      let file = timer_file (has o_nonblock flags) (next_timer shared.files) in
      let after = opens fd file (new_timer clock (task, shared)) in
      opens_row fd fd file task shared made after task.epolls (on_timer now (makes clock) shared.files after.1.files tt refl refl refl) (λ rise. rise) ((create_free clock flags task).gives fd e) refl
      (grows_by_timer clock shared.files)
      (λ t. is_there_of (at (next_timer shared.files) made.files.timers) (kept_timer clock) (made_here (kept_timer clock) shared.files.timers))
      (λ t one. ap is_some (none_free shared.files.timers)) (λ k x h. h) (λ t. refl))

  eventfd_leads : (count flags : ℕ) (task : Task) (shared : Shared) → R task shared (eventfd2 count flags (task, shared))
  eventfd_leads count flags task shared =
      asks_so (LocalMoved task shared) (eventfd_asked flags task) _
      (λ fd e.
      let new = eventfd.new_eventfd count (has efd_semaphore flags) in
      let made = (new_eventfd count flags (task, shared)).1 in
      let file = eventfd_file flags (next_eventfd shared.files) in
      let after = opens fd file (new_eventfd count flags (task, shared)) in
      opens_row fd fd file task shared made after task.epolls (on_eventfd now (makes (count, has efd_semaphore flags)) shared.files after.1.files refl refl refl) (λ rise. rise) ((eventfd_free flags task).gives fd e) refl
      (grows_by_eventfd new shared.files)
      (λ t. is_there_of (at (next_eventfd shared.files) made.files.eventfds) new (made_here new shared.files.eventfds))
      (λ t one. ap is_some (none_free shared.files.eventfds)) (λ k x h. h) (λ t. refl))

  setsockopt_leads : (fd level option at n : ℕ) (task : Task) (shared : Shared) → R task shared (setsockopt fd level option at n (task, shared))
  setsockopt_leads fd level option at n task shared =
      tries (LocalMoved task shared) (setsockopt_asked fd level option at n (task, shared)) (Ok (0, (task, shared))) (keeps 0 task shared (task, shared) refl refl refl)

  getrandom_leads : (at n flags : ℕ) (task : Task) (shared : Shared) → R task shared (getrandom at n flags (task, shared))
  getrandom_leads at n flags task shared =
      let count = random_count n in
      let drawn = random_told at count (words (words_in count) shared.outlet) (task, shared) in
      tries (LocalMoved task shared) (refuse_if (nat_lt (grnd_nonblock + grnd_random) flags) (Errno Einval)) _
      (tries (LocalMoved task shared) (refuse_if (not (can_write count at task.memory)) (Errno Efault)) (Ok (count, drawn))
      (keeps count task shared drawn refl refl refl))

  gettime_leads : (moment : Time) (clock at : ℕ) (task : Task) (shared : Shared) → R task shared (clock_gettime moment clock at (task, shared))
  gettime_leads moment clock at task shared =
      asks (LocalMoved task shared) (or_refuse (clock_at clock moment.nanos) (Errno Einval)) _
      (λ time. tries (LocalMoved task shared) (refuse_if (not (can_write timespec_size at task.memory)) (Errno Efault)) _
      (let after = tell_memory at (timespec_of time) (task, shared) in keeps 0 task shared after refl refl refl))

  epoll_create_leads : (flags : ℕ) (task : Task) (shared : Shared) → R task shared (epoll_create1 flags (task, shared))
  epoll_create_leads flags task shared =
      asks_so (LocalMoved task shared) (epoll_asked flags task) _
      (λ fd e.
      let file = epoll_file (next_epoll task.epolls) in
      let after = opens fd file (new_epoll (task, shared)) in
      opens_row fd fd file task shared shared after (with_epoll task.epolls) (stays now shared.files after.1.files refl refl refl) (λ rise. rise_made task.epolls rise) ((epoll_free flags task).gives fd e) refl
      (grows_so shared.files shared.files refl refl refl) (λ t. refl) (λ t one. cc) (λ k x h. entry_made x task.epolls k h) (λ t. refl))

  -- an entry that is put is of an open descriptor, and was never told
  entries_changed : (c : Control) (task : Task) (shared : Shared) → ChangeFits task.table c.change → (t : SocketsRecord) → Named now (view task shared t) (view (controlled c (task, shared)).0 (controlled c (task, shared)).1 t)
  entries_changed c task shared fits t = by_change c.change fits
    where
      by_change : (change : Change) → ChangeFits task.table change → Named now (view task shared t) (record { table = task.table; files = shared.files; epolls = changed change c.place task.epolls; sockets = t })
      by_change (Put w) (is_open, unreported) =
          resting now (view task shared t) _ refl refl (grows_so shared.files shared.files refl refl refl) (all_stay t)
          (λ process tasks h k x e. ⊎_elim (λ same. subst (λ (v : Watch). is_some (map.get task.table v.fd) ≡ true) (sym same) is_open) (λ old. h.watched k x old) (entry_put x w c.place task.epolls k e))
          (λ k x e. ⊎_elim (λ same. came_unsaid (subst (λ (v : Watch). v.reported ≡ None) (sym same) unreported)) (λ old. came_as_it_was old) (entry_put x w c.place task.epolls k e))
      by_change (Remove fd) fits =
          resting now (view task shared t) _ refl refl (grows_so shared.files shared.files refl refl refl) (all_stay t)
          (λ process tasks h k x e. h.watched k x (entry_removed x fd c.place task.epolls k e))
          (λ k x e. came_as_it_was (entry_removed x fd c.place task.epolls k e))

  epoll_ctl_leads : (epfd op fd at : ℕ) (task : Task) (shared : Shared) → R task shared (epoll_ctl epfd op fd at (task, shared))
  epoll_ctl_leads epfd op fd at task shared =
      asks_so (LocalMoved task shared) (ctl_asked epfd op fd at (task, shared)) _
      (λ c e.
      let after = controlled c (task, shared) in
      answers (LocalMoved task shared) 0 after
      (λ t.
      record {
        files = stays now shared.files after.1.files refl refl refl;
        epolls = λ rise. rise_changed c.change c.place task.epolls rise;
        names = entries_changed c task shared ((ctl_fits epfd op fd at task shared).gives c e) t;
      }))

-- timers are set, and read, at the moment of the call
module _ (now : Time) where
  sets_move : (k old first interval : ℕ) (shared : Shared) → FilesMove now.nanos shared.files (sets now k old first interval shared).files
  sets_move k old first interval shared =
      let serial = (wants_alarm (Timer k) (at_nanos first) shared.outlet).0 in
      by_test (λ (x : Shared). FilesMove now.nanos shared.files x.files) (first == 0) _ _
      (λ e. on_timer now.nanos (does k (Sets now.nanos 0 interval old)) shared.files _ (refl, tt) refl refl refl)
      (λ e. on_timer now.nanos (does k (Sets now.nanos first interval serial)) shared.files _ (refl, tt) refl refl refl)

  set_move : (flags : ℕ) (old : OldTimer) (setting : Setting) (shared : Shared) → FilesMove now.nanos shared.files (set_by now flags old setting shared).files
  set_move flags old setting shared = sets_move old.place old.serial _ _ shared

  sets_named : (k old first interval : ℕ) (task : Task) (shared : Shared) (after : Task) → task.table ≡ after.table → task.epolls ≡ after.epolls → (t : SocketsRecord) → Named now.nanos (view task shared t) (view after (sets now k old first interval shared) t)
  sets_named k old first interval task shared after table epolls t =
      let serial = (wants_alarm (Timer k) (at_nanos first) shared.outlet).0 in
      by_test (λ (x : Shared). Named now.nanos (view task shared t) (view after x t)) (first == 0) _ _
      (λ e.
      acted now.nanos task after shared (record shared { files = timer_set now.nanos 0 interval old k shared.files }) table refl epolls (grows_timer (after_set now.nanos 0 interval old) (λ x. refl) k shared.files) t)
      (λ e.
      acted now.nanos task after shared (record shared { files = timer_set now.nanos first interval serial k shared.files }) table refl epolls (grows_timer (after_set now.nanos first interval serial) (λ x. refl) k shared.files) t)

  set_named : (flags : ℕ) (old : OldTimer) (setting : Setting) (task : Task) (shared : Shared) (after : Task) → task.table ≡ after.table → task.epolls ≡ after.epolls → (t : SocketsRecord) → Named now.nanos (view task shared t) (view after (set_by now flags old setting shared) t)
  set_named flags old setting task shared after table epolls t = sets_named old.place old.serial _ _ task shared after table epolls t

  settime_leads : (fd flags at old_at : ℕ) (task : Task) (shared : Shared) → R now.nanos task shared (timerfd_settime now fd flags at old_at (task, shared))
  settime_leads fd flags at old_at task shared =
      asks (LocalMoved now.nanos task shared) (old_timer now fd task shared.files) _
      (λ old. asks (LocalMoved now.nanos task shared) (settime_asked flags at old_at task) _
      (λ setting.
      moves now.nanos 0 task shared (tell_setting old_at old.setting (task, set_by now flags old setting shared)) (set_move flags old setting shared) refl
      (set_named flags old setting task shared (tell_setting old_at old.setting (task, set_by now flags old setting shared)).0 refl refl)))

  -- read(2) and write(2) where no socket is meant
  read_move : (text : List ℕ) (d : Descriptor) (object : Object) (at count : ℕ) (task : Task) (shared : Shared) → FilesMove now.nanos shared.files (is_read_by text now d object at count (task, shared)).1.1.files
  read_move text d kind.Input at count task shared = none now.nanos shared.files
  read_move text d kind.Output at count task shared = none now.nanos shared.files
  read_move text d kind.Errors at count task shared = none now.nanos shared.files
  read_move text d (kind.Hosts read) at count task shared =
      stays now.nanos shared.files (is_read_by text now d (kind.Hosts read) at count (task, shared)).1.1.files refl refl refl
  read_move text d (kind.ReadEnd k) at count task shared =
      on_pipe now.nanos (does k (Reads count)) shared.files (is_read_by text now d (kind.ReadEnd k) at count (task, shared)).1.1.files refl refl refl
  read_move text d (kind.WriteEnd k) at count task shared = none now.nanos shared.files
  read_move text d (kind.Timer k) at count task shared =
      on_timer now.nanos (does k (Counts now.nanos)) shared.files (is_read_by text now d (kind.Timer k) at count (task, shared)).1.1.files (refl, tt) refl refl refl
  read_move text d (kind.Eventfd k) at count task shared =
      on_eventfd now.nanos (does k Takes) shared.files (is_read_by text now d (kind.Eventfd k) at count (task, shared)).1.1.files refl refl refl
  read_move text d (kind.Epoll k) at count task shared = none now.nanos shared.files
  read_move text d (kind.Udp k) at count task shared = none now.nanos shared.files
  read_move text d (kind.Tcp k) at count task shared = none now.nanos shared.files

  same_names : (task : Task) (shared : Shared) (t : SocketsRecord) → Named now.nanos (view task shared t) (view task shared t)
  same_names task shared t = acted now.nanos task task shared shared refl refl refl (grows_so shared.files shared.files refl refl refl) t

  -- what is read goes to the memory alone
  read_same : (text : List ℕ) (d : Descriptor) (object : Object) (at count : ℕ) (task : Task) (shared : Shared) → task.epolls ≡ (is_read_by text now d object at count (task, shared)).1.0.epolls
  read_same text d kind.Input at count task shared = refl
  read_same text d kind.Output at count task shared = refl
  read_same text d kind.Errors at count task shared = refl
  read_same text d (kind.Hosts read) at count task shared = refl
  read_same text d (kind.ReadEnd k) at count task shared = refl
  read_same text d (kind.WriteEnd k) at count task shared = refl
  read_same text d (kind.Timer k) at count task shared = refl
  read_same text d (kind.Eventfd k) at count task shared = refl
  read_same text d (kind.Epoll k) at count task shared = refl
  read_same text d (kind.Udp k) at count task shared = refl
  read_same text d (kind.Tcp k) at count task shared = refl

  read_names : (text : List ℕ) (d : Descriptor) (object : Object) (at count : ℕ) (task : Task) (shared : Shared) → d.file.object ≡ object → IsNamed now.nanos d shared → (t : SocketsRecord) → Named now.nanos (view task shared t) (view (is_read_by text now d object at count (task, shared)).1.0 (is_read_by text now d object at count (task, shared)).1.1 t)
  read_names text d kind.Input at count task shared is named t = same_names task shared t
  read_names text d kind.Output at count task shared is named t = same_names task shared t
  read_names text d kind.Errors at count task shared is named t = same_names task shared t
  read_names text d (kind.Hosts read) at count task shared is named t =
      changed_named now.nanos (view task shared t) d.id d.file (record d.file { object = kind.Hosts (read + length (text_left text read count)) }) named (ap object_alone is) (λ e. refl) (λ e. cc)
  read_names text d (kind.ReadEnd k) at count task shared is named t =
      acted now.nanos task (is_read_by text now d (kind.ReadEnd k) at count (task, shared)).1.0 shared (is_read_by text now d (kind.ReadEnd k) at count (task, shared)).1.1 refl refl refl (grows_read count k shared.files) t
  read_names text d (kind.WriteEnd k) at count task shared is named t = same_names task shared t
  read_names text d (kind.Timer k) at count task shared is named t =
      acted now.nanos task (is_read_by text now d (kind.Timer k) at count (task, shared)).1.0 shared (is_read_by text now d (kind.Timer k) at count (task, shared)).1.1 refl refl refl (grows_timer (after_count now.nanos) (λ x. refl) k shared.files) t
  read_names text d (kind.Eventfd k) at count task shared is named t =
      acted now.nanos task (is_read_by text now d (kind.Eventfd k) at count (task, shared)).1.0 shared (is_read_by text now d (kind.Eventfd k) at count (task, shared)).1.1 refl refl refl (grows_eventfd after_taken (λ x. refl) k shared.files) t
  read_names text d (kind.Epoll k) at count task shared is named t = same_names task shared t
  read_names text d (kind.Udp k) at count task shared is named t = same_names task shared t
  read_names text d (kind.Tcp k) at count task shared is named t = same_names task shared t

  pub reads_lead : (text : List ℕ) (t : Transfer) (task : Task) (shared : Shared) → IsNamed now.nanos t.d shared → R now.nanos task shared (reads text now t (task, shared))
  reads_lead text t task shared named =
      let after = is_read text now t.d t.at (counted t.n) (task, shared) in
      moves now.nanos after.0 task shared after.1 (read_move text t.d t.d.file.object t.at (counted t.n) task shared) (read_same text t.d t.d.file.object t.at (counted t.n) task shared)
      (read_names text t.d t.d.file.object t.at (counted t.n) task shared refl named)

  write_move : (process : ℕ) (bytes : List ℕ) (object : Object) (shared : Shared) → FilesMove now.nanos shared.files (after_write process bytes object shared).files
  write_move process bytes kind.Input shared = none now.nanos shared.files
  write_move process bytes kind.Output shared = none now.nanos shared.files
  write_move process bytes kind.Errors shared = none now.nanos shared.files
  write_move process bytes (kind.Hosts read) shared = none now.nanos shared.files
  write_move process bytes (kind.ReadEnd k) shared = none now.nanos shared.files
  write_move process bytes (kind.WriteEnd k) shared =
      on_pipe now.nanos (does k (Writes bytes)) shared.files (after_write process bytes (kind.WriteEnd k) shared).files refl refl refl
  write_move process bytes (kind.Timer k) shared = none now.nanos shared.files
  write_move process bytes (kind.Eventfd k) shared =
      on_eventfd now.nanos (does k (Adds (number_of bytes))) shared.files (after_write process bytes (kind.Eventfd k) shared).files refl refl refl
  write_move process bytes (kind.Epoll k) shared = none now.nanos shared.files
  write_move process bytes (kind.Udp k) shared = none now.nanos shared.files
  write_move process bytes (kind.Tcp k) shared = none now.nanos shared.files

  write_names : (process : ℕ) (bytes : List ℕ) (object : Object) (task : Task) (shared : Shared) (t : SocketsRecord) → Named now.nanos (view task shared t) (view task (after_write process bytes object shared) t)
  write_names process bytes kind.Input task shared t = same_names task shared t
  write_names process bytes kind.Output task shared t = same_names task shared t
  write_names process bytes kind.Errors task shared t = same_names task shared t
  write_names process bytes (kind.Hosts read) task shared t = same_names task shared t
  write_names process bytes (kind.ReadEnd k) task shared t = same_names task shared t
  write_names process bytes (kind.WriteEnd k) task shared t =
      acted now.nanos task task shared (after_write process bytes (kind.WriteEnd k) shared) refl refl refl (grows_written bytes k shared.files) t
  write_names process bytes (kind.Timer k) task shared t = same_names task shared t
  write_names process bytes (kind.Eventfd k) task shared t =
      acted now.nanos task task shared (after_write process bytes (kind.Eventfd k) shared) refl refl refl (grows_eventfd (after_added (number_of bytes)) (λ x. refl) k shared.files) t
  write_names process bytes (kind.Epoll k) task shared t = same_names task shared t
  write_names process bytes (kind.Udp k) task shared t = same_names task shared t
  write_names process bytes (kind.Tcp k) task shared t = same_names task shared t

  pub writes_lead : (process : ℕ) (t : Transfer) (task : Task) (shared : Shared) → R now.nanos task shared (writes process t (task, shared))
  writes_lead process t task shared =
      asks (LocalMoved now.nanos task shared) _ _
      (λ bytes.
      let after = is_written process t.d bytes (task, shared) in
      moves now.nanos after.0 task shared after.1 (write_move process bytes t.d.file.object shared) refl (write_names process bytes t.d.file.object task shared))

  -- each of the plain calls
  pub plain_leads : (process : ℕ) (call : PlainCall) (args : List ℕ) (task : Task) (shared : Shared) → R now.nanos task shared (plain_row now process call args (task, shared))
  plain_leads process plain.Eventfd2 args task shared = eventfd_leads now.nanos (arg args 0) (arg args 1) task shared
  plain_leads process plain.EpollCreate args task shared = epoll_create_leads now.nanos (arg args 0) task shared
  plain_leads process plain.EpollCtl args task shared =
      epoll_ctl_leads now.nanos (arg args 0) (arg args 1) (arg args 2) (arg args 3) task shared
  plain_leads process plain.Fcntl args task shared = fcntl_rows now.nanos (arg args 0) (arg args 1) (arg args 2) task shared
  plain_leads process plain.Openat args task shared = openat_leads now.nanos (arg args 1) (arg args 2) task shared
  plain_leads process plain.Pipe2 args task shared = pipe2_leads now.nanos (arg args 0) (arg args 1) task shared
  plain_leads process plain.TimerfdCreate args task shared = create_leads now.nanos (arg args 0) (arg args 1) task shared
  plain_leads process plain.Getpid args task shared = keeps now.nanos (getpid process) task shared (task, shared) refl refl refl
  plain_leads process plain.Setsockopt args task shared =
      setsockopt_leads now.nanos (arg args 0) (arg args 1) (arg args 2) (arg args 3) (arg args 4) task shared
  plain_leads process plain.Brk args task shared =
      keeps now.nanos (brk (arg args 0) task).0 task shared ((brk (arg args 0) task).1, shared) refl refl refl
  plain_leads process plain.Getrandom args task shared = getrandom_leads now.nanos (arg args 0) (arg args 1) (arg args 2) task shared
  plain_leads process plain.ClockGettime args task shared = gettime_leads now.nanos now (arg args 0) (arg args 1) task shared
  plain_leads process plain.TimerfdSettime args task shared =
      settime_leads (arg args 0) (arg args 1) (arg args 2) (arg args 3) task shared
