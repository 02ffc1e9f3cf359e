-- rows that need no sockets
use Rattle.std.proofs.Common.{List, Result, drop, nat_lt, not, suc, take, w32, w64, zero, ℕ, ◌+◌, ◌==◌}
use Rattle.std.specs.Int.{to_le_bytes}
use Rattle.file_calls.specs.Descriptors.{descriptor}
use Rattle.file_calls.specs.EpollControl.{ctl_asked, epoll_asked}
use Rattle.file_calls.specs.Eventfd.{eventfd_asked}
use Rattle.file_calls.specs.Files.{after_write, ends_bytes, fcntl_by, is_read_by, openat_asked, pipe2, pipe2_asked, reads, text_left, with_ends, writes}
use Rattle.file_calls.specs.Flags.{has, o_nonblock}
use Rattle.file_calls.specs.Guest.{getrandom, random_count, words, words_in}
use Rattle.file_calls.specs.Numbers.{f_getfd, f_getfl, f_setfd, f_setfl, grnd_nonblock, grnd_random}
use Rattle.file_calls.specs.Scene.{Local, tell_memory}
use Rattle.file_calls.specs.Times.{at_nanos, clock_gettime, create_asked, first_expiry, old_timer, sets, settime_asked, time_left, timer_number, timerfd_settime, with_setting}
use Rattle.file_calls.specs.declared.descriptors.Descriptor.{Descriptor}
use Rattle.file_calls.specs.declared.files.Ends.{Ends}
use Rattle.file_calls.specs.declared.task.Shared.{Shared}
use Rattle.file_calls.specs.declared.task.Task.{Task}
use Rattle.file_calls.specs.declared.times.OldTimer.{OldTimer}
use Rattle.file_calls.specs.declared.transfer.Transfer.{Transfer}
use Rattle.guest_args.specs.Span.{can_write, counted}
use Rattle.guest_args.specs.Time.{time_span, timespec_of, timespec_size}
use Rattle.guest_mem.specs.Memory.{Memory}
use Rattle.call_parts.specs.Plain.{arg, plain_row}
use Rattle.call_parts.specs.Sockets.{setsockopt_asked}
use Rattle.host_fds.specs.Pipe.{new_pipe}
use Rattle.host_files.specs.Files.{FilesState, eventfd_taken, next_pipe, pipe_gives, timer_at, timer_count}
use Rattle.host_timers.specs.Clock.{clock_at, moment_of}
use Rattle.host_timers.specs.Timer.{next_due}
use Rattle.host_timers.specs.declared.clock.Moment.{Moment}
use Rattle.host_wants.specs.Wanted.{Wanted, draws_word}
use Rattle.pcap_text.specs.Laws.{IsByte}
use Rattle.run_fits.proofs.Bytes.{all_append, all_drop, all_take, le_are}
use Rattle.run_fits.proofs.Memories.{filled_in, grown_in}
use Rattle.run_fits.proofs.Rows.{LeavesLocal, LocalFits, gives_are, pipe_reads, pipe_writes, pipes_added, spans}
use Rattle.run_fits.proofs.Steps.{Gives, knows, steps, tries}
use Rattle.run_fits.proofs.TcpSockets.{alarm_fits}
use Rattle.run_fits.specs.Bytes.{AreBytes, HasBytes}
use Rattle.run_fits.specs.Packets.{WantsFit}
use Rattle.run_fits.specs.Parts.{FilesFit}
use Rattle.sim_base.specs.declared.alarm.AlarmTarget.TheVariants.{Timer}
use Rattle.sim_base.specs.Refusals.{or_refuse, refuse_if}
use Rattle.sim_base.specs.declared.errno.Errno.TheVariants.{Ebadf, Efault, Einval}
use Rattle.sim_base.specs.declared.time.Time.{Time}
use Rattle.tcp_laws.proofs.Tests.{by_test}
use Rattle.host_wants.specs.declared.error.Refusal.{Refusal}
use Rattle.host_wants.specs.declared.error.Refusal.TheVariants.{Errno}
use Rattle.host_files.specs.declared.file.Object.{Object}
use Rattle.host_files.specs.declared.file.Object.TheVariants as kind
use Rattle.call_parts.specs.declared.call.PlainCall.{PlainCall}
use Rattle.call_parts.specs.declared.call.PlainCall.TheVariants as plain

abbrev R : {A : Type 0} → Result (A × Local) Refusal → Type 0
R row = Gives LeavesLocal row

-- bytes go to the guest
told_in : (at : ℕ) (bytes : List ℕ) (s : Local) → AreBytes bytes → LocalFits s → LocalFits (tell_memory at bytes s)
told_in at bytes (task, shared) are h = (filled_in at bytes task.memory are h.0, h.1, h.2)

fcntl_keeps : (command flags : ℕ) (d : Descriptor) (task : Task) (shared : Shared) → LocalFits (task, shared) → R (fcntl_by command flags d (task, shared))
fcntl_keeps command flags d task shared h =
    by_test R (command == f_getfd) _ _
    (λ e. h)
    (λ e. by_test R (command == f_setfd) _ _
    (λ k. h)
    (λ k. by_test R (command == f_getfl) _ _
    (λ m. h)
    (λ m. by_test R (command == f_setfl) _ _ (λ n. h) (λ n. tt))))

ends_are : (fds : Ends) → AreBytes (ends_bytes fds)
ends_are fds = all_append IsByte (to_le_bytes w32 fds.reading) (to_le_bytes w32 fds.writing) (le_are w32 fds.reading) (le_are w32 fds.writing)

pipe2_keeps : (at flags : ℕ) (task : Task) (shared : Shared) → LocalFits (task, shared) → R (pipe2 at flags (task, shared))
pipe2_keeps at flags task shared h =
    steps LeavesLocal (pipe2_asked at flags task) _
    (λ fds e.
    let made = with_ends fds (has o_nonblock flags) (next_pipe shared.files) (task, shared) in
    told_in at (ends_bytes fds) made (ends_are fds) (h.0, pipes_added new_pipe shared.files.pipes tt h.1, h.2))

words_fit : (count : ℕ) (w : Wanted) → WantsFit w → AreBytes (words count w).0 × WantsFit (words count w).1
words_fit zero w h = (tt, h)
words_fit (suc count) w h =
    let drawn = draws_word w in
    let rest = words_fit count drawn.1 h in
    (all_append IsByte (to_le_bytes w64 drawn.0) (words count drawn.1).0 (le_are w64 drawn.0) rest.0, rest.1)

getrandom_keeps : (at n flags : ℕ) (task : Task) (shared : Shared) → LocalFits (task, shared) → R (getrandom at n flags (task, shared))
getrandom_keeps at n flags task shared h =
    let count = random_count n in
    let drawn = words_fit (words_in count) shared.outlet h.2 in
    tries LeavesLocal (refuse_if (nat_lt (grnd_nonblock + grnd_random) flags) (Errno Einval)) _
    (tries LeavesLocal (refuse_if (not (can_write count at task.memory)) (Errno Efault)) _
    (filled_in at (take count (words (words_in count) shared.outlet).0) task.memory (all_take IsByte count (words (words_in count) shared.outlet).0 drawn.0) h.0, h.1, drawn.1))

moment_are : (time : Moment) → AreBytes (timespec_of time)
moment_are time = all_append IsByte (to_le_bytes w64 time.seconds) (to_le_bytes w64 time.nanos) (le_are w64 time.seconds) (le_are w64 time.nanos)

gettime_keeps : (now : Time) (clock at : ℕ) (task : Task) (shared : Shared) → LocalFits (task, shared) → R (clock_gettime now clock at (task, shared))
gettime_keeps now clock at task shared h =
    steps LeavesLocal (or_refuse (clock_at clock now.nanos) (Errno Einval)) _
    (λ time e. tries LeavesLocal (refuse_if (not (can_write timespec_size at task.memory)) (Errno Efault)) _
    (told_in at (timespec_of time) (task, shared) (moment_are time) h))

-- ---- timers

abbrev SettingFits : OldTimer → Type 0
SettingFits old = AreBytes old.setting

old_fits : (now : Time) (fd : ℕ) (task : Task) (files : FilesState) → Gives SettingFits (old_timer now fd task files)
old_fits now fd task files =
    steps SettingFits (descriptor fd task files) _
    (λ d e. steps SettingFits (timer_number d.file.object) _
    (λ k e. steps SettingFits (or_refuse (timer_at k files) (Errno Ebadf)) _
    (λ t e. all_append IsByte (timespec_of (moment_of t.timer.interval)) (timespec_of (moment_of (time_left now (next_due t.timer now.nanos)))) (moment_are (moment_of t.timer.interval)) (moment_are (moment_of (time_left now (next_due t.timer now.nanos)))))))

sets_keep : (now : Time) (k old first interval : ℕ) (shared : Shared) → FilesFit shared.files × WantsFit shared.outlet → FilesFit (sets now k old first interval shared).files × WantsFit (sets now k old first interval shared).outlet
sets_keep now k old first interval shared h =
    by_test (λ (x : Shared). FilesFit x.files × WantsFit x.outlet) (first == 0) _ _
    (λ e. h)
    (λ e. (h.0, alarm_fits (Timer k) (at_nanos first) shared.outlet h.1))

setting_in : (at : ℕ) (bytes : List ℕ) (memory : Memory) → AreBytes bytes → HasBytes memory → HasBytes (with_setting at bytes memory)
setting_in at bytes memory are h = by_test HasBytes (at == 0) _ _ (λ e. h) (λ e. filled_in at bytes memory are h)

settime_keeps : (now : Time) (fd flags at old_at : ℕ) (task : Task) (shared : Shared) → LocalFits (task, shared) → R (timerfd_settime now fd flags at old_at (task, shared))
settime_keeps now fd flags at old_at task shared h =
    knows SettingFits LeavesLocal (old_timer now fd task shared.files) _ (old_fits now fd task shared.files)
    (λ old are. steps LeavesLocal (settime_asked flags at old_at task) _
    (λ setting e.
    let set = sets_keep now old.place old.serial (first_expiry flags old.clock now setting.value) (time_span setting.interval) shared (h.1, h.2) in
    (setting_in old_at old.setting task.memory are h.0, set.0, set.1)))

-- ---- read(2) and write(2) where no socket is meant

reads_by_keep : (text : List ℕ) (now : Time) (d : Descriptor) (object : Object) (at count : ℕ) (task : Task) (shared : Shared) → AreBytes text → LocalFits (task, shared) → LocalFits (is_read_by text now d object at count (task, shared)).1
reads_by_keep text now d kind.Input at count task shared are h = h
reads_by_keep text now d kind.Output at count task shared are h = h
reads_by_keep text now d kind.Errors at count task shared are h = h
reads_by_keep text now d (kind.Hosts read) at count task shared are h =
    (filled_in at (text_left text read count) task.memory (all_take IsByte count (drop read text) (all_drop IsByte read text are)) h.0, h.1, h.2)
reads_by_keep text now d (kind.ReadEnd k) at count task shared are h =
    (filled_in at (pipe_gives count k shared.files) task.memory (gives_are count k shared.files h.1) h.0, pipe_reads count k shared.files h.1, h.2)
reads_by_keep text now d (kind.WriteEnd k) at count task shared are h = h
reads_by_keep text now d (kind.Timer k) at count task shared are h =
    (filled_in at (to_le_bytes w64 (timer_count now.nanos k shared.files)) task.memory (le_are w64 (timer_count now.nanos k shared.files)) h.0, h.1, h.2)
reads_by_keep text now d (kind.Eventfd k) at count task shared are h =
    (filled_in at (to_le_bytes w64 (eventfd_taken k shared.files)) task.memory (le_are w64 (eventfd_taken k shared.files)) h.0, h.1, h.2)
reads_by_keep text now d (kind.Epoll k) at count task shared are h = h
reads_by_keep text now d (kind.Udp k) at count task shared are h = h
reads_by_keep text now d (kind.Tcp k) at count task shared are h = h

pub reads_keep : (text : List ℕ) (now : Time) (t : Transfer) (task : Task) (shared : Shared) → AreBytes text → LocalFits (task, shared) → R (reads text now t (task, shared))
reads_keep text now t task shared are h = reads_by_keep text now t.d t.d.file.object t.at (counted t.n) task shared are h

write_keeps : (process : ℕ) (bytes : List ℕ) (object : Object) (task : Task) (shared : Shared) → AreBytes bytes → LocalFits (task, shared) → LocalFits (task, after_write process bytes object shared)
write_keeps process bytes kind.Input task shared are h = h
write_keeps process bytes kind.Output task shared are h = h
write_keeps process bytes kind.Errors task shared are h = h
write_keeps process bytes (kind.Hosts read) task shared are h = h
write_keeps process bytes (kind.ReadEnd k) task shared are h = h
write_keeps process bytes (kind.WriteEnd k) task shared are h = (h.0, pipe_writes bytes k shared.files are h.1, h.2)
write_keeps process bytes (kind.Timer k) task shared are h = h
write_keeps process bytes (kind.Eventfd k) task shared are h = h
write_keeps process bytes (kind.Epoll k) task shared are h = h
write_keeps process bytes (kind.Udp k) task shared are h = h
write_keeps process bytes (kind.Tcp k) task shared are h = h

pub writes_keep : (process : ℕ) (t : Transfer) (task : Task) (shared : Shared) → LocalFits (task, shared) → R (writes process t (task, shared))
writes_keep process t task shared h =
    spans LeavesLocal (counted t.n) t.at task.memory (Errno Efault) _ h.0 (λ bytes are. write_keeps process bytes t.d.file.object task shared are h)

-- each of the plain calls
pub plain_keeps : (now : Time) (process : ℕ) (call : PlainCall) (args : List ℕ) (task : Task) (shared : Shared) → LocalFits (task, shared) → R (plain_row now process call args (task, shared))
plain_keeps now process plain.Eventfd2 args task shared h = steps LeavesLocal (eventfd_asked (arg args 1) task) _ (λ fd e. h)
plain_keeps now process plain.EpollCreate args task shared h = steps LeavesLocal (epoll_asked (arg args 0) task) _ (λ fd e. h)
plain_keeps now process plain.EpollCtl args task shared h =
    steps LeavesLocal (ctl_asked (arg args 0) (arg args 1) (arg args 2) (arg args 3) (task, shared)) _ (λ c e. h)
plain_keeps now process plain.Fcntl args task shared h =
    steps LeavesLocal (descriptor (arg args 0) task shared.files) _ (λ d e. fcntl_keeps (arg args 1) (arg args 2) d task shared h)
plain_keeps now process plain.Openat args task shared h = steps LeavesLocal (openat_asked (arg args 1) (arg args 2) task) _ (λ fd e. h)
plain_keeps now process plain.Pipe2 args task shared h = pipe2_keeps (arg args 0) (arg args 1) task shared h
plain_keeps now process plain.TimerfdCreate args task shared h =
    steps LeavesLocal (create_asked (arg args 0) (arg args 1) task) _ (λ fd e. h)
plain_keeps now process plain.Getpid args task shared h = h
plain_keeps now process plain.Setsockopt args task shared h =
    tries LeavesLocal (setsockopt_asked (arg args 0) (arg args 1) (arg args 2) (arg args 3) (arg args 4) (task, shared)) _ h
plain_keeps now process plain.Brk args task shared h = (grown_in task.memory (arg args 0) h.0, h.1, h.2)
plain_keeps now process plain.Getrandom args task shared h = getrandom_keeps (arg args 0) (arg args 1) (arg args 2) task shared h
plain_keeps now process plain.ClockGettime args task shared h = gettime_keeps now (arg args 0) (arg args 1) task shared h
plain_keeps now process plain.TimerfdSettime args task shared h =
    settime_keeps now (arg args 0) (arg args 1) (arg args 2) (arg args 3) task shared h
