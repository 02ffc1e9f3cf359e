-- A call whose deadline has come answers.
use Rattle.std.proofs.Common.{◌≡◌, ℕ, ◌==◌, ◌*◌, ◌≤◌, Bool, true, false, not, ◌&&◌, List, Option, Some, None, Result, Ok, Err, refl, sym, ap, subst, ◌∙◌, nat_lt, nat_le, if◌then◌else◌, arith}
use Rattle.std.proofs.lemmas.Bool.Decides.{nat_tests}
use Rattle.std.specs.Prelude.{unwrap_or}
use Rattle.sim_base.specs.declared.errno.Errno.TheVariants.{Einval}
use Rattle.sim_base.specs.declared.time.Time.{Time}
use Rattle.sim_base.specs.Refusals.{◌>>=◌, ◌>>◌, refuse_if}
use Rattle.host_files.specs.Slots.{at}
use Rattle.host_timers.specs.declared.clock.Moment.{Moment}
use Rattle.host_wants.specs.declared.error.Refusal.{Refusal}
use Rattle.host_wants.specs.declared.error.Refusal.TheVariants as refusal
use Rattle.call_parts.specs.declared.call.Call.{Call}
use Rattle.call_parts.specs.declared.call.Call.TheVariants as system_call
use Rattle.call_parts.specs.declared.call.WaitingCall.{WaitingCall}
use Rattle.call_parts.specs.declared.call.WaitingCall.TheVariants as waiting
use Rattle.file_calls.specs.declared.known.Known.{Known}
use Rattle.file_calls.specs.declared.task.Task.{Task}
use Rattle.file_calls.specs.declared.task.Shared.{Shared}
use Rattle.file_calls.specs.declared.task.Why.{Why}
use Rattle.call_parts.specs.Call.{call_of}
use Rattle.host_calls.specs.Calls.{asked, waits, scene_at, answers_by, answers}
use Rattle.call_parts.specs.Plain.{arg}
use Rattle.call_laws.specs.Laws.{kept_by, kept_call, takes_time}
use Rattle.host_files.specs.Epolls.{epoll_at}
use Rattle.call_parts.specs.Epoll.{is_negative, time_of_ms, wait_deadline, wait_place}
use Rattle.host_calls.specs.Epoll.{has_due, waits_for, wait_plan}
use Rattle.host_calls.specs.Parts.{PartsRecord, Slot, Scene, slot_in}
use Rattle.call_parts.specs.Polling.{has_come, entry_size, poll_limit, poll_time, poll_entries}
use Rattle.host_calls.specs.Polling.{nothing_came, count_told, poll_found, poll_plan}
use Rattle.file_calls.specs.Times.{kept_or, at_nanos, deadline_of, sleep_time, sleep_asked}
use Rattle.guest_args.specs.Time.{deadline_after}
use Rattle.call_laws.proofs.Waits.{Never, is_wait_is, nevers, epoll_number_never, never_bind, never_then, never_refuse_if}

-- the first deadline is kept
kept_or_first : (kept : Option Why) (why : Why) (deadline computed : Time) → kept ≡ Some why → why.deadline ≡ Some deadline → kept_or kept computed ≡ deadline
kept_or_first None why deadline computed e first = cc
kept_or_first (Some other) why deadline computed e first =
    let same : other ≡ why = cc in
    ap (λ (o : Option Time). unwrap_or o computed) (ap (λ (w : Why). w.deadline) same ∙ first)

kept_or_come : (kept : Option Why) (why : Why) (deadline computed now : Time) → kept ≡ Some why → why.deadline ≡ Some deadline → deadline.nanos ≤ now.nanos
    → (kept_or kept computed).nanos ≤ now.nanos
kept_or_come kept why deadline computed now e first come = subst (λ (x : Time). x.nanos ≤ now.nanos) (sym (kept_or_first kept why deadline computed e first)) come

come_never : (now deadline : Time) → deadline.nanos ≤ now.nanos → Never (refuse_if (nat_lt now.nanos deadline.nanos) (refusal.Wait (Some deadline)))
come_never now deadline come = let past : nat_lt now.nanos deadline.nanos ≡ false = grind (arith, nat_tests) in rw past refl

sleep_time_never : (clock flags at : ℕ) (task : Task) → Never (sleep_time clock flags at task)
sleep_time_never clock flags at task = search nevers

sleep_never : (now : Time) (clock flags at : ℕ) (task : Task) (why : Why) (deadline : Time) → task.kept ≡ Some why → why.deadline ≡ Some deadline → deadline.nanos ≤ now.nanos
    → Never (sleep_asked now clock flags at task)
sleep_never now clock flags at task why deadline e first come =
    never_bind (sleep_time clock flags at task) _ (sleep_time_never clock flags at task)
    (λ time. come_never now (kept_or task.kept (at_nanos (deadline_of flags clock now time))) (kept_or_come task.kept why deadline _ now e first come))

-- ppoll(2)
came_is : (found : Bool) → (found && not true) ≡ false
came_is true = refl
came_is false = refl

found_never : (now : Time) (found : ℕ) (deadline : Time) → deadline.nanos ≤ now.nanos
    → Never (refuse_if (nothing_came now found (Some deadline)) (refusal.Wait (Some deadline)) >> Ok found)
found_never now found deadline come =
    let past : nat_le deadline.nanos now.nanos ≡ true = grind (arith, nat_tests) in rw past (rw (came_is (found == 0)) refl)

poll_time_never : (at : ℕ) (task : Task) → Never (poll_time at task.memory)
poll_time_never at task = search nevers

timed : {A B C : Type 0} (r : Result A Refusal) (g : A → C) (f : C → Result B Refusal) → Never r → ((a : A) → Never (f (g a))) → Never ((r >>= λ a. Ok (g a)) >>= f)
timed (Ok a) g f h k = k a
timed (Err e) g f h k = h

deadline_never : {B : Type 0} (null : Bool) (now : Time) (at : ℕ) (task : Task) (f : Option Time → Result B Refusal) → null ≡ false → ((time : Moment) → Never (f (poll_limit now task time)))
    → Never ((if null then Ok None else (poll_time at task.memory >>= λ time. Ok (poll_limit now task time))) >>= f)
deadline_never true now at task f e k = cc
deadline_never false now at task f e k = timed (poll_time at task.memory) (poll_limit now task) f (poll_time_never at task) k

poll_found_never : (now : Time) (count limit_at : ℕ) (entries : List ℕ) (s : Scene) (why : Why) (deadline : Time) → (limit_at == 0) ≡ false → s.task.kept ≡ Some why → why.deadline ≡ Some deadline
    → deadline.nanos ≤ now.nanos → Never (poll_found now count limit_at entries s)
poll_found_never now count limit_at entries s why deadline given e first come =
    deadline_never (limit_at == 0) now limit_at s.task _ given
    (λ time. found_never now (count_told now s count entries) (kept_or s.task.kept (at_nanos (deadline_after now.nanos time))) (kept_or_come s.task.kept why deadline _ now e first come))

poll_entries_never : (at size : ℕ) (task : Task) → Never (poll_entries at size task.memory)
poll_entries_never at size task = search nevers

poll_never : (now : Time) (at count limit_at : ℕ) (s : Scene) (why : Why) (deadline : Time) → (limit_at == 0) ≡ false → s.task.kept ≡ Some why → why.deadline ≡ Some deadline
    → deadline.nanos ≤ now.nanos → Never (poll_plan now at count limit_at s)
poll_never now at count limit_at s why deadline given e first come =
    never_then (refuse_if (nat_lt 256 count) (refusal.Errno Einval)) _ (never_refuse_if (nat_lt 256 count) Einval)
    (never_bind (poll_entries at (entry_size * count) s.task.memory) _ (poll_entries_never at (entry_size * count) s.task)
    (λ entries. never_bind (poll_found now count limit_at entries s) _ (poll_found_never now count limit_at entries s why deadline given e first come) (λ found. refl)))

-- epoll_pwait(2)
due_never : (due : Bool) (now deadline : Time) → deadline.nanos ≤ now.nanos → Never (refuse_if (not due && not (has_come now (Some deadline))) (refusal.Wait (Some deadline)))
due_never true now deadline come = refl
due_never false now deadline come = let past : nat_le deadline.nanos now.nanos ≡ true = grind (arith, nat_tests) in rw past refl

limited_never : (negative : Bool) (now deadline : Time) (place : ℕ) (s : Scene) → negative ≡ false → deadline.nanos ≤ now.nanos
    → Never (waits_for now (if negative then None else Some deadline) place s)
limited_never true now deadline place s e come = cc
limited_never false now deadline place s e come = due_never (has_due now s (epoll_at place s.task.epolls)) now deadline come

wait_place_never : (epfd at count : ℕ) (task : Task) (shared : Shared) → Never (wait_place epfd at count (task, shared))
wait_place_never epfd at count task shared = search (nevers, epoll_number_never) depth 8

wait_never : (now : Time) (epfd at count ms : ℕ) (s : Scene) (why : Why) (deadline : Time) → is_negative ms ≡ false → s.task.kept ≡ Some why → why.deadline ≡ Some deadline
    → deadline.nanos ≤ now.nanos → Never (wait_plan now epfd at count ms s)
wait_never now epfd at count ms s why deadline given e first come =
    never_bind (wait_place epfd at count (s.task, s.shared)) _ (wait_place_never epfd at count s.task s.shared)
    (λ p. never_then (waits_for now (wait_deadline now ms s.task) p.place s) _
    (limited_never (is_negative ms) now (kept_or s.task.kept (at_nanos (deadline_after now.nanos (time_of_ms ms)))) p.place s given (kept_or_come s.task.kept why deadline _ now e first come)) refl)

not_is : (b : Bool) → not b ≡ true → b ≡ false
not_is true e = cc
not_is false e = refl

asked_never : (known : Known) (now : Time) (w : WaitingCall) (args : List ℕ) (s : Scene) (why : Why) (deadline : Time) → takes_time (Some (system_call.Waiting w)) args ≡ true
    → s.task.kept ≡ Some why → why.deadline ≡ Some deadline → deadline.nanos ≤ now.nanos → Never (asked known now w args s)
asked_never known now waiting.Read args s why deadline timed e first come = cc
asked_never known now waiting.Write args s why deadline timed e first come = cc
asked_never known now waiting.Accept args s why deadline timed e first come = cc
asked_never known now waiting.Connect args s why deadline timed e first come = cc
asked_never known now waiting.Sendto args s why deadline timed e first come = cc
asked_never known now waiting.Recvfrom args s why deadline timed e first come = cc
asked_never known now waiting.ClockNanosleep args s why deadline timed e first come =
    never_then (sleep_asked now (arg args 0) (arg args 1) (arg args 2) s.task) _ (sleep_never now (arg args 0) (arg args 1) (arg args 2) s.task why deadline e first come) refl
asked_never known now waiting.Ppoll args s why deadline timed e first come =
    never_bind (poll_plan now (arg args 0) (arg args 1) (arg args 2) s) _
    (poll_never now (arg args 0) (arg args 1) (arg args 2) s why deadline (not_is (arg args 2 == 0) timed) e first come) (λ p. refl)
asked_never known now waiting.EpollWait args s why deadline timed e first come =
    never_bind (wait_plan now (arg args 0) (arg args 1) (arg args 2) (arg args 3) s) _
    (wait_never now (arg args 0) (arg args 1) (arg args 2) (arg args 3) s why deadline (not_is (is_negative (arg args 3)) timed) e first come) (λ p. refl)

waits_never : (known : Known) (now : Time) (c : Option Call) (args : List ℕ) (s : Scene) (why : Why) (deadline : Time) → takes_time c args ≡ true → s.task.kept ≡ Some why
    → why.deadline ≡ Some deadline → deadline.nanos ≤ now.nanos → waits known now c args s ≡ false
waits_never known now None args s why deadline timed e first come = refl
waits_never known now (Some (system_call.Plain p)) args s why deadline timed e first come = refl
waits_never known now (Some (system_call.Network n)) args s why deadline timed e first come = refl
waits_never known now (Some (system_call.Waiting w)) args s why deadline timed e first come =
    is_wait_is (asked known now w args s) ∙ asked_never known now w args s why deadline timed e first come
waits_never known now (Some system_call.Close) args s why deadline timed e first come = refl
waits_never known now (Some system_call.Exit) args s why deadline timed e first come = refl

slot_come : (known : Known) (now : Time) (why : Why) (deadline : Time) (task : Option Task) (p : Slot) → kept_by task ≡ Some why → why.deadline ≡ Some deadline
    → takes_time (call_of why.number) why.args ≡ true → deadline.nanos ≤ now.nanos → answers_by known now why task p ≡ true
slot_come known now why deadline None p e first timed come = refl
slot_come known now why deadline (Some task) p e first timed come =
    ap not (waits_never known now (call_of why.number) why.args (scene_at task p) why deadline timed e first come)

-- a call whose deadline has come answers
pub deadline_answers_is : (known : Known) (now : Time) (process : ℕ) (why : Why) (h : PartsRecord) (deadline : Time) → kept_call process h ≡ Some why → why.deadline ≡ Some deadline
    → takes_time (call_of why.number) why.args ≡ true → deadline.nanos ≤ now.nanos → answers known now process why h ≡ true
deadline_answers_is known now process why h deadline e first timed come =
    slot_come known now why deadline (at process h.tasks) (slot_in process h) e first timed come
