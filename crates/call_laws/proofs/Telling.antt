-- A wait tells of an entry where one is due.
use Rattle.std.proofs.Common.{◌≡◌, ℕ, zero, suc, ◌<◌, ◌==◌, ◌&&◌, ◌||◌, Bool, true, false, not, List, [], ◌∷◌, length, map, min, Option, Some, None, Result, Ok, Err, refl, nat_lt, if◌then◌else◌, arith}
use Rattle.std.proofs.lemmas.Bool.Decides.{nat_tests}
use Rattle.std.specs.Prelude.{IfOk, ◌*◌}
use Rattle.sim_base.specs.declared.errno.Errno.TheVariants.{Efault, Einval}
use Rattle.sim_base.specs.declared.time.Time.{Time}
use Rattle.sim_base.specs.Refusals.{◌>>=◌, ◌>>◌, refuse_if}
use Rattle.guest_args.specs.Span.{can_write}
use Rattle.host_fds.specs.declared.epoll.Entry.{Entry}
use Rattle.host_fds.specs.declared.epoll.Watch.{Watch}
use Rattle.host_fds.specs.Epoll.{told, entry_of}
use Rattle.host_files.specs.Epolls.{epoll_at, told_by}
use Rattle.host_wants.specs.declared.error.Refusal.{Refusal}
use Rattle.host_wants.specs.declared.error.Refusal.TheVariants as refusal
use Rattle.call_parts.specs.declared.epoll.WaitPlan.{WaitPlan}
use Rattle.file_calls.specs.declared.task.Task.{Task}
use Rattle.file_calls.specs.declared.task.Shared.{Shared}
use Rattle.file_calls.specs.Descriptors.{descriptor}
use Rattle.file_calls.specs.EpollControl.{epoll_number, event_size}
use Rattle.call_parts.specs.Epoll.{is_negative, most_told, wait_deadline, wait_place}
use Rattle.host_calls.specs.Epoll.{waits_for, wait_plan, seen_of, all_seen, has_due, epoll_waits}
use Rattle.host_calls.specs.Parts.{Scene}
use Rattle.host_calls.specs.Ready.{is_due, some_due}

one_told : (some due others : Bool) (e : Entry) (more rest : List Entry) → some ≡ true → (length rest == 0) ≡ not others
    → (length (if some && due then e ∷ more else rest) == 0) ≡ not (due || others)
one_told false due others e more rest is h = cc
one_told true true others e more rest is h = let longer : (suc (length more) == 0) ≡ false = grind (arith, nat_tests) in longer
one_told true false others e more rest is h = h

some_told : (now : Time) (s : Scene) (room : ℕ) (entries : List Watch) → 0 < room → (length (told room (map (seen_of now s) entries) entries) == 0) ≡ not (some_due now s entries)
unfolding told
some_told now s room [] some = refl
some_told now s room (w ∷ entries) some =
    one_told (nat_lt 0 room) (is_due now s w) (some_due now s entries) (entry_of w (seen_of now s w)) _ _ (grind (arith, nat_tests)) (some_told now s room entries some)

tells_due : (now : Time) (s : Scene) (room : ℕ) (slot : Option (List Watch)) → 0 < room → (length (told_by room (all_seen now s slot) slot) == 0) ≡ not (has_due now s slot)
tells_due now s room None some = refl
tells_due now s room (Some entries) some = some_told now s room entries some

-- there is room for an entry
abbrev Roomy : Result WaitPlan Refusal → Type 0
Roomy r = IfOk r (λ p. 0 < p.room)

roomy_bind : {A : Type 0} (r : Result A Refusal) (f : A → Result WaitPlan Refusal) → ((a : A) → Roomy (f a)) → Roomy (r >>= f)
roomy_bind (Ok a) f h = h a
roomy_bind (Err x) f h = tt

some_room : (count : ℕ) (negative : Bool) → (count == 0 || negative) ≡ false → 0 < min count most_told
some_room zero negative e = cc
some_room (suc n) negative e = omega arith

roomy_place : (none shut : Bool) (p : WaitPlan) → (none ≡ false → 0 < p.room) → Roomy (refuse_if none (refusal.Errno Einval) >> (refuse_if shut (refusal.Errno Efault) >> Ok p))
roomy_place true shut p h = tt
roomy_place false true p h = tt
roomy_place false false p h = h refl

wait_place_roomy : (epfd at count : ℕ) (task : Task) (shared : Shared) → Roomy (wait_place epfd at count (task, shared))
wait_place_roomy epfd at count task shared =
    roomy_bind (descriptor epfd task shared.files) _ (λ d. roomy_bind (epoll_number d.file.object) _ (λ place.
    roomy_place (count == 0 || is_negative count) (not (can_write (event_size * min count most_told) at task.memory)) (record { place = place; at = at; room = min count most_told })
    (some_room count (is_negative count))))

-- what a wait tells
abbrev TellsDue : Time → Scene → WaitPlan → Type 0
TellsDue now s p = IfOk (epoll_waits now p s) (λ (told, after). (told == 0) ≡ not (has_due now s (epoll_at p.place s.task.epolls)))

told_then : (q : Result (Unit {0}) Refusal) (now : Time) (s : Scene) (p : WaitPlan) → 0 < p.room → IfOk (q >> Ok p) (TellsDue now s)
told_then (Ok u) now s p some = tells_due now s p.room (epoll_at p.place s.task.epolls) some
told_then (Err x) now s p some = tt

told_after : (r : Result WaitPlan Refusal) (q : WaitPlan → Result (Unit {0}) Refusal) (now : Time) (s : Scene) → Roomy r → IfOk (r >>= λ p. q p >> Ok p) (TellsDue now s)
told_after (Ok p) q now s some = told_then (q p) now s p some
told_after (Err x) q now s some = tt

pub waits_tell_is : (now : Time) (epfd at count ms : ℕ) (s : Scene) → IfOk (wait_plan now epfd at count ms s) (TellsDue now s)
waits_tell_is now epfd at count ms s =
    told_after (wait_place epfd at count (s.task, s.shared)) (λ p. waits_for now (wait_deadline now ms s.task) p.place s) now s (wait_place_roomy epfd at count s.task s.shared)
