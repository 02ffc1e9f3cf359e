-- epoll_pwait(2).
use Rattle.std.specs.Prelude.{◌≡◌, ℕ, ◌&&◌, Bool, false, not, List, [], length, map, Option, Some, None, Result, Ok}
use Rattle.sim_base.specs.declared.time.Time.{Time}
use Rattle.sim_base.specs.Refusals.{◌>>=◌, ◌>>◌, refuse_if}
use Rattle.host_fds.specs.declared.epoll.Seen.{Seen}
use Rattle.host_fds.specs.declared.epoll.Watch.{Watch}
use Rattle.host_files.specs.Epolls.{epoll_at, told_by, after_report}
use Rattle.host_files.specs.Slots.{after}
use Rattle.host_wants.specs.declared.error.Refusal.{Refusal}
use Rattle.host_wants.specs.declared.error.Refusal.TheVariants.{Wait}
use Rattle.call_parts.specs.Epoll.{wait_deadline, wait_place, telling}
use Rattle.call_parts.specs.declared.epoll.WaitPlan.{WaitPlan}
use Rattle.host_calls.specs.Parts.{Scene}
use Rattle.call_parts.specs.Polling.{has_come}
use Rattle.host_calls.specs.Ready.{seen, some_due}

-- it waits while no entry is due and its deadline is to come
abbrev pub has_due : Time → Scene → Option (List Watch) → Bool
has_due now s None = false
has_due now s (Some entries) = some_due now s entries

abbrev pub nothing_due : Time → Option Time → ℕ → Scene → Bool
nothing_due now deadline place s = not (has_due now s (epoll_at place s.task.epolls)) && not (has_come now deadline)

abbrev pub waits_for : Time → Option Time → ℕ → Scene → Result (Unit {0}) Refusal
waits_for now deadline place s = refuse_if (nothing_due now deadline place s) (Wait deadline)

abbrev pub wait_plan : Time → ℕ → ℕ → ℕ → ℕ → Scene → Result WaitPlan Refusal
wait_plan now epfd at count ms s = do
  p ← wait_place epfd at count (s.task, s.shared)
  waits_for now (wait_deadline now ms s.task) p.place s
  Ok p

abbrev pub seen_of : Time → Scene → Watch → Seen
seen_of now s w = seen now s w.fd

abbrev pub all_seen : Time → Scene → Option (List Watch) → List Seen
all_seen now s None = []
all_seen now s (Some entries) = map (seen_of now s) entries

abbrev pub told_of : WaitPlan → List Seen → Scene → ℕ × Scene
told_of p all s = (length (told_by p.room all (epoll_at p.place s.task.epolls)), record s { task = telling p all s.task })

abbrev pub epoll_waits : Time → WaitPlan → Scene → Result (ℕ × Scene) Refusal
epoll_waits now p s = Ok (told_of p (all_seen now s (epoll_at p.place s.task.epolls)) s)

abbrev pub epoll_pwait : Time → ℕ → ℕ → ℕ → ℕ → Scene → Result (ℕ × Scene) Refusal
epoll_pwait now epfd at count ms s = do
  p ← wait_plan now epfd at count ms s
  epoll_waits now p s

-- what is seen tells the same of the entries of an epoll as something else that is seen, and leaves the same of them
pub record TellAlike (entries : Option (List Watch)) (all others : List Seen) : Type 0 where
  pub told : (room : ℕ) → told_by room all entries ≡ told_by room others entries
  pub left : (room : ℕ) → after (after_report room all) entries ≡ after (after_report room others) entries
