-- ppoll(2).
use Rattle.std.specs.Prelude.{ℕ, zero, suc, ◌+◌, ◌*◌, ◌^◌, ◌==◌, ◌&&◌, Bool, not, List, [], ◌++◌, take, drop, Option, Result, Ok, Err, nat_lt, nat_le, bit_and, bit_or, if◌then◌else◌}
use Rattle.std.specs.Int.{w16, to_le_bytes}
use Rattle.sim_base.specs.declared.errno.Errno.TheVariants.{Einval}
use Rattle.sim_base.specs.declared.time.Time.{Time}
use Rattle.sim_base.specs.Poll.{pollerr, pollhup, pollnval}
use Rattle.sim_base.specs.Refusals.{◌>>=◌, ◌>>◌, refuse_if}
use Rattle.guest_args.specs.Span.{filled, int_size}
use Rattle.host_wants.specs.declared.error.Refusal.{Refusal}
use Rattle.host_wants.specs.declared.error.Refusal.TheVariants.{Errno, Wait}
use Rattle.file_calls.specs.declared.descriptors.Descriptor.{Descriptor}
use Rattle.host_calls.specs.declared.polling.PollPlan.{PollPlan}
use Rattle.file_calls.specs.Descriptors.{descriptor}
use Rattle.call_parts.specs.Polling.{entry_size, max_entries, asked_fd, asked_events, count_one, poll_deadline, has_come, poll_entries}
use Rattle.host_calls.specs.Parts.{Scene}
use Rattle.host_calls.specs.Ready.{readiness}

-- what is told of a descriptor: of its readiness what is asked for, POLLERR and POLLHUP. A descriptor that is free gives
-- POLLNVAL, and a negative one nothing
abbrev pub told : Time → ℕ → Result Descriptor Refusal → Scene → ℕ
told now events (Err refusal) s = pollnval
told now events (Ok d) s = bit_and (readiness now d.file.object s) (bit_or events (pollerr + pollhup))

abbrev pub events_at : Time → Scene → ℕ → ℕ → ℕ
events_at now s fd events =
    if nat_le (2 ^ 31) fd then 0 else told now events (descriptor fd s.task s.shared.files) s

abbrev pub came : Time → Scene → List ℕ → ℕ
came now s entry = events_at now s (asked_fd entry) (asked_events entry)

abbrev pub told_entry : Time → Scene → List ℕ → List ℕ
told_entry now s entry = take (int_size + 2) entry ++ to_le_bytes w16 (came now s entry)

abbrev pub told_entries : Time → Scene → ℕ → List ℕ → List ℕ
told_entries now s zero entries = []
told_entries now s (suc count) entries = told_entry now s (take entry_size entries) ++ told_entries now s count (drop entry_size entries)

abbrev pub count_told : Time → Scene → ℕ → List ℕ → ℕ
count_told now s zero entries = 0
count_told now s (suc count) entries = count_one (came now s (take entry_size entries)) + count_told now s count (drop entry_size entries)

-- it waits while nothing came and its deadline is to come
abbrev pub nothing_came : Time → ℕ → Option Time → Bool
nothing_came now found deadline = (found == 0) && not (has_come now deadline)

abbrev pub poll_found : Time → ℕ → ℕ → List ℕ → Scene → Result ℕ Refusal
poll_found now count limit_at entries s = do
  deadline ← poll_deadline now limit_at s.task
  refuse_if (nothing_came now (count_told now s count entries) deadline) (Wait deadline)
  Ok (count_told now s count entries)

abbrev pub poll_plan : Time → ℕ → ℕ → ℕ → Scene → Result PollPlan Refusal
poll_plan now at count limit_at s = do
  refuse_if (nat_lt max_entries count) (Errno Einval)
  entries ← poll_entries at (entry_size * count) s.task.memory
  found ← poll_found now count limit_at entries s
  Ok (record { at = at; count = count; found = found })

abbrev pub polled : Time → ℕ → ℕ → List ℕ → Scene → Scene
polled now at count entries s =
    record s { task = record s.task { memory = filled at (told_entries now s count entries) s.task.memory } }

abbrev pub polls : Time → PollPlan → Scene → Result (ℕ × Scene) Refusal
polls now p s = do
  entries ← poll_entries p.at (entry_size * p.count) s.task.memory
  Ok (p.found, polled now p.at p.count entries s)
