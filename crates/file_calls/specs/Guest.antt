-- getpid(2), brk(2) and getrandom(2).
use Rattle.std.specs.Prelude.{ℕ, zero, suc, ◌+◌, ◌-◌, ◌/◌, ◌%◌, ◌^◌, not, min, List, [], ◌++◌, take, Result, Ok, nat_lt}
use Rattle.std.specs.Int.{w64, to_le_bytes}
use Rattle.sim_base.specs.declared.errno.Errno.TheVariants.{Efault, Einval}
use Rattle.sim_base.specs.Refusals.{◌>>◌, refuse_if}
use Rattle.guest_mem.specs.Memory.{Memory}
use Rattle.guest_mem.specs.Break.{grown}
use Rattle.guest_args.specs.Span.{can_write, filled}
use Rattle.host_wants.specs.declared.error.Refusal.{Refusal}
use Rattle.host_wants.specs.declared.error.Refusal.TheVariants.{Errno}
use Rattle.host_wants.specs.Wanted.{Wanted, draws_word}
use Rattle.file_calls.specs.declared.task.Task.{Task}
use Rattle.file_calls.specs.Numbers.{grnd_nonblock, grnd_random}
use Rattle.file_calls.specs.Scene.{Local}

-- getpid(2): the processes of a host have the ids 1000, 1001, .. in their order
abbrev pub first_id : ℕ
first_id = 1000

abbrev pub getpid : ℕ → ℕ
getpid process = (first_id + process) % 2 ^ 32

-- brk(2): it answers where the break then stands
abbrev pub moved_break : Memory → Task → ℕ × Task
moved_break memory task = (memory.break, record task { memory = memory })

abbrev pub brk : ℕ → Task → ℕ × Task
brk to task = moved_break (grown task.memory to) task

-- getrandom(2): words are drawn, each as eight bytes, low byte first; the rest of the last one is dropped
abbrev pub bytes_before : List ℕ → List ℕ × Wanted → List ℕ × Wanted
bytes_before bytes (behind, w) = (bytes ++ behind, w)

abbrev pub words_from : (Wanted → List ℕ × Wanted) → ℕ × Wanted → List ℕ × Wanted
words_from rest (word, w) = bytes_before (to_le_bytes w64 word) (rest w)

abbrev pub words : ℕ → Wanted → List ℕ × Wanted
words zero w = ([], w)
words (suc count) w = words_from (words count) (draws_word w)

-- the bytes of a word that is drawn
abbrev pub drawn_size : ℕ
drawn_size = 8

-- how many words so many bytes need
abbrev pub words_in : ℕ → ℕ
words_in count = (count + (drawn_size - 1)) / drawn_size

-- the most bytes that a call gives (this project's own profile)
abbrev pub max_random : ℕ
max_random = 256

abbrev pub random_count : ℕ → ℕ
random_count n = min n max_random

abbrev pub random_told : ℕ → ℕ → List ℕ × Wanted → Local → Local
random_told at count (bytes, w) (task, shared) =
    (record task { memory = filled at (take count bytes) task.memory }, record shared { outlet = w })

abbrev pub getrandom : ℕ → ℕ → ℕ → Local → Result (ℕ × Local) Refusal
getrandom at n flags (task, shared) = do
  refuse_if (nat_lt (grnd_nonblock + grnd_random) flags) (Errno Einval)
  refuse_if (not (can_write (random_count n) at task.memory)) (Errno Efault)
  Ok (random_count n, random_told at (random_count n) (words (words_in (random_count n)) shared.outlet) (task, shared))
