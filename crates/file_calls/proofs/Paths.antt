-- The length of a path, byte by byte.
use Rattle.std.proofs.Common.{◌≡◌, ℕ, suc, ◌+◌, ◌-◌, ◌<◌, ◌≤◌, ◌≢◌, false, Some, None, Ok, Err, refl, arith, nat_eq}
use Rattle.std.proofs.lemmas.Bool.Decides.{nat_tests}
use Rattle.guest_mem.specs.Memory.{Memory}
use Rattle.sim_base.specs.declared.errno.Errno.TheVariants.{Efault, Einval}
use Rattle.host_wants.specs.declared.error.Refusal.TheVariants.{Errno}
use Rattle.file_calls.specs.Files.{byte_at, length_from}

left : (count : ℕ) → count < 4096 → 4096 - count ≡ suc (4096 - (count + 1))
left count h = omega arith

pub length_from_bad : (count at : ℕ) (memory : Memory) → count < 4096 → byte_at (at + count) memory ≡ None → length_from count (4096 - count) at memory ≡ Err (Errno Efault)
unfolding length_from
length_from_bad count at memory h e = rw (left count h) (rw e refl)

pub length_from_end : (count at : ℕ) (memory : Memory) → count < 4096 → byte_at (at + count) memory ≡ Some 0 → length_from count (4096 - count) at memory ≡ Ok count
unfolding length_from
length_from_end count at memory h e = rw (left count h) (rw e refl)

differs : (byte : ℕ) → byte ≢ 0 → nat_eq byte 0 ≡ false
differs byte h = grind (arith, nat_tests)

pub length_from_more : (count at byte : ℕ) (memory : Memory) → count < 4096 → byte_at (at + count) memory ≡ Some byte → byte ≢ 0 → length_from count (4096 - count) at memory ≡ length_from (count + 1) (4096 - (count + 1)) at memory
unfolding length_from
length_from_more count at byte memory h e d = rw (left count h) (rw e (rw (differs byte d) refl))

over : (count : ℕ) → 4096 ≤ count → 4096 - count ≡ 0
over count h = omega arith

pub length_from_over : (count at : ℕ) (memory : Memory) → 4096 ≤ count → length_from count (4096 - count) at memory ≡ Err (Errno Einval)
unfolding length_from
length_from_over count at memory h = rw (over count h) refl

pub ruleset path_steps = (length_from_bad, length_from_end, length_from_more, length_from_over)
