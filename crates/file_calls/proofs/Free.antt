-- The least free descriptor.
use Rattle.std.proofs.Common.{◌≡◌, ℕ, suc, ◌+◌, ◌-◌, ◌<◌, ◌≤◌, true, false, is_none, None, Some, refl, arith}
use Rattle.std.proofs.lemmas.Bool.Decides.{nat_tests}
use Rattle.std.specs.FinMap as map
use Rattle.std.specs.Ordering.{nat_cmp}
use Rattle.host_fds.specs.declared.file_id.FileId.{FileId}
use Rattle.host_fds.specs.Descriptors.{Descriptors, limit}
use Rattle.file_calls.specs.Descriptors.{first_free, free_from}

left : (fd : ℕ) → fd < limit → limit - fd ≡ suc (limit - (fd + 1))
left fd h = omega arith

pub free_from_taken : (fds : Descriptors) (fd : ℕ) → fd < limit → is_none (map.get fds fd) ≡ false → free_from fds fd ≡ free_from fds (fd + 1)
unfolding first_free
free_from_taken fds fd h e = rw (left fd h) (rw e refl)

pub free_from_free : (fds : Descriptors) (fd : ℕ) → fd < limit → is_none (map.get fds fd) ≡ true → free_from fds fd ≡ Some fd
unfolding first_free
free_from_free fds fd h e = rw (left fd h) (rw e refl)

over : (fd : ℕ) → limit ≤ fd → limit - fd ≡ 0
over fd h = omega arith

pub free_from_over : (fds : Descriptors) (fd : ℕ) → limit ≤ fd → free_from fds fd ≡ None
unfolding first_free
free_from_over fds fd h = rw (over fd h) refl

pub ruleset steps = (free_from_taken, free_from_free, free_from_over)

-- another descriptor that is free stays so where one is given out
pub still_free : (fds : Descriptors) (fd other : ℕ) (object : FileId) → fd < other → map.get fds other ≡ None → map.get (map.insert fds fd object) other ≡ None
still_free fds fd other object h e = grind (arith, map.gets, nat_tests)

-- and each is before the first is given out
pub all_free : (fd : ℕ) → map.get {X = FileId} {R = nat_cmp} map.empty fd ≡ None
all_free fd = map.get-empty nat_cmp fd
