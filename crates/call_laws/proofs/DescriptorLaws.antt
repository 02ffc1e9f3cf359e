-- Laws of descriptors: a new one is the least free one, and the end of a process leaves none.
use Rattle.std.specs.Prelude.{◌≡◌, ℕ, zero, suc, ◌+◌, ◌<◌, ◌≤◌, Bool, true, false, is_some, is_none, nat_eq, Option, Some, None, IsSome, Ok, Err, Result, if◌then◌else◌, refl}
use Rattle.std.proofs.Common.{ap, subst, arith, eqb-true}
use Rattle.std.proofs.lemmas.Bool.Decides.{nat_tests}
use Rattle.std.specs.FinMap as map
use Rattle.sim_base.specs.declared.time.Time.{Time}
use Rattle.host_fds.specs.declared.file_id.FileId.{FileId}
use Rattle.host_fds.specs.Descriptors.{Descriptors, limit, IsLowestFree}
use Rattle.host_wants.specs.declared.error.Refusal.{Refusal}
use Rattle.file_calls.specs.declared.descriptors.Descriptor.{Descriptor}
use Rattle.file_calls.specs.Descriptors.{first_free, lowest_free, descriptor}
use Rattle.host_calls.specs.Closing.{closed_by, closed_one, closed_below, all_closed}
use Rattle.call_laws.specs.Laws.{IsFirstFree}
use Rattle.host_calls.specs.Parts.{Scene}

taken_from : (fds : Descriptors) (from fd : ℕ) → IsSome (map.get fds from) → ((lower : ℕ) → from + 1 ≤ lower → lower < fd → IsSome (map.get fds lower))
    → (lower : ℕ) → from ≤ lower → lower < fd → IsSome (map.get fds lower)
taken_from fds from fd here later lower least more = taken_at (nat_eq from lower) refl where
  taken_at : (b : Bool) → nat_eq from lower ≡ b → IsSome (map.get fds lower)
  taken_at true e = subst (λ n. IsSome (map.get fds n)) (eqb-true from lower e) here
  taken_at false e = later lower (grind (arith, nat_tests)) more

first_free_cases : (fds : Descriptors) (from count fd : ℕ) (o : Option FileId) → map.get fds from ≡ o
    → (first_free fds (from + 1) count ≡ Some fd → IsFirstFree fds (from + 1) count fd)
    → (if is_none o then Some from else first_free fds (from + 1) count) ≡ Some fd → IsFirstFree fds from (suc count) fd
first_free_cases fds from count fd None here later e =
    let same : from ≡ fd = cc in
    record { no_less = omega arith; within = omega arith; is_free = subst (λ n. map.get fds n ≡ None) same here; below = λ lower least more. absurd (omega (arith, least, more, same)) }
first_free_cases fds from count fd (Some object) here later e =
    let first = later e in
    record { no_less = omega (arith, first.no_less); within = omega (arith, first.within); is_free = first.is_free; below = taken_from fds from fd (ap is_some here) first.below }

pub first_free_IsFirstFree : (fds : Descriptors) (from count fd : ℕ) → first_free fds from count ≡ Some fd → IsFirstFree fds from count fd
unfolding first_free
first_free_IsFirstFree fds from zero fd e = cc
first_free_IsFirstFree fds from (suc count) fd e =
    first_free_cases fds from count fd (map.get fds from) refl (first_free_IsFirstFree fds (from + 1) count fd) e

-- a new descriptor is the least free one of all
pub lowest_free_IsLowestFree : (fds : Descriptors) (fd : ℕ) → lowest_free fds ≡ Some fd → IsLowestFree fds fd
lowest_free_IsLowestFree fds fd e =
    let first = first_free_IsFirstFree fds 0 limit fd e in
    record { in_range = omega (arith, first.within); is_free = first.is_free; below = λ lower more. first.below lower (omega arith) more }

-- the end of a process leaves no descriptor
closed_by_table : (now : Time) (fd : ℕ) (d : Result Descriptor Refusal) (s : Scene) → (closed_by now fd d s).task.table ≡ map.remove s.task.table fd
closed_by_table now fd (Ok d) s = refl
closed_by_table now fd (Err refusal) s = refl

closed_one_table : (now : Time) (fd : ℕ) (s : Scene) → (closed_one now fd s).task.table ≡ map.remove s.task.table fd
closed_one_table now fd s = closed_by_table now fd (descriptor fd s.task s.shared.files) s

removed : (fds : Descriptors) (fd other : ℕ) → (other < fd → map.get fds other ≡ None) → other < suc fd → map.get (map.remove fds fd) other ≡ None
removed fds fd other below more = grind (arith, map.gets, nat_tests)

pub closed_below_is_free : (now : Time) (count : ℕ) (s : Scene) (fd : ℕ) → fd < count → map.get (closed_below now count s).task.table fd ≡ None
unfolding closed_below
closed_below_is_free now zero s fd more = absurd (omega (arith, more))
closed_below_is_free now (suc count) s fd more =
    rw (closed_one_table now count (closed_below now count s)) (removed (closed_below now count s).task.table count fd (closed_below_is_free now count s fd) more)

pub all_closed_is_free : (now : Time) (s : Scene) (fd : ℕ) → fd < limit → map.get (all_closed now s).task.table fd ≡ None
all_closed_is_free now s fd in_range = closed_below_is_free now limit s fd in_range
