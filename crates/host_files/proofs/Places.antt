-- The least free number of things.
use Rattle.std.proofs.Common.{◌≡◌, ℕ, ◌≤◌, Bool, true, false, cond, List, length, refl, arith, nat_lt, Some, None}
use Rattle.std.specs.Prelude.{unwrap_or, position}
use Rattle.std.specs.List.{position_or_len}
use Rattle.std.proofs.lemmas.Bool.Decides.{nat_tests}
use Rattle.std.proofs.lemmas.List.Sums.{prefix_len-le-length}

cut : (n m : ℕ) → n ≤ m → (b : Bool) → nat_lt n m ≡ b → unwrap_or (cond b (Some n) None) m ≡ n
cut n m h true e = refl
cut n m h false e = grind (arith, nat_tests)

pub position_unwrap_or : {X : Type 0} (p : X → Bool) (xs : List X) → unwrap_or (position p xs) (length xs) ≡ position_or_len p xs
position_unwrap_or p xs = cut (position_or_len p xs) (length xs) (prefix_len-le-length _ xs) (nat_lt (position_or_len p xs) (length xs)) refl
