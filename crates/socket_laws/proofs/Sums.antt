-- sums over a list of which one element changes, and of which none passes a test
use Rattle.std.proofs.Common.{◌≡◌, ℕ, zero, suc, ◌+◌, ◌≤◌, nat_lt, ◌||◌, not, List, [], ◌∷◌, ◌++◌, length, set, Bool, true, false, cond, Some, None, slice_get, refl, sym, ap, ◌∙◌, sum_by, arith}
use Rattle.std.specs.List.{list_any, position, position_or_len, remove}
use Rattle.std.proofs.lemmas.Bool.Decides.{nat_tests}
use Rattle.std.proofs.lemmas.List.Sums.{sum_by-cons, sum_by_push, prefix_len-le-length}
use Rattle.sock_tcp.specs.segment.Refusal.{one_if}
use Rattle.tcp_laws.proofs.Tests.{by_test}
use Rattle.host_sockets.specs.Sockets.{put_at}

pub sum_set : {A : Type 0} (f : A → ℕ) (xs : List A) (k : ℕ) (x y : A) (n : ℕ) → slice_get xs k ≡ Some x → f y ≤ f x + n → sum_by f (set xs k y) ≤ sum_by f xs + n
sum_set f [] k x y n e b = cc
sum_set f (z ∷ xs) zero x y n e b =
    let same : z ≡ x = cc in
    let at = ap f same in
    omega (arith, sum_by-cons f y xs, sum_by-cons f z xs, at, b)
sum_set f (z ∷ xs) (suc k) x y n e b =
    let rest = sum_set f xs k x y n e b in
    omega (arith, sum_by-cons f z (set xs k y), sum_by-cons f z xs, rest)

-- n less than before
pub sum_set_less : {A : Type 0} (f : A → ℕ) (xs : List A) (k : ℕ) (x y : A) (n : ℕ) → slice_get xs k ≡ Some x → f y + n ≤ f x → sum_by f (set xs k y) + n ≤ sum_by f xs
sum_set_less f [] k x y n e b = cc
sum_set_less f (z ∷ xs) zero x y n e b =
    let same : z ≡ x = cc in
    let at = ap f same in
    omega (arith, sum_by-cons f y xs, sum_by-cons f z xs, at, b)
sum_set_less f (z ∷ xs) (suc k) x y n e b =
    let rest = sum_set_less f xs k x y n e b in
    omega (arith, sum_by-cons f z (set xs k y), sum_by-cons f z xs, rest)

sum_set_any : {A : Type 0} (f : A → ℕ) (xs : List A) (k : ℕ) (y : A) → sum_by f (set xs k y) ≤ sum_by f xs + f y
sum_set_any f [] k y = omega arith
sum_set_any f (z ∷ xs) zero y = omega (arith, sum_by-cons f y xs, sum_by-cons f z xs)
sum_set_any f (z ∷ xs) (suc k) y =
    let rest = sum_set_any f xs k y in
    omega (arith, sum_by-cons f z (set xs k y), sum_by-cons f z xs, rest)

pub sum_put : {A : Type 0} (f : A → ℕ) (xs : List A) (k : ℕ) (y : A) → sum_by f (put_at k y xs) ≤ sum_by f xs + f y
sum_put {A} f xs k y =
    by_test (λ (ys : List A). sum_by f ys ≤ sum_by f xs + f y) (nat_lt k (length xs)) (set xs k y) (xs ++ y ∷ [])
    (λ e. sum_set_any f xs k y)
    (λ e. omega (arith, sum_by_push f xs y))

pub sum_remove : {A : Type 0} (f : A → ℕ) (xs : List A) (k : ℕ) → sum_by f (remove xs k) ≤ sum_by f xs
sum_remove f [] zero = omega arith
sum_remove f [] (suc k) = omega arith
sum_remove f (z ∷ xs) zero = omega (arith, sum_by-cons f z xs)
sum_remove f (z ∷ xs) (suc k) =
    let rest = sum_remove f xs k in
    omega (arith, sum_by-cons f z (remove xs k), sum_by-cons f z xs, rest)

pub sum_taken : {A : Type 0} (f : A → ℕ) (xs : List A) (k : ℕ) (x : A) → slice_get xs k ≡ Some x → sum_by f (remove xs k) + f x ≡ sum_by f xs
sum_taken f [] k x e = cc
sum_taken f (z ∷ xs) zero x e =
    let same : z ≡ x = cc in
    let at = ap f same in
    omega (arith, sum_by-cons f z xs, at)
sum_taken f (z ∷ xs) (suc k) x e =
    let rest = sum_taken f xs k x e in
    omega (arith, sum_by-cons f z (remove xs k), sum_by-cons f z xs, rest)

-- tests that none passes
fails_here : (b : Bool) (n m : ℕ) → cond (not b) (1 + n) 0 ≡ suc m → b ≡ false
fails_here true n m e = absurd (omega arith)
fails_here false n m e = refl

fails_behind : (b : Bool) (n m : ℕ) → cond (not b) (1 + n) 0 ≡ suc m → n ≡ m
fails_behind true n m e = absurd (omega arith)
fails_behind false n m e = omega arith

pub none_sum : {A : Type 0} (f : A → ℕ) (p : A → Bool) → ((x : A) → p x ≡ false → f x ≡ 0) → (xs : List A) → position_or_len p xs ≡ length xs → sum_by f xs ≡ 0
none_sum f p empty [] e = refl
none_sum f p empty (x ∷ xs) e =
    let here = empty x (fails_here (p x) (position_or_len p xs) (length xs) e) in
    let rest = none_sum f p empty xs (fails_behind (p x) (position_or_len p xs) (length xs) e) in
    omega (arith, sum_by-cons f x xs, here, rest)

pub none_sum_both : {A : Type 0} (f : A → ℕ) (p q : A → Bool) → ((x : A) → p x ≡ false → q x ≡ false → f x ≡ 0) → (xs : List A) → position_or_len p xs ≡ length xs → position_or_len q xs ≡ length xs → sum_by f xs ≡ 0
none_sum_both f p q empty [] e g = refl
none_sum_both f p q empty (x ∷ xs) e g =
    let here = empty x (fails_here (p x) (position_or_len p xs) (length xs) e) (fails_here (q x) (position_or_len q xs) (length xs) g) in
    let rest = none_sum_both f p q empty xs (fails_behind (p x) (position_or_len p xs) (length xs) e) (fails_behind (q x) (position_or_len q xs) (length xs) g) in
    omega (arith, sum_by-cons f x xs, here, rest)

or_first : (a b : Bool) → (a || b) ≡ false → a ≡ false
or_first true b e = cc
or_first false b e = refl

or_second : (a b : Bool) → (a || b) ≡ false → b ≡ false
or_second true b e = cc
or_second false b e = e

pub no_sum : {A : Type 0} (f : A → ℕ) (p q : A → Bool) → ((x : A) → p x ≡ false → q x ≡ false → f x ≡ 0) → (xs : List A) → list_any (λ x. p x || q x) xs ≡ false → sum_by f xs ≡ 0
no_sum f p q empty [] e = refl
no_sum f p q empty (x ∷ xs) e =
    let first : (p x || q x) ≡ false = or_first (p x || q x) (list_any (λ y. p y || q y) xs) e in
    let here = empty x (or_first (p x) (q x) first) (or_second (p x) (q x) first) in
    let rest = no_sum f p q empty xs (or_second (p x || q x) (list_any (λ y. p y || q y) xs) e) in
    omega (arith, sum_by-cons f x xs, here, rest)

-- where an element is found
told_none : (b : Bool) (n : ℕ) → cond b (Some n) None ≡ None → b ≡ false
told_none true n e = cc
told_none false n e = refl

told_some : (b : Bool) (n k : ℕ) → cond b (Some n) None ≡ Some k → n ≡ k
told_some true n k e = cc
told_some false n k e = cc

at_end : (n m : ℕ) → n ≤ m → nat_lt n m ≡ false → n ≡ m
at_end n m b e = grind (arith, nat_tests)

pub all_passed : {A : Type 0} (p : A → Bool) (xs : List A) → nat_lt (position_or_len p xs) (length xs) ≡ false → position_or_len p xs ≡ length xs
all_passed p xs e = at_end (position_or_len p xs) (length xs) (prefix_len-le-length (λ x. not (p x)) xs) e

pub none_found : {A : Type 0} (p : A → Bool) (xs : List A) → position p xs ≡ None → position_or_len p xs ≡ length xs
none_found p xs e = all_passed p xs (told_none (nat_lt (position_or_len p xs) (length xs)) (position_or_len p xs) e)

holds_here : (b : Bool) (n : ℕ) → cond (not b) (1 + n) 0 ≡ 0 → b ≡ true
holds_here true n e = refl
holds_here false n e = absurd (omega arith)

found_holds : {A : Type 0} (p : A → Bool) (xs : List A) (k : ℕ) (x : A) → position_or_len p xs ≡ k → slice_get xs k ≡ Some x → p x ≡ true
found_holds p [] k x e at = cc
found_holds p (y ∷ xs) zero x e at =
    let same : y ≡ x = cc in
    ap p (sym same) ∙ holds_here (p y) (position_or_len p xs) e
found_holds p (y ∷ xs) (suc k) x e at = found_holds p xs k x (fails_behind (p y) (position_or_len p xs) k e) at

pub position_holds : {A : Type 0} (p : A → Bool) (xs : List A) (k : ℕ) (x : A) → position p xs ≡ Some k → slice_get xs k ≡ Some x → p x ≡ true
position_holds p xs k x e at =
    found_holds p xs k x (told_some (nat_lt (position_or_len p xs) (length xs)) (position_or_len p xs) k e) at

pub nothing_past : {A : Type 0} (xs : List A) (k : ℕ) → slice_get xs k ≡ None → length xs ≤ k
nothing_past [] k e = omega arith
nothing_past (x ∷ xs) zero e = cc
nothing_past (x ∷ xs) (suc k) e = let rest = nothing_past xs k e in omega (arith, rest)

-- one at most
pub one_le : (a b : Bool) → (a ≡ true → b ≡ true) → one_if a ≤ one_if b
one_le true true h = omega arith
one_le true false h = let e = h refl in cc
one_le false b h = omega arith

pub at_most_one : (before after : ℕ) (m : Bool) → after ≤ before + one_if m → before ≤ 1 → (m ≡ true → before ≡ 0) → after ≤ 1
at_most_one before after true b h none = let zero_before = none refl in omega (arith, b, zero_before)
at_most_one before after false b h none = omega (arith, b, h)
