-- lists of which each member has something, and lists of bytes
use Rattle.std.specs.Int.{Width, byte_at, byte_len, bytes_high_first, bytes_low_first, from_be_bytes, to_be_bytes, to_le_bytes}
use Rattle.std.specs.List.{AllByRecursion}
use Rattle.std.proofs.Common.{IfSome, List, Option, Some, [], arith, drop, flat_map, map, mod-lt, remove, slice_get, slice_index, slice_set, subst, suc, take, w16, w32, zero, ℕ, ◌%◌, ◌++◌, ◌/◌, ◌<◌, ◌^◌, ◌∷◌, ◌≡◌}
use Rattle.guest_mem.specs.Memory.{low_bytes}
use Rattle.run_fits.specs.Bytes.{AreBytes}
use Rattle.pcap_text.specs.Laws.{IsByte}

module _ {X : Type 0} (P : X → Type 0) where
  pub all_append : (xs ys : List X) → AllByRecursion P xs → AllByRecursion P ys → AllByRecursion P (xs ++ ys)
  all_append [] ys h k = k
  all_append (x ∷ xs) ys h k = (h.0, all_append xs ys h.1 k)

  pub all_take : (n : ℕ) (xs : List X) → AllByRecursion P xs → AllByRecursion P (take n xs)
  all_take zero xs h = tt
  all_take (suc n) [] h = tt
  all_take (suc n) (x ∷ xs) h = (h.0, all_take n xs h.1)

  pub all_drop : (n : ℕ) (xs : List X) → AllByRecursion P xs → AllByRecursion P (drop n xs)
  all_drop zero xs h = h
  all_drop (suc n) [] h = tt
  all_drop (suc n) (x ∷ xs) h = all_drop n xs h.1

  pub all_get : (xs : List X) (i : ℕ) (x : X) → AllByRecursion P xs → slice_get xs i ≡ Some x → P x
  all_get [] i x h e = absurd (cc)
  all_get (y ∷ ys) zero x h e = let same : y ≡ x = cc in subst P same h.0
  all_get (y ∷ ys) (suc i) x h e = all_get ys i x h.1 e

  pub all_set : (xs : List X) (i : ℕ) (x : X) → AllByRecursion P xs → P x → AllByRecursion P (slice_set xs i x)
  all_set [] i x h here = tt
  all_set (y ∷ ys) zero x h here = (here, h.1)
  all_set (y ∷ ys) (suc i) x h here = (h.0, all_set ys i x h.1 here)

  pub all_without : (place : ℕ) (xs : List X) → AllByRecursion P xs → AllByRecursion P (remove xs place)
  all_without place xs h = all_append (take place xs) (drop (suc place) xs) (all_take place xs h) (all_drop (suc place) xs h)

  pub all_map : {Y : Type 0} (f : Y → X) (ys : List Y) → ((y : Y) → P (f y)) → AllByRecursion P (map f ys)
  all_map f [] h = tt
  all_map f (y ∷ ys) h = (h y, all_map f ys h)

  pub all_flat_map : {Y : Type 0} (f : Y → List X) (ys : List Y) → ((y : Y) → AllByRecursion P (f y)) → AllByRecursion P (flat_map f ys)
  all_flat_map f [] h = tt
  all_flat_map f (y ∷ ys) h = all_append (f y) (flat_map f ys) (h y) (all_flat_map f ys h)

  -- what is there has it, or the other does
  pub got : (xs : List X) (i : ℕ) → AllByRecursion P xs → IfSome (slice_get xs i) P
  got [] i h = tt
  got (x ∷ xs) zero h = h.0
  got (x ∷ xs) (suc i) h = got xs i h.1

-- ---- numbers as bytes

small_rest : (n : ℕ) → IsByte (n % 256)
small_rest n = mod-lt n (omega arith)

pub low_are : (k n : ℕ) → AreBytes (low_bytes k n)
low_are zero n = tt
low_are (suc k) n = (small_rest n, low_are k (n / 256))

byte_small : (i n : ℕ) → IsByte (byte_at i n)
byte_small zero n = small_rest n
byte_small (suc i) n = small_rest (n / 256 ^ suc i)

low_first : (i k n : ℕ) → AreBytes (bytes_low_first i k n)
low_first i zero n = tt
low_first i (suc k) n = (byte_small i n, low_first (suc i) k n)

high_first : (k n : ℕ) → AreBytes (bytes_high_first k n)
high_first zero n = tt
high_first (suc k) n = (byte_small k n, high_first k n)

pub le_are : (w : Width) (n : ℕ) → AreBytes (to_le_bytes w n)
le_are w n = low_first 0 (byte_len w) n

pub be_are : (w : Width) (n : ℕ) → AreBytes (to_be_bytes w n)
be_are w n = high_first (byte_len w) n

-- ---- bytes as numbers

pub index_small : (bytes : List ℕ) (i : ℕ) → AreBytes bytes → IsByte (slice_index bytes i)
index_small [] i h = omega arith
index_small (b ∷ bytes) zero h = h.0
index_small (b ∷ bytes) (suc i) h = index_small bytes i h.1

pub half_small : (bytes : List ℕ) → AreBytes bytes → from_be_bytes w16 bytes < 2 ^ 16
half_small bytes h =
    let a = index_small bytes 0 h in
    let b = index_small bytes 1 h in
    omega (arith, a, b)

pub word_small : (bytes : List ℕ) → AreBytes bytes → from_be_bytes w32 bytes < 2 ^ 32
word_small bytes h =
    let a = index_small bytes 0 h in
    let b = index_small bytes 1 h in
    let c = index_small bytes 2 h in
    let d = index_small bytes 3 h in
    omega (arith, a, b, c, d)

-- ---- where there are bytes, they are

abbrev pub MayBeBytes : Option (List ℕ) → Type 0
MayBeBytes found = IfSome found AreBytes
