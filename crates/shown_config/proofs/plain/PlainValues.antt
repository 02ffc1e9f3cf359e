-- What is read of the values of a good tree.
use Rattle.std.proofs.Common.{◌≡◌, ℕ, ◌*◌, ◌^◌, ◌<◌, ◌≤◌, Bool, true, false, nat_lt, nat_le, if◌then◌else◌, List, length, Option, Some, None, IfSome, IfOk, IsUtf8, bytes_eq, refl, ltb-true, leb-true}
use Rattle.std.specs.List.{AllByRecursion}
use Rattle.std.specs.Option.{option_map}
use Rattle.std.proofs.lemmas.Bool.{and_parts}
use Rattle.std.specs.Str.{str_eq_ignore_ascii_case}
use Rattle.sim_base.specs.Units.{latest_time}
use Rattle.base_texts.specs.Quantity.{◌>>=◌, Units, time_units, rate_units, in_64_bits, some_digits, digits_of_text, unit_of_text, factor_in, quantity, time_of_text, rate_of_text}
use Rattle.sim_base.specs.declared.time.Time.{Time}
use Rattle.sim_base.proofs.RefusalLemmas.{then_has, then_all}
use Rattle.shd_config.proofs.Walks.{checked_has, valued_has}
use Rattle.shd_values.specs.Number.{number_of, size_of}
use Rattle.shd_values.specs.Address.{address_of}
use Rattle.yaml_merge.specs.Plain.{text_in, items_in, pairs_in}
use Rattle.yaml_merge.specs.declared.plain.Pair.{Pair}
use Rattle.shd_config.specs.declared.fault.ConfigKind.TheVariants.{WrongType, BadValue}
use Rattle.shd_config.specs.Values.{mapping_at, sequence_at, text_at, scalar_at, is_within, number_at, size_at, time_of, time_at, may_stop_at, stop_time_at, rate_at, may_be_host, address_at, text_with, is_some_text}
use Rattle.shd_config.specs.Limits.{MayStop, IsSomeText}
use Rattle.shown_config.specs.Plain.{IsRate}
use Rattle.shown_config.proofs.plain.Has.{ranged_has}
use Rattle.shown_config.proofs.plain.GoodTrees.{IsGood, text_good, items_good, AreGoodPairs, pairs_good}

-- ---- shapes

pub mapping_has : (p : Pair) → IsGood p.value → IfOk (mapping_at p) (AreGoodPairs p.value)
mapping_has p h = valued_has (AreGoodPairs p.value) WrongType p (pairs_in p.value) (pairs_good p.value h)

pub sequence_has : (p : Pair) → IsGood p.value → IfOk (sequence_at p) (AllByRecursion IsGood)
sequence_has p h = valued_has (AllByRecursion IsGood) WrongType p (items_in p.value) (items_good p.value h)

pub text_has : (p : Pair) → IsGood p.value → IfOk (text_at p) IsUtf8
text_has p h = valued_has IsUtf8 WrongType p (text_in p.value) (text_good p.value h)

pub scalar_has : {A : Type 0} (P : A → Type 0) (grammar : List ℕ → Option A) → ((text : List ℕ) → IfSome (grammar text) P) → (p : Pair) → IfOk (scalar_at grammar p) P
scalar_has P grammar f p = then_all P (text_at p) _ (λ text. valued_has P BadValue p (grammar text) (f text))

-- the same of a grammar of UTF-8
pub scalar_utf8_has : {A : Type 0} (P : A → Type 0) (grammar : List ℕ → Option A) → ((text : List ℕ) → IsUtf8 text → IfSome (grammar text) P) → (p : Pair) → IsGood p.value → IfOk (scalar_at grammar p) P
scalar_utf8_has P grammar f p h = then_has IsUtf8 P (text_at p) _ (text_has p h) (λ text u. valued_has P BadValue p (grammar text) (f text u))

some_any : {A : Type 0} (o : Option A) → IfSome o (λ _. Unit {0})
some_any None = tt
some_any (Some x) = tt

pub within : (least most n : ℕ) → is_within least most n ≡ true → (least ≤ n) × (n ≤ most)
within least most n e = let k = and_parts (nat_le least n) (nat_le n most) e in (leb-true least n k.0, leb-true n most k.1)

pub number_has : (least most : ℕ) (p : Pair) → IfOk (number_at least most p) (λ n. (least ≤ n) × (n ≤ most))
number_has least most p = then_all (λ n. (least ≤ n) × (n ≤ most)) (scalar_at number_of p) _ (λ n. ranged_has (λ k. (least ≤ k) × (k ≤ most)) (is_within least most) p n (within least most n))

pub size_has : (p : Pair) → IfOk (size_at p) (λ n. (1 ≤ n) × (n ≤ 65535))
size_has p = then_all (λ n. (1 ≤ n) × (n ≤ 65535)) (scalar_at size_of p) _ (λ n. ranged_has (λ k. (1 ≤ k) × (k ≤ 65535)) (is_within 1 65535) p n (within 1 65535 n))

-- ---- quantities

and_then_has : {A B : Type 0} (P : B → Type 0) (o : Option A) (f : A → Option B) → ((x : A) → IfSome (f x) P) → IfSome (o >>= f) P
and_then_has P None f h = tt
and_then_has P (Some x) f h = h x

in_64_has : (n : ℕ) → IfSome (in_64_bits n) (λ k. k < 2 ^ 64)
in_64_has n = by (nat_lt n (2 ^ 64)) refl
  where
    by : (t : Bool) → nat_lt n (2 ^ 64) ≡ t → IfSome (if t then Some n else None) (λ k. k < 2 ^ 64)
    by true e = ltb-true n (2 ^ 64) e
    by false e = tt

quantity_has : (same : List ℕ → List ℕ → Bool) (units : Units) (text : List ℕ) → IfSome (quantity same units text) (λ k. k < 2 ^ 64)
quantity_has same units text =
    and_then_has (λ k. k < 2 ^ 64) (some_digits (digits_of_text text)) _
    (λ digits. and_then_has (λ k. k < 2 ^ 64) (in_64_bits _) _
    (λ number. and_then_has (λ k. k < 2 ^ 64) (factor_in same units (unit_of_text text)) _ (λ factor. in_64_has (number * factor))))

abbrev pub IsSmall : Time → Type 0
IsSmall t = t.nanos < 2 ^ 64

time_of_has : (text : List ℕ) → IfSome (time_of text) IsSmall
time_of_has text = by (time_of_text text) (quantity_has bytes_eq time_units text)
  where
    by : (o : Option ℕ) → IfSome o (λ k. k < 2 ^ 64) → IfSome (option_map (λ n. record { nanos = n }) o) IsSmall
    by None h = tt
    by (Some n) h = h

pub time_has : (p : Pair) → IfOk (time_at p) IsSmall
time_has p = scalar_has IsSmall time_of time_of_has p

pub stop_has : (p : Pair) → IfOk (stop_time_at p) MayStop
stop_has p = then_all MayStop (time_at p) _ (λ t. ranged_has MayStop may_stop_at p t (within 1 latest_time t.nanos))

pub rate_has : (p : Pair) → IfOk (rate_at p) IsRate
rate_has p =
    then_has (λ k. k < 2 ^ 64) IsRate (scalar_at rate_of_text p) _ (scalar_has (λ k. k < 2 ^ 64) rate_of_text (quantity_has str_eq_ignore_ascii_case rate_units) p)
    (λ n small. ranged_has IsRate (λ k. nat_lt 0 k) p n (λ e. (ltb-true 0 n e, small)))

pub address_has : (p : Pair) → IfOk (address_at p) (λ ip. may_be_host ip ≡ true)
address_has p = then_all (λ ip. may_be_host ip ≡ true) (scalar_at address_of p) _ (λ ip. ranged_has (λ x. may_be_host x ≡ true) may_be_host p ip (λ e. e))

pub text_with_has : (test : List ℕ → Bool) (p : Pair) → IsGood p.value → IfOk (text_with test p) (λ t. IsUtf8 t × (test t ≡ true))
text_with_has test p h =
    then_has IsUtf8 (λ t. IsUtf8 t × (test t ≡ true)) (text_at p) _ (text_has p h)
    (λ text u. checked_has (λ t. IsUtf8 t × (test t ≡ true)) BadValue p (test text) _ (λ e. (u, e)))

pub some_text : (text : List ℕ) → is_some_text text ≡ true → IsSomeText text
some_text text e = ltb-true 0 (length text) e
