-- Steps of reading that succeed.
use Rattle.std.proofs.Common.{◌≡◌, ℕ, ◌^◌, ◌<◌, ◌≤◌, Bool, true, false, nat_lt, nat_le, List, [], ◌∷◌, ◌++◌, Option, Some, Ok, codes, decimal, refl, ap, arith, le-leb, lt-ltb}
use Rattle.std.proofs.lemmas.Bool.{and_from}
use Rattle.sim_base.specs.Units.{latest_time}
use Rattle.base_texts.specs.Quantity.{rate_of_text}
use Rattle.shd_values.specs.Number.{number_of, size_of}
use Rattle.sim_base.specs.declared.time.Time.{Time}
use Rattle.sim_base.proofs.RefusalLemmas.{then_is}
use Rattle.yaml_tree.specs.Said.{Said}
use Rattle.yaml_tree.specs.Said.Said.{text, with_item, with_pair}
use Rattle.yaml_merge.specs.Plain.{is_null, pairs_in, items_in}
use Rattle.yaml_merge.specs.declared.plain.Pair.{Pair}
use Rattle.shd_config.specs.declared.fault.ConfigKind.{ConfigKind}
use Rattle.shd_config.specs.declared.fault.ConfigKind.TheVariants.{WrongType, BadValue}
use Rattle.shd_config.specs.Steps.{valued, checked, through, optional}
use Rattle.shd_config.specs.Values.{mapping_at, sequence_at, scalar_at, ranged, is_within, number_at, size_at, time_at, may_stop_at, stop_time_at, rate_at, text_with}
use Rattle.shd_config.proofs.Walks.{Read}
use Rattle.config_lines.specs.Shown.{shown_time, shown_rate}
use Rattle.shown_config.proofs.words.Words.{Word, says}
use Rattle.shown_config.proofs.blocks.Blocks.{Item, with_words, with_entries, item_said, items_said, after_item}
use Rattle.shown_config.proofs.words.Decimals.{time_read, rate_read, number_read, size_read}

pub through_ok : {S A : Type 0} (step : S → A → Read S) (s t : S) (x : A) (xs : List A) (r : Read S) → step s x ≡ Ok t → through step t xs ≡ r → through step s (x ∷ xs) ≡ r
through_ok step s t x xs r e f = then_is (step s x) (λ next. through step next xs) t r e f

pub optional_ok : {A : Type 0} (p : Pair) (read : Read A) (x : A) → is_null p.value ≡ false → read ≡ Ok x → optional p read ≡ Ok (Some x)
optional_ok p read x n e = rw (n, e) refl

pub mapping_ok : (p : Pair) (pairs : List Pair) → pairs_in p.value ≡ Some pairs → mapping_at p ≡ Ok pairs
mapping_ok p pairs e = ap (valued WrongType p) e

pub sequence_ok : (p : Pair) (items : List Said) → items_in p.value ≡ Some items → sequence_at p ≡ Ok items
sequence_ok p items e = ap (valued WrongType p) e

pub checked_ok : (kind : ConfigKind) (p : Pair) (t : Bool) → t ≡ true → checked kind p t ≡ Ok tt
checked_ok kind p t e = rw e refl

-- ---- values

pub scalar_ok : {A : Type 0} (grammar : List ℕ → Option A) (n : ℕ) (w : Word) (x : A) → grammar (says w) ≡ Some x → (key : List ℕ) (line : ℕ) → scalar_at grammar (record { line = line; key = key; value = text n (says w) }) ≡ Ok x
scalar_ok grammar n w x e key line = ap (valued BadValue (record { line = line; key = key; value = text n (says w) })) e

pub within_ok : (least most n : ℕ) → least ≤ n → n ≤ most → is_within least most n ≡ true
within_ok least most n a b = and_from (nat_le least n) (nat_le n most) (le-leb least n a) (le-leb n most b)

pub ranged_ok : {A : Type 0} (test : A → Bool) (p : Pair) (x : A) → test x ≡ true → ranged test p x ≡ Ok x
ranged_ok test p x e = rw e refl

-- a pair whose value is a text
abbrev pub text_pair : ℕ → List ℕ → List ℕ → Pair
text_pair n key bytes = record { line = n; key = key; value = text n bytes }

pub number_ok : (least most n line : ℕ) (key : List ℕ) → least ≤ n → n ≤ most → most < 2 ^ 64 → number_at least most (text_pair line key (decimal n)) ≡ Ok n
number_ok least most n line key a b s =
    let p = text_pair line key (decimal n) in
    then_is (scalar_at number_of p) (ranged (is_within least most) p) n (Ok n) (ap (valued BadValue p) (number_read n (omega arith))) (ranged_ok (is_within least most) p n (within_ok least most n a b))

pub time_ok : (t : Time) (line : ℕ) (key : List ℕ) → t.nanos < 2 ^ 64 → time_at (text_pair line key (shown_time t)) ≡ Ok t
time_ok t line key h = ap (valued BadValue (text_pair line key (shown_time t))) (time_read t h)

pub stop_time_ok : (t : Time) (line : ℕ) (key : List ℕ) → 1 ≤ t.nanos → t.nanos ≤ latest_time → stop_time_at (text_pair line key (shown_time t)) ≡ Ok t
stop_time_ok t line key a b =
    let p = text_pair line key (shown_time t) in
    then_is (time_at p) (ranged may_stop_at p) t (Ok t) (time_ok t line key (omega arith)) (ranged_ok may_stop_at p t (within_ok 1 latest_time t.nanos a b))

pub rate_ok : (n line : ℕ) (key : List ℕ) → 1 ≤ n → n < 2 ^ 64 → rate_at (text_pair line key (shown_rate n)) ≡ Ok n
rate_ok n line key a b =
    let p = text_pair line key (shown_rate n) in
    then_is (scalar_at rate_of_text p) (ranged (λ k. nat_lt 0 k) p) n (Ok n) (ap (valued BadValue p) (rate_read n b)) (ranged_ok (λ k. nat_lt 0 k) p n (lt-ltb 0 n a))

pub size_ok : (n line : ℕ) (key : List ℕ) → 1 ≤ n → n ≤ 65535 → size_at (text_pair line key (decimal n ++ codes " B")) ≡ Ok n
size_ok n line key a b =
    let p = text_pair line key (decimal n ++ codes " B") in
    then_is (scalar_at size_of p) (ranged (is_within 1 65535) p) n (Ok n) (ap (valued BadValue p) (size_read n (omega arith))) (ranged_ok (is_within 1 65535) p n (within_ok 1 65535 n a b))

pub text_ok : (test : List ℕ → Bool) (bytes key : List ℕ) (line : ℕ) → test bytes ≡ true → text_with test (text_pair line key bytes) ≡ Ok bytes
text_ok test bytes key line e = rw e refl

-- ---- what isn't null

pub words_not_null : (n : ℕ) (before : Said) (ws : List Word) → is_null before ≡ false → is_null (with_words n before ws) ≡ false
words_not_null n before [] h = h
words_not_null n before (w ∷ ws) h = words_not_null n (with_item before (text n (says w))) ws refl

pub entries_not_null : (n : ℕ) (before : Said) (ps : List (Word × Word)) → is_null before ≡ false → is_null (with_entries n before ps) ≡ false
entries_not_null n before [] h = h
entries_not_null n before (p ∷ ps) h = entries_not_null n (with_pair before n (says p.0) (text n (says p.1))) ps refl

pub items_not_null : (n : ℕ) (before : Said) (is : List Item) → is_null before ≡ false → is_null (items_said n before is) ≡ false
items_not_null n before [] h = h
items_not_null n before (i ∷ is) h = items_not_null (after_item n i) (with_item before (item_said n i)) is refl
