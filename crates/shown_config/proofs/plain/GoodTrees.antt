-- Merged trees of texts: each text is UTF-8, no mapping has a key twice, and no key merges.
use Rattle.std.proofs.Common.{◌≡◌, ◌≢◌, ℕ, Bool, true, false, ◌&&◌, ◌||◌, ◌==◌, List, [], ◌∷◌, ◌++◌, map, Option, Some, None, IfSome, IsUtf8, refl, sym, ap, ◌∙◌, subst, true≢false, eq-eqb}
use Rattle.std.specs.Cmp.Lexicographic.{pointwise}
use Rattle.std.specs.List.{AllByRecursion}
use Rattle.std.specs.Option.{option_map}
use Rattle.std.proofs.lemmas.List.Elements.{All-nil, All-push}
use Rattle.yaml_tree.specs.Said.{Said, has_key}
use Rattle.yaml_tree.specs.Said.Said.{null, text, unknown, sequence, mapping, with_item, with_pair}
use Rattle.yaml_merge.specs.Merge.{is_merge_key}
use Rattle.yaml_merge.specs.Plain.{text_in, items_in, pairs_in}
use Rattle.yaml_merge.specs.Plainness as plainness
use Rattle.yaml_merge.specs.declared.plain.Pair.{Pair}
use Rattle.yaml_merge.proofs.MergeLaws.{IsFree}
use Rattle.shown_config.specs.Plain.{AreApart}

pub record IsGood (tree : Said) : Type 0 where
  pub plain : plainness.IsPlain tree
  pub free : IsFree tree

pub record IsGoodPair (p : Pair) : Type 0 where
  pub key : IsUtf8 p.key
  pub other : is_merge_key p.key ≡ false
  pub value : IsGood p.value

abbrev pub keys_in : List Pair → List (List ℕ)
keys_in pairs = map (λ p. p.key) pairs

-- ---- texts

pub text_good : (tree : Said) → IsGood tree → IfSome (text_in tree) IsUtf8
text_good (null line) h = tt
text_good (text line bytes) h = h.plain
text_good (unknown line) h = tt
text_good (sequence line) h = tt
text_good (mapping line) h = tt
text_good (with_item before value) h = tt
text_good (with_pair before line key value) h = tt

-- ---- lists that grow

push_each : {A : Type 0} (P : A → Type 0) (xs : List A) (x : A) → AllByRecursion P xs → P x → AllByRecursion P (xs ++ x ∷ [])
push_each P [] x h k = (k, tt)
push_each P (y ∷ xs) x h k = (h.0, push_each P xs x h.1 k)

-- ---- items

items_push : (o : Option (List Said)) (x : Said) → IfSome o (AllByRecursion IsGood) → IsGood x → IfSome (option_map (λ items. items ++ x ∷ []) o) (AllByRecursion IsGood)
items_push None x h k = tt
items_push (Some xs) x h k = push_each IsGood xs x h k

pub items_good : (tree : Said) → IsGood tree → IfSome (items_in tree) (AllByRecursion IsGood)
items_good (null line) h = tt
items_good (text line bytes) h = tt
items_good (unknown line) h = tt
items_good (sequence line) h = tt
items_good (mapping line) h = tt
items_good (with_item before value) h =
    items_push (items_in before) value (items_good before (record { plain = h.plain.1; free = h.free.0 })) (record { plain = h.plain.2; free = h.free.1 })
items_good (with_pair before line key value) h = tt

-- ---- pairs

pub bytes_are_same : (a : List ℕ) → pointwise ◌==◌ a a ≡ true
bytes_are_same [] = refl
bytes_are_same (x ∷ a) = ap (λ t. t && pointwise ◌==◌ a a) (eq-eqb x x refl) ∙ bytes_are_same a

pub other_bytes : (a b : List ℕ) → pointwise ◌==◌ a b ≡ false → a ≢ b
other_bytes a b h e = true≢false (sym (bytes_are_same a) ∙ ap (pointwise ◌==◌ a) e ∙ h)

-- a key that the tree lacks is none of these
abbrev AreAll : Said → List Pair → Type 0
AreAll tree pairs = (key : List ℕ) → has_key key tree ≡ false → AllByRecursion (λ other. key ≢ other) (keys_in pairs)

pub record AreGoodPairs (tree : Said) (pairs : List Pair) : Type 0 where
  pub each : AllByRecursion IsGoodPair pairs
  pub apart : AreApart (keys_in pairs)
  pub all : AreAll tree pairs

apart_push : (names : List (List ℕ)) (name : List ℕ) → AreApart names → AllByRecursion (λ other. name ≢ other) names → AreApart (names ++ name ∷ [])
apart_push [] name a h = (All-nil (λ other. other ≢ name), tt)
apart_push (n ∷ names) name a h = (All-push (λ other. other ≢ n) names name a.0 h.0, apart_push names name a.1 h.1)

keys_push : (pairs : List Pair) (p : Pair) → keys_in (pairs ++ p ∷ []) ≡ keys_in pairs ++ p.key ∷ []
keys_push [] p = refl
keys_push (q ∷ pairs) p = ap (λ l. q.key ∷ l) (keys_push pairs p)

or_false : (a b : Bool) → (a || b) ≡ false → (a ≡ false) × (b ≡ false)
or_false true b h = absurd (true≢false h)
or_false false b h = (refl, h)

pairs_push : (o : Option (List Pair)) (before value : Said) (line : ℕ) (key : List ℕ) → IfSome o (AreGoodPairs before) → IsUtf8 key → is_merge_key key ≡ false → has_key key before ≡ false → IsGood value
    → IfSome (option_map (λ pairs. pairs ++ (record { line = line; key = key; value = value }) ∷ []) o) (AreGoodPairs (with_pair before line key value))
pairs_push None before value line key h u m n g = tt
pairs_push (Some pairs) before value line key h u m n g =
    let p : Pair = record { line = line; key = key; value = value } in
    let e = sym (keys_push pairs p) in
    record {
      each = push_each IsGoodPair pairs p h.each (record { key = u; other = m; value = g });
      apart = subst AreApart e (apart_push (keys_in pairs) key h.apart (h.all key n));
      all = λ k lacks. (let q = or_false (has_key k before) (pointwise ◌==◌ k key) lacks in
          subst (AllByRecursion (λ other. k ≢ other)) e (push_each (λ other. k ≢ other) (keys_in pairs) key (h.all k q.0) (other_bytes k key q.1)));
    }

pub pairs_good : (tree : Said) → IsGood tree → IfSome (pairs_in tree) (AreGoodPairs tree)
pairs_good (null line) h = tt
pairs_good (text line bytes) h = tt
pairs_good (unknown line) h = tt
pairs_good (sequence line) h = tt
pairs_good (mapping line) h = record { each = tt; apart = tt; all = λ key lacks. tt }
pairs_good (with_item before value) h = tt
pairs_good (with_pair before line key value) h =
    pairs_push (pairs_in before) before value line key (pairs_good before (record { plain = h.plain.3; free = h.free.0 })) h.plain.1 h.free.1 h.plain.2 (record { plain = h.plain.4; free = h.free.2 })
