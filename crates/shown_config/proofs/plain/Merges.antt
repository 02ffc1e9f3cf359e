-- Merging keeps a tree plain.
use Rattle.std.specs.Prelude.{if◌then◌else◌}
use Rattle.std.proofs.Common.{◌≡◌, ℕ, ◌==◌, Bool, true, false, not, ◌&&◌, ◌||◌, List, [], ◌∷◌, ◌++◌, IsUtf8, codes, Result, Ok, Err, IfOk, refl, sym, ap, ◌∙◌, subst, inl, inr, ◌⊎◌, true≢false}
use Rattle.std.specs.Cmp.Lexicographic.{pointwise}
use Rattle.std.proofs.lemmas.List.Folds.{list_any-append}
use Rattle.sim_base.specs.Refusals.{◌>>=◌}
use Rattle.sim_base.proofs.RefusalLemmas.{then_has}
use Rattle.yaml_tree.specs.Said.{Said, has_key}
use Rattle.yaml_tree.specs.Said.Said.{null, text, unknown, sequence, mapping, with_item, with_pair}
use Rattle.yaml_tree.proofs.KnownLaws.{same_bytes}
use Rattle.yaml_merge.specs.Rows.{with_pairs}
use Rattle.yaml_merge.specs.Sources.{pairs_of, sources}
use Rattle.yaml_merge.specs.Merge.{is_merge_key, may_merge, has, has_merge_key, keys_of, new_pairs, below, item_count, item_place, merged_rows, merged}
use Rattle.yaml_merge.specs.Plainness.{are_items, are_pairs, IsPlain}
use Rattle.yaml_merge.specs.declared.plain.Pair.{Pair}
use Rattle.yaml_merge.specs.declared.fault.MergeFault.{MergeFault}
use Rattle.yaml_merge.proofs.MergeLaws.{IsFree, merged_has_no_merge_key}
use Rattle.shown_config.proofs.plain.GoodTrees.{IsGood, bytes_are_same}

-- ---- tests

or_false : (a b : Bool) → (a || b) ≡ false → (a ≡ false) × (b ≡ false)
or_false true b h = absurd (true≢false h)
or_false false b h = (refl, h)

neither : (a b : Bool) → a ≡ false → b ≡ false → (a || b) ≡ false
neither a b p q = rw (p, q) refl

or_right : (a : Bool) → (a || true) ≡ true
or_right true = refl
or_right false = refl

or_left : (a b : Bool) → a ≡ true → (a || b) ≡ true
or_left a b e = rw e refl

has_push : (k : List ℕ) (keys : List (List ℕ)) (key : List ℕ) → has k (keys ++ key ∷ []) ≡ (has k keys || (pointwise ◌==◌ k key || false))
has_push k keys key = list_any-append (pointwise ◌==◌ k) keys (key ∷ [])

-- ---- pairs that are merged

abbrev AllPlain : List Pair → Type 0
AllPlain [] = Unit {0}
AllPlain (p ∷ ps) = IsUtf8 p.key × IsPlain p.value × AllPlain ps

plain_append : (ps qs : List Pair) → AllPlain ps → AllPlain qs → AllPlain (ps ++ qs)
plain_append [] qs h k = k
plain_append (p ∷ ps) qs h k = (h.0, h.1, plain_append ps qs h.2 k)

pairs_plain : (s : Said) → IsPlain s → AllPlain (pairs_of s)
pairs_plain (with_pair before line key value) h = plain_append (pairs_of before) _ (pairs_plain before h.3) (h.1, h.4, tt)
pairs_plain _ h = tt

sources_plain : (s : Said) → IsPlain s → AllPlain (sources s)
sources_plain (with_item before value) h = plain_append (sources before) (pairs_of value) (sources_plain before h.1) (pairs_plain value h.2)
sources_plain (with_pair before line key value) h = pairs_plain (with_pair before line key value) h
sources_plain _ h = tt

-- what is left of the keys that are taken
abbrev Lacks : Said → Said → List (List ℕ) → Type 0
Lacks old new taken = (k : List ℕ) → has k taken ≡ true → has_key k old ≡ false → has_key k new ≡ false

record IsPut (old : Said) (taken : List (List ℕ)) (new : Said) : Type 0 where
  plain : IsPlain new
  pairs : are_pairs new ≡ true
  lacks : Lacks old new taken

-- a tree has no key but those that are taken
abbrev IsWithin : Said → List (List ℕ) → Type 0
IsWithin tree taken = (k : List ℕ) → has k taken ≡ false → has_key k tree ≡ false

-- a key is taken, or it isn't and is put
put_by : (taken : List (List ℕ)) (ps : List Pair) (old : Said) (p : Pair) (t : Bool) → has p.key taken ≡ t → IsPlain old → are_pairs old ≡ true → IsWithin old taken → AllPlain (p ∷ ps)
    → IsPut old taken (with_pairs old (new_pairs taken ps))
    → (IsPlain (with_pair old p.line p.key p.value) → IsWithin (with_pair old p.line p.key p.value) (taken ++ p.key ∷ []) → IsPut (with_pair old p.line p.key p.value) (taken ++ p.key ∷ []) (with_pairs (with_pair old p.line p.key p.value) (new_pairs (taken ++ p.key ∷ []) ps)))
    → IsPut old taken (with_pairs old (if t then new_pairs taken ps else p ∷ new_pairs (taken ++ p.key ∷ []) ps))
put_by taken ps old p true e h a w all stays more = stays
put_by taken ps old p false e h a w all stays more =
    let put = more (a, all.0, w p.key e, h, all.1) within in
    record {
      plain = put.plain;
      pairs = put.pairs;
      lacks = λ k t n. put.lacks k (has_push k taken p.key ∙ or_left (has k taken) _ t) (neither (has_key k old) (pointwise ◌==◌ k p.key) n (other k t));
    }
  where
    within : IsWithin (with_pair old p.line p.key p.value) (taken ++ p.key ∷ [])
    within k n =
        let q = or_false (has k taken) _ (sym (has_push k taken p.key) ∙ n) in
        neither (has_key k old) (pointwise ◌==◌ k p.key) (w k q.0) (or_false (pointwise ◌==◌ k p.key) false q.1).0

    other : (k : List ℕ) → has k taken ≡ true → pointwise ◌==◌ k p.key ≡ false
    other k t = apart (pointwise ◌==◌ k p.key) refl
      where
        apart : (b : Bool) → pointwise ◌==◌ k p.key ≡ b → b ≡ false
        apart true q = absurd (true≢false (sym t ∙ ap (λ x. has x taken) (same_bytes k p.key q) ∙ e))
        apart false q = refl

put-new : (taken : List (List ℕ)) (ps : List Pair) (old : Said) → IsPlain old → are_pairs old ≡ true → IsWithin old taken → AllPlain ps → IsPut old taken (with_pairs old (new_pairs taken ps))
put-new taken [] old h a w p = record { plain = h; pairs = a; lacks = λ k t n. n }
put-new taken (p ∷ ps) old h a w all =
    put_by taken ps old p (has p.key taken) refl h a w all (put-new taken ps old h a w all.2)
    (λ plain within. put-new (taken ++ p.key ∷ []) ps (with_pair old p.line p.key p.value) plain a within all.2)

-- ---- rows

-- the rows of a prefix, merged
record IsKept (whole s b : Said) : Type 0 where
  plain : IsPlain b
  items : are_items s ≡ true → are_items b ≡ true
  pairs : are_pairs s ≡ true → are_pairs b ≡ true
  keys : (k : List ℕ) → has_key k s ≡ false → (has_key (codes "<<") s ≡ false) ⊎ (has k (keys_of whole) ≡ true) → has_key k b ≡ false

-- each key of these rows is one of the whole
abbrev IsPrefix : Said → Said → Type 0
IsPrefix whole s = (k : List ℕ) → has_key k s ≡ true → has k (keys_of whole) ≡ true

below_kept : (place : List ℕ) (value : Said) (read : Result Said MergeFault) → IfOk read IsPlain → IfOk (below place value read) IsPlain
below_kept place value (Ok s) h = h
below_kept place value (Err f) h = tt

plain_of : (whole s : Said) (read : Result Said MergeFault) → IfOk read (IsKept whole s) → IfOk read IsPlain
plain_of whole s (Ok b) h = h.plain
plain_of whole s (Err f) h = tt

merge_key : (key : List ℕ) → is_merge_key key ≡ true → key ≡ codes "<<"
merge_key key h = same_bytes key (codes "<<") h

-- the keys of a row more
key_more : (before : Said) (k key : List ℕ) → has_key k before || pointwise ◌==◌ k key ≡ false → (has_key k before ≡ false) × (pointwise ◌==◌ k key ≡ false)
key_more before k key h = or_false (has_key k before) (pointwise ◌==◌ k key) h

narrower : (whole before value : Said) (line : ℕ) (key k : List ℕ) → (has_key (codes "<<") (with_pair before line key value) ≡ false) ⊎ (has k (keys_of whole) ≡ true) → (has_key (codes "<<") before ≡ false) ⊎ (has k (keys_of whole) ≡ true)
narrower whole before value line key k (inl h) = inl (or_false (has_key (codes "<<") before) _ h).0
narrower whole before value line key k (inr h) = inr h

row_kept : (whole before b value : Said) (line : ℕ) (key : List ℕ) (read : Result Said MergeFault) (t m : Bool) → is_merge_key key ≡ t
    → IsPlain (with_pair before line key value) → IsPrefix whole (with_pair before line key value) → IsKept whole before b → IfOk read IsPlain
    → IfOk (if t && not m then Err (record { line = line; path = key }) else (below key value read >>= λ v. Ok (if t then with_pairs b (new_pairs (keys_of whole) (sources v)) else with_pair b line key v))) (IsKept whole (with_pair before line key value))
row_kept whole before b value line key read true true e h p kept r =
    then_has IsPlain (IsKept whole (with_pair before line key value)) (below key value read) _ (below_kept key value read r)
    (λ v plain.
    let first : has_key (codes "<<") before ≡ false = subst (λ (k : List ℕ). has_key k before ≡ false) (merge_key key e) h.2 in
    let within : IsWithin b (keys_of whole) = λ k n. kept.keys k (outside k n) (inl first) in
    let put = put-new (keys_of whole) (sources v) b kept.plain (kept.pairs h.0) within (sources_plain v plain) in
    record {
      plain = put.plain;
      items = λ q. absurd (true≢false (sym q));
      pairs = λ q. put.pairs;
      keys = λ k n q. put.lacks k (inside k q) (kept.keys k (key_more before k key n).0 (inl first));
    })
  where
    outside : (k : List ℕ) → has k (keys_of whole) ≡ false → has_key k before ≡ false
    outside k n = by (has_key k before) refl
      where
        by : (t : Bool) → has_key k before ≡ t → t ≡ false
        by true q = absurd (true≢false (sym (p k (or_left (has_key k before) _ q)) ∙ n))
        by false q = refl

    inside : (k : List ℕ) → (has_key (codes "<<") (with_pair before line key value) ≡ false) ⊎ (has k (keys_of whole) ≡ true) → has k (keys_of whole) ≡ true
    inside k (inl n) = absurd (true≢false (sym (ap (λ x. has_key (codes "<<") before || x) (ap (pointwise ◌==◌ (codes "<<")) (merge_key key e)) ∙ or_right (has_key (codes "<<") before)) ∙ n))
    inside k (inr t) = t
row_kept whole before b value line key read true false e h p kept r = tt
row_kept whole before b value line key read false m e h p kept r =
    then_has IsPlain (IsKept whole (with_pair before line key value)) (below key value read) _ (below_kept key value read r)
    (λ v plain.
    let there : has key (keys_of whole) ≡ true = p key (ap (λ x. has_key key before || x) (bytes_are_same key) ∙ or_right (has_key key before)) in
    record {
      plain = (kept.pairs h.0, h.1, kept.keys key h.2 (inr there), kept.plain, plain);
      items = λ q. absurd (true≢false (sym q));
      pairs = λ q. kept.pairs q;
      keys = λ k n q. (let lacks = key_more before k key n in neither (has_key k b) (pointwise ◌==◌ k key) (kept.keys k lacks.0 (narrower whole before value line key k q)) lacks.1);
    })

-- rows that are items have no key
items_lack : (s : Said) (k : List ℕ) → are_items s ≡ true → has_key k s ≡ false
items_lack (null line) k h = refl
items_lack (text line bytes) k h = refl
items_lack (unknown line) k h = refl
items_lack (sequence line) k h = refl
items_lack (mapping line) k h = refl
items_lack (with_item before value) k h = items_lack before k h
items_lack (with_pair before line key value) k h = absurd (true≢false (sym h))

-- each key of a mapping is among its keys
all_keys : (s : Said) → IsPlain s → IsPrefix s s
all_keys (null line) h k q = absurd (true≢false (sym q))
all_keys (text line bytes) h k q = absurd (true≢false (sym q))
all_keys (unknown line) h k q = absurd h
all_keys (sequence line) h k q = absurd (true≢false (sym q))
all_keys (mapping line) h k q = absurd (true≢false (sym q))
all_keys (with_item before value) h k q = absurd (true≢false (sym q ∙ items_lack before k h.0))
all_keys (with_pair before line key value) h k q = has_push k (keys_of before) key ∙ by (has_key k before) (pointwise ◌==◌ k key) (all_keys before h.3 k) q
  where
    by : (t u : Bool) → (t ≡ true → has k (keys_of before) ≡ true) → (t || u) ≡ true → (has k (keys_of before) || (u || false)) ≡ true
    by true u f r = or_left (has k (keys_of before)) _ (f refl)
    by false true f r = or_right (has k (keys_of before))
    by false false f r = absurd (true≢false (sym r))

rows-kept : (s whole : Said) → IsPlain s → IsPrefix whole s → IfOk (merged_rows whole s) (IsKept whole s)
rows-kept (null line) whole h p = record { plain = h; items = λ q. q; pairs = λ q. q; keys = λ k n q. n }
rows-kept (text line bytes) whole h p = record { plain = h; items = λ q. q; pairs = λ q. q; keys = λ k n q. n }
rows-kept (unknown line) whole h p = absurd h
rows-kept (sequence line) whole h p = record { plain = h; items = λ q. q; pairs = λ q. q; keys = λ k n q. n }
rows-kept (mapping line) whole h p = record { plain = h; items = λ q. q; pairs = λ q. q; keys = λ k n q. n }
rows-kept (with_item before value) whole h p =
    then_has (IsKept whole before) (IsKept whole (with_item before value)) (merged_rows whole before) _ (rows-kept before whole h.1 p)
    (λ b kept. then_has IsPlain (IsKept whole (with_item before value)) (below (item_place (item_count before)) value (merged_rows value value)) _ (below_kept (item_place (item_count before)) value (merged_rows value value) (plain_of value value (merged_rows value value) (rows-kept value value h.2 (all_keys value h.2))))
    (λ v plain. record {
      plain = (kept.items h.0, kept.plain, plain);
      items = λ q. kept.items q;
      pairs = λ q. absurd (true≢false (sym q));
      keys = λ k n q. kept.keys k n q;
    }))
rows-kept (with_pair before line key value) whole h p =
    then_has (IsKept whole before) (IsKept whole (with_pair before line key value)) (merged_rows whole before) _ (rows-kept before whole h.3 (λ k q. p k (or_left (has_key k before) _ q)))
    (λ b kept. row_kept whole before b value line key (merged_rows value value) (is_merge_key key) (may_merge value) refl h p kept (plain_of value value (merged_rows value value) (rows-kept value value h.4 (all_keys value h.4))))

tree_kept : (s : Said) → IsPlain s → IfOk (merged_rows s s) IsPlain
tree_kept s h = plain_of s s (merged_rows s s) (rows-kept s s h (all_keys s h))

-- a merged tree is good
pub merged_good : (a b : Said) → merged a ≡ Ok b → IsPlain a → IsGood b
unfolding merged
merged_good a b e h = record { plain = subst (λ (r : Result Said MergeFault). IfOk r IsPlain) e (tree_kept a h); free = free_from b (merged_has_no_merge_key a b e) }
  where
    free_from : (s : Said) → has_merge_key s ≡ false → IsFree s
    free_from (null line) n = tt
    free_from (text line bytes) n = tt
    free_from (unknown line) n = tt
    free_from (sequence line) n = tt
    free_from (mapping line) n = tt
    free_from (with_item before value) n = (let q = or_false (has_merge_key before) (has_merge_key value) n in (free_from before q.0, free_from value q.1))
    free_from (with_pair before line key value) n =
        (let q = or_false (has_merge_key before) (is_merge_key key || has_merge_key value) n in let r = or_false (is_merge_key key) (has_merge_key value) q.1 in (free_from before q.0, r.0, free_from value r.1))
