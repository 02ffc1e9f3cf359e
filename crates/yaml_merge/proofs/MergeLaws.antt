-- A merged tree has no merge key, and merging it again changes nothing.
use Rattle.std.specs.Prelude.{if◌then◌else◌}
use Rattle.std.proofs.Common.{◌≡◌, ℕ, Bool, true, false, not, ◌&&◌, ◌||◌, List, [], ◌∷◌, ◌++◌, Result, Ok, Err, IfOk, refl, subst}
use Rattle.sim_base.specs.Refusals.{◌>>=◌}
use Rattle.sim_base.proofs.RefusalLemmas.{then_has}
use Rattle.yaml_tree.specs.Said.{Said}
use Rattle.yaml_tree.specs.Said.Said.{null, text, unknown, sequence, mapping, with_item, with_pair}
use Rattle.yaml_merge.specs.Rows.{with_pairs}
use Rattle.yaml_merge.specs.Sources.{pairs_of, sources}
use Rattle.yaml_merge.specs.Merge.{is_merge_key, may_merge, has, has_merge_key, keys_of, new_pairs, below, item_count, item_place, merged_rows, merged}
use Rattle.yaml_merge.specs.declared.plain.Pair.{Pair}
use Rattle.yaml_merge.specs.declared.fault.MergeFault.{MergeFault}

-- no key in the tree is a merge key
abbrev pub IsFree : Said → Type 0
IsFree (null line) = Unit {0}
IsFree (text line bytes) = Unit {0}
IsFree (unknown line) = Unit {0}
IsFree (sequence line) = Unit {0}
IsFree (mapping line) = Unit {0}
IsFree (with_item before value) = IsFree before × IsFree value
IsFree (with_pair before line key value) = IsFree before × (is_merge_key key ≡ false) × IsFree value

neither : (a b : Bool) → a ≡ false → b ≡ false → (a || b) ≡ false
neither a b p q = rw (p, q) refl

free_has : (s : Said) → IsFree s → has_merge_key s ≡ false
free_has (null line) h = refl
free_has (text line bytes) h = refl
free_has (unknown line) h = refl
free_has (sequence line) h = refl
free_has (mapping line) h = refl
free_has (with_item before value) h = neither _ _ (free_has before h.0) (free_has value h.1)
free_has (with_pair before line key value) h = neither _ _ (free_has before h.0) (neither _ _ h.1 (free_has value h.2))

-- ---- merging what is free

pub free_fixed : (whole s : Said) → IsFree s → merged_rows whole s ≡ Ok s
free_fixed whole (null line) h = refl
free_fixed whole (text line bytes) h = refl
free_fixed whole (unknown line) h = refl
free_fixed whole (sequence line) h = refl
free_fixed whole (mapping line) h = refl
free_fixed whole (with_item before value) h = rw (free_fixed whole before h.0, free_fixed value value h.1) refl
free_fixed whole (with_pair before line key value) h = rw (free_fixed whole before h.0, free_fixed value value h.2, h.1) refl

-- ---- what is merged is free

abbrev AreFree : List Pair → Type 0
AreFree [] = Unit {0}
AreFree (p ∷ ps) = (is_merge_key p.key ≡ false) × IsFree p.value × AreFree ps

append_free : (ps qs : List Pair) → AreFree ps → AreFree qs → AreFree (ps ++ qs)
append_free [] qs h k = k
append_free (p ∷ ps) qs h k = (h.0, h.1, append_free ps qs h.2 k)

pairs_free : (s : Said) → IsFree s → AreFree (pairs_of s)
pairs_free (with_pair before line key value) h = append_free (pairs_of before) _ (pairs_free before h.0) (h.1, h.2, tt)
pairs_free _ h = tt

sources_free : (s : Said) → IsFree s → AreFree (sources s)
sources_free (with_item before value) h = append_free (sources before) (pairs_of value) (sources_free before h.0) (pairs_free value h.1)
sources_free (with_pair before line key value) h = pairs_free (with_pair before line key value) h
sources_free _ h = tt

new_free : (taken : List (List ℕ)) (ps : List Pair) → AreFree ps → AreFree (new_pairs taken ps)
new_free taken [] h = tt
new_free taken (p ∷ ps) h = by (has p.key taken) (new_free taken ps h.2) (new_free (taken ++ p.key ∷ []) ps h.2)
  where
    by : (t : Bool) → AreFree (new_pairs taken ps) → AreFree (new_pairs (taken ++ p.key ∷ []) ps) → AreFree (if t then new_pairs taken ps else p ∷ new_pairs (taken ++ p.key ∷ []) ps)
    by true there more = there
    by false there more = (h.0, h.1, more)

with_pairs_free : (s : Said) (ps : List Pair) → IsFree s → AreFree ps → IsFree (with_pairs s ps)
with_pairs_free s [] h k = h
with_pairs_free s (p ∷ ps) h k = with_pairs_free (with_pair s p.line p.key p.value) ps (h, k.0, k.1) k.2

below_free : (place : List ℕ) (value : Said) (read : Result Said MergeFault) → IfOk read IsFree → IfOk (below place value read) IsFree
below_free place value (Ok s) h = h
below_free place value (Err f) h = tt

merged_by : (whole before : Said) (line : ℕ) (key : List ℕ) (value : Said) (read : Result Said MergeFault) (t m : Bool) → is_merge_key key ≡ t → IsFree before → IfOk read IsFree
    → IfOk (if t && not m then Err (record { line = line; path = key }) else (below key value read >>= λ v. Ok (if t then with_pairs before (new_pairs (keys_of whole) (sources v)) else with_pair before line key v))) IsFree
merged_by whole before line key value read true true e h k =
    then_has IsFree IsFree (below key value read) _ (below_free key value read k) (λ v free. with_pairs_free before (new_pairs (keys_of whole) (sources v)) h (new_free (keys_of whole) (sources v) (sources_free v free)))
merged_by whole before line key value read true false e h k = tt
merged_by whole before line key value read false m e h k = then_has IsFree IsFree (below key value read) _ (below_free key value read k) (λ v free. (h, e, free))

rows_free : (whole s : Said) → IfOk (merged_rows whole s) IsFree
rows_free whole (null line) = tt
rows_free whole (text line bytes) = tt
rows_free whole (unknown line) = tt
rows_free whole (sequence line) = tt
rows_free whole (mapping line) = tt
rows_free whole (with_item before value) =
    then_has IsFree IsFree (merged_rows whole before) _ (rows_free whole before)
    (λ b h. then_has IsFree IsFree (below (item_place (item_count before)) value (merged_rows value value)) _ (below_free (item_place (item_count before)) value (merged_rows value value) (rows_free value value)) (λ v k. (h, k)))
rows_free whole (with_pair before line key value) =
    then_has IsFree IsFree (merged_rows whole before) _ (rows_free whole before)
    (λ b h. merged_by whole b line key value (merged_rows value value) (is_merge_key key) (may_merge value) refl h (rows_free value value))

free : (a b : Said) → merged a ≡ Ok b → IsFree b
unfolding merged
free a b e = subst (λ (r : Result Said MergeFault). IfOk r IsFree) e (rows_free a a)

-- ---- laws

pub merged_has_no_merge_key : (a b : Said) → merged a ≡ Ok b → has_merge_key b ≡ false
merged_has_no_merge_key a b e = free_has b (free a b e)

pub merged_merged : (a b : Said) → merged a ≡ Ok b → merged b ≡ Ok b
unfolding merged
merged_merged a b e = free_fixed b b (free a b e)
