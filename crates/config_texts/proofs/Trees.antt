-- the texts and keys of a tree are UTF-8, as it is read and as it is merged
use Rattle.std.proofs.Common.{Bool, Err, IfOk, List, Ok, Result, [], false, if◌then◌else◌, not, true, ℕ, ◌&&◌, ◌++◌, ◌∷◌}
use Rattle.std.specs.List.{AllByRecursion}
use Rattle.std.specs.Str.{IsUtf8}
use Rattle.config_texts.proofs.Lists.{all_behind, all_pushed}
use Rattle.sim_base.specs.Refusals.{◌>>=◌}
use Rattle.yaml_merge.specs.Merge.{below, has, is_merge_key, item_count, item_place, keys_of, may_merge, merged, merged_rows, new_pairs, put_value, with_merged}
use Rattle.yaml_merge.specs.Plainness.{IsPlain}
use Rattle.yaml_merge.specs.Sources.{pairs_of, sources}
use Rattle.yaml_merge.specs.declared.fault.MergeFault.{MergeFault}
use Rattle.yaml_merge.specs.declared.plain.Pair.{Pair}
use Rattle.yaml_merge.specs.Rows.{with_pairs}
use Rattle.yaml_tree.specs.Said.{Said}
use Rattle.yaml_tree.specs.Said.Said.{null, text, unknown, sequence, mapping, with_item, with_pair}

abbrev pub SaidIsText : Said → Type 0
SaidIsText (null line) = Unit {0}
SaidIsText (text line bytes) = IsUtf8 bytes
SaidIsText (unknown line) = Unit {0}
SaidIsText (sequence line) = Unit {0}
SaidIsText (mapping line) = Unit {0}
SaidIsText (with_item before value) = SaidIsText before × SaidIsText value
SaidIsText (with_pair before line key value) = SaidIsText before × IsUtf8 key × SaidIsText value

-- ---- as it is read

pub plain_text : (tree : Said) → IsPlain tree → SaidIsText tree
plain_text (null line) p = tt
plain_text (text line bytes) p = p
plain_text (unknown line) p = tt
plain_text (sequence line) p = tt
plain_text (mapping line) p = tt
plain_text (with_item before value) p = (plain_text before p.1, plain_text value p.2)
plain_text (with_pair before line key value) p = (plain_text before p.3, p.1, plain_text value p.4)

-- ---- as it is merged

abbrev pub PairIsText : Pair → Type 0
PairIsText p = IsUtf8 p.key × SaidIsText p.value

pairs_text : (v : Said) → SaidIsText v → AllByRecursion PairIsText (pairs_of v)
pairs_text (null line) h = tt
pairs_text (text line bytes) h = tt
pairs_text (unknown line) h = tt
pairs_text (sequence line) h = tt
pairs_text (mapping line) h = tt
pairs_text (with_item before value) h = tt
pairs_text (with_pair before line key value) h =
    all_pushed PairIsText (pairs_of before) (record { line = line; key = key; value = value }) (pairs_text before h.0) (h.1, h.2)

sources_text : (v : Said) → SaidIsText v → AllByRecursion PairIsText (sources v)
sources_text (null line) h = tt
sources_text (text line bytes) h = tt
sources_text (unknown line) h = tt
sources_text (sequence line) h = tt
sources_text (mapping line) h = tt
sources_text (with_item before value) h =
    all_behind PairIsText (sources before) (pairs_of value) (sources_text before h.0) (pairs_text value h.1)
sources_text (with_pair before line key value) h = pairs_text (with_pair before line key value) h

either_text : (b : Bool) (xs ys : List Pair) → AllByRecursion PairIsText xs → AllByRecursion PairIsText ys → AllByRecursion PairIsText (if b then xs else ys)
either_text true xs ys h k = h
either_text false xs ys h k = k

new_text : (taken : List (List ℕ)) (ps : List Pair) → AllByRecursion PairIsText ps → AllByRecursion PairIsText (new_pairs taken ps)
new_text taken [] h = tt
new_text taken (p ∷ ps) h =
    let other = taken ++ p.key ∷ [] in
    either_text (has p.key taken) (new_pairs taken ps) (p ∷ new_pairs other ps) (new_text taken ps h.1) (h.0, new_text other ps h.1)

with_pairs_text : (before : Said) (ps : List Pair) → SaidIsText before → AllByRecursion PairIsText ps → SaidIsText (with_pairs before ps)
with_pairs_text before [] h k = h
with_pairs_text before (p ∷ ps) h k = with_pairs_text (with_pair before p.line p.key p.value) ps (h, k.0.0, k.0.1) k.1

put_text : (whole before : Said) (line : ℕ) (key : List ℕ) (v : Said) → SaidIsText before → IsUtf8 key → SaidIsText v → SaidIsText (put_value whole before line key v)
put_text whole before line key v h utf k = by (is_merge_key key)
  where
    by : (b : Bool) → SaidIsText (if b then with_pairs before (new_pairs (keys_of whole) (sources v)) else with_pair before line key v)
    by true = with_pairs_text before (new_pairs (keys_of whole) (sources v)) h (new_text (keys_of whole) (sources v) (sources_text v k))
    by false = (h, utf, k)

abbrev Merged : Result Said MergeFault → Type 0
Merged r = IfOk r SaidIsText

below_text : (place : List ℕ) (value : Said) (r : Result Said MergeFault) → Merged r → Merged (below place value r)
below_text place value (Ok v) h = h
below_text place value (Err f) h = tt

then_text : (r : Result Said MergeFault) (next : Said → Result Said MergeFault) → Merged r → ((v : Said) → SaidIsText v → Merged (next v)) → Merged (r >>= next)
then_text (Ok v) next h k = k v h
then_text (Err f) next h k = tt

merged_pair : (whole before : Said) (line : ℕ) (key : List ℕ) (value : Said) (r : Result Said MergeFault) → SaidIsText before → IsUtf8 key → Merged r → Merged (with_merged whole before line key value r)
merged_pair whole before line key value r h utf k = by (is_merge_key key && not (may_merge value))
  where
    by : (b : Bool) → Merged (if b then Err (record { line = line; path = key }) else (below key value r >>= λ v. Ok (put_value whole before line key v)))
    by true = tt
    by false = then_text (below key value r) _ (below_text key value r k) (λ v m. put_text whole before line key v h utf m)

rows_text : (whole tree : Said) → SaidIsText tree → Merged (merged_rows whole tree)
rows_text whole (null line) h = tt
rows_text whole (text line bytes) h = h
rows_text whole (unknown line) h = tt
rows_text whole (sequence line) h = tt
rows_text whole (mapping line) h = tt
rows_text whole (with_item before value) h =
    then_text (merged_rows whole before) _ (rows_text whole before h.0)
    (λ b k. then_text (below (item_place (item_count before)) value (merged_rows value value)) _
    (below_text (item_place (item_count before)) value (merged_rows value value) (rows_text value value h.1))
    (λ v m. (k, m)))
rows_text whole (with_pair before line key value) h =
    then_text (merged_rows whole before) _ (rows_text whole before h.0)
    (λ b k. merged_pair whole b line key value (merged_rows value value) k h.1 (rows_text value value h.2))

pub merged_text : (tree : Said) → SaidIsText tree → IfOk (merged tree) SaidIsText
unfolding merged
merged_text tree h = rows_text tree tree h
