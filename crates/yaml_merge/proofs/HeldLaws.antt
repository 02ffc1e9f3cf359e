-- What a node holds of a plain tree, merged, is what its value merges to.
use Rattle.std.proofs.Common.{◌≡◌, ℕ, ◌+◌, ◌-◌, ◌≤◌, Bool, true, false, ◌&&◌, ◌||◌, cond, Option, List, [], ◌∷◌, ◌++◌, Some, Result, Ok, Err, length, slice_get, is_some, IsSomeAnd, refl, sym, ap, subst, ◌∙◌, arith, ◌==◌}
use Rattle.std.specs.Cmp.Lexicographic.{pointwise}
use Rattle.std.specs.List.{list_all}
use Rattle.std.specs.Map.{lookup}
use Rattle.std.specs.Str.{IsUtf8, is_utf8}
use Rattle.std.proofs.lemmas.Bool.{false≢true}
use Rattle.std.proofs.lemmas.List.{length_push, map-append}
use Rattle.std.proofs.lemmas.List.Folds.{list_all-append}
use Rattle.std.proofs.lemmas.Str.{is_utf8-from_IsUtf8, IsUtf8-from_is_utf8}
use Rattle.indexmap.specs.IndexMap.{insert_entry}
use Rattle.sim_base.specs.Refusals.{◌>>=◌}
use Rattle.yaml_tree.specs.Said.{Said, has_key, levels}
use Rattle.yaml_tree.specs.Said.Said.{null, text, unknown, sequence, mapping, with_item, with_pair}
use Rattle.yaml_tree.specs.Holds.{is_mapping, HoldsSaid, HoldsRows, Rows, with_row, begins_on}
use Rattle.yaml_tree.specs.declared.entries.Child.{Child}
use Rattle.yaml_tree.specs.declared.node.Node.{Node}
use Rattle.yaml_tree.proofs.KnownLaws.{lookup_insert_entry}
use Rattle.yaml_merge.specs.inside.Held.{HoldsPlain, valid_text, keys_in, is_mapping_node, is_mapping_at, may_merge_value}
use Rattle.yaml_merge.specs.inside.Merging.{LeadsTo, ItemsMergeTo, EntriesMergeTo, ValueMergesTo}
use Rattle.yaml_merge.specs.Merge.{are_mappings, may_merge, keys_of, below, item_count, item_place, with_merged, merged_rows, merged}
use Rattle.yaml_merge.specs.Plainness.{are_items, are_pairs, IsPlain}
use Rattle.yaml_merge.specs.declared.fault.MergeFault.{MergeFault}

-- ---- texts

pub valid_text_utf8 : (bs : List ℕ) → IsUtf8 bs → valid_text bs ≡ bs
valid_text_utf8 bs u = rw (is_utf8-from_IsUtf8 bs u) refl

pub valid_text_broken : (bs : List ℕ) → (IsUtf8 bs → ⊥) → valid_text bs ≡ []
valid_text_broken bs none = by (is_utf8 bs) refl
  where
    by : (b : Bool) → is_utf8 bs ≡ b → cond b bs [] ≡ []
    by true e = absurd (none (IsUtf8-from_is_utf8 bs e))
    by false e = refl

-- ---- one row more

-- a first step that leads to what was read leads, with what comes next, to all that is read
lead_on : (first read : Result Said MergeFault) (rest more : Said → Type 0) (next : Said → Result Said MergeFault) → ((made : Said) → rest made → more made) → LeadsTo first rest read → LeadsTo first more (read >>= next)
lead_on (Ok made) read rest more next f l = f made l
lead_on (Err fault) read rest more next f l = ap (λ r. r >>= next) l

item_last : (first whole : Result Said MergeFault) (b : Said) → whole ≡ (first >>= λ v. Ok (with_item b v)) → LeadsTo first (λ v. whole ≡ Ok (with_item b v)) whole
item_last (Ok made) whole b e = e
item_last (Err fault) whole b e = e

entry_last : (first whole : Result Said MergeFault) → whole ≡ first → LeadsTo first (λ b. whole ≡ Ok b) whole
entry_last (Ok made) whole e = e
entry_last (Err fault) whole e = e

items_push : (most : ℕ) (nodes : List Node) (ns : List ℕ) (b : Said) (i k n : ℕ) (value : Said) (read : Result Said MergeFault) → k ≡ i + length ns → HoldsPlain most nodes n value
    → ItemsMergeTo most nodes b i ns read → ItemsMergeTo most nodes b i (ns ++ n ∷ []) (read >>= λ m. below (item_place k) value (merged value) >>= λ v. Ok (with_item m v))
items_push most nodes [] b i k n value read at hold h =
    let same : k ≡ i = omega (arith, at) in (
      value,
      hold,
      item_last (below (item_place i) value (merged value)) (read >>= λ m. below (item_place k) value (merged value) >>= λ v. Ok (with_item m v)) b
          (λ j. h j >>= λ m. below (item_place (same j)) value (merged value) >>= λ v. Ok (with_item m v)),
    )
items_push most nodes (x ∷ ns) b i k n value read at hold h =
    let next : Said → Result Said MergeFault = λ m. below (item_place k) value (merged value) >>= λ v. Ok (with_item m v) in (
      h.0,
      h.1,
      lead_on (below (item_place i) h.0 (merged h.0)) read
          (λ v. ItemsMergeTo most nodes (with_item b v) (i + 1) ns read) (λ v. ItemsMergeTo most nodes (with_item b v) (i + 1) (ns ++ n ∷ []) (read >>= next)) next
          (λ v l. items_push most nodes ns (with_item b v) (i + 1) k n value read (omega (arith, at)) hold l) h.2,
    )

entries_push : (most : ℕ) (nodes : List Node) (all : Said) (es : List (List ℕ × Child)) (b : Said) (e : List ℕ × Child) (value : Said) (read : Result Said MergeFault) → HoldsPlain most nodes e.1.node value
    → EntriesMergeTo most nodes all b es read → EntriesMergeTo most nodes all b (es ++ e ∷ []) (read >>= λ m. with_merged all m e.1.line (valid_text e.0) value (merged value))
entries_push most nodes all [] b e value read hold h =
    let next : Said → Result Said MergeFault = λ m. with_merged all m e.1.line (valid_text e.0) value (merged value) in
    (value, hold, entry_last (next b) (read >>= next) (ap (λ r. r >>= next) h))
entries_push most nodes all (x ∷ es) b e value read hold h =
    let next : Said → Result Said MergeFault = λ m. with_merged all m e.1.line (valid_text e.0) value (merged value) in (
      h.0,
      h.1,
      lead_on (with_merged all b x.1.line (valid_text x.0) h.0 (merged h.0)) read
          (λ c. EntriesMergeTo most nodes all c es read) (λ c. EntriesMergeTo most nodes all c (es ++ e ∷ []) (read >>= next)) next
          (λ c l. entries_push most nodes all es c e value read hold l) h.2,
    )

-- ---- entries

insert_new : (key : List ℕ) (x : Child) (es : List (List ℕ × Child)) → is_some (lookup (pointwise ◌==◌ key) es) ≡ false → insert_entry (pointwise ◌==◌) es key x ≡ es ++ (key, x) ∷ []
insert_new key x [] h = refl
insert_new key x (e ∷ es) h = by (pointwise ◌==◌ key e.0) (insert_new key x es) h
  where
    by : (t : Bool) → (is_some (lookup (pointwise ◌==◌ key) es) ≡ false → insert_entry (pointwise ◌==◌) es key x ≡ es ++ (key, x) ∷ [])
        → is_some (cond t (Some e.1) (lookup (pointwise ◌==◌ key) es)) ≡ false → cond t ((e.0, x) ∷ es) (e ∷ insert_entry (pointwise ◌==◌) es key x) ≡ e ∷ (es ++ (key, x) ∷ [])
    by true more q = absurd (false≢true (sym q))
    by false more q = ap (λ rest. e ∷ rest) (more q)

-- the entries have the keys that are said
has_entries : (nodes : List Node) (s : Said) (rows : Rows) (k : List ℕ) → HoldsRows nodes s rows → are_pairs s ≡ true → is_some (lookup (pointwise ◌==◌ k) rows.entries) ≡ has_key k s
has_entries nodes (mapping line) rows k h p = ap (λ r. is_some (lookup (pointwise ◌==◌ k) r.entries)) h
has_entries nodes (with_pair before line key value) rows k h p =
    ap (λ r. is_some (lookup (pointwise ◌==◌ k) r.entries)) h.4
    ∙ (ap is_some (lookup_insert_entry k key (record { line = line; node = h.1 }) h.0.entries)
    ∙ by (pointwise ◌==◌ k key) (has_entries nodes before h.0 k h.2 p))
  where
    by : (t : Bool) → is_some (lookup (pointwise ◌==◌ k) h.0.entries) ≡ has_key k before → is_some (cond t (Some (record { line = line; node = h.1 })) (lookup (pointwise ◌==◌ k) h.0.entries)) ≡ (has_key k before || t)
    by true e = sym (or_true (has_key k before))
      where
        or_true : (b : Bool) → (b || true) ≡ true
        or_true true = refl
        or_true false = refl
    by false e = e ∙ or_false (has_key k before)
      where
        or_false : (b : Bool) → b ≡ (b || false)
        or_false true = refl
        or_false false = refl
has_entries nodes _ rows k h p = absurd (false≢true p)

-- ---- kinds

pub is_mapping_held : (nodes : List Node) (s : Said) (n : ℕ) → HoldsSaid nodes s n → is_mapping_at nodes n ≡ is_mapping s
is_mapping_held nodes (with_item before value) n h = ap is_mapping_node h.4
is_mapping_held nodes (with_pair before line key value) n h = ap is_mapping_node h.4
is_mapping_held nodes _ n h = ap is_mapping_node h

are_mappings_held : (nodes : List Node) (s : Said) (rows : Rows) → HoldsRows nodes s rows → are_items s ≡ true → list_all (is_mapping_at nodes) rows.items ≡ are_mappings s
are_mappings_held nodes (sequence line) rows h a = ap (λ r. list_all (is_mapping_at nodes) r.items) h
are_mappings_held nodes (with_item before value) rows h a =
    ap (λ r. list_all (is_mapping_at nodes) r.items) h.4
    ∙ (list_all-append (is_mapping_at nodes) h.0.items (h.1 ∷ [])
    ∙ (λ j. are_mappings_held nodes before h.0 h.2 a j && (and_true (is_mapping_at nodes h.1) ∙ is_mapping_held nodes value h.1 h.3) j))
  where
    and_true : (b : Bool) → (b && true) ≡ b
    and_true true = refl
    and_true false = refl
are_mappings_held nodes _ rows h a = absurd (false≢true a)

-- ---- what is held, merged

items_held : (most : ℕ) (nodes : List Node) (whole s : Said) (rows : Rows) → HoldsRows nodes s rows → are_items s ≡ true → IsPlain s → levels s ≤ most
    → ItemsMergeTo most nodes (sequence (begins_on s)) 0 rows.items (merged_rows whole s) × (item_count s ≡ length rows.items)
unfolding merged
items_held most nodes whole (sequence line) rows h a p l =
    (subst (λ (r : Rows). ItemsMergeTo most nodes (sequence line) 0 r.items (Ok (sequence line))) (sym h) refl, ap (λ (r : Rows). length r.items) (sym h))
items_held most nodes whole (with_item before value) rows h a p l =
    let front = items_held most nodes whole before h.0 h.2 p.0 p.1 (omega (arith, l)) in
    let grown : rows.items ≡ h.0.items ++ h.1 ∷ [] = ap (λ (r : Rows). r.items) h.4 in
    let hold : HoldsPlain most nodes h.1 value = record { held = h.3; plain = p.2; shallow = omega (arith, l) } in (
      subst (λ (ns : List ℕ). ItemsMergeTo most nodes (sequence (begins_on before)) 0 ns (merged_rows whole (with_item before value))) (sym grown)
          (items_push most nodes h.0.items (sequence (begins_on before)) 0 (item_count before) h.1 value (merged_rows whole before) (omega (arith, front.1)) hold front.0),
      omega (arith, front.1, ap length grown, length_push h.0.items h.1),
    )
items_held most nodes whole _ rows h a p l = absurd (false≢true a)

pairs_held : (most : ℕ) (nodes : List Node) (whole s : Said) (rows : Rows) → HoldsRows nodes s rows → are_pairs s ≡ true → IsPlain s → levels s ≤ most
    → EntriesMergeTo most nodes whole (mapping (begins_on s)) rows.entries (merged_rows whole s) × (keys_of s ≡ keys_in rows.entries)
unfolding merged
pairs_held most nodes whole (mapping line) rows h a p l =
    (subst (λ (r : Rows). EntriesMergeTo most nodes whole (mapping line) r.entries (Ok (mapping line))) (sym h) refl, ap (λ (r : Rows). keys_in r.entries) (sym h))
pairs_held most nodes whole (with_pair before line key value) rows h a p l =
    let front = pairs_held most nodes whole before h.0 h.2 p.0 p.3 (omega (arith, l)) in
    let child : Child = record { line = line; node = h.1 } in
    let valid : valid_text key ≡ key = valid_text_utf8 key p.1 in
    let grown : rows.entries ≡ h.0.entries ++ (key, child) ∷ [] = ap (λ (r : Rows). r.entries) h.4 ∙ insert_new key child h.0.entries (has_entries nodes before h.0 key h.2 p.0 ∙ p.2) in
    let hold : HoldsPlain most nodes h.1 value = record { held = h.3; plain = p.4; shallow = omega (arith, l) } in (
      subst (λ (es : List (List ℕ × Child)). EntriesMergeTo most nodes whole (mapping (begins_on before)) es (merged_rows whole (with_pair before line key value))) (sym grown)
          (subst (λ (k : List ℕ). EntriesMergeTo most nodes whole (mapping (begins_on before)) (h.0.entries ++ (key, child) ∷ []) (merged_rows whole before >>= λ b. with_merged whole b line k value (merged value))) valid
          (entries_push most nodes whole h.0.entries (mapping (begins_on before)) (key, child) value (merged_rows whole before) hold front.0)),
      ap (λ ks. ks ++ key ∷ []) front.1 ∙ (sym (map-append (λ (e : List ℕ × Child). e.0) h.0.entries ((key, child) ∷ [])) ∙ ap keys_in (sym grown)),
    )
pairs_held most nodes whole _ rows h a p l = absurd (false≢true a)

-- what is seen of the node that holds a tree
abbrev Seen : ℕ → List Node → Said → Option Node → Type 0
Seen most nodes s node = IsSomeAnd node (λ x. ValueMergesTo most nodes x.line x.value (merged s) × (may_merge_value nodes x.value ≡ may_merge s))

seen : (most : ℕ) (nodes : List Node) (s : Said) (n : ℕ) → HoldsSaid nodes s n → IsPlain s → levels s ≤ most → Seen most nodes s (slice_get nodes n)
unfolding merged
seen most nodes (null line) n h p l = subst (Seen most nodes (null line)) (sym h) (refl, refl)
seen most nodes (text line bytes) n h p l = subst (Seen most nodes (text line bytes)) (sym h) (ap (λ b. Ok (text line b)) (sym (valid_text_utf8 bytes p)), refl)
seen most nodes (unknown line) n h p l = absurd p
seen most nodes (sequence line) n h p l = subst (Seen most nodes (sequence line)) (sym h) (refl, refl)
seen most nodes (mapping line) n h p l = subst (Seen most nodes (mapping line)) (sym h) ((mapping line, refl, refl), refl)
seen most nodes (with_item before value) n h p l =
    let rows : Rows = with_row false 0 [] h.1 h.0 in
    let here : HoldsRows nodes (with_item before value) rows = (h.0, h.1, h.2, h.3, refl) in
    subst (Seen most nodes (with_item before value)) (sym h.4)
    ((items_held most nodes (with_item before value) (with_item before value) rows here p.0 p l).0, are_mappings_held nodes (with_item before value) rows here p.0)
seen most nodes (with_pair before line key value) n h p l =
    let all = with_pair before line key value in
    let held = pairs_held most nodes all all (with_row true line key h.1 h.0) (h.0, h.1, h.2, h.3, refl) p.0 p l in
    subst (Seen most nodes all) (sym h.4) ((all, held.1, held.0), refl)

-- what is found at a number that holds a tree
pub found : (most : ℕ) (nodes : List Node) (n : ℕ) (at : Option Node) (s : Said) → at ≡ slice_get nodes n → HoldsPlain most nodes n s
    → IsSomeAnd at (λ x. ValueMergesTo (most - 1) nodes x.line x.value (merged s) × (may_merge_value nodes x.value ≡ may_merge s))
found most nodes n at s e h = subst (Seen (most - 1) nodes s) (sym e) (seen (most - 1) nodes s n h.held h.plain (omega (arith, h.shallow)))
