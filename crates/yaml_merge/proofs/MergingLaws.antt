-- What is put and what is left, row by row.
use Rattle.std.proofs.Common.{◌≡◌, ℕ, ◌+◌, ◌≤◌, Bool, true, false, not, ◌&&◌, ◌||◌, cond, List, [], ◌∷◌, ◌++◌, Some, is_some, Result, Ok, Err, drop, length, ◌<◌, get_or, refl, sym, ap, subst, ◌∙◌, append_assoc, ◌==◌}
use Rattle.std.specs.Cmp.Lexicographic.{pointwise}
use Rattle.std.specs.Map.{lookup}
use Rattle.std.specs.Result.{IfOk}
use Rattle.std.proofs.lemmas.Bool.{false≢true}
use Rattle.std.proofs.lemmas.List.{drop_more, drop_all}
use Rattle.sim_base.specs.Refusals.{◌>>=◌}
use Rattle.yaml_tree.specs.Said.{Said}
use Rattle.yaml_tree.specs.Said.Said.{sequence, with_item, with_pair}
use Rattle.yaml_tree.specs.Holds.{HoldsSaid}
use Rattle.yaml_tree.specs.Entries.{has_key}
use Rattle.yaml_tree.specs.declared.entries.Child.{Child}
use Rattle.yaml_tree.specs.declared.node.Node.{Node}
use Rattle.yaml_merge.specs.inside.Held.{HoldsPlain, valid_text, keys_in, is_mapping_at}
use Rattle.yaml_merge.specs.Rows.{with_items, with_pairs}
use Rattle.yaml_merge.specs.Sources.{sources}
use Rattle.yaml_merge.specs.Merge.{may_merge, has, keys_of, new_pairs, is_merge_key, put_value, fault_below, below, item_place, with_merged, merged}
use Rattle.yaml_merge.specs.inside.Merging.{IsFault, IsBelow, Fails, LeadsTo, ItemsMergeTo, EntriesMergeTo, pairs_put, with_key}
use Rattle.yaml_merge.specs.declared.plain.Pair.{Pair}
use Rattle.yaml_merge.specs.declared.fault.MergeFault.{MergeFault}
use Rattle.yaml_merge.specs.declared.fault.MergeError.{MergeError}
use Rattle.yaml_merge.specs.declared.fault.MergeError.TheVariants as errors
use Rattle.yaml_merge.proofs.HeldLaws.{is_mapping_held}

-- ---- keys

-- a key is among those of a mapping and those that were taken
pub has_either : (key : List ℕ) (es : List (List ℕ × Child)) (taken : List (List ℕ)) → has key (keys_in es ++ taken) ≡ (has_key key es || has key taken)
has_either key [] taken = refl
has_either key (e ∷ es) taken = by (pointwise ◌==◌ key e.0) (has_either key es taken)
  where
    by : (t : Bool) → has key (keys_in es ++ taken) ≡ (has_key key es || has key taken) → (t || has key (keys_in es ++ taken)) ≡ (is_some (cond t (Some e.1) (lookup (pointwise ◌==◌ key) es)) || has key taken)
    by true h = refl
    by false h = h

-- a key that the mapping doesn't have is taken behind its keys
pub with_key_behind : (key : List ℕ) (own taken : List (List ℕ)) → has key (own ++ taken) ≡ has key taken → own ++ with_key taken key ≡ with_key (own ++ taken) key
with_key_behind key own taken e = by (has key taken) ∙ sym (ap (λ t. cond t (own ++ taken) ((own ++ taken) ++ key ∷ [])) e)
  where
    by : (t : Bool) → own ++ cond t taken (taken ++ key ∷ []) ≡ cond t (own ++ taken) ((own ++ taken) ++ key ∷ [])
    by true = refl
    by false = sym (append_assoc own taken (key ∷ []))

-- a new pair behind the pairs so far
pub spread_more : (taken keys : List (List ℕ)) (key : List ℕ) (p : Pair) (ps all new left whole : List Pair) → new ≡ all ++ p ∷ [] → left ≡ p ∷ ps → key ≡ p.key → true ≡ not (has key taken) → keys ≡ with_key taken key
    → all ++ new_pairs taken left ≡ whole → new ++ new_pairs keys ps ≡ whole
spread_more taken keys key p ps all new left whole pushed at is fresh grown h =
    (λ j. pushed j ++ new_pairs (grown j) ps)
    ∙ (by (has key taken) fresh
    ∙ (ap (λ k. all ++ cond (has k taken) (new_pairs taken ps) (p ∷ new_pairs (taken ++ k ∷ []) ps)) is ∙ (ap (λ qs. all ++ new_pairs taken qs) (sym at) ∙ h)))
  where
    by : (t : Bool) → true ≡ not t → (all ++ p ∷ []) ++ new_pairs (cond t taken (taken ++ key ∷ [])) ps ≡ all ++ cond t (new_pairs taken ps) (p ∷ new_pairs (taken ++ key ∷ []) ps)
    by true e = absurd (false≢true (sym e))
    by false e = append_assoc all (p ∷ []) (new_pairs (taken ++ key ∷ []) ps)

-- ---- rows

with_pairs_append : (ps qs : List Pair) (before : Said) → with_pairs before (ps ++ qs) ≡ with_pairs (with_pairs before ps) qs
with_pairs_append [] qs before = refl
with_pairs_append (p ∷ ps) qs before = with_pairs_append ps qs (with_pair before p.line p.key p.value)

with_items_push : (xs : List Said) (x : Said) (before : Said) → with_items before (xs ++ x ∷ []) ≡ with_item (with_items before xs) x
with_items_push [] x before = refl
with_items_push (y ∷ xs) x before = with_items_push xs x (with_item before y)

-- ---- what is put

pub put_is : (keys : List (List ℕ)) (line : ℕ) (key : List ℕ) (v : Said) (merges : Bool) → is_merge_key key ≡ merges → cond merges (new_pairs keys (sources v)) ((record { line = line; key = key; value = v }) ∷ []) ≡ pairs_put keys line key v
put_is keys line key v merges e = sym (ap (λ t. cond t (new_pairs keys (sources v)) ((record { line = line; key = key; value = v }) ∷ [])) e)

-- what is put stands behind the rows before
put_behind : (all before : Said) (ps : List Pair) (line : ℕ) (key : List ℕ) (v : Said) → with_pairs before (ps ++ pairs_put (keys_of all) line key v) ≡ put_value all (with_pairs before ps) line key v
put_behind all before ps line key v = with_pairs_append ps (pairs_put (keys_of all) line key v) before ∙ by (is_merge_key key)
  where
    by : (t : Bool) → with_pairs (with_pairs before ps) (cond t (new_pairs (keys_of all) (sources v)) ((record { line = line; key = key; value = v }) ∷ []))
        ≡ cond t (with_pairs (with_pairs before ps) (new_pairs (keys_of all) (sources v))) (with_pair (with_pairs before ps) line key v)
    by true = refl
    by false = refl

-- ---- answers

-- an error that is this fault is that of a definition that gives it
fault_fails : {A : Type 0} (e : MergeError) (f : MergeFault) (d : Result A MergeFault) → IsFault e f → d ≡ Err f → Fails e d
fault_fails (errors.Fault g) f d h r = r ∙ ap Err (sym h)
fault_fails errors.NoMemory f d h r = tt

-- an error below a node that holds this
pub below_fails : (nodes : List Node) (n : ℕ) (e b : MergeError) (place : List ℕ) (keyed : Bool) (value : Said) → keyed ≡ is_mapping_at nodes n → HoldsSaid nodes value n
    → IsBelow (fault_below place keyed) e b → Fails e (merged value) → Fails b (below place value (merged value))
below_fails nodes n (errors.Fault g) b place keyed value k held h r =
    fault_fails b (fault_below place keyed g) (below place value (merged value)) h (ap (below place value) r ∙ ap (λ t. Err (fault_below place t g)) (sym (k ∙ is_mapping_held nodes value n held)))
below_fails nodes n errors.NoMemory b place keyed value k held h r = rw h tt

-- an error of the first step is that of all steps
first_fails : {A B : Type 0} (e : MergeError) (d : Result A MergeFault) (next : A → Result B MergeFault) → Fails e d → Fails e (d >>= next)
first_fails (errors.Fault g) d next h = ap (λ x. x >>= next) h
first_fails errors.NoMemory d next h = tt

pub if_ok_more : {A E : Type 0} (r : Result A E) (P Q : A → Type 0) → IfOk r P → ((x : A) → P x → Q x) → IfOk r Q
if_ok_more (Ok x) P Q h f = f x h
if_ok_more (Err e) P Q h f = h

-- ---- an entry

entry_is : (all before : Said) (line : ℕ) (key : List ℕ) (value : Said) (read : Result Said MergeFault) (wrong : Bool) → (is_merge_key key && not (may_merge value)) ≡ wrong
    → with_merged all before line key value read ≡ cond wrong (Err (record { line = line; path = key })) (below key value read >>= λ v. Ok (put_value all before line key v))
entry_is all before line key value read wrong e =
    let fault : MergeFault = record { line = line; path = key } in
    ap (λ t. cond t (Err fault) (below key value read >>= λ v. Ok (put_value all before line key v))) e

pub entry_wrong : (all before : Said) (line : ℕ) (key : List ℕ) (value : Said) (read : Result Said MergeFault) (e : MergeError) → (is_merge_key key && not (may_merge value)) ≡ true
    → IsFault e (record { line = line; path = key }) → Fails e (with_merged all before line key value read)
entry_wrong all before line key value read e wrong h = fault_fails e (record { line = line; path = key }) (with_merged all before line key value read) h (entry_is all before line key value read true wrong)

pub entry_stops : (all before : Said) (line : ℕ) (key : List ℕ) (value : Said) (read : Result Said MergeFault) (e : MergeError) → (is_merge_key key && not (may_merge value)) ≡ false
    → Fails e (below key value read) → Fails e (with_merged all before line key value read)
entry_stops all before line key value read e right h =
    subst (λ (r : Result Said MergeFault). Fails e r) (sym (entry_is all before line key value read false right)) (first_fails e (below key value read) (λ v. Ok (put_value all before line key v)) h)

pub entry_put : (all before : Said) (line : ℕ) (key : List ℕ) (value : Said) (read : Result Said MergeFault) (keys : List (List ℕ)) (ps new : List Pair) (v : Said)
    → (is_merge_key key && not (may_merge value)) ≡ false → keys_of all ≡ keys → below key value read ≡ Ok v → new ≡ ps ++ pairs_put keys line key v
    → with_merged all (with_pairs before ps) line key value read ≡ Ok (with_pairs before new)
entry_put all before line key value read keys ps new v right same is put =
    entry_is all (with_pairs before ps) line key value read false right
    ∙ (ap (λ r. r >>= λ x. Ok (put_value all (with_pairs before ps) line key x)) is
    ∙ ap Ok (sym (ap (with_pairs before) (put ∙ ap (λ ks. ps ++ pairs_put ks line key v) (sym same)) ∙ put_behind all before ps line key v)))

-- ---- what is left

-- a first step that fails fails the whole
follow_fails : (e : MergeError) (first whole : Result Said MergeFault) (rest : Said → Type 0) → Fails e first → LeadsTo first rest whole → Fails e whole
follow_fails (errors.Fault f) first whole rest h l = subst (λ (r : Result Said MergeFault). LeadsTo r rest whole) h l
follow_fails errors.NoMemory first whole rest h l = tt

-- what is left from an item on
from_item : (most : ℕ) (nodes : List Node) (before : Said) (ns : List ℕ) (i k m : ℕ) (whole : Result Said MergeFault) → i < length ns → m ≡ k
    → ItemsMergeTo most nodes before k (drop i ns) whole → ItemsMergeTo most nodes before m (get_or ns i 0 ∷ drop (i + 1) ns) whole
from_item most nodes before ns i k m whole lt same h =
    subst (λ (c : ℕ). ItemsMergeTo most nodes before c (get_or ns i 0 ∷ drop (i + 1) ns) whole) (sym same) (subst (λ (xs : List ℕ). ItemsMergeTo most nodes before k xs whole) (drop_more ns i 0 lt) h)

pub items_end : (most : ℕ) (nodes : List Node) (before : Said) (ns : List ℕ) (i k : ℕ) (whole : Result Said MergeFault) → length ns ≤ i → ItemsMergeTo most nodes before k (drop i ns) whole → whole ≡ Ok before
items_end most nodes before ns i k whole le h = subst (λ (xs : List ℕ). ItemsMergeTo most nodes before k xs whole) (drop_all i ns le) h

-- an item more, at a place of the numbers
pub items_go_on : (most : ℕ) (nodes : List Node) (line : ℕ) (ns : List ℕ) (i k count : ℕ) (items new : List Said) (x : Said) (whole : Result Said MergeFault)
    → i < length ns → new ≡ items ++ x ∷ [] → count ≡ k + 1 → ((v : Said) → HoldsPlain most nodes (get_or ns i 0) v → merged v ≡ Ok x)
    → ItemsMergeTo most nodes (with_items (sequence line) items) k (drop i ns) whole → ItemsMergeTo most nodes (with_items (sequence line) new) count (drop (i + 1) ns) whole
items_go_on most nodes line ns i k count items new x whole lt pushed counted one h =
    let before = with_items (sequence line) items in
    let s = from_item most nodes before ns i k k whole lt refl h in
    let grown : with_item before x ≡ with_items (sequence line) new = sym (ap (with_items (sequence line)) pushed ∙ with_items_push items x (sequence line)) in
    subst (λ (c : ℕ). ItemsMergeTo most nodes (with_items (sequence line) new) c (drop (i + 1) ns) whole) (sym counted)
    (subst (λ (b : Said). ItemsMergeTo most nodes b (k + 1) (drop (i + 1) ns) whole) grown
    (subst (λ (r : Result Said MergeFault). LeadsTo (below (item_place k) s.0 r) (λ v. ItemsMergeTo most nodes (with_item before v) (k + 1) (drop (i + 1) ns) whole) whole) (one s.0 s.1) s.2))

-- an item that can't be merged
pub items_stop : (most : ℕ) (nodes : List Node) (before : Said) (ns : List ℕ) (i k m : ℕ) (keyed : Bool) (e b : MergeError) (whole : Result Said MergeFault)
    → i < length ns → m ≡ k → keyed ≡ is_mapping_at nodes (get_or ns i 0) → IsBelow (fault_below (item_place m) keyed) e b
    → ((v : Said) → HoldsPlain most nodes (get_or ns i 0) v → Fails e (merged v)) → ItemsMergeTo most nodes before k (drop i ns) whole → Fails b whole
items_stop most nodes before ns i k m keyed e b whole lt same kind is one h =
    let s = from_item most nodes before ns i k m whole lt same h in
    follow_fails b (below (item_place m) s.0 (merged s.0)) whole (λ v. ItemsMergeTo most nodes (with_item before v) (m + 1) (drop (i + 1) ns) whole)
    (below_fails nodes (get_or ns i 0) e b (item_place m) keyed s.0 kind s.1.held is (one s.0 s.1)) s.2

-- an entry more
pub entries_go_on : (most : ℕ) (nodes : List Node) (all before new : Said) (left es : List (List ℕ × Child)) (e : List ℕ × Child) (key : List ℕ) (whole : Result Said MergeFault)
    → left ≡ e ∷ es → key ≡ valid_text e.0 → ((v : Said) → HoldsPlain most nodes e.1.node v → with_merged all before e.1.line key v (merged v) ≡ Ok new)
    → EntriesMergeTo most nodes all before left whole → EntriesMergeTo most nodes all new es whole
entries_go_on most nodes all before new left es e key whole at is one h =
    let s = subst (λ (xs : List (List ℕ × Child)). EntriesMergeTo most nodes all before xs whole) at h in
    subst (λ (r : Result Said MergeFault). LeadsTo r (λ b. EntriesMergeTo most nodes all b es whole) whole)
    (ap (λ (k : List ℕ). with_merged all before e.1.line k s.0 (merged s.0)) (sym is) ∙ one s.0 s.1) s.2

-- an entry that can't be merged
pub entries_stop : (most : ℕ) (nodes : List Node) (all before : Said) (left es : List (List ℕ × Child)) (e : List ℕ × Child) (key : List ℕ) (error : MergeError) (whole : Result Said MergeFault)
    → left ≡ e ∷ es → key ≡ valid_text e.0 → ((v : Said) → HoldsPlain most nodes e.1.node v → Fails error (with_merged all before e.1.line key v (merged v)))
    → EntriesMergeTo most nodes all before left whole → Fails error whole
entries_stop most nodes all before left es e key error whole at is one h =
    let s = subst (λ (xs : List (List ℕ × Child)). EntriesMergeTo most nodes all before xs whole) at h in
    follow_fails error (with_merged all before e.1.line (valid_text e.0) s.0 (merged s.0)) whole (λ b. EntriesMergeTo most nodes all b es whole)
    (subst (λ (k : List ℕ). Fails error (with_merged all before e.1.line k s.0 (merged s.0))) is (one s.0 s.1)) s.2
