-- Merging keeps that a key stands once.
use Rattle.std.proofs.Common.{◌≡◌, ◌∙◌, ℕ, ◌≤◌, Bool, true, false, not, ◌&&◌, List, [], ◌∷◌, ◌++◌, Result, Ok, Err, IfOk, refl, sym, ap, subst, append_assoc, append-nil, arith, codes, ◌==◌}
use Rattle.std.specs.Prelude.{if◌then◌else◌}
use Rattle.std.specs.Cmp.Lexicographic.{pointwise, same_text}
use Rattle.std.proofs.lemmas.Bool.{false≢true}
use Rattle.sim_base.specs.Refusals.{◌>>=◌}
use Rattle.sim_base.proofs.RefusalLemmas.{then_has, weaker}
use Rattle.yaml_tree.specs.Said.{Said}
use Rattle.yaml_tree.specs.Said.Said.{null, text, unknown, sequence, mapping, with_item, with_pair}
use Rattle.yaml_merge.specs.Rows.{with_pairs}
use Rattle.yaml_merge.specs.Sources.{pairs_of, sources}
use Rattle.yaml_merge.specs.Merge.{is_merge_key, may_merge, has, keys_of, new_pairs, below, item_count, item_place, merged_rows, merged}
use Rattle.yaml_merge.specs.declared.plain.Pair.{Pair}
use Rattle.yaml_merge.specs.declared.fault.MergeFault.{MergeFault}
use Rattle.run_plan.proofs.NameCounts.{one_if, is_one, is_one_same, copies, copies_append, copies_absent, has_append, has_last}
use Rattle.run_plan.proofs.TreeKeys.{IsOnce, IsOfOneKind, AreOnce, keys, keys_with_pairs, once_with_pairs}

abbrev merge_key : List ℕ
merge_key = codes "<<"

module _ (name : List ℕ) where
  -- ---- the pairs that are merged

  append_once : (ps qs : List Pair) → AreOnce name ps → AreOnce name qs → AreOnce name (ps ++ qs)
  append_once [] qs h k = k
  append_once (p ∷ ps) qs h k = (h.0, append_once ps qs h.1 k)

  pairs_once : (s : Said) → IsOnce name s → AreOnce name (pairs_of s)
  pairs_once (with_pair before line key value) h = append_once (pairs_of before) _ (pairs_once before h.1) (h.2, tt)
  pairs_once _ h = tt

  sources_once : (s : Said) → IsOnce name s → AreOnce name (sources s)
  sources_once (with_item before value) h = append_once (sources before) (pairs_of value) (sources_once before h.0) (pairs_once value h.1)
  sources_once (with_pair before line key value) h = pairs_once (with_pair before line key value) h
  sources_once _ h = tt

  new_once : (taken : List (List ℕ)) (ps : List Pair) → AreOnce name ps → AreOnce name (new_pairs taken ps)
  new_once taken [] h = tt
  new_once taken (p ∷ ps) h = by (has p.key taken) (new_once taken ps h.1) (new_once (taken ++ p.key ∷ []) ps h.1)
    where
      by : (t : Bool) → AreOnce name (new_pairs taken ps) → AreOnce name (new_pairs (taken ++ p.key ∷ []) ps) → AreOnce name (if t then new_pairs taken ps else p ∷ new_pairs (taken ++ p.key ∷ []) ps)
      by true there more = there
      by false there more = (h.0, more)

  -- a taken key isn't new
  none_new : (taken : List (List ℕ)) (ps : List Pair) → has name taken ≡ true → copies name (keys (new_pairs taken ps)) ≡ 0
  none_new taken [] h = refl
  none_new taken (p ∷ ps) h = by (has p.key taken) refl (pointwise ◌==◌ name p.key) refl (none_new taken ps h) (none_new (taken ++ p.key ∷ []) ps (has_append name taken p.key h))
    where
      by : (t : Bool) → has p.key taken ≡ t → (u : Bool) → pointwise ◌==◌ name p.key ≡ u → copies name (keys (new_pairs taken ps)) ≡ 0 → copies name (keys (new_pairs (taken ++ p.key ∷ []) ps)) ≡ 0
          → copies name (keys (if t then new_pairs taken ps else p ∷ new_pairs (taken ++ p.key ∷ []) ps)) ≡ 0
      by true e u q there more = there
      by false e true q there more = absurd (false≢true (sym e ∙ (ap (λ (k : List ℕ). has k taken) (sym (same_text name p.key (sym q))) ∙ h)))
      by false e false q there more = let none : is_one name p.key ≡ 0 = ap one_if q in omega (arith, none, more)

  -- a new key comes once
  one_new : (taken : List (List ℕ)) (ps : List Pair) → copies name (keys (new_pairs taken ps)) ≤ 1
  one_new taken [] = omega arith
  one_new taken (p ∷ ps) = by (has p.key taken) (pointwise ◌==◌ name p.key) refl (one_new taken ps) (one_new (taken ++ p.key ∷ []) ps)
    where
      by : (t u : Bool) → pointwise ◌==◌ name p.key ≡ u → copies name (keys (new_pairs taken ps)) ≤ 1 → copies name (keys (new_pairs (taken ++ p.key ∷ []) ps)) ≤ 1
          → copies name (keys (if t then new_pairs taken ps else p ∷ new_pairs (taken ++ p.key ∷ []) ps)) ≤ 1
      by true u q there more = there
      by false true q there more =
          let same = same_text name p.key (sym q) in
          omega (arith, is_one_same name p.key same, none_new (taken ++ p.key ∷ []) ps (has_last name taken p.key same))
      by false false q there more = let none : is_one name p.key ≡ 0 = ap one_if q in omega (arith, none, more)

  -- ---- merged rows

  -- how often the name can stand behind rows: where the whole mapping has it itself, as often as in the rows, else as often as
  -- these have the merge key
  abbrev most : Bool → Said → ℕ
  most own s = if own then copies name (keys_of s) else copies merge_key (keys_of s)

  record Keeps (own : Bool) (rows merged : Said) : Type 0 where
    once : IsOnce name merged
    count : copies name (keys_of merged) ≤ most own rows

  below_keeps : (P : Said → Type 0) (place : List ℕ) (value : Said) (read : Result Said MergeFault) → IfOk read P → IfOk (below place value read) P
  below_keeps P place value (Ok s) h = h
  below_keeps P place value (Err f) h = tt

  most_few : (own : Bool) (before : Said) (line : ℕ) (key : List ℕ) (value : Said) → copies name (keys_of before ++ key ∷ []) ≤ 1 → copies merge_key (keys_of before ++ key ∷ []) ≤ 1
      → most own (with_pair before line key value) ≤ 1
  most_few true before line key value h k = h
  most_few false before line key value h k = k

  -- merged pairs come in place of a merge key
  count_merged : (own : Bool) (whole before b : Said) (line : ℕ) (key : List ℕ) (value v : Said) → has name (keys_of whole) ≡ own → is_merge_key key ≡ true → copies name (keys_of b) ≤ most own before
      → copies name (keys_of b ++ keys (new_pairs (keys_of whole) (sources v))) ≤ most own (with_pair before line key value)
  count_merged true whole before b line key value v own is few =
      omega (arith, few, copies_append name (keys_of b) (keys (new_pairs (keys_of whole) (sources v))), none_new (keys_of whole) (sources v) own, copies_append name (keys_of before) (key ∷ []))
  count_merged false whole before b line key value v own is few =
      omega (arith, few, copies_append name (keys_of b) (keys (new_pairs (keys_of whole) (sources v))), one_new (keys_of whole) (sources v), copies_append merge_key (keys_of before) (key ∷ []), is_one_same merge_key key (sym (same_text key merge_key (sym is))))

  -- another pair stays
  count_kept : (own : Bool) (whole before b : Said) (line : ℕ) (key : List ℕ) (value : Said) (rest : List (List ℕ)) → has name (keys_of whole) ≡ own → keys_of before ++ (key ∷ rest) ≡ keys_of whole
      → copies name (keys_of b) ≤ most own before → copies name (keys_of b ++ key ∷ []) ≤ most own (with_pair before line key value)
  count_kept true whole before b line key value rest own parts few = omega (arith, few, copies_append name (keys_of b) (key ∷ []), copies_append name (keys_of before) (key ∷ []))
  count_kept false whole before b line key value rest own parts few =
      let none : copies name (keys_of before ++ (key ∷ rest)) ≡ 0 = ap (copies name) parts ∙ copies_absent name (keys_of whole) own in
      omega (arith, few, none, copies_append name (keys_of before) (key ∷ rest), copies_append name (keys_of b) (key ∷ []), copies_append merge_key (keys_of before) (key ∷ []))

  module _ (own : Bool) (whole before b : Said) (line : ℕ) (key : List ℕ) (value : Said) (rest : List (List ℕ)) (is_own : has name (keys_of whole) ≡ own) (parts : keys_of before ++ (key ∷ rest) ≡ keys_of whole)
      (few : most own (with_pair before line key value) ≤ 1) (h : Keeps own before b) where
    pair_keeps : (read : Result Said MergeFault) (t m : Bool) → is_merge_key key ≡ t → IfOk read (IsOnce name)
        → IfOk (if t && not m then Err (record { line = line; path = key }) else (below key value read >>= λ v. Ok (if t then with_pairs b (new_pairs (keys_of whole) (sources v)) else with_pair b line key v)))
        (Keeps own (with_pair before line key value))
    pair_keeps read true true is k =
        then_has (IsOnce name) (Keeps own (with_pair before line key value)) (below key value read) _ (below_keeps (IsOnce name) key value read k)
        (λ v once.
        let new = new_pairs (keys_of whole) (sources v) in
        let count = count_merged own whole before b line key value v is_own is h.count in
        record {
          once = once_with_pairs name b new h.once (new_once (keys_of whole) (sources v) (sources_once v once)) (omega (arith, count, few));
          count = subst (λ (ks : List (List ℕ)). copies name ks ≤ most own (with_pair before line key value)) (sym (keys_with_pairs b new)) count;
        })
    pair_keeps read true false is k = tt
    pair_keeps read false m is k =
        then_has (IsOnce name) (Keeps own (with_pair before line key value)) (below key value read) _ (below_keeps (IsOnce name) key value read k)
        (λ v once.
        let count = count_kept own whole before b line key value rest is_own parts h.count in
        record { once = (omega (arith, count, few), h.once, once); count = count })

  rows_keep : (own : Bool) (whole s : Said) (rest : List (List ℕ)) → has name (keys_of whole) ≡ own → keys_of s ++ rest ≡ keys_of whole → IsOfOneKind s → IsOnce name s → IsOnce merge_key s
      → IfOk (merged_rows whole s) (Keeps own s)
  rows_keep own whole (null line) rest is parts kind h k = record { once = tt; count = omega arith }
  rows_keep own whole (text line bytes) rest is parts kind h k = record { once = tt; count = omega arith }
  rows_keep own whole (unknown line) rest is parts kind h k = record { once = tt; count = omega arith }
  rows_keep own whole (sequence line) rest is parts kind h k = record { once = tt; count = omega arith }
  rows_keep own whole (mapping line) rest is parts kind h k = record { once = tt; count = omega arith }
  rows_keep own whole (with_item before value) rest is parts kind h k =
      then_has (Keeps own before) (Keeps own (with_item before value)) (merged_rows whole before) _
      (rows_keep own whole before (keys_of whole) is (ap (λ (ks : List (List ℕ)). ks ++ keys_of whole) kind.0) kind.1 h.0 k.0)
      (λ b kept. then_has (IsOnce name) (Keeps own (with_item before value)) (below (item_place (item_count before)) value (merged_rows value value)) _
      (below_keeps (IsOnce name) (item_place (item_count before)) value (merged_rows value value)
      (weaker (Keeps (has name (keys_of value)) value) (IsOnce name) (merged_rows value value) (rows_keep (has name (keys_of value)) value value [] refl (append-nil (keys_of value)) kind.2 h.1 k.1) (λ s keeps. keeps.once)))
      (λ v once. record { once = (kept.once, once); count = omega arith }))
  rows_keep own whole (with_pair before line key value) rest is parts kind h k =
      let split : keys_of before ++ (key ∷ rest) ≡ keys_of whole = sym (append_assoc (keys_of before) (key ∷ []) rest) ∙ parts in
      then_has (Keeps own before) (Keeps own (with_pair before line key value)) (merged_rows whole before) _ (rows_keep own whole before (key ∷ rest) is split kind.0 h.1 k.1)
      (λ b kept. pair_keeps own whole before b line key value rest is split (most_few own before line key value h.0 k.0) kept (merged_rows value value) (is_merge_key key) (may_merge value) refl
      (weaker (Keeps (has name (keys_of value)) value) (IsOnce name) (merged_rows value value) (rows_keep (has name (keys_of value)) value value [] refl (append-nil (keys_of value)) kind.1 h.2 k.2) (λ s keeps. keeps.once)))

  pub merged_once : (tree : Said) → IsOfOneKind tree → IsOnce name tree → IsOnce merge_key tree → IfOk (merged tree) (IsOnce name)
  unfolding merged
  merged_once tree kind h k = weaker (Keeps (has name (keys_of tree)) tree) (IsOnce name) (merged_rows tree tree) (rows_keep (has name (keys_of tree)) tree tree [] refl (append-nil (keys_of tree)) kind h k) (λ s keeps. keeps.once)
