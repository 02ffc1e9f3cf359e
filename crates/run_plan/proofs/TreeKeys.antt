-- No key stands twice in a mapping of a plain tree.
use Rattle.std.proofs.Common.{◌≡◌, ◌∙◌, ℕ, ◌≤◌, Bool, true, false, ◌||◌, List, [], ◌∷◌, ◌++◌, map, refl, sym, ap, subst, append_assoc, append-nil, arith, ◌==◌}
use Rattle.std.specs.Cmp.Lexicographic.{pointwise, same_text}
use Rattle.std.proofs.lemmas.Bool.{false≢true}
use Rattle.yaml_tree.specs.Said.{Said, has_key}
use Rattle.yaml_tree.specs.Said.Said.{null, text, unknown, sequence, mapping, with_item, with_pair}
use Rattle.yaml_merge.specs.Merge.{keys_of}
use Rattle.yaml_merge.specs.Plainness.{are_items, are_pairs, IsPlain}
use Rattle.yaml_merge.specs.Rows.{with_pairs}
use Rattle.yaml_merge.specs.declared.plain.Pair.{Pair}
use Rattle.run_plan.proofs.NameCounts.{one_if, one_if_le, is_one, copies, copies_append}

-- the name stands at most once among the keys of each mapping
abbrev pub IsOnce : List ℕ → Said → Type 0
IsOnce name (null line) = Unit {0}
IsOnce name (text line bytes) = Unit {0}
IsOnce name (unknown line) = Unit {0}
IsOnce name (sequence line) = Unit {0}
IsOnce name (mapping line) = Unit {0}
IsOnce name (with_item before value) = IsOnce name before × IsOnce name value
IsOnce name (with_pair before line key value) = (copies name (keys_of before ++ key ∷ []) ≤ 1) × IsOnce name before × IsOnce name value

-- items don't stand behind pairs
abbrev pub IsOfOneKind : Said → Type 0
IsOfOneKind (null line) = Unit {0}
IsOfOneKind (text line bytes) = Unit {0}
IsOfOneKind (unknown line) = Unit {0}
IsOfOneKind (sequence line) = Unit {0}
IsOfOneKind (mapping line) = Unit {0}
IsOfOneKind (with_item before value) = (keys_of before ≡ []) × IsOfOneKind before × IsOfOneKind value
IsOfOneKind (with_pair before line key value) = IsOfOneKind before × IsOfOneKind value

-- the same in the values of pairs
abbrev pub AreOnce : List ℕ → List Pair → Type 0
AreOnce name [] = Unit {0}
AreOnce name (p ∷ ps) = IsOnce name p.value × AreOnce name ps

abbrev pub keys : List Pair → List (List ℕ)
keys ps = map (λ (p : Pair). p.key) ps

-- ---- pairs behind a mapping

pub keys_with_pairs : (s : Said) (ps : List Pair) → keys_of (with_pairs s ps) ≡ keys_of s ++ keys ps
keys_with_pairs s [] = sym (append-nil (keys_of s))
keys_with_pairs s (p ∷ ps) = keys_with_pairs (with_pair s p.line p.key p.value) ps ∙ append_assoc (keys_of s) (p.key ∷ []) (keys ps)

first_fits : (name key : List ℕ) (ks more : List (List ℕ)) → copies name (ks ++ key ∷ more) ≤ 1 → copies name (ks ++ key ∷ []) ≤ 1
first_fits name key ks more few = omega (arith, few, copies_append name ks (key ∷ more), copies_append name ks (key ∷ []))

pub once_with_pairs : (name : List ℕ) (s : Said) (ps : List Pair) → IsOnce name s → AreOnce name ps → copies name (keys_of s ++ keys ps) ≤ 1 → IsOnce name (with_pairs s ps)
once_with_pairs name s [] h k few = h
once_with_pairs name s (p ∷ ps) h k few =
    once_with_pairs name (with_pair s p.line p.key p.value) ps (first_fits name p.key (keys_of s) (keys ps) few, h, k.0) k.1
    (subst (λ (ks : List (List ℕ)). copies name ks ≤ 1) (sym (append_assoc (keys_of s) (p.key ∷ []) (keys ps))) few)

-- ---- a plain tree

-- items have no keys
no_keys : (s : Said) → are_items s ≡ true → keys_of s ≡ []
no_keys (with_pair before line key value) a = absurd (false≢true a)
no_keys _ a = refl

pub plain_kind : (s : Said) → IsPlain s → IsOfOneKind s
plain_kind (null line) p = tt
plain_kind (text line bytes) p = tt
plain_kind (unknown line) p = tt
plain_kind (sequence line) p = tt
plain_kind (mapping line) p = tt
plain_kind (with_item before value) p = (no_keys before p.0, plain_kind before p.1, plain_kind value p.2)
plain_kind (with_pair before line key value) p = (plain_kind before p.3, plain_kind value p.4)

neither : (a b : Bool) → (a || b) ≡ false → (a ≡ false) × (b ≡ false)
neither true b h = absurd (false≢true (sym h))
neither false b h = (refl, h)

-- a key that a mapping hasn't has no copy
no_copy : (key : List ℕ) (s : Said) → are_pairs s ≡ true → has_key key s ≡ false → copies key (keys_of s) ≡ 0
no_copy key (with_pair before line other value) p h =
    let k = neither (has_key key before) (pointwise ◌==◌ key other) h in
    let none : is_one key other ≡ 0 = ap one_if k.1 in
    omega (arith, copies_append key (keys_of before) (other ∷ []), no_copy key before p k.0, none)
no_copy key _ p h = refl

pub keys_once : (name : List ℕ) (s : Said) → IsOnce name s → copies name (keys_of s) ≤ 1
keys_once name (with_pair before line key value) h = h.0
keys_once name _ h = omega arith

one_more : (name key : List ℕ) (ks : List (List ℕ)) → copies name ks ≤ 1 → copies key ks ≡ 0 → copies name (ks ++ key ∷ []) ≤ 1
one_more name key ks few none = by (pointwise ◌==◌ name key) refl
  where
    by : (t : Bool) → pointwise ◌==◌ name key ≡ t → copies name (ks ++ key ∷ []) ≤ 1
    by true e =
        let absent : copies name ks ≡ 0 = ap (λ (n : List ℕ). copies n ks) (same_text name key (sym e)) ∙ none in
        omega (arith, absent, copies_append name ks (key ∷ []), one_if_le (pointwise ◌==◌ name key))
    by false e = let other : is_one name key ≡ 0 = ap one_if e in omega (arith, few, copies_append name ks (key ∷ []), other)

pub plain_once : (name : List ℕ) (s : Said) → IsPlain s → IsOnce name s
plain_once name (null line) p = tt
plain_once name (text line bytes) p = tt
plain_once name (unknown line) p = tt
plain_once name (sequence line) p = tt
plain_once name (mapping line) p = tt
plain_once name (with_item before value) p = (plain_once name before p.1, plain_once name value p.2)
plain_once name (with_pair before line key value) p =
    let once = plain_once name before p.3 in
    (one_more name key (keys_of before) (keys_once name before once) (no_copy key before p.0 p.2), once, plain_once name value p.4)
