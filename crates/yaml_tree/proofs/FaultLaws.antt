-- A text has one fault at most.
use Rattle.std.proofs.Common.{◌≡◌, ℕ, ◌<◌, List, [], ◌∷◌, ◌++◌, Some, None, take, refl, sym, ap, ◌∙◌, subst, append_assoc, nat_lt, inl, inr, ◌⊎◌}
use Rattle.std.proofs.lemmas.Option.{same_Some}
use Rattle.std.proofs.lemmas.Bool.{cond-true, cond-false, lt-ltb, le-ltb, cases_order}
use Rattle.std.specs.Str.{IsUtf8}
use Rattle.yaml_tokens.specs.Lines.{lines_of}
use Rattle.yaml_tree.specs.Flows.{SpellsFlow, FlowMayBegin, IsPieceKind, IsFirstMisfit, IsFlowMisfit}
use Rattle.yaml_tokens.specs.Tokens.{tokens_of}
use Rattle.yaml_tree.specs.Written.{Spells}
use Rattle.yaml_tree.specs.Said.{Said, has_repeat, has_unknown, levels, size}
use Rattle.yaml_tree.specs.inside.Stack.{cut, measured}
use Rattle.yaml_tree.specs.Tree.{Says, MayBegin, ValueMayBegin, KeyMayBegin, IsKindAt, IsMisfit, IsRefused, IsFirstRefused, line_of_break, IsFaultOf}
use Rattle.yaml_tree.specs.inside.Builder.{fault_of}
use Rattle.yaml_tokens.specs.declared.token.Token.{Token}
use Rattle.yaml_tokens.specs.declared.token.Token.TheVariants.{Dash, Key, Scalar, Anchor, Alias, Bar, Body, Form, OddToken}
use Rattle.yaml_tokens.specs.declared.piece.Piece.{Piece}
use Rattle.yaml_tokens.specs.declared.piece.Piece.TheVariants.{Opening, Closing, Comma, CellKey, CellScalar, CellAnchor, CellAlias, OddPiece}
use Rattle.yaml_tree.specs.declared.fault.FaultKind.{FaultKind}
use Rattle.yaml_tree.specs.declared.fault.FaultKind.TheVariants.{NotUtf8, Syntax, Unsupported, Duplicate, Alias, TooDeep, TooManyNodes}
use Rattle.yaml_tokens.specs.declared.odd.Odd.TheVariants as odd
use Rattle.yaml_tree.proofs.WrittenLaws.{FlowReader}
use Rattle.yaml_tree.proofs.RuleLaws.{one_tree, misfit_no_tree, refused_no_tree}
use Rattle.yaml_tree.proofs.ReadingLaws.{cut_over}
use Rattle.yaml_tree.specs.Limits.{most_tree_levels, most_tree_nodes}

-- ---- where a list is parted

-- A list that is parted twice: at one place; or one front, with the element behind it, begins the other front.
abbrev Parted : {A : Type 0} → List A → A → List A → List A → A → List A → Type 0
Parted xs x ys zs z ws = ((xs ≡ zs) × (x ≡ z) × (ys ≡ ws)) ⊎ (((more : List _) × (zs ≡ xs ++ (x ∷ more))) ⊎ ((more : List _) × (xs ≡ zs ++ (z ∷ more))))

parted : {A : Type 0} (xs : List A) (x : A) (ys zs : List A) (z : A) (ws : List A) → xs ++ (x ∷ ys) ≡ zs ++ (z ∷ ws) → Parted xs x ys zs z ws
parted [] x ys [] z ws e = inl (refl, cc, cc)
parted [] x ys (c ∷ zs) z ws e = inr (inl (zs, (let same : c ≡ x = cc in ap (λ a. a ∷ zs) same)))
parted (a ∷ xs) x ys [] z ws e = inr (inr (xs, (let same : a ≡ z = cc in ap (λ b. b ∷ xs) same)))
parted (a ∷ xs) x ys (c ∷ zs) z ws e = let same : a ≡ c = cc in let rest : xs ++ (x ∷ ys) ≡ zs ++ (z ∷ ws) = cc in by same (parted xs x ys zs z ws rest)
  where
    by : a ≡ c → Parted xs x ys zs z ws → Parted (a ∷ xs) x ys (c ∷ zs) z ws
    by same (inl h) = let before : xs ≡ zs = h.0 in inl (cc, h.1, h.2)
    by same (inr (inl h)) = let behind : zs ≡ xs ++ (x ∷ h.0) = h.1 in inr (inl (h.0, cc))
    by same (inr (inr h)) = let behind : xs ≡ zs ++ (z ∷ h.0) = h.1 in inr (inr (h.0, cc))

regrouped : {A : Type 0} (xs : List A) (x : A) (more rest : List A) → (xs ++ (x ∷ more)) ++ rest ≡ (xs ++ (x ∷ [])) ++ (more ++ rest)
regrouped xs x more rest = append_assoc xs (x ∷ more) rest ∙ sym (append_assoc xs (x ∷ []) (more ++ rest))

-- ---- the kind of a misfit

-- an indicator beyond the profile is unsupported exactly where a value may begin
abbrev Decided : Type 0 → FaultKind → Type 0
Decided P kind = ((kind ≡ Unsupported) × P) ⊎ ((kind ≡ Syntax) × (P → ⊥))

decided_once : (P : Type 0) (k l : FaultKind) → Decided P k → Decided P l → k ≡ l
decided_once P k l (inl a) (inl b) = a.0 ∙ sym b.0
decided_once P k l (inl a) (inr b) = absurd (b.1 a.1)
decided_once P k l (inr a) (inl b) = absurd (a.1 b.1)
decided_once P k l (inr a) (inr b) = a.0 ∙ sym b.0

decided_piece : (front rest : List Piece) (kind : FaultKind) → IsPieceKind front (OddPiece odd.Indicator) rest kind → Decided (FlowMayBegin (front ++ (CellScalar None ∷ []))) kind
decided_piece front rest Unsupported h = inl (refl, h)
decided_piece front rest Syntax h = inr (refl, h)
decided_piece front rest NotUtf8 h = absurd h
decided_piece front rest Duplicate h = absurd h
decided_piece front rest Alias h = absurd h
decided_piece front rest TooDeep h = absurd h
decided_piece front rest TooManyNodes h = absurd h

piece_kind_once : (front : List Piece) (piece : Piece) (rest : List Piece) (k l : FaultKind) → IsPieceKind front piece rest k → IsPieceKind front piece rest l → k ≡ l
piece_kind_once front (Opening bracket) rest k l a b = a ∙ sym b
piece_kind_once front (Closing bracket) rest k l a b = a ∙ sym b
piece_kind_once front Comma rest k l a b = a ∙ sym b
piece_kind_once front (CellKey bytes) rest k l a b = a ∙ sym b
piece_kind_once front (CellScalar bytes) rest k l (inl a) (inl b) = a.1 ∙ sym b.1
piece_kind_once front (CellScalar bytes) rest k l (inl a) (inr b) = absurd (b.0 a.0)
piece_kind_once front (CellScalar bytes) rest k l (inr a) (inl b) = absurd (a.0 b.0)
piece_kind_once front (CellScalar bytes) rest k l (inr a) (inr b) = a.1 ∙ sym b.1
piece_kind_once front (OddPiece odd.Unkeyed) rest k l a b = a ∙ sym b
piece_kind_once front (CellAnchor name) rest k l a b = a ∙ sym b
piece_kind_once front (CellAlias name) rest k l a b = a ∙ sym b
piece_kind_once front (OddPiece odd.Syntax) rest k l a b = a ∙ sym b
piece_kind_once front (OddPiece odd.Unsupported) rest k l a b = a ∙ sym b
piece_kind_once front (OddPiece odd.Indicator) rest k l a b = decided_once _ k l (decided_piece front rest k a) (decided_piece front rest l b)

flow_begins_shorter : (xs : List Piece) (x : Piece) (more : List Piece) → FlowMayBegin (xs ++ (x ∷ more)) → FlowMayBegin (xs ++ (x ∷ []))
flow_begins_shorter xs x more h = (more ++ h.0, h.1, subst (λ ps. SpellsFlow ps h.1) (regrouped xs x more h.0) h.2)

-- one piece is the first that can't stand
first_misfit_once : (pieces : List Piece) (k l : FaultKind) → IsFirstMisfit pieces k → IsFirstMisfit pieces l → k ≡ l
first_misfit_once pieces k l a b = by (parted a.front a.piece a.rest b.front b.piece b.rest (sym a.parts ∙ b.parts))
  where
    by : Parted a.front a.piece a.rest b.front b.piece b.rest → k ≡ l
    by (inl h) = piece_kind_once a.front a.piece a.rest k l a.kind_is
        (subst (λ f. IsPieceKind f a.piece a.rest l) (sym h.0) (subst (λ p. IsPieceKind b.front p a.rest l) (sym h.1) (subst (λ r. IsPieceKind b.front b.piece r l) (sym h.2) b.kind_is)))
    by (inr (inl h)) = absurd (a.ends (flow_begins_shorter a.front a.piece h.0 (subst FlowMayBegin h.1 b.begins)))
    by (inr (inr h)) = absurd (b.ends (flow_begins_shorter b.front b.piece h.0 (subst FlowMayBegin h.1 a.begins)))

-- pieces with one that can't stand don't begin a form
misfit_begins_none : (pieces : List Piece) (k : FaultKind) → IsFirstMisfit pieces k → FlowMayBegin pieces → ⊥
misfit_begins_none pieces k a begins = a.ends (flow_begins_shorter a.front a.piece a.rest (subst FlowMayBegin a.parts begins))

flow_misfit_once : (pieces : List Piece) (k l : FaultKind) → IsFlowMisfit pieces k → IsFlowMisfit pieces l → k ≡ l
flow_misfit_once pieces k l (inl a) (inl b) = first_misfit_once pieces k l a b
flow_misfit_once pieces k l (inl a) (inr b) = absurd (misfit_begins_none pieces k a b.begins)
flow_misfit_once pieces k l (inr a) (inl b) = absurd (misfit_begins_none pieces l b a.begins)
flow_misfit_once pieces k l (inr a) (inr b) = a.kind_is ∙ sym b.kind_is

decided_indicator : (front : List Token) (line column : ℕ) (kind : FaultKind) → IsKindAt front (OddToken line column odd.Indicator) kind → Decided (ValueMayBegin front line column) kind
decided_indicator front line column Unsupported h = inl (refl, h)
decided_indicator front line column Syntax h = inr (refl, h)
decided_indicator front line column NotUtf8 h = absurd h
decided_indicator front line column Duplicate h = absurd h
decided_indicator front line column Alias h = absurd h
decided_indicator front line column TooDeep h = absurd h
decided_indicator front line column TooManyNodes h = absurd h

decided_unkeyed : (front : List Token) (line column : ℕ) (kind : FaultKind) → IsKindAt front (OddToken line column odd.Unkeyed) kind → Decided (KeyMayBegin front line column) kind
decided_unkeyed front line column Unsupported h = inl (refl, h)
decided_unkeyed front line column Syntax h = inr (refl, h)
decided_unkeyed front line column NotUtf8 h = absurd h
decided_unkeyed front line column Duplicate h = absurd h
decided_unkeyed front line column Alias h = absurd h
decided_unkeyed front line column TooDeep h = absurd h
decided_unkeyed front line column TooManyNodes h = absurd h

kind_once : (front : List Token) (m : Token) (k l : FaultKind) → IsKindAt front m k → IsKindAt front m l → k ≡ l
kind_once front (Dash line column) k l a b = a ∙ sym b
kind_once front (Key line column bytes) k l a b = a ∙ sym b
kind_once front (Scalar line column bytes) k l a b = a ∙ sym b
kind_once front (Anchor line column bytes) k l a b = a ∙ sym b
kind_once front (Alias line column bytes) k l a b = a ∙ sym b
kind_once front (Bar line column chomp) k l a b = a ∙ sym b
kind_once front (Body line column bytes) k l a b = a ∙ sym b
kind_once front (OddToken line column odd.Syntax) k l a b = a ∙ sym b
kind_once front (OddToken line column odd.Unsupported) k l a b = a ∙ sym b
kind_once front (OddToken line column odd.Indicator) k l a b = decided_once _ k l (decided_indicator front line column k a) (decided_indicator front line column l b)
kind_once front (OddToken line column odd.Unkeyed) k l a b = decided_once _ k l (decided_unkeyed front line column k a) (decided_unkeyed front line column l b)
kind_once front (Form line column pieces) k l (inl a) (inl b) = flow_misfit_once pieces k l a.1 b.1
kind_once front (Form line column pieces) k l (inl a) (inr b) = absurd (b.0 a.0)
kind_once front (Form line column pieces) k l (inr a) (inl b) = absurd (a.0 b.0)
kind_once front (Form line column pieces) k l (inr a) (inr b) = a.1 ∙ sym b.1

begins_shorter : (xs : List Token) (x : Token) (more : List Token) → MayBegin (xs ++ (x ∷ more)) → MayBegin (xs ++ (x ∷ []))
begins_shorter xs x more h = (more ++ h.0, h.1, subst (λ ms. Spells ms h.1) (regrouped xs x more h.0) h.2)

-- one token is the first that can't stand
misfit_once : (ms : List Token) (k l : FaultKind) → IsMisfit ms k → IsMisfit ms l → k ≡ l
misfit_once ms k l a b = by (parted a.front a.token a.rest b.front b.token b.rest (sym a.parts ∙ b.parts))
  where
    by : Parted a.front a.token a.rest b.front b.token b.rest → k ≡ l
    by (inl h) = kind_once a.front a.token k l a.kind_is (subst (λ f. IsKindAt f a.token l) (sym h.0) (subst (λ m. IsKindAt b.front m l) (sym h.1) b.kind_is))
    by (inr (inl h)) = absurd (a.ends (begins_shorter a.front a.token h.0 (subst MayBegin h.1 b.begins)))
    by (inr (inr h)) = absurd (b.ends (begins_shorter b.front b.token h.0 (subst MayBegin h.1 a.begins)))

-- ---- the kind of a fault

-- the lines fit no rule, or what they say passes a limit
abbrev Told : List (List ℕ) → FaultKind → Type 0
Told lines kind = IsMisfit (tokens_of lines) kind ⊎ ((t : Said) × Says lines t × (fault_of (measured t) ≡ Some kind))

told : (lines : List (List ℕ)) (kind : FaultKind) → IsRefused lines kind → Told lines kind
told lines NotUtf8 h = absurd h
told lines Syntax h = inl h
told lines Unsupported h = inl h
told lines Duplicate h = inr (h.0, h.1, cond-true (has_repeat h.0) _ _ h.2)
told lines Alias h = inr (h.0, h.1, cond-false (has_repeat h.0) _ _ h.2 ∙ cond-true (has_unknown h.0) _ _ h.3)
told lines TooDeep h = inr (h.0, h.1, cond-false (has_repeat h.0) _ _ h.2 ∙ cond-false (has_unknown h.0) _ _ h.3 ∙ cond-true (nat_lt most_tree_levels (cut most_tree_levels (levels h.0))) _ _ (cut_over most_tree_levels (levels h.0) ∙ lt-ltb most_tree_levels (levels h.0) h.4))
told lines TooManyNodes h = inr (
  h.0,
  h.1,
  cond-false (has_repeat h.0) _ _ h.2 ∙ cond-false (has_unknown h.0) _ _ h.3 ∙ cond-false (nat_lt most_tree_levels (cut most_tree_levels (levels h.0))) _ _ (cut_over most_tree_levels (levels h.0) ∙ le-ltb most_tree_levels (levels h.0) h.4)
      ∙ cond-true (nat_lt most_tree_nodes (cut most_tree_nodes (size h.0))) _ _ (cut_over most_tree_nodes (size h.0) ∙ lt-ltb most_tree_nodes (size h.0) h.5),
)

told_once : FlowReader → (lines : List (List ℕ)) (k l : FaultKind) → Told lines k → Told lines l → k ≡ l
told_once r lines k l (inl a) (inl b) = misfit_once (tokens_of lines) k l a b
told_once r lines k l (inl a) (inr b) = absurd (misfit_no_tree (tokens_of lines) k b.1.written a b.1.spelled)
told_once r lines k l (inr a) (inl b) = absurd (misfit_no_tree (tokens_of lines) l a.1.written b a.1.spelled)
told_once r lines k l (inr a) (inr b) = same_Some k l (sym a.2 ∙ ap (λ t. fault_of (measured t)) (one_tree r lines a.0 b.0 a.1 b.1) ∙ b.2)

not_before : FlowReader → (lines : List (List ℕ)) (n m : ℕ) (k l : FaultKind) → IsFirstRefused lines n k → IsFirstRefused lines m l → n < m → ⊥
not_before r lines n m k l a b less = let t = b.before n less in refused_no_tree r (take n lines) k t.0 a.refused t.1

same_line : FlowReader → (lines : List (List ℕ)) (n m : ℕ) (k l : FaultKind) → IsFirstRefused lines n k → IsFirstRefused lines m l → n ≡ m
same_line r lines n m k l a b = elim (cases_order n m) [
  | inl same ↦ same
  | inr other ↦ elim other [ inl less ↦ absurd (not_before r lines n m k l a b less) | inr more ↦ absurd (not_before r lines m n l k b a more) ]
]

abbrev SameFault : ℕ → FaultKind → ℕ → FaultKind → Type 0
SameFault n k m l = (n ≡ m) × (k ≡ l)

first_once : FlowReader → (lines : List (List ℕ)) (n m : ℕ) (k l : FaultKind) → IsFirstRefused lines n k → IsFirstRefused lines m l → SameFault n k m l
first_once r lines n m k l a b = let same = same_line r lines n m k l a b in
    (same, told_once r (take n lines) k l (told (take n lines) k a.refused) (told (take n lines) l (subst (λ i. IsRefused (take i lines) l) (sym same) b.refused)))

-- a text that isn't UTF-8, or one whose lines are refused
abbrev FaultIs : List ℕ → ℕ → FaultKind → Type 0
FaultIs bytes line kind = ((IsUtf8 bytes → ⊥) × SameFault line kind (line_of_break bytes) NotUtf8) ⊎ (IsUtf8 bytes × IsFirstRefused (lines_of bytes) line kind)

fault_is : (bytes : List ℕ) (line : ℕ) (kind : FaultKind) → IsFaultOf bytes line kind → FaultIs bytes line kind
fault_is bytes line NotUtf8 h = inl (h.0, (h.1, refl))
fault_is bytes line Syntax h = inr h
fault_is bytes line Unsupported h = inr h
fault_is bytes line Duplicate h = inr h
fault_is bytes line Alias h = inr h
fault_is bytes line TooDeep h = inr h
fault_is bytes line TooManyNodes h = inr h

pub one_fault : FlowReader → (bytes : List ℕ) (n m : ℕ) (k l : FaultKind) → IsFaultOf bytes n k → IsFaultOf bytes m l → SameFault n k m l
one_fault r bytes n m k l a b = by (fault_is bytes n k a) (fault_is bytes m l b)
  where
    by : FaultIs bytes n k → FaultIs bytes m l → SameFault n k m l
    by (inl p) (inl q) = (p.1.0 ∙ sym q.1.0, p.1.1 ∙ sym q.1.1)
    by (inl p) (inr q) = absurd (p.0 q.0)
    by (inr p) (inl q) = absurd (q.0 p.0)
    by (inr p) (inr q) = first_once r (lines_of bytes) n m k l p.1 q.1
