-- What reading lines one by one finds is the tree of the lines, or their fault.
use Rattle.std.proofs.Common.{◌≡◌, ℕ, ◌+◌, ◌<◌, ◌≤◌, Bool, true, false, ◌||◌, cond, List, [], ◌∷◌, ◌++◌, Option, Some, None, Result, Ok, Err, length, get_or, take, drop, refl, sym, ap, ◌∙◌, subst, append_assoc, arith, nat_lt, nat_le, inl, inr, ◌⊎◌}
use Rattle.std.specs.Option.{option_and_then}
use Rattle.std.specs.Str.{IsUtf8}
use Rattle.std.specs.Result.{IfOk, IfErr}
use Rattle.std.specs.declared.alloc.Global.{Global}
use Rattle.std.proofs.lemmas.Option.{none-some, slice_get_within}
use Rattle.std.proofs.lemmas.Bool.{ltb-true, ltb-false, leb-false, lt-ltb, cases_lt}
use Rattle.std.proofs.lemmas.List.{append-nil, length-drop, length-take-le, take_all, take_more, drop_more}
use Rattle.sim_base.specs.Refusals.{◌>>=◌}
use Rattle.yaml_tokens.specs.Lines.{lines_of}
use Rattle.yaml_tokens.specs.Pieces.{why_bracket, closes_at}
use Rattle.yaml_tree.specs.Flows.{kind_behind_key, IsPieceKind, IsFlowMisfit}
use Rattle.yaml_tokens.specs.Tokens.{has_content, line_tokens, next_place, tokens_from, tokens_of}
use Rattle.yaml_tree.specs.Written.{Written, Spells}
use Rattle.yaml_tree.specs.Written.Written.{nothing}
use Rattle.yaml_tree.specs.Said.{Said, tree_of, has_repeat, has_unknown, levels, size}
use Rattle.yaml_tree.specs.Said.Said.{null, text, unknown, sequence, mapping, with_item, with_pair}
use Rattle.yaml_tree.specs.Holds.{HoldsSaid}
use Rattle.yaml_tree.specs.inside.Stack.{cut, measured}
use Rattle.yaml_tree.specs.Tree.{Says, IsTree, HasTree, MayBegin, ValueMayBegin, KeyMayBegin, kind_of, IsKindAt, IsMisfit, IsRefused, IsFirstRefused, IsTreeOf, IsFaultOf}
use Rattle.yaml_tree.specs.inside.Builder.{take_token, take_tokens, fault_of, judged_by, judged, read_line, read_lines, at_line, ReadsLine, fresh}
use Rattle.yaml_tree.specs.Trees.{Holds, IsErrorOf, root_number}
use Rattle.yaml_tree.specs.inside.Trees.{RootIsIn, IsReading}
use Rattle.yaml_tree.specs.declared.builder.Builder.{Builder}
use Rattle.yaml_tokens.specs.declared.token.Token.{Token}
use Rattle.yaml_tokens.specs.declared.token.Token.TheVariants.{Dash, Key, Scalar, Anchor, Alias, Bar, Body, Form, OddToken}
use Rattle.yaml_tree.specs.declared.node.Node.{Node}
use Rattle.yaml_tokens.specs.declared.piece.Piece.{Piece}
use Rattle.yaml_tokens.specs.declared.piece.Piece.TheVariants.{Opening, Closing, Comma, CellKey, CellScalar, CellAnchor, CellAlias, OddPiece}
use Rattle.yaml_tokens.specs.declared.place.LinePlace.{LinePlace}
use Rattle.yaml_tokens.specs.declared.place.LinePlace.TheVariants.{Outside}
use Rattle.yaml_tree.specs.declared.fault.FaultKind.{FaultKind}
use Rattle.yaml_tree.specs.declared.fault.FaultKind.TheVariants.{NotUtf8, Syntax, Unsupported, Duplicate, Alias, TooDeep, TooManyNodes}
use Rattle.yaml_tokens.specs.declared.odd.Odd.{Odd}
use Rattle.yaml_tokens.specs.declared.odd.Odd.TheVariants as odd
use Rattle.yaml_tree.specs.declared.fault.TreeError.{TreeError}
use Rattle.yaml_tree.specs.declared.fault.TreeError.TheVariants as tree
use Rattle.yaml_tree.specs.declared.fault.YamlFault.{YamlFault}
use Rattle.yaml_tree.specs.declared.tree.Tree.{Tree}
use Rattle.yaml_tree.proofs.WrittenLaws.{FlowReader, with_token, with_tokens, with_tokens_append, Spells_from_read, read_from_Spells}
use Rattle.yaml_tree.proofs.RuleLaws.{begun_after, place_of_next, tokens_from_append}
use Rattle.yaml_tree.proofs.Stands.{StandsFor}
use Rattle.yaml_tree.proofs.FlowJudged.{Judges}
use Rattle.yaml_tree.proofs.FlowLaws.{flow_reader}
use Rattle.yaml_tree.proofs.FlowFaults.{flow_judged}
use Rattle.yaml_tree.proofs.Simulation.{KindAfter, TakenAny, take_token_taken, fresh_stands, measure_means, whole_holds}
use Rattle.yaml_tree.specs.Limits.{most_tree_levels, most_tree_nodes}

-- ---- what a tree as it is written may begin with

may_begin : (r : FlowReader) (ms : List Token) (w : Written) → with_tokens r ms nothing ≡ Some w → MayBegin ms
may_begin r ms w e = ([], w, subst (λ ns. Spells ns w) (sym (append-nil ms)) (Spells_from_read r ms w e))

one_more : (r : FlowReader) (ms : List Token) (m : Token) (w : Written) → with_tokens r ms nothing ≡ Some w → with_tokens r (ms ++ (m ∷ [])) nothing ≡ with_token r m w
one_more r ms m w e = with_tokens_append r ms (m ∷ []) nothing ∙ ap (option_and_then (with_tokens r (m ∷ []))) e ∙ back (with_token r m w)
  where
    back : (o : Option Written) → option_and_then (with_tokens r []) o ≡ o
    back None = refl
    back (Some x) = refl

may_not_begin : (r : FlowReader) (ms : List Token) → with_tokens r ms nothing ≡ None → MayBegin ms → ⊥
may_not_begin r ms e h = none-some h.1 (sym (ap (option_and_then (with_tokens r h.0)) e) ∙ sym (with_tokens_append r ms h.0 nothing) ∙ read_from_Spells r (ms ++ h.0) h.1 h.2)

-- a value may begin behind the front where a scalar would be read there
value_may_begin : (r : FlowReader) (front : List Token) (line column : ℕ) (w m : Written) → with_tokens r front nothing ≡ Some w → with_token r (Scalar line column None) w ≡ Some m → ValueMayBegin front line column
value_may_begin r front line column w m e h = may_begin r (front ++ (Scalar line column None ∷ [])) m (one_more r front (Scalar line column None) w e ∙ h)

no_value_may_begin : (r : FlowReader) (front : List Token) (line column : ℕ) (w : Written) → with_tokens r front nothing ≡ Some w → with_token r (Scalar line column None) w ≡ None → ValueMayBegin front line column → ⊥
no_value_may_begin r front line column w e h = may_not_begin r (front ++ (Scalar line column None ∷ [])) (one_more r front (Scalar line column None) w e ∙ h)

-- and a key where one would
key_may_begin : (r : FlowReader) (front : List Token) (line column : ℕ) (w m : Written) → with_tokens r front nothing ≡ Some w → with_token r (Key line column []) w ≡ Some m → KeyMayBegin front line column
key_may_begin r front line column w m e h = may_begin r (front ++ (Key line column [] ∷ [])) m (one_more r front (Key line column []) w e ∙ h)

no_key_may_begin : (r : FlowReader) (front : List Token) (line column : ℕ) (w : Written) → with_tokens r front nothing ≡ Some w → with_token r (Key line column []) w ≡ None → KeyMayBegin front line column → ⊥
no_key_may_begin r front line column w e h = may_not_begin r (front ++ (Key line column [] ∷ [])) (one_more r front (Key line column []) w e ∙ h)

-- ---- tokens

kind_at : (r : FlowReader) (front : List Token) (m : Token) (w : Written) (kind : FaultKind) → with_tokens r front nothing ≡ Some w → KindAfter r m w kind → IsKindAt front m kind
kind_at r front (Dash line column) w kind e k = k
kind_at r front (Key line column bytes) w kind e k = k
kind_at r front (Scalar line column bytes) w kind e k = k
kind_at r front (Anchor line column bytes) w kind e k = k
kind_at r front (Alias line column bytes) w kind e k = k
kind_at r front (Bar line column chomp) w kind e k = k
kind_at r front (Body line column bytes) w kind e k = k
kind_at r front (Form line column pieces) w kind e k = elim k [
  | inl h ↦ inl (value_may_begin r front line column w h.0.0 e h.0.1, h.1)
  | inr h ↦ inr (no_value_may_begin r front line column w e h.0, h.1)
]
kind_at r front (OddToken line column odd.Syntax) w kind e k = k
kind_at r front (OddToken line column odd.Unsupported) w kind e k = k
kind_at r front (OddToken line column odd.Unkeyed) w kind e k = elim k [
  | inl h ↦ subst (IsKindAt front (OddToken line column odd.Unkeyed)) (sym h.0) (key_may_begin r front line column w h.1 e h.2)
  | inr h ↦ subst (IsKindAt front (OddToken line column odd.Unkeyed)) (sym h.0) (no_key_may_begin r front line column w e h.1)
]
kind_at r front (OddToken line column odd.Indicator) w kind e k = elim k [
  | inl h ↦ subst (IsKindAt front (OddToken line column odd.Indicator)) (sym h.0) (value_may_begin r front line column w h.1 e h.2)
  | inr h ↦ subst (IsKindAt front (OddToken line column odd.Indicator)) (sym h.0) (no_value_may_begin r front line column w e h.1)
]

abbrev TokensTaken : FlowReader → List Token → List Token → Written → Result Builder FaultKind → Type 0
TokensTaken r front ms w (Ok b) = (new : Written) × (with_tokens r ms w ≡ Some new) × StandsFor b new
TokensTaken r front ms w (Err kind) = IsMisfit (front ++ ms) kind

tokens_taken : (r : FlowReader) → Judges → (front ms : List Token) (b : Builder) (w : Written) → StandsFor b w → with_tokens r front nothing ≡ Some w → TokensTaken r front ms w (take_tokens ms b)
unfolding take_tokens
tokens_taken r j front [] b w s e = (w, refl, s)
tokens_taken r j front (m ∷ ms) b w s e = elim (take_token m b) as (λ x. TakenAny r m w x → TokensTaken r front (m ∷ ms) w (x >>= take_tokens ms)) [
  | Ok after ↦ λ h. (let rest = tokens_taken r j (front ++ (m ∷ [])) ms after h.0 h.2 (one_more r front m w e ∙ h.1) in
      behind (take_tokens ms after) h.0 h.1 rest)
  | Err kind ↦ λ h. record {
    front = front;
    token = m;
    rest = ms;
    parts = refl;
    begins = may_begin r front w e;
    ends = may_not_begin r (front ++ (m ∷ [])) (one_more r front m w e ∙ h.0);
    kind_is = kind_at r front m w kind e h.1;
  }
] (take_token_taken r j m b w s)
  where
    behind : (x : Result Builder FaultKind) (mid : Written) → with_token r m w ≡ Some mid → TokensTaken r (front ++ (m ∷ [])) ms mid x → TokensTaken r front (m ∷ ms) w x
    behind (Ok b') mid q h = (h.0, ap (option_and_then (with_tokens r ms)) q ∙ h.1, h.2)
    behind (Err kind) mid q h = subst (λ ns. IsMisfit ns kind) (append_assoc front (m ∷ []) ms) h

-- ---- limits

-- what is counted to one more than the most tells whether there are more
pub cut_over : (most n : ℕ) → nat_lt most (cut most n) ≡ nat_lt most n
cut_over most n = by (nat_le n most) refl
  where
    by : (q : Bool) → nat_le n most ≡ q → nat_lt most (cond q n (1 + most)) ≡ nat_lt most n
    by true e = refl
    by false e = let over : most < n = leb-false n most e in let next : most < 1 + most = omega arith in lt-ltb most (1 + most) next ∙ sym (lt-ltb most n over)

abbrev JudgedTo : Builder → List (List ℕ) → Said → Result Builder FaultKind → Type 0
JudgedTo b lines t (Ok after) = IsTree lines t × (after ≡ b)
JudgedTo b lines t (Err kind) = IsRefused lines kind

-- the measure of what the lines say tells whether they have a tree
measured_means : (b : Builder) (lines : List (List ℕ)) (t : Said) → Says lines t → JudgedTo b lines t (judged_by (fault_of (measured t)) b)
measured_means b lines t says = by (has_repeat t) refl
  where
    sized : has_repeat t ≡ false → has_unknown t ≡ false → levels t ≤ most_tree_levels → (q : Bool) → nat_lt most_tree_nodes (size t) ≡ q → JudgedTo b lines t (judged_by (cond q (Some TooManyNodes) None) b)
    sized f u d true e = (t, says, f, u, d, ltb-true most_tree_nodes (size t) e)
    sized f u d false e = (record { says = says; distinct = f; known = u; shallow = d; small = ltb-false most_tree_nodes (size t) e }, refl)

    levelled : has_repeat t ≡ false → has_unknown t ≡ false → (q : Bool) → nat_lt most_tree_levels (levels t) ≡ q → JudgedTo b lines t (judged_by (cond q (Some TooDeep) (cond (nat_lt most_tree_nodes (cut most_tree_nodes (size t))) (Some TooManyNodes) None)) b)
    levelled f u true e = (t, says, f, u, ltb-true most_tree_levels (levels t) e)
    levelled f u false e = sized f u (ltb-false most_tree_levels (levels t) e) (nat_lt most_tree_nodes (cut most_tree_nodes (size t))) (sym (cut_over most_tree_nodes (size t)))

    copied : has_repeat t ≡ false → (q : Bool) → has_unknown t ≡ q → JudgedTo b lines t (judged_by (cond q (Some Alias) (cond (nat_lt most_tree_levels (cut most_tree_levels (levels t))) (Some TooDeep) (cond (nat_lt most_tree_nodes (cut most_tree_nodes (size t))) (Some TooManyNodes) None))) b)
    copied f true e = (t, says, f, e)
    copied f false e = levelled f e (nat_lt most_tree_levels (cut most_tree_levels (levels t))) (sym (cut_over most_tree_levels (levels t)))

    by : (q : Bool) → has_repeat t ≡ q → JudgedTo b lines t (judged_by (cond q (Some Duplicate) (cond (has_unknown t) (Some Alias) (cond (nat_lt most_tree_levels (cut most_tree_levels (levels t))) (Some TooDeep) (cond (nat_lt most_tree_nodes (cut most_tree_nodes (size t))) (Some TooManyNodes) None)))) b)
    by true e = (t, says, e)
    by false e = copied e (has_unknown t) refl

judged_means : (b : Builder) (lines : List (List ℕ)) (w : Written) → StandsFor b w → Spells (tokens_of lines) w → JudgedTo b lines (tree_of w) (judged b)
unfolding judged
judged_means b lines w s spelled = subst (λ m. JudgedTo b lines (tree_of w) (judged_by (fault_of m) b)) (sym (measure_means b w s))
    (measured_means b lines (tree_of w) (record { written = w; spelled = spelled; said = refl }))

-- ---- lines

begun_after_push : (begun : Bool) (xs : List (List ℕ)) (y : List ℕ) → begun_after begun (xs ++ (y ∷ [])) ≡ (begun_after begun xs || has_content y)
begun_after_push begun [] y = refl
begun_after_push begun (x ∷ xs) y = begun_after_push (begun || has_content x) xs y

place_of_next_push : (begun : Bool) (place : LinePlace) (n : ℕ) (xs : List (List ℕ)) (y : List ℕ) → place_of_next begun place n (xs ++ (y ∷ [])) ≡ next_place (begun_after begun xs) (place_of_next begun place n xs) (n + length xs) y
place_of_next_push begun place n [] y = let e : n ≡ n + 0 = omega arith in ap (λ k. next_place begun place k y) e
place_of_next_push begun place n (x ∷ xs) y = let e : (1 + n) + length xs ≡ n + length (x ∷ xs) = omega arith in
    place_of_next_push (begun || has_content x) (next_place begun place n x) (1 + n) xs y
    ∙ ap (λ k. next_place (begun_after begun (x ∷ xs)) (place_of_next begun place n (x ∷ xs)) k y) e

-- where the line behind these, which are all that came, stands
abbrev place_behind_all : List (List ℕ) → LinePlace
place_behind_all lines = place_of_next false (Outside None) 1 lines

tokens_of_push : (xs : List (List ℕ)) (y : List ℕ) (i : ℕ) → length xs ≡ i → tokens_of (xs ++ (y ∷ [])) ≡ tokens_of xs ++ line_tokens (begun_after false xs) (place_behind_all xs) (1 + i) y
unfolding tokens_from
tokens_of_push xs y i e = tokens_from_append false (Outside None) 1 xs (y ∷ []) ∙ ap (λ ms. tokens_of xs ++ ms) (append-nil (line_tokens (begun_after false xs) (place_behind_all xs) (1 + length xs) y))
    ∙ ap (λ k. tokens_of xs ++ line_tokens (begun_after false xs) (place_behind_all xs) (1 + k) y) e

abbrev IsOneOfTwo : FaultKind → Type 0
IsOneOfTwo kind = (kind ≡ Syntax) ⊎ (kind ≡ Unsupported)

one_of_two_chosen : (b : Bool) → IsOneOfTwo (cond b Syntax Unsupported)
one_of_two_chosen true = inl refl
one_of_two_chosen false = inr refl

one_of_two_odd : (why : Odd) → IsOneOfTwo (kind_of why)
one_of_two_odd odd.Indicator = inl refl
one_of_two_odd odd.Unkeyed = inl refl
one_of_two_odd odd.Unsupported = inr refl
one_of_two_odd odd.Syntax = inl refl

one_of_two_behind_key : (rest : List Piece) → IsOneOfTwo (kind_behind_key rest)
one_of_two_behind_key [] = inr refl
one_of_two_behind_key (Opening bracket ∷ rest) = one_of_two_chosen (closes_at 0 rest)
one_of_two_behind_key (Closing bracket ∷ rest) = inl refl
one_of_two_behind_key (Comma ∷ rest) = inl refl
one_of_two_behind_key (CellKey bytes ∷ rest) = inl refl
one_of_two_behind_key (CellScalar bytes ∷ rest) = inl refl
one_of_two_behind_key (CellAnchor name ∷ rest) = inl refl
one_of_two_behind_key (CellAlias name ∷ rest) = inl refl
one_of_two_behind_key (OddPiece odd.Indicator ∷ rest) = inl refl
one_of_two_behind_key (OddPiece odd.Unkeyed ∷ rest) = inl refl
one_of_two_behind_key (OddPiece odd.Unsupported ∷ rest) = inr refl
one_of_two_behind_key (OddPiece odd.Syntax ∷ rest) = inl refl

one_of_two_piece : (front : List Piece) (piece : Piece) (rest : List Piece) (kind : FaultKind) → IsPieceKind front piece rest kind → IsOneOfTwo kind
one_of_two_piece front (Opening bracket) rest kind h = subst IsOneOfTwo (sym h) (one_of_two_chosen (closes_at 0 rest))
one_of_two_piece front (Closing bracket) rest kind h = inl h
one_of_two_piece front Comma rest kind h = inl h
one_of_two_piece front (CellKey bytes) rest kind h = inl h
one_of_two_piece front (CellScalar bytes) rest kind (inl h) = subst IsOneOfTwo (sym h.1) (one_of_two_behind_key rest)
one_of_two_piece front (CellScalar bytes) rest kind (inr h) = inl h.1
one_of_two_piece front (CellAnchor name) rest kind h = inl h
one_of_two_piece front (CellAlias name) rest kind h = inl h
one_of_two_piece front (OddPiece odd.Syntax) rest kind h = inl h
one_of_two_piece front (OddPiece odd.Unkeyed) rest kind h = inl h
one_of_two_piece front (OddPiece odd.Unsupported) rest kind h = inr h
one_of_two_piece front (OddPiece odd.Indicator) rest NotUtf8 h = absurd h
one_of_two_piece front (OddPiece odd.Indicator) rest Syntax h = inl refl
one_of_two_piece front (OddPiece odd.Indicator) rest Unsupported h = inr refl
one_of_two_piece front (OddPiece odd.Indicator) rest Duplicate h = absurd h
one_of_two_piece front (OddPiece odd.Indicator) rest Alias h = absurd h
one_of_two_piece front (OddPiece odd.Indicator) rest TooDeep h = absurd h
one_of_two_piece front (OddPiece odd.Indicator) rest TooManyNodes h = absurd h

one_of_two_flow : (pieces : List Piece) (kind : FaultKind) → IsFlowMisfit pieces kind → IsOneOfTwo kind
one_of_two_flow pieces kind h = elim h [
  | inl first ↦ one_of_two_piece first.front first.piece first.rest kind first.kind_is
  | inr open_still ↦ inr open_still.kind_is
]

one_of_two : (front : List Token) (m : Token) (kind : FaultKind) → IsKindAt front m kind → IsOneOfTwo kind
one_of_two front (Dash line column) kind h = inl h
one_of_two front (Key line column bytes) kind h = inl h
one_of_two front (Scalar line column bytes) kind h = inl h
one_of_two front (Anchor line column bytes) kind h = inl h
one_of_two front (Alias line column bytes) kind h = inl h
one_of_two front (Bar line column chomp) kind h = inl h
one_of_two front (Body line column bytes) kind h = inl h
one_of_two front (Form line column pieces) kind h = elim h [
  | inl may ↦ one_of_two_flow pieces kind may.1
  | inr may_not ↦ subst IsOneOfTwo (sym may_not.1) (one_of_two_odd (why_bracket pieces))
]
one_of_two front (OddToken line column odd.Syntax) kind h = inl h
one_of_two front (OddToken line column odd.Unsupported) kind h = inr h
one_of_two front (OddToken line column odd.Unkeyed) NotUtf8 h = absurd h
one_of_two front (OddToken line column odd.Unkeyed) Syntax h = inl refl
one_of_two front (OddToken line column odd.Unkeyed) Unsupported h = inr refl
one_of_two front (OddToken line column odd.Unkeyed) Duplicate h = absurd h
one_of_two front (OddToken line column odd.Unkeyed) Alias h = absurd h
one_of_two front (OddToken line column odd.Unkeyed) TooDeep h = absurd h
one_of_two front (OddToken line column odd.Unkeyed) TooManyNodes h = absurd h
one_of_two front (OddToken line column odd.Indicator) NotUtf8 h = absurd h
one_of_two front (OddToken line column odd.Indicator) Syntax h = inl refl
one_of_two front (OddToken line column odd.Indicator) Unsupported h = inr refl
one_of_two front (OddToken line column odd.Indicator) Duplicate h = absurd h
one_of_two front (OddToken line column odd.Indicator) Alias h = absurd h
one_of_two front (OddToken line column odd.Indicator) TooDeep h = absurd h
one_of_two front (OddToken line column odd.Indicator) TooManyNodes h = absurd h

misfit_refused : (lines : List (List ℕ)) (kind : FaultKind) → IsMisfit (tokens_of lines) kind → IsRefused lines kind
misfit_refused lines kind h = elim (one_of_two h.front h.token kind h.kind_is) [
  | inl e ↦ subst (IsRefused lines) (sym e) (subst (IsMisfit (tokens_of lines)) e h)
  | inr e ↦ subst (IsRefused lines) (sym e) (subst (IsMisfit (tokens_of lines)) e h)
]

-- what the lines are written as, their tree, and the builder that stands for it
abbrev LinesStand : List (List ℕ) → Builder → Type 0
LinesStand lines b = (w : Written) × Spells (tokens_of lines) w × IsTree lines (tree_of w) × StandsFor b w

abbrev pub ReadsTo : List (List ℕ) → Result Builder YamlFault → Type 0
ReadsTo lines (Ok b) = LinesStand lines b
ReadsTo lines (Err fault) = IsFirstRefused lines fault.line fault.kind

abbrev LineRead : List (List ℕ) → Result Builder FaultKind → Type 0
LineRead lines (Ok b) = LinesStand lines b
LineRead lines (Err kind) = IsRefused lines kind

line_read : (done : List (List ℕ)) (line : List ℕ) (i : ℕ) (b : Builder) (w : Written) → length done ≡ i → StandsFor b w → Spells (tokens_of done) w → LineRead (done ++ (line ∷ [])) (read_line (begun_after false done) (place_behind_all done) (1 + i) line b)
unfolding read_line
line_read done line i b w at s spelled = by (take_tokens ms b) (tokens_taken flow_reader flow_judged (tokens_of done) ms b w s reads)
  where
    ms : List Token
    ms = line_tokens (begun_after false done) (place_behind_all done) (1 + i) line

    all : List (List ℕ)
    all = done ++ (line ∷ [])

    pushed : tokens_of all ≡ tokens_of done ++ ms
    pushed = tokens_of_push done line i at

    reads : with_tokens flow_reader (tokens_of done) nothing ≡ Some w
    reads = read_from_Spells flow_reader (tokens_of done) w spelled

    spelled_behind : (new : Written) → with_tokens flow_reader ms w ≡ Some new → Spells (tokens_of all) new
    spelled_behind new e = Spells_from_read flow_reader (tokens_of all) new
        (ap (λ ns. with_tokens flow_reader ns nothing) pushed ∙ with_tokens_append flow_reader (tokens_of done) ms nothing ∙ ap (option_and_then (with_tokens flow_reader ms)) reads ∙ e)

    after : (b' : Builder) (new : Written) → StandsFor b' new → Spells (tokens_of all) new → (r : Result Builder FaultKind) → JudgedTo b' all (tree_of new) r → LineRead all r
    after b' new s' spelled' (Ok c) h = (new, spelled', h.0, subst (λ x. StandsFor x new) (sym h.1) s')
    after b' new s' spelled' (Err kind) h = h

    by : (r : Result Builder FaultKind) → TokensTaken flow_reader (tokens_of done) ms w r → LineRead all (r >>= judged)
    by (Ok b') h = let now = spelled_behind h.0 h.1 in after b' h.0 h.2 now (judged b') (judged_means b' all h.0 h.2 now)
    by (Err kind) h = misfit_refused all kind (subst (λ ns. IsMisfit ns kind) (sym pushed) h)

pub lines_read : (lines rest : List (List ℕ)) (i : ℕ) (b : Builder) → i ≤ length lines → drop i lines ≡ rest → LinesStand (take i lines) b → ((m : ℕ) → m ≤ i → HasTree (take m lines)) → ReadsTo lines (read_lines (begun_after false (take i lines)) (place_behind_all (take i lines)) (1 + i) rest b)
unfolding read_lines
lines_read lines [] i b within at stand all =
    let len : length lines ≤ i = (let d = length-drop i lines in let e = ap length at in omega arith) in
    subst (λ ls. LinesStand ls b) (take_all i lines len) stand
lines_read lines (line ∷ rest) i b within at stand all =
    let lt : i < length lines = (let d = length-drop i lines in let e = ap length at in omega arith) in
    let first = drop_more lines i [] lt in
    let here : get_or lines i [] ≡ line = cc in
    let left : drop (i + 1) lines ≡ rest = cc in
    let next : take (i + 1) lines ≡ take i lines ++ (line ∷ []) = take_more lines i [] lt ∙ ap (λ x. take i lines ++ (x ∷ [])) here in
    let done : List (List ℕ) = take i lines in
    let many : length done ≡ i = length-take-le i lines within in
    let begun : begun_after false (take (i + 1) lines) ≡ (begun_after false done || has_content line) = ap (begun_after false) next ∙ begun_after_push false done line in
    let stands : place_behind_all (take (i + 1) lines) ≡ next_place (begun_after false done) (place_behind_all done) (1 + i) line = ap place_behind_all next ∙ place_of_next_push false (Outside None) 1 done line
    ∙ ap (λ k. next_place (begun_after false done) (place_behind_all done) (1 + k) line) many in
    let n : 1 + (i + 1) ≡ 1 + (1 + i) = omega arith in
    elim (read_line (begun_after false done) (place_behind_all done) (1 + i) line b) as (λ r. LineRead (done ++ (line ∷ [])) r → ReadsTo lines (at_line (1 + i) r >>= read_lines (begun_after false done || has_content line) (next_place (begun_after false done) (place_behind_all done) (1 + i) line) (1 + (1 + i)) rest)) [
      | Ok after ↦ λ h. (let longer : LinesStand (take (i + 1) lines) after = subst (λ ls. LinesStand ls after) (sym next) h in
          subst (λ k. ReadsTo lines (read_lines (begun_after false done || has_content line) (next_place (begun_after false done) (place_behind_all done) (1 + i) line) k rest after)) n
          (subst (λ p. ReadsTo lines (read_lines (begun_after false done || has_content line) p (1 + (i + 1)) rest after)) stands
          (subst (λ q. ReadsTo lines (read_lines q (place_behind_all (take (i + 1) lines)) (1 + (i + 1)) rest after)) begun
          (lines_read lines rest (i + 1) after (omega (arith, lt)) left longer
          (λ m le. up_to lines i all (tree_of longer.0, longer.2) m le)))))
      | Err kind ↦ λ h. record {
        within = omega (arith, lt);
        before = λ m less. all m (omega (arith, less));
        refused = subst (λ ls. IsRefused ls kind) (sym next ∙ (let e : i + 1 ≡ 1 + i = omega arith in ap (λ k. take k lines) e)) h;
      }
    ]
    (line_read done line i b stand.0 many stand.3 stand.1)
  where
    up_to : (lines : List (List ℕ)) (i : ℕ) → ((m : ℕ) → m ≤ i → HasTree (take m lines)) → HasTree (take (i + 1) lines) → (m : ℕ) → m ≤ i + 1 → HasTree (take m lines)
    up_to lines i all last m le = elim (cases_lt i m) [
      | inl lt ↦ (let e : i + 1 ≡ m = omega (arith, lt, le) in subst (λ k. HasTree (take k lines)) e last)
      | inr ge ↦ all m ge
    ]

-- ---- the whole text

-- no lines say null
empty_tree : IsTree [] (null 1)
unfolding tokens_from
empty_tree = record { says = record { written = nothing; spelled = (refl, tt); said = refl }; distinct = refl; known = refl; shallow = omega arith; small = omega arith }

empty_stands : (alloc : Global) → LinesStand [] (fresh alloc)
unfolding tokens_from
empty_stands alloc = (nothing, (refl, tt), empty_tree, fresh_stands alloc)

pub read_means : (lines : List (List ℕ)) (alloc : Global) → ReadsTo lines (read_lines false (Outside None) 1 lines (fresh alloc))
read_means lines alloc = lines_read lines lines 0 (fresh alloc) (omega arith) refl (empty_stands alloc)
    (λ m le. let e : 0 ≡ m = omega (arith, le) in subst (λ k. HasTree (take k lines)) e (null 1, empty_tree))

node_is_in : (nodes : List Node) (t : Said) (n : ℕ) → HoldsSaid nodes t n → n < length nodes
node_is_in nodes (null line) n h = slice_get_within nodes n _ h
node_is_in nodes (text line bytes) n h = slice_get_within nodes n _ h
node_is_in nodes (unknown line) n h = slice_get_within nodes n _ h
node_is_in nodes (sequence line) n h = slice_get_within nodes n _ h
node_is_in nodes (mapping line) n h = slice_get_within nodes n _ h
node_is_in nodes (with_item before value) n h = slice_get_within nodes n _ h.4
node_is_in nodes (with_pair before line key value) n h = slice_get_within nodes n _ h.4

pub root_is_in : (lines : List (List ℕ)) (alloc : Global) (b : Builder) → read_lines false (Outside None) 1 lines (fresh alloc) ≡ Ok b → RootIsIn b
root_is_in lines alloc b e = let r : ReadsTo lines (Ok b) = subst (ReadsTo lines) e (read_means lines alloc) in
    node_is_in _ (tree_of r.0) (root_number b) (whole_holds b r.0 r.3)

fault_of_lines : (bytes : List ℕ) (line : ℕ) (kind : FaultKind) → IsUtf8 bytes → IsFirstRefused (lines_of bytes) line kind → IsFaultOf bytes line kind
fault_of_lines bytes line NotUtf8 u h = absurd h.refused
fault_of_lines bytes line Syntax u h = (u, h)
fault_of_lines bytes line Unsupported u h = (u, h)
fault_of_lines bytes line Duplicate u h = (u, h)
fault_of_lines bytes line Alias u h = (u, h)
fault_of_lines bytes line TooDeep u h = (u, h)
fault_of_lines bytes line TooManyNodes u h = (u, h)

pub tree_read : (bytes : List ℕ) (alloc : Global) (r : Result Tree TreeError) → IsUtf8 bytes → IsReading (read_lines false (Outside None) 1 (lines_of bytes) (fresh alloc)) r → IfOk r (λ t. (said : Said) × IsTreeOf bytes said × Holds t said)
tree_read bytes alloc (Ok t) u h = let r : ReadsTo (lines_of bytes) (Ok h.0) = subst (ReadsTo (lines_of bytes)) h.1 (read_means (lines_of bytes) alloc) in
    (tree_of r.0, (u, r.2), subst (HoldsSaid t.nodes (tree_of r.0)) (sym h.2.1) (subst (λ ns. HoldsSaid ns (tree_of r.0) (root_number h.0)) (sym h.2.0) (whole_holds h.0 r.0 r.3)))
tree_read bytes alloc (Err e) u h = tt

pub error_read : (bytes : List ℕ) (alloc : Global) (r : Result Tree TreeError) → IsUtf8 bytes → IsReading (read_lines false (Outside None) 1 (lines_of bytes) (fresh alloc)) r → IfErr r (IsErrorOf bytes)
error_read bytes alloc (Ok t) u h = tt
error_read bytes alloc (Err (tree.Fault fault)) u h = fault_of_lines bytes fault.line fault.kind u (subst (ReadsTo (lines_of bytes)) h (read_means (lines_of bytes) alloc))
error_read bytes alloc (Err tree.NoMemory) u h = tt

pub error_passes : (A : Type 0) (error : TreeError) (new : Builder) (read other : Result Builder YamlFault) → read ≡ other → ReadsLine {A = A} (Err error) new read → IsReading other (Err error)
error_passes A (tree.Fault fault) new read other e h = sym e ∙ h
error_passes A tree.NoMemory new read other e h = tt
