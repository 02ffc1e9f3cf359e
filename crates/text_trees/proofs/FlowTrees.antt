-- What a flow form of UTF-8 says is UTF-8, with rows of one kind in each collection.
use Rattle.std.proofs.Common.{◌≡◌, ℕ, Bool, true, false, ◌==◌, cond, List, [], ◌∷◌, ◌++◌, Option, Some, None, IfSome, IsUtf8, unwrap_or, refl, sym, ◌∙◌, true≢false}
use Rattle.std.specs.Cmp.Lexicographic.{pointwise}
use Rattle.std.specs.List.{AllByRecursion}
use Rattle.std.specs.Map.{lookup}
use Rattle.yaml_tokens.specs.declared.piece.Bracket.{Bracket}
use Rattle.yaml_tokens.specs.declared.piece.Bracket.TheVariants.{Square, Curly}
use Rattle.yaml_tokens.specs.declared.piece.Piece.{Piece}
use Rattle.yaml_tokens.specs.declared.piece.Piece.TheVariants.{Opening, Closing, Comma, CellKey, CellScalar, CellAnchor, CellAlias, OddPiece}
use Rattle.yaml_tree.specs.Flows.{Flow, spelling, comma_if, is_cell_word, is_cell_key, IsValue, AreCells, IsForm}
use Rattle.yaml_tree.specs.Flows.Flow.{absent, word, called, item, pair, form}
use Rattle.yaml_tree.specs.Said.{Said, Anchors, Meaning, copied, from_line, given, flow_said, begun_form, word_said, piece_text, scalar_said}
use Rattle.yaml_tree.specs.Said.Said.{null, text, unknown, sequence, mapping, with_item, with_pair}
use Rattle.yaml_merge.specs.Plainness.{are_items, are_pairs}
use Rattle.text_trees.proofs.GoodPieces.{IsGoodPiece}

-- the rows of each collection are of one kind, and each text is UTF-8
abbrev pub IsSound : Said → Type 0
IsSound (null line) = Unit {0}
IsSound (text line bytes) = IsUtf8 bytes
IsSound (unknown line) = Unit {0}
IsSound (sequence line) = Unit {0}
IsSound (mapping line) = Unit {0}
IsSound (with_item before value) = (are_items before ≡ true) × IsSound before × IsSound value
IsSound (with_pair before line key value) = (are_pairs before ≡ true) × IsUtf8 key × IsSound before × IsSound value

abbrev pub AreSound : Anchors → Type 0
AreSound names = AllByRecursion (λ n. IsSound n.1) names

-- what is said, and the names behind it
abbrev pub IsSoundMeaning : Meaning → Type 0
IsSoundMeaning m = IsSound m.0 × AreSound m.1

pub copied_sound : (line : ℕ) (n : List ℕ) (names : Anchors) → AreSound names → IsSound (copied line n names)
copied_sound line n [] h = tt
copied_sound line n (e ∷ names) h = by (pointwise ◌==◌ n e.0) (copied_sound line n names h.1)
  where
    by : (t : Bool) → IsSound (copied line n names) → IsSound (unwrap_or (cond t (Some e.1) (lookup (pointwise ◌==◌ n) names)) (unknown line))
    by true more = h.0
    by false more = more

pub scalar_sound : (line : ℕ) (value : Option (List ℕ)) → IfSome value IsUtf8 → IsSound (scalar_said line value)
scalar_sound line None h = tt
scalar_sound line (Some bytes) h = h

are_items_from_line : (n : ℕ) (tree : Said) → are_items (from_line n tree) ≡ are_items tree
are_items_from_line n (null line) = refl
are_items_from_line n (text line bytes) = refl
are_items_from_line n (unknown line) = refl
are_items_from_line n (sequence line) = refl
are_items_from_line n (mapping line) = refl
are_items_from_line n (with_item before value) = are_items_from_line n before
are_items_from_line n (with_pair before line key value) = refl

are_pairs_from_line : (n : ℕ) (tree : Said) → are_pairs (from_line n tree) ≡ are_pairs tree
are_pairs_from_line n (null line) = refl
are_pairs_from_line n (text line bytes) = refl
are_pairs_from_line n (unknown line) = refl
are_pairs_from_line n (sequence line) = refl
are_pairs_from_line n (mapping line) = refl
are_pairs_from_line n (with_item before value) = refl
are_pairs_from_line n (with_pair before line key value) = are_pairs_from_line n before

-- whichever line a tree begins on
from_line_sound : (n : ℕ) (tree : Said) → IsSound tree → IsSound (from_line n tree)
from_line_sound n (null line) h = h
from_line_sound n (text line bytes) h = h
from_line_sound n (unknown line) h = h
from_line_sound n (sequence line) h = h
from_line_sound n (mapping line) h = h
from_line_sound n (with_item before value) h = (are_items_from_line n before ∙ h.0, from_line_sound n before h.1, h.2)
from_line_sound n (with_pair before line key value) h = (are_pairs_from_line n before ∙ h.0, h.1, from_line_sound n before h.2, h.3)

pub given_sound : (line : ℕ) (n : List ℕ) (m : Meaning) → IsSoundMeaning m → IsSoundMeaning (given line n m)
given_sound line n m h = let node = from_line_sound line m.0 h.0 in (node, (node, h.1))

-- ---- flow forms

-- rows of the kind of a bracket
abbrev AreRowsOf : Bracket → Said → Type 0
AreRowsOf Square tree = are_items tree ≡ true
AreRowsOf Curly tree = are_pairs tree ≡ true

abbrev pub AreGood : List Piece → Type 0
AreGood pieces = AllByRecursion IsGoodPiece pieces

good_front : (xs ys : List Piece) → AreGood (xs ++ ys) → AreGood xs
good_front [] ys h = tt
good_front (x ∷ xs) ys h = (h.0, good_front xs ys h.1)

good_back : (xs ys : List Piece) → AreGood (xs ++ ys) → AreGood ys
good_back [] ys h = h
good_back (x ∷ xs) ys h = good_back xs ys h.1

word_sound : (line : ℕ) (piece : Piece) (names : Anchors) → is_cell_word piece ≡ true → IsGoodPiece piece → AreSound names → IsSound (word_said line piece names)
word_sound line (CellScalar value) names e g h = scalar_sound line value g
word_sound line (CellAlias n) names e g h = copied_sound line n names h
word_sound line (Opening bracket) names e g h = tt
word_sound line (Closing bracket) names e g h = tt
word_sound line Comma names e g h = tt
word_sound line (CellKey bytes) names e g h = tt
word_sound line (CellAnchor n) names e g h = tt
word_sound line (OddPiece why) names e g h = tt

key_utf8 : (piece : Piece) → is_cell_key piece ≡ true → IsGoodPiece piece → IsUtf8 (piece_text piece)
key_utf8 (CellKey bytes) e g = g
key_utf8 (Opening bracket) e g = absurd (true≢false (sym e))
key_utf8 (Closing bracket) e g = absurd (true≢false (sym e))
key_utf8 Comma e g = absurd (true≢false (sym e))
key_utf8 (CellScalar value) e g = absurd (true≢false (sym e))
key_utf8 (CellAnchor n) e g = absurd (true≢false (sym e))
key_utf8 (CellAlias n) e g = absurd (true≢false (sym e))
key_utf8 (OddPiece why) e g = absurd (true≢false (sym e))

abbrev AreSoundRows : Bracket → Meaning → Type 0
AreSoundRows bracket m = AreRowsOf bracket m.0 × IsSoundMeaning m

begun_form_is : (bracket : Bracket) (line : ℕ) (names : Anchors) → AreSound names → AreSoundRows bracket (begun_form bracket line, names)
begun_form_is Square line names h = (refl, (tt, h))
begun_form_is Curly line names h = (refl, (tt, h))

-- a bracket is of one kind
square_or_curly : Curly ≡ Square → ⊥
square_or_curly e = cc

mutual
  flow_value : (f : Flow) (line : ℕ) (none : Said) (names : Anchors) → IsValue f → AreGood (spelling f) → IsSound none → AreSound names → IsSoundMeaning (flow_said line none names f)
  flow_value absent line none names v g n h = absurd v
  flow_value (word piece) line none names v g n h = (word_sound line piece names v g.0 h, h)
  flow_value (called piece absent) line none names v g n h = given_sound line (piece_text piece) (none, names) (n, h)
  flow_value (called piece (word other)) line none names v g n h = given_sound line (piece_text piece) (flow_said line none names (word other)) (flow_value (word other) line none names v.2 g.1 n h)
  flow_value (called piece (called other value)) line none names v g n h = given_sound line (piece_text piece) (flow_said line none names (called other value)) (flow_value (called other value) line none names v.2 g.1 n h)
  flow_value (called piece (item before value)) line none names v g n h = absurd v.2
  flow_value (called piece (pair before key value)) line none names v g n h = absurd v.2
  flow_value (called piece (form bracket cells last)) line none names v g n h = given_sound line (piece_text piece) (flow_said line none names (form bracket cells last)) (flow_value (form bracket cells last) line none names v.2 g.1 n h)
  flow_value (item before value) line none names v g n h = absurd v
  flow_value (pair before key value) line none names v g n h = absurd v
  flow_value (form bracket cells last) line none names v g n h = (flow_cells cells bracket line names v.0 (good_front (spelling cells) _ g.1) h).1

  flow_cells : (f : Flow) (bracket : Bracket) (line : ℕ) (names : Anchors) → AreCells bracket f → AreGood (spelling f) → AreSound names → AreSoundRows bracket (flow_said line (begun_form bracket line) names f)
  flow_cells absent bracket line names v g h = begun_form_is bracket line names h
  flow_cells (word piece) bracket line names v g h = absurd v
  flow_cells (called piece value) bracket line names v g h = absurd v
  flow_cells (item before value) Square line names v g h =
      let b = flow_cells before Square line names v.1 (good_front (spelling before) _ g) h in
      let m = flow_said line (sequence line) names before in
      let x = flow_value value line (null line) m.1 v.2 (good_back (comma_if _) (spelling value) (good_back (spelling before) _ g)) tt b.1.1 in
      (b.0, ((b.0, b.1.0, x.0), x.1))
  flow_cells (item before value) Curly line names v g h = absurd (square_or_curly v.0)
  flow_cells (pair before key value) Square line names v g h = absurd (square_or_curly (sym v.0))
  flow_cells (pair before key value) Curly line names v g h =
      let b = flow_cells before Curly line names v.2 (good_front (spelling before) _ g) h in
      let m = flow_said line (mapping line) names before in
      let k = good_back (comma_if _) (key ∷ spelling value) (good_back (spelling before) _ g) in
      let x = flow_value value line (null line) m.1 v.3 k.1 tt b.1.1 in
      (b.0, ((b.0, key_utf8 key v.1 k.0, b.1.0, x.0), x.1))
  flow_cells (form other cells last) bracket line names v g h = absurd v

pub form_sound : (f : Flow) (line : ℕ) (none : Said) (names : Anchors) → IsForm f → AreGood (spelling f) → IsSound none → AreSound names → IsSoundMeaning (flow_said line none names f)
form_sound absent line none names v g n h = absurd v
form_sound (word piece) line none names v g n h = absurd v
form_sound (called piece value) line none names v g n h = absurd v
form_sound (item before value) line none names v g n h = absurd v
form_sound (pair before key value) line none names v g n h = absurd v
form_sound (form bracket cells last) line none names v g n h = flow_value (form bracket cells last) line none names v g n h
