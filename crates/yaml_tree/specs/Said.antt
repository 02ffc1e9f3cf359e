-- The tree that is written: each node with its line, and each alias in full.
use Rattle.std.specs.Prelude.{ℕ, ◌+◌, Bool, true, false, ◌||◌, List, [], ◌∷◌, Option, Some, None, max, ◌==◌, unwrap_or}
use Rattle.std.specs.Cmp.Lexicographic.{pointwise}
use Rattle.std.specs.Map.{lookup}
use Rattle.yaml_tokens.specs.Literals.{block_text}
use Rattle.yaml_tokens.specs.declared.chomp.Chomp.{Chomp}
use Rattle.yaml_tokens.specs.declared.chomp.Chomp.TheVariants.{Clip}
use Rattle.yaml_tokens.specs.declared.piece.Bracket.{Bracket}
use Rattle.yaml_tokens.specs.declared.piece.Bracket.TheVariants.{Square, Curly}
use Rattle.yaml_tokens.specs.declared.piece.Piece.{Piece}
use Rattle.yaml_tokens.specs.declared.piece.Piece.TheVariants.{CellKey, CellScalar, CellAnchor, CellAlias}
use Rattle.yaml_tree.specs.Flows.{Flow}
use Rattle.yaml_tree.specs.Flows.Flow.{absent, word, called, item, pair, form}
use Rattle.yaml_tokens.specs.declared.token.Token.{Token}
use Rattle.yaml_tokens.specs.declared.token.Token.TheVariants.{Dash, Key, Scalar, Anchor, Alias, Bar, Body}
use Rattle.yaml_tree.specs.Written.{Written, line_of}
use Rattle.yaml_tree.specs.Written.Written.{nothing, leaf, literal, flowing, named, row}

-- A tree: null; a text; an alias of a node that isn't known; or a collection, as its last item, or its last key with
-- its value, behind the earlier ones. Each has the line on which it begins, and a key has its own.
pub data Said : Type 0 where
  null : (line : ℕ) → Said
  text : (line : ℕ) (bytes : List ℕ) → Said
  unknown : (line : ℕ) → Said
  sequence : (line : ℕ) → Said
  mapping : (line : ℕ) → Said
  with_item : Said → Said → Said
  with_pair : Said → (line : ℕ) (key : List ℕ) → Said → Said

-- the complete nodes that have names, the one completed last first
abbrev pub Anchors : Type 0
Anchors = List (List ℕ × Said)

-- what is said, and the names behind it
abbrev pub Meaning : Type 0
Meaning = Said × Anchors

abbrev pub scalar_said : ℕ → Option (List ℕ) → Said
scalar_said line None = null line
scalar_said line (Some bytes) = text line bytes

-- an alias of the last complete node so named; it keeps its lines
abbrev pub copied : ℕ → List ℕ → Anchors → Said
copied line n names = unwrap_or (lookup (pointwise ◌==◌ n) names) (unknown line)

-- the tree, where it begins on this line
abbrev pub from_line : ℕ → Said → Said
from_line n (null line) = null n
from_line n (text line bytes) = text n bytes
from_line n (unknown line) = unknown n
from_line n (sequence line) = sequence n
from_line n (mapping line) = mapping n
from_line n (with_item before value) = with_item (from_line n before) value
from_line n (with_pair before line key value) = with_pair (from_line n before) line key value

-- a node with a name begins on the name's line, and gets the name once it is complete
abbrev pub given : ℕ → List ℕ → Meaning → Meaning
given line n meaning = (from_line line meaning.0, (n, from_line line meaning.0) ∷ meaning.1)

abbrev pub item_behind : Said → Meaning → Meaning
item_behind before meaning = (with_item before meaning.0, meaning.1)

abbrev pub pair_behind : ℕ → List ℕ → Said → Meaning → Meaning
pair_behind line k before meaning = (with_pair before line k meaning.0, meaning.1)

-- ---- flow forms

abbrev pub begun_form : Bracket → ℕ → Said
begun_form Square line = sequence line
begun_form Curly line = mapping line

abbrev pub word_said : ℕ → Piece → Anchors → Said
word_said line (CellScalar value) names = scalar_said line value
word_said line (CellAlias n) names = copied line n names
word_said line _ names = null line

abbrev pub piece_text : Piece → List ℕ
piece_text (CellKey bytes) = bytes
piece_text (CellAnchor bytes) = bytes
piece_text _ = []

-- What a flow form on this line says, behind these names. The second argument is what no value, or the place before
-- the first item, says.
abbrev pub flow_said : ℕ → Said → Anchors → Flow → Meaning
flow_said line none names absent = (none, names)
flow_said line none names (word piece) = (word_said line piece names, names)
flow_said line none names (called piece value) = given line (piece_text piece) (flow_said line none names value)
flow_said line none names (item before value) = let b = flow_said line none names before in item_behind b.0 (flow_said line (null line) b.1 value)
flow_said line none names (pair before piece value) = let b = flow_said line none names before in pair_behind line (piece_text piece) b.0 (flow_said line (null line) b.1 value)
flow_said line none names (form bracket cells last) = flow_said line (begun_form bracket line) names cells

-- ---- blocks

abbrev pub body_of : Token → List ℕ
body_of (Body line column bytes) = bytes
body_of _ = []

abbrev pub bodies_of : List Token → List (List ℕ)
bodies_of [] = []
bodies_of (token ∷ ms) = body_of token ∷ bodies_of ms

abbrev pub chomp_of : Token → Chomp
chomp_of (Bar line column chomp) = chomp
chomp_of _ = Clip

abbrev pub leaf_said : Token → Anchors → Said
leaf_said (Scalar line column value) names = scalar_said line value
leaf_said (Alias line column n) names = copied line n names
leaf_said token names = null (line_of token)

abbrev pub name_of : Token → List ℕ
name_of (Anchor line column n) = n
name_of _ = []

-- a collection that begins with this head
abbrev pub begun_block : Token → Said
begun_block (Dash line column) = sequence line
begun_block token = mapping (line_of token)

-- a row with this head, behind the earlier ones
abbrev pub row_behind : Token → Said → Meaning → Meaning
row_behind (Key line column k) before meaning = pair_behind line k before meaning
row_behind token before meaning = item_behind before meaning

-- What is said, behind these names. The first argument is what no value, or the place before the first row, says.
abbrev pub said : Said → Anchors → Written → Meaning
said none names nothing = (none, names)
said none names (leaf token) = (leaf_said token names, names)
said none names (literal token lines) = (text (line_of token) (block_text (chomp_of token) (bodies_of lines)), names)
said none names (flowing token value) = flow_said (line_of token) none names value
said none names (named token value) = given (line_of token) (name_of token) (said none names value)
said none names (row before head value) = let b = said (begun_block head) names before in row_behind head b.0 (said (null (line_of head)) b.1 value)

-- the tree that is written; a null without text begins on line 1
abbrev pub tree_of : Written → Said
tree_of written = (said (null 1) [] written).0

-- ---- limits

-- whether a key stands in the collection
abbrev pub has_key : List ℕ → Said → Bool
has_key k (with_item before value) = has_key k before
has_key k (with_pair before line other value) = has_key k before || pointwise ◌==◌ k other
has_key k _ = false

-- whether a key stands twice in one mapping
abbrev pub has_repeat : Said → Bool
has_repeat (with_item before value) = has_repeat before || has_repeat value
has_repeat (with_pair before line k value) = (has_repeat before || has_key k before) || has_repeat value
has_repeat _ = false

-- whether an alias is of a name that is unknown or not complete
abbrev pub has_unknown : Said → Bool
has_unknown (unknown line) = true
has_unknown (with_item before value) = has_unknown before || has_unknown value
has_unknown (with_pair before line k value) = has_unknown before || has_unknown value
has_unknown _ = false

-- how many levels of collections
abbrev pub levels : Said → ℕ
levels (null line) = 0
levels (text line bytes) = 0
levels (unknown line) = 0
levels (sequence line) = 1
levels (mapping line) = 1
levels (with_item before value) = max (levels before) (1 + levels value)
levels (with_pair before line k value) = max (levels before) (1 + levels value)

-- how many nodes: each scalar, each null and each collection; aliases count in full
abbrev pub size : Said → ℕ
size (with_item before value) = size before + size value
size (with_pair before line k value) = size before + size value
size _ = 1
