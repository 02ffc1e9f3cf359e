-- The builder stands for a tree as it is written so far: its open collections are the rows on the way to the place
-- where the next value comes, and its nodes and names hold what is whole.
use Rattle.std.proofs.Common.{◌≡◌, ℕ, ◌<◌, Bool, true, false, List, [], ◌∷◌, Option, Some, None, ◌==◌}
use Rattle.std.specs.Cmp.Lexicographic.{pointwise}
use Rattle.std.specs.Map.{lookup}
use Rattle.yaml_tree.specs.Said.{Said, Anchors, Meaning, said, given, begun_block, name_of, bodies_of, chomp_of, has_key}
use Rattle.yaml_tree.specs.Said.Said.{null}
use Rattle.yaml_tree.specs.Holds.{HoldsSaid, HoldsRows, Rows, begins_on}
use Rattle.yaml_tree.specs.Written.{Written, depth, line_of, is_head, is_name, is_bar}
use Rattle.yaml_tree.specs.Written.Written.{nothing, leaf, literal, flowing, named, row}
use Rattle.yaml_tree.specs.inside.Stack.{measured, with_repeat}
use Rattle.yaml_tree.specs.inside.Builder.{find_name}
use Rattle.yaml_tokens.specs.declared.token.Token.{Token}
use Rattle.yaml_tokens.specs.declared.token.Token.TheVariants.{Key}
use Rattle.yaml_tree.specs.declared.literal.Literal.{Literal}
use Rattle.yaml_tree.specs.declared.known.KnownNode.{KnownNode}
use Rattle.yaml_tree.specs.declared.known.GivenName.{GivenName}
use Rattle.yaml_tree.specs.declared.node.Node.{Node}
use Rattle.yaml_tree.specs.declared.stack.Open.{Open}
use Rattle.yaml_tree.specs.declared.builder.Builder.{Builder}

-- ---- nodes and names

-- the node holds the tree, and its measure is the tree's
abbrev pub KnownIs : List Node → KnownNode → Said → Type 0
KnownIs nodes k tree = (k.measure ≡ measured tree) × HoldsSaid nodes tree k.node

abbrev pub NameIs : List Node → Option KnownNode → Option Said → Type 0
NameIs nodes None None = Unit {0}
NameIs nodes (Some k) (Some tree) = KnownIs nodes k tree
NameIs nodes None (Some tree) = ⊥
NameIs nodes (Some k) None = ⊥

-- each name finds the node of the tree that has it
abbrev pub NamesAre : List Node → List (List ℕ × KnownNode) → Anchors → Type 0
NamesAre nodes entries names = (n : List ℕ) → NameIs nodes (find_name entries n) (lookup (pointwise ◌==◌ n) names)

-- a meaning, named where a name waits for it
abbrev pub named_by : Option GivenName → Meaning → Meaning
named_by None meaning = meaning
named_by (Some n) meaning = given n.line n.text meaning

-- ---- frames

-- A row on the way to the place where the next value comes: the rows before it in its collection, its head, and the
-- name of the collection.
pub record Frame : Type 0 where
  pub before : Written
  pub head : Token
  pub name : Option Token

abbrev pub called : Option Token → Written → Written
called None value = value
called (Some token) value = named token value

-- what is written where the next value comes in the innermost of the frames, which stands first
abbrev pub wrap : List Frame → Written → Written
wrap [] value = value
wrap (f ∷ fs) value = wrap fs (called f.name (row f.before f.head value))

-- the names behind what stands before the next value
abbrev pub names_at : List Frame → Anchors
names_at [] = []
names_at (f ∷ fs) = (said (begun_block f.head) (names_at fs) f.before).1

-- the line of a null there
abbrev pub line_at : List Frame → ℕ
line_at [] = 1
line_at (f ∷ fs) = line_of f.head

abbrev pub is_key : Token → Bool
is_key (Key line column text) = true
is_key _ = false

abbrev pub key_of : Token → List ℕ
key_of (Key line column text) = text
key_of _ = []

-- whether the head's key is in the rows before it
abbrev pub repeats : Token → Said → Bool
repeats (Key line column text) before = has_key text before
repeats _ before = false

abbrev pub HasName : Option GivenName → Option Token → Type 0
HasName None None = Unit {0}
HasName (Some n) (Some token) = (is_name token ≡ true) × (n.line ≡ line_of token) × (n.text ≡ name_of token)
HasName None (Some token) = ⊥
HasName (Some n) None = ⊥

abbrev pub rows_of : Open → Rows
rows_of o = record { items = o.items; entries = o.entries }

-- the open collection is that of the frame, whose rows so far say this
pub record OpenIs (nodes : List Node) (o : Open) (f : Frame) (before : Said) : Type 0 where
  pub has_depth : o.depth ≡ depth f.head
  pub has_kind : o.mapping ≡ is_key f.head
  pub has_line : o.line ≡ line_of f.head
  pub has_first : o.first_line ≡ begins_on before
  pub has_key : o.key ≡ key_of f.head
  pub has_name : HasName o.name f.name
  pub has_measure : o.measure ≡ with_repeat (repeats f.head before) (measured before)
  pub holds : HoldsRows nodes before (rows_of o)
  pub heads : is_head f.head ≡ true

abbrev pub before_of : Frame → Anchors → Said
before_of f names = (said (begun_block f.head) names f.before).0

abbrev pub Chain : ℕ → List Frame → Type 0
Chain d [] = Unit {0}
Chain d (f ∷ fs) = (depth f.head < d) × Chain (depth f.head) fs

abbrev pub OpensAre : List Node → List Open → List Frame → Type 0
OpensAre nodes [] [] = Unit {0}
OpensAre nodes [] (f ∷ fs) = ⊥
OpensAre nodes (o ∷ os) [] = ⊥
OpensAre nodes (o ∷ os) (f ∷ fs) = OpenIs nodes o f (before_of f (names_at fs)) × Chain (depth f.head) fs × OpensAre nodes os fs

-- ---- the value

-- the open literal block is this one
pub record LiteralIs (l : Literal) (bar : Token) (lines : List Token) : Type 0 where
  pub is : is_bar bar ≡ true
  pub has_depth : l.depth ≡ depth bar
  pub has_line : l.line ≡ line_of bar
  pub has_chomp : l.chomp ≡ chomp_of bar
  pub has_lines : l.lines ≡ bodies_of lines

abbrev pub ValueIs : Option KnownNode → Option Literal → Builder → List Frame → Written → Type 0
ValueIs (Some k) l b fs value = (l ≡ None) × (b.name ≡ None) × KnownIs b.nodes k (said (null (line_at fs)) (names_at fs) value).0 × NamesAre b.nodes b.names (said (null (line_at fs)) (names_at fs) value).1
ValueIs None (Some l) b fs value = (name : Option Token) × HasName b.name name × (bar : Token) × (lines : List Token) × LiteralIs l bar lines × Chain (depth bar) fs × (value ≡ called name (literal bar lines)) × NamesAre b.nodes b.names (names_at fs)
ValueIs None None b fs value = (name : Option Token) × HasName b.name name × (value ≡ called name nothing) × NamesAre b.nodes b.names (names_at fs)

pub record StandsAt (b : Builder) (fs : List Frame) (value : Written) : Type 0 where
  pub flat : b.cells ≡ []
  pub opens : OpensAre b.nodes b.open_rows fs
  pub is : ValueIs b.value b.literal b fs value

-- between tokens a value that has come is no block collection, and no literal block: one that is open has not come
abbrev pub IsShut : Written → Type 0
IsShut nothing = ⊥
IsShut (leaf token) = Unit {0}
IsShut (literal token lines) = ⊥
IsShut (flowing token value) = Unit {0}
IsShut (named token value) = IsShut value
IsShut (row before head value) = ⊥

abbrev pub Between : Option KnownNode → Written → Type 0
Between None value = Unit {0}
Between (Some k) value = IsShut value

abbrev pub StandsFor : Builder → Written → Type 0
StandsFor b w = (fs : List Frame) × (value : Written) × StandsAt b fs value × (wrap fs value ≡ w) × Between b.value value
