-- How a tree is written over columns: which tokens spell it, and which columns they may have. The rules are those of
-- this project's own profile of YAML 1.2.
use Rattle.std.specs.Prelude.{◌≡◌, ℕ, ◌+◌, ◌*◌, ◌<◌, Bool, true, false, List, [], ◌∷◌, ◌++◌}
use Rattle.yaml_tokens.specs.declared.token.Token.{Token}
use Rattle.yaml_tokens.specs.declared.token.Token.TheVariants.{Dash, Key, Scalar, Anchor, Alias, Bar, Body, Form, OddToken}
use Rattle.yaml_tree.specs.Flows.{Flow, SpellsFlow}

-- A tree as it is written: no value, which is null; a scalar (rule 3) or an alias (rule 6); a literal block, as its
-- bar and its lines (rule 4); a flow form (rule 5); a value behind its name (rule 6); or a block collection, as its
-- last row, a key (rule 1) or a dash (rule 2) with its value, behind its earlier rows. `nothing` stands before the
-- first row.
pub data Written : Type 0 where
  nothing : Written
  leaf : Token → Written
  literal : Token → List Token → Written
  flowing : Token → Flow → Written
  named : Token → Written → Written
  row : Written → Token → Written → Written

-- the tokens of a tree as it is written, in order
abbrev pub tokens : Written → List Token
tokens nothing = []
tokens (leaf token) = token ∷ []
tokens (literal token lines) = token ∷ lines
tokens (flowing token value) = token ∷ []
tokens (named token value) = token ∷ tokens value
tokens (row before head value) = tokens before ++ (head ∷ tokens value)

abbrev pub line_of : Token → ℕ
line_of (Dash line column) = line
line_of (Key line column text) = line
line_of (Scalar line column text) = line
line_of (Anchor line column text) = line
line_of (Alias line column text) = line
line_of (Bar line column chomp) = line
line_of (Body line column bytes) = line
line_of (Form line column pieces) = line
line_of (OddToken line column why) = line

-- How deep a token stands. A column further right is deeper, and a sequence is deeper than a mapping at the same
-- column: it may be the value of the mapping's key. A line of a literal block is as deep as the block's bar.
abbrev pub depth : Token → ℕ
depth (Dash line column) = 2 + 2 * column
depth (Key line column text) = 1 + 2 * column
depth (Scalar line column text) = 1 + 2 * column
depth (Anchor line column text) = 1 + 2 * column
depth (Alias line column text) = 1 + 2 * column
depth (Bar line column chomp) = 1 + 2 * column
depth (Body line column bytes) = 1 + 2 * column
depth (Form line column pieces) = 1 + 2 * column
depth (OddToken line column why) = 0

abbrev pub is_head : Token → Bool
is_head (Dash line column) = true
is_head (Key line column text) = true
is_head _ = false

abbrev pub is_leaf : Token → Bool
is_leaf (Scalar line column text) = true
is_leaf (Alias line column text) = true
is_leaf _ = false

abbrev pub is_bar : Token → Bool
is_bar (Bar line column chomp) = true
is_bar _ = false

abbrev pub is_name : Token → Bool
is_name (Anchor line column text) = true
is_name _ = false

abbrev pub is_body_line : Token → Bool
is_body_line (Body line column bytes) = true
is_body_line _ = false

abbrev pub is_alias : Token → Bool
is_alias (Alias line column text) = true
is_alias _ = false

-- a name stands before any value but an alias and another name
abbrev pub MayBeNamed : Written → Type 0
MayBeNamed nothing = Unit {0}
MayBeNamed (leaf token) = is_alias token ≡ false
MayBeNamed (literal token lines) = Unit {0}
MayBeNamed (flowing token value) = Unit {0}
MayBeNamed (named token value) = ⊥
MayBeNamed (row before head value) = Unit {0}

-- the lines of the block of this bar
abbrev pub AreBodies : Token → List Token → Type 0
AreBodies token [] = Unit {0}
AreBodies token (line ∷ lines) = (is_body_line line ≡ true) × (depth line ≡ depth token) × AreBodies token lines

-- the token has the pieces of the flow form
abbrev pub IsFlowOf : Token → Flow → Type 0
IsFlowOf (Form line column pieces) value = SpellsFlow pieces value
IsFlowOf _ value = ⊥

-- the rows of a collection begin at one column, with keys alone or with dashes alone
abbrev pub SameRows : Written → Token → Type 0
SameRows nothing head = Unit {0}
SameRows (row before first value) head = depth first ≡ depth head
SameRows _ head = ⊥

-- Each token stands deeper than this, and where its rule admits it: a value deeper than its key or dash, and so its
-- name.
abbrev pub StandsBelow : ℕ → Written → Type 0
StandsBelow outer nothing = Unit {0}
StandsBelow outer (leaf token) = (is_leaf token ≡ true) × (outer < depth token)
StandsBelow outer (literal token lines) = (is_bar token ≡ true) × (outer < depth token) × AreBodies token lines
StandsBelow outer (flowing token value) = (outer < depth token) × IsFlowOf token value
StandsBelow outer (named token value) = (is_name token ≡ true) × (outer < depth token) × MayBeNamed value × StandsBelow outer value
StandsBelow outer (row before head value) = (is_head head ≡ true) × (outer < depth head) × SameRows before head × StandsBelow outer before × StandsBelow (depth head) value

-- these tokens, all of them, are those of the tree as it is written
abbrev pub Spells : List Token → Written → Type 0
Spells ms written = (tokens written ≡ ms) × StandsBelow 0 written
