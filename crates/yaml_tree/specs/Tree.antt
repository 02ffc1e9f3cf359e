-- The tree of a text, and the fault of a text that has none.
use Rattle.std.specs.Prelude.{◌≡◌, ◌⊎◌, ℕ, Bool, ◌+◌, ◌<◌, ◌≤◌, true, false, List, [], ◌∷◌, ◌++◌, None, length, take, count_by, ◌==◌}
use Rattle.std.specs.List.{list_all}
use Rattle.std.specs.Str.{IsUtf8}
use Rattle.std.specs.Str.Lossy.{utf8_valid_len}
use Rattle.sim_base.specs.Ascii.{line_feed}
use Rattle.yaml_tokens.specs.Lines.{lines_of}
use Rattle.yaml_tokens.specs.Pieces.{why_bracket}
use Rattle.yaml_tree.specs.Flows.{IsFlowMisfit}
use Rattle.yaml_tokens.specs.Tokens.{tokens_of}
use Rattle.yaml_tokens.specs.declared.token.Token.{Token}
use Rattle.yaml_tokens.specs.declared.token.Token.TheVariants.{Key, Scalar, Form, OddToken}
use Rattle.yaml_tree.specs.Written.{Written, Spells, is_name}
use Rattle.yaml_tree.specs.Said.{Said, tree_of, has_repeat, has_unknown, levels, size}
use Rattle.yaml_tree.specs.declared.fault.FaultKind.{FaultKind}
use Rattle.yaml_tree.specs.declared.fault.FaultKind.TheVariants.{NotUtf8, Syntax, Unsupported, Duplicate, Alias, TooDeep, TooManyNodes}
use Rattle.yaml_tokens.specs.declared.odd.Odd.{Odd}
use Rattle.yaml_tokens.specs.declared.odd.Odd.TheVariants as odd
use Rattle.yaml_tree.specs.Limits.{most_tree_levels, most_tree_nodes}

-- the lines say this tree by one of the six rules at each place
pub record Says (lines : List (List ℕ)) (tree : Said) : Type 0 where
  pub written : Written
  pub spelled : Spells (tokens_of lines) written
  pub said : tree_of written ≡ tree

-- the lines have this tree: they say it, no key is repeated, no alias is of an unknown node, and it is within the
-- limits
pub record IsTree (lines : List (List ℕ)) (tree : Said) : Type 0 where
  pub says : Says lines tree
  pub distinct : has_repeat tree ≡ false
  pub known : has_unknown tree ≡ false
  pub shallow : levels tree ≤ most_tree_levels
  pub small : size tree ≤ most_tree_nodes

abbrev pub HasTree : List (List ℕ) → Type 0
HasTree lines = (tree : Said) × IsTree lines tree

-- a tree as it is written begins with these tokens
abbrev pub MayBegin : List Token → Type 0
MayBegin ms = (rest : List Token) × (written : Written) × Spells (ms ++ rest) written

-- behind the front a value may begin at this column
abbrev pub ValueMayBegin : List Token → ℕ → ℕ → Type 0
ValueMayBegin front line column = MayBegin (front ++ (Scalar line column None ∷ []))

-- behind the front a key may begin at this column
abbrev pub KeyMayBegin : List Token → ℕ → ℕ → Type 0
KeyMayBegin front line column = MayBegin (front ++ (Key line column [] ∷ []))

abbrev pub kind_of : Odd → FaultKind
kind_of odd.Indicator = Syntax
kind_of odd.Unkeyed = Syntax
kind_of odd.Unsupported = Unsupported
kind_of odd.Syntax = Syntax

-- The kind of fault where this token can't stand behind the front. Of a flow form where a value may begin it is that
-- of its first piece which can't stand.
abbrev pub IsKindAt : List Token → Token → FaultKind → Type 0
IsKindAt front (OddToken line column odd.Syntax) kind = kind ≡ Syntax
IsKindAt front (OddToken line column odd.Unsupported) kind = kind ≡ Unsupported
IsKindAt front (OddToken line column odd.Indicator) Unsupported = ValueMayBegin front line column
IsKindAt front (OddToken line column odd.Indicator) Syntax = ¬ ValueMayBegin front line column
IsKindAt front (OddToken line column odd.Indicator) _ = ⊥
IsKindAt front (OddToken line column odd.Unkeyed) Unsupported = KeyMayBegin front line column
IsKindAt front (OddToken line column odd.Unkeyed) Syntax = ¬ KeyMayBegin front line column
IsKindAt front (OddToken line column odd.Unkeyed) _ = ⊥
IsKindAt front (Form line column pieces) kind = (ValueMayBegin front line column × IsFlowMisfit pieces kind) ⊎ ((¬ ValueMayBegin front line column) × (kind ≡ kind_of (why_bracket pieces)))
IsKindAt front _ kind = kind ≡ Syntax

-- The tokens are no tree's: the first of them that can't stand behind those before it tells the kind.
pub record IsMisfit (ms : List Token) (kind : FaultKind) : Type 0 where
  pub front : List Token
  pub token : Token
  pub rest : List Token
  pub parts : ms ≡ front ++ (token ∷ rest)
  pub begins : MayBegin front
  pub ends : ¬ MayBegin (front ++ (token ∷ []))
  pub kind_is : IsKindAt front token kind

-- The lines have no tree for this reason: they fit no rule, or what they say has a repeated key, or has none and a
-- alias of an unknown node, or neither and is too deep, or isn't too deep and has too many nodes.
abbrev pub IsRefused : List (List ℕ) → FaultKind → Type 0
IsRefused lines NotUtf8 = ⊥
IsRefused lines Syntax = IsMisfit (tokens_of lines) Syntax
IsRefused lines Unsupported = IsMisfit (tokens_of lines) Unsupported
IsRefused lines Duplicate = (tree : Said) × Says lines tree × (has_repeat tree ≡ true)
IsRefused lines Alias = (tree : Said) × Says lines tree × (has_repeat tree ≡ false) × (has_unknown tree ≡ true)
IsRefused lines TooDeep = (tree : Said) × Says lines tree × (has_repeat tree ≡ false) × (has_unknown tree ≡ false) × (most_tree_levels < levels tree)
IsRefused lines TooManyNodes = (tree : Said) × Says lines tree × (has_repeat tree ≡ false) × (has_unknown tree ≡ false) × (levels tree ≤ most_tree_levels) × (most_tree_nodes < size tree)

-- the first of the lines up to which there is no tree, and why
pub record IsFirstRefused (lines : List (List ℕ)) (number : ℕ) (kind : FaultKind) : Type 0 where
  pub within : number ≤ length lines
  pub before : (n : ℕ) → n < number → HasTree (take n lines)
  pub refused : IsRefused (take number lines) kind

-- a document is empty that has no token but a name
abbrev pub is_empty_document : List (List ℕ) → Bool
is_empty_document lines = list_all is_name (tokens_of lines)

-- the line of the first byte that breaks UTF-8
abbrev pub line_of_break : List ℕ → ℕ
line_of_break text = 1 + count_by (λ b. b == line_feed) (take (utf8_valid_len text) text)

abbrev pub IsTreeOf : List ℕ → Said → Type 0
IsTreeOf text tree = IsUtf8 text × IsTree (lines_of text) tree

abbrev pub IsFaultOf : List ℕ → ℕ → FaultKind → Type 0
IsFaultOf text line NotUtf8 = ¬ IsUtf8 text × (line ≡ line_of_break text)
IsFaultOf text line kind = IsUtf8 text × IsFirstRefused (lines_of text) line kind
