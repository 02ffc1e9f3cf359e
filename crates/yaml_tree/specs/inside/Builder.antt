-- What each step of the builder makes of the nodes, the names and what is open.
use Rattle.std.specs.Prelude.{◌≡◌, ℕ, ◌+◌, ◌*◌, Bool, true, false, ◌&&◌, ◌||◌, List, [], ◌∷◌, ◌++◌, Option, Some, None, Result, Ok, Err, if◌then◌else◌, ◌==◌, nat_lt, length, is_some, is_none}
use Rattle.std.specs.Cmp.Lexicographic.{pointwise}
use Rattle.std.specs.Map.{lookup}
use Rattle.indexmap.specs.IndexMap.{insert_entry}
use Rattle.yaml_tokens.specs.Literals.{block_text}
use Rattle.yaml_tokens.specs.Pieces.{why_bracket}
use Rattle.yaml_tokens.specs.Tokens.{has_content, line_tokens, next_place}
use Rattle.yaml_tree.specs.inside.Outline.{flow_fault}
use Rattle.yaml_tree.specs.inside.Stack.{one_node, unknown_node, new_open, finished, collection, with_next_row, measure_about}
use Rattle.yaml_tree.specs.Holds.{scalar_value}
use Rattle.yaml_tree.specs.Tree.{kind_of}
use Rattle.yaml_tokens.specs.declared.piece.Bracket.{Bracket}
use Rattle.yaml_tokens.specs.declared.piece.Bracket.TheVariants.{Square, Curly}
use Rattle.yaml_tokens.specs.declared.piece.Piece.{Piece}
use Rattle.yaml_tokens.specs.declared.piece.Piece.TheVariants.{Opening, Closing, Comma, CellKey, CellScalar, CellAnchor, CellAlias, OddPiece}
use Rattle.yaml_tokens.specs.declared.token.Token.{Token}
use Rattle.yaml_tokens.specs.declared.token.Token.TheVariants.{Dash, Key, Scalar, Anchor, Alias, Bar, Body, Form, OddToken}
use Rattle.yaml_tokens.specs.declared.chomp.Chomp.{Chomp}
use Rattle.yaml_tree.specs.declared.literal.Literal.{Literal}
use Rattle.yaml_tokens.specs.declared.place.LinePlace.{LinePlace}
use Rattle.yaml_tree.specs.declared.known.Measure.{Measure}
use Rattle.yaml_tree.specs.declared.known.KnownNode.{KnownNode}
use Rattle.yaml_tree.specs.declared.known.GivenName.{GivenName}
use Rattle.yaml_tree.specs.declared.node.Value.{Value}
use Rattle.yaml_tree.specs.declared.node.Value.TheVariants.{Null, Text}
use Rattle.yaml_tree.specs.declared.stack.Open.{Open}
use Rattle.yaml_tree.specs.declared.builder.Builder.{Builder}
use Rattle.yaml_tree.specs.declared.fault.FaultKind.{FaultKind}
use Rattle.yaml_tree.specs.declared.fault.FaultKind.TheVariants.{Syntax, Unsupported, Duplicate, Alias, TooDeep, TooManyNodes}
use Rattle.yaml_tree.specs.declared.fault.YamlFault.{YamlFault}
use Rattle.yaml_tree.specs.declared.fault.TreeError.{TreeError}
use Rattle.yaml_tree.specs.declared.fault.TreeError.TheVariants as tree
use Rattle.yaml_tokens.specs.declared.odd.Odd.{Odd}
use Rattle.yaml_tokens.specs.declared.odd.Odd.TheVariants as odd
use Rattle.yaml_tree.specs.declared.fault.Stop.{Stop}
use Rattle.yaml_tree.specs.declared.fault.Stop.TheVariants as stop
use Rattle.std.specs.declared.alloc.Global.{Global}
use Rattle.sim_base.specs.Refusals.{◌>>=◌}
use Rattle.yaml_tree.specs.Limits.{most_tree_levels, most_tree_nodes}

abbrev pub fresh : Global → Builder
fresh alloc = record { alloc = alloc; hashing = tt; nodes = []; open_rows = []; cells = []; value = None; name = None; literal = None; names = [] }

-- ---- nodes and names

-- the node that has a name, if any
abbrev pub find_name : List (List ℕ × KnownNode) → List ℕ → Option KnownNode
find_name names name = lookup (pointwise ◌==◌ name) names

-- a node that has a name is known by it from now on
abbrev pub named : Option GivenName → KnownNode → List (List ℕ × KnownNode) → List (List ℕ × KnownNode)
named None known names = names
named (Some name) known names = insert_entry (pointwise ◌==◌) names name.text known

-- a node with a name begins on the name's line
abbrev pub begins_at : ℕ → Option GivenName → ℕ
begins_at line None = line
begins_at line (Some name) = name.line

abbrev pub next_known : Measure → Builder → KnownNode
next_known m b = record { node = length b.nodes; measure = m }

-- a node more, which takes the name that waits for a node
unfoldable pub with_node : ℕ → Value → Measure → Builder → Builder
with_node line value m b = record b { nodes = b.nodes ++ record { line = begins_at line b.name; value = value } ∷ []; names = named b.name (next_known m b) b.names; name = None }

-- a node more, which is the value
unfoldable pub put_node : ℕ → Value → Measure → Builder → Builder
put_node line value m b = record (with_node line value m b) { value = Some (next_known m b) }

-- the value, which is a null on this line where none has come
unfoldable pub valued : ℕ → Builder → Builder
valued line b = if is_some b.value then b else put_node line Null one_node b

abbrev pub known_of : Option KnownNode → KnownNode
known_of (Some known) = known
known_of None = record { node = 0; measure = one_node }

-- ---- collections

-- the collection, its last row finished, is the value of the row around it
unfoldable pub closed : Open → Builder → Builder
closed o b = let v = valued o.line b in let rows = finished o (known_of v.value) in
    put_node o.first_line (collection rows) rows.measure (record v { name = o.name })

-- the collections that are deeper are closed
unfoldable pub closed_deeper_on : ℕ → List Open → Builder → Builder
closed_deeper_on depth [] b = b
closed_deeper_on depth (o ∷ os) b = if nat_lt depth o.depth then closed_deeper_on depth os (closed o (record b { open_rows = os })) else b

abbrev pub closed_deeper : ℕ → Builder → Builder
closed_deeper depth b = closed_deeper_on depth b.open_rows b

unfoldable pub begun : ℕ → Bool → ℕ → List ℕ → Builder → Result Builder FaultKind
begun depth mapping line key b = if is_some b.value then Err Syntax
    else Ok (record b { open_rows = new_open depth mapping line key b.name ∷ b.open_rows; name = None })

unfoldable pub next_row : Open → ℕ → List ℕ → Builder → Builder
next_row o line key b = let v = valued o.line b in
    record v { open_rows = with_next_row line key (finished o (known_of v.value)) ∷ v.open_rows; value = None }

abbrev pub headed_on : ℕ → Bool → ℕ → List ℕ → List Open → Builder → Result Builder FaultKind
headed_on depth mapping line key [] b = begun depth mapping line key b
headed_on depth mapping line key (o ∷ os) b = if o.depth == depth then Ok (next_row o line key (record b { open_rows = os })) else begun depth mapping line key b

unfoldable pub headed : ℕ → Bool → ℕ → List ℕ → Builder → Result Builder FaultKind
headed depth mapping line key b = headed_on depth mapping line key (closed_deeper depth b).open_rows (closed_deeper depth b)

-- ---- values

abbrev pub is_shallower : ℕ → List Open → Bool
is_shallower depth [] = true
is_shallower depth (o ∷ _) = nat_lt o.depth depth

-- whether a value of this depth may come
abbrev pub can_hold : ℕ → Builder → Bool
can_hold depth b = is_none b.value && is_shallower depth b.open_rows

-- whether an anchor or an alias of this depth may come
abbrev pub can_name : ℕ → Builder → Bool
can_name depth b = is_none b.name && can_hold depth b

unfoldable pub with_scalar : ℕ → ℕ → Option (List ℕ) → Builder → Result Builder FaultKind
with_scalar depth line text b = if can_hold depth b then Ok (put_node line (scalar_value text) one_node b) else Err Syntax

unfoldable pub with_name : ℕ → ℕ → List ℕ → Builder → Result Builder FaultKind
with_name depth line name b = if can_name depth b then Ok (record b { name = Some (record { line = line; text = name }) }) else Err Syntax

abbrev pub put_found : ℕ → Option KnownNode → Builder → Builder
put_found line (Some known) b = record b { value = Some known }
put_found line None b = put_node line Null unknown_node b

unfoldable pub with_alias : ℕ → ℕ → List ℕ → Builder → Result Builder FaultKind
with_alias depth line name b = if can_name depth b then Ok (put_found line (find_name b.names name) b) else Err Syntax

abbrev pub new_literal : ℕ → ℕ → Chomp → Literal
new_literal depth line chomp = record { depth = depth; line = line; chomp = chomp; lines = [] }

unfoldable pub with_bar : ℕ → ℕ → Chomp → Builder → Result Builder FaultKind
with_bar depth line chomp b = if can_hold depth b then Ok (record b { literal = Some (new_literal depth line chomp) }) else Err Syntax

abbrev pub with_line_of : Option Literal → ℕ → List ℕ → Builder → Result Builder FaultKind
with_line_of None depth bytes b = Err Syntax
with_line_of (Some l) depth bytes b = if l.depth == depth then Ok (record b { literal = Some (record l { lines = l.lines ++ bytes ∷ [] }) }) else Err Syntax

-- a line more of the literal block
unfoldable pub with_line : ℕ → List ℕ → Builder → Result Builder FaultKind
with_line depth bytes b = with_line_of b.literal depth bytes b

abbrev pub ended_of : Option Literal → Builder → Builder
ended_of None b = b
ended_of (Some l) b = put_node l.line (Text (block_text l.chomp l.lines)) one_node (record b { literal = None })

-- the literal block, if one is open, is the value
unfoldable pub ended : Builder → Builder
ended b = ended_of b.literal b

-- ---- flow forms

-- the value is a cell of the innermost bracket, or the whole form
abbrev pub put_in : List Open → KnownNode → Builder → Builder
put_in [] known b = record b { value = Some known }
put_in (o ∷ os) known b = record b { cells = finished o known ∷ os }

unfoldable pub put_known : KnownNode → Builder → Builder
put_known known b = put_in b.cells known b

unfoldable pub cell_node : ℕ → Value → Measure → Builder → Builder
cell_node line value m b = put_known (next_known m b) (with_node line value m b)

-- a name that nothing stands behind names a null
unfoldable pub flushed : ℕ → Builder → Builder
flushed line b = if is_some b.name then cell_node line Null one_node b else b

abbrev pub is_curly : Bracket → Bool
is_curly Square = false
is_curly Curly = true

unfoldable pub cell_opened : ℕ → Bracket → Builder → Builder
cell_opened line bracket b = record b { cells = new_open 0 (is_curly bracket) line [] b.name ∷ b.cells; name = None }

abbrev pub cell_closed_on : List Open → Builder → Builder
cell_closed_on [] b = b
cell_closed_on (o ∷ os) b = cell_node o.first_line (collection o) o.measure (record b { cells = os; name = o.name })

unfoldable pub cell_closed : ℕ → Builder → Builder
cell_closed line b = cell_closed_on (flushed line b).cells (flushed line b)

abbrev pub cell_key_on : List Open → ℕ → List ℕ → Builder → Builder
cell_key_on [] line key b = b
cell_key_on (o ∷ os) line key b = record b { cells = with_next_row line key o ∷ os }

unfoldable pub cell_key : ℕ → List ℕ → Builder → Builder
cell_key line key b = cell_key_on b.cells line key b

abbrev pub alias_found : ℕ → Option KnownNode → Builder → Builder
alias_found line (Some known) b = put_known known b
alias_found line None b = cell_node line Null unknown_node b

unfoldable pub cell_alias : ℕ → List ℕ → Builder → Builder
cell_alias line name b = alias_found line (find_name b.names name) b

-- a piece more of a flow form on this line
unfoldable pub take_piece : ℕ → Piece → Builder → Builder
take_piece line (Opening bracket) b = cell_opened line bracket b
take_piece line (Closing bracket) b = cell_closed line b
take_piece line Comma b = flushed line b
take_piece line (CellKey key) b = cell_key line key b
take_piece line (CellScalar text) b = cell_node line (scalar_value text) one_node b
take_piece line (CellAnchor name) b = record b { name = Some (record { line = line; text = name }) }
take_piece line (CellAlias name) b = cell_alias line name b
take_piece line (OddPiece why) b = b

unfoldable pub take_pieces : ℕ → List Piece → Builder → Builder
take_pieces line [] b = b
take_pieces line (p ∷ ps) b = take_pieces line ps (take_piece line p b)

abbrev pub formed : Option FaultKind → ℕ → List Piece → Builder → Result Builder FaultKind
formed None line pieces b = Ok (take_pieces line pieces b)
formed (Some kind) line pieces b = Err kind

unfoldable pub with_form : ℕ → ℕ → List Piece → Builder → Result Builder FaultKind
with_form depth line pieces b = if can_hold depth b then formed (flow_fault pieces) line pieces b else Err (kind_of (why_bracket pieces))

-- ---- tokens

abbrev pub odd_kind : ℕ → Odd → Builder → FaultKind
odd_kind depth odd.Indicator b = if can_hold depth b then Unsupported else Syntax
odd_kind depth odd.Unkeyed b = Syntax
odd_kind depth odd.Unsupported b = Unsupported
odd_kind depth odd.Syntax b = Syntax

-- where a key is taken, what stands behind it is unsupported
abbrev pub unkeyed : Result Builder FaultKind → Result Builder FaultKind
unkeyed (Ok b) = Err Unsupported
unkeyed (Err kind) = Err kind

-- the fault of a token that no rule admits
abbrev pub refused : ℕ → ℕ → Odd → Builder → Result Builder FaultKind
refused depth line odd.Unkeyed b = unkeyed (headed depth true line [] b)
refused depth line odd.Indicator b = Err (odd_kind depth odd.Indicator b)
refused depth line odd.Unsupported b = Err (odd_kind depth odd.Unsupported b)
refused depth line odd.Syntax b = Err (odd_kind depth odd.Syntax b)

-- what a call left, or the fault that it answered, is what the step gives; want of memory aside
abbrev pub Steps : Result (Unit {0}) Stop → Builder → Result Builder FaultKind → Type 0
Steps (Ok _) new step = step ≡ Ok new
Steps (Err (stop.Fault kind)) new step = step ≡ Err kind
Steps (Err stop.NoMemory) new step = Unit {0}

-- a token more; a literal block has ended but where the token is a line of one
unfoldable pub take_token : Token → Builder → Result Builder FaultKind
take_token (Dash line column) b = headed (2 + 2 * column) false line [] (ended b)
take_token (Key line column text) b = headed (1 + 2 * column) true line text (ended b)
take_token (Scalar line column text) b = with_scalar (1 + 2 * column) line text (ended b)
take_token (Anchor line column text) b = with_name (1 + 2 * column) line text (ended b)
take_token (Alias line column text) b = with_alias (1 + 2 * column) line text (ended b)
take_token (Bar line column chomp) b = with_bar (1 + 2 * column) line chomp (ended b)
take_token (Body line column bytes) b = with_line (1 + 2 * column) bytes b
take_token (Form line column pieces) b = with_form (1 + 2 * column) line pieces (ended b)
take_token (OddToken line column why) b = refused (1 + 2 * column) line why (ended b)

unfoldable pub take_tokens : List Token → Builder → Result Builder FaultKind
take_tokens [] b = Ok b
take_tokens (m ∷ ms) b = take_token m b >>= take_tokens ms

-- ---- lines

abbrev pub value_measure : Option KnownNode → Measure
value_measure (Some known) = known.measure
value_measure None = one_node

-- the measure of the tree so far
abbrev pub measure : Builder → Measure
measure b = measure_about b.open_rows (value_measure b.value)

abbrev pub fault_of : Measure → Option FaultKind
fault_of m = if m.repeated then Some Duplicate
    else (if m.unknown then Some Alias
    else (if nat_lt most_tree_levels m.levels then Some TooDeep
    else (if nat_lt most_tree_nodes m.size then Some TooManyNodes else None)))

abbrev pub judged_by : Option FaultKind → Builder → Result Builder FaultKind
judged_by None b = Ok b
judged_by (Some kind) b = Err kind

-- the limits at a line's end
unfoldable pub judged : Builder → Result Builder FaultKind
judged b = judged_by (fault_of (measure b)) b

-- the tokens of a line, and the limits at its end
abbrev pub take_line : List Token → Builder → Result Builder FaultKind
take_line tokens b = take_tokens tokens b >>= judged

unfoldable pub read_line : Bool → LinePlace → ℕ → List ℕ → Builder → Result Builder FaultKind
read_line begun place number line b = take_line (line_tokens begun place number line) b

abbrev pub at_line : ℕ → Result Builder FaultKind → Result Builder YamlFault
at_line number (Ok b) = Ok b
at_line number (Err kind) = Err (record { line = number; kind = kind })

-- lines, of which the first has this number
unfoldable pub read_lines : Bool → LinePlace → ℕ → List (List ℕ) → Builder → Result Builder YamlFault
read_lines begun place number [] b = Ok b
read_lines begun place number (line ∷ lines) b = at_line number (read_line begun place number line b) >>= read_lines (begun || has_content line) (next_place begun place number line) (1 + number) lines

abbrev pub Reads : Result (Unit {0}) TreeError → Builder → Result Builder YamlFault → Type 0
Reads (Ok _) new read = read ≡ Ok new
Reads (Err (tree.Fault fault)) new read = read ≡ Err fault
Reads (Err tree.NoMemory) new read = Unit {0}

-- the same where the reader tells more
abbrev pub ReadsLine : {A : Type 0} → Result A TreeError → Builder → Result Builder YamlFault → Type 0
ReadsLine (Ok told) new read = read ≡ Ok new
ReadsLine (Err (tree.Fault fault)) new read = read ≡ Err fault
ReadsLine (Err tree.NoMemory) new read = Unit {0}

-- all that is open is closed, and the root is the value
unfoldable pub whole : Builder → Builder
whole b = valued 1 (closed_deeper 0 (ended b))
