-- The pieces of a flow form, taken one by one, make the nodes, the names and the value that the form says.
use Rattle.std.proofs.Common.{◌≡◌, ℕ, Bool, true, false, List, [], ◌∷◌, ◌++◌, Option, Some, None, length, unwrap_or, refl, sym, ap, ◌∙◌, subst, append_assoc, if◌then◌else◌, ◌==◌, is_some, not}
use Rattle.std.proofs.lemmas.Bool.{false≢true}
use Rattle.std.proofs.lemmas.List.{append-nil}
use Rattle.std.specs.Cmp.Lexicographic.{pointwise}
use Rattle.std.specs.Map.{lookup}
use Rattle.yaml_tree.specs.Entries.{with_entry}
use Rattle.yaml_tokens.specs.declared.piece.Bracket.{Bracket}
use Rattle.yaml_tokens.specs.declared.piece.Bracket.TheVariants.{Square, Curly}
use Rattle.yaml_tokens.specs.declared.piece.Piece.{Piece}
use Rattle.yaml_tokens.specs.declared.piece.Piece.TheVariants.{Closing, CellKey, CellScalar, CellAnchor, CellAlias}
use Rattle.yaml_tree.specs.Flows.{Flow, SpellsFlow, IsForm, IsValue, AreCells, spelling, comma_if, is_absent, is_cell_name, may_be_called}
use Rattle.yaml_tree.specs.Flows.Flow.{absent, word, called, item, pair, form}
use Rattle.yaml_tree.specs.Said.{Said, Anchors, Meaning, flow_said, scalar_said, copied, begun_form, item_behind, pair_behind, has_key, from_line, given}
use Rattle.yaml_tree.specs.Said.Said.{null, text, unknown, sequence, mapping, with_item, with_pair}
use Rattle.yaml_tree.specs.Holds.{HoldsSaid, HoldsRows, Rows, IsNode, is_mapping, begins_on, scalar_value, with_row, rows_value}
use Rattle.yaml_tree.specs.inside.Stack.{new_open, measured, one_node, unknown_node, with_part, with_repeat, finished, collection, has_row, with_next_row}
use Rattle.yaml_tree.specs.inside.Builder.{find_name, named, begins_at, next_known, with_node, put_in, put_known, cell_node, flushed, is_curly, cell_opened, cell_closed, cell_closed_on, cell_key, cell_alias, alias_found, take_piece, take_pieces}
use Rattle.yaml_tree.specs.declared.known.Measure.{Measure}
use Rattle.yaml_tree.specs.declared.known.KnownNode.{KnownNode}
use Rattle.yaml_tree.specs.declared.known.GivenName.{GivenName}
use Rattle.yaml_tree.specs.declared.node.Node.{Node}
use Rattle.yaml_tree.specs.declared.node.Value.{Value}
use Rattle.yaml_tree.specs.declared.node.Value.TheVariants.{Null}
use Rattle.yaml_tree.specs.declared.stack.Open.{Open}
use Rattle.yaml_tree.specs.declared.builder.Builder.{Builder}
use Rattle.yaml_tree.proofs.KnownLaws.{slice_get-last, HoldsRows_more, NamesAre_more, named_are, with_part_item, with_part_pair, mapping_has_key, begins_on_from_line, HoldsRows_from_line, node_is}
use Rattle.yaml_tree.proofs.Stands.{KnownIs, NameIs, NamesAre, named_by, rows_of}

-- ---- a value that is put

-- the builder with these nodes more, and these names
abbrev behind : List Node → List (List ℕ × KnownNode) → Builder → Builder
behind more entries b = record b { nodes = b.nodes ++ more; names = entries; name = None }

-- The builder has put a value into the innermost bracket, or as the whole form: its node holds what is said, and its
-- names are those behind it, also the one that waited.
record Puts (b : Builder) (meaning : Meaning) (after : Builder) : Type 0 where
  more : List Node
  known : KnownNode
  entries : List (List ℕ × KnownNode)
  is : after ≡ put_known known (behind more entries b)
  says : KnownIs (b.nodes ++ more) known (named_by b.name meaning).0
  names_are : NamesAre (b.nodes ++ more) entries (named_by b.name meaning).1

name_put_in : (os : List Open) (known : KnownNode) (b : Builder) → (put_in os known b).name ≡ b.name
name_put_in [] known b = refl
name_put_in (o ∷ os) known b = refl

name_put_known : (known : KnownNode) (b : Builder) → (put_known known b).name ≡ b.name
unfolding put_known
name_put_known known b = name_put_in b.cells known b

-- nothing is to do where no name waits
flushed_unnamed : (line : ℕ) (b : Builder) → b.name ≡ None → flushed line b ≡ b
unfolding flushed
flushed_unnamed line b e = ap (λ n. if is_some n then cell_node line Null one_node b else b) e

flushed_named : (line : ℕ) (n : GivenName) (b : Builder) → b.name ≡ Some n → flushed line b ≡ cell_node line Null one_node b
unfolding flushed
flushed_named line n b e = ap (λ m. if is_some m then cell_node line Null one_node b else b) e

name_flushed : (line : ℕ) (waits : Option GivenName) (b : Builder) → b.name ≡ waits → (flushed line b).name ≡ None
unfolding cell_node with_node
name_flushed line None b e = ap (λ x. x.name) (flushed_unnamed line b e) ∙ e
name_flushed line (Some n) b e = ap (λ x. x.name) (flushed_named line n b e) ∙ name_put_known _ _

flushed_twice : (line : ℕ) (b : Builder) → flushed line (flushed line b) ≡ flushed line b
flushed_twice line b = flushed_unnamed line (flushed line b) (name_flushed line b.name b refl)

flushed_puts : (line : ℕ) (b : Builder) (meaning : Meaning) (after : Builder) → Puts b meaning after → Puts b meaning (flushed line after)
flushed_puts line b meaning after p = record {
  more = p.more;
  known = p.known;
  entries = p.entries;
  is = ap (flushed line) p.is ∙ flushed_unnamed line (put_known p.known (behind p.more p.entries b)) (name_put_known _ _);
  says = p.says;
  names_are = p.names_are;
}

-- ---- words

node_puts : (line : ℕ) (value : Value) (m : Measure) (tree : Said) (names : Anchors) (b : Builder) → m ≡ measured tree → line ≡ begins_on tree → ((nodes : List Node) (n l : ℕ) → IsNode nodes n l value → HoldsSaid nodes (from_line l tree) n) → NamesAre b.nodes b.names names → Puts b (tree, names) (cell_node line value m b)
unfolding cell_node with_node
node_puts line value m tree names b e begins holds are =
    let node : Node = record { line = begins_at line b.name; value = value } in
    let is : KnownIs (b.nodes ++ (node ∷ [])) (next_known m b) (named_by b.name (tree, names)).0 = node_is (b.nodes ++ (node ∷ [])) b.name line (tree, names) (next_known m b) e begins (holds _ _ (begins_at line b.name) (slice_get-last b.nodes node)) in
    record {
      more = node ∷ [];
      known = next_known m b;
      entries = named b.name (next_known m b) b.names;
      is = refl;
      says = is;
      names_are = named_are (b.nodes ++ (node ∷ [])) b.names names b.name (next_known m b) tree (NamesAre_more b.nodes (node ∷ []) b.names names are) is;
    }

measured_scalar : (line : ℕ) (value : Option (List ℕ)) → one_node ≡ measured (scalar_said line value)
measured_scalar line None = refl
measured_scalar line (Some bytes) = refl

holds_scalar : (line : ℕ) (value : Option (List ℕ)) (nodes : List Node) (n l : ℕ) → IsNode nodes n l (scalar_value value) → HoldsSaid nodes (from_line l (scalar_said line value)) n
holds_scalar line None nodes n l h = h
holds_scalar line (Some bytes) nodes n l h = h

begins_scalar : (line : ℕ) (value : Option (List ℕ)) → line ≡ begins_on (scalar_said line value)
begins_scalar line None = refl
begins_scalar line (Some bytes) = refl

alias_found_puts : (line : ℕ) (found : Option KnownNode) (tree : Option Said) (names : Anchors) (b : Builder) → b.name ≡ None → NameIs b.nodes found tree → NamesAre b.nodes b.names names → Puts b (unwrap_or tree (unknown line), names) (alias_found line found b)
alias_found_puts line None None names b e is are = node_puts line Null unknown_node (unknown line) names b refl refl (λ nodes n l h. h) are
alias_found_puts line (Some k) (Some tree) names b e is are = record {
  more = [];
  known = k;
  entries = b.names;
  is = λ j. put_known k (record b { nodes = sym (append-nil b.nodes) j; name = e j });
  says = subst (λ w. KnownIs (b.nodes ++ []) k (named_by w (tree, names)).0) (sym e) (subst (λ ns. KnownIs ns k tree) (sym (append-nil b.nodes)) is);
  names_are = subst (λ w. NamesAre (b.nodes ++ []) b.names (named_by w (tree, names)).1) (sym e) (NamesAre_more b.nodes [] b.names names are);
}
alias_found_puts line None (Some tree) names b e is are = absurd is
alias_found_puts line (Some k) None names b e is are = absurd is

alias_puts : (line : ℕ) (n : List ℕ) (names : Anchors) (b : Builder) → b.name ≡ None → NamesAre b.nodes b.names names → Puts b (copied line n names, names) (cell_alias line n b)
unfolding cell_alias
alias_puts line n names b e are = alias_found_puts line (find_name b.names n) (lookup (pointwise ◌==◌ n) names) names b e (are n) are

-- ---- collections

holds_collection : (nodes : List Node) (tree : Said) (rows : Rows) (n l : ℕ) → HoldsRows nodes tree rows → IsNode nodes n l (rows_value (is_mapping tree) rows) → HoldsSaid nodes (from_line l tree) n
holds_collection nodes (null line) rows n l h is = absurd h
holds_collection nodes (text line bytes) rows n l h is = absurd h
holds_collection nodes (unknown line) rows n l h is = absurd h
holds_collection nodes (sequence line) rows n l h is = subst (λ r. IsNode nodes n l (rows_value false r)) h is
holds_collection nodes (mapping line) rows n l h is = subst (λ r. IsNode nodes n l (rows_value true r)) h is
holds_collection nodes (with_item before value) rows n l h is = (h.0, h.1, HoldsRows_from_line nodes l before h.0 h.2, h.3, subst (λ x. IsNode nodes n x (rows_value false (with_row false 0 [] h.1 h.0))) (sym (begins_on_from_line l before)) (subst (λ r. IsNode nodes n l (rows_value false r)) h.4 is))
holds_collection nodes (with_pair before line k value) rows n l h is = (h.0, h.1, HoldsRows_from_line nodes l before h.0 h.2, h.3, subst (λ x. IsNode nodes n x (rows_value true (with_row true line k h.1 h.0))) (sym (begins_on_from_line l before)) (subst (λ r. IsNode nodes n l (rows_value true r)) h.4 is))

-- the rows of the innermost bracket say this, and its name waits for it
record CellsAre (nodes : List Node) (o : Open) (bracket : Bracket) (waits : Option GivenName) (tree : Said) : Type 0 where
  has_kind : o.mapping ≡ is_curly bracket
  says_kind : is_mapping tree ≡ is_curly bracket
  has_first : o.first_line ≡ begins_on tree
  has_name : o.name ≡ waits
  has_measure : o.measure ≡ measured tree
  holds : HoldsRows nodes tree (rows_of o)

-- the builder inside of this bracket
abbrev inside : Open → List Node → List (List ℕ × KnownNode) → Builder → Builder
inside o more entries b = record b { nodes = b.nodes ++ more; names = entries; name = None; cells = o ∷ b.cells }

record HasCells (b : Builder) (bracket : Bracket) (meaning : Meaning) (after : Builder) : Type 0 where
  more : List Node
  inner : Open
  entries : List (List ℕ × KnownNode)
  is : after ≡ inside inner more entries b
  cells_are : CellsAre (b.nodes ++ more) inner bracket b.name meaning.0
  names_are : NamesAre (b.nodes ++ more) entries meaning.1

no_cells : (nodes : List Node) (line : ℕ) (bracket : Bracket) (waits : Option GivenName) → CellsAre nodes (new_open 0 (is_curly bracket) line [] waits) bracket waits (begun_form bracket line)
no_cells nodes line Square waits = record { has_kind = refl; says_kind = refl; has_first = refl; has_name = refl; has_measure = refl; holds = refl }
no_cells nodes line Curly waits = record { has_kind = refl; says_kind = refl; has_first = refl; has_name = refl; has_measure = refl; holds = refl }

opened : (line : ℕ) (bracket : Bracket) (names : Anchors) (b : Builder) → NamesAre b.nodes b.names names → HasCells b bracket (begun_form bracket line, names) (flushed line (cell_opened line bracket b))
unfolding cell_opened
opened line bracket names b are = let o : Open = new_open 0 (is_curly bracket) line [] b.name in record {
  more = [];
  inner = o;
  entries = b.names;
  is = flushed_unnamed line (cell_opened line bracket b) refl ∙ (λ j. record b { nodes = sym (append-nil b.nodes) j; name = None; cells = o ∷ b.cells });
  cells_are = no_cells (b.nodes ++ []) line bracket b.name;
  names_are = NamesAre_more b.nodes [] b.names names are;
}

item_row : (nodes more : List Node) (o : Open) (k : KnownNode) (waits : Option GivenName) (before value : Said) → CellsAre nodes o Square waits before → KnownIs (nodes ++ more) k value → CellsAre (nodes ++ more) (finished o k) Square waits (with_item before value)
item_row nodes more o k waits before value h is = record {
  has_kind = h.has_kind;
  says_kind = refl;
  has_first = h.has_first;
  has_name = h.has_name;
  has_measure = (λ j. with_part (h.has_measure j) (is.0 j)) ∙ with_part_item before value;
  holds = (
    rows_of o,
    k.node,
    HoldsRows_more nodes more before (rows_of o) h.holds,
    is.1,
    λ j. record { items = if h.has_kind j then o.items else o.items ++ k.node ∷ []; entries = if h.has_kind j then with_entry o.entries o.key (record { line = o.line; node = k.node }) else o.entries },
  );
}

pair_row : (nodes more : List Node) (o : Open) (line : ℕ) (key : List ℕ) (k : KnownNode) (waits : Option GivenName) (before value : Said) → CellsAre nodes o Curly waits before → KnownIs (nodes ++ more) k value → CellsAre (nodes ++ more) (finished (with_next_row line key o) k) Curly waits (with_pair before line key value)
pair_row nodes more o line key k waits before value h is =
    let again : has_row o key ≡ has_key key before = mapping_has_key nodes before (rows_of o) o.mapping key h.holds h.has_kind in
    record {
      has_kind = h.has_kind;
      says_kind = refl;
      has_first = h.has_first;
      has_name = h.has_name;
      has_measure = (λ j. with_part (with_repeat (again j) (h.has_measure j)) (is.0 j)) ∙ with_part_pair before line key value;
      holds = (
        rows_of o,
        k.node,
        HoldsRows_more nodes more before (rows_of o) h.holds,
        is.1,
        λ j. record { items = if h.has_kind j then o.items else o.items ++ k.node ∷ []; entries = if h.has_kind j then with_entry o.entries key (record { line = line; node = k.node }) else o.entries },
      );
    }

-- a value more in the bracket, whose open row this is
row_more : (b : Builder) (bracket : Bracket) (o : Open) (more : List Node) (entries : List (List ℕ × KnownNode)) (value : Meaning) (tree : Said) (after : Builder) → (p : Puts (inside o more entries b) value after) → CellsAre ((b.nodes ++ more) ++ p.more) (finished o p.known) bracket b.name tree → HasCells b bracket (tree, value.1) after
unfolding put_known
row_more b bracket o more entries value tree after p are =
    let same = append_assoc b.nodes more p.more in
    record {
      more = more ++ p.more;
      inner = finished o p.known;
      entries = p.entries;
      is = p.is ∙ (λ j. record b { nodes = same j; names = p.entries; name = None; cells = finished o p.known ∷ b.cells });
      cells_are = subst (λ ns. CellsAre ns (finished o p.known) bracket b.name tree) same are;
      names_are = subst (λ ns. NamesAre ns p.entries value.1) same p.names_are;
    }

-- the closing bracket puts the collection
closed_puts : (b : Builder) (bracket : Bracket) (meaning : Meaning) (after : Builder) → HasCells b bracket meaning after → Puts b meaning (cell_closed_on after.cells after)
unfolding cell_node with_node
closed_puts b bracket meaning after h =
    let o : Open = h.inner in
    let are = h.cells_are in
    let nodes : List Node = b.nodes ++ h.more in
    let known : KnownNode = record { node = length nodes; measure = o.measure } in
    let first : ℕ = begins_at o.first_line o.name in
    let node : Node = record { line = first; value = collection o } in
    let at : IsNode (nodes ++ (node ∷ [])) (length nodes) first (rows_value (is_mapping meaning.0) (rows_of o)) = slice_get-last nodes node ∙ (λ j. Some (record { line = first; value = collection (record o { mapping = (are.has_kind ∙ sym are.says_kind) j }) })) in
    let holds : HoldsSaid (nodes ++ (node ∷ [])) (from_line first meaning.0) (length nodes) = holds_collection (nodes ++ (node ∷ [])) meaning.0 (rows_of o) (length nodes) first (HoldsRows_more nodes (node ∷ []) meaning.0 (rows_of o) are.holds) at in
    let is : KnownIs (nodes ++ (node ∷ [])) known (named_by o.name meaning).0 = node_is (nodes ++ (node ∷ [])) o.name o.first_line meaning known are.has_measure are.has_first holds in
    let same = append_assoc b.nodes h.more (node ∷ []) in
    record {
      more = h.more ++ (node ∷ []);
      known = known;
      entries = named o.name known h.entries;
      is = ap (λ a. cell_closed_on a.cells a) h.is ∙ (λ j. put_known known (record b { nodes = same j; names = named o.name known h.entries; name = None }));
      says = subst (λ w. KnownIs (b.nodes ++ (h.more ++ (node ∷ []))) known (named_by w meaning).0) are.has_name (subst (λ ns. KnownIs ns known (named_by o.name meaning).0) same is);
      names_are = subst (λ w. NamesAre (b.nodes ++ (h.more ++ (node ∷ []))) (named o.name known h.entries) (named_by w meaning).1) are.has_name
          (subst (λ ns. NamesAre ns (named o.name known h.entries) (named_by o.name meaning).1) same
          (named_are (nodes ++ (node ∷ [])) h.entries meaning.1 o.name known meaning.0 (NamesAre_more nodes (node ∷ []) h.entries meaning.1 h.names_are) is));
    }

-- ---- pieces

take_pieces_append : (line : ℕ) (xs ys : List Piece) (b : Builder) → take_pieces line (xs ++ ys) b ≡ take_pieces line ys (take_pieces line xs b)
unfolding take_pieces
take_pieces_append line [] ys b = refl
take_pieces_append line (x ∷ xs) ys b = take_pieces_append line xs ys (take_piece line x b)

-- a comma between cells, and none before the first
comma_taken : (line : ℕ) (before : Flow) (b : Builder) → b.name ≡ None → take_pieces line (comma_if (not (is_absent before))) (take_pieces line (spelling before) b) ≡ flushed line (take_pieces line (spelling before) b)
unfolding take_pieces take_piece
comma_taken line absent b e = sym (flushed_unnamed line b e)
comma_taken line (word piece) b e = refl
comma_taken line (called piece value) b e = refl
comma_taken line (item before value) b e = refl
comma_taken line (pair before key value) b e = refl
comma_taken line (form bracket cells last) b e = refl

behind_cells : (line : ℕ) (before : Flow) (pieces : List Piece) (b : Builder) → b.name ≡ None → take_pieces line (spelling before ++ (comma_if (not (is_absent before)) ++ pieces)) b ≡ take_pieces line pieces (flushed line (take_pieces line (spelling before) b))
behind_cells line before pieces b e = take_pieces_append line (spelling before) (comma_if (not (is_absent before)) ++ pieces) b
    ∙ take_pieces_append line (comma_if (not (is_absent before))) pieces (take_pieces line (spelling before) b)
    ∙ ap (take_pieces line pieces) (comma_taken line before b e)

closing_taken : (line : ℕ) (bracket : Bracket) (last : Bool) (b : Builder) → take_pieces line (comma_if last ++ (Closing bracket ∷ [])) b ≡ cell_closed_on (flushed line b).cells (flushed line b)
unfolding take_pieces take_piece cell_closed
closing_taken line bracket false b = refl
closing_taken line bracket true b = ap (λ a. cell_closed_on a.cells a) (flushed_twice line b)

form_taken : (line : ℕ) (bracket : Bracket) (cells : Flow) (last : Bool) (b : Builder) → (let after = flushed line (take_pieces line (spelling cells) (cell_opened line bracket b)) in cell_closed_on after.cells after) ≡ take_pieces line (spelling (form bracket cells last)) b
unfolding take_pieces take_piece
form_taken line bracket cells last b = sym (take_pieces_append line (spelling cells) (comma_if last ++ (Closing bracket ∷ [])) (cell_opened line bracket b) ∙ closing_taken line bracket last (take_pieces line (spelling cells) (cell_opened line bracket b)))

-- ---- the induction

-- what may come: a value, and behind a name also nothing, but no alias or other name
abbrev Comes : Option GivenName → Flow → Type 0
Comes None v = IsValue v
Comes (Some n) absent = Unit {0}
Comes (Some n) v = (may_be_called v ≡ true) × IsValue v

abbrev ValuePlayed : ℕ → Flow → Anchors → Builder → Type 0
ValuePlayed line v names b = Puts b (flow_said line (null line) names v) (flushed line (take_pieces line (spelling v) b))

nothing_played : (line : ℕ) (n : GivenName) (names : Anchors) (b : Builder) → b.name ≡ Some n → NamesAre b.nodes b.names names → ValuePlayed line absent names b
unfolding take_pieces
nothing_played line n names b e are = subst (Puts b (null line, names)) (sym (flushed_named line n b e)) (node_puts line Null one_node (null line) names b refl refl (λ nodes m l h. h) are)

scalar_played : (line : ℕ) (value : Option (List ℕ)) (names : Anchors) (b : Builder) → NamesAre b.nodes b.names names → ValuePlayed line (word (CellScalar value)) names b
unfolding take_pieces take_piece
scalar_played line value names b are = flushed_puts line b (scalar_said line value, names) (cell_node line (scalar_value value) one_node b)
    (node_puts line (scalar_value value) one_node (scalar_said line value) names b (measured_scalar line value) (begins_scalar line value) (holds_scalar line value) are)

alias_played : (line : ℕ) (n : List ℕ) (names : Anchors) (b : Builder) → b.name ≡ None → NamesAre b.nodes b.names names → ValuePlayed line (word (CellAlias n)) names b
unfolding take_pieces take_piece
alias_played line n names b e are = flushed_puts line b (copied line n names, names) (cell_alias line n b) (alias_puts line n names b e are)

word_played : (line : ℕ) (waits : Option GivenName) (piece : Piece) (names : Anchors) (b : Builder) → b.name ≡ waits → Comes waits (word piece) → NamesAre b.nodes b.names names → ValuePlayed line (word piece) names b
word_played line waits (CellScalar value) names b e h are = scalar_played line value names b are
word_played line None (CellAlias n) names b e h are = alias_played line n names b e are
word_played line (Some m) (CellAlias n) names b e h are = absurd (false≢true h.0)
word_played line None piece names b e h are = absurd (false≢true h)
word_played line (Some m) piece names b e h are = absurd (false≢true h.1)

comes_called : (name : Piece) (n : GivenName) (value : Flow) → IsValue (called name value) → (is_cell_name name ≡ true) × Comes (Some n) value
comes_called name n absent h = (h, tt)
comes_called name n (word piece) h = (h.0, (h.1, h.2))
comes_called name n (called piece value) h = (h.0, (h.1, h.2))
comes_called name n (item before value) h = (h.0, (h.1, h.2))
comes_called name n (pair before key value) h = (h.0, (h.1, h.2))
comes_called name n (form bracket cells last) h = (h.0, (h.1, h.2))

abbrev waiting : GivenName → Builder → Builder
waiting n b = record b { name = Some n }

-- behind a name its value takes it
called_puts : (line : ℕ) (n : List ℕ) (value : Flow) (names : Anchors) (b : Builder) → b.name ≡ None → ValuePlayed line value names (waiting (record { line = line; text = n }) b) → ValuePlayed line (called (CellAnchor n) value) names b
unfolding take_pieces take_piece
called_puts line n value names b e p = record {
  more = p.more;
  known = p.known;
  entries = p.entries;
  is = p.is;
  says = subst (λ w. KnownIs (b.nodes ++ p.more) p.known (named_by w (given line n (flow_said line (null line) names value))).0) (sym e) p.says;
  names_are = subst (λ w. NamesAre (b.nodes ++ p.more) p.entries (named_by w (given line n (flow_said line (null line) names value))).1) (sym e) p.names_are;
}

called_played : (line : ℕ) (waits : Option GivenName) (name : Piece) (value : Flow) (names : Anchors) (b : Builder) → b.name ≡ waits → Comes waits (called name value) → ((n : GivenName) → Comes (Some n) value → ValuePlayed line value names (waiting n b)) → ValuePlayed line (called name value) names b
called_played line None (CellAnchor n) value names b e h played = let name : GivenName = record { line = line; text = n } in called_puts line n value names b e (played name (comes_called (CellAnchor n) name value h).1)
called_played line None name value names b e h played = absurd (false≢true (comes_called name (record { line = line; text = [] }) value h).0)
called_played line (Some m) name value names b e h played = absurd (false≢true h.0)

abbrev CellsPlayed : ℕ → Bracket → Flow → Anchors → Builder → Type 0
CellsPlayed line bracket cells names b = HasCells b bracket (flow_said line (begun_form bracket line) names cells) (flushed line (take_pieces line (spelling cells) (cell_opened line bracket b)))

no_cells_played : (line : ℕ) (bracket : Bracket) (names : Anchors) (b : Builder) → NamesAre b.nodes b.names names → CellsPlayed line bracket absent names b
unfolding take_pieces
no_cells_played line bracket names b are = opened line bracket names b are

-- the pieces behind the cells before are taken inside of the bracket
inside_taken : (line : ℕ) (bracket : Bracket) (before : Flow) (pieces : List Piece) (names : Anchors) (b : Builder) → (h : CellsPlayed line bracket before names b) → take_pieces line pieces (inside h.inner h.more h.entries b) ≡ take_pieces line (spelling before ++ (comma_if (not (is_absent before)) ++ pieces)) (cell_opened line bracket b)
unfolding cell_opened
inside_taken line bracket before pieces names b h = sym (behind_cells line before pieces (cell_opened line bracket b) refl ∙ ap (take_pieces line pieces) h.is)

item_played : (line : ℕ) (before value : Flow) (names : Anchors) (b : Builder) → (h : CellsPlayed line Square before names b) → ValuePlayed line value (flow_said line (begun_form Square line) names before).1 (inside h.inner h.more h.entries b) → CellsPlayed line Square (item before value) names b
item_played line before value names b h p =
    let old : Meaning = flow_said line (begun_form Square line) names before in
    let new : Meaning = flow_said line (null line) old.1 value in
    subst (λ a. HasCells b Square (item_behind old.0 new) (flushed line a)) (inside_taken line Square before (spelling value) names b h)
    (row_more b Square h.inner h.more h.entries new (with_item old.0 new.0) (flushed line (take_pieces line (spelling value) (inside h.inner h.more h.entries b))) p
    (item_row (b.nodes ++ h.more) p.more h.inner p.known b.name old.0 new.0 h.cells_are p.says))

key_taken : (line : ℕ) (key : List ℕ) (pieces : List Piece) (o : Open) (more : List Node) (entries : List (List ℕ × KnownNode)) (b : Builder) → take_pieces line pieces (inside (with_next_row line key o) more entries b) ≡ take_pieces line (CellKey key ∷ pieces) (inside o more entries b)
unfolding take_pieces take_piece cell_key
key_taken line key pieces o more entries b = refl

pair_played : (line : ℕ) (before : Flow) (key : List ℕ) (value : Flow) (names : Anchors) (b : Builder) → (h : CellsPlayed line Curly before names b) → ValuePlayed line value (flow_said line (begun_form Curly line) names before).1 (inside (with_next_row line key h.inner) h.more h.entries b) → CellsPlayed line Curly (pair before (CellKey key) value) names b
pair_played line before key value names b h p =
    let old : Meaning = flow_said line (begun_form Curly line) names before in
    let new : Meaning = flow_said line (null line) old.1 value in
    let o : Open = with_next_row line key h.inner in
    subst (λ a. HasCells b Curly (pair_behind line key old.0 new) (flushed line a)) (key_taken line key (spelling value) h.inner h.more h.entries b ∙ inside_taken line Curly before (CellKey key ∷ spelling value) names b h)
    (row_more b Curly o h.more h.entries new (with_pair old.0 line key new.0) (flushed line (take_pieces line (spelling value) (inside o h.more h.entries b))) p
    (pair_row (b.nodes ++ h.more) p.more h.inner line key p.known b.name old.0 new.0 h.cells_are p.says))

form_played : (line : ℕ) (bracket : Bracket) (cells : Flow) (last : Bool) (names : Anchors) (b : Builder) → CellsPlayed line bracket cells names b → Puts b (flow_said line (null line) names (form bracket cells last)) (take_pieces line (spelling (form bracket cells last)) b)
form_played line bracket cells last names b h = subst (Puts b (flow_said line (begun_form bracket line) names cells)) (form_taken line bracket cells last b)
    (closed_puts b bracket (flow_said line (begun_form bracket line) names cells) (flushed line (take_pieces line (spelling cells) (cell_opened line bracket b))) h)

are_cells : (waits : Option GivenName) (bracket : Bracket) (cells : Flow) (last : Bool) → Comes waits (form bracket cells last) → AreCells bracket cells
are_cells None bracket cells last h = h.0
are_cells (Some n) bracket cells last h = h.1.0

mutual
  value_played : (line : ℕ) (waits : Option GivenName) (v : Flow) (names : Anchors) (b : Builder) → b.name ≡ waits → Comes waits v → NamesAre b.nodes b.names names → ValuePlayed line v names b
  value_played line None absent names b e h are = absurd h
  value_played line (Some n) absent names b e h are = nothing_played line n names b e are
  value_played line waits (word piece) names b e h are = word_played line waits piece names b e h are
  value_played line waits (called name value) names b e h are = called_played line waits name value names b e h (λ n c. value_played line (Some n) value names (waiting n b) refl c are)
  value_played line None (item before value) names b e h are = absurd h
  value_played line (Some n) (item before value) names b e h are = absurd h.1
  value_played line None (pair before key value) names b e h are = absurd h
  value_played line (Some n) (pair before key value) names b e h are = absurd h.1
  value_played line waits (form bracket cells last) names b e h are = flushed_puts line b (flow_said line (null line) names (form bracket cells last)) (take_pieces line (spelling (form bracket cells last)) b)
      (form_played line bracket cells last names b (cells_played line bracket cells names b (are_cells waits bracket cells last h) are))

  cells_played : (line : ℕ) (bracket : Bracket) (cells : Flow) (names : Anchors) (b : Builder) → AreCells bracket cells → NamesAre b.nodes b.names names → CellsPlayed line bracket cells names b
  cells_played line bracket absent names b h are = no_cells_played line bracket names b are
  cells_played line bracket (word piece) names b h are = absurd h
  cells_played line bracket (called name value) names b h are = absurd h
  cells_played line Square (item before value) names b h are = let c = cells_played line Square before names b h.1 are in
      item_played line before value names b c (value_played line None value (flow_said line (begun_form Square line) names before).1 (inside c.inner c.more c.entries b) refl h.2 c.names_are)
  cells_played line Curly (item before value) names b h are = absurd (false≢true (sym (ap is_curly h.0)))
  cells_played line Curly (pair before (CellKey key) value) names b h are = let c = cells_played line Curly before names b h.2 are in
      pair_played line before key value names b c (value_played line None value (flow_said line (begun_form Curly line) names before).1 (inside (with_next_row line key c.inner) c.more c.entries b) refl h.3 c.names_are)
  cells_played line Square (pair before key value) names b h are = absurd (false≢true (ap is_curly h.0))
  cells_played line Curly (pair before key value) names b h are = absurd (false≢true h.1)
  cells_played line bracket (form other cells last) names b h are = absurd h

-- ---- the form

-- the builder afterwards: its value and its names are what the form says
abbrev pub Played : ℕ → Flow → Builder → Anchors → Builder → Type 0
Played line f b names after = (more : List Node) × (k : KnownNode) × (entries : List (List ℕ × KnownNode))
    × (after ≡ record b { nodes = b.nodes ++ more; names = entries; value = Some k; name = None })
    × KnownIs (b.nodes ++ more) k (named_by b.name (flow_said line (null line) names f)).0
    × NamesAre (b.nodes ++ more) entries (named_by b.name (flow_said line (null line) names f)).1

played : (line : ℕ) (f : Flow) (names : Anchors) (b : Builder) (after : Builder) → b.cells ≡ [] → Puts b (flow_said line (null line) names f) after → Played line f b names after
unfolding put_known
played line f names b after flat p = (p.more, p.known, p.entries, p.is ∙ ap (λ os. put_in os p.known (behind p.more p.entries b)) flat, p.says, p.names_are)

form_is_played : (line : ℕ) (f : Flow) (names : Anchors) (b : Builder) → IsForm f → b.cells ≡ [] → NamesAre b.nodes b.names names → Played line f b names (take_pieces line (spelling f) b)
form_is_played line absent names b h flat are = absurd h
form_is_played line (word piece) names b h flat are = absurd h
form_is_played line (called name value) names b h flat are = absurd h
form_is_played line (item before value) names b h flat are = absurd h
form_is_played line (pair before key value) names b h flat are = absurd h
form_is_played line (form bracket cells last) names b h flat are = played line (form bracket cells last) names b (take_pieces line (spelling (form bracket cells last)) b) flat
    (form_played line bracket cells last names b (cells_played line bracket cells names b h.0 are))

pub flow_played : (line : ℕ) (pieces : List Piece) (f : Flow) (b : Builder) (names : Anchors) → SpellsFlow pieces f → b.cells ≡ [] → NamesAre b.nodes b.names names → Played line f b names (take_pieces line pieces b)
flow_played line pieces f b names s flat are = subst (λ ps. Played line f b names (take_pieces line ps b)) s.0 (form_is_played line f names b s.1 flat are)
