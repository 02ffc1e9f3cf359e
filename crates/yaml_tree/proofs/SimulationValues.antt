-- Values as the builder makes them: it stands for them once they have come, once a literal block has ended and once a
-- collection is closed.
use Rattle.std.proofs.Common.{◌≡◌, ℕ, ◌<◌, ◌≤◌, Bool, true, false, ◌||◌, cond, List, [], ◌∷◌, ◌++◌, Option, Some, None, refl, sym, ap, ◌∙◌, subst, arith, nat_lt, length, is_some}
use Rattle.std.proofs.lemmas.Option.{none-some}
use Rattle.std.proofs.lemmas.Bool.{ltb-true, ltb-false, false≢true}
use Rattle.yaml_tokens.specs.Literals.{block_text}
use Rattle.yaml_tree.specs.Said.{Said, Anchors, Meaning, said, from_line, given, row_behind, has_repeat}
use Rattle.yaml_tree.specs.Said.Said.{null}
use Rattle.yaml_tree.specs.Holds.{HoldsSaid, HoldsRows, Rows, IsNode, with_row, rows_value, begins_on}
use Rattle.yaml_tree.specs.Written.{Written, depth, line_of, is_head}
use Rattle.yaml_tree.specs.Written.Written.{nothing, leaf, literal, flowing, named, row}
use Rattle.yaml_tree.specs.inside.Stack.{measured, one_node, with_part, with_repeat, finished, collection}
use Rattle.yaml_tree.specs.inside.Builder.{begins_at, next_known, with_node, put_node, valued, known_of, closed, closed_deeper_on, ended, ended_of}
use Rattle.yaml_tree.specs.inside.Builder as steps
use Rattle.yaml_tokens.specs.declared.token.Token.{Token}
use Rattle.yaml_tokens.specs.declared.token.Token.TheVariants.{Dash, Key, Scalar, Anchor, Alias, Bar, Body, Form, OddToken}
use Rattle.yaml_tree.specs.declared.literal.Literal.{Literal}
use Rattle.yaml_tree.specs.declared.known.Measure.{Measure}
use Rattle.yaml_tree.specs.declared.known.KnownNode.{KnownNode}
use Rattle.yaml_tree.specs.declared.known.GivenName.{GivenName}
use Rattle.yaml_tree.specs.declared.node.Node.{Node}
use Rattle.yaml_tree.specs.declared.node.Value.{Value}
use Rattle.yaml_tree.specs.declared.node.Value.TheVariants.{Null, Text}
use Rattle.yaml_tree.specs.declared.stack.Open.{Open}
use Rattle.yaml_tree.specs.declared.builder.Builder.{Builder}
use Rattle.yaml_tree.proofs.Stands.{KnownIs, NamesAre, named_by, Frame, called, wrap, names_at, line_at, is_key, key_of, repeats, HasName, rows_of, OpenIs, before_of, OpensAre, LiteralIs, ValueIs, StandsAt, IsShut, Between}
use Rattle.yaml_tree.proofs.KnownLaws.{slice_get-last, HoldsSaid_more, HoldsRows_more, NamesAre_more, named_are, with_part_item, with_part_pair, begins_on_from_line, HoldsRows_from_line, node_is}

-- ---- nodes more

OpenIs_more : (nodes more : List Node) (o : Open) (f : Frame) (before : Said) → OpenIs nodes o f before → OpenIs (nodes ++ more) o f before
OpenIs_more nodes more o f before h = record { has_depth = h.has_depth; has_kind = h.has_kind; has_line = h.has_line; has_first = h.has_first; has_key = h.has_key; has_name = h.has_name; has_measure = h.has_measure; holds = HoldsRows_more nodes more before (rows_of o) h.holds; heads = h.heads }

pub OpensAre_more : (nodes more : List Node) (os : List Open) (fs : List Frame) → OpensAre nodes os fs → OpensAre (nodes ++ more) os fs
OpensAre_more nodes more [] [] h = tt
OpensAre_more nodes more [] (f ∷ fs) h = h
OpensAre_more nodes more (o ∷ os) [] h = h
OpensAre_more nodes more (o ∷ os) (f ∷ fs) h = (OpenIs_more nodes more o f (before_of f (names_at fs)) h.0, h.1, OpensAre_more nodes more os fs h.2)

-- ---- a node that is the value

-- what is said where the next value comes
abbrev pub meaning_at : List Frame → Written → Meaning
meaning_at fs value = said (null (line_at fs)) (names_at fs) value

pub said_called : (waits : Option GivenName) (name : Option Token) (none : Said) (names : Anchors) (value : Written) → HasName waits name → said none names (called name value) ≡ named_by waits (said none names value)
said_called None None none names value h = refl
said_called (Some n) (Some token) none names value h = λ j. given (sym h.1 j) (sym h.2 j) (said none names value)
said_called None (Some token) none names value h = absurd h
said_called (Some n) None none names value h = absurd h

-- a node more, which takes the name that waits, is the value
pub put_node_stands : (line : ℕ) (v : Value) (m : Measure) (b : Builder) (fs : List Frame) (name : Option Token) (value : Written) → b.cells ≡ [] → b.literal ≡ None → OpensAre b.nodes b.open_rows fs → HasName b.name name
    → NamesAre b.nodes b.names (meaning_at fs value).1 → m ≡ measured (meaning_at fs value).0 → line ≡ begins_on (meaning_at fs value).0
    → ((l : ℕ) → HoldsSaid (b.nodes ++ (record { line = l; value = v } ∷ [])) (from_line l (meaning_at fs value).0) (length b.nodes))
    → StandsAt (put_node line v m b) fs (called name value)
unfolding put_node with_node
put_node_stands line v m b fs name value flat shut opens waits names is begins holds =
    let more : List Node = record { line = begins_at line b.name; value = v } ∷ [] in
    let k : KnownNode = next_known m b in
    let meaning : Meaning = meaning_at fs value in
    let e = said_called b.name name (null (line_at fs)) (names_at fs) value waits in
    let known : KnownIs (b.nodes ++ more) k (named_by b.name meaning).0 = node_is (b.nodes ++ more) b.name line meaning k is begins (holds (begins_at line b.name)) in
    record {
      flat = flat;
      opens = OpensAre_more b.nodes more b.open_rows fs opens;
      is = (
        shut,
        refl,
        subst (λ x. KnownIs (b.nodes ++ more) k x.0) (sym e) known,
        subst (λ x. NamesAre (b.nodes ++ more) (steps.named b.name k b.names) x.1) (sym e) (named_are (b.nodes ++ more) b.names meaning.1 b.name k meaning.0 (NamesAre_more b.nodes more b.names meaning.1 names) known),
      );
    }

-- ---- the value, or a null where none has come

-- a value has come
pub record Valued (b : Builder) (fs : List Frame) (value : Written) (k : KnownNode) : Type 0 where
  pub stands : StandsAt b fs value
  pub is : b.value ≡ Some k
  pub shut : b.literal ≡ None

abbrev pub NoneIs : Builder → List Frame → Written → Type 0
NoneIs b fs value = (name : Option Token) × HasName b.name name × (value ≡ called name nothing) × NamesAre b.nodes b.names (names_at fs)

pub none_is : (b : Builder) (fs : List Frame) (value : Written) → b.value ≡ None → b.literal ≡ None → StandsAt b fs value → NoneIs b fs value
none_is b fs value e shut s = subst (λ l. ValueIs None l b fs value) shut (subst (λ v. ValueIs v b.literal b fs value) e s.is)

pub valued_stands : (line : ℕ) (b : Builder) (fs : List Frame) (value : Written) → line ≡ line_at fs → b.literal ≡ None → StandsAt b fs value → (k : KnownNode) × Valued (valued line b) fs value k × ((valued line b).open_rows ≡ b.open_rows)
unfolding valued put_node with_node
valued_stands line b fs value same shut s = by b.value refl
  where
    by : (v : Option KnownNode) → b.value ≡ v → (k : KnownNode) × Valued (cond (is_some v) b (put_node line Null one_node b)) fs value k × ((cond (is_some v) b (put_node line Null one_node b)).open_rows ≡ b.open_rows)
    by (Some k) e = (k, record { stands = s; is = e; shut = shut }, refl)
    by None e = let i = none_is b fs value e shut s in (
      next_known one_node b,
      record {
        stands = subst (λ x. StandsAt (put_node line Null one_node b) fs x) (sym i.2)
            (put_node_stands line Null one_node b fs i.0 nothing s.flat shut s.opens i.1 i.3 refl same (λ l. slice_get-last b.nodes _));
        is = refl;
        shut = shut;
      },
      refl,
    )

-- which collections are open makes no difference
pub valued_rows : (line : ℕ) (b : Builder) (os : List Open) → valued line (record b { open_rows = os }) ≡ record (valued line b) { open_rows = os }
unfolding valued put_node with_node
valued_rows line b os = by (is_some b.value)
  where
    by : (t : Bool) → cond t (record b { open_rows = os }) (put_node line Null one_node (record b { open_rows = os })) ≡ record (cond t b (put_node line Null one_node b)) { open_rows = os }
    by true = refl
    by false = refl

-- ---- rows

or_false : (a : Bool) → (a || false) ≡ a
or_false true = refl
or_false false = refl

pub row_behind_names : (head : Token) (before : Said) (meaning : Meaning) → (row_behind head before meaning).1 ≡ meaning.1
row_behind_names (Key line column text) before meaning = refl
row_behind_names (Dash line column) before meaning = refl
row_behind_names (Scalar line column text) before meaning = refl
row_behind_names (Anchor line column text) before meaning = refl
row_behind_names (Alias line column text) before meaning = refl
row_behind_names (Bar line column chomp) before meaning = refl
row_behind_names (Body line column bytes) before meaning = refl
row_behind_names (Form line column pieces) before meaning = refl
row_behind_names (OddToken line column why) before meaning = refl

row_behind_begins : (head : Token) (before : Said) (meaning : Meaning) → begins_on (row_behind head before meaning).0 ≡ begins_on before
row_behind_begins (Key line column text) before meaning = refl
row_behind_begins (Dash line column) before meaning = refl
row_behind_begins (Scalar line column text) before meaning = refl
row_behind_begins (Anchor line column text) before meaning = refl
row_behind_begins (Alias line column text) before meaning = refl
row_behind_begins (Bar line column chomp) before meaning = refl
row_behind_begins (Body line column bytes) before meaning = refl
row_behind_begins (Form line column pieces) before meaning = refl
row_behind_begins (OddToken line column why) before meaning = refl

-- the measure that is kept is that of the rows with the value
pub row_measure : (head : Token) (before : Said) (meaning : Meaning) → is_head head ≡ true → with_part (with_repeat (repeats head before) (measured before)) (measured meaning.0) ≡ measured (row_behind head before meaning).0
row_measure (Key line column text) before meaning h = with_part_pair before line text meaning.0
row_measure (Dash line column) before meaning h = ap (λ q. with_part (record (measured before) { repeated = q }) (measured meaning.0)) (or_false (has_repeat before)) ∙ with_part_item before meaning.0
row_measure (Scalar line column text) before meaning h = absurd (false≢true h)
row_measure (Anchor line column text) before meaning h = absurd (false≢true h)
row_measure (Alias line column text) before meaning h = absurd (false≢true h)
row_measure (Bar line column chomp) before meaning h = absurd (false≢true h)
row_measure (Body line column bytes) before meaning h = absurd (false≢true h)
row_measure (Form line column pieces) before meaning h = absurd (false≢true h)
row_measure (OddToken line column why) before meaning h = absurd (false≢true h)

-- the rows with the value of node m
abbrev pub rows_with : Token → ℕ → Rows → Rows
rows_with head m rows = with_row (is_key head) (line_of head) (key_of head) m rows

row_holds : (nodes : List Node) (head : Token) (before : Said) (meaning : Meaning) (rows : Rows) (m n l : ℕ) → is_head head ≡ true → HoldsRows nodes before rows → HoldsSaid nodes meaning.0 m
    → IsNode nodes n l (rows_value (is_key head) (rows_with head m rows)) → HoldsSaid nodes (from_line l (row_behind head before meaning).0) n
row_holds nodes (Key line column text) before meaning rows m n l h held value e = (rows, m, HoldsRows_from_line nodes l before rows held, value, subst (λ x. IsNode nodes n x (rows_value true (rows_with (Key line column text) m rows))) (sym (begins_on_from_line l before)) e)
row_holds nodes (Dash line column) before meaning rows m n l h held value e = (rows, m, HoldsRows_from_line nodes l before rows held, value, subst (λ x. IsNode nodes n x (rows_value false (rows_with (Dash line column) m rows))) (sym (begins_on_from_line l before)) e)
row_holds nodes (Scalar line column text) before meaning rows m n l h held value e = absurd (false≢true h)
row_holds nodes (Anchor line column text) before meaning rows m n l h held value e = absurd (false≢true h)
row_holds nodes (Alias line column text) before meaning rows m n l h held value e = absurd (false≢true h)
row_holds nodes (Bar line column chomp) before meaning rows m n l h held value e = absurd (false≢true h)
row_holds nodes (Body line column bytes) before meaning rows m n l h held value e = absurd (false≢true h)
row_holds nodes (Form line column pieces) before meaning rows m n l h held value e = absurd (false≢true h)
row_holds nodes (OddToken line column why) before meaning rows m n l h held value e = absurd (false≢true h)

pub rows_hold : (nodes : List Node) (head : Token) (before : Said) (meaning : Meaning) (rows : Rows) (m : ℕ) → is_head head ≡ true → HoldsRows nodes before rows → HoldsSaid nodes meaning.0 m → HoldsRows nodes (row_behind head before meaning).0 (rows_with head m rows)
rows_hold nodes (Key line column text) before meaning rows m h held value = (rows, m, held, value, refl)
rows_hold nodes (Dash line column) before meaning rows m h held value = (rows, m, held, value, refl)
rows_hold nodes (Scalar line column text) before meaning rows m h held value = absurd (false≢true h)
rows_hold nodes (Anchor line column text) before meaning rows m h held value = absurd (false≢true h)
rows_hold nodes (Alias line column text) before meaning rows m h held value = absurd (false≢true h)
rows_hold nodes (Bar line column chomp) before meaning rows m h held value = absurd (false≢true h)
rows_hold nodes (Body line column bytes) before meaning rows m h held value = absurd (false≢true h)
rows_hold nodes (Form line column pieces) before meaning rows m h held value = absurd (false≢true h)
rows_hold nodes (OddToken line column why) before meaning rows m h held value = absurd (false≢true h)

-- ---- closing a collection

-- the collection, its last row finished by a node, is the value
abbrev closing : Open → KnownNode → Builder → Builder
closing o k b = put_node o.first_line (collection (finished o k)) (with_part o.measure k.measure) (record b { name = o.name })

closing_stands : (o : Open) (os : List Open) (b : Builder) (f : Frame) (fs : List Frame) (value : Written) (k : KnownNode) → Valued b (f ∷ fs) value k → b.open_rows ≡ o ∷ os → StandsAt (closing o k (record b { open_rows = os })) fs (called f.name (row f.before f.head value))
closing_stands o os b f fs value k s e =
    let opens : OpensAre b.nodes (o ∷ os) (f ∷ fs) = subst (λ l. OpensAre b.nodes l (f ∷ fs)) e s.stands.opens in
    let open_is : OpenIs b.nodes o f (before_of f (names_at fs)) = opens.0 in
    let come : ValueIs (Some k) b.literal b (f ∷ fs) value = subst (λ v. ValueIs v b.literal b (f ∷ fs) value) s.is s.stands.is in
    let before : Said = before_of f (names_at fs) in
    let meaning : Meaning = meaning_at (f ∷ fs) value in
    let node : ℕ → Node = λ l. record { line = l; value = collection (finished o k) } in
    put_node_stands o.first_line (collection (finished o k)) (with_part o.measure k.measure) (record b { open_rows = os; name = o.name }) fs f.name (row f.before f.head value) s.stands.flat s.shut opens.2 open_is.has_name
    (subst (NamesAre b.nodes b.names) (sym (row_behind_names f.head before meaning)) come.3)
    ((λ j. with_part (open_is.has_measure j) (come.2.0 j)) ∙ row_measure f.head before meaning open_is.heads)
    (open_is.has_first ∙ sym (row_behind_begins f.head before meaning))
    (λ l. row_holds (b.nodes ++ (node l ∷ [])) f.head before meaning (rows_of o) k.node (length b.nodes) l open_is.heads
    (HoldsRows_more b.nodes (node l ∷ []) before (rows_of o) open_is.holds)
    (HoldsSaid_more b.nodes (node l ∷ []) meaning.0 k.node come.2.1)
    (slice_get-last b.nodes (node l) ∙ (λ j. Some (record { line = l; value = rows_value (open_is.has_kind j) (with_row (open_is.has_kind j) (open_is.has_line j) (open_is.has_key j) k.node (rows_of o)) }))))

pub closed_stands : (o : Open) (os : List Open) (b : Builder) (f : Frame) (fs : List Frame) (value : Written) → b.literal ≡ None → StandsAt b (f ∷ fs) value → b.open_rows ≡ o ∷ os → StandsAt (closed o (record b { open_rows = os })) fs (called f.name (row f.before f.head value))
unfolding closed
closed_stands o os b f fs value shut s e =
    let opens : OpensAre b.nodes (o ∷ os) (f ∷ fs) = subst (λ l. OpensAre b.nodes l (f ∷ fs)) e s.opens in
    let v = valued_stands o.line b (f ∷ fs) value opens.0.has_line shut s in
    subst (λ x. StandsAt x fs (called f.name (row f.before f.head value)))
    (ap (λ k. closing o k (record (valued o.line b) { open_rows = os })) (sym (ap known_of v.1.is)) ∙ ap (λ x. closing o (known_of x.value) x) (sym (valued_rows o.line b os)))
    (closing_stands o os (valued o.line b) f fs value v.0 v.1 (v.2 ∙ e))

-- a value that has come and takes no token of this depth but a line of a literal block
abbrev pub IsFull : ℕ → Written → Type 0
IsFull d nothing = ⊥
IsFull d (leaf token) = Unit {0}
IsFull d (literal token lines) = Unit {0}
IsFull d (flowing token value) = Unit {0}
IsFull d (named token value) = IsFull d value
IsFull d (row before head value) = d < depth head

full_called : (d : ℕ) (name : Option Token) (value : Written) → IsFull d value → IsFull d (called name value)
full_called d None value h = h
full_called d (Some token) value h = h

-- the same, where one has come
abbrev pub HasCome : ℕ → Option KnownNode → Written → Type 0
HasCome d None value = Unit {0}
HasCome d (Some k) value = IsFull d value

abbrev pub AtMost : ℕ → List Frame → Type 0
AtMost d [] = Unit {0}
AtMost d (f ∷ fs) = depth f.head ≤ d

-- the builder stands for this, with no literal block open and no collection that is deeper
pub record ClosedDeeper (d : ℕ) (b : Builder) (w : Written) : Type 0 where
  pub frames : List Frame
  pub value : Written
  pub stands : StandsAt b frames value
  pub shut : b.literal ≡ None
  pub wraps : wrap frames value ≡ w
  pub shallow : AtMost d frames
  pub come : HasCome d b.value value

closed_shut : (o : Open) (b : Builder) → b.literal ≡ None → (closed o b).literal ≡ None
unfolding closed valued put_node with_node
closed_shut o b shut = by (is_some b.value)
  where
    by : (t : Bool) → (cond t b (put_node o.line Null one_node b)).literal ≡ None
    by true = shut
    by false = shut

closed_rows : (o : Open) (os : List Open) (b : Builder) → (closed o (record b { open_rows = os })).open_rows ≡ os
unfolding closed valued put_node with_node
closed_rows o os b = by (is_some b.value)
  where
    by : (t : Bool) → (cond t (record b { open_rows = os }) (put_node o.line Null one_node (record b { open_rows = os }))).open_rows ≡ os
    by true = refl
    by false = refl

closed_come : (d : ℕ) (o : Open) (b : Builder) (value : Written) → IsFull d value → HasCome d (closed o b).value value
unfolding closed put_node with_node
closed_come d o b value h = h

pub closed_deeper_on_stands : (d : ℕ) (os : List Open) (b : Builder) (fs : List Frame) (value : Written) → b.open_rows ≡ os → StandsAt b fs value → b.literal ≡ None → HasCome d b.value value → ClosedDeeper d (closed_deeper_on d os b) (wrap fs value)
unfolding closed_deeper_on
closed_deeper_on_stands d [] b [] value e s shut come = record { frames = []; value = value; stands = s; shut = shut; wraps = refl; shallow = tt; come = come }
closed_deeper_on_stands d [] b (f ∷ fs) value e s shut come = absurd (subst (λ l. OpensAre b.nodes l (f ∷ fs)) e s.opens)
closed_deeper_on_stands d (o ∷ os) b [] value e s shut come = absurd (subst (λ l. OpensAre b.nodes l []) e s.opens)
closed_deeper_on_stands d (o ∷ os) b (f ∷ fs) value e s shut come =
    let opens : OpensAre b.nodes (o ∷ os) (f ∷ fs) = subst (λ l. OpensAre b.nodes l (f ∷ fs)) e s.opens in
    let same : o.depth ≡ depth f.head = opens.0.has_depth in
    let c : Builder = closed o (record b { open_rows = os }) in
    let new : Written = called f.name (row f.before f.head value) in
    elim (nat_lt d o.depth) as (λ t. nat_lt d o.depth ≡ t → ClosedDeeper d (cond t (closed_deeper_on d os c) b) (wrap (f ∷ fs) value)) [
      | true ↦ λ q. closed_deeper_on_stands d os c fs new (closed_rows o os b) (closed_stands o os b f fs value shut s e) (closed_shut o (record b { open_rows = os }) shut)
          (closed_come d o (record b { open_rows = os }) new (full_called d f.name (row f.before f.head value) (let lt : d < o.depth = ltb-true d o.depth q in omega (arith, lt, same))))
      | false ↦ λ q. record { frames = f ∷ fs; value = value; stands = s; shut = shut; wraps = refl; shallow = (let le : o.depth ≤ d = ltb-false d o.depth q in omega (arith, le, same)); come = come }
    ] refl

-- ---- the end of a literal block

full_shut : (d : ℕ) (value : Written) → IsShut value → IsFull d value
full_shut d nothing h = h
full_shut d (leaf token) h = tt
full_shut d (literal token lines) h = absurd h
full_shut d (flowing token value) h = tt
full_shut d (named token value) h = full_shut d value h
full_shut d (row before head value) h = absurd h

-- no literal block is open, and a value that has come is full
pub record Ready (b : Builder) (fs : List Frame) (value : Written) : Type 0 where
  pub stands : StandsAt b fs value
  pub shut : b.literal ≡ None
  pub come : (d : ℕ) → HasCome d b.value value

pub ended_ready : (b : Builder) (fs : List Frame) (value : Written) → StandsAt b fs value → Between b.value value → Ready (ended b) fs value
unfolding ended put_node with_node
ended_ready b fs value s between = by b.literal b.value refl refl
  where
    come : (d : ℕ) (v : Option KnownNode) → Between v value → HasCome d v value
    come d None h = tt
    come d (Some k) h = full_shut d value h

    by : (l : Option Literal) (v : Option KnownNode) → b.literal ≡ l → b.value ≡ v → Ready (ended_of l b) fs value
    by None v e q = record { stands = s; shut = e; come = λ d. come d b.value between }
    by (Some l) (Some k) e q = absurd (none-some l (sym (subst (λ v. ValueIs v b.literal b fs value) q s.is).0 ∙ e))
    by (Some l) None e q =
        let i : ValueIs None (Some l) b fs value = subst (λ x. ValueIs None x b fs value) e (subst (λ v. ValueIs v b.literal b fs value) q s.is) in
        let is : LiteralIs l i.2 i.3 = i.4 in
        record {
          stands = subst (λ x. StandsAt (put_node l.line (Text (block_text l.chomp l.lines)) one_node (record b { literal = None })) fs x) (sym i.6)
              (put_node_stands l.line (Text (block_text l.chomp l.lines)) one_node (record b { literal = None }) fs i.0 (literal i.2 i.3) s.flat refl s.opens i.1 i.7 refl is.has_line
              (λ n. slice_get-last b.nodes _ ∙ (λ j. Some (record { line = n; value = Text (block_text (is.has_chomp j) (is.has_lines j)) }))));
          shut = refl;
          come = λ d. subst (IsFull d) (sym i.6) (full_called d i.0 (literal i.2 i.3) tt);
        }
