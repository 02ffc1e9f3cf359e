-- Heads of rows: the builder takes one exactly where the tree as it is written so far takes it, and goes on standing
-- for it.
use Rattle.std.proofs.Common.{◌≡◌, ℕ, ◌≤◌, Bool, true, false, ◌&&◌, cond, List, [], ◌∷◌, ◌++◌, Option, Some, None, option_map, Result, Ok, Err, refl, sym, ap, ◌∙◌, subst, arith, ◌==◌, nat_lt, is_some, eq-eqb, eqb-true}
use Rattle.std.proofs.lemmas.Bool.{cond-true, cond-false, false≢true, le-ltb, lt-ltb, ne_eqb}
use Rattle.yaml_tree.specs.Written.{Written, depth, line_of, is_head, is_body_line}
use Rattle.yaml_tree.specs.Written.Written.{nothing, leaf, literal, flowing, named, row}
use Rattle.yaml_tree.specs.Said.{Said, Meaning, begun_block, row_behind}
use Rattle.yaml_tree.specs.Holds.{HoldsRows, no_rows, with_row, begins_on}
use Rattle.yaml_tree.specs.Entries as entries
use Rattle.yaml_tree.specs.inside.Stack.{new_open, measured, no_row, with_part, with_repeat, finished, has_row, with_next_row}
use Rattle.yaml_tree.specs.inside.Builder.{valued, known_of, begun, next_row, headed_on, headed, closed_deeper}
use Rattle.yaml_tokens.specs.declared.token.Token.{Token}
use Rattle.yaml_tokens.specs.declared.token.Token.TheVariants.{Dash, Key, Scalar, Anchor, Alias, Bar, Body, Form, OddToken}
use Rattle.yaml_tree.specs.declared.fault.FaultKind.{FaultKind}
use Rattle.yaml_tree.specs.declared.fault.FaultKind.TheVariants.{Syntax}
use Rattle.yaml_tree.specs.declared.known.KnownNode.{KnownNode}
use Rattle.yaml_tree.specs.declared.node.Node.{Node}
use Rattle.yaml_tree.specs.declared.stack.Open.{Open}
use Rattle.yaml_tree.specs.declared.builder.Builder.{Builder}
use Rattle.yaml_tree.proofs.Lists.{is_same}
use Rattle.yaml_tree.proofs.WrittenLaws.{FlowReader, begun_by, may_follow_name, may_go_on, with_token}
use Rattle.yaml_tree.proofs.KnownLaws.{mapping_has_key}
use Rattle.yaml_tree.proofs.Stands.{NamesAre, Frame, called, wrap, names_at, is_key, key_of, repeats, HasName, rows_of, OpenIs, before_of, Chain, OpensAre, ValueIs, StandsAt, Between, StandsFor}
use Rattle.yaml_tree.proofs.SimulationValues.{meaning_at, Valued, NoneIs, none_is, valued_stands, valued_rows, row_behind_names, row_measure, rows_hold, IsFull, HasCome, AtMost, closed_deeper_on_stands, Ready}

-- ---- tokens at the end of the frames

chain_weaker : (d e : ℕ) (fs : List Frame) → d ≤ e → Chain d fs → Chain e fs
chain_weaker d e [] le h = tt
chain_weaker d e (f ∷ fs) le h = (omega (arith, le, h.0), h.1)

option_map_twice : {A B C : Type 0} (f : A → B) (g : B → C) (o : Option A) → option_map g (option_map f o) ≡ option_map (λ x. g (f x)) o
option_map_twice f g None = refl
option_map_twice f g (Some x) = refl

option_map-same : {A : Type 0} (o : Option A) → o ≡ option_map (λ x. x) o
option_map-same None = refl
option_map-same (Some x) = refl

-- a name before a collection takes each token further
with_token_row : (r : FlowReader) (m : Token) (name : Option Token) (before : Written) (head : Token) (value : Written) → with_token r m (called name (row before head value)) ≡ option_map (called name) (with_token r m (row before head value))
with_token_row r m None before head value = option_map-same (with_token r m (row before head value))
with_token_row r m (Some token) before head value = refl

-- a token that is deeper than all frames goes to the innermost
pub with_token_wrap : (r : FlowReader) (m : Token) (fs : List Frame) (value : Written) → Chain (depth m) fs → with_token r m (wrap fs value) ≡ option_map (wrap fs) (with_token r m value)
with_token_wrap r m [] value h = option_map-same (with_token r m value)
with_token_wrap r m (f ∷ fs) value h =
    with_token_wrap r m fs (called f.name (row f.before f.head value)) (chain_weaker (depth f.head) (depth m) fs (omega (arith, h.0)) h.1)
    ∙ ap (option_map (wrap fs)) (with_token_row r m f.name f.before f.head value
    ∙ ap (option_map (called f.name)) (cond-true (nat_lt (depth f.head) (depth m)) _ _ (lt-ltb _ _ h.0))
    ∙ option_map_twice (row f.before f.head) (called f.name) (with_token r m value))
    ∙ option_map_twice (λ v. called f.name (row f.before f.head v)) (wrap fs) (with_token r m value)

level_again : (r : FlowReader) (m : Token) (f : Frame) (value : Written) → depth f.head ≡ depth m → is_head m ≡ true → with_token r m (row f.before f.head value) ≡ Some (row (row f.before f.head value) m nothing)
level_again r m f value e h = is_same (depth f.head) (depth m) (is_head m) _ _ _ e h

-- the next row of the innermost collection
abbrev next_frame : Token → Frame → Written → Frame
next_frame m f value = record { before = row f.before f.head value; head = m; name = f.name }

-- a head as deep as the innermost frame is that collection's next row
with_token_level : (r : FlowReader) (m : Token) (f : Frame) (fs : List Frame) (value : Written) → depth f.head ≡ depth m → is_head m ≡ true → Chain (depth f.head) fs → with_token r m (wrap (f ∷ fs) value) ≡ Some (wrap (next_frame m f value ∷ fs) nothing)
with_token_level r m f fs value e h chain =
    with_token_wrap r m fs (called f.name (row f.before f.head value)) (subst (λ d. Chain d fs) e chain)
    ∙ ap (option_map (wrap fs)) (with_token_row r m f.name f.before f.head value ∙ ap (option_map (called f.name)) (level_again r m f value e h))

-- what the value doesn't take no frame takes, but a head's
pub refused_wrap : (r : FlowReader) (m : Token) (fs : List Frame) (x : Written) → is_head m ≡ false → with_token r m x ≡ None → with_token r m (wrap fs x) ≡ None
refused_wrap r m [] x h e = e
refused_wrap r m (f ∷ fs) x h e = refused_wrap r m fs (called f.name (row f.before f.head x)) h
    (with_token_row r m f.name f.before f.head x ∙ ap (option_map (called f.name)) (inner (nat_lt (depth f.head) (depth m))))
  where
    inner : (q : Bool) → cond q (option_map (row f.before f.head) (with_token r m x)) (cond (is_head m && (depth f.head == depth m)) (Some (row (row f.before f.head x) m nothing)) None) ≡ None
    inner true = ap (option_map (row f.before f.head)) e
    inner false = ap (λ k. cond (k && (depth f.head == depth m)) (Some (row (row f.before f.head x) m nothing)) None) h

-- where nothing has come behind a name, if any
pub called_begins : (r : FlowReader) (m : Token) (name : Option Token) → may_follow_name m ≡ true → with_token r m (called name nothing) ≡ option_map (called name) (begun_by r m)
called_begins r m None h = option_map-same (begun_by r m)
called_begins r m (Some token) h = cond-true (may_follow_name m) _ _ h

pub called_refuses : (r : FlowReader) (m : Token) (name : Option Token) (value : Written) → with_token r m value ≡ None → with_token r m (called name value) ≡ None
called_refuses r m None value e = e
called_refuses r m (Some token) value e = by (may_go_on value m)
  where
    by : (q : Bool) → cond q (option_map (named token) (with_token r m value)) None ≡ None
    by true = ap (option_map (named token)) e
    by false = refl

pub full_refuses : (r : FlowReader) (m : Token) (d : ℕ) (value : Written) → depth m ≡ d → is_body_line m ≡ false → IsFull d value → with_token r m value ≡ None
full_refuses r m d nothing e b full = absurd full
full_refuses r m d (leaf other) e b full = refl
full_refuses r m d (literal head lines) e b full = ap (λ k. cond (k && (depth m == depth head)) (Some (literal head (lines ++ (m ∷ [])))) None) b
full_refuses r m d (flowing other value) e b full = refl
full_refuses r m d (named head value) e b full = called_refuses r m (Some head) value (full_refuses r m d value e b full)
full_refuses r m d (row before head value) e b full =
    cond-false (nat_lt (depth head) (depth m)) _ _ (le-ltb _ _ (omega (arith, e, full)))
    ∙ cond-false (is_head m && (depth head == depth m)) _ _ (and_false (is_head m) (depth head == depth m) (ne_eqb (depth head) (depth m) (λ q. omega (arith, q, e, full))))
  where
    and_false : (a b : Bool) → b ≡ false → (a && b) ≡ false
    and_false true b e = e
    and_false false b e = refl

-- ---- heads

-- what a head is
record HeadIs (r : FlowReader) (m : Token) : Type 0 where
  begins : begun_by r m ≡ Some (row nothing m nothing)
  follows : may_follow_name m ≡ true
  no_line : is_body_line m ≡ false
  has_first : line_of m ≡ begins_on (begun_block m)
  has_measure : no_row ≡ with_repeat (repeats m (begun_block m)) (measured (begun_block m))
  holds : (nodes : List Node) → HoldsRows nodes (begun_block m) no_rows

head_is : (r : FlowReader) (m : Token) → is_head m ≡ true → HeadIs r m
head_is r (Dash line column) h = record { begins = refl; follows = refl; no_line = refl; has_first = refl; has_measure = refl; holds = λ nodes. refl }
head_is r (Key line column text) h = record { begins = refl; follows = refl; no_line = refl; has_first = refl; has_measure = refl; holds = λ nodes. refl }
head_is r (Scalar line column text) h = absurd (false≢true h)
head_is r (Anchor line column text) h = absurd (false≢true h)
head_is r (Alias line column text) h = absurd (false≢true h)
head_is r (Bar line column chomp) h = absurd (false≢true h)
head_is r (Body line column bytes) h = absurd (false≢true h)
head_is r (Form line column pieces) h = absurd (false≢true h)
head_is r (OddToken line column why) h = absurd (false≢true h)

-- what a step left stands for what is written with the token, or the token was refused as a fault of syntax
abbrev pub Taken : FlowReader → Token → Written → Result Builder FaultKind → Type 0
Taken r m w (Ok b) = (new : Written) × (with_token r m w ≡ Some new) × StandsFor b new
Taken r m w (Err kind) = (with_token r m w ≡ None) × (kind ≡ Syntax)

-- no value where none has come
pub still_none : (b new : Builder) (fs : List Frame) (value : Written) → b.value ≡ None → b.literal ≡ None → NoneIs new fs value → ValueIs b.value b.literal new fs value
still_none b new fs value e shut h = subst (λ v. ValueIs v b.literal new fs value) (sym e) (subst (λ l. ValueIs None l new fs value) (sym shut) h)

pub none_between : (v : Option KnownNode) (value : Written) → v ≡ None → Between v value
none_between v value e = subst (λ x. Between x value) (sym e) tt

begun_taken : (r : FlowReader) (m : Token) (b : Builder) (fs : List Frame) (value : Written) → is_head m ≡ true → StandsAt b fs value → b.literal ≡ None → Chain (depth m) fs → HasCome (depth m) b.value value → Taken r m (wrap fs value) (begun (depth m) (is_key m) (line_of m) (key_of m) b)
unfolding begun
begun_taken r m b fs value h s shut chain come = by b.value refl
  where
    head : HeadIs r m
    head = head_is r m h

    next : Builder
    next = record b { open_rows = new_open (depth m) (is_key m) (line_of m) (key_of m) b.name ∷ b.open_rows; name = None }

    by : (v : Option KnownNode) → b.value ≡ v → Taken r m (wrap fs value) (cond (is_some v) (Err Syntax) (Ok next))
    by (Some k) e = (with_token_wrap r m fs value chain ∙ ap (option_map (wrap fs)) (full_refuses r m (depth m) value refl head.no_line (subst (λ v. HasCome (depth m) v value) e come)), refl)
    by None e =
        let i = none_is b fs value e shut s in
        let new : Frame = record { before = nothing; head = m; name = i.0 } in (
          wrap fs (called i.0 (row nothing m nothing)),
          ap (λ v. with_token r m (wrap fs v)) i.2 ∙ with_token_wrap r m fs (called i.0 nothing) chain
              ∙ ap (option_map (wrap fs)) (called_begins r m i.0 head.follows ∙ ap (option_map (called i.0)) head.begins),
          (
            new ∷ fs,
            nothing,
            record {
              flat = s.flat;
              opens = (record { has_depth = refl; has_kind = refl; has_line = refl; has_first = head.has_first; has_key = refl; has_name = i.1; has_measure = head.has_measure; holds = head.holds b.nodes; heads = h }, chain, s.opens);
              is = still_none b next (new ∷ fs) nothing e shut (None, tt, refl, i.3);
            },
            refl,
            none_between b.value nothing e,
          ),
        )

-- ---- a collection's next row

same_kind : (a b : Token) → is_head a ≡ true → is_head b ≡ true → depth a ≡ depth b → is_key a ≡ is_key b
same_kind (Dash line column) (Dash line' column') ha hb e = refl
same_kind (Dash line column) (Key line' column' text') ha hb e = absurd (omega arith)
same_kind (Key line column text) (Dash line' column') ha hb e = absurd (omega arith)
same_kind (Key line column text) (Key line' column' text') ha hb e = refl
same_kind (Scalar line column text) b ha hb e = absurd (false≢true ha)
same_kind (Anchor line column text) b ha hb e = absurd (false≢true ha)
same_kind (Alias line column text) b ha hb e = absurd (false≢true ha)
same_kind (Bar line column chomp) b ha hb e = absurd (false≢true ha)
same_kind (Body line column bytes) b ha hb e = absurd (false≢true ha)
same_kind (Form line column pieces) b ha hb e = absurd (false≢true ha)
same_kind (OddToken line column why) b ha hb e = absurd (false≢true ha)
same_kind a (Scalar line column text) ha hb e = absurd (false≢true hb)
same_kind a (Anchor line column text) ha hb e = absurd (false≢true hb)
same_kind a (Alias line column text) ha hb e = absurd (false≢true hb)
same_kind a (Bar line column chomp) ha hb e = absurd (false≢true hb)
same_kind a (Body line column bytes) ha hb e = absurd (false≢true hb)
same_kind a (Form line column pieces) ha hb e = absurd (false≢true hb)
same_kind a (OddToken line column why) ha hb e = absurd (false≢true hb)

row_behind_begins : (head : Token) (before : Said) (meaning : Meaning) → begins_on before ≡ begins_on (row_behind head before meaning).0
row_behind_begins (Key line column text) before meaning = refl
row_behind_begins (Dash line column) before meaning = refl
row_behind_begins (Scalar line column text) before meaning = refl
row_behind_begins (Anchor line column text) before meaning = refl
row_behind_begins (Alias line column text) before meaning = refl
row_behind_begins (Bar line column chomp) before meaning = refl
row_behind_begins (Body line column bytes) before meaning = refl
row_behind_begins (Form line column pieces) before meaning = refl
row_behind_begins (OddToken line column why) before meaning = refl

-- whether a finished row has the key, as the code asks it
has_row_is : (nodes : List Node) (tree : Said) (o : Open) (m : Token) → HoldsRows nodes tree (rows_of o) → is_head m ≡ true → o.mapping ≡ is_key m → has_row o (key_of m) ≡ repeats m tree
has_row_is nodes tree o (Dash line column) h head e = ap (λ t. t && entries.has_key [] o.entries) e
has_row_is nodes tree o (Key line column text) h head e = mapping_has_key nodes tree (rows_of o) o.mapping text h e
has_row_is nodes tree o (Scalar line column text) h head e = absurd (false≢true head)
has_row_is nodes tree o (Anchor line column text) h head e = absurd (false≢true head)
has_row_is nodes tree o (Alias line column text) h head e = absurd (false≢true head)
has_row_is nodes tree o (Bar line column chomp) h head e = absurd (false≢true head)
has_row_is nodes tree o (Body line column bytes) h head e = absurd (false≢true head)
has_row_is nodes tree o (Form line column pieces) h head e = absurd (false≢true head)
has_row_is nodes tree o (OddToken line column why) h head e = absurd (false≢true head)

-- the row whose value is this node is finished, and the next one begins
abbrev advancing : Open → KnownNode → ℕ → List ℕ → Builder → Builder
advancing o k line key b = record b { open_rows = with_next_row line key (finished o k) ∷ b.open_rows; value = None }

advancing_stands : (m : Token) (o : Open) (os : List Open) (b : Builder) (f : Frame) (fs : List Frame) (value : Written) (k : KnownNode) → is_head m ≡ true → depth f.head ≡ depth m → Valued b (f ∷ fs) value k → b.open_rows ≡ o ∷ os
    → StandsAt (advancing o k (line_of m) (key_of m) (record b { open_rows = os })) (next_frame m f value ∷ fs) nothing
advancing_stands m o os b f fs value k head level s e =
    let opens : OpensAre b.nodes (o ∷ os) (f ∷ fs) = subst (λ l. OpensAre b.nodes l (f ∷ fs)) e s.stands.opens in
    let before : Said = before_of f (names_at fs) in
    let is : OpenIs b.nodes o f before = opens.0 in
    let come : ValueIs (Some k) b.literal b (f ∷ fs) value = subst (λ v. ValueIs v b.literal b (f ∷ fs) value) s.is s.stands.is in
    let meaning : Meaning = meaning_at (f ∷ fs) value in
    let tree : Said = (row_behind f.head before meaning).0 in
    let next : Builder = advancing o k (line_of m) (key_of m) (record b { open_rows = os }) in
    let kind : o.mapping ≡ is_key m = is.has_kind ∙ same_kind f.head m is.heads head level in
    let done : Open = finished o k in
    let rows : HoldsRows b.nodes tree (rows_of done) = subst (HoldsRows b.nodes tree) (sym (λ j. with_row (is.has_kind j) (is.has_line j) (is.has_key j) k.node (rows_of o)))
    (rows_hold b.nodes f.head before meaning (rows_of o) k.node is.heads is.holds come.2.1) in
    let part : with_part o.measure k.measure ≡ measured tree = (λ j. with_part (is.has_measure j) (come.2.0 j)) ∙ row_measure f.head before meaning is.heads in
    record {
      flat = s.stands.flat;
      opens = (
        record {
          has_depth = is.has_depth ∙ level;
          has_kind = kind;
          has_line = refl;
          has_first = is.has_first ∙ row_behind_begins f.head before meaning;
          has_key = refl;
          has_name = is.has_name;
          has_measure = λ j. with_repeat (has_row_is b.nodes tree done m rows head kind j) (part j);
          holds = rows;
          heads = head;
        },
        subst (λ d. Chain d fs) level opens.1,
        opens.2,
      );
      is = subst (λ l. ValueIs None l next (next_frame m f value ∷ fs) nothing) (sym s.shut)
          (None, subst (λ n. HasName n None) (sym come.1) tt, refl, subst (NamesAre b.nodes b.names) (sym (row_behind_names f.head before meaning)) come.3);
    }

next_row_stands : (m : Token) (o : Open) (os : List Open) (b : Builder) (f : Frame) (fs : List Frame) (value : Written) → is_head m ≡ true → depth f.head ≡ depth m → b.literal ≡ None → StandsAt b (f ∷ fs) value → b.open_rows ≡ o ∷ os
    → StandsAt (next_row o (line_of m) (key_of m) (record b { open_rows = os })) (next_frame m f value ∷ fs) nothing
unfolding next_row
next_row_stands m o os b f fs value head level shut s e =
    let opens : OpensAre b.nodes (o ∷ os) (f ∷ fs) = subst (λ l. OpensAre b.nodes l (f ∷ fs)) e s.opens in
    let v = valued_stands o.line b (f ∷ fs) value opens.0.has_line shut s in
    subst (λ x. StandsAt x (next_frame m f value ∷ fs) nothing)
    (ap (λ k. advancing o k (line_of m) (key_of m) (record (valued o.line b) { open_rows = os })) (sym (ap known_of v.1.is))
    ∙ ap (λ x. advancing o (known_of x.value) (line_of m) (key_of m) x) (sym (valued_rows o.line b os)))
    (advancing_stands m o os (valued o.line b) f fs value v.0 head level v.1 (v.2 ∙ e))

next_value : (m : Token) (o : Open) (b : Builder) → Between (next_row o (line_of m) (key_of m) b).value nothing
unfolding next_row
next_value m o b = tt

headed_on_taken : (r : FlowReader) (m : Token) (os : List Open) (b : Builder) (fs : List Frame) (value : Written) → is_head m ≡ true → b.open_rows ≡ os → StandsAt b fs value → b.literal ≡ None → AtMost (depth m) fs → HasCome (depth m) b.value value
    → Taken r m (wrap fs value) (headed_on (depth m) (is_key m) (line_of m) (key_of m) os b)
headed_on_taken r m [] b [] value head e s shut most come = begun_taken r m b [] value head s shut tt come
headed_on_taken r m [] b (f ∷ fs) value head e s shut most come = absurd (subst (λ l. OpensAre b.nodes l (f ∷ fs)) e s.opens)
headed_on_taken r m (o ∷ os) b [] value head e s shut most come = absurd (subst (λ l. OpensAre b.nodes l []) e s.opens)
headed_on_taken r m (o ∷ os) b (f ∷ fs) value head e s shut most come =
    let opens : OpensAre b.nodes (o ∷ os) (f ∷ fs) = subst (λ l. OpensAre b.nodes l (f ∷ fs)) e s.opens in
    let same : o.depth ≡ depth f.head = opens.0.has_depth in
    let new : List Frame = next_frame m f value ∷ fs in
    elim (o.depth == depth m) as (λ q. (o.depth == depth m) ≡ q → Taken r m (wrap (f ∷ fs) value) (cond q (Ok (next_row o (line_of m) (key_of m) (record b { open_rows = os }))) (begun (depth m) (is_key m) (line_of m) (key_of m) b))) [
      | true ↦ λ q. (let level : depth f.head ≡ depth m = sym same ∙ eqb-true o.depth (depth m) q in
          (wrap new nothing, with_token_level r m f fs value level head opens.1, (new, nothing, next_row_stands m o os b f fs value head level shut s e, refl, next_value m o (record b { open_rows = os }))))
      | false ↦ λ q. begun_taken r m b (f ∷ fs) value head s shut
          ((let other : (o.depth ≡ depth m → ⊥) = λ w. false≢true (sym q ∙ eq-eqb o.depth (depth m) w) in omega (arith, other, same, most)), opens.1) come
    ] refl

pub headed_taken : (r : FlowReader) (m : Token) (b : Builder) (fs : List Frame) (value : Written) → is_head m ≡ true → Ready b fs value → Taken r m (wrap fs value) (headed (depth m) (is_key m) (line_of m) (key_of m) b)
unfolding headed
headed_taken r m b fs value head h =
    let st = closed_deeper_on_stands (depth m) b.open_rows b fs value refl h.stands h.shut (h.come (depth m)) in
    subst (λ w. Taken r m w (headed_on (depth m) (is_key m) (line_of m) (key_of m) (closed_deeper (depth m) b).open_rows (closed_deeper (depth m) b))) st.wraps
    (headed_on_taken r m (closed_deeper (depth m) b).open_rows (closed_deeper (depth m) b) st.frames st.value head refl st.stands st.shut st.shallow st.come)
