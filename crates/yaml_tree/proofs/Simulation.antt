-- Each token that the builder takes is one that the tree as it is written so far takes, and the builder goes on
-- standing for it.
use Rattle.std.proofs.Common.{◌≡◌, ℕ, ◌+◌, ◌*◌, ◌<◌, ◌≤◌, Bool, true, false, ◌&&◌, cond, List, [], ◌∷◌, ◌++◌, Option, Some, None, option_map, unwrap_or, Result, Ok, Err, refl, sym, ap, ◌∙◌, subst, append_assoc, arith, ◌==◌, nat_lt, length, is_none, inl, inr, ◌⊎◌, eq-eqb, eqb-true}
use Rattle.std.proofs.lemmas.Option.{none-some}
use Rattle.std.proofs.lemmas.Bool.{ltb-true, ltb-false, cond-true, cond-false, false≢true, le-ltb, ne_eqb}
use Rattle.std.specs.Cmp.Lexicographic.{pointwise}
use Rattle.std.specs.Map.{lookup}
use Rattle.std.specs.declared.alloc.Global.{Global}
use Rattle.yaml_tokens.specs.Pieces.{why_bracket}
use Rattle.yaml_tree.specs.Flows.{Flow, IsForm, SpellsFlow, IsFlowMisfit}
use Rattle.yaml_tree.specs.Flows.Flow.{absent, word, called as naming, item, pair, form}
use Rattle.yaml_tree.specs.inside.Outline.{flow_fault}
use Rattle.yaml_tree.specs.Written.{Written, depth, line_of, is_head, is_body_line}
use Rattle.yaml_tree.specs.Written.Written.{nothing, leaf, literal, flowing, named, row}
use Rattle.yaml_tree.specs.Said.{Said, Anchors, Meaning, said, from_line, scalar_said, flow_said, body_of, bodies_of, tree_of}
use Rattle.yaml_tree.specs.Said.Said.{null, unknown}
use Rattle.yaml_tree.specs.Holds.{HoldsSaid, IsNode, begins_on, scalar_value}
use Rattle.yaml_tree.specs.inside.Stack.{measured, one_node, unknown_node, with_part, measure_about}
use Rattle.yaml_tree.specs.Tree.{kind_of}
use Rattle.yaml_tree.specs.Trees.{root_number}
use Rattle.yaml_tree.specs.inside.Builder.{fresh, find_name, with_node, put_node, valued, known_of, closed_deeper, is_shallower, can_hold, can_name, with_scalar, with_name, put_found, with_alias, new_literal, with_bar, with_line_of, with_line, ended, take_pieces, formed, with_form, headed, unkeyed, refused, take_token, value_measure, measure, whole}
use Rattle.yaml_tokens.specs.declared.piece.Piece.{Piece}
use Rattle.yaml_tokens.specs.declared.token.Token.{Token}
use Rattle.yaml_tokens.specs.declared.token.Token.TheVariants.{Dash, Key, Scalar, Anchor, Alias, Bar, Body, Form, OddToken}
use Rattle.yaml_tokens.specs.declared.chomp.Chomp.{Chomp}
use Rattle.yaml_tree.specs.declared.literal.Literal.{Literal}
use Rattle.yaml_tokens.specs.declared.odd.Odd.{Odd}
use Rattle.yaml_tokens.specs.declared.odd.Odd.TheVariants as odd
use Rattle.yaml_tree.specs.declared.fault.FaultKind.{FaultKind}
use Rattle.yaml_tree.specs.declared.fault.FaultKind.TheVariants.{Syntax, Unsupported}
use Rattle.yaml_tree.specs.declared.known.Measure.{Measure}
use Rattle.yaml_tree.specs.declared.known.KnownNode.{KnownNode}
use Rattle.yaml_tree.specs.declared.known.GivenName.{GivenName}
use Rattle.yaml_tree.specs.declared.node.Node.{Node}
use Rattle.yaml_tree.specs.declared.stack.Open.{Open}
use Rattle.yaml_tree.specs.declared.builder.Builder.{Builder}
use Rattle.yaml_tree.proofs.WrittenLaws.{FlowReader, begun_by, may_follow_name, with_token, head_deep}
use Rattle.yaml_tree.proofs.FlowJudged.{FlowJudged, Judges}
use Rattle.yaml_tree.proofs.FlowPlay.{Played, flow_played}
use Rattle.yaml_tree.proofs.KnownLaws.{slice_get-last, measured_from_line}
use Rattle.yaml_tree.proofs.Stands.{KnownIs, NameIs, NamesAre, named_by, Frame, called, wrap, names_at, line_at, HasName, OpenIs, before_of, Chain, OpensAre, LiteralIs, ValueIs, StandsAt, IsShut, Between, StandsFor}
use Rattle.yaml_tree.proofs.SimulationValues.{meaning_at, said_called, OpensAre_more, put_node_stands, Valued, NoneIs, none_is, valued_stands, row_measure, HasCome, AtMost, ClosedDeeper, closed_deeper_on_stands, Ready, ended_ready}
use Rattle.yaml_tree.proofs.SimulationHeads.{with_token_wrap, refused_wrap, called_begins, called_refuses, full_refuses, still_none, none_between, Taken, headed_taken}

-- ---- where a value may come

-- whether a value of this depth may come
abbrev CanHold : FlowReader → ℕ → Builder → List Frame → Written → Bool → Type 0
CanHold r d b fs value true = (b.value ≡ None) × NoneIs b fs value × Chain d fs
CanHold r d b fs value false = (m : Token) → is_head m ≡ false → is_body_line m ≡ false → depth m ≡ d → with_token r m (wrap fs value) ≡ None

can_hold_means : (r : FlowReader) (d : ℕ) (b : Builder) (fs : List Frame) (value : Written) → Ready b fs value → CanHold r d b fs value (can_hold d b)
can_hold_means r d b fs value ready = by b.value refl
  where
    shallow : (os : List Open) (gs : List Frame) → OpensAre b.nodes os gs → b.value ≡ None → NoneIs b fs value → ((m : Token) → is_head m ≡ false → with_token r m (wrap gs value) ≡ None → with_token r m (wrap fs value) ≡ None) → (Chain d gs → Chain d fs) → CanHold r d b fs value (is_shallower d os)
    shallow [] [] h e none out chain = (e, none, chain tt)
    shallow [] (g ∷ gs) h e none out chain = absurd h
    shallow (o ∷ os) [] h e none out chain = absurd h
    shallow (o ∷ os) (g ∷ gs) h e none out chain = let same : o.depth ≡ depth g.head = h.0.has_depth in
        elim (nat_lt o.depth d) as (λ q. nat_lt o.depth d ≡ q → CanHold r d b fs value q) [
          | true ↦ λ q. (e, none, chain ((let lt : o.depth < d = ltb-true o.depth d q in omega (arith, lt, same)), h.1))
          | false ↦ λ q. λ m head line deep. out m head (refused_wrap r m gs (called g.name (row g.before g.head value)) head (called_refuses r m g.name (row g.before g.head value)
              (cond-false (nat_lt (depth g.head) (depth m)) _ _ (le-ltb _ _ (let le : d ≤ o.depth = ltb-false o.depth d q in omega (arith, le, same, deep)))
              ∙ ap (λ k. cond (k && (depth g.head == depth m)) (Some (row (row g.before g.head value) m nothing)) None) head)))
        ] refl

    by : (v : Option KnownNode) → b.value ≡ v → CanHold r d b fs value (is_none v && is_shallower d b.open_rows)
    by (Some k) e = λ m head line deep. refused_wrap r m fs value head (full_refuses r m d value deep line (subst (λ v. HasCome d v value) e (ready.come d)))
    by None e = shallow b.open_rows fs ready.stands.opens e (none_is b fs value e ready.shut ready.stands) (λ m head h. h) (λ h. h)

-- a token that begins a value where one may come
value_begins : (r : FlowReader) (m : Token) (b : Builder) (fs : List Frame) (value new : Written) → may_follow_name m ≡ true → begun_by r m ≡ Some new → (none : NoneIs b fs value) → Chain (depth m) fs → with_token r m (wrap fs value) ≡ Some (wrap fs (called none.0 new))
value_begins r m b fs value new follows begins none chain =
    ap (λ v. with_token r m (wrap fs v)) none.2 ∙ with_token_wrap r m fs (called none.0 nothing) chain
    ∙ ap (option_map (wrap fs)) (called_begins r m none.0 follows ∙ ap (option_map (called none.0)) begins)

shut_called : (name : Option Token) (value : Written) → IsShut value → IsShut (called name value)
shut_called None value h = h
shut_called (Some token) value h = h

-- ---- scalars

scalar_holds : (nodes : List Node) (l line : ℕ) (text : Option (List ℕ)) (n : ℕ) → IsNode nodes n l (scalar_value text) → HoldsSaid nodes (from_line l (scalar_said line text)) n
scalar_holds nodes l line None n h = h
scalar_holds nodes l line (Some bytes) n h = h

scalar_begins : (line : ℕ) (text : Option (List ℕ)) → line ≡ begins_on (scalar_said line text)
scalar_begins line None = refl
scalar_begins line (Some bytes) = refl

scalar_measure : (line : ℕ) (text : Option (List ℕ)) → one_node ≡ measured (scalar_said line text)
scalar_measure line None = refl
scalar_measure line (Some bytes) = refl

put_between : (line : ℕ) (b : Builder) (text : Option (List ℕ)) (value : Written) → IsShut value → Between (put_node line (scalar_value text) one_node b).value value
unfolding put_node
put_between line b text value h = h

with_scalar_taken : (r : FlowReader) (line column : ℕ) (text : Option (List ℕ)) (b : Builder) (fs : List Frame) (value : Written) → Ready b fs value → Taken r (Scalar line column text) (wrap fs value) (with_scalar (1 + 2 * column) line text b)
unfolding with_scalar
with_scalar_taken r line column text b fs value ready = by (can_hold (1 + 2 * column) b) (can_hold_means r (1 + 2 * column) b fs value ready)
  where
    m : Token
    m = Scalar line column text

    by : (q : Bool) → CanHold r (1 + 2 * column) b fs value q → Taken r m (wrap fs value) (cond q (Ok (put_node line (scalar_value text) one_node b)) (Err Syntax))
    by false h = (h m refl refl refl, refl)
    by true h = let none = h.1 in (
      wrap fs (called none.0 (leaf m)),
      value_begins r m b fs value (leaf m) refl refl none h.2,
      (
        fs,
        called none.0 (leaf m),
        put_node_stands line (scalar_value text) one_node b fs none.0 (leaf m) ready.stands.flat ready.shut ready.stands.opens none.1 none.3 (scalar_measure line text) (scalar_begins line text)
            (λ l. scalar_holds (b.nodes ++ (record { line = l; value = scalar_value text } ∷ [])) l line text (length b.nodes) (slice_get-last b.nodes _)),
        refl,
        put_between line b text (called none.0 (leaf m)) (shut_called none.0 (leaf m) tt),
      ),
    )

-- ---- anchors and aliases

-- whether an anchor or an alias of this depth may come
abbrev CanName : FlowReader → Token → Builder → List Frame → Written → Bool → Type 0
CanName r m b fs value true = (b.value ≡ None) × (b.name ≡ None) × (value ≡ nothing) × NamesAre b.nodes b.names (names_at fs) × Chain (depth m) fs
CanName r m b fs value false = with_token r m (wrap fs value) ≡ None

no_name : (waits : Option GivenName) (name : Option Token) → HasName waits name → waits ≡ None → called name nothing ≡ nothing
no_name None None h e = refl
no_name None (Some token) h e = absurd h
no_name (Some n) name h e = absurd (none-some n (sym e))

-- behind a name no other name may come, and no alias
names_refuse : (r : FlowReader) (m : Token) (waits : Option GivenName) (n : GivenName) (name : Option Token) → may_follow_name m ≡ false → HasName waits name → waits ≡ Some n → with_token r m (called name nothing) ≡ None
names_refuse r m None n name follows h e = absurd (none-some n e)
names_refuse r m (Some other) n None follows h e = absurd h
names_refuse r m (Some other) n (Some token) follows h e = cond-false (may_follow_name m) _ _ follows

can_name_means : (r : FlowReader) (m : Token) (b : Builder) (fs : List Frame) (value : Written) → is_head m ≡ false → is_body_line m ≡ false → may_follow_name m ≡ false → Ready b fs value → CanName r m b fs value (can_name (depth m) b)
can_name_means r m b fs value head line follows ready = by b.name (can_hold (depth m) b) refl (can_hold_means r (depth m) b fs value ready)
  where
    by : (waits : Option GivenName) (q : Bool) → b.name ≡ waits → CanHold r (depth m) b fs value q → CanName r m b fs value (is_none waits && q)
    by None true e h = (h.0, e, h.1.2 ∙ no_name b.name h.1.0 h.1.1 e, h.1.3, h.2)
    by None false e h = h m head line refl
    by (Some n) true e h = ap (λ v. with_token r m (wrap fs v)) h.1.2 ∙ with_token_wrap r m fs (called h.1.0 nothing) h.2 ∙ ap (option_map (wrap fs)) (names_refuse r m b.name n h.1.0 follows h.1.1 e)
    by (Some n) false e h = h m head line refl

with_name_taken : (r : FlowReader) (line column : ℕ) (text : List ℕ) (b : Builder) (fs : List Frame) (value : Written) → Ready b fs value → Taken r (Anchor line column text) (wrap fs value) (with_name (1 + 2 * column) line text b)
unfolding with_name
with_name_taken r line column text b fs value ready = by (can_name (1 + 2 * column) b) (can_name_means r (Anchor line column text) b fs value refl refl refl ready)
  where
    m : Token
    m = Anchor line column text

    next : Builder
    next = record b { name = Some (record { line = line; text = text }) }

    by : (q : Bool) → CanName r m b fs value q → Taken r m (wrap fs value) (cond q (Ok next) (Err Syntax))
    by false h = (h, refl)
    by true h = (
      wrap fs (named m nothing),
      ap (λ v. with_token r m (wrap fs v)) h.2 ∙ with_token_wrap r m fs nothing h.4,
      (
        fs,
        named m nothing,
        record { flat = ready.stands.flat; opens = ready.stands.opens; is = still_none b next fs (named m nothing) h.0 ready.shut (Some m, (refl, refl, refl), refl, h.3) },
        refl,
        none_between b.value (named m nothing) h.0,
      ),
    )

-- what an alias stands for, once it has come
abbrev CopyStands : ℕ → Token → Builder → List Frame → Option KnownNode → Type 0
CopyStands line m b fs found = StandsAt (put_found line found b) fs (leaf m) × Between (put_found line found b).value (leaf m)

alias_stands : (line column : ℕ) (text : List ℕ) (b : Builder) (fs : List Frame) (value : Written) → Ready b fs value → b.name ≡ None → NamesAre b.nodes b.names (names_at fs) → CopyStands line (Alias line column text) b fs (find_name b.names text)
unfolding put_node with_node
alias_stands line column text b fs value ready e names = by (find_name b.names text) (lookup (pointwise ◌==◌ text) (names_at fs)) refl (names text)
  where
    m : Token
    m = Alias line column text

    by : (found : Option KnownNode) (tree : Option Said) → lookup (pointwise ◌==◌ text) (names_at fs) ≡ tree → NameIs b.nodes found tree → CopyStands line m b fs found
    by None (Some tree) q h = absurd h
    by (Some k) None q h = absurd h
    by (Some k) (Some tree) q h = (record { flat = ready.stands.flat; opens = ready.stands.opens; is = (ready.shut, e, subst (KnownIs b.nodes k) (sym (ap (λ o. unwrap_or o (unknown line)) q)) h, names) }, tt)
    by None None q h =
        let lost = sym (ap (λ o. unwrap_or o (unknown line)) q) in (
          put_node_stands line (scalar_value None) unknown_node b fs None (leaf m) ready.stands.flat ready.shut ready.stands.opens (subst (λ n. HasName n None) (sym e) tt) names
              (ap measured lost)
              (ap begins_on lost)
              (λ l. subst (λ t. HoldsSaid (b.nodes ++ (record { line = l; value = scalar_value None } ∷ [])) (from_line l t) (length b.nodes)) lost (slice_get-last b.nodes _)),
          tt,
        )

with_alias_taken : (r : FlowReader) (line column : ℕ) (text : List ℕ) (b : Builder) (fs : List Frame) (value : Written) → Ready b fs value → Taken r (Alias line column text) (wrap fs value) (with_alias (1 + 2 * column) line text b)
unfolding with_alias
with_alias_taken r line column text b fs value ready = by (can_name (1 + 2 * column) b) (can_name_means r (Alias line column text) b fs value refl refl refl ready)
  where
    m : Token
    m = Alias line column text

    by : (q : Bool) → CanName r m b fs value q → Taken r m (wrap fs value) (cond q (Ok (put_found line (find_name b.names text) b)) (Err Syntax))
    by false h = (h, refl)
    by true h = let c = alias_stands line column text b fs value ready h.1 h.3 in (
      wrap fs (leaf m),
      ap (λ v. with_token r m (wrap fs v)) h.2 ∙ with_token_wrap r m fs nothing h.4,
      (fs, leaf m, c.0, refl, c.1),
    )

-- ---- literal blocks

with_bar_taken : (r : FlowReader) (line column : ℕ) (chomp : Chomp) (b : Builder) (fs : List Frame) (value : Written) → Ready b fs value → Taken r (Bar line column chomp) (wrap fs value) (with_bar (1 + 2 * column) line chomp b)
unfolding with_bar
with_bar_taken r line column chomp b fs value ready = by (can_hold (1 + 2 * column) b) (can_hold_means r (1 + 2 * column) b fs value ready)
  where
    m : Token
    m = Bar line column chomp

    l : Literal
    l = new_literal (1 + 2 * column) line chomp

    next : Builder
    next = record b { literal = Some l }

    by : (q : Bool) → CanHold r (1 + 2 * column) b fs value q → Taken r m (wrap fs value) (cond q (Ok next) (Err Syntax))
    by false h = (h m refl refl refl, refl)
    by true h = let none = h.1 in let new : Written = called none.0 (literal m []) in (
      wrap fs new,
      value_begins r m b fs value (literal m []) refl refl none h.2,
      (
        fs,
        new,
        record {
          flat = ready.stands.flat;
          opens = ready.stands.opens;
          is = subst (λ v. ValueIs v (Some l) next fs new) (sym h.0)
              (none.0, none.1, m, [], record { is = refl; has_depth = refl; has_line = refl; has_chomp = refl; has_lines = refl }, h.2, refl, none.3);
        },
        refl,
        none_between b.value new h.0,
      ),
    )

bodies_of_more : (lines : List Token) (m : Token) → bodies_of (lines ++ (m ∷ [])) ≡ bodies_of lines ++ (body_of m ∷ [])
bodies_of_more [] m = refl
bodies_of_more (line ∷ lines) m = ap (λ l. body_of line ∷ l) (bodies_of_more lines m)

-- a line more of the literal block at the end of the frames, where it is as deep
line_goes : (r : FlowReader) (line column : ℕ) (bytes : List ℕ) (name : Option Token) (bar : Token) (lines : List Token) (q : Bool) → (1 + 2 * column == depth bar) ≡ q → with_token r (Body line column bytes) (called name (literal bar lines)) ≡ cond q (Some (called name (literal bar (lines ++ (Body line column bytes ∷ []))))) None
line_goes r line column bytes None bar lines true e = cond-true (1 + 2 * column == depth bar) _ _ e
line_goes r line column bytes None bar lines false e = cond-false (1 + 2 * column == depth bar) _ _ e
line_goes r line column bytes (Some token) bar lines true e = ap (option_map (named token)) (cond-true (1 + 2 * column == depth bar) _ _ e)
line_goes r line column bytes (Some token) bar lines false e = ap (option_map (named token)) (cond-false (1 + 2 * column == depth bar) _ _ e)

-- a line of a literal block where none is open
no_bar : (r : FlowReader) (line column : ℕ) (bytes : List ℕ) (b : Builder) (fs : List Frame) (value : Written) (v : Option KnownNode) → b.value ≡ v → b.literal ≡ None → StandsAt b fs value → Between b.value value → with_token r (Body line column bytes) value ≡ None
no_bar r line column bytes b fs value None e shut s between = let none = none_is b fs value e shut s in ap (with_token r (Body line column bytes)) none.2 ∙ called_refuses r (Body line column bytes) none.0 nothing refl
no_bar r line column bytes b fs value (Some k) e shut s between = refuses value (subst (λ v. Between v value) e between)
  where
    refuses : (w : Written) → IsShut w → with_token r (Body line column bytes) w ≡ None
    refuses nothing h = absurd h
    refuses (leaf token) h = refl
    refuses (literal token lines) h = absurd h
    refuses (flowing token v) h = refl
    refuses (named token w) h = called_refuses r (Body line column bytes) (Some token) w (refuses w h)
    refuses (row before head w) h = absurd h

with_line_taken : (r : FlowReader) (line column : ℕ) (bytes : List ℕ) (b : Builder) (fs : List Frame) (value : Written) → StandsAt b fs value → Between b.value value → Taken r (Body line column bytes) (wrap fs value) (with_line (1 + 2 * column) bytes b)
unfolding with_line
with_line_taken r line column bytes b fs value s between = by b.literal b.value refl refl
  where
    m : Token
    m = Body line column bytes

    by : (open_literal : Option Literal) (v : Option KnownNode) → b.literal ≡ open_literal → b.value ≡ v → Taken r m (wrap fs value) (with_line_of open_literal (1 + 2 * column) bytes b)
    by None v e q = (refused_wrap r m fs value refl (no_bar r line column bytes b fs value v q e s between), refl)
    by (Some l) (Some k) e q = absurd (none-some l (sym (subst (λ v. ValueIs v b.literal b fs value) q s.is).0 ∙ e))
    by (Some l) None e q =
        let i : ValueIs None (Some l) b fs value = subst (λ x. ValueIs None x b fs value) e (subst (λ v. ValueIs v b.literal b fs value) q s.is) in
        let is : LiteralIs l i.2 i.3 = i.4 in
        let longer : Literal = record l { lines = l.lines ++ bytes ∷ [] } in
        let next : Builder = record b { literal = Some longer } in
        let new : Written = called i.0 (literal i.2 (i.3 ++ (m ∷ []))) in
        elim (l.depth == 1 + 2 * column) as (λ t. (l.depth == 1 + 2 * column) ≡ t → Taken r m (wrap fs value) (cond t (Ok next) (Err Syntax))) [
          | true ↦ λ t. (let same : l.depth ≡ 1 + 2 * column = eqb-true l.depth (1 + 2 * column) t in let level : 1 + 2 * column ≡ depth i.2 = sym same ∙ is.has_depth in (
            wrap fs new,
            ap (λ v. with_token r m (wrap fs v)) i.6 ∙ with_token_wrap r m fs (called i.0 (literal i.2 i.3)) (subst (λ d. Chain d fs) (sym level) i.5)
                ∙ ap (option_map (wrap fs)) (line_goes r line column bytes i.0 i.2 i.3 true (eq-eqb (1 + 2 * column) (depth i.2) level)),
            (
              fs,
              new,
              record {
                flat = s.flat;
                opens = s.opens;
                is = subst (λ v. ValueIs v (Some longer) next fs new) (sym q)
                    (i.0, i.1, i.2, i.3 ++ (m ∷ []), record { is = is.is; has_depth = is.has_depth; has_line = is.has_line; has_chomp = is.has_chomp; has_lines = ap (λ x. x ++ (bytes ∷ [])) is.has_lines ∙ sym (bodies_of_more i.3 m) }, i.5, refl, i.7);
              },
              refl,
              none_between b.value new q,
            ),
          ))
          | false ↦ λ t. (refused_wrap r m fs value refl (ap (with_token r m) i.6 ∙ line_goes r line column bytes i.0 i.2 i.3 false (other l.depth (1 + 2 * column) (depth i.2) is.has_depth t)), refl)
        ] refl
      where
        other : (a b c : ℕ) → a ≡ c → (a == b) ≡ false → (b == c) ≡ false
        other a b c e t = ne_eqb b c (λ w. false≢true (sym t ∙ eq-eqb a b (e ∙ sym w)))

-- ---- flow forms

-- the kind of fault of a token that the tree so far doesn't take
abbrev pub KindAfter : FlowReader → Token → Written → FaultKind → Type 0
KindAfter r (OddToken line column odd.Syntax) w kind = kind ≡ Syntax
KindAfter r (OddToken line column odd.Unsupported) w kind = kind ≡ Unsupported
KindAfter r (OddToken line column odd.Indicator) w kind = ((kind ≡ Unsupported) × (m : Written) × (with_token r (Scalar line column None) w ≡ Some m)) ⊎ ((kind ≡ Syntax) × (with_token r (Scalar line column None) w ≡ None))
KindAfter r (OddToken line column odd.Unkeyed) w kind = ((kind ≡ Unsupported) × (m : Written) × (with_token r (Key line column []) w ≡ Some m)) ⊎ ((kind ≡ Syntax) × (with_token r (Key line column []) w ≡ None))
KindAfter r (Form line column pieces) w kind = (((m : Written) × (with_token r (Scalar line column None) w ≡ Some m)) × IsFlowMisfit pieces kind) ⊎ ((with_token r (Scalar line column None) w ≡ None) × (kind ≡ kind_of (why_bracket pieces)))
KindAfter r _ w kind = kind ≡ Syntax

abbrev pub TakenAny : FlowReader → Token → Written → Result Builder FaultKind → Type 0
TakenAny r m w (Ok b) = (new : Written) × (with_token r m w ≡ Some new) × StandsFor b new
TakenAny r m w (Err kind) = (with_token r m w ≡ None) × KindAfter r m w kind

-- a form begins its own collection
form_same : (f : Flow) (line : ℕ) (a b : Said) (names : Anchors) → IsForm f → flow_said line a names f ≡ flow_said line b names f
form_same absent line a b names h = absurd h
form_same (word piece) line a b names h = absurd h
form_same (naming piece f) line a b names h = absurd h
form_same (item before f) line a b names h = absurd h
form_same (pair before piece f) line a b names h = absurd h
form_same (form bracket cells last) line a b names h = refl

form_stands : (line column : ℕ) (pieces : List Piece) (f : Flow) (b : Builder) (fs : List Frame) (value : Written) → SpellsFlow pieces f → Ready b fs value → (none : NoneIs b fs value) → StandsFor (take_pieces line pieces b) (wrap fs (called none.0 (flowing (Form line column pieces) f)))
form_stands line column pieces f b fs value spells ready none =
    let p : Played line f b (names_at fs) (take_pieces line pieces b) = flow_played line pieces f b (names_at fs) spells ready.stands.flat none.3 in
    let m : Token = Form line column pieces in
    let new : Written = called none.0 (flowing m f) in
    let meaning : Meaning = flow_said line (null line) (names_at fs) f in
    let nodes : List Node = b.nodes ++ p.0 in
    let e : meaning_at fs new ≡ named_by b.name meaning = said_called b.name none.0 (null (line_at fs)) (names_at fs) (flowing m f) none.1 ∙ ap (named_by b.name) (form_same f line (null (line_at fs)) (null line) (names_at fs) spells.1) in
    subst (λ x. StandsFor x (wrap fs new)) (sym p.3) (
      fs,
      new,
      record {
        flat = ready.stands.flat;
        opens = OpensAre_more b.nodes p.0 b.open_rows fs ready.stands.opens;
        is = (
          ready.shut,
          refl,
          subst (λ x. KnownIs nodes p.1 x.0) (sym e) p.4,
          subst (λ x. NamesAre nodes p.2 x.1) (sym e) p.5,
        );
      },
      refl,
      shut_called none.0 (flowing m f) tt,
    )

misfit_no_form : (pieces : List Piece) (kind : FaultKind) (f : Flow) → IsFlowMisfit pieces kind → SpellsFlow pieces f → ⊥
misfit_no_form pieces kind f (inl h) s = h.ends (h.rest, f, subst (λ ps. SpellsFlow ps f) (h.parts ∙ sym (append_assoc h.front (h.piece ∷ []) h.rest)) s)
misfit_no_form pieces kind f (inr h) s = h.open_still f s

misfit_unread : (r : FlowReader) (pieces : List Piece) (kind : FaultKind) → IsFlowMisfit pieces kind → (o : Option Flow) → r.read pieces ≡ o → r.read pieces ≡ None
misfit_unread r pieces kind h None e = e
misfit_unread r pieces kind h (Some f) e = absurd (misfit_no_form pieces kind f h (r.sound pieces f e))

with_form_taken : (r : FlowReader) → Judges → (line column : ℕ) (pieces : List Piece) (b : Builder) (fs : List Frame) (value : Written) → Ready b fs value → TakenAny r (Form line column pieces) (wrap fs value) (with_form (1 + 2 * column) line pieces b)
unfolding with_form
with_form_taken r judges line column pieces b fs value ready = by (can_hold (1 + 2 * column) b) (can_hold_means r (1 + 2 * column) b fs value ready)
  where
    m : Token
    m = Form line column pieces

    scalar : Token
    scalar = Scalar line column None

    judged : (fault : Option FaultKind) → FlowJudged pieces fault → (none : NoneIs b fs value) → Chain (1 + 2 * column) fs → TakenAny r m (wrap fs value) (formed fault line pieces b)
    judged None j none chain = (
      wrap fs (called none.0 (flowing m j.0)),
      value_begins r m b fs value (flowing m j.0) refl (ap (option_map (flowing m)) (r.complete pieces j.0 j.1)) none chain,
      form_stands line column pieces j.0 b fs value j.1 ready none,
    )
    judged (Some kind) j none chain = (
      ap (λ v. with_token r m (wrap fs v)) none.2 ∙ with_token_wrap r m fs (called none.0 nothing) chain
          ∙ ap (option_map (wrap fs)) (called_begins r m none.0 refl ∙ ap (λ o. option_map (called none.0) (option_map (flowing m) o)) (misfit_unread r pieces kind j (r.read pieces) refl)),
      inl ((wrap fs (called none.0 (leaf scalar)), value_begins r scalar b fs value (leaf scalar) refl refl none chain), j),
    )

    by : (q : Bool) → CanHold r (1 + 2 * column) b fs value q → TakenAny r m (wrap fs value) (cond q (formed (flow_fault pieces) line pieces b) (Err (kind_of (why_bracket pieces))))
    by false h = (h m refl refl refl, inr (h scalar refl refl refl, refl))
    by true h = judged (flow_fault pieces) (judges pieces) h.1 h.2

-- ---- any token

odd_refused : (r : FlowReader) (line column : ℕ) (why : Odd) (w : Written) → with_token r (OddToken line column why) w ≡ None
odd_refused r line column why nothing = refl
odd_refused r line column why (leaf other) = refl
odd_refused r line column why (literal head lines) = refl
odd_refused r line column why (flowing other v) = refl
odd_refused r line column why (named head w) = called_refuses r (OddToken line column why) (Some head) w (odd_refused r line column why w)
odd_refused r line column why (row before head w) = cond-false (nat_lt (depth head) 0) _ _ (le-ltb _ _ (omega arith))

indicator_kind : (r : FlowReader) (line column : ℕ) (b : Builder) (fs : List Frame) (value : Written) (q : Bool) → CanHold r (1 + 2 * column) b fs value q → KindAfter r (OddToken line column odd.Indicator) (wrap fs value) (cond q Unsupported Syntax)
indicator_kind r line column b fs value true h = let m : Token = Scalar line column None in inl (refl, wrap fs (called h.1.0 (leaf m)), value_begins r m b fs value (leaf m) refl refl h.1 h.2)
indicator_kind r line column b fs value false h = inr (refl, h (Scalar line column None) refl refl refl)

-- a scalar without its colon, tried as a key
unkeyed_taken : (r : FlowReader) (line column : ℕ) (w : Written) (step : Result Builder FaultKind) → Taken r (Key line column []) w step → TakenAny r (OddToken line column odd.Unkeyed) w (unkeyed step)
unkeyed_taken r line column w (Ok b) h = (odd_refused r line column odd.Unkeyed w, inl (refl, h.0, h.1))
unkeyed_taken r line column w (Err kind) h = (odd_refused r line column odd.Unkeyed w, inr (h.1, h.0))

odd_taken : (r : FlowReader) (line column : ℕ) (why : Odd) (b : Builder) (fs : List Frame) (value : Written) → Ready b fs value → TakenAny r (OddToken line column why) (wrap fs value) (refused (1 + 2 * column) line why b)
odd_taken r line column odd.Indicator b fs value ready = (odd_refused r line column odd.Indicator (wrap fs value), indicator_kind r line column b fs value (can_hold (1 + 2 * column) b) (can_hold_means r (1 + 2 * column) b fs value ready))
odd_taken r line column odd.Unkeyed b fs value ready = unkeyed_taken r line column (wrap fs value) (headed (1 + 2 * column) true line [] b) (headed_taken r (Key line column []) b fs value refl ready)
odd_taken r line column odd.Unsupported b fs value ready = (odd_refused r line column odd.Unsupported (wrap fs value), refl)
odd_taken r line column odd.Syntax b fs value ready = (odd_refused r line column odd.Syntax (wrap fs value), refl)

any_from : (r : FlowReader) (m : Token) (w : Written) (step : Result Builder FaultKind) → ((kind : FaultKind) → kind ≡ Syntax → KindAfter r m w kind) → Taken r m w step → TakenAny r m w step
any_from r m w (Ok b) k h = h
any_from r m w (Err kind) k h = (h.0, k kind h.1)

taken_at : (r : FlowReader) → Judges → (m : Token) (b : Builder) (fs : List Frame) (value : Written) → StandsAt b fs value → Between b.value value → TakenAny r m (wrap fs value) (take_token m b)
unfolding take_token
taken_at r judges (Dash line column) b fs value s between = any_from r (Dash line column) (wrap fs value) _ (λ k e. e) (headed_taken r (Dash line column) (ended b) fs value refl (ended_ready b fs value s between))
taken_at r judges (Key line column text) b fs value s between = any_from r (Key line column text) (wrap fs value) _ (λ k e. e) (headed_taken r (Key line column text) (ended b) fs value refl (ended_ready b fs value s between))
taken_at r judges (Scalar line column text) b fs value s between = any_from r (Scalar line column text) (wrap fs value) _ (λ k e. e) (with_scalar_taken r line column text (ended b) fs value (ended_ready b fs value s between))
taken_at r judges (Anchor line column text) b fs value s between = any_from r (Anchor line column text) (wrap fs value) _ (λ k e. e) (with_name_taken r line column text (ended b) fs value (ended_ready b fs value s between))
taken_at r judges (Alias line column text) b fs value s between = any_from r (Alias line column text) (wrap fs value) _ (λ k e. e) (with_alias_taken r line column text (ended b) fs value (ended_ready b fs value s between))
taken_at r judges (Bar line column chomp) b fs value s between = any_from r (Bar line column chomp) (wrap fs value) _ (λ k e. e) (with_bar_taken r line column chomp (ended b) fs value (ended_ready b fs value s between))
taken_at r judges (Body line column bytes) b fs value s between = any_from r (Body line column bytes) (wrap fs value) _ (λ k e. e) (with_line_taken r line column bytes b fs value s between)
taken_at r judges (Form line column pieces) b fs value s between = with_form_taken r judges line column pieces (ended b) fs value (ended_ready b fs value s between)
taken_at r judges (OddToken line column why) b fs value s between = odd_taken r line column why (ended b) fs value (ended_ready b fs value s between)

-- each token that is taken is one that the tree so far takes
pub take_token_taken : (r : FlowReader) → Judges → (m : Token) (b : Builder) (w : Written) → StandsFor b w → TakenAny r m w (take_token m b)
take_token_taken r judges m b w h = subst (λ x. TakenAny r m x (take_token m b)) h.3 (taken_at r judges m b h.0 h.1 h.2 h.4)

pub fresh_stands : (alloc : Global) → StandsFor (fresh alloc) nothing
fresh_stands alloc = ([], nothing, record { flat = refl; opens = tt; is = (None, tt, refl, λ n. tt) }, refl, tt)

-- ---- the measure of the tree so far

measured_called : (name : Option Token) (none : Said) (names : Anchors) (value : Written) → measured (said none names (called name value)).0 ≡ measured (said none names value).0
measured_called None none names value = refl
measured_called (Some token) none names value = measured_from_line (line_of token) (said none names value).0

measure_about_is : (nodes : List Node) (os : List Open) (fs : List Frame) (value : Written) (x : Measure) → OpensAre nodes os fs → x ≡ measured (meaning_at fs value).0 → measure_about os x ≡ measured (tree_of (wrap fs value))
measure_about_is nodes [] [] value x h e = e
measure_about_is nodes [] (f ∷ fs) value x h e = absurd h
measure_about_is nodes (o ∷ os) [] value x h e = absurd h
measure_about_is nodes (o ∷ os) (f ∷ fs) value x h e = let before : Said = before_of f (names_at fs) in let is : OpenIs nodes o f before = h.0 in
    measure_about_is nodes os fs (called f.name (row f.before f.head value)) (with_part o.measure x) h.2
    ((λ j. with_part (is.has_measure j) (e j)) ∙ row_measure f.head before (meaning_at (f ∷ fs) value) is.heads ∙ sym (measured_called f.name (null (line_at fs)) (names_at fs) (row f.before f.head value)))

value_measure_is : (b : Builder) (fs : List Frame) (value : Written) (v : Option KnownNode) (l : Option Literal) → ValueIs v l b fs value → value_measure v ≡ measured (meaning_at fs value).0
value_measure_is b fs value (Some k) l h = h.2.0
value_measure_is b fs value None (Some l) h = sym (measured_called h.0 (null (line_at fs)) (names_at fs) (literal h.2 h.3)) ∙ ap (λ w. measured (meaning_at fs w).0) (sym h.6)
value_measure_is b fs value None None h = sym (measured_called h.0 (null (line_at fs)) (names_at fs) nothing) ∙ ap (λ w. measured (meaning_at fs w).0) (sym h.2)

pub measure_means : (b : Builder) (w : Written) → StandsFor b w → measure b ≡ measured (tree_of w)
measure_means b w h = measure_about_is b.nodes b.open_rows h.0 h.1 (value_measure b.value) h.2.opens (value_measure_is b h.0 h.1 b.value b.literal h.2.is) ∙ ap (λ x. measured (tree_of x)) h.3

-- ---- the whole tree

none_open : (nodes : List Node) (os : List Open) (fs : List Frame) → OpensAre nodes os fs → AtMost 0 fs → fs ≡ []
none_open nodes os [] h most = refl
none_open nodes [] (f ∷ fs) h most = absurd h
none_open nodes (o ∷ os) (f ∷ fs) h most = let deep = head_deep f.head h.0.heads in absurd (omega (arith, deep, most))

-- once all that is open is closed, the root holds the tree
pub whole_holds : (b : Builder) (w : Written) → StandsFor b w → HoldsSaid (whole b).nodes (tree_of w) (root_number b)
unfolding whole
whole_holds b w h =
    let ready : Ready (ended b) h.0 h.1 = ended_ready b h.0 h.1 h.2 h.4 in
    let last : Builder = closed_deeper 0 (ended b) in
    let st : ClosedDeeper 0 last (wrap h.0 h.1) = closed_deeper_on_stands 0 (ended b).open_rows (ended b) h.0 h.1 refl ready.stands ready.shut (ready.come 0) in
    let nil : st.frames ≡ [] = none_open last.nodes last.open_rows st.frames st.stands.opens st.shallow in
    let v = valued_stands 1 last st.frames st.value (ap line_at (sym nil)) st.shut st.stands in
    let root : Valued (valued 1 last) st.frames st.value v.0 = v.1 in
    let come : ValueIs (Some v.0) (valued 1 last).literal (valued 1 last) st.frames st.value = subst (λ x. ValueIs x (valued 1 last).literal (valued 1 last) st.frames st.value) root.is root.stands.is in
    let tree : (meaning_at st.frames st.value).0 ≡ tree_of w = ap (λ fs. (meaning_at fs st.value).0) nil ∙ ap tree_of (ap (λ fs. wrap fs st.value) (sym nil) ∙ st.wraps ∙ h.3) in
    subst (λ n. HoldsSaid (valued 1 last).nodes (tree_of w) n) (ap (λ x. (known_of x).node) (sym root.is))
    (subst (λ t. HoldsSaid (valued 1 last).nodes t v.0.node) tree come.2.1)
