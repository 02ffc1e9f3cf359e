-- The tree of a text is plain.
use Rattle.std.proofs.Common.{◌≡◌, ℕ, Bool, true, false, ◌||◌, List, [], ◌∷◌, ◌++◌, Option, None, refl, sym, ◌∙◌, subst, arith, append_assoc, append-nil, true≢false}
use Rattle.yaml_tokens.specs.Lines.{lines_of}
use Rattle.yaml_tokens.specs.Tokens.{column_behind}
use Rattle.yaml_tokens.specs.declared.token.Token.{Token}
use Rattle.yaml_tokens.specs.declared.token.Token.TheVariants.{Dash, Key, Scalar, Anchor, Alias, Bar, Body, Form, OddToken}
use Rattle.yaml_tree.specs.Flows.{Flow}
use Rattle.yaml_tree.specs.Written.{Written, tokens, line_of, depth, is_head, is_leaf, is_bar, is_name, AreBodies, IsFlowOf, SameRows, StandsBelow}
use Rattle.yaml_tree.specs.Written.Written.{nothing, leaf, literal, flowing, named, row}
use Rattle.yaml_tree.specs.Said.{Said, Anchors, Meaning, flow_said, bodies_of, leaf_said, name_of, begun_block, row_behind, said, has_key, has_repeat, has_unknown}
use Rattle.yaml_tree.specs.Said.Said.{null, text, unknown, sequence, mapping, with_item, with_pair}
use Rattle.yaml_tree.specs.Tree.{IsTreeOf}
use Rattle.yaml_merge.specs.Plainness.{are_items, are_pairs, IsPlain}
use Rattle.text_trees.proofs.GoodBlocks.{AreGoodFrom, tokens_good}
use Rattle.text_trees.proofs.GoodLines.{lines_utf8, StandFrom, block_utf8}
use Rattle.text_trees.proofs.FlowTrees.{AreGood, AreSound, IsSound, IsSoundMeaning, copied_sound, form_sound, given_sound, scalar_sound}

-- ---- blocks

-- rows of the kind of a head
abbrev AreRowsBehind : Token → Said → Type 0
AreRowsBehind (Dash line column) tree = are_items tree ≡ true
AreRowsBehind (Key line column key) tree = are_pairs tree ≡ true
AreRowsBehind _ tree = Unit {0}

-- what is left of good tokens
abbrev LeftGood : List Token → Type 0
LeftGood rest = (column : Option ℕ) × AreGoodFrom column rest

-- what is said, and what is left
record IsRead (m : Meaning) (rest : List Token) : Type 0 where
  sound : IsSoundMeaning m
  left : LeftGood rest

leaf_read : (token : Token) (names : Anchors) (rest : List Token) (column : Option ℕ) → is_leaf token ≡ true → AreGoodFrom column (token ∷ rest) → AreSound names → IsRead (leaf_said token names, names) rest
leaf_read (Scalar line at value) names rest column e g h = record { sound = (scalar_sound line value g.0, h); left = (column, g.1) }
leaf_read (Alias line at n) names rest column e g h = record { sound = (copied_sound line n names h, h); left = (column, g) }
leaf_read (Dash line at) names rest column e g h = absurd (true≢false (sym e))
leaf_read (Key line at key) names rest column e g h = absurd (true≢false (sym e))
leaf_read (Anchor line at n) names rest column e g h = absurd (true≢false (sym e))
leaf_read (Bar line at chomp) names rest column e g h = absurd (true≢false (sym e))
leaf_read (Body line at bytes) names rest column e g h = absurd (true≢false (sym e))
leaf_read (Form line at pieces) names rest column e g h = absurd (true≢false (sym e))
leaf_read (OddToken line at why) names rest column e g h = absurd (true≢false (sym e))

-- the lines of a block stand in it
bodies_stand : (bar : Token) (lines rest : List Token) (column : Option ℕ) → AreBodies bar lines → AreGoodFrom column (lines ++ rest) → StandFrom column (bodies_of lines) × LeftGood rest
bodies_stand bar [] rest column b g = (tt, (column, g))
bodies_stand bar (Body line at bytes ∷ lines) rest column b g = let more = bodies_stand bar lines rest (column_behind column bytes) b.2 g.2 in ((g.0, g.1, more.0), more.1)
bodies_stand bar (Dash line at ∷ lines) rest column b g = absurd (true≢false (sym b.0))
bodies_stand bar (Key line at key ∷ lines) rest column b g = absurd (true≢false (sym b.0))
bodies_stand bar (Scalar line at value ∷ lines) rest column b g = absurd (true≢false (sym b.0))
bodies_stand bar (Anchor line at n ∷ lines) rest column b g = absurd (true≢false (sym b.0))
bodies_stand bar (Alias line at n ∷ lines) rest column b g = absurd (true≢false (sym b.0))
bodies_stand bar (Bar line at chomp ∷ lines) rest column b g = absurd (true≢false (sym b.0))
bodies_stand bar (Form line at pieces ∷ lines) rest column b g = absurd (true≢false (sym b.0))
bodies_stand bar (OddToken line at why ∷ lines) rest column b g = absurd (true≢false (sym b.0))

literal_read : (token : Token) (lines rest : List Token) (names : Anchors) (column : Option ℕ) → is_bar token ≡ true → AreBodies token lines → AreGoodFrom column (token ∷ (lines ++ rest)) → AreSound names
    → IsRead (said (null 0) names (literal token lines)) rest
literal_read (Bar line at chomp) lines rest names column e b g h = let k = bodies_stand (Bar line at chomp) lines rest None b g in record { sound = (block_utf8 chomp (bodies_of lines) k.0, h); left = k.1 }
literal_read (Dash line at) lines rest names column e b g h = absurd (true≢false (sym e))
literal_read (Key line at key) lines rest names column e b g h = absurd (true≢false (sym e))
literal_read (Scalar line at value) lines rest names column e b g h = absurd (true≢false (sym e))
literal_read (Anchor line at n) lines rest names column e b g h = absurd (true≢false (sym e))
literal_read (Alias line at n) lines rest names column e b g h = absurd (true≢false (sym e))
literal_read (Body line at bytes) lines rest names column e b g h = absurd (true≢false (sym e))
literal_read (Form line at pieces) lines rest names column e b g h = absurd (true≢false (sym e))
literal_read (OddToken line at why) lines rest names column e b g h = absurd (true≢false (sym e))

flow_read : (token : Token) (f : Flow) (none : Said) (rest : List Token) (names : Anchors) (column : Option ℕ) → IsFlowOf token f → AreGoodFrom column (token ∷ rest) → IsSound none → AreSound names
    → IsRead (flow_said (line_of token) none names f) rest
flow_read (Form line at pieces) f none rest names column s g n h = record { sound = form_sound f line none names s.1 (subst AreGood (sym s.0) g.0) n h; left = (column, g.1) }
flow_read (Dash line at) f none rest names column s g n h = absurd s
flow_read (Key line at key) f none rest names column s g n h = absurd s
flow_read (Scalar line at value) f none rest names column s g n h = absurd s
flow_read (Anchor line at n1) f none rest names column s g n h = absurd s
flow_read (Alias line at n1) f none rest names column s g n h = absurd s
flow_read (Bar line at chomp) f none rest names column s g n h = absurd s
flow_read (Body line at bytes) f none rest names column s g n h = absurd s
flow_read (OddToken line at why) f none rest names column s g n h = absurd s

name_left : (token : Token) (rest : List Token) (column : Option ℕ) → is_name token ≡ true → AreGoodFrom column (token ∷ rest) → AreGoodFrom column rest
name_left (Anchor line at n) rest column e g = g
name_left (Dash line at) rest column e g = absurd (true≢false (sym e))
name_left (Key line at key) rest column e g = absurd (true≢false (sym e))
name_left (Scalar line at value) rest column e g = absurd (true≢false (sym e))
name_left (Alias line at n) rest column e g = absurd (true≢false (sym e))
name_left (Bar line at chomp) rest column e g = absurd (true≢false (sym e))
name_left (Body line at bytes) rest column e g = absurd (true≢false (sym e))
name_left (Form line at pieces) rest column e g = absurd (true≢false (sym e))
name_left (OddToken line at why) rest column e g = absurd (true≢false (sym e))

begun_rows : (head : Token) → is_head head ≡ true → AreRowsBehind head (begun_block head) × IsSound (begun_block head)
begun_rows (Dash line at) e = (refl, tt)
begun_rows (Key line at key) e = (refl, tt)
begun_rows (Scalar line at value) e = (tt, tt)
begun_rows (Anchor line at n) e = (tt, tt)
begun_rows (Alias line at n) e = (tt, tt)
begun_rows (Bar line at chomp) e = (tt, tt)
begun_rows (Body line at bytes) e = (tt, tt)
begun_rows (Form line at pieces) e = (tt, tt)
begun_rows (OddToken line at why) e = (tt, tt)

-- heads of one depth are of one kind
same_kind : (first head : Token) (tree : Said) → is_head first ≡ true → is_head head ≡ true → depth first ≡ depth head → AreRowsBehind first tree → AreRowsBehind head tree
same_kind (Dash line at) (Dash other to) tree e f d h = h
same_kind (Dash line at) (Key other to key) tree e f d h = absurd (omega (arith, d))
same_kind (Dash line at) (Scalar other to value) tree e f d h = tt
same_kind (Dash line at) _ tree e f d h = tt
same_kind (Key line at key) (Dash other to) tree e f d h = absurd (omega (arith, d))
same_kind (Key line at key) (Key other to second) tree e f d h = h
same_kind (Key line at key) _ tree e f d h = tt
same_kind (Scalar line at value) head tree e f d h = absurd (true≢false (sym e))
same_kind (Anchor line at n) head tree e f d h = absurd (true≢false (sym e))
same_kind (Alias line at n) head tree e f d h = absurd (true≢false (sym e))
same_kind (Bar line at chomp) head tree e f d h = absurd (true≢false (sym e))
same_kind (Body line at bytes) head tree e f d h = absurd (true≢false (sym e))
same_kind (Form line at pieces) head tree e f d h = absurd (true≢false (sym e))
same_kind (OddToken line at why) head tree e f d h = absurd (true≢false (sym e))

-- a row more is of the kind of its head
row_kind : (head : Token) (before : Said) (m : Meaning) → is_head head ≡ true → AreRowsBehind head before → AreRowsBehind head (row_behind head before m).0
row_kind (Dash line at) before m e h = h
row_kind (Key line at key) before m e h = h
row_kind (Scalar line at value) before m e h = tt
row_kind _ before m e h = tt

rows_kind : (before : Written) (outer : ℕ) (head : Token) (names : Anchors) → SameRows before head → is_head head ≡ true → StandsBelow outer before → AreRowsBehind head (said (begun_block head) names before).0
rows_kind nothing outer head names s e b = (begun_rows head e).0
rows_kind (leaf token) outer head names s e b = absurd s
rows_kind (literal token lines) outer head names s e b = absurd s
rows_kind (flowing token value) outer head names s e b = absurd s
rows_kind (named token value) outer head names s e b = absurd s
rows_kind (row before first value) outer head names s e b =
    let m = said (begun_block first) names before in
    same_kind first head (row_behind first m.0 (said (null (line_of first)) m.1 value)).0 b.0 e s
    (row_kind first m.0 (said (null (line_of first)) m.1 value) b.0 (rows_kind before outer first names b.2 b.0 b.3))

-- a head before good tokens
record IsHead (head : Token) (rest : List Token) : Type 0 where
  left : LeftGood rest
  put : (before value : Said) (names : Anchors) → AreRowsBehind head before → IsSound before → IsSound value → AreSound names → IsSoundMeaning (row_behind head before (value, names))

head_read : (head : Token) (rest : List Token) (column : Option ℕ) → is_head head ≡ true → AreGoodFrom column (head ∷ rest) → IsHead head rest
head_read (Dash line at) rest column e g = record { left = (column, g); put = λ before value names k b v h. ((k, b, v), h) }
head_read (Key line at key) rest column e g = record { left = (column, g.1); put = λ before value names k b v h. ((k, g.0, b, v), h) }
head_read (Scalar line at value) rest column e g = absurd (true≢false (sym e))
head_read (Anchor line at n) rest column e g = absurd (true≢false (sym e))
head_read (Alias line at n) rest column e g = absurd (true≢false (sym e))
head_read (Bar line at chomp) rest column e g = absurd (true≢false (sym e))
head_read (Body line at bytes) rest column e g = absurd (true≢false (sym e))
head_read (Form line at pieces) rest column e g = absurd (true≢false (sym e))
head_read (OddToken line at why) rest column e g = absurd (true≢false (sym e))

said_read : (w : Written) (outer : ℕ) (none : Said) (names : Anchors) (rest : List Token) (column : Option ℕ) → StandsBelow outer w → AreGoodFrom column (tokens w ++ rest) → IsSound none → AreSound names → IsRead (said none names w) rest
said_read nothing outer none names rest column s g n h = record { sound = (n, h); left = (column, g) }
said_read (leaf token) outer none names rest column s g n h = leaf_read token names rest column s.0 g h
said_read (literal token lines) outer none names rest column s g n h = literal_read token lines rest names column s.0 s.2 g h
said_read (flowing token value) outer none names rest column s g n h = flow_read token value none rest names column s.1 g n h
said_read (named token value) outer none names rest column s g n h =
    let k = said_read value outer none names rest column s.3 (name_left token (tokens value ++ rest) column s.0 g) n h in
    record { sound = given_sound (line_of token) (name_of token) (said none names value) k.sound; left = k.left }
said_read (row before head value) outer none names rest column s g n h =
    let b = said_read before outer (begun_block head) names (head ∷ (tokens value ++ rest)) column s.3 (subst (AreGoodFrom column) (append_assoc (tokens before) (head ∷ tokens value) rest) g) (begun_rows head s.0).1 h in
    let m = said (begun_block head) names before in
    let k = head_read head (tokens value ++ rest) b.left.0 s.0 b.left.1 in
    let v = said_read value (depth head) (null (line_of head)) m.1 rest k.left.0 s.4 k.left.1 tt b.sound.1 in
    let x = said (null (line_of head)) m.1 value in
    record { sound = k.put m.0 x.0 x.1 (rows_kind before outer head names s.2 s.0 s.3) b.sound.0 v.sound.0 v.sound.1; left = v.left }

-- ---- the whole

or_false : (a b : Bool) → (a || b) ≡ false → (a ≡ false) × (b ≡ false)
or_false true b h = absurd (true≢false h)
or_false false b h = (refl, h)

plain_from : (tree : Said) → IsSound tree → has_repeat tree ≡ false → has_unknown tree ≡ false → IsPlain tree
plain_from (null line) s r u = tt
plain_from (text line bytes) s r u = s
plain_from (unknown line) s r u = absurd (true≢false u)
plain_from (sequence line) s r u = tt
plain_from (mapping line) s r u = tt
plain_from (with_item before value) s r u =
    (let p = or_false (has_repeat before) (has_repeat value) r in let q = or_false (has_unknown before) (has_unknown value) u in
    (s.0, plain_from before s.1 p.0 q.0, plain_from value s.2 p.1 q.1))
plain_from (with_pair before line key value) s r u =
    (let p = or_false (has_repeat before || has_key key before) (has_repeat value) r in let p2 = or_false (has_repeat before) (has_key key before) p.0 in let q = or_false (has_unknown before) (has_unknown value) u in
    (s.0, s.1, p2.1, plain_from before s.2 p2.0 q.0, plain_from value s.3 p.1 q.1))

-- the tree of a text is plain
pub text_plain : (bytes : List ℕ) (tree : Said) → IsTreeOf bytes tree → IsPlain tree
text_plain bytes tree t =
    let says = t.1.says in
    let good = subst (AreGoodFrom None) (sym says.spelled.0 ∙ sym (append-nil (tokens says.written))) (tokens_good (lines_of bytes) (lines_utf8 bytes t.0)) in
    let read = said_read says.written 0 (null 1) [] [] None says.spelled.1 good tt tt in
    plain_from tree (subst IsSound says.said read.sound.0) t.1.distinct t.1.known
