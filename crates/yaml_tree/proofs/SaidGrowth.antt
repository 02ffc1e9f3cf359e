-- What is said only grows with each token: a repeated key and an unknown alias stay, and neither levels nor nodes get
-- fewer.
use Rattle.std.proofs.Common.{◌≡◌, ℕ, ◌≤◌, ◌<◌, Bool, true, false, ◌||◌, List, [], ◌∷◌, Some, refl, sym, ◌∙◌, subst, arith, inl, inr}
use Rattle.std.proofs.lemmas.Option.{none-some, same_Some}
use Rattle.std.proofs.lemmas.Bool.{false≢true}
use Rattle.yaml_tokens.specs.declared.token.Token.{Token}
use Rattle.yaml_tokens.specs.declared.token.Token.TheVariants.{Dash, Key, Scalar, Anchor, Alias, Bar, Body, Form, OddToken}
use Rattle.yaml_tree.specs.Written.{Written, line_of}
use Rattle.yaml_tree.specs.Written.Written.{nothing, leaf, literal, flowing, named, row}
use Rattle.yaml_tree.specs.Said.{Said, Anchors, Meaning, said, from_line, begun_block, row_behind, has_repeat, has_unknown, has_key, levels, size}
use Rattle.yaml_tree.specs.Said.Said.{null, text, unknown, sequence, mapping, with_item, with_pair}
use Rattle.yaml_tree.proofs.Lists.{chained}
use Rattle.yaml_tree.proofs.KnownLaws.{has_repeat_from_line, has_unknown_from_line, levels_from_line, size_from_line}
use Rattle.yaml_tree.proofs.WrittenLaws.{FlowReader, with_token, with_tokens, row_cases, literal_case, named_case}

-- what doesn't shrink
pub record Grows (old new : Said) : Type 0 where
  pub repeat_stays : has_repeat old ≡ true → has_repeat new ≡ true
  pub unknown_stays : has_unknown old ≡ true → has_unknown new ≡ true
  pub no_fewer_levels : levels old ≤ levels new
  pub no_smaller : size old ≤ size new

-- each tree has a node
pub some_node : (tree : Said) → 0 < size tree
some_node (null line) = omega arith
some_node (text line bytes) = omega arith
some_node (unknown line) = omega arith
some_node (sequence line) = omega arith
some_node (mapping line) = omega arith
some_node (with_item before value) = let b = some_node before in omega (arith, b)
some_node (with_pair before line k value) = let b = some_node before in omega (arith, b)

-- anything may stand in the place of null
null_grows : (line : ℕ) (tree : Said) → Grows (null line) tree
null_grows line tree = let n = some_node tree in record { repeat_stays = λ h. absurd (false≢true h); unknown_stays = λ h. absurd (false≢true h); no_fewer_levels = omega arith; no_smaller = omega (arith, n) }

text_grows : (line : ℕ) (a b : List ℕ) → Grows (text line a) (text line b)
text_grows line a b = record { repeat_stays = λ h. h; unknown_stays = λ h. h; no_fewer_levels = omega arith; no_smaller = omega arith }

or_grows : (a b c : Bool) → (b ≡ true → c ≡ true) → (a || b) ≡ true → (a || c) ≡ true
or_grows true b c f h = refl
or_grows false b c f h = f h

or_left : (a b : Bool) → a ≡ true → (a || b) ≡ true
or_left true b h = refl
or_left false b h = absurd (false≢true h)

-- whichever line they begin on
from_line_grows : (n : ℕ) (old new : Said) → Grows old new → Grows (from_line n old) (from_line n new)
from_line_grows n old new g =
    let lev = g.no_fewer_levels in let siz = g.no_smaller in
    let old_levels = levels_from_line n old in let new_levels = levels_from_line n new in
    let old_size = size_from_line n old in let new_size = size_from_line n new in
    record {
      repeat_stays = λ h. has_repeat_from_line n new ∙ g.repeat_stays (sym (has_repeat_from_line n old) ∙ h);
      unknown_stays = λ h. has_unknown_from_line n new ∙ g.unknown_stays (sym (has_unknown_from_line n old) ∙ h);
      no_fewer_levels = omega (arith, lev, old_levels, new_levels);
      no_smaller = omega (arith, siz, old_size, new_size);
    }

-- the last value grows
item_grows : (before old new : Said) → Grows old new → Grows (with_item before old) (with_item before new)
item_grows before old new g = let lev = g.no_fewer_levels in let siz = g.no_smaller in record {
  repeat_stays = or_grows (has_repeat before) (has_repeat old) (has_repeat new) g.repeat_stays;
  unknown_stays = or_grows (has_unknown before) (has_unknown old) (has_unknown new) g.unknown_stays;
  no_fewer_levels = omega (arith, lev);
  no_smaller = omega (arith, siz);
}

pair_grows : (before : Said) (line : ℕ) (k : List ℕ) (old new : Said) → Grows old new → Grows (with_pair before line k old) (with_pair before line k new)
pair_grows before line k old new g = let lev = g.no_fewer_levels in let siz = g.no_smaller in record {
  repeat_stays = or_grows (has_repeat before || has_key k before) (has_repeat old) (has_repeat new) g.repeat_stays;
  unknown_stays = or_grows (has_unknown before) (has_unknown old) (has_unknown new) g.unknown_stays;
  no_fewer_levels = omega (arith, lev);
  no_smaller = omega (arith, siz);
}

row_grows : (head : Token) (before : Said) (old new : Meaning) → Grows old.0 new.0 → Grows (row_behind head before old).0 (row_behind head before new).0
row_grows (Key line column k) before old new g = pair_grows before line k old.0 new.0 g
row_grows (Dash line column) before old new g = item_grows before old.0 new.0 g
row_grows (Scalar line column value) before old new g = item_grows before old.0 new.0 g
row_grows (Anchor line column n) before old new g = item_grows before old.0 new.0 g
row_grows (Alias line column n) before old new g = item_grows before old.0 new.0 g
row_grows (Bar line column chomp) before old new g = item_grows before old.0 new.0 g
row_grows (Body line column bytes) before old new g = item_grows before old.0 new.0 g
row_grows (Form line column pieces) before old new g = item_grows before old.0 new.0 g
row_grows (OddToken line column why) before old new g = item_grows before old.0 new.0 g

-- one row more
with_item_grows : (before value : Said) → Grows before (with_item before value)
with_item_grows before value = record { repeat_stays = or_left (has_repeat before) (has_repeat value); unknown_stays = or_left (has_unknown before) (has_unknown value); no_fewer_levels = omega arith; no_smaller = omega arith }

with_pair_grows : (before : Said) (line : ℕ) (k : List ℕ) (value : Said) → Grows before (with_pair before line k value)
with_pair_grows before line k value = record { repeat_stays = λ h. or_left (has_repeat before || has_key k before) (has_repeat value) (or_left (has_repeat before) (has_key k before) h); unknown_stays = or_left (has_unknown before) (has_unknown value); no_fewer_levels = omega arith; no_smaller = omega arith }

row_behind_grows : (head : Token) (before : Said) (meaning : Meaning) → Grows before (row_behind head before meaning).0
row_behind_grows (Key line column k) before meaning = with_pair_grows before line k meaning.0
row_behind_grows (Dash line column) before meaning = with_item_grows before meaning.0
row_behind_grows (Scalar line column value) before meaning = with_item_grows before meaning.0
row_behind_grows (Anchor line column n) before meaning = with_item_grows before meaning.0
row_behind_grows (Alias line column n) before meaning = with_item_grows before meaning.0
row_behind_grows (Bar line column chomp) before meaning = with_item_grows before meaning.0
row_behind_grows (Body line column bytes) before meaning = with_item_grows before meaning.0
row_behind_grows (Form line column pieces) before meaning = with_item_grows before meaning.0
row_behind_grows (OddToken line column why) before meaning = with_item_grows before meaning.0

-- what is said where a value stands, on this line and behind these names
abbrev pub SaidGrows : ℕ → Anchors → Written → Written → Type 0
SaidGrows line names old new = Grows (said (null line) names old).0 (said (null line) names new).0

pub with_token_grows : (r : FlowReader) (m : Token) (old new : Written) → with_token r m old ≡ Some new → (line : ℕ) (names : Anchors) → SaidGrows line names old new
with_token_grows r m nothing new e line names = null_grows line (said (null line) names new).0
with_token_grows r m (leaf other) new e line names = absurd (none-some new e)
with_token_grows r m (literal head lines) new e line names = subst (SaidGrows line names (literal head lines)) (literal_case r m head lines new e).2 (text_grows (line_of head) _ _)
with_token_grows r m (flowing other value) new e line names = absurd (none-some new e)
with_token_grows r m (named head value) new e line names = let c = named_case r m head value new e in
    subst (SaidGrows line names (named head value)) c.3 (from_line_grows (line_of head) (said (null line) names value).0 (said (null line) names c.1).0 (with_token_grows r m value c.1 c.2 line names))
with_token_grows r m (row before head value) new e line names = elim (row_cases r m head before value new e) [
  | inl h ↦ (let b = said (begun_block head) names before in subst (SaidGrows line names (row before head value)) h.3
      (row_grows head b.0 (said (null (line_of head)) b.1 value) (said (null (line_of head)) b.1 h.1) (with_token_grows r m value h.1 h.2 (line_of head) b.1)))
  | inr h ↦ (let b = said (begun_block m) names (row before head value) in subst (SaidGrows line names (row before head value)) h.2
      (row_behind_grows m b.0 (said (null (line_of m)) b.1 nothing)))
]

pub with_tokens_grows : (r : FlowReader) (ms : List Token) (old new : Written) → with_tokens r ms old ≡ Some new → (line : ℕ) (names : Anchors) → SaidGrows line names old new
with_tokens_grows r [] old new e line names = subst (SaidGrows line names old) (same_Some _ _ e) (record { repeat_stays = λ h. h; unknown_stays = λ h. h; no_fewer_levels = omega arith; no_smaller = omega arith })
with_tokens_grows r (m ∷ ms) old new e line names = let c = chained (with_tokens r ms) (with_token r m old) new e in
    let first = with_token_grows r m old c.0 c.1 line names in let rest = with_tokens_grows r ms c.0 new c.2 line names in
    let a = first.no_fewer_levels in let b = rest.no_fewer_levels in let d = first.no_smaller in let f = rest.no_smaller in
    record { repeat_stays = λ h. rest.repeat_stays (first.repeat_stays h); unknown_stays = λ h. rest.unknown_stays (first.unknown_stays h); no_fewer_levels = omega (arith, a, b); no_smaller = omega (arith, d, f) }
