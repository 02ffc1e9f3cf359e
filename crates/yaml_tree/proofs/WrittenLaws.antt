-- Reading tokens one by one into the tree as it is written so far, and that this finds the one that they spell, the
-- only one.
use Rattle.std.proofs.Common.{◌≡◌, ℕ, ◌<◌, Bool, true, false, ◌&&◌, cond, List, [], ◌∷◌, ◌++◌, Option, Some, None, option_map, refl, sym, ap, subst, ◌∙◌, append_assoc, arith, if◌then◌else◌, ◌==◌, nat_lt, inl, inr, ◌⊎◌, eq-eqb}
use Rattle.std.proofs.lemmas.Option.{none-some, same_Some, cond_some}
use Rattle.std.proofs.lemmas.Bool.{ltb-true, cond-true, false≢true, lt-ltb, eqb-true}
use Rattle.std.proofs.lemmas.List.{append-nil}
use Rattle.std.specs.Option.{option_and_then}
use Rattle.yaml_tokens.specs.declared.piece.Piece.{Piece}
use Rattle.yaml_tree.specs.Flows.{Flow, SpellsFlow}
use Rattle.yaml_tokens.specs.declared.token.Token.{Token}
use Rattle.yaml_tokens.specs.declared.token.Token.TheVariants.{Dash, Key, Scalar, Anchor, Alias, Bar, Body, Form, OddToken}
use Rattle.yaml_tree.specs.Written.{Written, tokens, depth, is_head, is_leaf, is_bar, is_name, is_body_line, MayBeNamed, AreBodies, IsFlowOf, SameRows, StandsBelow, Spells}
use Rattle.yaml_tree.specs.Written.Written.{nothing, leaf, literal, flowing, named, row}
use Rattle.yaml_tree.proofs.Lists.{both_true, chained, chosen, mapped, nil_or_last, not_nil, same_last, is_same}

-- a reader of flow forms: it finds the form that pieces spell, and nothing where they spell none
pub record FlowReader : Type 0 where
  pub read : List Piece → Option Flow
  pub sound : (pieces : List Piece) (value : Flow) → read pieces ≡ Some value → SpellsFlow pieces value
  pub complete : (pieces : List Piece) (value : Flow) → SpellsFlow pieces value → read pieces ≡ Some value

-- a token where a value may begin
abbrev pub begun_by : FlowReader → Token → Option Written
begun_by r (Dash line column) = Some (row nothing (Dash line column) nothing)
begun_by r (Key line column text) = Some (row nothing (Key line column text) nothing)
begun_by r (Scalar line column text) = Some (leaf (Scalar line column text))
begun_by r (Anchor line column text) = Some (named (Anchor line column text) nothing)
begun_by r (Alias line column text) = Some (leaf (Alias line column text))
begun_by r (Bar line column chomp) = Some (literal (Bar line column chomp) [])
begun_by r (Body line column bytes) = None
begun_by r (Form line column pieces) = option_map (flowing (Form line column pieces)) (r.read pieces)
begun_by r (OddToken line column why) = None

-- what may stand first behind a name
abbrev pub may_follow_name : Token → Bool
may_follow_name (Anchor line column text) = false
may_follow_name (Alias line column text) = false
may_follow_name _ = true

-- a token more may go to the value behind a name
abbrev pub may_go_on : Written → Token → Bool
may_go_on nothing m = may_follow_name m
may_go_on _ m = true

-- the tree as it is written with a token more at its end
abbrev pub with_token : FlowReader → Token → Written → Option Written
with_token r m nothing = begun_by r m
with_token r m (leaf other) = None
with_token r m (literal head lines) = if is_body_line m && (depth m == depth head) then Some (literal head (lines ++ (m ∷ []))) else None
with_token r m (flowing other value) = None
with_token r m (named head value) = if may_go_on value m then option_map (named head) (with_token r m value) else None
with_token r m (row before head value) = if nat_lt (depth head) (depth m) then option_map (row before head) (with_token r m value)
    else (if is_head m && (depth head == depth m) then Some (row (row before head value) m nothing) else None)

abbrev pub with_tokens : FlowReader → List Token → Written → Option Written
with_tokens r [] written = Some written
with_tokens r (m ∷ ms) written = option_and_then (with_tokens r ms) (with_token r m written)

-- ---- what is read is spelled so

tokens_begun_by : (r : FlowReader) (m : Token) (new : Written) → begun_by r m ≡ Some new → tokens new ≡ m ∷ []
tokens_begun_by r (Dash line column) new e = ap tokens (sym (same_Some _ _ e))
tokens_begun_by r (Key line column text) new e = ap tokens (sym (same_Some _ _ e))
tokens_begun_by r (Scalar line column text) new e = ap tokens (sym (same_Some _ _ e))
tokens_begun_by r (Anchor line column text) new e = ap tokens (sym (same_Some _ _ e))
tokens_begun_by r (Alias line column text) new e = ap tokens (sym (same_Some _ _ e))
tokens_begun_by r (Bar line column chomp) new e = ap tokens (sym (same_Some _ _ e))
tokens_begun_by r (Body line column bytes) new e = absurd (none-some new e)
tokens_begun_by r (Form line column pieces) new e = ap tokens (sym (mapped (flowing (Form line column pieces)) (r.read pieces) new e).2)
tokens_begun_by r (OddToken line column why) new e = absurd (none-some new e)

-- what a token more leaves of a row
pub row_cases : (r : FlowReader) (m head : Token) (before value new : Written) → with_token r m (row before head value) ≡ Some new → ((depth head < depth m) × (v : Written) × (with_token r m value ≡ Some v) × (row before head v ≡ new)) ⊎ ((is_head m ≡ true) × (depth head ≡ depth m) × (row (row before head value) m nothing ≡ new))
row_cases r m head before value new e = by (chosen (nat_lt (depth head) (depth m)) (option_map (row before head) (with_token r m value)) (cond (is_head m && (depth head == depth m)) (Some (row (row before head value) m nothing)) None) (Some new) e)
  where
    by : ((nat_lt (depth head) (depth m) ≡ true) × (option_map (row before head) (with_token r m value) ≡ Some new)) ⊎ ((nat_lt (depth head) (depth m) ≡ false) × (cond (is_head m && (depth head == depth m)) (Some (row (row before head value) m nothing)) None ≡ Some new)) → ((depth head < depth m) × (v : Written) × (with_token r m value ≡ Some v) × (row before head v ≡ new)) ⊎ ((is_head m ≡ true) × (depth head ≡ depth m) × (row (row before head value) m nothing ≡ new))
    by (inl h) = let o = mapped (row before head) (with_token r m value) new h.1 in inl (ltb-true (depth head) (depth m) h.0, o.0, o.1, o.2)
    by (inr h) = let c = cond_some (is_head m && (depth head == depth m)) (row (row before head value) m nothing) new h.1 in
        let b = both_true (is_head m) (depth head == depth m) c.0 in inr (b.0, eqb-true (depth head) (depth m) b.1, c.1)

-- what a token more leaves of a literal block
pub literal_case : (r : FlowReader) (m head : Token) (lines : List Token) (new : Written) → with_token r m (literal head lines) ≡ Some new → (is_body_line m ≡ true) × (depth m ≡ depth head) × (literal head (lines ++ (m ∷ [])) ≡ new)
literal_case r m head lines new e = let c = cond_some (is_body_line m && (depth m == depth head)) (literal head (lines ++ (m ∷ []))) new e in
    let b = both_true (is_body_line m) (depth m == depth head) c.0 in (b.0, eqb-true (depth m) (depth head) b.1, c.1)

-- what a token more leaves of a value behind its name
pub named_case : (r : FlowReader) (m head : Token) (value new : Written) → with_token r m (named head value) ≡ Some new → (may_go_on value m ≡ true) × (v : Written) × (with_token r m value ≡ Some v) × (named head v ≡ new)
named_case r m head value new e = by (chosen (may_go_on value m) (option_map (named head) (with_token r m value)) None (Some new) e)
  where
    by : ((may_go_on value m ≡ true) × (option_map (named head) (with_token r m value) ≡ Some new)) ⊎ ((may_go_on value m ≡ false) × (None ≡ Some new)) → (may_go_on value m ≡ true) × (v : Written) × (with_token r m value ≡ Some v) × (named head v ≡ new)
    by (inl h) = let o = mapped (named head) (with_token r m value) new h.1 in (h.0, o.0, o.1, o.2)
    by (inr h) = absurd (none-some new h.1)

pub tokens_with_token : (r : FlowReader) (m : Token) (old new : Written) → with_token r m old ≡ Some new → tokens new ≡ tokens old ++ (m ∷ [])
tokens_with_token r m nothing new e = tokens_begun_by r m new e
tokens_with_token r m (leaf other) new e = absurd (none-some new e)
tokens_with_token r m (literal head lines) new e = ap tokens (sym (literal_case r m head lines new e).2)
tokens_with_token r m (flowing other value) new e = absurd (none-some new e)
tokens_with_token r m (named head value) new e = let c = named_case r m head value new e in ap tokens (sym c.3) ∙ ap (λ l. head ∷ l) (tokens_with_token r m value c.1 c.2)
tokens_with_token r m (row before head value) new e = elim (row_cases r m head before value new e) [
  | inl h ↦ ap tokens (sym h.3) ∙ ap (λ l. tokens before ++ (head ∷ l)) (tokens_with_token r m value h.1 h.2) ∙ sym (append_assoc (tokens before) (head ∷ tokens value) (m ∷ []))
  | inr h ↦ ap tokens (sym h.2)
]

StandsBelow_begun_by : (r : FlowReader) (outer : ℕ) (m : Token) (new : Written) → begun_by r m ≡ Some new → outer < depth m → StandsBelow outer new
StandsBelow_begun_by r outer (Dash line column) new e lt = subst (StandsBelow outer) (same_Some _ _ e) (refl, lt, tt, tt, tt)
StandsBelow_begun_by r outer (Key line column text) new e lt = subst (StandsBelow outer) (same_Some _ _ e) (refl, lt, tt, tt, tt)
StandsBelow_begun_by r outer (Scalar line column text) new e lt = subst (StandsBelow outer) (same_Some _ _ e) (refl, lt)
StandsBelow_begun_by r outer (Anchor line column text) new e lt = subst (StandsBelow outer) (same_Some _ _ e) (refl, lt, tt, tt)
StandsBelow_begun_by r outer (Alias line column text) new e lt = subst (StandsBelow outer) (same_Some _ _ e) (refl, lt)
StandsBelow_begun_by r outer (Bar line column chomp) new e lt = subst (StandsBelow outer) (same_Some _ _ e) (refl, lt, tt)
StandsBelow_begun_by r outer (Body line column bytes) new e lt = absurd (none-some new e)
StandsBelow_begun_by r outer (Form line column pieces) new e lt = let o = mapped (flowing (Form line column pieces)) (r.read pieces) new e in subst (StandsBelow outer) o.2 (lt, r.sound pieces o.0 o.1)
StandsBelow_begun_by r outer (OddToken line column why) new e lt = absurd (none-some new e)

-- one line more of a literal block
AreBodies_more : (head m : Token) (lines : List Token) → AreBodies head lines → is_body_line m ≡ true → depth m ≡ depth head → AreBodies head (lines ++ (m ∷ []))
AreBodies_more head m [] h b d = (b, d, tt)
AreBodies_more head m (line ∷ lines) h b d = (h.0, h.1, AreBodies_more head m lines h.2 b d)

-- a value behind a name begins with what may follow one, and stays one that may have a name
MayBeNamed_begun_by : (r : FlowReader) (m : Token) (new : Written) → begun_by r m ≡ Some new → may_follow_name m ≡ true → MayBeNamed new
MayBeNamed_begun_by r (Dash line column) new e f = subst MayBeNamed (same_Some _ _ e) tt
MayBeNamed_begun_by r (Key line column text) new e f = subst MayBeNamed (same_Some _ _ e) tt
MayBeNamed_begun_by r (Scalar line column text) new e f = subst MayBeNamed (same_Some _ _ e) refl
MayBeNamed_begun_by r (Anchor line column text) new e f = absurd (false≢true f)
MayBeNamed_begun_by r (Alias line column text) new e f = absurd (false≢true f)
MayBeNamed_begun_by r (Bar line column chomp) new e f = subst MayBeNamed (same_Some _ _ e) tt
MayBeNamed_begun_by r (Body line column bytes) new e f = absurd (none-some new e)
MayBeNamed_begun_by r (Form line column pieces) new e f = subst MayBeNamed (mapped (flowing (Form line column pieces)) (r.read pieces) new e).2 tt
MayBeNamed_begun_by r (OddToken line column why) new e f = absurd (none-some new e)

MayBeNamed_with_token : (r : FlowReader) (m : Token) (old new : Written) → with_token r m old ≡ Some new → may_go_on old m ≡ true → MayBeNamed old → MayBeNamed new
MayBeNamed_with_token r m nothing new e f h = MayBeNamed_begun_by r m new e f
MayBeNamed_with_token r m (leaf other) new e f h = absurd (none-some new e)
MayBeNamed_with_token r m (literal head lines) new e f h = subst MayBeNamed (literal_case r m head lines new e).2 tt
MayBeNamed_with_token r m (flowing other value) new e f h = absurd (none-some new e)
MayBeNamed_with_token r m (named head value) new e f h = absurd h
MayBeNamed_with_token r m (row before head value) new e f h = elim (row_cases r m head before value new e) [ inl c ↦ subst MayBeNamed c.3 tt | inr c ↦ subst MayBeNamed c.2 tt ]

pub StandsBelow_with_token : (r : FlowReader) (outer : ℕ) (m : Token) (old new : Written) → with_token r m old ≡ Some new → outer < depth m → StandsBelow outer old → StandsBelow outer new
StandsBelow_with_token r outer m nothing new e lt stands = StandsBelow_begun_by r outer m new e lt
StandsBelow_with_token r outer m (leaf other) new e lt stands = absurd (none-some new e)
StandsBelow_with_token r outer m (literal head lines) new e lt stands = let c = literal_case r m head lines new e in
    subst (StandsBelow outer) c.2 (stands.0, stands.1, AreBodies_more head m lines stands.2 c.0 c.1)
StandsBelow_with_token r outer m (flowing other value) new e lt stands = absurd (none-some new e)
StandsBelow_with_token r outer m (named head value) new e lt stands = let c = named_case r m head value new e in
    subst (StandsBelow outer) c.3 (stands.0, stands.1, MayBeNamed_with_token r m value c.1 c.2 c.0 stands.2, StandsBelow_with_token r outer m value c.1 c.2 lt stands.3)
StandsBelow_with_token r outer m (row before head value) new e lt stands = elim (row_cases r m head before value new e) [
  | inl h ↦ subst (StandsBelow outer) h.3 (stands.0, stands.1, stands.2, stands.3, StandsBelow_with_token r (depth head) m value h.1 h.2 h.0 stands.4)
  | inr h ↦ subst (StandsBelow outer) h.2 (h.0, lt, h.1, stands, tt)
]

-- ---- what is spelled so is read

tokens_nil : (w : Written) → tokens w ≡ [] → w ≡ nothing
tokens_nil nothing e = refl
tokens_nil (leaf m) e = absurd (not_nil [] [] m e)
tokens_nil (literal m lines) e = absurd (not_nil [] lines m e)
tokens_nil (flowing m value) e = absurd (not_nil [] [] m e)
tokens_nil (named m value) e = absurd (not_nil [] (tokens value) m e)
tokens_nil (row before head value) e = absurd (not_nil (tokens before) (tokens value) head e)

-- a row is read behind the rows before it
row_again : (r : FlowReader) (before : Written) (m : Token) → is_head m ≡ true → SameRows before m → with_token r m before ≡ Some (row before m nothing)
row_again r nothing (Dash line column) h s = refl
row_again r nothing (Key line column text) h s = refl
row_again r nothing (Scalar line column text) h s = absurd (false≢true h)
row_again r nothing (Anchor line column text) h s = absurd (false≢true h)
row_again r nothing (Alias line column text) h s = absurd (false≢true h)
row_again r nothing (Bar line column chomp) h s = absurd (false≢true h)
row_again r nothing (Body line column bytes) h s = absurd (false≢true h)
row_again r nothing (Form line column pieces) h s = absurd (false≢true h)
row_again r nothing (OddToken line column why) h s = absurd (false≢true h)
row_again r (leaf other) m h s = absurd s
row_again r (literal head lines) m h s = absurd s
row_again r (flowing other value) m h s = absurd s
row_again r (named head value) m h s = absurd s
row_again r (row before head value) m h s = is_same (depth head) (depth m) (is_head m) _ _ _ s h

leaf_again : (r : FlowReader) (m : Token) → is_leaf m ≡ true → with_token r m nothing ≡ Some (leaf m)
leaf_again r (Scalar line column text) h = refl
leaf_again r (Alias line column text) h = refl
leaf_again r (Dash line column) h = absurd (false≢true h)
leaf_again r (Key line column text) h = absurd (false≢true h)
leaf_again r (Anchor line column text) h = absurd (false≢true h)
leaf_again r (Bar line column chomp) h = absurd (false≢true h)
leaf_again r (Body line column bytes) h = absurd (false≢true h)
leaf_again r (Form line column pieces) h = absurd (false≢true h)
leaf_again r (OddToken line column why) h = absurd (false≢true h)

bar_again : (r : FlowReader) (m : Token) → is_bar m ≡ true → with_token r m nothing ≡ Some (literal m [])
bar_again r (Bar line column chomp) h = refl
bar_again r (Scalar line column text) h = absurd (false≢true h)
bar_again r (Alias line column text) h = absurd (false≢true h)
bar_again r (Dash line column) h = absurd (false≢true h)
bar_again r (Key line column text) h = absurd (false≢true h)
bar_again r (Anchor line column text) h = absurd (false≢true h)
bar_again r (Body line column bytes) h = absurd (false≢true h)
bar_again r (Form line column pieces) h = absurd (false≢true h)
bar_again r (OddToken line column why) h = absurd (false≢true h)

name_again : (r : FlowReader) (m : Token) → is_name m ≡ true → with_token r m nothing ≡ Some (named m nothing)
name_again r (Anchor line column text) h = refl
name_again r (Scalar line column text) h = absurd (false≢true h)
name_again r (Alias line column text) h = absurd (false≢true h)
name_again r (Dash line column) h = absurd (false≢true h)
name_again r (Key line column text) h = absurd (false≢true h)
name_again r (Bar line column chomp) h = absurd (false≢true h)
name_again r (Body line column bytes) h = absurd (false≢true h)
name_again r (Form line column pieces) h = absurd (false≢true h)
name_again r (OddToken line column why) h = absurd (false≢true h)

flow_again : (r : FlowReader) (m : Token) (value : Flow) → IsFlowOf m value → with_token r m nothing ≡ Some (flowing m value)
flow_again r (Form line column pieces) value h = ap (option_map (flowing (Form line column pieces))) (r.complete pieces value h)
flow_again r (Anchor line column text) value h = absurd h
flow_again r (Scalar line column text) value h = absurd h
flow_again r (Alias line column text) value h = absurd h
flow_again r (Dash line column) value h = absurd h
flow_again r (Key line column text) value h = absurd h
flow_again r (Bar line column chomp) value h = absurd h
flow_again r (Body line column bytes) value h = absurd h
flow_again r (OddToken line column why) value h = absurd h

-- the lines of a literal block before its last one
AreBodies_split : (head m : Token) (lines : List Token) → AreBodies head (lines ++ (m ∷ [])) → AreBodies head lines × (is_body_line m ≡ true) × (depth m ≡ depth head)
AreBodies_split head m [] h = (tt, h.0, h.1)
AreBodies_split head m (line ∷ lines) h = let rest = AreBodies_split head m lines h.2 in ((h.0, h.1, rest.0), rest.1, rest.2)

body_again : (r : FlowReader) (m head : Token) (lines : List Token) → is_body_line m ≡ true → depth m ≡ depth head → with_token r m (literal head lines) ≡ Some (literal head (lines ++ (m ∷ [])))
body_again r m head lines b d = cond-true (is_body_line m && (depth m == depth head)) _ _ (ap (λ k. k && (depth m == depth head)) b ∙ eq-eqb (depth m) (depth head) d)

-- the value behind a name, before this token of it
abbrev GoesOn : Written → Token → Type 0
GoesOn old m = (may_go_on old m ≡ true) × MayBeNamed old

goes_on_begun_by : (r : FlowReader) (m : Token) (new : Written) → begun_by r m ≡ Some new → MayBeNamed new → may_follow_name m ≡ true
goes_on_begun_by r (Dash line column) new e h = refl
goes_on_begun_by r (Key line column text) new e h = refl
goes_on_begun_by r (Scalar line column text) new e h = refl
goes_on_begun_by r (Anchor line column text) new e h = absurd (subst MayBeNamed (sym (same_Some _ _ e)) h)
goes_on_begun_by r (Alias line column text) new e h = absurd (false≢true (sym (subst MayBeNamed (sym (same_Some _ _ e)) h)))
goes_on_begun_by r (Bar line column chomp) new e h = refl
goes_on_begun_by r (Body line column bytes) new e h = refl
goes_on_begun_by r (Form line column pieces) new e h = refl
goes_on_begun_by r (OddToken line column why) new e h = refl

goes_on : (r : FlowReader) (m : Token) (old new : Written) → with_token r m old ≡ Some new → MayBeNamed new → GoesOn old m
goes_on r m nothing new e h = (goes_on_begun_by r m new e h, tt)
goes_on r m (leaf other) new e h = absurd (none-some new e)
goes_on r m (literal head lines) new e h = (refl, tt)
goes_on r m (flowing other value) new e h = absurd (none-some new e)
goes_on r m (named head value) new e h = absurd (subst MayBeNamed (sym (named_case r m head value new e).3) h)
goes_on r m (row before head value) new e h = (refl, tt)

-- what is written before its last token
abbrev pub WithoutLast : FlowReader → ℕ → List Token → Token → Written → Type 0
WithoutLast r outer ms m w = (old : Written) × (tokens old ≡ ms) × StandsBelow outer old × (with_token r m old ≡ Some w) × (outer < depth m)

literal_without_last : (r : FlowReader) (outer : ℕ) (ms : List Token) (m head : Token) (lines : List Token) → StandsBelow outer (literal head lines) → head ∷ lines ≡ ms ++ (m ∷ []) → WithoutLast r outer ms m (literal head lines)
literal_without_last r outer ms m head lines stands e = elim (nil_or_last lines) [
  | inl none ↦ (let s = same_last [] ms head m (ap (λ l. head ∷ l) (sym none) ∙ e) in
      subst (λ u. WithoutLast r outer ms u (literal head lines)) s.1 (subst (λ ls. WithoutLast r outer ms head (literal head ls)) (sym none)
      (nothing, s.0, tt, bar_again r head stands.0, stands.1)))
  | inr h ↦ (let s = same_last (head ∷ h.0) ms h.1 m (ap (λ l. head ∷ l) (sym h.2) ∙ e) in
      let b = AreBodies_split head h.1 h.0 (subst (AreBodies head) h.2 stands.2) in
      subst (λ u. WithoutLast r outer ms u (literal head lines)) s.1 (subst (λ ls. WithoutLast r outer ms h.1 (literal head ls)) (sym h.2)
      (literal head h.0, s.0, (stands.0, stands.1, b.0), body_again r h.1 head h.0 b.1 b.2, subst (λ d. outer < d) (sym b.2) stands.1)))
]

pub without_last : (r : FlowReader) (outer : ℕ) (ms : List Token) (m : Token) (w : Written) → StandsBelow outer w → tokens w ≡ ms ++ (m ∷ []) → WithoutLast r outer ms m w
without_last r outer ms m nothing stands e = absurd (not_nil ms [] m (sym e))
without_last r outer ms m (leaf other) stands e = let s = same_last [] ms other m e in
    subst (λ u. WithoutLast r outer ms u (leaf other)) s.1 (nothing, s.0, tt, leaf_again r other stands.0, stands.1)
without_last r outer ms m (literal head lines) stands e = literal_without_last r outer ms m head lines stands e
without_last r outer ms m (flowing other value) stands e = let s = same_last [] ms other m e in
    subst (λ u. WithoutLast r outer ms u (flowing other value)) s.1 (nothing, s.0, tt, flow_again r other value stands.1, stands.0)
without_last r outer ms m (named head value) stands e =
    elim (nil_or_last (tokens value)) [
      | inl none ↦ (let n = tokens_nil value none in
          let s = same_last [] ms head m (ap (λ l. head ∷ l) (sym none) ∙ e) in
          subst (λ u. WithoutLast r outer ms u (named head value)) s.1 (subst (λ v. WithoutLast r outer ms head (named head v)) (sym n)
          (nothing, s.0, tt, name_again r head stands.0, stands.1)))
      | inr h ↦ (let s = same_last (head ∷ h.0) ms h.1 m (ap (λ l. head ∷ l) (sym h.2) ∙ e) in
          let w = without_last r outer h.0 m value stands.3 (h.2 ∙ ap (λ u. h.0 ++ (u ∷ [])) s.1) in
          let g = goes_on r m w.0 value w.3 stands.2 in (
            named head w.0,
            ap (λ l. head ∷ l) w.1 ∙ s.0,
            (stands.0, stands.1, g.1, w.2),
            cond-true (may_go_on w.0 m) _ _ g.0 ∙ ap (option_map (named head)) w.3,
            w.4,
          ))
    ]
without_last r outer ms m (row before head value) stands e =
    elim (nil_or_last (tokens value)) [
      | inl none ↦ (let n = tokens_nil value none in
          let s = same_last (tokens before) ms head m (ap (λ l. tokens before ++ (head ∷ l)) (sym none) ∙ e) in
          subst (λ u. WithoutLast r outer ms u (row before head value)) s.1 (subst (λ v. WithoutLast r outer ms head (row before head v)) (sym n)
          (before, s.0, stands.3, row_again r before head stands.0 stands.2, stands.1)))
      | inr h ↦ (let s = same_last (tokens before ++ (head ∷ h.0)) ms h.1 m (append_assoc (tokens before) (head ∷ h.0) (h.1 ∷ []) ∙ ap (λ l. tokens before ++ (head ∷ l)) (sym h.2) ∙ e) in
          let w = without_last r (depth head) h.0 m value stands.4 (h.2 ∙ ap (λ u. h.0 ++ (u ∷ [])) s.1) in (
            row before head w.0,
            ap (λ l. tokens before ++ (head ∷ l)) w.1 ∙ s.0,
            (stands.0, stands.1, stands.2, stands.3, w.2),
            cond-true (nat_lt (depth head) (depth m)) _ _ (lt-ltb _ _ w.4) ∙ ap (option_map (row before head)) w.3,
            omega (arith, w.4, stands.1),
          ))
    ]

-- ---- lists of tokens

begun_deep : (r : FlowReader) (m : Token) (new : Written) → begun_by r m ≡ Some new → 0 < depth m
begun_deep r (Dash line column) new e = omega arith
begun_deep r (Key line column text) new e = omega arith
begun_deep r (Scalar line column text) new e = omega arith
begun_deep r (Anchor line column text) new e = omega arith
begun_deep r (Alias line column text) new e = omega arith
begun_deep r (Bar line column chomp) new e = omega arith
begun_deep r (Body line column bytes) new e = omega arith
begun_deep r (Form line column pieces) new e = omega arith
begun_deep r (OddToken line column why) new e = absurd (none-some new e)

pub head_deep : (m : Token) → is_head m ≡ true → 0 < depth m
head_deep (Dash line column) e = omega arith
head_deep (Key line column text) e = omega arith
head_deep (Scalar line column text) e = omega arith
head_deep (Anchor line column text) e = omega arith
head_deep (Alias line column text) e = omega arith
head_deep (Bar line column chomp) e = omega arith
head_deep (Body line column bytes) e = omega arith
head_deep (Form line column pieces) e = omega arith
head_deep (OddToken line column why) e = absurd (false≢true e)

body_deep : (m : Token) → is_body_line m ≡ true → 0 < depth m
body_deep (Dash line column) e = omega arith
body_deep (Key line column text) e = omega arith
body_deep (Scalar line column text) e = omega arith
body_deep (Anchor line column text) e = omega arith
body_deep (Alias line column text) e = omega arith
body_deep (Bar line column chomp) e = omega arith
body_deep (Body line column bytes) e = omega arith
body_deep (Form line column pieces) e = omega arith
body_deep (OddToken line column why) e = absurd (false≢true e)

pub begins_deep : (r : FlowReader) (m : Token) (old new : Written) → with_token r m old ≡ Some new → 0 < depth m
begins_deep r m nothing new e = begun_deep r m new e
begins_deep r m (leaf other) new e = absurd (none-some new e)
begins_deep r m (literal head lines) new e = body_deep m (literal_case r m head lines new e).0
begins_deep r m (flowing other value) new e = absurd (none-some new e)
begins_deep r m (named head value) new e = let c = named_case r m head value new e in begins_deep r m value c.1 c.2
begins_deep r m (row before head value) new e = elim (row_cases r m head before value new e) [ inl h ↦ begins_deep r m value h.1 h.2 | inr h ↦ head_deep m h.0 ]

pub spelled_with_tokens : (r : FlowReader) (ms : List Token) (old new : Written) → with_tokens r ms old ≡ Some new → StandsBelow 0 old → (tokens new ≡ tokens old ++ ms) × StandsBelow 0 new
spelled_with_tokens r [] old new e stands = (ap tokens (sym (same_Some _ _ e)) ∙ sym (append-nil (tokens old)), subst (StandsBelow 0) (same_Some _ _ e) stands)
spelled_with_tokens r (m ∷ ms) old new e stands = let c = chained (with_tokens r ms) (with_token r m old) new e in
    let rest = spelled_with_tokens r ms c.0 new c.2 (StandsBelow_with_token r 0 m old c.0 c.1 (begins_deep r m old c.0 c.1) stands) in
    (rest.0 ∙ ap (λ l. l ++ ms) (tokens_with_token r m old c.0 c.1) ∙ append_assoc (tokens old) (m ∷ []) ms, rest.1)

abbrev pub Before : FlowReader → List Token → List Token → Written → Type 0
Before r ns ms new = (old : Written) × (tokens old ≡ ns) × StandsBelow 0 old × (with_tokens r ms old ≡ Some new)

pub read_again : (r : FlowReader) (ns ms : List Token) (new : Written) → StandsBelow 0 new → tokens new ≡ ns ++ ms → Before r ns ms new
read_again r ns [] new stands e = (new, e ∙ append-nil ns, stands, refl)
read_again r ns (m ∷ ms) new stands e =
    let later = read_again r (ns ++ (m ∷ [])) ms new stands (e ∙ sym (append_assoc ns (m ∷ []) ms)) in
    let w = without_last r 0 ns m later.0 later.2 later.1 in
    (w.0, w.1, w.2, ap (option_and_then (with_tokens r ms)) w.3 ∙ later.3)

-- the tokens are read as what is written exactly where they are its own
pub Spells_from_read : (r : FlowReader) (ms : List Token) (w : Written) → with_tokens r ms nothing ≡ Some w → Spells ms w
Spells_from_read r ms w e = spelled_with_tokens r ms nothing w e tt

pub read_from_Spells : (r : FlowReader) (ms : List Token) (w : Written) → Spells ms w → with_tokens r ms nothing ≡ Some w
read_from_Spells r ms w h = let b = read_again r [] ms w h.1 h.0 in ap (with_tokens r ms) (sym (tokens_nil b.0 b.1)) ∙ b.3

-- at most one tree as it is written
pub same_written : (r : FlowReader) (ms : List Token) (w v : Written) → Spells ms w → Spells ms v → w ≡ v
same_written r ms w v h k = same_Some w v (sym (read_from_Spells r ms w h) ∙ read_from_Spells r ms v k)

pub with_tokens_append : (r : FlowReader) (ns ms : List Token) (old : Written) → with_tokens r (ns ++ ms) old ≡ option_and_then (with_tokens r ms) (with_tokens r ns old)
with_tokens_append r [] ms old = refl
with_tokens_append r (n ∷ ns) ms old = elim (with_token r n old) as (λ o. option_and_then (with_tokens r (ns ++ ms)) o ≡ option_and_then (with_tokens r ms) (option_and_then (with_tokens r ns) o)) [ None ↦ refl | Some new ↦ with_tokens_append r ns ms new ]
