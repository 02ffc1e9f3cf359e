-- One step more of the builder's loops.
use Rattle.std.proofs.Common.{◌≡◌, ℕ, ◌<◌, Bool, true, false, cond, List, [], ◌∷◌, Some, None, Result, Ok, Err, is_some, length, refl, sym, ap, ◌∙◌, arith, nat_lt}
use Rattle.std.proofs.lemmas.Bool.{cond-true, cond-false}
use Rattle.sim_base.specs.Refusals.{◌>>=◌}
use Rattle.yaml_tree.specs.inside.Stack.{PopsWhere, one_node}
use Rattle.yaml_tree.specs.inside.Builder.{closed_deeper_on, closed, valued, put_node, with_node, take_piece, take_pieces, take_token, take_tokens, Steps}
use Rattle.yaml_tree.specs.declared.node.Value.TheVariants.{Null}
use Rattle.yaml_tree.specs.declared.stack.Open.{Open}
use Rattle.yaml_tree.specs.declared.builder.Builder.{Builder}
use Rattle.yaml_tokens.specs.declared.token.Token.{Token}
use Rattle.yaml_tokens.specs.declared.piece.Piece.{Piece}
use Rattle.yaml_tree.specs.declared.fault.FaultKind.{FaultKind}
use Rattle.yaml_tree.specs.declared.fault.Stop.{Stop}
use Rattle.yaml_tree.specs.declared.fault.Stop.TheVariants as stop

open_rows_valued : (line : ℕ) (b : Builder) → (valued line b).open_rows ≡ b.open_rows
unfolding valued put_node with_node
open_rows_valued line b = by (is_some b.value)
  where
    by : (t : Bool) → (cond t b (put_node line Null one_node b)).open_rows ≡ b.open_rows
    by true = refl
    by false = refl

-- closing keeps the collections that are open
pub open_rows_closed : (o : Open) (b : Builder) → (closed o b).open_rows ≡ b.open_rows
unfolding closed put_node with_node
open_rows_closed o b = open_rows_valued o.line b

closed_deeper_on_first : (depth : ℕ) (o : Open) (os : List Open) (b : Builder) → nat_lt depth o.depth ≡ true → closed_deeper_on depth (o ∷ os) b ≡ closed_deeper_on depth os (closed o (record b { open_rows = os }))
unfolding closed_deeper_on
closed_deeper_on_first depth o os b e = cond-true (nat_lt depth o.depth) _ _ e

pub closed_deeper_step : (depth : ℕ) (b after : Builder) (o : Open) (new : List Open) → PopsWhere (λ p. nat_lt depth p.depth) b.open_rows (Some o) new → after ≡ closed o (record b { open_rows = new }) → (closed_deeper_on depth after.open_rows after ≡ closed_deeper_on depth b.open_rows b) × (length after.open_rows < length b.open_rows)
closed_deeper_step depth b after o new pops e =
    let rest : after.open_rows ≡ new = ap (λ x. x.open_rows) e ∙ open_rows_closed o (record b { open_rows = new }) in
    let longer : length b.open_rows ≡ length (o ∷ new) = ap length pops.0 in
    let same : length after.open_rows ≡ length new = ap length rest in
    (ap (λ os. closed_deeper_on depth os after) rest ∙ ap (closed_deeper_on depth new) e ∙ sym (closed_deeper_on_first depth o new b pops.1) ∙ ap (λ os. closed_deeper_on depth os b) (sym pops.0), omega arith)

pub closed_deeper_on_end : (depth : ℕ) (old new : List Open) (b : Builder) → b.open_rows ≡ old → PopsWhere (λ p. nat_lt depth p.depth) old None new → record b { open_rows = new } ≡ closed_deeper_on depth old b
unfolding closed_deeper_on
closed_deeper_on_end depth [] new b at pops = ap (λ os. record b { open_rows = os }) (pops ∙ sym at)
closed_deeper_on_end depth (o ∷ os) new b at pops = ap (λ os. record b { open_rows = os }) (pops.0 ∙ sym at) ∙ sym (cond-false (nat_lt depth o.depth) _ _ pops.1)

-- ---- pieces

-- a piece more of those that are left
pub pieces_go_on : (line : ℕ) (left rest : List Piece) (p : Piece) (b after w : Builder) → left ≡ p ∷ rest → after ≡ take_piece line p b → take_pieces line left b ≡ w → take_pieces line rest after ≡ w
unfolding take_pieces
pieces_go_on line left rest p b after w cut e so_far = ap (take_pieces line rest) e ∙ sym (ap (λ ps. take_pieces line ps b) cut) ∙ so_far

pub pieces_end : (line : ℕ) (left : List Piece) (b w : Builder) → length left ≡ 0 → take_pieces line left b ≡ w → b ≡ w
unfolding take_pieces
pieces_end line [] b w none so_far = so_far
pieces_end line (p ∷ left) b w none so_far = absurd (omega (arith, none))

-- ---- tokens

module _ (left : List Token) (b : Builder) (w : Result Builder FaultKind) (so_far : take_tokens left b ≡ w) where
  token_at : (m : Token) (rest : List Token) → left ≡ m ∷ rest → (take_token m b >>= take_tokens rest) ≡ w
  unfolding take_tokens
  token_at m rest cut = ap (λ ms. take_tokens ms b) (sym cut) ∙ so_far

  -- a token more of those that are left
  pub tokens_go_on : (m : Token) (rest : List Token) (after : Builder) → left ≡ m ∷ rest → take_token m b ≡ Ok after → take_tokens rest after ≡ w
  tokens_go_on m rest after cut e = ap (λ r. r >>= take_tokens rest) (sym e) ∙ token_at m rest cut

  pub token_is_refused : (m : Token) (rest : List Token) (s : Stop) (new : Builder) → left ≡ m ∷ rest → Steps (Err s) new (take_token m b) → Steps (Err s) new w
  token_is_refused m rest (stop.Fault kind) new cut e = sym (token_at m rest cut) ∙ ap (λ r. r >>= take_tokens rest) e
  token_is_refused m rest stop.NoMemory new cut e = tt

  none_left : (ms : List Token) → length ms ≡ 0 → Ok b ≡ take_tokens ms b
  unfolding take_tokens
  none_left [] e = refl
  none_left (m ∷ ms) e = absurd (omega (arith, e))

  pub tokens_end : length left ≡ 0 → w ≡ Ok b
  tokens_end e = sym (none_left left e ∙ so_far)
