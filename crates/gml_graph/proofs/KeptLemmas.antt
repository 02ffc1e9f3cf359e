-- what is kept while a text is read is what is asked for of all that was read
use Rattle.std.proofs.Common.{◌≡◌, ℕ, ◌-◌, Bool, true, false, List, [], ◌∷◌, ◌++◌, Option, Some, None, fold, Result, Ok, Err, refl, sym, ap, ◌∙◌, append_assoc, append-nil}
use Rattle.std.specs.Prelude.{if◌then◌else◌, ◌==◌, ◌&&◌, nat_le}
use Rattle.std.specs.Option.{is_none}
use Rattle.std.proofs.lemmas.Grind.{fold-append}
use Rattle.gml_graph.specs.declared.fault.GmlFault.{GmlFault}
use Rattle.gml_graph.specs.declared.fault.GmlKind.TheVariants.{Syntax}
use Rattle.gml_graph.specs.declared.token.Token.{Token}
use Rattle.gml_graph.specs.declared.token.Token.TheVariants.{Name, Number, Text, Open, Close, Unclosed, Odd}
use Rattle.gml_graph.specs.declared.token.Lexeme.{Lexeme}
use Rattle.gml_graph.specs.declared.outline.Value.{Value}
use Rattle.gml_graph.specs.declared.outline.Value.TheVariants as values
use Rattle.gml_graph.specs.declared.outline.Waiting.{Waiting}
use Rattle.gml_graph.specs.declared.outline.OutlineRow.{OutlineRow}
use Rattle.sim_base.specs.Refusals.{◌>>=◌}
use Rattle.gml_graph.specs.Steps.{through, refused}
use Rattle.gml_graph.specs.Tokens.{tokens}
use Rattle.gml_graph.specs.Outline.{Shape, with_row, accept_at, accept, finish, start, outline}
use Rattle.gml_graph.specs.inside.Asked.{asked_row, reach_behind, asked, asked_outline, Kept, row_of, keep_row, keep_at, keep}
use Rattle.gml_graph.specs.Limits.{greatest_depth}

-- what is kept of what was read
abbrev pub kept : Shape → Kept
kept s = record { reach = fold reach_behind 0 s.rows; shape = record s { rows = asked 0 s.rows } }

asked_append : (reach : ℕ) (rows : List OutlineRow) (r : OutlineRow) → asked reach (rows ++ r ∷ []) ≡ asked reach rows ++ asked_row (fold reach_behind reach rows) r
asked_append reach [] r = append-nil (asked_row reach r)
asked_append reach (x ∷ rows) r =
    ap (λ t. asked_row reach x ++ t) (asked_append (reach_behind reach x) rows r)
    ∙ sym (append_assoc (asked_row reach x) (asked (reach_behind reach x) rows) (asked_row (fold reach_behind (reach_behind reach x) rows) r))

same_row : (s : Shape) (key : Waiting) (value : Value) → keep_row (kept s) key value ≡ kept (with_row s key value)
same_row s key value =
    let r : OutlineRow = row_of s key value in
    let with_rows : ℕ → List OutlineRow → Kept = λ reach rows. record { reach = reach; shape = record (with_row s key value) { rows = rows } } in
    ap (λ reach. with_rows reach (asked 0 s.rows ++ asked_row (fold reach_behind 0 s.rows) r)) (sym (fold-append reach_behind 0 s.rows (r ∷ [])))
    ∙ ap (with_rows (fold reach_behind 0 (s.rows ++ r ∷ []))) (sym (asked_append 0 s.rows r))

-- one token
close_same : (s : Shape) (line : ℕ) (b : Bool)
    → ((if b then refused {A = Shape} Syntax line else Ok (record (kept s).shape { depth = s.depth - 1 })) >>= λ t. Ok (record (kept s) { shape = t }))
    ≡ ((if b then refused {A = Shape} Syntax line else Ok (record s { depth = s.depth - 1 })) >>= λ t. Ok (kept t))
close_same s line true = refl
close_same s line false = refl

open_same : (s : Shape) (key : Waiting) (line : ℕ) (b : Bool)
    → ((if b then refused {A = Value} Syntax line else Ok values.List) >>= λ value. Ok (keep_row (kept s) key value))
    ≡ (((if b then refused {A = Value} Syntax line else Ok values.List) >>= λ value. Ok (with_row s key value)) >>= λ t. Ok (kept t))
open_same s key line true = refl
open_same s key line false = ap (λ k. Ok k) (same_row s key values.List)

token_same : (w : Option Waiting) (token : Token) (s : Shape) (line : ℕ) → keep_at w (kept s) line token ≡ (accept_at w s line token >>= λ t. Ok (kept t))
token_same None (Name k) s line = refl
token_same None Close s line = close_same s line (s.depth == 0)
token_same None (Number d) s line = refl
token_same None (Text q) s line = refl
token_same None Open s line = refl
token_same None Unclosed s line = refl
token_same None Odd s line = refl
token_same (Some key) (Number d) s line = ap (λ k. Ok k) (same_row s key (values.Number d))
token_same (Some key) (Text q) s line = ap (λ k. Ok k) (same_row s key (values.Text q))
token_same (Some key) Open s line = open_same s key line (nat_le greatest_depth s.depth)
token_same (Some key) (Name k) s line = refl
token_same (Some key) Close s line = refl
token_same (Some key) Unclosed s line = refl
token_same (Some key) Odd s line = refl

keep_same : (s : Shape) (x : Lexeme) → keep (kept s) x ≡ (accept s x >>= λ t. Ok (kept t))
unfolding keep accept
keep_same s x = token_same s.waiting x.token s x.line

-- all tokens
rest_same : (r : Result Shape GmlFault) (xs : List Lexeme) → ((s : Shape) → through keep (kept s) xs ≡ (through accept s xs >>= λ t. Ok (kept t)))
    → ((r >>= λ t. Ok (kept t)) >>= λ k. through keep k xs) ≡ ((r >>= λ s. through accept s xs) >>= λ t. Ok (kept t))
rest_same (Ok s) xs more = more s
rest_same (Err f) xs more = refl

through_same : (s : Shape) (xs : List Lexeme) → through keep (kept s) xs ≡ (through accept s xs >>= λ t. Ok (kept t))
through_same s [] = refl
through_same s (x ∷ xs) = ap (λ r. r >>= λ k. through keep k xs) (keep_same s x) ∙ rest_same (accept s x) xs (λ t. through_same t xs)

-- the end
end_same : (s : Shape) (b : Bool)
    → (if b then Ok (asked 0 s.rows) else refused {A = List OutlineRow} Syntax s.last)
    ≡ ((if b then Ok s.rows else refused {A = List OutlineRow} Syntax s.last) >>= λ rows. Ok (asked 0 rows))
end_same s true = refl
end_same s false = refl

finish_same : (r : Result Shape GmlFault) → ((r >>= λ s. Ok (kept s)) >>= λ k. finish k.shape) ≡ ((r >>= finish) >>= λ rows. Ok (asked 0 rows))
finish_same (Ok s) = end_same s (is_none s.waiting && s.depth == 0)
finish_same (Err f) = refl

pub kept_outline : (text : List ℕ) → (through keep (kept (start text)) (tokens text) >>= λ k. finish k.shape) ≡ asked_outline text
unfolding outline asked_outline
kept_outline text =
    ap (λ r. r >>= λ k. finish k.shape) (through_same (start text) (tokens text))
    ∙ finish_same (through accept (start text) (tokens text))
