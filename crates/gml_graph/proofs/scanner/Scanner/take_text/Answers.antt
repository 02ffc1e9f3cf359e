use Rattle.std.proofs.Common.{ℕ, ◌≡◌, ◌<◌, Bool, true, false, get_or, drop, List, [], ◌∷◌, length, fold, ap, ◌∙◌}
use Rattle.std.specs.List.{position_or_len, before_first, after_first}
use Rattle.gml_graph.specs.declared.token.Quoted.{Quoted}
use Rattle.gml_graph.specs.declared.token.Token.TheVariants.{Text}
use Rattle.gml_graph.specs.Token.{quoted}
use Rattle.gml_graph.specs.Tokens.{is_quote, next_line, tokens_from, between, lexeme}
use Rattle.gml_graph.proofs.TokensLemmas.{text_begun, text_at, unclosed_at}
use Rattle.gml_graph.proofs.scanner.Scanner.take_text.Goals as goal

text_taken : (fresh : Bool) (line : ℕ) (bs : List ℕ) → 0 < length bs → is_quote (get_or bs 0 0) ≡ true
    → (behind text rest : List ℕ) (said : Quoted) (after : ℕ) → behind ≡ drop 1 bs
    → (position_or_len is_quote behind < length behind) × (text ≡ before_first is_quote behind) × (rest ≡ after_first is_quote behind)
    → said ≡ quoted text → after ≡ fold next_line line text
    → tokens_from (between fresh) line bs ≡ lexeme line (Text said) ∷ tokens_from (between false) after rest
text_taken fresh line bs some quote behind text rest said after b parts s a =
    rw (s, a, parts.1, parts.2, b) (text_begun fresh line bs some quote ∙ text_at (drop 1 bs) line line [] (rw b at parts.0))

pub returns-in-Some-clause-next : goal.returns-in-Some-clause-next
returns-in-Some-clause-next c =
    let s = c.args.self.now in
    text_taken s.fresh s.line s.rest.now c.requires.some c.requires.quote c.behind_first-behind.result.now c.in-Some.text.now c.in-Some.rest.now _ _
    c.behind_first-behind.ensures c.in-Some.ensures c.read_quoted.ensures (c.line_behind-self.ensures.value ∙ ap (λ t. fold next_line s.line t) c.as_bytes.ensures.value)

pub returns-in-None-clause-next : goal.returns-in-None-clause-next
returns-in-None-clause-next c =
    let s = c.args.self.now in
    let none : position_or_len is_quote (drop 1 s.rest.now) ≡ length (drop 1 s.rest.now) = rw c.behind_first-behind.ensures at c.in-None.ensures in
    text_begun s.fresh s.line s.rest.now c.requires.some c.requires.quote ∙ unclosed_at (drop 1 s.rest.now) s.line s.line [] none
