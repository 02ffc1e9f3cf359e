-- what follows from a byte of a text
use Rattle.std.proofs.Common.{◌≡◌, ℕ, ◌+◌, ◌<◌, Bool, true, false, cond, not, List, [], ◌∷◌, ◌++◌, length, take, drop, get_or, refl, sym, ap, ◌∙◌, subst, arith, append_assoc, one-add, add-one, fold}
use Rattle.std.specs.Prelude.{if◌then◌else◌, ◌==◌}
use Rattle.std.specs.List.{position_or_len, before_first, after_first}
use Rattle.std.proofs.lemmas.List.{append-nil}
use Rattle.std.proofs.lemmas.Bool.Decides.{nat_tests}
use Rattle.gml_graph.specs.declared.token.Token.TheVariants.{Text, Unclosed}
use Rattle.gml_graph.specs.declared.token.Lexeme.{Lexeme}
use Rattle.gml_graph.specs.Token.{word_token, quoted}
use Rattle.gml_graph.specs.Tokens.{is_line_feed, is_blank, is_quote, ends_word, between, in_word, in_text, in_comment, lexeme, state_behind, next_line, brackets, tokens_from}
use Rattle.gml_graph.specs.inside.Scanning.{word_len}
use Rattle.gml_graph.specs.inside.Left.{begins_word}
use Rattle.std.proofs.lemmas.Bool.{false≢true}
use Rattle.sim_base.specs.Ascii.{line_feed, quotation_mark, number_sign}

-- a byte that a test names
byte_named : (b k : ℕ) → (b == k) ≡ true → b ≡ k
byte_named b k h = grind (arith, nat_tests)

-- what a word's last byte isn't
stays_on_line : (b : ℕ) (bs : List ℕ) (line : ℕ) → ends_word b bs ≡ false → next_line line b ≡ line
stays_on_line b bs line h = grind (arith, nat_tests)

word_step : (b : ℕ) (bs : List ℕ) (line : ℕ) (before : List ℕ) (ends : Bool) → ends ≡ ends_word b bs
    → ((w : List ℕ) → tokens_from (in_word w) line bs ≡ lexeme line (word_token (w ++ take (word_len bs) bs)) ∷ tokens_from (between false) line (drop (word_len bs) bs))
    → (if ends then lexeme line (word_token before) ∷ brackets line b else []) ++ tokens_from (if ends then state_behind false line b bs else in_word (before ++ b ∷ [])) (next_line line b) bs
    ≡ lexeme line (word_token (before ++ take (if ends then 0 else 1 + word_len bs) (b ∷ bs))) ∷ tokens_from (between false) line (drop (if ends then 0 else 1 + word_len bs) (b ∷ bs))
word_step b bs line before true e rest = ap (λ w. lexeme line (word_token w) ∷ tokens_from (between false) line (b ∷ bs)) (sym (append-nil before))
word_step b bs line before false e rest = rw (stays_on_line b bs line (sym e), one-add) (rest (before ++ b ∷ []) ∙ ap (λ w. lexeme line (word_token w) ∷ tokens_from (between false) line (drop (word_len bs) bs)) (append_assoc before (b ∷ []) (take (word_len bs) bs)))

-- a word goes up to the first byte that ends it
pub word_at : (before bs : List ℕ) (line : ℕ) → tokens_from (in_word before) line bs ≡ lexeme line (word_token (before ++ take (word_len bs) bs)) ∷ tokens_from (between false) line (drop (word_len bs) bs)
word_at before [] line = ap (λ w. lexeme line (word_token w) ∷ []) (sym (append-nil before))
word_at before (b ∷ bs) line = word_step b bs line before (ends_word b bs) refl (λ w. word_at w bs line)

-- a comment goes up to the end of its line
comment_step : (b : ℕ) (bs : List ℕ) (line : ℕ) (fresh ends : Bool) → ends ≡ is_line_feed b
    → tokens_from in_comment line bs ≡ tokens_from (between fresh) line (drop (position_or_len is_line_feed bs) bs)
    → tokens_from (if ends then between true else in_comment) (if ends then line + 1 else line) bs
    ≡ tokens_from (between fresh) line (drop (cond (not ends) (1 + position_or_len is_line_feed bs) 0) (b ∷ bs))
comment_step b bs line fresh true e rest =
    let P : ℕ → Type 0 = λ c. tokens_from (between true) (line + 1) bs ≡ tokens_from (between fresh) line (c ∷ bs) in
    subst P (sym (byte_named b line_feed (sym e))) refl
comment_step b bs line fresh false e rest = rw one-add rest

pub comment_at : (bs : List ℕ) (line : ℕ) (fresh : Bool) → tokens_from in_comment line bs ≡ tokens_from (between fresh) line (drop (position_or_len is_line_feed bs) bs)
comment_at [] line fresh = refl
comment_at (b ∷ bs) line fresh = comment_step b bs line fresh (is_line_feed b) refl (comment_at bs line fresh)

-- a text goes up to the next quote
quote_stays : (b line : ℕ) → is_quote b ≡ true → next_line line b ≡ line
quote_stays b line h = grind (arith, nat_tests)

text_step : (b : ℕ) (bs : List ℕ) (line start : ℕ) (before : List ℕ) (ends : Bool) → ends ≡ is_quote b
    → cond (not ends) (1 + position_or_len is_quote bs) 0 < length (b ∷ bs)
    → ((l : ℕ) (w : List ℕ) → position_or_len is_quote bs < length bs
    → tokens_from (in_text start w) l bs ≡ lexeme start (Text (quoted (w ++ before_first is_quote bs))) ∷ tokens_from (between false) (fold next_line l (before_first is_quote bs)) (after_first is_quote bs))
    → (if ends then lexeme start (Text (quoted before)) ∷ [] else []) ++ tokens_from (if ends then between false else in_text start (before ++ b ∷ [])) (next_line line b) bs
    ≡ lexeme start (Text (quoted (before ++ take (cond (not ends) (1 + position_or_len is_quote bs) 0) (b ∷ bs))))
    ∷ tokens_from (between false) (fold next_line line (take (cond (not ends) (1 + position_or_len is_quote bs) 0) (b ∷ bs))) (drop (cond (not ends) (1 + position_or_len is_quote bs) 0 + 1) (b ∷ bs))
text_step b bs line start before true e in_range rest = rw (quote_stays b line (sym e)) (ap (λ w. lexeme start (Text (quoted w)) ∷ tokens_from (between false) line bs) (sym (append-nil before)))
text_step b bs line start before false e in_range rest =
    let n = position_or_len is_quote bs in
    let lt : position_or_len is_quote bs < length bs = omega arith in
    let F : List ℕ → List ℕ → List Lexeme = λ t d. lexeme start (Text (quoted (before ++ t))) ∷ tokens_from (between false) (fold next_line line t) d in
    rest (next_line line b) (before ++ b ∷ []) lt
    ∙ ap (λ w. lexeme start (Text (quoted w)) ∷ tokens_from (between false) (fold next_line (next_line line b) (take n bs)) (drop (n + 1) bs)) (append_assoc before (b ∷ []) (take n bs))
    ∙ ap (λ t. F t (drop (n + 1) bs)) (let t : b ∷ take n bs ≡ take (1 + n) (b ∷ bs) = rw one-add refl in t)
    ∙ ap (λ d. F (take (1 + n) (b ∷ bs)) d) (let d : drop (n + 1) bs ≡ drop ((1 + n) + 1) (b ∷ bs) = rw (add-one (1 + n), one-add) (rw add-one refl) in d)

pub text_at : (bs : List ℕ) (line start : ℕ) (before : List ℕ) → position_or_len is_quote bs < length bs
    → tokens_from (in_text start before) line bs ≡ lexeme start (Text (quoted (before ++ before_first is_quote bs))) ∷ tokens_from (between false) (fold next_line line (before_first is_quote bs)) (after_first is_quote bs)
text_at [] line start before h = absurd (omega arith)
text_at (b ∷ bs) line start before h = text_step b bs line start before (is_quote b) refl h (λ l w lt. text_at bs l start w lt)

-- or, without one, to the end
unclosed_step : (b : ℕ) (bs : List ℕ) (line start : ℕ) (before : List ℕ) (ends : Bool) → cond (not ends) (1 + position_or_len is_quote bs) 0 ≡ length (b ∷ bs)
    → ((l : ℕ) (w : List ℕ) → position_or_len is_quote bs ≡ length bs → tokens_from (in_text start w) l bs ≡ lexeme start Unclosed ∷ [])
    → (if ends then lexeme start (Text (quoted before)) ∷ [] else []) ++ tokens_from (if ends then between false else in_text start (before ++ b ∷ [])) (next_line line b) bs ≡ lexeme start Unclosed ∷ []
unclosed_step b bs line start before true h rest = absurd (omega arith)
unclosed_step b bs line start before false h rest = rest (next_line line b) (before ++ b ∷ []) (omega arith)

pub unclosed_at : (bs : List ℕ) (line start : ℕ) (before : List ℕ) → position_or_len is_quote bs ≡ length bs → tokens_from (in_text start before) line bs ≡ lexeme start Unclosed ∷ []
unclosed_at [] line start before h = refl
unclosed_at (b ∷ bs) line start before h = unclosed_step b bs line start before (is_quote b) h (λ l w e. unclosed_at bs l start w e)

-- what stands between tokens
split_front : (bs : List ℕ) → 0 < length bs → bs ≡ get_or bs 0 0 ∷ drop 1 bs
split_front [] h = absurd (omega arith)
split_front (b ∷ bs) h = refl

pub tokens_step : (fresh : Bool) (line : ℕ) (bs : List ℕ) → 0 < length bs
    → tokens_from (between fresh) line bs ≡ brackets line (get_or bs 0 0) ++ tokens_from (state_behind fresh line (get_or bs 0 0) (drop 1 bs)) (next_line line (get_or bs 0 0)) (drop 1 bs)
tokens_step fresh line [] h = absurd (omega arith)
tokens_step fresh line (b ∷ bs) h = refl

pub blank_at : (fresh : Bool) (line b : ℕ) (bs : List ℕ) → is_blank b bs ≡ true
    → brackets line b ++ tokens_from (state_behind fresh line b bs) (next_line line b) bs ≡ tokens_from (between fresh) line bs
blank_at fresh line b bs h =
    let on : next_line line b ≡ line = grind (arith, nat_tests) in
    let none : brackets line b ≡ [] = grind (arith, nat_tests) in
    rw (none, on, h) refl

pub comment_skipped : (fresh : Bool) (line : ℕ) (bs : List ℕ) → fresh ≡ true → 0 < length bs → get_or bs 0 0 ≡ number_sign
    → tokens_from (between fresh) line (drop (position_or_len is_line_feed (drop 1 bs)) (drop 1 bs)) ≡ tokens_from (between fresh) line bs
comment_skipped fresh line [] f h e = absurd (omega arith)
comment_skipped fresh line (b ∷ bs) f h e =
    let P : ℕ → Type 0 = λ c. tokens_from (between true) line (drop (position_or_len is_line_feed bs) bs) ≡ tokens_from (between true) line (c ∷ bs) in
    rw f (subst P (sym e) (sym (comment_at bs line true)))

pub text_begun : (fresh : Bool) (line : ℕ) (bs : List ℕ) → 0 < length bs → is_quote (get_or bs 0 0) ≡ true
    → tokens_from (between fresh) line bs ≡ tokens_from (in_text line []) line (drop 1 bs)
text_begun fresh line [] h e = absurd (omega arith)
text_begun fresh line (b ∷ bs) h e =
    let P : ℕ → Type 0 = λ c. tokens_from (between fresh) line (c ∷ bs) ≡ tokens_from (in_text line []) line bs in
    subst P (sym (byte_named b quotation_mark e)) refl

word_state : (fresh : Bool) (line b : ℕ) (bs : List ℕ) → begins_word fresh (b ∷ bs) ≡ true → state_behind fresh line b bs ≡ in_word (b ∷ [])
word_state fresh line b bs e = grind (arith, nat_tests)

word_begun : (fresh : Bool) (b : ℕ) (bs : List ℕ) → begins_word fresh (b ∷ bs) ≡ true → ends_word b bs ≡ false
word_begun fresh b bs e = grind arith

no_bracket : (b line : ℕ) (bs : List ℕ) → ends_word b bs ≡ false → brackets line b ≡ []
no_bracket b line bs e = grind (arith, nat_tests)

pub word_taken : (fresh : Bool) (line : ℕ) (bs : List ℕ) → begins_word fresh bs ≡ true
    → tokens_from (between fresh) line bs ≡ lexeme line (word_token (take (word_len bs) bs)) ∷ tokens_from (between false) line (drop (word_len bs) bs)
word_taken fresh line [] e = absurd (false≢true e)
word_taken fresh line (b ∷ bs) e =
    let ends = word_begun fresh b bs e in
    rw (no_bracket b line bs ends, word_state fresh line b bs e, stays_on_line b bs line ends, ends, one-add) (word_at (b ∷ []) bs line)
