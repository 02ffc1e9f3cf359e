-- what reading answers where the first fault is known
use Rattle.std.proofs.Common.{◌≡◌, ℕ, List, [], ◌∷◌, ◌++◌, Option, Some, None, Result, Ok, Err, refl, sym, ap, ◌∙◌, subst}
use Rattle.gml_graph.specs.declared.fault.GmlFault.{GmlFault}
use Rattle.gml_graph.specs.declared.token.Token.{Token}
use Rattle.gml_graph.specs.declared.token.Token.TheVariants.{Name, Number, Text, Open, Close, Unclosed, Odd}
use Rattle.gml_graph.specs.declared.token.Lexeme.{Lexeme}
use Rattle.gml_graph.specs.declared.outline.Waiting.{Waiting}
use Rattle.gml_graph.specs.declared.outline.OutlineRow.{OutlineRow}
use Rattle.sim_base.specs.Refusals.{◌>>=◌}
use Rattle.gml_graph.specs.Steps.{through}
use Rattle.gml_graph.specs.Token.{quoted}
use Rattle.gml_graph.specs.Tokens.{lexeme}
use Rattle.gml_graph.specs.Outline.{Shape, accept_at, accept, finish}
use Rattle.gml_graph.specs.Grammar.{spelled, rows_of, Spells, Begins, closed_token, closed}
use Rattle.gml_graph.proofs.EdgeLemmas.{bind_ok}
use Rattle.gml_graph.proofs.GrammarLemmas.{shape, read, spelled_read, read_spells}
use Rattle.gml_graph.proofs.FaultLemmas.{fault_at, through_append, accepted_begins, Reason, misplaced, lacks_quote, reason, end_reason, last_kept}

-- what begins pairs is read
record IsAccepted (last : ℕ) (before : List Lexeme) : Type 0 where
  pub reached : Shape
  pub is_reached : through accept (shape last 0 []) before ≡ Ok reached

accepted_cases : (last : ℕ) (before more : List Lexeme) (out : List OutlineRow) (r : Result Shape GmlFault) → through accept (shape last 0 []) before ≡ r
    → ((r >>= (λ t. through accept t more)) >>= finish) ≡ Ok out → IsAccepted last before
accepted_cases last before more out (Ok s) e h = record { reached = s; is_reached = e }
accepted_cases last before more out (Err f) e h = absurd (let no : ⊥ = cc in no)

begins_read : (last : ℕ) (before : List Lexeme) → Begins before → IsAccepted last before
begins_read last before b =
    let h : read (shape last 0 []) (spelled b.pairs) ≡ Ok (rows_of 0 b.pairs) = spelled_read b.pairs last b.nested in
    let both : ((through accept (shape last 0 []) before >>= (λ t. through accept t b.more)) >>= finish) ≡ Ok (rows_of 0 b.pairs) =
    sym (ap (λ r. r >>= finish) (through_append before b.more (shape last 0 [])))
    ∙ sym (ap (λ t. read (shape last 0 []) t) b.as_tokens)
    ∙ h in
    accepted_cases last before b.more (rows_of 0 b.pairs) (through accept (shape last 0 []) before) refl both

-- and the token behind it is not, or is
closed_cases : (w : Option Waiting) (token : Token) (s t : Shape) (line : ℕ) → accept_at w s line token ≡ Ok t → accept_at w s line (closed_token token) ≡ Ok t
closed_cases None (Name k) s t line h = h
closed_cases None (Number d) s t line h = h
closed_cases None (Text q) s t line h = h
closed_cases None Open s t line h = h
closed_cases None Close s t line h = h
closed_cases None Unclosed s t line h = absurd (let no : ⊥ = cc in no)
closed_cases None Odd s t line h = h
closed_cases (Some key) (Name k) s t line h = h
closed_cases (Some key) (Number d) s t line h = h
closed_cases (Some key) (Text q) s t line h = h
closed_cases (Some key) Open s t line h = h
closed_cases (Some key) Close s t line h = h
closed_cases (Some key) Unclosed s t line h = absurd (let no : ⊥ = cc in no)
closed_cases (Some key) Odd s t line h = h

refuses_at : (s : Shape) (before : List Lexeme) (x : Lexeme) (behind : List Lexeme) (reached : Shape) (f : GmlFault)
    → through accept s before ≡ Ok reached → accept reached x ≡ Err f → read s (before ++ x ∷ behind) ≡ Err f
refuses_at s before x behind reached f h e =
    ap (λ r. r >>= finish) (through_append before (x ∷ behind) s)
    ∙ ap (λ r. (r >>= (λ t. through accept t (x ∷ behind))) >>= finish) h
    ∙ ap (λ r. (r >>= (λ t. through accept t behind)) >>= finish) e

misplaced_reason : (last : ℕ) (before : List Lexeme) (x : Lexeme) (reached : Shape) (f : GmlFault) → through accept (shape last 0 []) before ≡ Ok reached
    → ¬ Begins (before ++ closed x ∷ []) → Reason reached.waiting reached x.line x.token f → f ≡ fault_at x.line
unfolding accept
misplaced_reason last before x reached f h may_not (misplaced g c e) = e
misplaced_reason last before x reached f h may_not (lacks_quote u n c e) = absurd (may_not (accepted_begins last before (closed x) reached n h c))

misplaced_cases : (last : ℕ) (before : List Lexeme) (x : Lexeme) (behind : List Lexeme) (reached : Shape) (r : Result Shape GmlFault)
    → through accept (shape last 0 []) before ≡ Ok reached → ¬ Begins (before ++ closed x ∷ []) → accept reached x ≡ r
    → read (shape last 0 []) (before ++ x ∷ behind) ≡ Err (fault_at x.line)
unfolding accept
misplaced_cases last before x behind reached (Ok n) h may_not e =
    absurd (may_not (accepted_begins last before (closed x) reached n h (closed_cases reached.waiting x.token reached n x.line e)))
misplaced_cases last before x behind reached (Err f) h may_not e =
    refuses_at (shape last 0 []) before x behind reached f h e
    ∙ ap (λ d. Err d) (misplaced_reason last before x reached f h may_not (reason reached.waiting x.token reached x.line f e))

pub misplaced_read : (last : ℕ) (before : List Lexeme) (x : Lexeme) (behind : List Lexeme) → Begins before → ¬ Begins (before ++ closed x ∷ [])
    → read (shape last 0 []) (before ++ x ∷ behind) ≡ Err (fault_at x.line)
misplaced_read last before x behind may may_not =
    let a = begins_read last before may in
    misplaced_cases last before x behind a.reached (accept a.reached x) a.is_reached may_not refl

-- a text that lacks its second quote
quote_at : (w : Option Waiting) (s t : Shape) (line : ℕ) → accept_at w s line (Text (quoted [])) ≡ Ok t → accept_at w s line Unclosed ≡ Err (fault_at s.last)
quote_at None s t line h = absurd (let no : ⊥ = cc in no)
quote_at (Some key) s t line h = refl

quote_read : (last : ℕ) (before : List Lexeme) (line : ℕ) (behind : List Lexeme) → Begins (before ++ lexeme line (Text (quoted [])) ∷ [])
    → read (shape last 0 []) (before ++ lexeme line Unclosed ∷ behind) ≡ Err (fault_at last)
unfolding accept
quote_read last before line behind may =
    let x : Lexeme = lexeme line (Text (quoted [])) in
    let a = begins_read last (before ++ x ∷ []) may in
    let p = bind_ok (through accept (shape last 0 []) before) (λ t. through accept t (x ∷ [])) a.reached
    (sym (through_append before (x ∷ []) (shape last 0 [])) ∙ a.is_reached) in
    let q = bind_ok (accept p.0 x) (λ t. through accept t []) a.reached p.2 in
    refuses_at (shape last 0 []) before (lexeme line Unclosed) behind p.0 (fault_at p.0.last) p.1 (quote_at p.0.waiting p.0 q.0 line q.1)
    ∙ ap (λ n. Err (fault_at n)) (last_kept last before p.0 p.1)

pub lacks_quote_read : (last : ℕ) (before : List Lexeme) (line : ℕ) (token : Token) (behind : List Lexeme) → token ≡ Unclosed
    → Begins (before ++ closed (lexeme line token) ∷ []) → read (shape last 0 []) (before ++ lexeme line token ∷ behind) ≡ Err (fault_at last)
lacks_quote_read last before line token behind e may =
    let P : Token → Type 0 = λ t. Begins (before ++ closed (lexeme line t) ∷ []) in
    let Q : Token → Type 0 = λ t. read (shape last 0 []) (before ++ lexeme line t ∷ behind) ≡ Err (fault_at last) in
    subst Q (sym e) (quote_read last before line behind (subst P e may))

-- the end
early_cases : (last : ℕ) (ts : List Lexeme) (reached : Shape) (r : Result (List OutlineRow) GmlFault) → through accept (shape last 0 []) ts ≡ Ok reached
    → ((rows : List OutlineRow) → ¬ Spells ts rows) → finish reached ≡ r → read (shape last 0 []) ts ≡ Err (fault_at last)
early_cases last ts reached (Ok rows) h not_whole e = absurd (not_whole rows (read_spells last ts rows (ap (λ r. r >>= finish) h ∙ e)))
early_cases last ts reached (Err f) h not_whole e =
    ap (λ r. r >>= finish) h ∙ e ∙ ap (λ d. Err d) (end_reason reached f e ∙ ap fault_at (last_kept last ts reached h))

pub early_read : (last : ℕ) (ts : List Lexeme) → Begins ts → ((rows : List OutlineRow) → ¬ Spells ts rows) → read (shape last 0 []) ts ≡ Err (fault_at last)
early_read last ts may not_whole =
    let a = begins_read last ts may in
    early_cases last ts a.reached (finish a.reached) a.is_reached not_whole refl
