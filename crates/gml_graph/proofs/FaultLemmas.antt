-- how far tokens can be read, and why no farther
use Rattle.std.proofs.Common.{◌≡◌, ℕ, zero, suc, ◌-◌, ◌≤◌, ◌<◌, Bool, true, false, List, [], ◌∷◌, ◌++◌, Option, Some, None, Result, Ok, Err, refl, sym, ap, ◌∙◌, subst, append_assoc, add-one, arith}
use Rattle.std.specs.Prelude.{if◌then◌else◌, nat_le, ◌==◌, ◌&&◌}
use Rattle.std.specs.Option.{is_none}
use Rattle.std.proofs.lemmas.Bool.{leb-false}
use Rattle.gml_graph.specs.declared.fault.GmlFault.{GmlFault}
use Rattle.gml_graph.specs.declared.fault.GmlKind.TheVariants.{Syntax}
use Rattle.gml_graph.specs.declared.token.Token.{Token}
use Rattle.gml_graph.specs.declared.token.Token.TheVariants.{Name, Number, Text, Open, Close, Unclosed, Odd}
use Rattle.gml_graph.specs.declared.token.Lexeme.{Lexeme}
use Rattle.gml_graph.specs.declared.outline.Value.{Value}
use Rattle.gml_graph.specs.declared.outline.Value.TheVariants as values
use Rattle.gml_graph.specs.declared.outline.Waiting.{Waiting}
use Rattle.gml_graph.specs.declared.outline.OutlineRow.{OutlineRow}
use Rattle.sim_base.specs.Refusals.{◌>>=◌}
use Rattle.gml_graph.specs.Steps.{through, refused}
use Rattle.gml_graph.specs.Token.{quoted}
use Rattle.gml_graph.specs.Tokens.{lexeme}
use Rattle.gml_graph.specs.Outline.{Shape, with_row, accept_at, accept, finish}
use Rattle.gml_graph.specs.Grammar.{spelled, rows_of, Begins, closed_token}
use Rattle.gml_graph.proofs.EdgeLemmas.{bind_ok, ok_same}
use Rattle.gml_graph.proofs.GrammarLemmas.{shape, read, close_step, spelled_read, read_spells}
use Rattle.gml_graph.specs.Limits.{greatest_depth}

abbrev pub fault_at : ℕ → GmlFault
fault_at line = record { line = line; kind = Syntax }

err_same : {A : Type 0} (x y : GmlFault) → ◌≡◌ {A = Result A GmlFault} (Err x) (Err y) → x ≡ y
err_same x y h = cc

-- reading goes on behind what was read
append_cases : (xs ys : List Lexeme) (r : Result Shape GmlFault)
    → ((s : Shape) → through accept s (xs ++ ys) ≡ (through accept s xs >>= (λ t. through accept t ys)))
    → (r >>= (λ n. through accept n (xs ++ ys))) ≡ ((r >>= (λ n. through accept n xs)) >>= (λ t. through accept t ys))
append_cases xs ys (Ok n) rest = rest n
append_cases xs ys (Err f) rest = refl

pub through_append : (xs ys : List Lexeme) (s : Shape) → through accept s (xs ++ ys) ≡ (through accept s xs >>= (λ t. through accept t ys))
through_append [] ys s = refl
through_append (x ∷ xs) ys s = append_cases xs ys (accept s x) (through_append xs ys)

-- what each step keeps: lists lie no deeper than they may, and the text's last line is told
record Keeps (s t : Shape) : Type 0 where
  deep : t.depth ≤ greatest_depth
  same : t.last ≡ s.last

same_kept : (s t u : Shape) → ◌≡◌ {A = Result Shape GmlFault} (Ok u) (Ok t) → Keeps s u → Keeps s t
same_kept s t u h k = let P : Shape → Type 0 = λ x. Keeps s x in subst P (ok_same u t h) k

close_keeps : (s t : Shape) (line : ℕ) (b : Bool) → s.depth ≤ greatest_depth
    → (if b then refused {A = Shape} Syntax line else Ok (record s { depth = s.depth - 1 })) ≡ Ok t → Keeps s t
close_keeps s t line true deep h = absurd (let no : ⊥ = cc in no)
close_keeps s t line false deep h = same_kept s t _ h (record { deep = omega arith; same = refl })

open_keeps : (s t : Shape) (key : Waiting) (line : ℕ) (b : Bool) → b ≡ nat_le greatest_depth s.depth
    → ((if b then refused {A = Value} Syntax line else Ok values.List) >>= (λ value. Ok (with_row s key value))) ≡ Ok t → Keeps s t
open_keeps s t key line true e h = absurd (let no : ⊥ = cc in no)
open_keeps s t key line false e h =
    let lt : s.depth < greatest_depth = leb-false greatest_depth s.depth (sym e) in
    same_kept s t _ h (record { deep = omega arith; same = refl })

at_keeps : (w : Option Waiting) (token : Token) (s t : Shape) (line : ℕ) → s.depth ≤ greatest_depth → accept_at w s line token ≡ Ok t → Keeps s t
at_keeps None (Name k) s t line deep h = same_kept s t _ h (record { deep = deep; same = refl })
at_keeps None Close s t line deep h = close_keeps s t line (s.depth == 0) deep h
at_keeps None (Number d) s t line deep h = absurd (let no : ⊥ = cc in no)
at_keeps None (Text q) s t line deep h = absurd (let no : ⊥ = cc in no)
at_keeps None Open s t line deep h = absurd (let no : ⊥ = cc in no)
at_keeps None Unclosed s t line deep h = absurd (let no : ⊥ = cc in no)
at_keeps None Odd s t line deep h = absurd (let no : ⊥ = cc in no)
at_keeps (Some key) (Number d) s t line deep h = same_kept s t _ h (record { deep = deep; same = refl })
at_keeps (Some key) (Text q) s t line deep h = same_kept s t _ h (record { deep = deep; same = refl })
at_keeps (Some key) Open s t line deep h = open_keeps s t key line (nat_le greatest_depth s.depth) refl h
at_keeps (Some key) (Name k) s t line deep h = absurd (let no : ⊥ = cc in no)
at_keeps (Some key) Close s t line deep h = absurd (let no : ⊥ = cc in no)
at_keeps (Some key) Unclosed s t line deep h = absurd (let no : ⊥ = cc in no)
at_keeps (Some key) Odd s t line deep h = absurd (let no : ⊥ = cc in no)

accept_keeps : (s t : Shape) (x : Lexeme) → s.depth ≤ greatest_depth → accept s x ≡ Ok t → Keeps s t
unfolding accept
accept_keeps s t x deep h = at_keeps s.waiting x.token s t x.line deep h

through_keeps : (xs : List Lexeme) (s t : Shape) → s.depth ≤ greatest_depth → through accept s xs ≡ Ok t → Keeps s t
through_keeps [] s t deep h = same_kept s t s h (record { deep = deep; same = refl })
through_keeps (x ∷ xs) s t deep h =
    let p = bind_ok (accept s x) (λ n. through accept n xs) t h in
    let first = accept_keeps s p.0 x deep p.1 in
    let rest = through_keeps xs p.0 t first.deep p.2 in
    record { deep = rest.deep; same = rest.same ∙ first.same }

-- what was read can be read to an end: with a text for the key that waits, and the ends of the lists that are open
abbrev closes : ℕ → List Lexeme
closes zero = []
closes (suc n) = lexeme 0 Close ∷ closes n

closes_read : (n last : ℕ) (done : List OutlineRow) → read (shape last n done) (closes n) ≡ Ok done
closes_read zero last done = refl
closes_read (suc n) last done =
    let P : ℕ → Type 0 = λ m. read (shape last m done) (lexeme 0 Close ∷ closes n) ≡ Ok done in
    subst P (add-one n) (ap (λ r. r >>= finish) (close_step last n 0 done (closes n)) ∙ closes_read n last done)

record CanEnd (s : Shape) : Type 0 where
  rest : List Lexeme
  out : List OutlineRow
  ends : read s rest ≡ Ok out

can_end_at : (w : Option Waiting) (last depth : ℕ) (done : List OutlineRow) → CanEnd (record { last = last; depth = depth; waiting = w; rows = done })
unfolding accept
can_end_at None last depth done = record { rest = closes depth; out = done; ends = closes_read depth last done }
can_end_at (Some key) last depth done =
    let row : OutlineRow = record { depth = depth; line = key.line; key = key.key; value = values.Text (quoted []) } in
    record { rest = lexeme 0 (Text (quoted [])) ∷ closes depth; out = done ++ row ∷ []; ends = closes_read depth last (done ++ row ∷ []) }

can_end : (s : Shape) → CanEnd s
can_end s = can_end_at s.waiting s.last s.depth s.rows

pub reached_begins : (last : ℕ) (before : List Lexeme) (reached : Shape) → through accept (shape last 0 []) before ≡ Ok reached → Begins before
reached_begins last before reached h =
    let c = can_end reached in
    let is_read : read (shape last 0 []) (before ++ c.rest) ≡ Ok c.out =
    ap (λ r. r >>= finish) (through_append before c.rest (shape last 0 []))
    ∙ ap (λ r. (r >>= (λ t. through accept t c.rest)) >>= finish) h
    ∙ c.ends in
    let s = read_spells last (before ++ c.rest) c.out is_read in
    record { pairs = s.pairs; more = c.rest; as_tokens = s.as_tokens; nested = s.nested }

pub accepted_begins : (last : ℕ) (before : List Lexeme) (x : Lexeme) (reached next : Shape)
    → through accept (shape last 0 []) before ≡ Ok reached → accept reached x ≡ Ok next → Begins (before ++ x ∷ [])
accepted_begins last before x reached next h e =
    reached_begins last (before ++ x ∷ []) next
    (through_append before (x ∷ []) (shape last 0 [])
    ∙ ap (λ r. r >>= (λ t. through accept t (x ∷ []))) h
    ∙ ap (λ r. r >>= (λ t. through accept t [])) e)

pub refused_begins : (last : ℕ) (before : List Lexeme) (x : Lexeme) (reached : Shape) (f : GmlFault)
    → through accept (shape last 0 []) before ≡ Ok reached → accept reached x ≡ Err f → ¬ Begins (before ++ x ∷ [])
refused_begins last before x reached f h e b =
    let is_read : read (shape last 0 []) (spelled b.pairs) ≡ Ok (rows_of 0 b.pairs) = spelled_read b.pairs last b.nested in
    let refuses : read (shape last 0 []) (spelled b.pairs) ≡ Err f =
    ap (λ t. read (shape last 0 []) t) (b.as_tokens ∙ append_assoc before (x ∷ []) b.more)
    ∙ ap (λ r. r >>= finish) (through_append before (x ∷ b.more) (shape last 0 []))
    ∙ ap (λ r. (r >>= (λ t. through accept t (x ∷ b.more))) >>= finish) h
    ∙ ap (λ r. (r >>= (λ t. through accept t b.more)) >>= finish) e in
    let no : ⊥ = cc in no

-- where reading fails
pub data Fails (s : Shape) (ts : List Lexeme) (f : GmlFault) : Type 0 where
  at_token : (before : List Lexeme) (reached : Shape) (x : Lexeme) (behind : List Lexeme)
      → through accept s before ≡ Ok reached → before ++ x ∷ behind ≡ ts → accept reached x ≡ Err f → Fails s ts f
  at_end : (reached : Shape) → through accept s ts ≡ Ok reached → finish reached ≡ Err f → Fails s ts f

fails_later : (s n : Shape) (x : Lexeme) (ts : List Lexeme) (f : GmlFault) → accept s x ≡ Ok n → Fails n ts f → Fails s (x ∷ ts) f
fails_later s n x ts f e (at_token before reached y behind h t a) =
    at_token (x ∷ before) reached y behind (ap (λ r. r >>= (λ m. through accept m before)) e ∙ h) (ap (λ l. x ∷ l) t) a
fails_later s n x ts f e (at_end reached h a) = at_end reached (ap (λ r. r >>= (λ m. through accept m ts)) e ∙ h) a

fails_cases : (s : Shape) (x : Lexeme) (ts : List Lexeme) (f : GmlFault) (r : Result Shape GmlFault) → accept s x ≡ r
    → ((n : Shape) → read n ts ≡ Err f → Fails n ts f) → ((r >>= (λ n. through accept n ts)) >>= finish) ≡ Err f → Fails s (x ∷ ts) f
fails_cases s x ts f (Ok n) e rest h = fails_later s n x ts f e (rest n h)
fails_cases s x ts f (Err g) e rest h = at_token [] s x ts refl refl (e ∙ ap (λ d. Err d) (err_same g f h))

pub fails : (ts : List Lexeme) (s : Shape) (f : GmlFault) → read s ts ≡ Err f → Fails s ts f
fails [] s f h = at_end s refl h
fails (x ∷ ts) s f h = fails_cases s x ts f (accept s x) refl (λ n. fails ts n f) h

-- why a token is refused: it can't stand there, or it is a text that lacks its second quote
pub data Reason (w : Option Waiting) (s : Shape) (line : ℕ) (token : Token) (f : GmlFault) : Type 0 where
  misplaced : (g : GmlFault) → accept_at w s line (closed_token token) ≡ Err g → f ≡ fault_at line → Reason w s line token f
  lacks_quote : token ≡ Unclosed → (t : Shape) → accept_at w s line (closed_token token) ≡ Ok t → f ≡ fault_at s.last → Reason w s line token f

close_reason : (s : Shape) (line : ℕ) (f : GmlFault) (b : Bool) → b ≡ (s.depth == 0)
    → (if b then refused {A = Shape} Syntax line else Ok (record s { depth = s.depth - 1 })) ≡ Err f → f ≡ fault_at line
close_reason s line f true e h = sym (err_same (fault_at line) f h)
close_reason s line f false e h = absurd (let no : ⊥ = cc in no)

open_reason : (s : Shape) (key : Waiting) (line : ℕ) (f : GmlFault) (b : Bool)
    → ((if b then refused {A = Value} Syntax line else Ok values.List) >>= (λ value. Ok (with_row s key value))) ≡ Err f → f ≡ fault_at line
open_reason s key line f true h = sym (err_same (fault_at line) f h)
open_reason s key line f false h = absurd (let no : ⊥ = cc in no)

pub reason : (w : Option Waiting) (token : Token) (s : Shape) (line : ℕ) (f : GmlFault) → accept_at w s line token ≡ Err f → Reason w s line token f
reason None (Name k) s line f h = absurd (let no : ⊥ = cc in no)
reason None Close s line f h = misplaced f h (close_reason s line f (s.depth == 0) refl h)
reason None (Number d) s line f h = misplaced f h (sym (err_same (fault_at line) f h))
reason None (Text q) s line f h = misplaced f h (sym (err_same (fault_at line) f h))
reason None Open s line f h = misplaced f h (sym (err_same (fault_at line) f h))
reason None Unclosed s line f h = misplaced f h (sym (err_same (fault_at line) f h))
reason None Odd s line f h = misplaced f h (sym (err_same (fault_at line) f h))
reason (Some key) (Number d) s line f h = absurd (let no : ⊥ = cc in no)
reason (Some key) (Text q) s line f h = absurd (let no : ⊥ = cc in no)
reason (Some key) Open s line f h = misplaced f h (open_reason s key line f (nat_le greatest_depth s.depth) h)
reason (Some key) (Name k) s line f h = misplaced f h (sym (err_same (fault_at line) f h))
reason (Some key) Close s line f h = misplaced f h (sym (err_same (fault_at line) f h))
reason (Some key) Unclosed s line f h = lacks_quote refl (with_row s key (values.Text (quoted []))) refl (sym (err_same (fault_at s.last) f h))
reason (Some key) Odd s line f h = misplaced f h (sym (err_same (fault_at line) f h))

-- the end comes too early
end_cases : (s : Shape) (f : GmlFault) (b : Bool) → (if b then Ok s.rows else refused {A = List OutlineRow} Syntax s.last) ≡ Err f → f ≡ fault_at s.last
end_cases s f true h = absurd (let no : ⊥ = cc in no)
end_cases s f false h = sym (err_same (fault_at s.last) f h)

pub end_reason : (s : Shape) (f : GmlFault) → finish s ≡ Err f → f ≡ fault_at s.last
end_reason s f h = end_cases s f (is_none s.waiting && s.depth == 0) h

pub last_kept : (last : ℕ) (before : List Lexeme) (reached : Shape) → through accept (shape last 0 []) before ≡ Ok reached → reached.last ≡ last
last_kept last before reached h =
    let k = through_keeps before (shape last 0 []) reached (omega arith) h in
    k.same
