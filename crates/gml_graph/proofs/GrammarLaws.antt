-- The outline of a text against the grammar of pairs.
use Rattle.std.proofs.Common.{◌≡◌, ℕ, List, [], ◌∷◌, ◌++◌, Ok, Err, sym, ap, ◌∙◌, inl, inr}
use Rattle.gml_graph.specs.declared.fault.GmlFault.{GmlFault}
use Rattle.gml_graph.specs.declared.fault.GmlKind.{GmlKind}
use Rattle.gml_graph.specs.declared.fault.GmlKind.TheVariants.{Syntax}
use Rattle.gml_graph.specs.declared.token.Lexeme.{Lexeme}
use Rattle.gml_graph.specs.declared.outline.OutlineRow.{OutlineRow}
use Rattle.gml_graph.specs.Steps.{through}
use Rattle.gml_graph.specs.Tokens.{tokens}
use Rattle.gml_graph.specs.Outline.{Shape, accept, last_line, start, outline}
use Rattle.gml_graph.specs.Grammar.{Spells, closed, IsFirstFault}
use Rattle.gml_graph.proofs.GrammarLemmas.{shape, read, spelled_read, read_spells}
use Rattle.gml_graph.proofs.FaultLemmas.{Fails, at_token, at_end, fails, Reason, misplaced, lacks_quote, reason, end_reason, last_kept, reached_begins, accepted_begins, refused_begins, fault_at}
use Rattle.gml_graph.proofs.FirstFaultLemmas.{misplaced_read, lacks_quote_read, early_read}

spells_read : (ts : List Lexeme) (rows : List OutlineRow) → Spells ts rows → (last : ℕ) → read (shape last 0 []) ts ≡ Ok rows
spells_read ts rows s last =
    ap (λ t. read (shape last 0 []) t) (sym s.as_tokens) ∙ spelled_read s.pairs last s.nested ∙ ap (λ r. Ok r) s.as_rows

-- an outline has the rows of pairs that the tokens spell
pub outline_Ok : (text : List ℕ) (rows : List OutlineRow) → outline text ≡ Ok rows → Spells (tokens text) rows
unfolding outline
outline_Ok text rows h = read_spells (last_line text) (tokens text) rows h

-- pairs that the tokens spell have their rows in the outline
pub Spells_outline : (text : List ℕ) (rows : List OutlineRow) → Spells (tokens text) rows → outline text ≡ Ok rows
unfolding outline
Spells_outline text rows s = spells_read (tokens text) rows s (last_line text)

token_fault : (last : ℕ) (ts before : List Lexeme) (reached : Shape) (x : Lexeme) (behind : List Lexeme) (f : GmlFault)
    → through accept (shape last 0 []) before ≡ Ok reached → before ++ x ∷ behind ≡ ts
    → Reason reached.waiting reached x.line x.token f → IsFirstFault ts last f
unfolding accept
token_fault last ts before reached x behind f h t (misplaced g c e) = (
  ap (λ d. d.kind) e,
  inl (record {
    before = before;
    token = x;
    behind = behind;
    at = sym t;
    may = reached_begins last before reached h;
    may_not = refused_begins last before (closed x) reached g h c;
    same_line = ap (λ d. d.line) (sym e);
  }),
)
token_fault last ts before reached x behind f h t (lacks_quote u n c e) = (
  ap (λ d. d.kind) e,
  inr (
    ap (λ d. d.line) e ∙ last_kept last before reached h,
    inl (record {
      before = before;
      token = x;
      behind = behind;
      at = sym t;
      lacks = u;
      may = accepted_begins last before (closed x) reached n h c;
    }),
  ),
)

first_fault : (last : ℕ) (ts : List Lexeme) (f : GmlFault) → read (shape last 0 []) ts ≡ Err f → Fails (shape last 0 []) ts f → IsFirstFault ts last f
unfolding accept
first_fault last ts f e (at_token before reached x behind h t a) =
    token_fault last ts before reached x behind f h t (reason reached.waiting x.token reached x.line f a)
first_fault last ts f e (at_end reached h a) =
    let is = end_reason reached f a in
    let not_whole : (rows : List OutlineRow) → ¬ Spells ts rows = λ rows s.
    let whole = spells_read ts rows s last in
    let no : ⊥ = cc in no in
    (ap (λ d. d.kind) is, inr (ap (λ d. d.line) is ∙ last_kept last ts reached h, inr (record { may = reached_begins last ts reached h; not_whole = not_whole })))

-- without an outline there is a first fault
pub outline_Err : (text : List ℕ) (fault : GmlFault) → outline text ≡ Err fault → IsFirstFault (tokens text) (last_line text) fault
unfolding outline
outline_Err text fault h = first_fault (last_line text) (tokens text) fault h (fails (tokens text) (start text) fault h)

-- and where there is one, there is no outline
same_fault : (ts : List Lexeme) (last line : ℕ) (f : GmlFault) → f.kind ≡ Syntax → f.line ≡ line → read (shape last 0 []) ts ≡ Err (fault_at line) → read (shape last 0 []) ts ≡ Err f
same_fault ts last line f k l h =
    let fault : ℕ → GmlKind → GmlFault = λ n m. record { line = n; kind = m } in
    let same : fault_at line ≡ f = ap (λ n. fault n Syntax) (sym l) ∙ ap (λ m. fault f.line m) (sym k) in
    h ∙ ap (λ d. Err d) same

first_read : (last : ℕ) (ts : List Lexeme) (f : GmlFault) → IsFirstFault ts last f → read (shape last 0 []) ts ≡ Err f
first_read last ts f (k, inl m) =
    same_fault ts last m.token.line f k (sym m.same_line)
    (ap (λ t. read (shape last 0 []) t) m.at ∙ misplaced_read last m.before m.token m.behind m.may m.may_not)
first_read last ts f (k, inr (l, inl q)) =
    same_fault ts last last f k l
    (ap (λ t. read (shape last 0 []) t) q.at ∙ lacks_quote_read last q.before q.token.line q.token.token q.behind q.lacks q.may)
first_read last ts f (k, inr (l, inr e)) = same_fault ts last last f k l (early_read last ts e.may e.not_whole)

pub IsFirstFault_outline : (text : List ℕ) (fault : GmlFault) → IsFirstFault (tokens text) (last_line text) fault → outline text ≡ Err fault
unfolding outline
IsFirstFault_outline text fault h = first_read (last_line text) (tokens text) fault h
