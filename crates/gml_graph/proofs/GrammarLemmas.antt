-- reading the tokens of pairs, and what was read without a fault
use Rattle.std.proofs.Common.{◌≡◌, ℕ, ◌+◌, ◌-◌, ◌≤◌, ◌<◌, Bool, true, false, List, [], ◌∷◌, ◌++◌, Some, None, Result, Ok, refl, sym, ap, ◌∙◌, append_assoc, arith}
use Rattle.std.specs.Prelude.{if◌then◌else◌, nat_le, ◌==◌, ◌≢◌}
use Rattle.std.proofs.lemmas.List.{append-nil}
use Rattle.std.proofs.lemmas.Bool.{leb-false}
use Rattle.std.proofs.lemmas.Bool.Decides.{nat_tests}
use Rattle.gml_graph.specs.declared.fault.GmlFault.{GmlFault}
use Rattle.gml_graph.specs.declared.fault.GmlKind.TheVariants.{Syntax}
use Rattle.gml_graph.specs.declared.number.Decimal.{Decimal}
use Rattle.gml_graph.specs.declared.token.Key.{Key}
use Rattle.gml_graph.specs.declared.token.Quoted.{Quoted}
use Rattle.gml_graph.specs.declared.token.Token.{Token}
use Rattle.gml_graph.specs.declared.token.Token.TheVariants.{Name, Number, Text, Open, Close, Unclosed, Odd}
use Rattle.gml_graph.specs.declared.token.Lexeme.{Lexeme}
use Rattle.gml_graph.specs.declared.outline.Value.{Value}
use Rattle.gml_graph.specs.declared.outline.Value.TheVariants as values
use Rattle.gml_graph.specs.declared.outline.OutlineRow.{OutlineRow}
use Rattle.sim_base.specs.Refusals.{◌>>=◌}
use Rattle.gml_graph.specs.Steps.{through, refused}
use Rattle.gml_graph.specs.Tokens.{lexeme}
use Rattle.gml_graph.specs.Outline.{Shape, with_row, accept, finish}
use Rattle.gml_graph.specs.Grammar.{Pairs, no_pairs, with_number, with_text, with_list, spelled, height, rows_of, Spells}
use Rattle.gml_graph.proofs.EdgeLemmas.{ok_same}
use Rattle.gml_graph.specs.Limits.{greatest_depth}

-- what was read where no key waits
abbrev pub shape : ℕ → ℕ → List OutlineRow → Shape
shape last depth rows = record { last = last; depth = depth; waiting = None; rows = rows }

-- and where one waits
abbrev pub waits : ℕ → ℕ → ℕ → Key → List OutlineRow → Shape
waits last depth line key rows = record { last = last; depth = depth; waiting = Some (record { line = line; key = key }); rows = rows }

abbrev pub read : Shape → List Lexeme → Result (List OutlineRow) GmlFault
read s ts = through accept s ts >>= finish

abbrev row : ℕ → ℕ → Key → Value → OutlineRow
row depth line key value = record { depth = depth; line = line; key = key; value = value }

-- the pairs that were spelled are read
open_step : (last depth line at : ℕ) (key : Key) (rows : List OutlineRow) (rest : List Lexeme) → depth < greatest_depth
    → through accept (shape last depth rows) (lexeme line (Name key) ∷ lexeme at Open ∷ rest)
    ≡ through accept (shape last (depth + 1) (rows ++ row depth line key values.List ∷ [])) rest
unfolding accept
open_step last depth line at key rows rest h =
    let e : nat_le greatest_depth depth ≡ false = grind (arith, nat_tests) in
    rw e refl

pub close_step : (last depth line : ℕ) (rows : List OutlineRow) (rest : List Lexeme)
    → through accept (shape last (depth + 1) rows) (lexeme line Close ∷ rest) ≡ through accept (shape last depth rows) rest
unfolding accept
close_step last depth line rows rest =
    let e : ((depth + 1) == 0) ≡ false = grind (arith, nat_tests) in
    let back : (depth + 1) - 1 ≡ depth = omega arith in
    rw (e, back) refl

pub pairs_read : (ps : Pairs) (last depth : ℕ) (done : List OutlineRow) (rest : List Lexeme) → depth + height ps ≤ greatest_depth
    → through accept (shape last depth done) (spelled ps ++ rest) ≡ through accept (shape last depth (done ++ rows_of depth ps)) rest
unfolding accept
pairs_read no_pairs last depth done rest h = ap (λ r. through accept (shape last depth r) rest) (sym (append-nil done))
pairs_read (with_number line key at number ps) last depth done rest h =
    let new = row depth line key (values.Number number) in
    pairs_read ps last depth (done ++ new ∷ []) rest h
    ∙ ap (λ r. through accept (shape last depth r) rest) (append_assoc done (new ∷ []) (rows_of depth ps))
pairs_read (with_text line key at text ps) last depth done rest h =
    let new = row depth line key (values.Text text) in
    pairs_read ps last depth (done ++ new ∷ []) rest h
    ∙ ap (λ r. through accept (shape last depth r) rest) (append_assoc done (new ∷ []) (rows_of depth ps))
pairs_read (with_list line key at inner end ps) last depth done rest h =
    let new = row depth line key values.List in
    let here : List OutlineRow = done ++ new ∷ [] in
    let all : List OutlineRow = here ++ rows_of (depth + 1) inner in
    ap (λ t. through accept (shape last depth done) (lexeme line (Name key) ∷ lexeme at Open ∷ t)) (append_assoc (spelled inner) (lexeme end Close ∷ spelled ps) rest)
    ∙ open_step last depth line at key done (spelled inner ++ (lexeme end Close ∷ (spelled ps ++ rest))) (omega arith)
    ∙ pairs_read inner last (depth + 1) here (lexeme end Close ∷ (spelled ps ++ rest)) (omega arith)
    ∙ close_step last depth end all (spelled ps ++ rest)
    ∙ pairs_read ps last depth all rest (omega arith)
    ∙ ap (λ r. through accept (shape last depth r) rest) (append_assoc here (rows_of (depth + 1) inner) (rows_of depth ps) ∙ append_assoc done (new ∷ []) (rows_of (depth + 1) inner ++ rows_of depth ps))

pub spelled_read : (ps : Pairs) (last : ℕ) → height ps ≤ greatest_depth → read (shape last 0 []) (spelled ps) ≡ Ok (rows_of 0 ps)
spelled_read ps last h =
    ap (λ t. read (shape last 0 []) t) (sym (append-nil (spelled ps)))
    ∙ ap (λ r. r >>= finish) (pairs_read ps last 0 [] [] (omega arith))

-- the ends of the lists that are open, each with the pairs behind it
data Ends : Type 0 where
  no_ends : Ends
  with_end : (end : ℕ) (behind : Pairs) (outer : Ends) → Ends

abbrev count : Ends → ℕ
count no_ends = 0
count (with_end end behind outer) = count outer + 1

abbrev spelled_ends : Ends → List Lexeme
spelled_ends no_ends = []
spelled_ends (with_end end behind outer) = lexeme end Close ∷ (spelled behind ++ spelled_ends outer)

abbrev rows_behind : Ends → List OutlineRow
rows_behind no_ends = []
rows_behind (with_end end behind outer) = rows_of (count outer) behind ++ rows_behind outer

abbrev Fit : Ends → Type 0
Fit no_ends = Unit {0}
Fit (with_end end behind outer) = (count outer + height behind ≤ greatest_depth) × Fit outer

-- what the tokens spell where so many lists are open and these rows were read
record IsRead (depth : ℕ) (done : List OutlineRow) (ts : List Lexeme) (out : List OutlineRow) : Type 0 where
  pairs : Pairs
  ends : Ends
  as_many : count ends ≡ depth
  as_tokens : spelled pairs ++ spelled_ends ends ≡ ts
  nested : depth + height pairs ≤ greatest_depth
  outer_nested : Fit ends
  as_rows : done ++ (rows_of depth pairs ++ rows_behind ends) ≡ out

abbrev Reads : ℕ → List Lexeme → Type 0
Reads last ts = (depth : ℕ) (done out : List OutlineRow) → depth ≤ greatest_depth → read (shape last depth done) ts ≡ Ok out → IsRead depth done ts out

abbrev ReadsBehind : ℕ → List Lexeme → Type 0
ReadsBehind last ts = (line : ℕ) (key : Key) (depth : ℕ) (done out : List OutlineRow) → depth ≤ greatest_depth
    → read (waits last depth line key done) ts ≡ Ok out → IsRead depth done (lexeme line (Name key) ∷ ts) out

number_named : (n k : ℕ) → (n == k) ≡ true → n ≡ k
number_named n k h = grind (arith, nat_tests)

not_named : (n k : ℕ) → (n == k) ≡ false → n ≢ k
not_named n k h = grind (arith, nat_tests)

-- at the end of the tokens
end_cases : (last depth : ℕ) (done out : List OutlineRow) (b : Bool) → b ≡ (depth == 0) → depth ≤ greatest_depth
    → (if b then Ok done else refused {A = List OutlineRow} Syntax last) ≡ Ok out → IsRead depth done [] out
end_cases last depth done out true e deep h = record {
  pairs = no_pairs;
  ends = no_ends;
  as_many = sym (number_named depth 0 (sym e));
  as_tokens = refl;
  nested = omega arith;
  outer_nested = tt;
  as_rows = append-nil done ∙ ok_same done out h;
}
end_cases last depth done out false e deep h = absurd (let no : ⊥ = cc in no)

-- behind the end of a list
closed_read : (line depth inner : ℕ) (done : List OutlineRow) (ts : List Lexeme) (out : List OutlineRow) → inner + 1 ≡ depth → depth ≤ greatest_depth
    → IsRead inner done ts out → IsRead depth done (lexeme line Close ∷ ts) out
closed_read line depth inner done ts out e deep r = record {
  pairs = no_pairs;
  ends = with_end line r.pairs r.ends;
  as_many = omega (arith, r.as_many);
  as_tokens = ap (λ t. lexeme line Close ∷ t) r.as_tokens;
  nested = omega arith;
  outer_nested = (omega (arith, r.as_many, r.nested), r.outer_nested);
  as_rows = ap (λ n. done ++ (rows_of n r.pairs ++ rows_behind r.ends)) r.as_many ∙ r.as_rows;
}

close_cases : (last line depth : ℕ) (done : List OutlineRow) (ts : List Lexeme) (out : List OutlineRow) (b : Bool) → b ≡ (depth == 0) → depth ≤ greatest_depth → Reads last ts
    → (((if b then refused {A = Shape} Syntax line else Ok (shape last (depth - 1) done)) >>= (λ next. through accept next ts)) >>= finish) ≡ Ok out
    → IsRead depth done (lexeme line Close ∷ ts) out
close_cases last line depth done ts out true e deep reads h = absurd (let no : ⊥ = cc in no)
close_cases last line depth done ts out false e deep reads h =
    let some = not_named depth 0 (sym e) in
    closed_read line depth (depth - 1) done ts out (omega arith) deep (reads (depth - 1) done out (omega arith) h)

-- a token where a key or the end of a list may stand
key_read : (last line : ℕ) (token : Token) (ts : List Lexeme) → Reads last ts → ReadsBehind last ts → Reads last (lexeme line token ∷ ts)
unfolding accept
key_read last line (Name key) ts reads behind depth done out deep h = behind line key depth done out deep h
key_read last line Close ts reads behind depth done out deep h = close_cases last line depth done ts out (depth == 0) refl deep reads h
key_read last line (Number number) ts reads behind depth done out deep h = absurd (let no : ⊥ = cc in no)
key_read last line (Text text) ts reads behind depth done out deep h = absurd (let no : ⊥ = cc in no)
key_read last line Open ts reads behind depth done out deep h = absurd (let no : ⊥ = cc in no)
key_read last line Unclosed ts reads behind depth done out deep h = absurd (let no : ⊥ = cc in no)
key_read last line Odd ts reads behind depth done out deep h = absurd (let no : ⊥ = cc in no)

-- a pair more in front
number_first : (line : ℕ) (key : Key) (at : ℕ) (number : Decimal) (depth : ℕ) (done : List OutlineRow) (ts : List Lexeme) (out : List OutlineRow)
    → IsRead depth (done ++ row depth line key (values.Number number) ∷ []) ts out
    → IsRead depth done (lexeme line (Name key) ∷ lexeme at (Number number) ∷ ts) out
number_first line key at number depth done ts out r = record {
  pairs = with_number line key at number r.pairs;
  ends = r.ends;
  as_many = r.as_many;
  as_tokens = ap (λ t. lexeme line (Name key) ∷ lexeme at (Number number) ∷ t) r.as_tokens;
  nested = r.nested;
  outer_nested = r.outer_nested;
  as_rows = sym (append_assoc done (row depth line key (values.Number number) ∷ []) (rows_of depth r.pairs ++ rows_behind r.ends)) ∙ r.as_rows;
}

text_first : (line : ℕ) (key : Key) (at : ℕ) (text : Quoted) (depth : ℕ) (done : List OutlineRow) (ts : List Lexeme) (out : List OutlineRow)
    → IsRead depth (done ++ row depth line key (values.Text text) ∷ []) ts out
    → IsRead depth done (lexeme line (Name key) ∷ lexeme at (Text text) ∷ ts) out
text_first line key at text depth done ts out r = record {
  pairs = with_text line key at text r.pairs;
  ends = r.ends;
  as_many = r.as_many;
  as_tokens = ap (λ t. lexeme line (Name key) ∷ lexeme at (Text text) ∷ t) r.as_tokens;
  nested = r.nested;
  outer_nested = r.outer_nested;
  as_rows = sym (append_assoc done (row depth line key (values.Text text) ∷ []) (rows_of depth r.pairs ++ rows_behind r.ends)) ∙ r.as_rows;
}

-- a list in front, whose end comes first
list_first : (line : ℕ) (key : Key) (at depth : ℕ) (done : List OutlineRow) (ts : List Lexeme) (out : List OutlineRow) (inner : Pairs) (ends : Ends)
    → count ends ≡ depth + 1
    → spelled inner ++ spelled_ends ends ≡ ts
    → (depth + 1) + height inner ≤ greatest_depth
    → Fit ends
    → (done ++ row depth line key values.List ∷ []) ++ (rows_of (depth + 1) inner ++ rows_behind ends) ≡ out
    → IsRead depth done (lexeme line (Name key) ∷ lexeme at Open ∷ ts) out
list_first line key at depth done ts out inner no_ends c t n f r = absurd (omega arith)
list_first line key at depth done ts out inner (with_end end behind outer) c t n f r =
    let new = row depth line key values.List in
    let as_many : count outer ≡ depth = omega arith in
    let within : List OutlineRow = rows_of (depth + 1) inner in
    let after : List OutlineRow = rows_of depth behind in
    record {
      pairs = with_list line key at inner end behind;
      ends = outer;
      as_many = as_many;
      as_tokens = ap (λ u. lexeme line (Name key) ∷ lexeme at Open ∷ u) (append_assoc (spelled inner) (lexeme end Close ∷ spelled behind) (spelled_ends outer) ∙ t);
      nested = omega (arith, f.0);
      outer_nested = f.1;
      as_rows =
          ap (λ u. done ++ (new ∷ u)) (append_assoc within after (rows_behind outer))
          ∙ sym (append_assoc done (new ∷ []) (within ++ (after ++ rows_behind outer)))
          ∙ ap (λ m. (done ++ new ∷ []) ++ (within ++ (rows_of m behind ++ rows_behind outer))) (sym as_many)
          ∙ r;
    }

open_cases : (last line : ℕ) (key : Key) (at depth : ℕ) (done : List OutlineRow) (ts : List Lexeme) (out : List OutlineRow) (b : Bool) → b ≡ nat_le greatest_depth depth → Reads last ts
    → ((((if b then refused {A = Value} Syntax at else Ok values.List) >>= (λ value. Ok (with_row (waits last depth line key done) (record { line = line; key = key }) value))) >>= (λ next. through accept next ts)) >>= finish) ≡ Ok out
    → IsRead depth done (lexeme line (Name key) ∷ lexeme at Open ∷ ts) out
open_cases last line key at depth done ts out true e reads h = absurd (let no : ⊥ = cc in no)
open_cases last line key at depth done ts out false e reads h =
    let lt : depth < greatest_depth = leb-false greatest_depth depth (sym e) in
    let r = reads (depth + 1) (done ++ row depth line key values.List ∷ []) out (omega arith) h in
    list_first line key at depth done ts out r.pairs r.ends r.as_many r.as_tokens r.nested r.outer_nested r.as_rows

-- a token behind a key
value_read : (last at : ℕ) (token : Token) (ts : List Lexeme) → Reads last ts → ReadsBehind last (lexeme at token ∷ ts)
unfolding accept
value_read last at (Number number) ts reads line key depth done out deep h =
    number_first line key at number depth done ts out (reads depth (done ++ row depth line key (values.Number number) ∷ []) out deep h)
value_read last at (Text text) ts reads line key depth done out deep h =
    text_first line key at text depth done ts out (reads depth (done ++ row depth line key (values.Text text) ∷ []) out deep h)
value_read last at Open ts reads line key depth done out deep h = open_cases last line key at depth done ts out (nat_le greatest_depth depth) refl reads h
value_read last at (Name k) ts reads line key depth done out deep h = absurd (let no : ⊥ = cc in no)
value_read last at Close ts reads line key depth done out deep h = absurd (let no : ⊥ = cc in no)
value_read last at Unclosed ts reads line key depth done out deep h = absurd (let no : ⊥ = cc in no)
value_read last at Odd ts reads line key depth done out deep h = absurd (let no : ⊥ = cc in no)

all_read : (last : ℕ) (ts : List Lexeme) → Reads last ts × ReadsBehind last ts
all_read last [] = (
  (λ depth done out deep h. end_cases last depth done out (depth == 0) refl deep h),
  (λ line key depth done out deep h. absurd (let no : ⊥ = cc in no)),
)
all_read last (x ∷ ts) =
    let rest = all_read last ts in
    (key_read last x.line x.token ts rest.0 rest.1, value_read last x.line x.token ts rest.0)

whole : (ts : List Lexeme) (out : List OutlineRow) (pairs : Pairs) (ends : Ends) → count ends ≡ 0 → spelled pairs ++ spelled_ends ends ≡ ts
    → height pairs ≤ greatest_depth → rows_of 0 pairs ++ rows_behind ends ≡ out → Spells ts out
whole ts out pairs no_ends c t n r = record {
  pairs = pairs;
  as_tokens = sym (append-nil (spelled pairs)) ∙ t;
  nested = n;
  as_rows = sym (append-nil (rows_of 0 pairs)) ∙ r;
}
whole ts out pairs (with_end end behind outer) c t n r = absurd (omega arith)

pub read_spells : (last : ℕ) (ts : List Lexeme) (out : List OutlineRow) → read (shape last 0 []) ts ≡ Ok out → Spells ts out
read_spells last ts out h =
    let r = (all_read last ts).0 0 [] out (omega arith) h in
    whole ts out r.pairs r.ends r.as_many r.as_tokens (omega (arith, r.nested)) r.as_rows
