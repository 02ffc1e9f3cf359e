-- The text of a ring's graph spells its pairs.
use Rattle.std.proofs.Common.{◌≡◌, ℕ, zero, suc, ◌+◌, ◌%◌, ◌<◌, ◌≤◌, Bool, true, false, ◌==◌, if◌then◌else◌, List, [], ◌∷◌, ◌++◌, codes, decimal, refl, ap, ◌∙◌, append_assoc, arith}
use Rattle.std.specs.List.{flat_map, range_with_len}
use Rattle.std.proofs.lemmas.Bool.Decides.{nat_tests}
use Rattle.std.proofs.lemmas.Fmt.{decimal_digit}
use Rattle.gml_graph.specs.declared.token.Key.TheVariants as keys
use Rattle.gml_graph.specs.declared.token.Lexeme.{Lexeme}
use Rattle.gml_graph.specs.declared.token.Token.TheVariants.{Name, Number, Text, Open, Close}
use Rattle.gml_graph.specs.Number.{decimal as read_decimal}
use Rattle.gml_graph.specs.Token.{key_named, word_token, quoted}
use Rattle.gml_graph.specs.Tokens.{is_quote, between, in_text, lexeme, next_line, tokens_from, tokens}
use Rattle.gml_graph.specs.Grammar.{Pairs, spelled}
use Rattle.run_plan.specs.SelfLoad.{next_host}
use Rattle.self_load.specs.GraphText.{node_line, latency_words, edge_line, graph_text}
use Rattle.self_load.proofs.NumberWords.{whole, number_front}
use Rattle.self_load.proofs.GraphPairs.{loss, ring_nodes, ring_edges, ring_pairs}

-- ---- a node

node_tokens : (line i : ℕ) (rest : List ℕ) → i < 10000 → tokens_from (between true) line (node_line i ++ rest)
    ≡ lexeme line (Name keys.Node) ∷ lexeme line Open ∷ lexeme line (Name keys.Id) ∷ lexeme line (Number (whole i)) ∷ lexeme line Close ∷ tokens_from (between true) (line + 1) rest
unfolding word_token key_named
node_tokens line i rest h =
    let front : List Lexeme → List Lexeme = λ t. lexeme line (Name keys.Node) ∷ lexeme line Open ∷ lexeme line (Name keys.Id) ∷ t in
    ap (λ (bs : List ℕ). front (tokens_from (between false) line bs)) (append_assoc (decimal i) (codes " ]\n") rest)
    ∙ ap front (number_front i line (93 ∷ 10 ∷ rest) h)

-- ---- an edge, from its end

abbrev loss_part : Bool → List ℕ
loss_part all = (if all then codes "1.0" else codes "0.0") ++ codes " ]\n"

abbrev loss_tokens : ℕ → Bool → List Lexeme → List Lexeme
loss_tokens line all more = lexeme line (Number (loss all)) ∷ lexeme line Close ∷ more

loss_front : (line : ℕ) (all : Bool) (rest : List ℕ)
    → tokens_from (between false) line (loss_part all ++ rest) ≡ loss_tokens line all (tokens_from (between true) (line + 1) rest)
unfolding word_token key_named read_decimal
loss_front line true rest = refl
loss_front line false rest = refl

no_quote : (k : ℕ) → is_quote (48 + k) ≡ false
no_quote k = grind (arith, nat_tests)

digit_stays : (k line : ℕ) → next_line line (48 + k) ≡ line
digit_stays k line = grind (arith, nat_tests)

-- a digit and the unit, up to the second quote
text_front : (k line : ℕ) (rest : List ℕ) → k < 10
    → tokens_from (in_text line []) line ((decimal k ++ codes " ms") ++ (34 ∷ rest)) ≡ lexeme line (Text (quoted (decimal k ++ codes " ms"))) ∷ tokens_from (between false) line rest
text_front k line rest h = rw (decimal_digit k h, no_quote k, digit_stays k line) refl

abbrev behind_text : Bool → List ℕ
behind_text all = codes "\" packet_loss " ++ loss_part all

abbrev text_tokens : ℕ → ℕ → List Lexeme → List Lexeme
text_tokens line i more = lexeme line (Text (quoted (latency_words i))) ∷ lexeme line (Name keys.PacketLoss) ∷ loss_tokens line (i % 4 == 3) more

latency_front : (line i : ℕ) (rest : List ℕ) → tokens_from (in_text line []) line ((latency_words i ++ behind_text (i % 4 == 3)) ++ rest)
    ≡ text_tokens line i (tokens_from (between true) (line + 1) rest)
unfolding word_token key_named
latency_front line i rest =
    let all = i % 4 == 3 in
    let front : List Lexeme → List Lexeme = λ t. lexeme line (Text (quoted (latency_words i))) ∷ lexeme line (Name keys.PacketLoss) ∷ t in
    ap (tokens_from (in_text line []) line) (append_assoc (latency_words i) (behind_text all) rest)
    ∙ text_front (1 + i % 7) line (codes " packet_loss " ++ (loss_part all ++ rest)) (omega arith)
    ∙ ap front (loss_front line all rest)

abbrev behind_target : ℕ → List ℕ
behind_target i = codes " latency \"" ++ (latency_words i ++ behind_text (i % 4 == 3))

abbrev target_tokens : ℕ → ℕ → ℕ → List Lexeme → List Lexeme
target_tokens n line i more = lexeme line (Number (whole (next_host n i))) ∷ lexeme line (Name keys.Latency) ∷ text_tokens line i more

target_front : (n line i : ℕ) (rest : List ℕ) → next_host n i < 10000 → tokens_from (between false) line ((decimal (next_host n i) ++ behind_target i) ++ rest)
    ≡ target_tokens n line i (tokens_from (between true) (line + 1) rest)
unfolding word_token key_named
target_front n line i rest h =
    let front : List Lexeme → List Lexeme = λ t. lexeme line (Number (whole (next_host n i))) ∷ lexeme line (Name keys.Latency) ∷ t in
    ap (tokens_from (between false) line) (append_assoc (decimal (next_host n i)) (behind_target i) rest)
    ∙ number_front (next_host n i) line (codes "latency \"" ++ ((latency_words i ++ behind_text (i % 4 == 3)) ++ rest)) h
    ∙ ap front (latency_front line i rest)

abbrev behind_source : ℕ → ℕ → List ℕ
behind_source n i = codes " target " ++ (decimal (next_host n i) ++ behind_target i)

abbrev edge_tokens : ℕ → ℕ → ℕ → List Lexeme → List Lexeme
edge_tokens n line i more =
    lexeme line (Name keys.Edge) ∷ lexeme line Open ∷ lexeme line (Name keys.Source) ∷ lexeme line (Number (whole i)) ∷ lexeme line (Name keys.Target) ∷ target_tokens n line i more

edge_front : (n line i : ℕ) (rest : List ℕ) → i < 10000 → next_host n i < 10000
    → tokens_from (between true) line (edge_line n i ++ rest) ≡ edge_tokens n line i (tokens_from (between true) (line + 1) rest)
unfolding word_token key_named
edge_front n line i rest h k =
    let start : List Lexeme → List Lexeme = λ t. lexeme line (Name keys.Edge) ∷ lexeme line Open ∷ lexeme line (Name keys.Source) ∷ t in
    let front : List Lexeme → List Lexeme = λ t. start (lexeme line (Number (whole i)) ∷ lexeme line (Name keys.Target) ∷ t) in
    ap (λ (bs : List ℕ). start (tokens_from (between false) line bs)) (append_assoc (decimal i) (behind_source n i) rest)
    ∙ ap start (number_front i line (codes "target " ++ ((decimal (next_host n i) ++ behind_target i) ++ rest)) h)
    ∙ ap front (target_front n line i rest k)

-- ---- all of them

nodes_front : (k line i end : ℕ) (rest : List ℕ) (behind : Pairs) (more : List Lexeme) → i + k ≤ 4096 → line + k ≡ end
    → tokens_from (between true) end rest ≡ spelled behind ++ more
    → tokens_from (between true) line (flat_map node_line (range_with_len i k) ++ rest) ≡ spelled (ring_nodes line i k behind) ++ more
nodes_front zero line i end rest behind more few e h = ap (λ (l : ℕ). tokens_from (between true) l rest) (let same : line ≡ end = omega (arith, e) in same) ∙ h
nodes_front (suc k) line i end rest behind more few e h =
    let tail : List ℕ = flat_map node_line (range_with_len (i + 1) k) in
    let front : List Lexeme → List Lexeme = λ t. lexeme line (Name keys.Node) ∷ lexeme line Open ∷ lexeme line (Name keys.Id) ∷ lexeme line (Number (whole i)) ∷ lexeme line Close ∷ t in
    ap (tokens_from (between true) line) (append_assoc (node_line i) tail rest)
    ∙ node_tokens line i (tail ++ rest) (omega arith)
    ∙ ap front (nodes_front k (line + 1) (i + 1) end rest behind more (omega arith) (omega (arith, e)) h)

pub next_small : (n i : ℕ) → 0 < n → n ≤ 4096 → next_host n i < 10000
next_small n i some few = omega arith

edges_front : (n k line i end : ℕ) (rest : List ℕ) (more : List Lexeme) → 0 < n → n ≤ 4096 → i + k ≤ 4096 → line + k ≡ end
    → tokens_from (between true) end rest ≡ more
    → tokens_from (between true) line (flat_map (edge_line n) (range_with_len i k) ++ rest) ≡ spelled (ring_edges n line i k) ++ more
edges_front n zero line i end rest more some most few e h = ap (λ (l : ℕ). tokens_from (between true) l rest) (let same : line ≡ end = omega (arith, e) in same) ∙ h
edges_front n (suc k) line i end rest more some most few e h =
    let tail : List ℕ = flat_map (edge_line n) (range_with_len (i + 1) k) in
    ap (tokens_from (between true) line) (append_assoc (edge_line n i) tail rest)
    ∙ edge_front n line i (tail ++ rest) (omega arith) (next_small n i some most)
    ∙ ap (edge_tokens n line i) (edges_front n k (line + 1) (i + 1) end rest more some most (omega arith) (omega (arith, e)) h)

pub ring_tokens : (n : ℕ) → 0 < n → n ≤ 4096 → tokens (graph_text n) ≡ spelled (ring_pairs n)
unfolding graph_text word_token key_named read_decimal
ring_tokens n some few =
    let front : List Lexeme → List Lexeme = λ t. lexeme 1 (Name keys.Graph) ∷ lexeme 1 Open ∷ lexeme 2 (Name keys.Directed) ∷ lexeme 2 (Number (whole 1)) ∷ t in
    let last : List Lexeme = lexeme (3 + n + n) Close ∷ [] in
    ap front (nodes_front n 3 0 (3 + n) (flat_map (edge_line n) (range_with_len 0 n) ++ codes "]\n") (ring_edges n (3 + n) 0 n) last (omega arith) refl
    (edges_front n n (3 + n) 0 (3 + n + n) (codes "]\n") last some few (omega arith) refl refl))
