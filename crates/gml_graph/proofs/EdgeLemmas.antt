-- what every edge that was read has
use Rattle.std.proofs.Common.{◌≡◌, ℕ, ◌<◌, ◌≤◌, Bool, true, false, List, [], ◌∷◌, ◌++◌, length, Option, Some, None, Result, Ok, Err, refl, sym, subst, arith, length-append}
use Rattle.std.specs.Prelude.{if◌then◌else◌, ◌==◌, nat_le, IfSome, is_some, unwrap_or, ◌-◌, ◌^◌}
use Rattle.std.proofs.lemmas.Bool.{leb-false}
use Rattle.std.proofs.lemmas.Bool.Decides.{nat_tests}
use Rattle.std.proofs.lemmas.List.Elements.{All-push, All-nil}
use Rattle.sim_base.specs.Units.{hour}
use Rattle.sim_base.specs.declared.time.Time.{Time}
use Rattle.gml_graph.specs.declared.fault.GmlFault.{GmlFault}
use Rattle.gml_graph.specs.declared.fault.GmlKind.TheVariants as kinds
use Rattle.gml_graph.specs.declared.outline.Value.TheVariants as values
use Rattle.gml_graph.specs.declared.token.Key.{Key}
use Rattle.gml_graph.specs.declared.token.Key.TheVariants as keys
use Rattle.gml_graph.specs.declared.outline.Value.{Value}
use Rattle.gml_graph.specs.declared.outline.OutlineRow.{OutlineRow}
use Rattle.gml_graph.specs.declared.graph.Node.{Node}
use Rattle.gml_graph.specs.declared.graph.Edge.{Edge}
use Rattle.gml_graph.specs.declared.edge.EdgeDraft.{EdgeDraft}
use Rattle.gml_graph.specs.declared.block.Part.TheVariants as parts
use Rattle.sim_base.specs.Refusals.{◌>>=◌}
use Rattle.gml_graph.specs.Steps.{through, refused}
use Rattle.gml_graph.specs.Edges.{lossless, IsEdge, AreEdges}
use Rattle.gml_graph.specs.Graph.{Block, blocks, once, valued, needed, within, time_of, loss_of, list_at, latency_at, latency_of, known_id, edge_attribute, edge_row, new_edge, finished_edge, edge_of, add_edge, edges_of}
use Rattle.gml_graph.specs.Limits.{most_edges}

pub bind_ok : {A B : Type 0} (x : Result A GmlFault) (f : A → Result B GmlFault) (y : B) → (x >>= f) ≡ Ok y → (a : A) × (x ≡ Ok a) × (f a ≡ Ok y)
bind_ok (Ok a) f y h = (a, refl, h)
bind_ok (Err e) f y h = absurd (let no : ⊥ = cc in no)

pub ok_same : {A : Type 0} (x y : A) → ◌≡◌ {A = Result A GmlFault} (Ok x) (Ok y) → x ≡ y
ok_same x y h = cc

abbrev FitsTime : Time → Type 0
FitsTime t = (0 < t.nanos) × (t.nanos ≤ hour)

abbrev Fits : EdgeDraft → Type 0
Fits d = IfSome d.latency FitsTime

time_step : (t u : Time) (line : ℕ) (z w : Bool) → z ≡ (t.nanos == 0) → w ≡ nat_le t.nanos hour
    → (if z then refused {A = Time} kinds.ZeroLatency line else (if w then Ok t else refused {A = Time} kinds.BadValue line)) ≡ Ok u → FitsTime u
time_step t u line true w ez ew h = absurd (let no : ⊥ = cc in no)
time_step t u line false false ez ew h = absurd (let no : ⊥ = cc in no)
time_step t u line false true ez ew h =
    let P : Time → Type 0 = λ x. FitsTime x in
    subst P (ok_same t u h) (grind (arith, nat_tests), grind (arith, nat_tests))

latency_cases : (o : Option Time) (line : ℕ) (u : Time) → (valued o line >>= λ time. latency_at time line) ≡ Ok u → FitsTime u
latency_cases None line u h = absurd (let no : ⊥ = cc in no)
latency_cases (Some t) line u h = time_step t u line (t.nanos == 0) (nat_le t.nanos hour) refl refl h

as_before : (d e n : EdgeDraft) → ◌≡◌ {A = Result EdgeDraft GmlFault} (Ok n) (Ok e) → Fits n → Fits e
as_before d e n h f = let P : EdgeDraft → Type 0 = λ x. Fits x in subst P (ok_same n e h) f

one : (o : Result (Unit {0}) GmlFault) (d e n : EdgeDraft) → (o >>= λ _. Ok n) ≡ Ok e → Fits n → Fits e
one (Ok u) d e n h f = as_before d e n h f
one (Err x) d e n h f = absurd (let no : ⊥ = cc in no)

two : {A : Type 0} (o : Result (Unit {0}) GmlFault) (k : Result A GmlFault) (g : A → EdgeDraft) (d e : EdgeDraft)
    → (o >>= λ _. k >>= λ a. Ok (g a)) ≡ Ok e → ((a : A) → k ≡ Ok a → Fits (g a)) → Fits e
two (Ok u) (Ok a) g d e h f = as_before d e (g a) h (f a refl)
two (Ok u) (Err x) g d e h f = absurd (let no : ⊥ = cc in no)
two (Err x) k g d e h f = absurd (let no : ⊥ = cc in no)

attribute_fits : (k : Key) (nodes : List Node) (d e : EdgeDraft) (r : OutlineRow) → Fits d → edge_attribute k nodes d r ≡ Ok e → Fits e
attribute_fits keys.Source nodes d e r f h = two (once (is_some d.source) r.line) (known_id nodes r.value r.line) (λ node. record d { source = Some node }) d e h (λ a _. f)
attribute_fits keys.Target nodes d e r f h = two (once (is_some d.target) r.line) (known_id nodes r.value r.line) (λ node. record d { target = Some node }) d e h (λ a _. f)
attribute_fits keys.Latency nodes d e r f h = two (once (is_some d.latency) r.line) (latency_of r.value r.line) (λ latency. record d { latency = Some latency }) d e h (λ t is. latency_cases (time_of r.value) r.line t is)
attribute_fits keys.PacketLoss nodes d e r f h = two (once (is_some d.loss) r.line) (loss_of r.value r.line) (λ loss. record d { loss = Some loss }) d e h (λ a _. f)
attribute_fits keys.Jitter nodes d e r f h = two (once d.jittered r.line) (valued (time_of r.value) r.line) (λ _. record d { jittered = true }) d e h (λ a _. f)
attribute_fits keys.Label nodes d e r f h = one (once d.labelled r.line) d e (record d { labelled = true }) h f
attribute_fits keys.Graph nodes d e r f h = as_before d e d h f
attribute_fits keys.Directed nodes d e r f h = as_before d e d h f
attribute_fits keys.Node nodes d e r f h = as_before d e d h f
attribute_fits keys.Edge nodes d e r f h = as_before d e d h f
attribute_fits keys.Id nodes d e r f h = as_before d e d h f
attribute_fits keys.HostBandwidthUp nodes d e r f h = as_before d e d h f
attribute_fits keys.HostBandwidthDown nodes d e r f h = as_before d e d h f
attribute_fits keys.Other nodes d e r f h = as_before d e d h f

row_cases : (nodes : List Node) (d e : EdgeDraft) (r : OutlineRow) (b : Bool) → Fits d → (if b then edge_attribute r.key nodes d r else Ok d) ≡ Ok e → Fits e
row_cases nodes d e r true f h = attribute_fits r.key nodes d e r f h
row_cases nodes d e r false f h = as_before d e d h f

row_fits : (nodes : List Node) (d e : EdgeDraft) (r : OutlineRow) → Fits d → edge_row nodes d r ≡ Ok e → Fits e
unfolding edge_row
row_fits nodes d e r f h = row_cases nodes d e r (r.depth == 2) f h

rows_fit : (nodes : List Node) (d e : EdgeDraft) (rows : List OutlineRow) → Fits d → through (edge_row nodes) d rows ≡ Ok e → Fits e
rows_fit nodes d e [] f h = as_before d e d h f
rows_fit nodes d e (r ∷ rows) f h =
    let p = bind_ok (edge_row nodes d r) (λ next. through (edge_row nodes) next rows) e h in
    rows_fit nodes p.0 e rows (row_fits nodes d p.0 r f p.1) p.2

finished_cases : (o p : Option ℕ) (t : Option Time) (line r : ℕ) (e : Edge) → IfSome t FitsTime → r ≤ lossless
    → (needed o line >>= λ source. needed p line >>= λ target. needed t line >>= λ latency. Ok (record { source = source; target = target; latency = latency; reliability = r })) ≡ Ok e → IsEdge e
finished_cases None p t line r e f small h = absurd (let no : ⊥ = cc in no)
finished_cases (Some a) None t line r e f small h = absurd (let no : ⊥ = cc in no)
finished_cases (Some a) (Some b) None line r e f small h = absurd (let no : ⊥ = cc in no)
finished_cases (Some a) (Some b) (Some t) line r e f small h =
    let P : Edge → Type 0 = λ x. IsEdge x in
    subst P (ok_same _ e h) (record { some = f.0; within = f.1; part = small })

finished_fits : (line : ℕ) (d : EdgeDraft) (e : Edge) → Fits d → finished_edge line d ≡ Ok e → IsEdge e
unfolding finished_edge
finished_fits line d e f h = finished_cases d.source d.target d.latency line (lossless - unwrap_or d.loss 0) e f (omega arith) h

room_cases : (count line : ℕ) (b : Bool) (A : Type 0) (k : Result A GmlFault) (x : A) → b ≡ nat_le most_edges count → ((if b then refused {A = Unit {0}} kinds.TooMany line else Ok tt) >>= λ (_ : Unit {0}). k) ≡ Ok x → (count < most_edges) × (k ≡ Ok x)
room_cases count line true A k x e h = absurd (let no : ⊥ = cc in no)
room_cases count line false A k x e h = (leb-false most_edges count (sym e), h)

list_cases : (v : Value) (line : ℕ) (A : Type 0) (k : Result A GmlFault) (x : A) → (list_at v line >>= λ _. k) ≡ Ok x → k ≡ Ok x
list_cases (values.Number d) line A k x h = absurd (let no : ⊥ = cc in no)
list_cases (values.Text t) line A k x h = absurd (let no : ⊥ = cc in no)
list_cases values.List line A k x h = h

edge_fits : (nodes : List Node) (count : ℕ) (b : Block) (e : Edge) → edge_of nodes count b ≡ Ok e → IsEdge e × (count < most_edges)
unfolding edge_of
edge_fits nodes count b e h =
    let rest : Result Edge GmlFault = through (edge_row nodes) new_edge b.rows >>= λ d. finished_edge b.line d in
    let q = room_cases count b.line (nat_le most_edges count) Edge rest e refl (list_cases b.value b.line Edge (within most_edges count b.line >>= λ _. rest) e h) in
    let s = bind_ok (through (edge_row nodes) new_edge b.rows) (λ d. finished_edge b.line d) e q.1 in
    (finished_fits b.line s.0 e (rows_fit nodes new_edge s.0 b.rows tt s.1) s.2, q.0)

add_fits : (nodes : List Node) (before after : List Edge) (b : Block) → AreEdges before → add_edge nodes before b ≡ Ok after → AreEdges after
unfolding add_edge
add_fits nodes before after b f h =
    let p = bind_ok (edge_of nodes (length before) b) (λ e. Ok (before ++ e ∷ [])) after h in
    let one = edge_fits nodes (length before) b p.0 p.1 in
    let P : List Edge → Type 0 = λ x. AreEdges x in
    subst P (ok_same (before ++ p.0 ∷ []) after p.2) (record { few = omega (arith, length-append before (p.0 ∷ []), one.1); each = All-push IsEdge before p.0 f.each one.0 })

all_fit : (nodes : List Node) (before after : List Edge) (bs : List Block) → AreEdges before → through (add_edge nodes) before bs ≡ Ok after → AreEdges after
all_fit nodes before after [] f h = let P : List Edge → Type 0 = λ x. AreEdges x in subst P (ok_same before after h) f
all_fit nodes before after (b ∷ bs) f h =
    let p = bind_ok (add_edge nodes before b) (λ next. through (add_edge nodes) next bs) after h in
    all_fit nodes p.0 after bs (add_fits nodes before p.0 b f p.1) p.2

pub edges_fit : (nodes : List Node) (rows : List OutlineRow) (es : List Edge) → edges_of nodes rows ≡ Ok es → AreEdges es
unfolding edges_of
edges_fit nodes rows es h = all_fit nodes [] es (blocks parts.Edge rows) (record { few = omega arith; each = All-nil IsEdge }) h
