-- The edges of each graph that is read, or that a self-load has, are such as graphs may have.
use Rattle.std.proofs.Common.{◌≡◌, ℕ, ◌≤◌, List, [], Bool, Result, Ok, Err, refl, ap, subst, arith}
use Rattle.std.proofs.lemmas.List.Elements.{All-nil, All-cons}
use Rattle.run_outside.specs.Files.{Held}
use Rattle.sim_base.specs.Limits.{most_ring_hosts}
use Rattle.sim_base.proofs.RefusalLemmas.{bind_ok_by}
use Rattle.gml_graph.specs.Edges.{IsEdge, AreEdges}
use Rattle.gml_graph.specs.Gml.{utf8_at, graph}
use Rattle.gml_graph.specs.Graph.{graph_rows, is_directed, nodes_of, edges_of, graph_of}
use Rattle.gml_graph.specs.Outline.{outline}
use Rattle.gml_graph.specs.declared.fault.GmlFault.{GmlFault}
use Rattle.gml_graph.specs.declared.graph.Edge.{Edge}
use Rattle.gml_graph.specs.declared.graph.Graph.{Graph}
use Rattle.gml_graph.specs.declared.outline.OutlineRow.{OutlineRow}
use Rattle.gml_graph.proofs.EdgeLemmas.{edges_fit}
use Rattle.net_routes.specs.Walk.{AreHops, hops}
use Rattle.net_routes.proofs.HopLemmas.{hops_sound}
use Rattle.shd_config.specs.declared.config.GraphSource.{GraphSource}
use Rattle.shd_config.specs.declared.config.GraphSource.TheVariants.{OneGbitSwitch, Inline, File}
use Rattle.run_plan.specs.Network.{one_gbit_switch, or_graph_fault, network}
use Rattle.run_plan.specs.SelfLoad.{self_load_graph}
use Rattle.run_plan.specs.declared.fault.Fault.{Fault}
use Rattle.run_plan.proofs.SelfLoadLemmas.{are_edges}

-- ---- a graph that is read

abbrev edges_in : {E : Type 0} → List Edge → Result Graph E → List Edge
edges_in other (Ok g) = g.edges
edges_in other (Err fault) = other

rows_edges : (rows : List OutlineRow) (g : Graph) → graph_of rows ≡ Ok g → AreEdges g.edges
unfolding graph_of
rows_edges rows g e =
    bind_ok_by (graph_rows rows) _ g (AreEdges g.edges) e (λ inner e0 r0.
    bind_ok_by (is_directed inner) _ g (AreEdges g.edges) r0 (λ directed e1 r1.
    bind_ok_by (nodes_of inner) _ g (AreEdges g.edges) r1 (λ nodes e2 r2.
    bind_ok_by (edges_of nodes inner) _ g (AreEdges g.edges) r2 (λ edges e3 r3.
    subst AreEdges (ap (λ (r : Result Graph GmlFault). edges_in edges r) r3) (edges_fit nodes inner edges e3)))))

text_edges : (text : List ℕ) (g : Graph) → graph text ≡ Ok g → AreEdges g.edges
unfolding graph
text_edges text g e =
    bind_ok_by (utf8_at text) _ g (AreEdges g.edges) e (λ valid e0 r0.
    bind_ok_by (outline text) _ g (AreEdges g.edges) r0 (λ rows e1 r1.
    rows_edges rows g r1))

read_is : (file : List ℕ) (inline : Bool) (read : Result Graph GmlFault) (g : Graph) → or_graph_fault file inline read ≡ Ok g → read ≡ Ok g
read_is file inline (Ok h) g e = cc
read_is file inline (Err f) g e = cc

-- ---- the network of a configuration

switch_edges : AreEdges one_gbit_switch.edges
switch_edges = record {
  few = omega arith;
  each = All-cons IsEdge _ [] (record { some = omega arith; within = omega arith; part = omega arith }) (All-nil IsEdge);
}

network_edges : (held : Held) (name : List ℕ) (source : GraphSource) (g : Graph) → (network held name source).answers (Ok g) → AreEdges g.edges
network_edges held name OneGbitSwitch g e = subst AreEdges (ap (λ (r : Result Graph Fault). edges_in [] r) e) switch_edges
network_edges held name (Inline text) g e = text_edges text g (read_is name _ (graph text) g e)
network_edges held name (File file) g (text, h, e) = text_edges text g (read_is file _ (graph text) g e)

-- what the routes of a network need
pub network_hops : (held : Held) (name : List ℕ) (source : GraphSource) (g : Graph) → (network held name source).answers (Ok g) → AreHops (hops g)
network_hops held name source g h = hops_sound g.directed g.edges (network_edges held name source g h)

-- ---- a self-load

pub self_load_hops : (hosts : ℕ) → hosts ≤ most_ring_hosts → AreHops (hops (self_load_graph hosts))
unfolding self_load_graph
self_load_hops hosts few = hops_sound (self_load_graph hosts).directed (self_load_graph hosts).edges (are_edges hosts (self_load_graph hosts).edges refl few)
