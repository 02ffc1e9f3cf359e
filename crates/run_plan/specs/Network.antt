-- The graph of the network.
use Rattle.std.specs.Prelude.{ℕ, List, [], ◌∷◌, Some, Bool, true, false, Result, Ok, Err}
use Rattle.run_outside.specs.Files.{Held}
use Rattle.sim_base.specs.Units.{millisecond}
use Rattle.gml_graph.specs.Edges.{lossless}
use Rattle.gml_graph.specs.Gml.{graph}
use Rattle.gml_graph.specs.declared.graph.Graph.{Graph}
use Rattle.gml_graph.specs.declared.fault.GmlFault.{GmlFault}
use Rattle.shd_config.specs.declared.config.GraphSource.{GraphSource}
use Rattle.shd_config.specs.declared.config.GraphSource.TheVariants.{OneGbitSwitch, Inline, File}
use Rattle.run_plan.specs.File.{read}
use Rattle.run_plan.specs.Reading.{Reading, gives, ◌>>=◌}
use Rattle.run_plan.specs.declared.fault.Fault.{Fault}
use Rattle.run_plan.specs.declared.fault.Fault.TheVariants as fault

-- the bits a second of a bandwidth of 1 Gbit
abbrev pub gigabit : ℕ
gigabit = 1000000000

-- one node with 1 Gbit both ways, and a loop of 1 ms without loss
abbrev pub one_gbit_switch : Graph
one_gbit_switch = record {
  directed = false;
  nodes = record { id = 0; bandwidth_up = Some gigabit; bandwidth_down = Some gigabit } ∷ [];
  edges = record { source = 0; target = 0; latency = record { nanos = millisecond }; reliability = lossless } ∷ [];
}

abbrev pub or_graph_fault : List ℕ → Bool → Result Graph GmlFault → Result Graph Fault
or_graph_fault file inline (Ok g) = Ok g
or_graph_fault file inline (Err f) = Err (fault.Graph file inline f)

-- the graph of a text, which stands in a file of its own or inside the configuration
abbrev pub graph_at : List ℕ → Bool → List ℕ → Result Graph Fault
graph_at file inline text = or_graph_fault file inline (graph text)

-- the graph in a file
abbrev pub graph_in : Held → List ℕ → Reading Graph
graph_in held file = do
  text ← read held file
  gives (graph_at file false text)

-- the graph of the configuration in the file of this name
abbrev pub network : Held → List ℕ → GraphSource → Reading Graph
network held name OneGbitSwitch = gives (Ok one_gbit_switch)
network held name (Inline text) = gives (graph_at name true text)
network held name (File file) = graph_in held file
