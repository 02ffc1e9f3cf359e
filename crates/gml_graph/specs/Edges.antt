-- What holds of the edges of every graph.
use Rattle.std.specs.Prelude.{ℕ, ◌<◌, ◌≤◌, List, length}
use Rattle.std.specs.List.{All}
use Rattle.sim_base.specs.Units.{hour}
use Rattle.gml_graph.specs.declared.graph.Edge.{Edge}
use Rattle.gml_graph.specs.Limits.{most_edges}

-- the reliability of an edge that loses nothing: of 10^9 packets all arrive
abbrev pub lossless : ℕ
lossless = 1000000000

-- An edge takes 1 ns to 1 h, and at most all of what is sent arrives.
pub record IsEdge (e : Edge) : Type 0 where
  pub some : 0 < e.latency.nanos
  pub within : e.latency.nanos ≤ hour
  pub part : e.reliability ≤ lossless

pub record AreEdges (es : List Edge) : Type 0 where
  pub few : length es ≤ most_edges
  pub each : All IsEdge es
