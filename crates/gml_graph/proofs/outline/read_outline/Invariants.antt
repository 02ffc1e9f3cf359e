use Rattle.std.proofs.Common.{◌≡◌, length}
use Rattle.sim_base.specs.Refusals.{◌>>=◌}
use Rattle.gml_graph.specs.Steps.{through}
use Rattle.gml_graph.specs.inside.Left.{left}
use Rattle.gml_graph.specs.Outline.{finish}
use Rattle.gml_graph.specs.inside.Asked.{keep, asked_outline}
use Rattle.gml_graph.proofs.outline.read_outline.Given as goal

abbrev pub invariant-loop-lexeme : goal.invariant-loop-lexeme
invariant-loop-lexeme l = (through keep l.outline (left l.scanner) >>= λ k. finish k.shape) ≡ asked_outline l.text

abbrev pub decreases-loop-lexeme : goal.decreases-loop-lexeme
decreases-loop-lexeme l = length l.scanner.rest.now
