use Rattle.std.proofs.Common.{◌≡◌, ◌≤◌, length}
use Rattle.gml_graph.specs.inside.Left.{left}
use Rattle.gml_graph.proofs.scanner.Scanner.next_lexeme.Given as goal

abbrev pub invariant-loop : goal.invariant-loop
invariant-loop l = (left l.self ≡ left l.fn.self) × (length l.self.rest.now ≤ length l.fn.self.rest.now)

abbrev pub decreases-loop : goal.decreases-loop
decreases-loop l = length l.self.rest.now
