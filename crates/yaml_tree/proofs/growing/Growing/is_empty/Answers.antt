use Rattle.std.proofs.Common.{arith, sym, ap, ◌∙◌}
use Rattle.yaml_tree.specs.inside.Rows.{entries_of}
use Rattle.yaml_tree.proofs.GrowingLaws.{empty_as_rows}
use Rattle.yaml_tree.proofs.growing.Growing.is_empty.Goals as goal

pub returns-in-Few : goal.returns-in-Few
returns-in-Few c = empty_as_rows c.in-Few.rows.items c.is_empty.result c.args.self.now (ap entries_of (sym c.in-Few.is) ∙ c.self.view_is) (grind arith)
