use Rattle.std.proofs.Common.{sym, arith}
use Rattle.yaml_merge.specs.Merge.{merged}
use Rattle.yaml_merge.proofs.HeldLaws.{found}
use Rattle.yaml_merge.proofs.merging.merge.Goals as goal

pub returns : goal.returns
returns c = λ said holds plain shallow.
    c.merge_value.ensures (merged said) (found 65 c.args.tree.now.nodes c.args.tree.now.root _ said (sym c.root.ensures) (record { held = holds; plain = plain; shallow = omega (arith, shallow) })).0
