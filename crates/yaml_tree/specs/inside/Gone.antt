-- Nodes that are let go: those before the last one, and then it.
use Rattle.std.specs.Prelude.{List, [], ◌∷◌, ◌++◌, Option, Some, None}
use Rattle.std.specs.declared.snapshot.Snapshot.{Snapshot}
use Rattle.yaml_tree.specs.declared.node.Node.{Node}

abbrev pub gone : Option (Snapshot Node × Snapshot (List Node)) → List Node
gone None = []
gone (Some step) = step.1.value ++ step.0.value ∷ []
