-- The entries of a trail: those before the last one, and then it.
use Rattle.std.specs.Prelude.{List, [], ◌∷◌, ◌++◌, Option, Some, None}
use Rattle.std.specs.declared.snapshot.Snapshot.{Snapshot}

module _ {T : Type 0} where
  abbrev pub walked : Option (T × Snapshot (List T)) → List T
  walked None = []
  walked (Some step) = step.1.value ++ step.0 ∷ []
