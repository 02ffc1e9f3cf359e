-- What is kept of numbers.
use Rattle.std.specs.Prelude.{ℕ, List, take}
use Rattle.yaml_tree.specs.declared.numbers.Kept.{Kept}
use Rattle.yaml_tree.specs.declared.numbers.Kept.TheVariants.{Few, Many}

abbrev pub numbers_of : Kept → List ℕ
numbers_of (Few count numbers) = take count numbers
numbers_of (Many numbers) = numbers.value.items
