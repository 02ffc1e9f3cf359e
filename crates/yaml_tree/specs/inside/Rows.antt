-- What is kept of the entries of a mapping that is still open.
use Rattle.std.specs.Prelude.{ℕ, List, [], ◌==◌}
use Rattle.std.specs.Cmp.Lexicographic.{pointwise}
use Rattle.indexmap.specs.IndexMap.{insert_all}
use Rattle.yaml_tree.specs.declared.entries.Child.{Child}
use Rattle.yaml_tree.specs.declared.growing.Rows.{Rows}
use Rattle.yaml_tree.specs.declared.growing.Rows.TheVariants.{Few, Many}

-- each row in turn is put into the entries
abbrev pub entries_of : Rows → List (List ℕ × Child)
entries_of (Few rows) = insert_all (pointwise ◌==◌) [] rows.items
entries_of (Many entries) = entries.value
