-- the files that a map keeps, by their names
use Rattle.std.specs.Prelude.{ℕ, option_map, String, Vec}
use Rattle.std.specs.BTreeMap.{BTreeMap, get_by_text}
use Rattle.run_outside.specs.Files.{Held}

abbrev pub files_of : {Y Z : Type 0} → BTreeMap (String Y) (Vec ℕ Z) → Held
files_of m name = option_map (λ v. v.items) (get_by_text m name)
