-- files by their names
use Rattle.std.specs.Prelude.{ℕ, List, [], ◌++◌, Option, Some, None, unwrap_or, if◌then◌else◌}
use Rattle.std.specs.Str.{bytes_eq}

-- the bytes of each file by its name, none where it is not there
abbrev pub Held : Type 0
Held = List ℕ → Option (List ℕ)

-- no file is there
abbrev pub no_files : Held
no_files name = None

-- the file is there with these bytes, and the others as before
abbrev pub with_file : List ℕ → List ℕ → Held → Held
with_file name bytes files other = if bytes_eq name other then Some bytes else files other

-- the file has the piece at its end, and is made where it was not there
abbrev pub add_to_file : List ℕ → List ℕ → Held → Held
add_to_file name piece files other = if bytes_eq name other then Some (unwrap_or (files other) [] ++ piece) else files other
