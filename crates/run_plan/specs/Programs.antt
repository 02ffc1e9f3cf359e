-- The programs: each file once, in the order of the first mentions of their paths.
use Rattle.std.specs.Prelude.{ℕ, List, [], ◌∷◌, ◌++◌, Ok, Bool, if◌then◌else◌, map, flat_map, fold, position, unwrap_or}
use Rattle.std.specs.List.{list_any}
use Rattle.std.specs.Str.{bytes_eq}
use Rattle.elf_load.specs.ProgramImage.{ProgramImage}
use Rattle.shd_config.specs.declared.config.HostConfig.{HostConfig}
use Rattle.run_outside.specs.Files.{Held}
use Rattle.run_plan.specs.File.{reads}
use Rattle.run_plan.specs.Reading.{Reading, gives, ◌>>=◌}
use Rattle.run_plan.specs.Program.{program}

-- ---- paths

abbrev pub has_path : List (List ℕ) → List ℕ → Bool
has_path paths path = list_any (bytes_eq path) paths

-- one path more at the end, if it isn't there yet
abbrev pub mentioned : List (List ℕ) → List ℕ → List (List ℕ)
mentioned known path = if has_path known path then known else known ++ path ∷ []

-- the paths, each at its first mention
abbrev pub first_mentions : List (List ℕ) → List (List ℕ)
first_mentions paths = fold mentioned [] paths

-- the paths of a host's processes
abbrev pub paths_of : HostConfig → List (List ℕ)
paths_of host = map (λ p. p.path) host.processes

-- the files of the programs, in document order of first mention
unfoldable pub programs_of : List HostConfig → List (List ℕ)
programs_of hosts = first_mentions (flat_map paths_of hosts)

-- the place of a path among some
abbrev pub place_of : List (List ℕ) → List ℕ → ℕ
place_of paths path = unwrap_or (position (bytes_eq path) paths) 0

-- the images of programs, one file after another
abbrev pub images : Held → List (List ℕ) → Reading (List ProgramImage)
images held [] = gives (Ok [])
images held (path ∷ paths) = do
  first ← reads path (program held path)
  rest ← images held paths
  gives (Ok (first ∷ rest))
