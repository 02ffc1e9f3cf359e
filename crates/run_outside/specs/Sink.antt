-- what a sink holds, and what its calls do
use Rattle.std.specs.Prelude.{◌≡◌, ◌⊎◌, ℕ, ◌≤◌, List, [], ◌++◌, length, take, Bool, true, false, ◌||◌, Option, option_map, Result, Ok, Err}
use Rattle.std.specs.Str.{bytes_eq}
use Rattle.run_outside.specs.declared.sink.SinkTarget.{SinkTarget}
use Rattle.run_outside.specs.declared.sink.SinkTarget.TheVariants as target
use Rattle.run_outside.specs.declared.sink.WriteError.{WriteError}
use Rattle.run_outside.specs.Files.{Held, no_files, add_to_file}

-- which directories are there, the bytes of standard output and error, and the files of the
-- directory that was begun
pub record Content : Type 0 where
  pub there : List ℕ → Bool
  pub out : List ℕ
  pub err : List ℕ
  pub files : Held

-- no directory is there, and no byte
abbrev pub nothing : Content
nothing = record { there = λ _. false; out = []; err = []; files = no_files }

-- the directory is there too, and has no files
abbrev pub begun : List ℕ → Content → Content
begun dir c = record c { there = λ other. bytes_eq dir other || c.there other; files = no_files }

-- the target has the piece at its end
abbrev pub add : SinkTarget → List ℕ → Content → Content
add target.Out piece c = record c { out = c.out ++ piece }
add target.Err piece c = record c { err = c.err ++ piece }
add (target.File name) piece c = record c { files = add_to_file name piece c.files }

-- the directory is begun where the answer is that it was made, and nothing changes at every other
abbrev pub Begins : List ℕ → Result Bool WriteError → Option Content → Option Content → Type 0
Begins dir (Ok true) old new = new ≡ option_map (begun dir) old
Begins dir (Ok false) old new = new ≡ old
Begins dir (Err e) old new = new ≡ old

-- nothing changed, or some first bytes of the piece stand at the end of the target
abbrev pub AddsFront : SinkTarget → List ℕ → Option Content → Option Content → Type 0
AddsFront target piece old new = (new ≡ old) ⊎ ((n : ℕ) × (n ≤ length piece) × (new ≡ option_map (add target (take n piece)) old))
