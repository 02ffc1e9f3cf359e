-- Pieces that are put in order, and what stands where when some of them were put.
use Rattle.std.specs.Prelude.{◌≡◌, List, [], ◌∷◌, ◌⊎◌, Option, option_map}
use Rattle.run_outside.specs.Sink.{Content, add, AddsFront}
use Rattle.run_files.specs.Files.{Put}

-- the content after all of the pieces
abbrev pub with_pieces : List Put → Content → Content
with_pieces [] c = c
with_pieces (put ∷ puts) c = with_pieces puts (add put.0 put.1 c)

-- some of the pieces were put, the last one perhaps in part
abbrev pub PutsFront : List Put → Option Content → Option Content → Type 0
PutsFront [] old new = new ≡ old
PutsFront (put ∷ puts) old new = AddsFront put.0 put.1 old new ⊎ PutsFront puts (option_map (add put.0 put.1) old) new

-- some pieces were put and the others are left: put too, they would leave what all of them leave
abbrev pub ArePutOrLeft : List Put → List Put → Option Content → Option Content → Type 0
ArePutOrLeft all left old new = (puts : List Put) × (new ≡ option_map (with_pieces puts) old) × (option_map (with_pieces left) new ≡ option_map (with_pieces all) old)
