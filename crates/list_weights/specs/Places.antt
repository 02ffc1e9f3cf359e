-- What holds of the places of a list.
use Rattle.std.specs.Prelude.{ℕ, ◌<◌, List, length, slice_index_or}

-- F of each place and the member there
abbrev pub EachAt : {X : Type 0} → (ℕ → X → Type 0) → List X → Type 0
EachAt {X} F xs = (i : ℕ) (d : X) → i < length xs → F i (slice_index_or xs i d)
