-- Where an id stands in a list of ids.
use Rattle.std.specs.Prelude.{ℕ, ◌==◌, List, Option, position}

abbrev pub place_of : List ℕ → ℕ → Option ℕ
place_of ids id = position (λ n. n == id) ids
