-- Where the pages of an image stand, by their numbers.
use Rattle.std.specs.Prelude.{ℕ, ◌+◌, List, [], ◌∷◌, map, if◌then◌else◌, ◌==◌, Option, Some, None}
use Rattle.std.specs.Option.{option_map}
use Rattle.elf_load.specs.declared.page.Page.{Page}

abbrev pub page_numbers : List Page → List ℕ
page_numbers pages = map (λ p. p.number) pages

-- the place of the first page with a number
abbrev pub place_of : List ℕ → ℕ → Option ℕ
place_of [] n = None
place_of (m ∷ ms) n = if m == n then Some 0 else option_map (λ i. i + 1) (place_of ms n)
