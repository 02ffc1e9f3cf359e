-- How the rows of a table are kept.
use Rattle.std.specs.Prelude.{◌<◌, List, length, map, All, Option, None, slice_index_or}
use Rattle.net_routes.specs.declared.cost.Cost.{Cost}
use Rattle.net_routes.specs.declared.kept_row.KeptRow.{KeptRow}
use Rattle.net_routes.specs.declared.kept_row.KeptRow.TheVariants.{Numbers, Costs}

-- the row that is kept so, where these costs have numbers
abbrev pub row_in : List (Option Cost) → KeptRow → List (Option Cost)
row_in costs (Numbers numbers) = map (λ n. slice_index_or costs n None) numbers.items
row_in costs (Costs row) = row

-- each of its numbers is that of a cost
abbrev pub HasCosts : List (Option Cost) → KeptRow → Type 0
HasCosts costs (Numbers numbers) = All (λ n. n < length costs) numbers.items
HasCosts costs (Costs row) = Unit {0}

-- it is kept by numbers
abbrev pub HasNumbers : KeptRow → Type 0
HasNumbers (Numbers numbers) = Unit {0}
HasNumbers (Costs row) = ⊥
