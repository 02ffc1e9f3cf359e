-- The rows of a table, when costs get numbers.
use Rattle.std.proofs.Common.{◌≡◌, ℕ, zero, suc, ◌<◌, List, [], ◌∷◌, ◌++◌, length, get_or, slice_get, map, Option, Some, None, refl, ap, ◌∙◌, arith}
use Rattle.std.specs.Prelude.{All}
use Rattle.std.proofs.lemmas.List.{map-append}
use Rattle.std.proofs.lemmas.List.Elements.{All-push}
use Rattle.net_routes.specs.declared.cost.Cost.{Cost}
use Rattle.net_routes.specs.declared.kept_row.KeptRow.{KeptRow}
use Rattle.net_routes.specs.declared.kept_row.KeptRow.TheVariants.{Numbers, Costs}
use Rattle.net_routes.specs.inside.Numbers.{KeepNumbers}
use Rattle.net_routes.specs.inside.KeptRows.{row_in, HasCosts}
use Rattle.net_routes.proofs.NumberLemmas.{get_within, get_is}

there : {A : Type 0} (xs : List A) (n : ℕ) (d : A) → n < length xs → slice_get xs n ≡ Some (get_or xs n d)
there [] n d lt = absurd (omega (arith, lt))
there (x ∷ xs) zero d lt = refl
there (x ∷ xs) (suc n) d lt = there xs n d (omega (arith, lt))

-- a number stays that of its cost
cost_stays : (costs more : List (Option Cost)) (n : ℕ) → KeepNumbers costs more → n < length costs → get_or more n None ≡ get_or costs n None
cost_stays costs more n keep lt = get_is more n (get_or costs n None) None (keep n (get_or costs n None) (there costs n None lt))

number_stays : (costs more : List (Option Cost)) (n : ℕ) → KeepNumbers costs more → n < length costs → n < length more
number_stays costs more n keep lt = get_within more n (get_or costs n None) (keep n (get_or costs n None) (there costs n None lt))

numbers_stay : (costs more : List (Option Cost)) (numbers : List ℕ) → KeepNumbers costs more → All (λ n. n < length costs) numbers → map (λ n. get_or more n None) numbers ≡ map (λ n. get_or costs n None) numbers
numbers_stay costs more [] keep has = refl
numbers_stay costs more (n ∷ ns) keep has =
    ap (λ (c : Option Cost). c ∷ map (λ k. get_or more k None) ns) (cost_stays costs more n keep (has 0 n (omega arith)))
    ∙ ap (λ (cs : List (Option Cost)). get_or costs n None ∷ cs) (numbers_stay costs more ns keep (λ k d lt. has (suc k) d (omega (arith, lt))))

row_stays : (costs more : List (Option Cost)) (row : KeptRow) → KeepNumbers costs more → HasCosts costs row → row_in more row ≡ row_in costs row
row_stays costs more (Numbers numbers) keep has = numbers_stay costs more numbers.items keep has
row_stays costs more (Costs row) keep has = refl

has_still : (costs more : List (Option Cost)) (row : KeptRow) → KeepNumbers costs more → HasCosts costs row → HasCosts more row
has_still costs more (Numbers numbers) keep has = λ k d lt. number_stays costs more (get_or numbers.items k d) keep (has k d lt)
has_still costs more (Costs row) keep has = tt

-- the rows stay what they are
pub rows_stay : (costs more : List (Option Cost)) (rows : List KeptRow) → KeepNumbers costs more → All (HasCosts costs) rows → map (row_in more) rows ≡ map (row_in costs) rows
rows_stay costs more [] keep has = refl
rows_stay costs more (r ∷ rs) keep has =
    ap (λ (l : List (Option Cost)). l ∷ map (row_in more) rs) (row_stays costs more r keep (has 0 r (omega arith)))
    ∙ ap (λ (ls : List (List (Option Cost))). row_in costs r ∷ ls) (rows_stay costs more rs keep (λ k d lt. has (suc k) d (omega (arith, lt))))

-- and have their costs
pub all_have : (costs more : List (Option Cost)) (rows : List KeptRow) → KeepNumbers costs more → All (HasCosts costs) rows → All (HasCosts more) rows
all_have costs more rows keep has = λ k d lt. has_still costs more (get_or rows k d) keep (has k d lt)

-- with one row more
pub all_push : (costs more : List (Option Cost)) (rows : List KeptRow) (row : KeptRow) → KeepNumbers costs more → All (HasCosts costs) rows → HasCosts more row → All (HasCosts more) (rows ++ row ∷ [])
all_push costs more rows row keep has its = All-push (HasCosts more) rows row (all_have costs more rows keep has) its

pub rows_push : (costs more : List (Option Cost)) (rows : List KeptRow) (row : KeptRow) (its : List (Option Cost)) → KeepNumbers costs more → All (HasCosts costs) rows → row_in more row ≡ its → map (row_in more) (rows ++ row ∷ []) ≡ map (row_in costs) rows ++ its ∷ []
rows_push costs more rows row its keep has is =
    map-append (row_in more) rows (row ∷ [])
    ∙ ap (λ (l : List (List (Option Cost))). l ++ row_in more row ∷ []) (rows_stay costs more rows keep has)
    ∙ ap (λ (r : List (Option Cost)). map (row_in costs) rows ++ r ∷ []) is
