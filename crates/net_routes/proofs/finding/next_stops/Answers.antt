use Rattle.std.proofs.Common.{◌≡◌, ℕ, ◌-◌, List, length, take, drop, min, ap, ◌∙◌}
use Rattle.std.proofs.lemmas.List.{take_min, take_rest}
use Rattle.net_routes.specs.inside.Found.{most_at_once}
use Rattle.net_routes.proofs.finding.next_stops.Goals as goal

first : (n : ℕ) (xs ys : List ℕ) → xs ≡ ys → take (min n (length xs)) xs ≡ take n ys
first n xs ys same = take_min n xs ∙ ap (λ (l : List ℕ). take n l) same

pub returns-clause-next : goal.returns-clause-next
returns-clause-next c =
    let stops = c.args.stops.now in
    let rest : List ℕ = take (length stops - c.args.before) (drop c.args.before stops) in
    c.split_at.ensures.front ∙ ap (λ (n : ℕ). take n rest) c.min.ensures ∙ first most_at_once rest (drop c.args.before stops) (take_rest stops c.args.before)
