-- worked values of the definitions
use Rattle.std.proofs.Common.{◌≡◌, ℕ, [], ◌∷◌, refl, inr, arith}
use Rattle.net_routes.specs.declared.cost.Cost.{Cost}
use Rattle.net_routes.specs.declared.hop.Hop.{Hop}
use Rattle.net_routes.specs.Cost.{IsAsGood}
use Rattle.net_routes.specs.Walk.{cost_of}

abbrev hop : ℕ → ℕ → ℕ → ℕ → Hop
hop from to latency reliability = record { from = from; to = to; cost = record { latency = latency; reliability = reliability } }

abbrev cost : ℕ → ℕ → Cost
cost latency reliability = record { latency = latency; reliability = reliability }

-- two edges of 10 ms that lose one half each
pub two_halves : cost_of (hop 0 2 10000000 500000000 ∷ hop 2 1 10000000 500000000 ∷ []) ≡ cost 20000000 250000000
two_halves = refl

-- of the same latency that is better with which more arrives, whatever the number of edges
pub one_edge_better : IsAsGood (cost 20000000 300000000) (cost 20000000 250000000)
one_edge_better = inr (refl, omega arith)

-- the whole product would give 666666663
pub rounded_each_time : cost_of (hop 0 1 1 999999997 ∷ hop 1 2 1 666666667 ∷ hop 2 3 1 999999997 ∷ []) ≡ cost 3 666666662
rounded_each_time = refl
