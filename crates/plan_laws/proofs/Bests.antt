-- The best of the costs that there are, or that there is none.
use Rattle.std.proofs.Common.{◌<◌, ◌≤◌, inl, inr, ⊎_elim, arith}
use Rattle.std.specs.Prelude.{◌⊎◌}
use Rattle.std.proofs.lemmas.Bool.{cases_lt}
use Rattle.net_routes.specs.declared.cost.Cost.{Cost}
use Rattle.net_routes.specs.Cost.{IsAsGood}
use Rattle.net_routes.proofs.CostLemmas.{good_trans}

-- there is such a cost, and none is better
pub record IsBestOf (Has : Cost → Type 0) (c : Cost) : Type 0 where
  pub has : Has c
  pub best : (d : Cost) → Has d → IsAsGood c d

abbrev pub HasBestIfAny : (Cost → Type 0) → Type 0
HasBestIfAny Has = ((c : Cost) × IsBestOf Has c) ⊎ ((d : Cost) → Has d → ⊥)

-- costs of which one is as good as the other
good_either : (c d : Cost) → IsAsGood c d ⊎ IsAsGood d c
good_either c d =
    ⊎_elim
    (λ (lt : c.latency < d.latency). inl (inl lt))
    (λ (ge : d.latency ≤ c.latency). ⊎_elim
    (λ (gt : d.latency < c.latency). inr (inl gt))
    (λ (le : c.latency ≤ d.latency). ⊎_elim
    (λ (less : c.reliability < d.reliability). inr (inr (omega (arith, le, ge), omega (arith, less))))
    (λ (more : d.reliability ≤ c.reliability). inl (inr (omega (arith, le, ge), more)))
    (cases_lt c.reliability d.reliability))
    (cases_lt d.latency c.latency))
    (cases_lt c.latency d.latency)

-- All have the costs of both, and none but these and such as are no better.
pub record AreBoth (A B All : Cost → Type 0) : Type 0 where
  pub first : (d : Cost) → A d → All d
  pub second : (d : Cost) → B d → All d
  pub cases : (d : Cost) → All d → (e : Cost) × (A e ⊎ B e) × IsAsGood e d

module _ (A B All : Cost → Type 0) (both : AreBoth A B All) where
  -- what is as good as each of both is as good as all
  as_all : (c : Cost) → ((d : Cost) → A d → IsAsGood c d) → ((d : Cost) → B d → IsAsGood c d) → (d : Cost) → All d → IsAsGood c d
  as_all c first second d h =
      let w = both.cases d h in
      good_trans c w.0 d (⊎_elim (λ (a : A w.0). first w.0 a) (λ (b : B w.0). second w.0 b) w.1) w.2

  -- the better one of the best of both
  pub best_of_both : HasBestIfAny A → HasBestIfAny B → HasBestIfAny All
  best_of_both (inl a) (inl b) =
      ⊎_elim
      (λ (good : IsAsGood a.0 b.0). inl (
        a.0,
        record {
          has = both.first a.0 a.1.has;
          best = as_all a.0 (λ d h. a.1.best d h) (λ d h. good_trans a.0 b.0 d good (b.1.best d h));
        },
      ))
      (λ (good : IsAsGood b.0 a.0). inl (
        b.0,
        record {
          has = both.second b.0 b.1.has;
          best = as_all b.0 (λ d h. good_trans b.0 a.0 d good (a.1.best d h)) (λ d h. b.1.best d h);
        },
      ))
      (good_either a.0 b.0)
  best_of_both (inl a) (inr none) = inl (a.0, record { has = both.first a.0 a.1.has; best = as_all a.0 (λ d h. a.1.best d h) (λ d h. absurd (none d h)) })
  best_of_both (inr none) (inl b) = inl (b.0, record { has = both.second b.0 b.1.has; best = as_all b.0 (λ d h. absurd (none d h)) (λ d h. b.1.best d h) })
  best_of_both (inr none) (inr absent) = inr (λ d h. let w = both.cases d h in ⊎_elim (λ (a : A w.0). none w.0 a) (λ (b : B w.0). absent w.0 b) w.1)

-- the same costs told otherwise
pub same_best : (A B : Cost → Type 0) → ((d : Cost) → A d → B d) → ((d : Cost) → B d → A d) → HasBestIfAny A → HasBestIfAny B
same_best A B to from (inl a) = inl (a.0, record { has = to a.0 a.1.has; best = λ d h. a.1.best d (from d h) })
same_best A B to from (inr none) = inr (λ d h. none d (from d h))
