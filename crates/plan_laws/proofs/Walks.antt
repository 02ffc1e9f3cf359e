-- The best walk over some hops, or that no walk leads there: hop by hop. A walk that takes a hop twice may leave out what is between.
use Rattle.std.proofs.Common.{◌≡◌, ℕ, ◌<◌, ◌≤◌, List, [], ◌∷◌, ◌++◌, fold, refl, sym, ap, ◌∙◌, subst, inl, inr, ⊎_elim, arith}
use Rattle.std.specs.Prelude.{Contains, ◌⊎◌}
use Rattle.std.proofs.lemmas.Bool.{cases_eq}
use Rattle.net_routes.specs.declared.cost.Cost.{Cost}
use Rattle.net_routes.specs.declared.hop.Hop.{Hop}
use Rattle.net_routes.specs.Cost.{IsAsGood}
use Rattle.net_routes.specs.Walk.{Leads, then_hop}
use Rattle.net_routes.proofs.CostLemmas.{good_refl, good_trans, good_extend}
use Rattle.net_routes.proofs.ListLemmas.{contains_cons, contains_head, contains_cases}
use Rattle.plan_laws.proofs.Bests.{IsBestOf, HasBestIfAny, AreBoth, best_of_both}

-- the cost of a walk behind this cost
abbrev pub cost_from : Cost → List Hop → Cost
cost_from c walk = fold then_hop c walk

-- some walk over these hops from a to b costs so much behind c
pub record HasWalk (ss : List Hop) (c : Cost) (a b : ℕ) (d : Cost) : Type 0 where
  pub walk : List Hop
  pub leads : Leads ss a b walk
  pub costs : cost_from c walk ≡ d

-- some walk by s once, and else over the other hops
record HasThrough (s : Hop) (ss : List Hop) (c : Cost) (a b : ℕ) (d : Cost) : Type 0 where
  front : List Hop
  back : List Hop
  to : Leads ss a s.from front
  behind : Leads ss s.to b back
  costs : cost_from (then_hop (cost_from c front) s) back ≡ d

-- ---- costs

hop_keeps : (c d : Cost) (s : Hop) → IsAsGood c d → IsAsGood (then_hop c s) (then_hop d s)
hop_keeps c d s h = good_extend c d (record { to = s.to; cost = s.cost }) h

walk_keeps : (c d : Cost) (walk : List Hop) → IsAsGood c d → IsAsGood (cost_from c walk) (cost_from d walk)
walk_keeps c d [] h = h
walk_keeps c d (s ∷ walk) h = walk_keeps (then_hop c s) (then_hop d s) walk (hop_keeps c d s h)

latency_rises : (c : Cost) (walk : List Hop) → c.latency ≤ (cost_from c walk).latency
latency_rises c [] = omega arith
latency_rises c (s ∷ walk) = omega (arith, latency_rises (then_hop c s) walk)

-- to take a hop once more is worse
once_better : (c : Cost) (s : Hop) (between : List Hop) → 0 < s.cost.latency → IsAsGood (then_hop c s) (then_hop (cost_from (then_hop c s) between) s)
once_better c s between some = inl (omega (arith, some, latency_rises (then_hop c s) between))

cost_through : (c : Cost) (s : Hop) (front back : List Hop) → cost_from c (front ++ s ∷ back) ≡ cost_from (then_hop (cost_from c front) s) back
cost_through c s [] back = refl
cost_through c s (t ∷ front) back = cost_through (then_hop c t) s front back

-- ---- where walks lead

leads_more : (s : Hop) (ss : List Hop) (a b : ℕ) (walk : List Hop) → Leads ss a b walk → Leads (s ∷ ss) a b walk
leads_more s ss a b [] h = h
leads_more s ss a b (t ∷ walk) h = (contains_cons s ss t h.0, h.1, leads_more s ss t.to b walk h.2)

leads_through : (s : Hop) (ss : List Hop) (a b : ℕ) (front back : List Hop) → Leads ss a s.from front → Leads ss s.to b back → Leads (s ∷ ss) a b (front ++ s ∷ back)
leads_through s ss a b [] back h k = (contains_head s ss, sym h, leads_more s ss s.to b back k)
leads_through s ss a b (t ∷ front) back h k = (contains_cons s ss t h.0, h.1, leads_through s ss t.to b front back h.2 k)

none_to : (a b : ℕ) (walk : List Hop) → Leads [] a b walk → a ≡ b
none_to a b [] h = h
none_to a b (s ∷ walk) h = absurd (omega (arith, h.0.1))

none_costs : (c : Cost) (a b : ℕ) (walk : List Hop) → Leads [] a b walk → IsAsGood c (cost_from c walk)
none_costs c a b [] h = good_refl c
none_costs c a b (s ∷ walk) h = absurd (omega (arith, h.0.1))

-- ---- a walk takes a hop once at most, or another one that does is as good

module _ (s : Hop) (ss : List Hop) (some : 0 < s.cost.latency) where
  abbrev IsEither : Cost → ℕ → ℕ → Cost → Type 0
  IsEither c a b e = HasWalk ss c a b e ⊎ HasThrough s ss c a b e

  abbrev IsCut : Cost → ℕ → ℕ → Cost → Type 0
  IsCut c a b d = (e : Cost) × IsEither c a b e × IsAsGood e d

  cut_here : (c : Cost) (a b : ℕ) (d e : Cost) → s.from ≡ a → IsEither (then_hop c s) s.to b e → IsAsGood e d → IsCut c a b d
  cut_here c a b d e is (inl h) good = (e, inr (record { front = []; back = h.walk; to = sym is; behind = h.leads; costs = h.costs }), good)
  cut_here c a b d e is (inr h) good =
      let here : Cost = then_hop c s in
      let again : Cost = then_hop (cost_from here h.front) s in
      let better : IsAsGood (cost_from here h.back) (cost_from again h.back) = walk_keeps here again h.back (once_better c s h.front some) in
      let than : IsAsGood (cost_from here h.back) e = subst (λ x. IsAsGood (cost_from here h.back) x) h.costs better in (
        cost_from here h.back,
        inr (record { front = []; back = h.back; to = sym is; behind = h.behind; costs = refl }),
        good_trans (cost_from here h.back) e d than good,
      )

  cut_later : (t : Hop) (c : Cost) (a b : ℕ) (d e : Cost) → Contains ss t → t.from ≡ a → IsEither (then_hop c t) t.to b e → IsAsGood e d → IsCut c a b d
  cut_later t c a b d e there is (inl h) good = (e, inl (record { walk = t ∷ h.walk; leads = (there, is, h.leads); costs = h.costs }), good)
  cut_later t c a b d e there is (inr h) good =
      (e, inr (record { front = t ∷ h.front; back = h.back; to = (there, is, h.to); behind = h.behind; costs = h.costs }), good)

  cut : (walk : List Hop) (c : Cost) (a b : ℕ) → Leads (s ∷ ss) a b walk → IsCut c a b (cost_from c walk)
  cut [] c a b h = (c, inl (record { walk = []; leads = h; costs = refl }), good_refl c)
  cut (t ∷ walk) c a b h =
      let rest : IsCut (then_hop c t) t.to b (cost_from (then_hop c t) walk) = cut walk (then_hop c t) t.to b h.2 in
      ⊎_elim
      (λ (same : s ≡ t).
      let P : Hop → Type 0 = λ x. (x.from ≡ a) × IsEither (then_hop c x) x.to b rest.0 in
      let here : P s = subst P (sym same) (h.1, rest.1) in
      cut_here c a b (cost_from (then_hop c t) walk) rest.0 here.0 here.1 rest.2)
      (λ (there : Contains ss t). cut_later t c a b (cost_from (then_hop c t) walk) rest.0 there h.1 rest.1 rest.2)
      (contains_cases s ss t h.0)

  both_walks : (c : Cost) (a b : ℕ) → AreBoth (HasWalk ss c a b) (HasThrough s ss c a b) (HasWalk (s ∷ ss) c a b)
  both_walks c a b = record {
    first = λ d h. record { walk = h.walk; leads = leads_more s ss a b h.walk h.leads; costs = h.costs };
    second = λ d h. record { walk = h.front ++ s ∷ h.back; leads = leads_through s ss a b h.front h.back h.to h.behind; costs = cost_through c s h.front h.back ∙ h.costs };
    cases = λ d h. subst (λ x. IsCut c a b x) h.costs (cut h.walk c a b h.leads);
  }

  through_best : (c : Cost) (a b : ℕ) → HasBestIfAny (HasWalk ss c a s.from) → ((d : Cost) → HasBestIfAny (HasWalk ss (then_hop d s) s.to b)) → HasBestIfAny (HasThrough s ss c a b)
  through_best c a b (inr none) back = inr (λ d h. none (cost_from c h.front) (record { walk = h.front; leads = h.to; costs = refl }))
  through_best c a b (inl f) back =
      let here : Cost = then_hop f.0 s in
      ⊎_elim
      (λ (k : (e : Cost) × IsBestOf (HasWalk ss here s.to b) e). inl (
        k.0,
        record {
          has = record {
            front = f.1.has.walk;
            back = k.1.has.walk;
            to = f.1.has.leads;
            behind = k.1.has.leads;
            costs = ap (λ (x : Cost). cost_from (then_hop x s) k.1.has.walk) f.1.has.costs ∙ k.1.has.costs;
          };
          best = λ d h.
              let there : Cost = then_hop (cost_from c h.front) s in
              let front : IsAsGood f.0 (cost_from c h.front) = f.1.best (cost_from c h.front) (record { walk = h.front; leads = h.to; costs = refl }) in
              let whole : IsAsGood (cost_from here h.back) (cost_from there h.back) = walk_keeps here there h.back (hop_keeps f.0 (cost_from c h.front) s front) in
              let behind : IsAsGood k.0 (cost_from here h.back) = k.1.best (cost_from here h.back) (record { walk = h.back; leads = h.behind; costs = refl }) in
              good_trans k.0 (cost_from here h.back) d behind (subst (λ x. IsAsGood (cost_from here h.back) x) h.costs whole);
        },
      ))
      (λ (none : (e : Cost) → HasWalk ss here s.to b e → ⊥). inr (λ d h. none (cost_from here h.back) (record { walk = h.back; leads = h.behind; costs = refl })))
      (back f.0)

-- the best walk over hops that take time
pub walk_best : (ss : List Hop) → ((s : Hop) → Contains ss s → 0 < s.cost.latency) → (c : Cost) (a b : ℕ) → HasBestIfAny (HasWalk ss c a b)
walk_best [] some c a b =
    ⊎_elim
    (λ (same : a ≡ b). inl (
      c,
      record {
        has = record { walk = []; leads = same; costs = refl };
        best = λ d h. subst (λ x. IsAsGood c x) h.costs (none_costs c a b h.walk h.leads);
      },
    ))
    (λ (other : a ≡ b → ⊥). inr (λ d h. other (none_to a b h.walk h.leads)))
    (cases_eq a b)
walk_best (s ∷ ss) some c a b =
    let takes : 0 < s.cost.latency = some s (contains_head s ss) in
    let rest : (t : Hop) → Contains ss t → 0 < t.cost.latency = λ t h. some t (contains_cons s ss t h) in
    best_of_both (HasWalk ss c a b) (HasThrough s ss c a b) (HasWalk (s ∷ ss) c a b) (both_walks s ss takes c a b)
    (walk_best ss rest c a b)
    (through_best s ss takes c a b (walk_best ss rest c a s.from) (λ d. walk_best ss rest (then_hop d s) s.to b))
