-- the order of costs
use Rattle.std.proofs.Common.{◌≡◌, ℕ, ◌+◌, ◌*◌, ◌/◌, ◌<◌, ◌≤◌, List, [], ◌∷◌, ◌++◌, fold, refl, sym, ap, ◌∙◌, inl, inr, subst, arith}
use Rattle.std.proofs.Math.Nat.{mul-le-mul_right}
use Rattle.net_routes.specs.declared.cost.Cost.{Cost}
use Rattle.net_routes.specs.declared.arc.Arc.{Arc}
use Rattle.net_routes.specs.Cost.{nothing, IsAsGood}
use Rattle.net_routes.specs.inside.Path.{Leaves, Leads, then_arc, HasPath}

pub good_refl : (c : Cost) → IsAsGood c c
good_refl c = inr (refl, omega arith)

pub good_trans : (c d e : Cost) → IsAsGood c d → IsAsGood d e → IsAsGood c e
good_trans c d e (inl p) (inl q) = inl (omega arith)
good_trans c d e (inl p) (inr q) = inl (omega (arith, q.0))
good_trans c d e (inr p) (inl q) = inl (omega (arith, p.0))
good_trans c d e (inr p) (inr q) = inr (p.0 ∙ q.0, omega (arith, p.1, q.1))

part_keeps : (a b k : ℕ) → a ≤ b → a * k / 1000000000 ≤ b * k / 1000000000
part_keeps a b k h = let le : a * k ≤ b * k = mul-le-mul_right k h in omega arith

-- what follows keeps the order
pub good_extend : (c d : Cost) (x : Arc) → IsAsGood c d → IsAsGood (then_arc c x) (then_arc d x)
good_extend c d x (inl p) = inl (omega arith)
good_extend c d x (inr p) = inr (ap (λ (l : ℕ). l + x.cost.latency) p.0, part_keeps d.reliability c.reliability x.cost.reliability p.1)

-- and an arc takes time
pub good_before : (c : Cost) (x : Arc) → 0 < x.cost.latency → IsAsGood c (then_arc c x)
good_before c x h = inl (omega arith)

-- a path and one more arc
leads_more : (rows : List (List Arc)) (a b : ℕ) (path : List Arc) (x : Arc) → Leads rows a b path → Leaves rows b x → Leads rows a x.to (path ++ x ∷ [])
leads_more rows a b [] x h l = (let P : ℕ → Type 0 = λ p. Leaves rows p x in subst P (sym h) l, refl)
leads_more rows a b (y ∷ path) x h l = (h.0, leads_more rows y.to b path x h.1 l)

fold_push : (c : Cost) (path : List Arc) (x : Arc) → fold then_arc c (path ++ x ∷ []) ≡ then_arc (fold then_arc c path) x
fold_push c [] x = refl
fold_push c (y ∷ path) x = fold_push (then_arc c y) path x

pub path_more : (rows : List (List Arc)) (a b : ℕ) (c : Cost) (x : Arc) → HasPath rows a b c → Leaves rows b x → HasPath rows a x.to (then_arc c x)
path_more rows a b c x p l = record {
  path = p.path ++ x ∷ [];
  leads = leads_more rows a b p.path x p.leads l;
  costs = fold_push nothing p.path x ∙ ap (λ (d : Cost). then_arc d x) p.costs;
}
