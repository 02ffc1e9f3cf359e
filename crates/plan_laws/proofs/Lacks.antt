-- The least pair that needs a route and has none, or that there is none.
use Rattle.std.proofs.Common.{◌≡◌, ℕ, zero, suc, ◌+◌, ◌<◌, ◌≤◌, Bool, List, [], ◌∷◌, sym, subst, inl, inr, ⊎_elim, arith}
use Rattle.std.specs.Prelude.{Contains, ◌⊎◌}
use Rattle.std.proofs.lemmas.Bool.{cases_eq, cases_lt}
use Rattle.gml_graph.specs.declared.graph.Graph.{Graph}
use Rattle.net_routes.specs.declared.cost.Cost.{Cost}
use Rattle.net_routes.specs.Needed.{IsNeeded}
use Rattle.net_routes.specs.Routes.{LacksRoute, IsLeastLack}
use Rattle.net_routes.specs.Walk.{Goes, hops}
use Rattle.net_routes.proofs.ListLemmas.{contains_cons, contains_head, contains_cases}
use Rattle.net_routes.proofs.RouteLemmas.{needed_from, needed_to}
use Rattle.net_routes.proofs.RouteRowLemmas.{hosts_on, two_hosts, needed_apart, needed_counted}
use Rattle.plan_laws.proofs.Bests.{IsBestOf, HasBestIfAny}

-- ---- the least number of which something holds

record HasLeast (P : ℕ → Type 0) : Type 0 where
  number : ℕ
  is : P number
  least : (m : ℕ) → P m → number ≤ m

module _ (P : ℕ → Type 0) (decide : (n : ℕ) → P n ⊎ (P n → ⊥)) where
  least_below : (k : ℕ) → HasLeast P ⊎ ((m : ℕ) → m < k → P m → ⊥)
  least_below zero = inr (λ m lt h. absurd (omega (arith, lt)))
  least_below (suc k) =
      ⊎_elim
      (λ (least : HasLeast P). inl least)
      (λ (none : (m : ℕ) → m < k → P m → ⊥). ⊎_elim
      (λ (now : P k). inl (record {
        number = k;
        is = now;
        least = λ m h. ⊎_elim (λ (lt : m < k). absurd (none m lt h)) (λ (ge : k ≤ m). ge) (cases_lt m k);
      }))
      (λ (not_now : P k → ⊥). inr (λ m within h. ⊎_elim
      (λ (lt : m < k). none m lt h)
      (λ (ge : k ≤ m). let same : m ≡ k = omega (arith, within, ge) in not_now (subst P same h))
      (cases_lt m k)))
      (decide k))
      (least_below k)

  least_or_none : (k : ℕ) → ((m : ℕ) → P m → m < k) → HasLeast P ⊎ ((m : ℕ) → P m → ⊥)
  least_or_none k below =
      ⊎_elim
      (λ (least : HasLeast P). inl least)
      (λ (none : (m : ℕ) → m < k → P m → ⊥). inr (λ m h. none m (below m h) h))
      (least_below k)

-- ---- what is needed

contains_or_not : (xs : List ℕ) (x : ℕ) → Contains xs x ⊎ (Contains xs x → ⊥)
contains_or_not [] x = inr (λ h. absurd (omega (arith, h.1)))
contains_or_not (y ∷ ys) x =
    ⊎_elim
    (λ (same : y ≡ x). inl (subst (λ z. Contains (y ∷ ys) z) same (contains_head y ys)))
    (λ (other : y ≡ x → ⊥). ⊎_elim
    (λ (there : Contains ys x). inl (contains_cons y ys x there))
    (λ (none : Contains ys x → ⊥). inr (λ h. ⊎_elim other none (contains_cases y ys x h)))
    (contains_or_not ys x))
    (cases_eq y x)

-- a number above all of a list
above : (xs : List ℕ) → (n : ℕ) × ((x : ℕ) → Contains xs x → x < n)
above [] = (0, λ x h. absurd (omega (arith, h.1)))
above (y ∷ ys) =
    let rest = above ys in
    (y + rest.0 + 1, λ x h. ⊎_elim (λ (same : y ≡ x). omega (arith, same)) (λ (there : Contains ys x). omega (arith, rest.1 x there)) (contains_cases y ys x h))

same_needed : (nodes : List ℕ) (a b : ℕ) → a ≡ b → IsNeeded nodes a b ⊎ (IsNeeded nodes a b → ⊥)
same_needed nodes a b same =
    ⊎_elim
    (λ (few : hosts_on nodes a < 2). inr (λ h. absurd (omega (arith, few, needed_counted nodes a b same h))))
    (λ (two : 2 ≤ hosts_on nodes a). inl (subst (λ x. IsNeeded nodes a x) same (two_hosts nodes a two)))
    (cases_lt (hosts_on nodes a) 2)

needed_or_not : (nodes : List ℕ) (a b : ℕ) → IsNeeded nodes a b ⊎ (IsNeeded nodes a b → ⊥)
needed_or_not nodes a b =
    ⊎_elim
    (λ (same : a ≡ b). same_needed nodes a b same)
    (λ (other : a ≡ b → ⊥). ⊎_elim
    (λ (from : Contains nodes a). ⊎_elim
    (λ (to : Contains nodes b). inl (needed_apart nodes a b from to other))
    (λ (none : Contains nodes b → ⊥). inr (λ h. none (needed_to nodes a b h)))
    (contains_or_not nodes b))
    (λ (none : Contains nodes a → ⊥). inr (λ h. none (needed_from nodes a b h)))
    (contains_or_not nodes a))
    (cases_eq a b)

-- ---- what lacks a route

module _ (g : Graph) (shortest : Bool) (nodes : List ℕ) (best : (a b : ℕ) → HasBestIfAny (Goes (hops g) shortest a b)) where
  abbrev Lacks : ℕ → ℕ → Type 0
  Lacks a b = LacksRoute g shortest nodes a b

  lacks_or_not : (a b : ℕ) → Lacks a b ⊎ (Lacks a b → ⊥)
  lacks_or_not a b =
      ⊎_elim
      (λ (needed : IsNeeded nodes a b). ⊎_elim
      (λ (way : (c : Cost) × IsBestOf (Goes (hops g) shortest a b) c). inr (λ h. h.none way.0 way.1.has))
      (λ (none : (c : Cost) → Goes (hops g) shortest a b c → ⊥). inl (record { needed = needed; none = none }))
      (best a b))
      (λ (not_needed : IsNeeded nodes a b → ⊥). inr (λ h. not_needed h.needed))
      (needed_or_not nodes a b)

  -- the least target that a source lacks
  abbrev LacksFrom : ℕ → Type 0
  LacksFrom a = HasLeast (λ b. Lacks a b)

  lacks_from : (a : ℕ) → LacksFrom a ⊎ ((b : ℕ) → Lacks a b → ⊥)
  lacks_from a =
      let all = above nodes in
      least_or_none (λ b. Lacks a b) (lacks_or_not a) all.0 (λ b h. all.1 b (needed_to nodes a b h.needed))

  lacks_from_or_not : (a : ℕ) → LacksFrom a ⊎ (LacksFrom a → ⊥)
  lacks_from_or_not a =
      ⊎_elim
      (λ (least : LacksFrom a). inl least)
      (λ (none : (b : ℕ) → Lacks a b → ⊥). inr (λ h. none h.number h.is))
      (lacks_from a)

  least_from : (a b : ℕ) → Lacks a b → LacksFrom a
  least_from a b h = ⊎_elim (λ (least : LacksFrom a). least) (λ (none : (b : ℕ) → Lacks a b → ⊥). absurd (none b h)) (lacks_from a)

  least_whole : (least : HasLeast LacksFrom) → IsLeastLack g shortest nodes least.number least.is.number
  least_whole least = record {
    lacks = least.is.is;
    least = λ p q h. ⊎_elim
        (λ (behind : least.number < p). inl behind)
        (λ (ge : p ≤ least.number).
        let le : least.number ≤ p = least.least p (least_from p q h) in
        let same : least.number ≡ p = omega (arith, le, ge) in
        inr (same, least.is.least q (subst (λ x. Lacks x q) (sym same) h)))
        (cases_lt least.number p);
  }

  -- the least pair that lacks a route, or that none does
  pub least_lack : ((a : ℕ) × (b : ℕ) × IsLeastLack g shortest nodes a b) ⊎ ((a b : ℕ) → LacksRoute g shortest nodes a b → ⊥)
  least_lack =
      let all = above nodes in
      ⊎_elim
      (λ (least : HasLeast LacksFrom). inl (least.number, least.is.number, least_whole least))
      (λ (none : (a : ℕ) → LacksFrom a → ⊥). inr (λ a b h. none a (least_from a b h)))
      (least_or_none LacksFrom lacks_from_or_not all.0 (λ a h. all.1 a (needed_from nodes a h.number h.is.needed)))
