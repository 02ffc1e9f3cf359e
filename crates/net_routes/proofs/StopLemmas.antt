-- the least latency, node by node
use Rattle.std.proofs.Common.{◌≡◌, ℕ, ◌+◌, ◌<◌, ◌≤◌, List, length, Option, Some, None, refl, sym, ◌∙◌, subst, inl, inr, ⊎_elim, arith}
use Rattle.std.specs.Prelude.{option_map, slice_index}
use Rattle.std.proofs.lemmas.Bool.{cases_lt}
use Rattle.net_routes.specs.RouteMap.{RouteMap}
use Rattle.net_routes.specs.Needed.{IsAt, IsNeeded}
use Rattle.net_routes.specs.Routes.{route_in, AreBetween, HasRoutes}
use Rattle.net_routes.specs.Least.{IsLookahead}
use Rattle.net_routes.specs.inside.LeastSteps.{latency_of, IsLeastIf, IsNeededLatency, IsNeededAt, IsNeededPair, IsNeededTo, IsNeededFirst, lesser}
use Rattle.net_routes.proofs.ListLemmas.{some_same}
use Rattle.net_routes.proofs.PlaceLemmas.{at_contains}
use Rattle.net_routes.proofs.LeastLemmas.{AreBoth, least_both}

pub needed_least : (nodes stops : List ℕ) (r : RouteMap) (i j : ℕ) (o : Option ℕ) → IsNeededLatency nodes r (slice_index stops i) (slice_index stops j) o → IsLeastIf (IsNeededPair nodes stops i j) stops r o
needed_least nodes stops r i j None none = λ p q s.
    let P : ℕ → Type 0 = λ x. IsNeededAt nodes stops x q in
    let Q : ℕ → Type 0 = λ x. IsNeededAt nodes stops i x in
    none (subst Q s.to (subst P s.from s.needed))
needed_least nodes stops r i j (Some t) h = record {
  from = i;
  to = j;
  among = record { from = refl; to = refl; needed = h.0 };
  is = h.1;
  each = λ p q s pair e.
      let P : ℕ → Type 0 = λ x. latency_of stops r x q ≡ Some s in
      let Q : ℕ → Type 0 = λ x. latency_of stops r i x ≡ Some s in
      let there : latency_of stops r i j ≡ Some s = subst Q pair.to (subst P pair.from e) in
      omega (arith, some_same t s (sym h.1 ∙ there));
}

pub to_none : (nodes stops : List ℕ) (r : RouteMap) (i : ℕ) → IsLeastIf (IsNeededTo nodes stops i 0) stops r None
to_none nodes stops r i = λ p q s. omega (arith, s.to)

pub to_more : (nodes stops : List ℕ) (r : RouteMap) (i j : ℕ) (a b : Option ℕ) → IsLeastIf (IsNeededTo nodes stops i j) stops r a → IsNeededLatency nodes r (slice_index stops i) (slice_index stops j) b
    → IsLeastIf (IsNeededTo nodes stops i (j + 1)) stops r (lesser a b)
to_more nodes stops r i j a b h k =
    let both : AreBoth (IsNeededTo nodes stops i j) (IsNeededPair nodes stops i j) (IsNeededTo nodes stops i (j + 1)) = record {
      cases = λ p q s. ⊎_elim
          (λ (lt : q < j). inl (record { from = s.from; to = lt; needed = s.needed }))
          (λ (ge : j ≤ q). inr (record { from = s.from; to = omega (arith, s.to, ge); needed = s.needed }))
          (cases_lt q j);
      first = λ p q s. record { from = s.from; to = omega (arith, s.to); needed = s.needed };
      second = λ p q s. record { from = s.from; to = omega (arith, s.to); needed = s.needed };
    } in
    least_both (IsNeededTo nodes stops i j) (IsNeededPair nodes stops i j) (IsNeededTo nodes stops i (j + 1)) stops r a b both h (needed_least nodes stops r i j b k)

pub stops_none : (nodes stops : List ℕ) (r : RouteMap) (all : ℕ) → IsLeastIf (IsNeededFirst nodes stops 0 all) stops r None
stops_none nodes stops r all = λ p q s. omega (arith, s.from)

pub stops_more : (nodes stops : List ℕ) (r : RouteMap) (all i : ℕ) (a b : Option ℕ) → IsLeastIf (IsNeededFirst nodes stops i all) stops r a → IsLeastIf (IsNeededTo nodes stops i all) stops r b
    → IsLeastIf (IsNeededFirst nodes stops (i + 1) all) stops r (lesser a b)
stops_more nodes stops r all i a b h k =
    let both : AreBoth (IsNeededFirst nodes stops i all) (IsNeededTo nodes stops i all) (IsNeededFirst nodes stops (i + 1) all) = record {
      cases = λ p q s. ⊎_elim
          (λ (lt : p < i). inl (record { from = lt; to = s.to; needed = s.needed }))
          (λ (ge : i ≤ p). inr (record { from = omega (arith, s.from, ge); to = s.to; needed = s.needed }))
          (cases_lt p i);
      first = λ p q s. record { from = omega (arith, s.from); to = s.to; needed = s.needed };
      second = λ p q s. record { from = omega (arith, s.from); to = s.to; needed = s.needed };
    } in
    least_both (IsNeededFirst nodes stops i all) (IsNeededTo nodes stops i all) (IsNeededFirst nodes stops (i + 1) all) stops r a b both h k

-- A ROUTE'S NODES ARE AMONG THE STOPS

-- where two nodes stand
pub record AreAt (stops : List ℕ) (a b : ℕ) : Type 0 where
  pub first : ℕ
  pub second : ℕ
  pub from : IsAt stops first a
  pub to : IsAt stops second b

stops_of_route : (nodes stops : List ℕ) (r : RouteMap) (a b : ℕ) → AreBetween stops r → HasRoutes nodes r → IsNeeded nodes a b → AreAt stops a b
stops_of_route nodes stops r a b between has need =
    let there = between a b (has a b need) in
    let from = at_contains stops a there.0 in
    let to = at_contains stops b there.1 in
    record { first = from.0; second = to.0; from = from.1; to = to.1 }

needed_at : (nodes stops : List ℕ) (a b : ℕ) (at : AreAt stops a b) → IsNeeded nodes a b → IsNeededAt nodes stops at.first at.second
needed_at nodes stops a b at need =
    let P : ℕ → Type 0 = λ x. IsNeeded nodes x b in
    let Q : ℕ → Type 0 = λ x. IsNeeded nodes (slice_index stops at.first) x in
    subst Q (sym at.to.is) (subst P (sym at.from.is) need)

-- two hosts need a route
two_need : (nodes : List ℕ) → 2 ≤ length nodes → IsNeeded nodes (slice_index nodes 0) (slice_index nodes 1)
two_need nodes ge = record {
  first = 0;
  second = 1;
  others = λ e. omega (arith, e);
  from = record { within = omega (arith, ge); is = refl };
  to = record { within = omega (arith, ge); is = refl };
}

pub stops_least : (nodes stops : List ℕ) (r : RouteMap) (o : Option ℕ) → AreBetween stops r → HasRoutes nodes r → IsLeastIf (IsNeededFirst nodes stops (length stops) (length stops)) stops r o → IsLookahead nodes r o
stops_least nodes stops r None between has none =
    ⊎_elim
    (λ (lt : length nodes < 2). lt)
    (λ (ge : 2 ≤ length nodes).
    let need = two_need nodes ge in
    let at = stops_of_route nodes stops r (slice_index nodes 0) (slice_index nodes 1) between has need in
    absurd (none at.first at.second (record { from = at.from.within; to = at.to.within; needed = needed_at nodes stops (slice_index nodes 0) (slice_index nodes 1) at need })))
    (cases_lt (length nodes) 2)
stops_least nodes stops r (Some t) between has h = record {
  from = slice_index stops h.from;
  to = slice_index stops h.to;
  needed = h.among.needed;
  is = h.is;
  each = λ a b s need e.
      let at = stops_of_route nodes stops r a b between has need in
      let P : ℕ → Type 0 = λ x. option_map (λ c. c.latency) (route_in r x b) ≡ Some s in
      let Q : ℕ → Type 0 = λ x. option_map (λ c. c.latency) (route_in r (slice_index stops at.first) x) ≡ Some s in
      let there : latency_of stops r at.first at.second ≡ Some s = subst Q (sym at.to.is) (subst P (sym at.from.is) e) in
      h.each at.first at.second s (record { from = at.from.within; to = at.to.within; needed = needed_at nodes stops a b at need }) there;
}
