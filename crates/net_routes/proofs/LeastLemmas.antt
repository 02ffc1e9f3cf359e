-- the least of latencies
use Rattle.std.proofs.Common.{◌≡◌, ℕ, ◌+◌, ◌<◌, ◌≤◌, List, length, min, Option, Some, None, refl, sym, ap, ◌∙◌, subst, inl, inr, ⊎_elim, arith}
use Rattle.std.specs.Prelude.{◌⊎◌, option_map, slice_index}
use Rattle.std.proofs.lemmas.Bool.{cases_lt}
use Rattle.net_routes.specs.RouteMap.{RouteMap}
use Rattle.net_routes.specs.Routes.{route_in}
use Rattle.net_routes.specs.Least.{IsLookahead}
use Rattle.net_routes.specs.inside.LeastSteps.{latency_of, IsPair, IsLatency, IsLeastIf, IsFromTo, IsFromFirst, lesser}
use Rattle.net_routes.proofs.ListLemmas.{some_same}

-- what is among the pairs is among the one or the other ones
pub record AreBoth (A B All : ℕ → ℕ → Type 0) : Type 0 where
  pub cases : (p q : ℕ) → All p q → A p q ⊎ B p q
  pub first : (p q : ℕ) → A p q → All p q
  pub second : (p q : ℕ) → B p q → All p q

pub least_both : (A B All : ℕ → ℕ → Type 0) (nodes : List ℕ) (r : RouteMap) (a b : Option ℕ) → AreBoth A B All → IsLeastIf A nodes r a → IsLeastIf B nodes r b → IsLeastIf All nodes r (lesser a b)
least_both A B All nodes r None None both h k = λ p q s. ⊎_elim (λ (t : A p q). h p q t) (λ (t : B p q). k p q t) (both.cases p q s)
least_both A B All nodes r None (Some y) both h k = record {
  from = k.from;
  to = k.to;
  among = both.second k.from k.to k.among;
  is = k.is;
  each = λ p q t s e. ⊎_elim (λ (u : A p q). absurd (h p q u)) (λ (u : B p q). k.each p q t u e) (both.cases p q s);
}
least_both A B All nodes r (Some x) None both h k = record {
  from = h.from;
  to = h.to;
  among = both.first h.from h.to h.among;
  is = h.is;
  each = λ p q t s e. ⊎_elim (λ (u : A p q). h.each p q t u e) (λ (u : B p q). absurd (k p q u)) (both.cases p q s);
}
least_both A B All nodes r (Some x) (Some y) both h k =
    let all : (p q t : ℕ) → All p q → latency_of nodes r p q ≡ Some t → min x y ≤ t = λ p q t s e.
    ⊎_elim (λ (u : A p q). omega (arith, h.each p q t u e)) (λ (u : B p q). omega (arith, k.each p q t u e)) (both.cases p q s) in
    ⊎_elim
    (λ (lt : x < y).
    let is : x ≡ min x y = omega (arith, lt) in
    record {
      from = h.from;
      to = h.to;
      among = both.first h.from h.to h.among;
      is = h.is ∙ ap (λ (n : ℕ). Some n) is;
      each = all;
    })
    (λ (ge : y ≤ x).
    let is : y ≡ min x y = omega (arith, ge) in
    record {
      from = k.from;
      to = k.to;
      among = both.second k.from k.to k.among;
      is = k.is ∙ ap (λ (n : ℕ). Some n) is;
      each = all;
    })
    (cases_lt x y)

-- ONE HOST AND THE OTHERS

pub pair_least : (nodes : List ℕ) (r : RouteMap) (host other : ℕ) (o : Option ℕ) → IsLatency nodes r host other o → IsLeastIf (IsPair host other) nodes r o
pair_least nodes r host other None e = λ p q s. s.others (s.from ∙ e ∙ sym s.to)
pair_least nodes r host other (Some t) h = record {
  from = host;
  to = other;
  among = record { from = refl; to = refl; others = h.0 };
  is = h.1;
  each = λ p q s pair e.
      let P : ℕ → Type 0 = λ x. latency_of nodes r x q ≡ Some s in
      let Q : ℕ → Type 0 = λ x. latency_of nodes r host x ≡ Some s in
      let there : latency_of nodes r host other ≡ Some s = subst Q pair.to (subst P pair.from e) in
      omega (arith, some_same t s (sym h.1 ∙ there));
}

pub from_none : (nodes : List ℕ) (r : RouteMap) (host : ℕ) → IsLeastIf (IsFromTo host 0) nodes r None
from_none nodes r host = λ p q s. omega (arith, s.to)

pub from_more : (nodes : List ℕ) (r : RouteMap) (host i : ℕ) (a b : Option ℕ) → IsLeastIf (IsFromTo host i) nodes r a → IsLatency nodes r host i b → IsLeastIf (IsFromTo host (i + 1)) nodes r (lesser a b)
from_more nodes r host i a b h k =
    let both : AreBoth (IsFromTo host i) (IsPair host i) (IsFromTo host (i + 1)) = record {
      cases = λ p q s. ⊎_elim
          (λ (lt : q < i). inl (record { from = s.from; to = lt; others = s.others }))
          (λ (ge : i ≤ q). inr (record { from = s.from; to = omega (arith, s.to, ge); others = s.others }))
          (cases_lt q i);
      first = λ p q s. record { from = s.from; to = omega (arith, s.to); others = s.others };
      second = λ p q s. record { from = s.from; to = omega (arith, s.to); others = s.others };
    } in
    least_both (IsFromTo host i) (IsPair host i) (IsFromTo host (i + 1)) nodes r a b both h (pair_least nodes r host i b k)

pub first_none : (nodes : List ℕ) (r : RouteMap) (hosts : ℕ) → IsLeastIf (IsFromFirst 0 hosts) nodes r None
first_none nodes r hosts = λ p q s. omega (arith, s.from)

pub first_more : (nodes : List ℕ) (r : RouteMap) (hosts i : ℕ) (a b : Option ℕ) → i < hosts → IsLeastIf (IsFromFirst i hosts) nodes r a → IsLeastIf (IsFromTo i hosts) nodes r b → IsLeastIf (IsFromFirst (i + 1) hosts) nodes r (lesser a b)
first_more nodes r hosts i a b lt h k =
    let both : AreBoth (IsFromFirst i hosts) (IsFromTo i hosts) (IsFromFirst (i + 1) hosts) = record {
      cases = λ p q s. ⊎_elim
          (λ (before : p < i). inl (record { from = before; to = s.to; others = s.others }))
          (λ (ge : i ≤ p). inr (record { from = omega (arith, s.from, ge); to = s.to; others = s.others }))
          (cases_lt p i);
      first = λ p q s. record { from = omega (arith, s.from); to = s.to; others = s.others };
      second = λ p q s. record { from = omega (arith, s.from, lt); to = s.to; others = s.others };
    } in
    least_both (IsFromFirst i hosts) (IsFromTo i hosts) (IsFromFirst (i + 1) hosts) nodes r a b both h k

-- ALL PAIRS

pub lookahead_least : (nodes : List ℕ) (r : RouteMap) (o : Option ℕ) → IsLeastIf (IsFromFirst (length nodes) (length nodes)) nodes r o → IsLookahead nodes r o
lookahead_least nodes r None none =
    ⊎_elim
    (λ (lt : length nodes < 2). lt)
    (λ (ge : 2 ≤ length nodes). absurd (none 0 1 (record { from = omega (arith, ge); to = omega (arith, ge); others = λ e. omega (arith, e) })))
    (cases_lt (length nodes) 2)
lookahead_least nodes r (Some t) h = record {
  from = slice_index nodes h.from;
  to = slice_index nodes h.to;
  needed = record {
    first = h.from;
    second = h.to;
    others = h.among.others;
    from = record { within = h.among.from; is = refl };
    to = record { within = h.among.to; is = refl };
  };
  is = h.is;
  each = λ a b s need e.
      let P : ℕ → Type 0 = λ x. option_map (λ c. c.latency) (route_in r x b) ≡ Some s in
      let Q : ℕ → Type 0 = λ x. option_map (λ c. c.latency) (route_in r (slice_index nodes need.first) x) ≡ Some s in
      let there : latency_of nodes r need.first need.second ≡ Some s = subst Q (sym need.to.is) (subst P (sym need.from.is) e) in
      h.each need.first need.second s (record { from = need.from.within; to = need.to.within; others = need.others }) there;
}
