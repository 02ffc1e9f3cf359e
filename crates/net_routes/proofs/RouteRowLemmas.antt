-- which costs hosts need, and a list of them
use Rattle.std.proofs.Common.{◌≡◌, ◌≢◌, ℕ, zero, suc, ◌+◌, ◌<◌, ◌≤◌, Bool, true, false, cond, ◌==◌, leb, List, [], ◌∷◌, ◌++◌, length, get_or, Option, None, refl, sym, ap, ◌∙◌, subst, ⊎_elim, arith}
use Rattle.std.specs.Prelude.{Contains, count_by, IsSome, MatchBool}
use Rattle.std.proofs.lemmas.Bool.{cases_eq, cases_lt}
use Rattle.std.proofs.lemmas.Bool.Decides.{nat_tests}
use Rattle.std.proofs.lemmas.List.{get_or_append_left, get_or_push}
use Rattle.std.proofs.lemmas.List.Sums.{sum_by-cons}
use Rattle.net_routes.specs.declared.cost.Cost.{Cost}
use Rattle.net_routes.specs.declared.error.RouteError.{RouteError}
use Rattle.net_routes.specs.declared.error.RouteError.TheVariants as errors
use Rattle.net_routes.specs.Needed.{IsAt, IsNeeded}
use Rattle.net_routes.specs.inside.RouteRows.{IsFirstLack, NamesLack}
use Rattle.net_routes.proofs.PlaceLemmas.{at_is, at_contains}

-- HOSTS ON A NODE

abbrev pub hosts_on : List ℕ → ℕ → ℕ
hosts_on nodes node = count_by (λ n. n == node) nodes

test_counts : (y x : ℕ) → y ≡ x → ◌≡◌ {A = ℕ} (cond (y == x) 1 0) 1
test_counts y x e = grind (arith, nat_tests)

test_misses : (y x : ℕ) → (y ≡ x → ⊥) → ◌≡◌ {A = ℕ} (cond (y == x) 1 0) 0
test_misses y x e = grind (arith, nat_tests)

counts_cons : (y x : ℕ) (xs : List ℕ) → hosts_on (y ∷ xs) x ≡ cond (y == x) 1 0 + hosts_on xs x
counts_cons y x xs = sum_by-cons (λ (n : ℕ). cond (n == x) 1 0) y xs

counted : (y x : ℕ) (xs : List ℕ) → y ≡ x → hosts_on (y ∷ xs) x ≡ 1 + hosts_on xs x
counted y x xs e = omega (arith, counts_cons y x xs, test_counts y x e)

missed : (y x : ℕ) (xs : List ℕ) → (y ≡ x → ⊥) → hosts_on (y ∷ xs) x ≡ hosts_on xs x
missed y x xs e = omega (arith, counts_cons y x xs, test_misses y x e)

at_first : (y : ℕ) (xs : List ℕ) → IsAt (y ∷ xs) zero y
at_first y xs = record { within = omega arith; is = refl }

at_later : (y : ℕ) (xs : List ℕ) (i x : ℕ) → IsAt xs i x → IsAt (y ∷ xs) (suc i) x
at_later y xs i x a = record { within = omega (arith, a.within); is = a.is }

pub one_host : (xs : List ℕ) (x : ℕ) → 1 ≤ hosts_on xs x → (i : ℕ) × IsAt xs i x
one_host [] x h = absurd (omega (arith, h))
one_host (y ∷ xs) x h =
    ⊎_elim
    (λ (same : y ≡ x). (zero, (let P : ℕ → Type 0 = λ z. IsAt (y ∷ xs) zero z in subst P same (at_first y xs))))
    (λ (other : y ≡ x → ⊥).
    let rest = one_host xs x (omega (arith, h, missed y x xs other)) in
    (suc rest.0, at_later y xs rest.0 x rest.1))
    (cases_eq y x)

pub two_hosts : (xs : List ℕ) (x : ℕ) → 2 ≤ hosts_on xs x → IsNeeded xs x x
two_hosts [] x h = absurd (omega (arith, h))
two_hosts (y ∷ xs) x h =
    ⊎_elim
    (λ (same : y ≡ x).
    let rest = one_host xs x (omega (arith, h, counted y x xs same)) in
    record {
      first = zero;
      second = suc rest.0;
      others = λ e. omega (arith, e);
      from = (let P : ℕ → Type 0 = λ z. IsAt (y ∷ xs) zero z in subst P same (at_first y xs));
      to = at_later y xs rest.0 x rest.1;
    })
    (λ (other : y ≡ x → ⊥).
    let rest = two_hosts xs x (omega (arith, h, missed y x xs other)) in
    record {
      first = suc rest.first;
      second = suc rest.second;
      others = λ e. rest.others (omega (arith, e));
      from = at_later y xs rest.first x rest.from;
      to = at_later y xs rest.second x rest.to;
    })
    (cases_eq y x)

host_counted : (xs : List ℕ) (i x : ℕ) → IsAt xs i x → 1 ≤ hosts_on xs x
host_counted [] i x a = absurd (omega (arith, a.within))
host_counted (y ∷ xs) zero x a = omega (arith, counted y x xs a.is)
host_counted (y ∷ xs) (suc i) x a =
    let rest = host_counted xs i x (record { within = omega (arith, a.within); is = a.is }) in
    omega (arith, counts_cons y x xs, rest)

pub contained_counted : (xs : List ℕ) (x : ℕ) → Contains xs x → 1 ≤ hosts_on xs x
contained_counted xs x h = let a = at_contains xs x h in host_counted xs a.0 x a.1

hosts_counted : (xs : List ℕ) (i j x : ℕ) → i ≢ j → IsAt xs i x → IsAt xs j x → 2 ≤ hosts_on xs x
hosts_counted [] i j x other a b = absurd (omega (arith, a.within))
hosts_counted (y ∷ xs) zero zero x other a b = absurd (other refl)
hosts_counted (y ∷ xs) zero (suc j) x other a b =
    let rest = host_counted xs j x (record { within = omega (arith, b.within); is = b.is }) in
    omega (arith, counted y x xs a.is, rest)
hosts_counted (y ∷ xs) (suc i) zero x other a b =
    let rest = host_counted xs i x (record { within = omega (arith, a.within); is = a.is }) in
    omega (arith, counted y x xs b.is, rest)
hosts_counted (y ∷ xs) (suc i) (suc j) x other a b =
    let rest = hosts_counted xs i j x (λ e. other (ap (λ (n : ℕ). suc n) e)) (record { within = omega (arith, a.within); is = a.is }) (record { within = omega (arith, b.within); is = b.is }) in
    omega (arith, counts_cons y x xs, rest)

-- two nodes of hosts
pub needed_apart : (nodes : List ℕ) (a b : ℕ) → Contains nodes a → Contains nodes b → (a ≡ b → ⊥) → IsNeeded nodes a b
needed_apart nodes a b from to other =
    let p = at_contains nodes a from in
    let q = at_contains nodes b to in
    record {
      first = p.0;
      second = q.0;
      others = λ e. other (let P : ℕ → Type 0 = λ i. IsAt nodes i a in at_is nodes q.0 a b (subst P e p.1) q.1);
      from = p.1;
      to = q.1;
    }

-- and one
pub needed_counted : (nodes : List ℕ) (a b : ℕ) → a ≡ b → IsNeeded nodes a b → 2 ≤ hosts_on nodes a
needed_counted nodes a b same n =
    let P : ℕ → Type 0 = λ x. IsAt nodes n.second x in
    hosts_counted nodes n.first n.second a n.others n.from (subst P (sym same) n.to)

needed_either : (nodes : List ℕ) (a b count : ℕ) (r : Bool) → leb 2 count ≡ r → a ≡ b → count ≡ hosts_on nodes a → MatchBool r (IsNeeded nodes a b) (IsNeeded nodes a b → ⊥)
needed_either nodes a b count true e same is =
    let P : ℕ → Type 0 = λ x. IsNeeded nodes a x in
    let two : 2 ≤ count = grind (arith, nat_tests) in
    subst P same (two_hosts nodes a (omega (arith, two, is)))
needed_either nodes a b count false e same is = λ n.
    let fewer : count < 2 = grind (arith, nat_tests) in
    omega (arith, fewer, is, needed_counted nodes a b same n)

pub needed_tested : (nodes : List ℕ) (a b count : ℕ) → a ≡ b → count ≡ hosts_on nodes a → MatchBool (leb 2 count) (IsNeeded nodes a b) (IsNeeded nodes a b → ⊥)
needed_tested nodes a b count same is = needed_either nodes a b count (leb 2 count) refl same is

-- LINES

-- the costs up to an index
pub record IsRowBelow (count : ℕ) (nodes stops : List ℕ) (from : ℕ) (found : ℕ → Option Cost) (row : List (Option Cost)) : Type 0 where
  pub each : (k to : ℕ) → k < count → IsAt stops k to → get_or row k None ≡ found to
  pub whole : (k to : ℕ) → k < count → IsAt stops k to → IsNeeded nodes from to → IsSome (found to)

pub row_none : (nodes stops : List ℕ) (from : ℕ) (found : ℕ → Option Cost) (row : List (Option Cost)) → IsRowBelow 0 nodes stops from found row
row_none nodes stops from found row = record {
  each = λ k to lt at. absurd (omega (arith, lt));
  whole = λ k to lt at need. absurd (omega (arith, lt));
}

pub row_more : (nodes stops : List ℕ) (from : ℕ) (found : ℕ → Option Cost) (row : List (Option Cost)) (i node : ℕ) (c : Option Cost) → length row ≡ i → IsAt stops i node → c ≡ found node → (IsNeeded nodes from node → IsSome c)
    → IsRowBelow i nodes stops from found row → IsRowBelow (i + 1) nodes stops from found (row ++ c ∷ [])
row_more nodes stops from found row i node c size at is needed below = record {
  each = λ k to lt there. ⊎_elim
      (λ (before : k < i). get_or_append_left row (c ∷ []) None k (omega (arith, before, size)) ∙ below.each k to before there)
      (λ (ge : i ≤ k).
      let now : k ≡ i = omega (arith, lt, ge) in
      let P : ℕ → Type 0 = λ p. IsAt stops p to in
      let ends : to ≡ node = at_is stops i to node (subst P now there) at in
      get_or_push row c None k (size ∙ sym now) ∙ is ∙ ap found (sym ends))
      (cases_lt k i);
  whole = λ k to lt there need. ⊎_elim
      (λ (before : k < i). below.whole k to before there need)
      (λ (ge : i ≤ k).
      let now : k ≡ i = omega (arith, lt, ge) in
      let P : ℕ → Type 0 = λ p. IsAt stops p to in
      let ends : to ≡ node = at_is stops i to node (subst P now there) at in
      let N : ℕ → Type 0 = λ p. IsNeeded nodes from p in
      let S : Option Cost → Type 0 = λ o. IsSome o in
      subst S (is ∙ ap found (sym ends)) (needed (subst N ends need)))
      (cases_lt k i);
}

-- what stops a row
pub names_lack : (nodes stops : List ℕ) (from : ℕ) (found : ℕ → Option Cost) (e : RouteError) (row : List (Option Cost)) (i to : ℕ) → e ≡ errors.NoRoute from to → IsAt stops i to → IsNeeded nodes from to → found to ≡ None
    → IsRowBelow i nodes stops from found row → NamesLack nodes stops from found e
names_lack nodes stops from found e row i to which at need none below =
    let P : RouteError → Type 0 = λ o. NamesLack nodes stops from found o in
    let lack : IsFirstLack nodes stops from found to = record {
      place = i;
      at = at;
      needed = need;
      none = none;
      first = λ k before lt there n. below.whole k before lt there n;
    } in
    subst P (sym which) (refl, lack)
