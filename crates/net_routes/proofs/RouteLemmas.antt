-- from what was found to routes
use Rattle.std.proofs.Common.{◌≡◌, ℕ, ◌+◌, ◌<◌, ◌≤◌, Bool, true, List, [], ◌∷◌, ◌++◌, length, get_or, Option, Some, None, refl, sym, ap, ◌∙◌, subst, inl, inr, ⊎_elim, arith}
use Rattle.std.specs.Prelude.{Contains, IsSome, IsSomeAnd, is_some, option_and_then, ◌↔◌}
use Rattle.std.specs.List.Sorted.{IsStrictlyIncreasing}
use Rattle.std.proofs.lemmas.Bool.{cases_lt}
use Rattle.std.proofs.lemmas.List.{get_or_append_left, get_or_push}
use Rattle.gml_graph.specs.declared.graph.Graph.{Graph}
use Rattle.net_routes.specs.declared.cost.Cost.{Cost}
use Rattle.net_routes.specs.Cost.{IsAsGood}
use Rattle.net_routes.specs.Walk.{Goes, IsRoute, hops}
use Rattle.net_routes.specs.Needed.{IsAt, IsNeeded}
use Rattle.net_routes.specs.inside.Places.{place_of}
use Rattle.net_routes.specs.inside.Path.{IsBest}
use Rattle.net_routes.specs.declared.error.RouteError.{RouteError}
use Rattle.net_routes.specs.declared.error.RouteError.TheVariants as errors
use Rattle.net_routes.specs.inside.RouteRows.{IsRouteRow, IsFirstLack, NamesLack}
use Rattle.net_routes.specs.Routes.{IsLeastLack, IsRefusal}
use Rattle.net_routes.specs.inside.RouteMaps.{route_at}
use Rattle.net_routes.specs.Table.{IsRouteIfAny}
use Rattle.net_routes.proofs.ListLemmas.{some_same}
use Rattle.net_routes.proofs.PlaceLemmas.{place_at, at_rises, at_is, at_contains, contains_at, place_found}

-- a row with the routes from a node, among them those that hosts need
pub record HasRoutesFrom (g : Graph) (shortest : Bool) (nodes stops : List ℕ) (from : ℕ) (row : List (Option Cost)) : Type 0 where
  pub size : length row ≡ length stops
  pub each : (k to : ℕ) → IsAt stops k to → IsRouteIfAny g shortest from to (get_or row k None)
  pub whole : (k to : ℕ) → IsAt stops k to → IsNeeded nodes from to → (c : Cost) × (get_or row k None ≡ Some c) × IsRoute g shortest from to c

false_some : (o : Option Cost) → is_some o ≡ true → (c : Cost) × (o ≡ Some c)
false_some (Some c) h = (c, refl)
false_some None h = absurd (let never : ⊥ = cc in never)

-- the rows of the first nodes
abbrev pub HasRoutesBelow : ℕ → Graph → Bool → List ℕ → List ℕ → List (List (Option Cost)) → Type 0
HasRoutesBelow count g shortest nodes stops rows = (i from : ℕ) → i < count → IsAt stops i from → HasRoutesFrom g shortest nodes stops from (get_or rows i [])

is_route : (g : Graph) (shortest : Bool) (a b : ℕ) (found : ℕ → Option Cost) (c : Cost) → IsBest (Goes (hops g) shortest a) found → found b ≡ Some c → IsRoute g shortest a b c
is_route g shortest a b found c k e = record {
  goes = k.goes b c e;
  best = λ d h.
      let w = k.least b d h in
      let P : Cost → Type 0 = λ q. IsAsGood q d in
      subst P (some_same w.0 c (sym w.1 ∙ e)) w.2;
}

none_found : (c : Cost) (o : Option Cost) → o ≡ None → o ≡ Some c → ⊥
none_found c o n e = cc

route_if_any : (g : Graph) (shortest : Bool) (a b : ℕ) (found : ℕ → Option Cost) (o : Option Cost) → IsBest (Goes (hops g) shortest a) found → found b ≡ o → IsRouteIfAny g shortest a b o
route_if_any g shortest a b found (Some c) k e = is_route g shortest a b found c k e
route_if_any g shortest a b found None k e = λ c h. let w = k.least b c h in none_found w.0 (found b) e w.1

pub routes_from : (g : Graph) (shortest : Bool) (nodes stops : List ℕ) (from : ℕ) (found : ℕ → Option Cost) (row : List (Option Cost)) → IsBest (Goes (hops g) shortest from) found → IsRouteRow nodes stops from found row → HasRoutesFrom g shortest nodes stops from row
routes_from g shortest nodes stops from found row best is = record {
  size = is.size;
  each = λ k to at. route_if_any g shortest from to found (get_or row k None) best (sym (is.each k to at));
  whole = λ k to at need.
      let w = false_some (found to) (is.whole k to at need) in
      (w.0, is.each k to at ∙ w.1, is_route g shortest from to found w.0 best w.1);
}

pub routes_more : (g : Graph) (shortest : Bool) (nodes stops : List ℕ) (rows : List (List (Option Cost))) (row : List (Option Cost)) (i from : ℕ) → length rows ≡ i → IsAt stops i from → HasRoutesFrom g shortest nodes stops from row
    → HasRoutesBelow i g shortest nodes stops rows → HasRoutesBelow (i + 1) g shortest nodes stops (rows ++ row ∷ [])
routes_more g shortest nodes stops rows row i from size at is below k node lt there =
    ⊎_elim
    (λ (before : k < i).
    let P : List (Option Cost) → Type 0 = λ l. HasRoutesFrom g shortest nodes stops node l in
    subst P (sym (get_or_append_left rows (row ∷ []) [] k (omega (arith, before, size)))) (below k node before there))
    (λ (ge : i ≤ k).
    let now : k ≡ i = omega (arith, lt, ge) in
    let P : ℕ → Type 0 = λ p. IsAt stops p node in
    let here : node ≡ from = at_is stops i node from (subst P now there) at in
    let Q : List (Option Cost) → Type 0 = λ l. HasRoutesFrom g shortest nodes stops node l in
    let R : ℕ → Type 0 = λ p. HasRoutesFrom g shortest nodes stops p row in
    subst Q (sym (get_or_push rows row [] k (size ∙ sym now))) (subst R (sym here) is))
    (cases_lt k i)

-- THE WHOLE

pub needed_from : (nodes : List ℕ) (a b : ℕ) → IsNeeded nodes a b → Contains nodes a
needed_from nodes a b n = contains_at nodes n.first a n.from

pub needed_to : (nodes : List ℕ) (a b : ℕ) → IsNeeded nodes a b → Contains nodes b
needed_to nodes a b n = contains_at nodes n.second b n.to

abbrev then_place : List ℕ → List (List (Option Cost)) → ℕ → ℕ → Option Cost
then_place stops rows b i = option_and_then (λ j. get_or (get_or rows i []) j None) (place_of stops b)

-- what rows keep for two nodes stands at their places
pub route_placed : (stops : List ℕ) (rows : List (List (Option Cost))) (a b i j : ℕ) → place_of stops a ≡ Some i → place_of stops b ≡ Some j → route_at stops rows a b ≡ get_or (get_or rows i []) j None
route_placed stops rows a b i j p q =
    ap (λ (o : Option ℕ). option_and_then (then_place stops rows b) o) p ∙ ap (λ (o : Option ℕ). option_and_then (λ j. get_or (get_or rows i []) j None) o) q

some_and : (P : Cost → Type 0) (o : Option Cost) (c : Cost) → o ≡ Some c → P c → IsSomeAnd o P
some_and P o c e h = let Q : Option Cost → Type 0 = λ q. IsSomeAnd q P in subst Q (sym e) h

pub routes_whole : (g : Graph) (shortest : Bool) (nodes stops : List ℕ) (rows : List (List (Option Cost))) (count : ℕ) → IsStrictlyIncreasing stops → ((id : ℕ) → Contains stops id ↔ Contains nodes id) → length stops ≤ count
    → HasRoutesBelow count g shortest nodes stops rows → (a b : ℕ) → IsNeeded nodes a b → (c : Cost) × (route_at stops rows a b ≡ Some c) × IsRoute g shortest a b c
routes_whole g shortest nodes stops rows count up same all below a b need =
    let p = at_contains stops a ((same a).1 (needed_from nodes a b need)) in
    let q = at_contains stops b ((same b).1 (needed_to nodes a b need)) in
    let w = (below p.0 a (omega (arith, p.1.within, all)) p.1).whole q.0 b q.1 need in
    (w.0, route_placed stops rows a b p.0 q.0 (place_found stops p.0 a up p.1) (place_found stops q.0 b up q.1) ∙ w.1, w.2)

sound_at : (g : Graph) (shortest : Bool) (nodes stops : List ℕ) (rows : List (List (Option Cost))) (count a b : ℕ) (c : Cost) (p q : Option ℕ) → length stops ≤ count → HasRoutesBelow count g shortest nodes stops rows → place_of stops a ≡ p → place_of stops b ≡ q
    → option_and_then (λ i. option_and_then (λ j. get_or (get_or rows i []) j None) q) p ≡ Some c → IsRoute g shortest a b c
sound_at g shortest nodes stops rows count a b c None q all below e f h = absurd (let never : ⊥ = cc in never)
sound_at g shortest nodes stops rows count a b c (Some i) None all below e f h = absurd (let never : ⊥ = cc in never)
sound_at g shortest nodes stops rows count a b c (Some i) (Some j) all below e f h =
    let at = place_at stops a i e in
    subst (IsRouteIfAny g shortest a b) h ((below i a (omega (arith, at.within, all)) at).each j b (place_at stops b j f))

-- each cost that is kept is a route
pub routes_sound : (g : Graph) (shortest : Bool) (nodes stops : List ℕ) (rows : List (List (Option Cost))) (count : ℕ) → length stops ≤ count → HasRoutesBelow count g shortest nodes stops rows
    → (a b : ℕ) (c : Cost) → route_at stops rows a b ≡ Some c → IsRoute g shortest a b c
routes_sound g shortest nodes stops rows count all below a b c e = sound_at g shortest nodes stops rows count a b c (place_of stops a) (place_of stops b) all below refl refl e

pub some_route : (g : Graph) (shortest : Bool) (a b : ℕ) (o : Option Cost) → (c : Cost) × (o ≡ Some c) × IsRoute g shortest a b c → IsSomeAnd o (IsRoute g shortest a b)
some_route g shortest a b o w = some_and (IsRoute g shortest a b) o w.0 w.1 w.2

pub some_there : (o : Option Cost) (c : Cost) → o ≡ Some c → IsSome o
some_there o c e = ap (λ (q : Option Cost). is_some q) e

-- REFUSALS

pub lack_least : (g : Graph) (shortest : Bool) (nodes stops : List ℕ) (rows : List (List (Option Cost))) (i from to : ℕ) (found : ℕ → Option Cost) → IsStrictlyIncreasing stops → ((id : ℕ) → Contains stops id ↔ Contains nodes id) → IsAt stops i from
    → HasRoutesBelow i g shortest nodes stops rows → IsBest (Goes (hops g) shortest from) found → IsFirstLack nodes stops from found to → IsLeastLack g shortest nodes from to
lack_least g shortest nodes stops rows i from to found up same at below k lack = record {
  lacks = record {
    needed = lack.needed;
    none = λ c h. let w = k.least to c h in none_found w.0 (found to) lack.none w.1;
  };
  least = λ p q other.
      let a = at_contains stops p ((same p).1 (needed_from nodes p q other.needed)) in
      let b = at_contains stops q ((same q).1 (needed_to nodes p q other.needed)) in
      ⊎_elim
      (λ (before : a.0 < i).
      let w = (below a.0 p before a.1).whole b.0 q b.1 other.needed in
      absurd (other.none w.0 w.2.goes))
      (λ (ge : i ≤ a.0). ⊎_elim
      (λ (behind : i < a.0). inl (at_rises stops i a.0 from p up at a.1 behind))
      (λ (le : a.0 ≤ i).
      let here : a.0 ≡ i = omega (arith, le, ge) in
      let A : ℕ → Type 0 = λ n. IsAt stops n p in
      let starts : p ≡ from = at_is stops i p from (subst A here a.1) at in
      inr (
        sym starts,
        ⊎_elim
            (λ (before : b.0 < lack.place).
            let N : ℕ → Type 0 = λ n. IsNeeded nodes n q in
            let there = false_some (found q) (lack.first b.0 q before b.1 (subst N starts other.needed)) in
            let G : ℕ → Type 0 = λ n. Goes (hops g) shortest n q there.0 in
            absurd (other.none there.0 (subst G (sym starts) (k.goes q there.0 there.1))))
            (λ (later : lack.place ≤ b.0). ⊎_elim
            (λ (behind : lack.place < b.0). omega (arith, at_rises stops lack.place b.0 to q up lack.at b.1 behind))
            (λ (not_behind : b.0 ≤ lack.place).
            let same_place : b.0 ≡ lack.place = omega (arith, later, not_behind) in
            let B : ℕ → Type 0 = λ n. IsAt stops n q in
            omega (arith, at_is stops lack.place q to (subst B same_place b.1) lack.at))
            (cases_lt lack.place b.0))
            (cases_lt b.0 lack.place),
      ))
      (cases_lt i a.0))
      (cases_lt a.0 i);
}

-- the nodes of hosts, each once
pub stops_of : (ids stops given nodes : List ℕ) → ids ≡ stops → given ≡ nodes → ((id : ℕ) → Contains stops id ↔ Contains given id) → (id : ℕ) → Contains ids id ↔ Contains nodes id
stops_of ids stops given nodes same copied all id =
    let P : List ℕ → Type 0 = λ xs. Contains xs id ↔ Contains given id in
    let Q : List ℕ → Type 0 = λ xs. Contains ids id ↔ Contains xs id in
    subst Q copied (subst P (sym same) (all id))

pub refused : (g : Graph) (shortest : Bool) (nodes stops : List ℕ) (rows : List (List (Option Cost))) (i from : ℕ) (found : ℕ → Option Cost) (e : RouteError) → IsStrictlyIncreasing stops → ((id : ℕ) → Contains stops id ↔ Contains nodes id) → IsAt stops i from
    → HasRoutesBelow i g shortest nodes stops rows → IsBest (Goes (hops g) shortest from) found → NamesLack nodes stops from found e → IsRefusal g shortest nodes e
refused g shortest nodes stops rows i from found (errors.NoRoute a b) up same at below k h =
    let P : ℕ → Type 0 = λ n. IsLeastLack g shortest nodes n b in
    subst P (sym h.0) (lack_least g shortest nodes stops rows i from b found up same at below k h.1)
refused g shortest nodes stops rows i from found errors.NoMemory up same at below k h = tt
