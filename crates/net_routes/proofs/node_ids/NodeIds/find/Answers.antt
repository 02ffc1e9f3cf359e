use Rattle.std.proofs.Common.{◌≡◌, List, ℕ, ◌<◌, length, get_or, ◌∙◌, ap, sym, subst, arith}
use Rattle.std.specs.List.Sorted.{IsBinarySearchResult}
use Rattle.std.specs.Ordering.{nat_cmp}
use Rattle.std.proofs.lemmas.List.{get_or_read}
use Rattle.net_routes.specs.inside.Places.{place_of}
use Rattle.net_routes.proofs.PlaceLemmas.{place_found, searched_place}
use Rattle.net_routes.proofs.node_ids.NodeIds.find.Goals as goal

pub returns-then-index-id-clause-place : goal.returns-then-index-id-clause-place
returns-then-index-id-clause-place c =
    let ids = c.self.inside.ids.items in
    let id = c.args.id in
    let same : ids ≡ c.args.self.now = cc c.self.view_is in
    let within : id < length ids = omega (arith, c.if-guess-len.true, c.len.ensures, c.self.inside.ids.ok.0) in
    let is : get_or ids id 0 ≡ id = sym (get_or_read ids id c.index.result.now within c.index.ensures 0) ∙ c.if-index-id.true in
    sym (ap (λ (xs : List ℕ). place_of xs id) (sym same) ∙ place_found ids id id c.self.invariant (record { within = within; is = is }))

pub returns-clause-place : goal.returns-clause-place
returns-clause-place c =
    let ids = c.self.inside.ids.items in
    let P : List ℕ → Type 0 = λ xs. IsBinarySearchResult (λ y. nat_cmp y c.args.id) xs c.binary_search.result in
    let same : ids ≡ c.args.self.now = cc c.self.view_is in
    c.ok.ensures.value ∙ searched_place ids c.args.id c.binary_search.result c.self.invariant (subst P c.deref.ensures.value c.binary_search.ensures.position) ∙ ap (λ (xs : List ℕ). place_of xs c.args.id) same
