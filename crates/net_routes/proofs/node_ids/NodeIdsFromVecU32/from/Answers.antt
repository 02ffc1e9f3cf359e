use Rattle.std.proofs.Common.{◌≡◌, List, ℕ, eqb, sym, subst}
use Rattle.std.specs.Prelude.{Contains}
use Rattle.std.specs.List.{dedup}
use Rattle.std.specs.List.Sorted.{IsStrictlyIncreasing}
use Rattle.std.proofs.lemmas.List.Filters.{dedup_is}
use Rattle.std.proofs.lemmas.List.Kept.{Contains-dedup_nat, Contains-from_dedup}
use Rattle.std.proofs.lemmas.List.Sorted.{Contains-permutation, IsPermutation-sym}
use Rattle.std.proofs.lemmas.Map.Keys.{IsStrictlyIncreasing-dedup}
use Rattle.net_routes.proofs.node_ids.NodeIdsFromVecU32.from.Goals as goal

pub invariant_of-result : goal.invariant_of-result
invariant_of-result c =
    let sorted = c.sort_unstable.new.self.items in
    let kept : c.dedup.new.self.items ≡ dedup eqb sorted = dedup_is eqb sorted c.dedup.new.self.items c.dedup.ensures.filtered in
    let P : List ℕ → Type 0 = λ xs. IsStrictlyIncreasing xs in
    subst P (sym kept) (IsStrictlyIncreasing-dedup sorted c.sort_unstable.ensures.sorted)

pub returns-clause-ids : goal.returns-clause-ids
returns-clause-ids c id =
    let given = c.args.ids.items in
    let sorted = c.sort_unstable.new.self.items in
    let kept : c.dedup.new.self.items ≡ dedup eqb sorted = dedup_is eqb sorted c.dedup.new.self.items c.dedup.ensures.filtered in
    let P : List ℕ → Type 0 = λ xs. Contains xs id in
    let there : Contains c.dedup.new.self.items id → Contains given id = λ h.
    Contains-permutation sorted given id (IsPermutation-sym given sorted c.sort_unstable.ensures.permutation) (Contains-from_dedup eqb sorted id (subst P kept h)) in
    let back : Contains given id → Contains c.dedup.new.self.items id = λ h.
    subst P (sym kept) (Contains-dedup_nat sorted id (Contains-permutation given sorted id c.sort_unstable.ensures.permutation h)) in
    (there, back)
