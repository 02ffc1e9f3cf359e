use Rattle.std.proofs.Common.{◌≡◌, ℕ, true, false, sym, ap, ◌∙◌}
use Rattle.udp_table.specs.Table.{takes_in}
use Rattle.udp_table.specs.inside.Indexing.{at_place}
use Rattle.udp_table.proofs.Found.{some_is}
use Rattle.udp_table.proofs.index.Index.taker_at.Goals as goal

pub returns-then-takes-clause-only : goal.returns-then-takes-clause-only
returns-then-takes-clause-only c = λ h k local takes.
    let found = sym c.get.ensures.value ∙ (sym c.copied.ensures ∙ c.in-Some.is) in
    sym found ∙ h.bound.each k c.args.at local

pub returns-else-takes-clause-only : goal.returns-else-takes-clause-only
returns-else-takes-clause-only c = λ h k local takes.
    let found = sym c.get.ensures.value ∙ (sym c.copied.ensures ∙ c.in-Some.is) in
    let same : c.in-Some.place ≡ k = some_is c.in-Some.place k (sym found ∙ h.bound.each k c.args.at local) in
    let none : false ≡ true =
    sym c.if-takes.false
    ∙ (c.takes.ensures
    ∙ (ap (takes_in c.args.from c.args.to) c.at_place.ensures
    ∙ (ap (λ (n : ℕ). takes_in c.args.from c.args.to (at_place c.args.places.now n)) same ∙ takes))) in
    cc

pub returns-in-None-clause-only : goal.returns-in-None-clause-only
returns-in-None-clause-only c = λ h k local takes.
    let none = sym c.get.ensures.value ∙ (sym c.copied.ensures ∙ c.in-None.is) in
    sym none ∙ h.bound.each k c.args.at local
