use Rattle.std.proofs.Common.{ℕ, sym, ap, ◌∙◌, Some}
use Rattle.gml_graph.proofs.NumberLemmas.{great_part, part_at, units_at, chosen, not_chosen}
use Rattle.gml_graph.proofs.number.Decimal.units.Goals as goal

pub returns-then-self-2 : goal.returns-then-self-2
returns-then-self-2 c = not_chosen _ _ _ (great_part c.args.self.now c.if-self-eq0.false c.if-self-2.true)

pub returns-then-not-is_at_most_power : goal.returns-then-not-is_at_most_power
returns-then-not-is_at_most_power c =
    let e = part_at c.args.self.now c.if-self-eq0.false c.if-self.false c.if-self-2.false in
    not_chosen _ _ _ (e ∙ sym c.is_at_most_power.ensures ∙ c.if-not-is_at_most_power.true)

pub returns : goal.returns
returns c =
    let e = part_at c.args.self.now c.if-self-eq0.false c.if-self.false c.if-self-2.false in
    chosen _ _ _ _ (e ∙ sym c.is_at_most_power.ensures ∙ c.if-not-is_at_most_power.false) (ap (λ (n : ℕ). Some n) (c.units_of.ensures ∙ sym (units_at c.args.self.now c.if-self-2.false)))
