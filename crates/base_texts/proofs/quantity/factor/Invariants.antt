use Rattle.std.proofs.Common.{◌≡◌, drop}
use Rattle.base_texts.specs.Quantity.{factor_in, table, same_name}
use Rattle.base_texts.proofs.quantity.factor.Given as goal

abbrev pub invariant-loop-name : goal.invariant-loop-name
invariant-loop-name l =
    factor_in (same_name l.letters) (table (drop l.name-index l.units)) l.unit ≡ factor_in (same_name l.letters) (table l.units) l.unit
