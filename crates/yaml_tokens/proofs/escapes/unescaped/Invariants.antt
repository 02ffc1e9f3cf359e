use Rattle.std.proofs.Common.{◌≡◌, drop}
use Rattle.yaml_tokens.specs.Scalars.{unescaped, put_before}
use Rattle.yaml_tokens.specs.inside.Escapes.{IsInRange}
use Rattle.yaml_tokens.specs.declared.escapes.Escape.TheVariants.{Outside}
use Rattle.yaml_tokens.proofs.escapes.unescaped.Given as goal

abbrev pub invariant-loop-b : goal.invariant-loop-b
invariant-loop-b l = (put_before l.text.items (unescaped l.place (drop l.b-index l.bytes)) ≡ unescaped Outside l.bytes) × IsInRange l.place
