-- The numbers that a reader of escapes keeps.
use Rattle.std.specs.Prelude.{◌≡◌, ◌<◌, ◌≤◌, ◌^◌}
use Rattle.yaml_tokens.specs.declared.escapes.Escape.{Escape}
use Rattle.yaml_tokens.specs.declared.escapes.Escape.TheVariants.{Outside, Behind, Digits}

-- the digits so far are four less those that are left, at most
abbrev pub IsInRange : Escape → Type 0
IsInRange Outside = Unit {0}
IsInRange Behind = Unit {0}
IsInRange (Digits left n) = (left ≤ 4) × (left ≡ 4 → n < 1) × (left ≡ 3 → n < 16) × (left ≡ 2 → n < 16 ^ 2) × (n < 16 ^ 3)
