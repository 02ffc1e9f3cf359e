use Rattle.std.proofs.Common.{◌≡◌, ◌++◌, string_bytes, codes, flat_map}
use Rattle.config_lines.specs.Quoted.{escaped}
use Rattle.config_lines.proofs.show.quoted.quoted.Given as goal

-- what has been written so far
abbrev pub invariant-loop-character : goal.invariant-loop-character
invariant-loop-character l = string_bytes l.out ≡ codes "\"" ++ flat_map escaped l.yielded
