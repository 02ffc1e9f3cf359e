use Rattle.std.proofs.Common.{◌≡◌, ◌++◌, string_bytes, take, codes, flat_map}
use Rattle.config_lines.specs.Quoted.{quoted}
use Rattle.config_lines.proofs.show.process.more_args.Given as goal

-- what has been written so far
abbrev pub invariant-loop-arg : goal.invariant-loop-arg
invariant-loop-arg l = string_bytes l.out ≡ string_bytes l.fn.before ++ flat_map (λ y. codes ", " ++ quoted y) (take l.arg-index l.args)
