use Rattle.std.proofs.Common.{◌≡◌, ◌++◌, string_bytes, take, codes, flat_map}
use Rattle.config_lines.specs.Shown.{shown_process}
use Rattle.config_lines.proofs.show.process.more_processes.Given as goal

-- what has been written so far
abbrev pub invariant-loop-process : goal.invariant-loop-process
invariant-loop-process l = string_bytes l.out ≡ string_bytes l.fn.before ++ flat_map shown_process (take l.process-index l.processes)
