use Rattle.std.proofs.Common.{◌≡◌, ◌-◌}
use Rattle.file_calls.specs.Files.{path_length, length_from}
use Rattle.file_calls.proofs.files.path_length.Given as goal

abbrev pub invariant-loop-count : goal.invariant-loop-count
invariant-loop-count l = path_length l.fn.at l.memory ≡ length_from l.count (4096 - l.count) l.fn.at l.memory
