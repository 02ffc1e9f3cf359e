use Rattle.std.proofs.Common.{◌≡◌, ◌+◌, ◌++◌, length, map}
use Rattle.run_files.specs.Files.{put_of}
use Rattle.run_files.proofs.Writings.{left_of, puts_left}
use Rattle.run_files.proofs.growing.output_pieces.Given as goal

-- what is left completes the whole, and there is a host for each of it
abbrev pub invariant-loop-host : goal.invariant-loop-host
invariant-loop-host l = record {
  count : l.place + length (left_of l.hosts l.written l.host-index) ≡ length l.hosts;
  puts : map put_of l.pieces.items ++ puts_left l.hosts l.written l.place l.host-index ≡ puts_left l.hosts l.written 0 0;
}
