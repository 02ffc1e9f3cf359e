use Rattle.std.proofs.Common.{◌≡◌, ◌++◌, drop, map}
use Rattle.run_files.specs.Listed.{by_process}
use Rattle.run_files.specs.Files.{put_of}
use Rattle.net_run.specs.Rest.{process_rest}
use Rattle.net_run.proofs.ending.rest_pieces.Given as goal

-- what is left completes the whole
abbrev pub invariant-loop-place : goal.invariant-loop-place
invariant-loop-place l = map put_of l.pieces.items ++ by_process (process_rest l.name l.states) l.place (drop l.place l.processes) ≡ by_process (process_rest l.name l.states) 0 l.processes
