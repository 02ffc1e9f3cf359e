use Rattle.std.proofs.Common.{◌≡◌, ◌++◌, drop, map}
use Rattle.run_files.specs.Listed.{by_process}
use Rattle.run_files.specs.Files.{put_of}
use Rattle.net_run.specs.Rest.{unmet_of_process}
use Rattle.net_run.proofs.ending.push_host_unmet.Given as goal

-- what is left completes the whole
abbrev pub invariant-loop-place : goal.invariant-loop-place
invariant-loop-place l =
    map put_of l.pieces.items ++ by_process (unmet_of_process l.name l.states) l.place (drop l.place l.processes)
    ≡ map put_of l.initial.pieces.items ++ by_process (unmet_of_process l.name l.states) 0 l.processes
