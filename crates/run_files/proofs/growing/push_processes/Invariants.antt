use Rattle.std.proofs.Common.{◌≡◌, ℕ, ◌++◌, drop, map}
use Rattle.run_files.specs.Files.{put_of}
use Rattle.run_files.specs.Grown.{process_grown, with_bytes}
use Rattle.run_files.specs.Listed.{by_process}
use Rattle.run_files.specs.declared.listed.ProcessListing.{ProcessListing}
use Rattle.run_files.proofs.growing.push_processes.Given as goal

-- what is left completes the whole
abbrev pub invariant-loop-place : goal.invariant-loop-place
invariant-loop-place l =
    let f = λ (p : ℕ) (process : ProcessListing). with_bytes (process_grown l.name l.outputs p process) in
    map put_of l.pieces.items ++ by_process f l.place (drop l.place l.processes) ≡ map put_of l.initial.pieces.items ++ by_process f 0 l.processes
