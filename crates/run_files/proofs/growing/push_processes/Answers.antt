use Rattle.std.proofs.Common.{ℕ, List, map, ◌++◌, ap, ◌∙◌, arith}
use Rattle.run_files.specs.Grown.{process_grown, with_bytes}
use Rattle.run_files.specs.Listed.{by_process}
use Rattle.run_files.specs.Files.{Put, put_of}
use Rattle.run_files.specs.declared.listed.ProcessListing.{ProcessListing}
use Rattle.run_files.proofs.Listings.{process_end, bytes_by_process}
use Rattle.run_files.proofs.growing.push_processes.Goals as goal

pub returns : goal.returns
returns c =
    let name = c.as_str-name.result.now in
    let processes = c.as_slice-processes.result.now in
    let outputs = c.args.outputs.now in
    let old = map put_of c.args.pieces.now.items in
    process_end (λ (p : ℕ) (process : ProcessListing). with_bytes (process_grown name outputs p process)) c.loop-place.place processes (map put_of c.loop-place.pieces.items) _
    (let e = c.loop-place-test.false in omega arith) c.loop-place.invariant
    ∙ ap (λ (l : List Put). old ++ l)
    (bytes_by_process (process_grown name outputs) 0 processes
    ∙ ap (λ (host : List ℕ). with_bytes (by_process (process_grown host outputs) 0 processes)) c.as_str-name.ensures
    ∙ ap (λ (ps : List ProcessListing). with_bytes (by_process (process_grown c.args.host.now.name outputs) 0 ps)) c.as_slice-processes.ensures.value)
