use Rattle.std.proofs.Common.{◌+◌, ◌++◌, map, ap, ◌∙◌}
use Rattle.sim_base.specs.declared.state.State.{State}
use Rattle.run_files.specs.Files.{put_of}
use Rattle.file_calls.specs.Guest.{first_id}
use Rattle.net_run.specs.Rest.{unmet_of_process}
use Rattle.net_run.specs.Shown.{unmet_by}
use Rattle.run_files.proofs.Listings.{process_step}
use Rattle.net_run.proofs.ending.push_host_unmet.Goals as goal

pub loop-place-preserved : goal.loop-place-preserved
loop-place-preserved c =
    let name = c.as_str-name.result.now in
    let process = c.index-processes-place.result in
    process_step (unmet_of_process name c.args.states.now) c.loop-place.place c.as_slice-processes.result.now process (map put_of c.loop-place.pieces.items) (map put_of c.push_unmet.new.pieces.items) _
    c.loop-place-test.true c.index-processes-place.is
    (c.in_ok-push_unmet.ensures
    ∙ ap (λ (s : State). map put_of c.loop-place.pieces.items ++ unmet_by name process.program (first_id + c.loop-place.place) process.expected s) c.state_at-state.ensures)
    c.loop-place.invariant
