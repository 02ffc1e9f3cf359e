use Rattle.std.proofs.Common.{◌≡◌, ◌++◌, map}
use Rattle.std.specs.Prelude.{Vec}
use Rattle.std.specs.declared.alloc.Global.{Global}
use Rattle.sim_base.specs.declared.state.State.{State}
use Rattle.run_files.specs.Files.{put_of}
use Rattle.net_run.specs.Rest.{unmet_of_host}
use Rattle.run_files.proofs.Listings.{left_by_host}
use Rattle.net_run.proofs.ending.unmet.Given as goal

-- what is left completes the whole
abbrev pub invariant-loop-place : goal.invariant-loop-place
invariant-loop-place l =
    let left = left_by_host unmet_of_host (λ (v : Vec State Global). v.items) l.hosts l.states in
    map put_of l.pieces.items ++ left l.place ≡ left 0
