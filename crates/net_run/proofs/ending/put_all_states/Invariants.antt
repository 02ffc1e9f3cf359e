use Rattle.std.proofs.Common.{◌≡◌, Option, option_map}
use Rattle.std.specs.Prelude.{Vec}
use Rattle.std.specs.declared.alloc.Global.{Global}
use Rattle.run_outside.specs.Sink.{Content}
use Rattle.sim_base.specs.declared.state.State.{State}
use Rattle.net_run.specs.Pieces.{with_pieces, PutsFront}
use Rattle.net_run.specs.Rest.{host_rest}
use Rattle.run_files.proofs.Listings.{left_by_host}
use Rattle.net_run.proofs.ending.put_all_states.Given as goal

-- what is left completes the whole, and no call has answered an error
abbrev pub invariant-loop-place : goal.invariant-loop-place
invariant-loop-place g l =
    let left = left_by_host host_rest (λ (v : Vec State Global). v.items) l.hosts l.states in
    record {
      whole : option_map (with_pieces (left l.place)) (g.K.Sink.content l.sink) ≡ option_map (with_pieces (left 0)) (g.K.Sink.content l.initial.sink);
      part : (new : Option Content) → PutsFront (left l.place) (g.K.Sink.content l.sink) new → PutsFront (left 0) (g.K.Sink.content l.initial.sink) new;
      faults : (g.K.Sink.tally l.sink).faults ≡ (g.K.Sink.tally l.initial.sink).faults;
      errors : (g.K.Sink.tally l.sink).errors ≡ (g.K.Sink.tally l.initial.sink).errors;
    }
