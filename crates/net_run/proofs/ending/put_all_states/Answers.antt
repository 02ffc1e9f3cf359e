use Rattle.std.proofs.Common.{◌≡◌, ◌+◌, ◌++◌, List, option_map, Vec, Global, subst, ◌∙◌, arith}
use Rattle.sim_base.specs.declared.state.State.{State}
use Rattle.net_run.specs.Rest.{host_rest}
use Rattle.run_files.specs.Listed.{HostNames, said}
use Rattle.run_files.specs.Files.{Put}
use Rattle.net_run.specs.Pieces.{with_pieces, PutsFront}
use Rattle.net_run.proofs.PieceLemmas.{on_err}
use Rattle.run_files.proofs.Listings.{left_by_host, host_next, host_none}
use Rattle.net_run.proofs.StepLemmas.{step_put, step_front, step_here, all_put}
use Rattle.net_run.proofs.ending.put_all_states.Goals as goal

abbrev items_of : Vec State Global → List State
items_of v = v.items

abbrev put_by : HostNames → List State → List Put
put_by host states = host_rest host states

pub returns-in_err-put_states-clause-err : goal.returns-in_err-put_states-clause-err
returns-in_err-put_states-clause-err g c =
    let i = c.loop-place.place in
    let left = left_by_host put_by items_of c.args.hosts.now c.args.states.now in
    let old = g.K.Sink.content c.loop-place.sink in
    let new = g.K.Sink.content c.put_states.new.sink in
    let here = put_by (said c.index-hosts-place.result) (items_of c.index-states-place.result) in
    let next : left i ≡ here ++ left (i + 1) =
    host_next put_by items_of c.args.hosts.now c.args.states.now i c.index-hosts-place.result c.index-states-place.result c.loop-place-test.true c.requires c.index-hosts-place.is c.index-states-place.is in
    let some : PutsFront here old new = subst (λ (l : List State). PutsFront (put_by (said c.index-hosts-place.result) l) old new) c.as_slice.ensures.value c.in_err-put_states.ensures.err in
    on_err c.from_residual.result (
    (c.loop-place.invariant.part new (step_here here (left (i + 1)) old old new (left i) next some)))

pub loop-place-preserved : goal.loop-place-preserved
loop-place-preserved g c =
    let i = c.loop-place.place in
    let left = left_by_host put_by items_of c.args.hosts.now c.args.states.now in
    let old = g.K.Sink.content c.loop-place.sink in
    let mid = g.K.Sink.content c.put_states.new.sink in
    let here = put_by (said c.index-hosts-place.result) (items_of c.index-states-place.result) in
    let next : left i ≡ here ++ left (i + 1) =
    host_next put_by items_of c.args.hosts.now c.args.states.now i c.index-hosts-place.result c.index-states-place.result c.loop-place-test.true c.requires c.index-hosts-place.is c.index-states-place.is in
    let put : mid ≡ option_map (with_pieces here) old =
    subst (λ (l : List State). mid ≡ option_map (with_pieces (put_by (said c.index-hosts-place.result) l)) old) c.as_slice.ensures.value c.in_ok-put_states.ensures.ok in
    record {
      whole = step_put here (left (i + 1)) old mid mid (left i) next _ put c.loop-place.invariant.whole;
      part = λ new some. c.loop-place.invariant.part new (step_front here (left (i + 1)) old mid new (left i) next put some);
      faults = c.in_ok-put_states.ensures.count.0 ∙ c.loop-place.invariant.faults;
      errors = c.in_ok-put_states.ensures.count.1 ∙ c.loop-place.invariant.errors;
    }

pub returns-clause-ok : goal.returns-clause-ok
returns-clause-ok g c =
    all_put _ (g.K.Sink.content c.loop-place.sink) _ (host_none put_by items_of c.args.hosts.now c.args.states.now c.loop-place.place (let e = c.loop-place-test.false in omega arith)) c.loop-place.invariant.whole
