use Rattle.std.proofs.Common.{◌≡◌, List, map, option_map, Vec, Global, ap, subst, ◌∙◌}
use Rattle.sim_base.specs.declared.state.State.{State}
use Rattle.run_files.specs.Listed.{HostNames, said}
use Rattle.run_files.specs.Files.{Put, put_of}
use Rattle.net_run.specs.Pieces.{with_pieces, PutsFront}
use Rattle.net_run.specs.Rest.{hosts_rest, ending, all_rest}
use Rattle.net_run.proofs.FrontLemmas.{front_first}
use Rattle.net_run.proofs.PieceLemmas.{on_err}
use Rattle.net_run.proofs.StepLemmas.{both_put, first_put, then_front}
use Rattle.net_run.proofs.ending.put_rest.Goals as goal

abbrev items_of : Vec State Global → List State
items_of v = v.items

pub returns-in_err-put_all_states-clause-err : goal.returns-in_err-put_all_states-clause-err
returns-in_err-put_all_states-clause-err g c =
    let states = map items_of c.args.states.now in
    let old = g.K.Sink.content c.args.sink.now in
    let new = g.K.Sink.content c.put_all_states.new.sink in
    let names = map said c.as_slice-hosts.result.now in
    on_err c.from_residual.result (subst (λ (hosts : List HostNames). PutsFront (all_rest hosts states c.args.summary) old new) (ap (map said) c.as_slice-hosts.ensures.value)
    (front_first (hosts_rest names states) (ending names states c.args.summary) old new c.in_err-put_all_states.ensures.err))

pub returns-in-Err-clause-err : goal.returns-in-Err-clause-err
returns-in-Err-clause-err g c =
    let states = map items_of c.args.states.now in
    let old = g.K.Sink.content c.args.sink.now in
    let mid = g.K.Sink.content c.put_all_states.new.sink in
    let names = map said c.as_slice-hosts.result.now in
    subst (λ (hosts : List HostNames). PutsFront (all_rest hosts states c.args.summary) old mid) (ap (map said) c.as_slice-hosts.ensures.value)
    (first_put (hosts_rest names states) (ending names states c.args.summary) old mid mid c.in_ok-put_all_states.ensures.ok)

pub returns-in_err-put_pieces-clause-err : goal.returns-in_err-put_pieces-clause-err
returns-in_err-put_pieces-clause-err g c =
    let states = map items_of c.args.states.now in
    let old = g.K.Sink.content c.args.sink.now in
    let mid = g.K.Sink.content c.put_all_states.new.sink in
    let new = g.K.Sink.content c.put_pieces.new.sink in
    let names = map said c.as_slice-hosts.result.now in
    on_err c.from_residual-in_err-put_pieces.result (subst (λ (hosts : List HostNames). PutsFront (all_rest hosts states c.args.summary) old new) (ap (map said) c.as_slice-hosts.ensures.value)
    (then_front (hosts_rest names states) (ending names states c.args.summary) old mid new c.in_ok-put_all_states.ensures.ok
    (subst (λ (l : List Put). PutsFront l mid new) (ap (map put_of) c.deref.ensures.value ∙ c.in-Ok.ensures.pieces) c.in_err-put_pieces.ensures.err)))

pub returns-clause-ok : goal.returns-clause-ok
returns-clause-ok g c =
    let states = map items_of c.args.states.now in
    let old = g.K.Sink.content c.args.sink.now in
    let mid = g.K.Sink.content c.put_all_states.new.sink in
    let new = g.K.Sink.content c.put_pieces.new.sink in
    let names = map said c.as_slice-hosts.result.now in
    subst (λ (hosts : List HostNames). new ≡ option_map (with_pieces (all_rest hosts states c.args.summary)) old) (ap (map said) c.as_slice-hosts.ensures.value)
    (both_put (hosts_rest names states) (ending names states c.args.summary) old mid new c.in_ok-put_all_states.ensures.ok
    (subst (λ (l : List Put). new ≡ option_map (with_pieces l) mid) (ap (map put_of) c.deref.ensures.value ∙ c.in-Ok.ensures.pieces) c.in_ok-put_pieces.ensures.ok))
