use Rattle.std.proofs.Common.{ℕ, subst, arith}
use Rattle.host_inbox.specs.CarrierViews.{AreOpen}
use Rattle.round_lookahead.proofs.RoundFacts.{ready, whole, all_carriers, works_count, is_round}
use Rattle.round_lookahead.proofs.workers.round.run_beside.Goals as goal

pub fork-requires-clause-ready : goal.fork-requires-clause-ready
fork-requires-clause-ready g c κs within =
    ready c.args.net.now c.args.end.nanos c.args.tasks.items c.args.workers c.in-Ok.seats.items c.in_ok-boards.boards c.in_ok-boards.carriers.items c.in_ok-benches.benches.items
    c.in-Ok.ensures.dealt (subst (λ (n : ℕ). AreOpen n c.args.workers c.in_ok-boards.boards c.in_ok-boards.carriers.items) (let l = c.len-hosts.ensures in omega (arith, c.args.tasks.ok.0)) c.in_ok-boards.ensures) c.in_ok-benches.ensures c.requires.tasks

pub gather-requires : goal.gather-requires
gather-requires g c =
    whole c.args.net.now c.args.end.nanos c.args.tasks.items c.args.workers c.in-Ok.seats.items c.in_ok-boards.boards c.in_ok-boards.carriers.items c.in_ok-benches.benches.items
    c.in-Ok.ensures.dealt (subst (λ (n : ℕ). AreOpen n c.args.workers c.in_ok-boards.boards c.in_ok-boards.carriers.items) (let l = c.len-hosts.ensures in omega (arith, c.args.tasks.ok.0)) c.in_ok-boards.ensures) c.in_ok-benches.ensures
    c.fork.new.benches.items c.fork.ensures c.in_ok-seats.field-0.seats.items c.in_ok-seats.field-0.carriers.items c.in_ok-seats.field-0.works.items c.in_ok-seats.ensures

pub close-requires : goal.close-requires
close-requires g c =
    all_carriers c.args.net.now c.args.end.nanos c.args.tasks.items c.args.workers c.in-Ok.seats.items c.in_ok-boards.boards c.in_ok-boards.carriers.items c.in_ok-benches.benches.items
    c.in-Ok.ensures.dealt (subst (λ (n : ℕ). AreOpen n c.args.workers c.in_ok-boards.boards c.in_ok-boards.carriers.items) (let l = c.len-hosts.ensures in omega (arith, c.args.tasks.ok.0)) c.in_ok-boards.ensures) c.in_ok-benches.ensures
    c.fork.new.benches.items c.fork.ensures c.in_ok-seats.field-0.seats.items c.in_ok-seats.field-0.carriers.items c.in_ok-seats.field-0.works.items c.in_ok-seats.ensures

pub returns-clause-works : goal.returns-clause-works
returns-clause-works g c =
    works_count c.args.net.now c.args.end.nanos c.args.tasks.items c.args.workers c.in-Ok.seats.items c.in_ok-boards.boards c.in_ok-boards.carriers.items c.in_ok-benches.benches.items
    c.in-Ok.ensures.dealt (subst (λ (n : ℕ). AreOpen n c.args.workers c.in_ok-boards.boards c.in_ok-boards.carriers.items) (let l = c.len-hosts.ensures in omega (arith, c.args.tasks.ok.0)) c.in_ok-boards.ensures) c.in_ok-benches.ensures
    c.fork.new.benches.items c.fork.ensures c.in_ok-seats.field-0.seats.items c.in_ok-seats.field-0.carriers.items c.in_ok-seats.field-0.works.items c.in_ok-seats.ensures

pub returns-clause-round : goal.returns-clause-round
returns-clause-round g c = λ rec are.
    is_round c.args.net.now c.args.end.nanos c.args.tasks.items c.args.workers c.in-Ok.seats.items c.in_ok-boards.boards c.in_ok-boards.carriers.items c.in_ok-benches.benches.items
    c.in-Ok.ensures.dealt (subst (λ (n : ℕ). AreOpen n c.args.workers c.in_ok-boards.boards c.in_ok-boards.carriers.items) (let l = c.len-hosts.ensures in omega (arith, c.args.tasks.ok.0)) c.in_ok-boards.ensures) c.in_ok-benches.ensures
    c.fork.new.benches.items c.fork.ensures c.in_ok-seats.field-0.seats.items c.in_ok-seats.field-0.carriers.items c.in_ok-seats.field-0.works.items c.in_ok-seats.ensures
    c.in-Ok-gather.field-0.left.items c.in-Ok-gather.ensures.gathered c.in-Ok-close.drained.rows.items c.in-Ok-close.ensures.drained c.in-Ok-close.ensures.kept rec are
