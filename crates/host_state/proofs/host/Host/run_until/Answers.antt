use Rattle.host_state.proofs.Runs.{so_far_start, may_run_on, run_falls, so_far_on, has_run, may_run_same}
use Rattle.host_state.proofs.host.Host.run_until.Goals as goal

pub events-init : goal.events-init
events-init c = record {
  own = c.requires.own;
  so_far = λ h s. so_far_start c.args.net.now c.args.end c.args.self.now c.args.out.now h s;
}

pub events-preserved : goal.events-preserved
events-preserved c = record {
  own = may_run_on c.args.net.now c.requires.stop c.args.end c.requires.until c.events.self c.take_due.new.self c.fire.new.self c.in-Some.event c.events.out c.fire.new.out
      c.in-Some.ensures.taken c.in-Some.ensures.ordered c.take_due.ensures.body c.in-Some.ensures.due c.in_ok-fire.ensures c.events.invariant.own;
  so_far = λ h s. so_far_on c.args.net.now c.requires.stop c.args.end c.requires.until c.events.self c.take_due.new.self c.fire.new.self c.in-Some.event c.events.out c.fire.new.out
      c.in-Some.ensures.taken c.in-Some.ensures.ordered c.take_due.ensures.body c.in-Some.ensures.due c.in_ok-fire.ensures c.events.invariant.own h c.args.self.now.queue c.args.out.now (c.events.invariant.so_far h s);
}

pub events-smaller : goal.events-smaller
events-smaller c =
    run_falls c.args.net.now c.requires.stop c.args.end c.requires.until c.events.self c.take_due.new.self c.fire.new.self c.in-Some.event c.events.out c.fire.new.out
    c.in-Some.ensures.taken c.in-Some.ensures.ordered c.take_due.ensures.body c.in-Some.ensures.due c.in_ok-fire.ensures c.events.invariant.own

pub returns-clause-ran : goal.returns-clause-ran
returns-clause-ran c = λ h s.
    has_run c.args.net.now c.args.end h c.args.self.now c.events.self c.take_due.new.self c.args.out.now c.events.out (c.events.invariant.so_far h s)
    c.in_default.ensures.over c.in_default.ensures.queue c.take_due.ensures.body

pub returns-clause-own : goal.returns-clause-own
returns-clause-own c = may_run_same c.args.net.now c.events.self c.take_due.new.self c.in_default.ensures.queue c.take_due.ensures.body c.events.invariant.own
