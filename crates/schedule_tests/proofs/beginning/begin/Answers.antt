use Rattle.std.proofs.Common.{ap}
use Rattle.sim_base.specs.declared.time.Time.{Time}
use Rattle.schedule_tests.proofs.Begun.{may_open, has_begun}
use Rattle.schedule_tests.proofs.beginning.begin.Goals as goal

pub open-requires-2-clause-may : goal.open-requires-2-clause-may
open-requires-2-clause-may c =
    may_open c.one_result.ensures.opening c.in_ok-lookahead.field-0 _ _ c.in_ok-lookahead.ensures.opened c.in_ok-hosts.ensures (ap (λ (t : Time). t.nanos) c.window-window.ensures.from) c.window-window.ensures.end

pub returns : goal.returns
returns c =
    has_begun c.one_result.ensures.opening c.args.run c.in_ok-lookahead.field-0 _ _ _ c.in_ok-lookahead.ensures.opens c.in_ok-lookahead.ensures.opened c.in_ok-hosts.ensures c.window-window.ensures.from c.window-window.ensures.end
    c.in_ok-round.ensures.window c.in_ok-round.ensures.stands
