use Rattle.std.proofs.Common.{ap, sym, subst}
use Rattle.host_state.specs.HostStands.{Stands}
use Rattle.host_state.specs.declared.host.Host.{Host}
use Rattle.host_rows.specs.declared.row.Row.{Row}
use Rattle.round_lookahead.proofs.StreamSteps.{kept_is}
use Rattle.round_lookahead.proofs.world.streams.kept_by.Goals as goal

pub returns : goal.returns
returns c = λ h stands number.
    kept_is c.args.task.now.id c.row.result.now.address c.in_ok-streams.field-0.items h number
    (ap (λ (r : Row). r.address) (c.row.ensures h (subst (λ (x : Host). Stands x h) (sym c.deref.ensures) stands)))
    (c.in_ok-streams.ensures h (subst (λ (x : Host). Stands x h) (sym c.deref-2.ensures) stands))
