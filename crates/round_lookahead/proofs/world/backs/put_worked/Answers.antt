use Rattle.std.proofs.Common.{◌++◌, List, ap, ◌∙◌}
use Rattle.sim_base.specs.declared.host.HostId.{HostId}
use Rattle.round_lookahead.specs.inside.Backs.{ids_of}
use Rattle.round_lookahead.proofs.BackSteps.{one_returned}
use Rattle.round_lookahead.proofs.world.backs.put_worked.Goals as goal

pub returns : goal.returns
returns c =
    one_returned c.args.worked c.args.returned.now _ c.put_all_done.new.took c.in_ok-put_all_done.ensures.slots c.in_ok-put_all_done.ensures.lines
    (c.in_ok-put_all_done.ensures.took ∙ ap (λ (l : List HostId). l ++ ids_of c.args.worked.done.items) c.in_ok-took.ensures.items)
    c.in_ok-push.ensures.items c.in_ok-append.ensures.items
