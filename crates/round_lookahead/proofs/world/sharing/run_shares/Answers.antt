use Rattle.std.proofs.Common.{◌≤◌, ◌<◌, All, length, sym, subst, arith, rules}
use Rattle.std.proofs.iter.Serving.{serving}
use denote.Param.Send.{sendable}
use Rattle.round_lookahead.specs.inside.Shares.{IsReadyShare}
use Rattle.round_lookahead.proofs.Crossing.{share_send}
use Rattle.round_lookahead.proofs.world.sharing.run_shares.Goals as goal

pub for_each_mut-requires-send-T : goal.for_each_mut-requires-send-T
for_each_mut-requires-send-T g c κs within = search (share_send, sendable) depth 20

pub for_each_mut-requires-clause-accepts : goal.for_each_mut-requires-clause-accepts
for_each_mut-requires-clause-accepts g c κs within =
    let ready : All (IsReadyShare c.args.net.now) c.as_mut_slice.result.now = subst (All (IsReadyShare c.args.net.now)) (sym c.as_mut_slice.ensures.value) c.requires.ready in
    λ i p below is. (let few : i < 64 = omega (arith, c.requires.few, c.as_mut_slice.ensures.len, below) in let own : IsReadyShare c.args.net.now p.now = subst (IsReadyShare c.args.net.now) (sym is) (ready i p.now below) in search (rules, serving) depth 30)
