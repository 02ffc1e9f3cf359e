use Rattle.std.proofs.Common.{refl}
use Rattle.round_schedule.proofs.Keeping.{take_below, taken}
use Rattle.round_schedule.proofs.Pairs.{get_at}
use Rattle.round_schedule.proofs.round.Round.take_host.Goals as goal

pub returns : goal.returns
returns c = λ net.
    taken net c.args.worker c.args.host c.args.self.now _ c.index_mut.result.now (record { window = refl; closed = refl })
    (get_at c.args.self.now.members.items c.args.host c.index_mut.result.now (take_below c.requires.0 c.args.worker c.args.host c.args.self.now c.requires.1) c.index_mut.ensures.value)
    refl refl refl
