use Rattle.std.proofs.Common.{refl}
use Rattle.round_schedule.proofs.Openings.{opens}
use Rattle.round_schedule.proofs.round.Round.open.Goals as goal

pub returns-clause-stands : goal.returns-clause-stands
returns-clause-stands c = λ w stand.
    opens c.args.net.now c.args.window c.args.hosts.items c.args.workers c.requires.may _ c.in_ok-waiting_all.ensures c.in_ok-idle_workers.ensures refl c.new.ensures.items refl w stand
