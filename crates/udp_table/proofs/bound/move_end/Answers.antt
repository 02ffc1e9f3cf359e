use Rattle.std.proofs.Common.{sym, ◌∙◌}
use Rattle.udp_table.proofs.Found.{without, without_here, without_other}
use Rattle.udp_table.proofs.bound.move_end.Goals as goal

pub returns : goal.returns
returns c = λ done old new was is others h.
    c.enter.ensures done (without c.args.place old) new (without_here c.args.place old) is
    (λ k apart. others k apart ∙ sym (without_other c.args.place old k apart))
    (c.leave.ensures c.args.place old (without c.args.place old) was (without_here c.args.place old) (without_other c.args.place old) h)
