use Rattle.host_sockets.proofs.PortsCounted.{counts_now}
use Rattle.host_sockets.proofs.given.Given.update.Goals as goal

pub returns-then-recount_both : goal.returns-then-recount_both
returns-then-recount_both c = λ done.
    counts_now c.args.self.now _ c.args.socks.now c.args.place c.index-socks-place.result c.entry-was.result c.had-is.result c.requires c.if-place-socks.false c.index-socks-place.is c.had-is.ensures c.entry-was.ensures
    (c.recount_both.ensures c.if-recount_both.true) (c.enter.ensures.here done) (c.enter.ensures.others done) (c.enter.ensures.sums done) c.enter.ensures.long
