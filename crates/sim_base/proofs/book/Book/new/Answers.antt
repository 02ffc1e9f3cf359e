use Rattle.std.proofs.Common.{◌∙◌, arith}
use Rattle.sim_base.proofs.BookLemmas.{host_at_from_0}
use Rattle.sim_base.proofs.book.Book.new.Goals as goal

pub invariant_of-result : goal.invariant_of-result
invariant_of-result c = (
  omega (arith, c.requires),
  λ bits. c.loop-at.invariant.told bits ∙ host_at_from_0 c.args.hosts.items c.loop-at.at (record { bits = bits }) (omega arith),
)
