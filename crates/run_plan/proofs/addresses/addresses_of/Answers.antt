use Rattle.std.proofs.Common.{◌∙◌, arith}
use Rattle.run_plan.proofs.AddressLemmas.{few_given}
use Rattle.run_plan.proofs.addresses.addresses_of.Goals as goal

pub new-requires : goal.new-requires
new-requires c = omega (arith, few_given c.args.hosts.now c.in_ok-given.given.items c.in_ok-given.ensures)

pub with_open-requires : goal.with_open-requires
with_open-requires c = omega (arith, few_given c.args.hosts.now c.in_ok-book.book (c.in_ok-book.ensures ∙ c.in_ok-given.ensures))
