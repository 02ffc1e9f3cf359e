use Rattle.host_draws.specs.Draws.{seeded}
use Rattle.host_draws.proofs.DrawsLemmas.{told_on}
use Rattle.host_draws.proofs.draws.Seeds.go_to.Goals as goal

pub invariant_of-self : goal.invariant_of-self
invariant_of-self c = record {
  told = told_on (seeded c.loop-host.self.seed) c.loop-host.self.words c.next_word.new.self c.loop-host.self.at c.next_word.result c.next_word.ensures c.loop-host.self.told;
}
