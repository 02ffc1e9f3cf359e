use Rattle.std.proofs.Common.{◌≡◌, ◌+◌, ℕ, List, ap, ◌∙◌, arith}
use Rattle.host_draws.specs.Draws.{seeded, word_of}
use Rattle.host_draws.proofs.DrawsLemmas.{told_on}
use Rattle.host_draws.proofs.draws.Seeds.draws.Goals as goal

pub invariant_of-self : goal.invariant_of-self
invariant_of-self c = record {
  told = told_on (seeded c.go_to.new.self.seed) c.go_to.new.self.words c.next_word-word.new.self c.go_to.new.self.at c.next_word-word.result c.next_word-word.ensures c.go_to.new.self.told;
}

pub returns : goal.returns
returns c =
    let here : c.go_to.new.self.at + 0 ≡ c.args.index = (let there = c.go_to.ensures.1 in let from = c.from-index.ensures in omega (arith, there, from)) in
    c.seed_from_u64.ensures
    ∙ ap seeded (ap (λ (p : ℕ × List ℕ). p.0) c.next_word-word.ensures
    ∙ c.go_to.new.self.told 0
    ∙ ap (λ (s : ℕ). word_of (seeded s) (c.go_to.new.self.at + 0)) (c.go_to.ensures.0 ∙ c.turn_to.ensures.0)
    ∙ ap (word_of (seeded c.args.seed)) here)
