use Rattle.std.proofs.Common.{ℕ, List, get_or, sym, ap, ◌∙◌}
use Rattle.number_sets.proofs.Words.{word_full}
use Rattle.number_sets.proofs.set.NumberSet.least_absent.Goals as goal

pub loop-place-preserved : goal.loop-place-preserved
loop-place-preserved c =
    word_full c.args.self.now.words.items c.loop-place.place (ap (λ (words : List ℕ). get_or words c.loop-place.place 0) (sym c.deref-word-items.ensures.value) ∙ c.if-word.false) c.loop-place.invariant
