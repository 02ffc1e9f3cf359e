use Rattle.std.proofs.Common.{◌≡◌, fold, drop}
use Rattle.shd_values.specs.Words.{next}
use Rattle.shd_values.proofs.words.split.Given as goal

-- what is left gives the whole
abbrev pub invariant-loop-character : goal.invariant-loop-character
invariant-loop-character l = fold next l.splitting (drop l.character-index l.characters) ≡ fold next l.initial.splitting l.characters
