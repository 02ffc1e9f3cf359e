use Rattle.config_texts.proofs.Reading.{config_text}
use Rattle.config_texts.proofs.Trees.{plain_text}
use Rattle.config_texts.proofs.texts_are_utf8.Goals as goal

pub returns : goal.returns
returns c = λ o empty tree plain. config_text o empty tree (plain_text tree plain)
