use Rattle.gml_graph.proofs.TokensLemmas.{word_taken}
use Rattle.gml_graph.proofs.scanner.Scanner.take_word.Goals as goal

pub returns-clause-next : goal.returns-clause-next
returns-clause-next c = rw (c.token_of.ensures, c.split_word.ensures.word, c.split_word.ensures.back) (word_taken c.args.self.now.fresh c.args.self.now.line c.args.self.now.rest.now c.requires.word)
