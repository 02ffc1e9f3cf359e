use Rattle.std.proofs.Common.{◌<◌, length, arith}
use Rattle.std.proofs.lemmas.Bool.Decides.{nat_tests}
use Rattle.gml_graph.proofs.TokensLemmas.{comment_skipped}
use Rattle.gml_graph.proofs.scanner.Scanner.skip.Goals as goal

pub returns-then-self-clause-same : goal.returns-then-self-clause-same
returns-then-self-clause-same c =
    let some : 0 < length c.args.self.now.rest.now = grind (arith, nat_tests, c.is_empty.ensures, c.if-is_empty.false, c.as_bytes-bytes.ensures.len) in
    rw (c.behind_line-self.ensures, c.behind_first.ensures) (comment_skipped c.args.self.now.fresh c.args.self.now.line c.args.self.now.rest.now c.if-self.true some (rw (← c.as_bytes-bytes.ensures.value) c.if-byte-eq35.true))
