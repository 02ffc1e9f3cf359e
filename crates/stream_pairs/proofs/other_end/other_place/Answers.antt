use Rattle.std.proofs.Common.{Some, None, sym, ◌∙◌}
use Rattle.stream_pairs.proofs.FindingLemmas.{found_place}
use Rattle.stream_pairs.proofs.other_end.other_place.Goals as goal

pub returns-in-Some : goal.returns-in-Some
returns-in-Some c = λ all k book at.
    found_place all k c.args.stream c.args.book.now (Some c.in-Some.host.index) (sym c.is_within.ensures ∙ c.if-is_within.false) book c.in-Some.ensures

pub returns-in-None : goal.returns-in-None
returns-in-None c = λ all k book at.
    found_place all k c.args.stream c.args.book.now None (sym c.is_within.ensures ∙ c.if-is_within.false) book c.in-None.ensures
