use Rattle.std.proofs.Common.{ℕ, Some, sym, ap, ◌∙◌}
use Rattle.std.specs.HashMap.{get}
use Rattle.host_sockets.specs.inside.Ends.{same_ends}
use Rattle.host_sockets.proofs.EndsFound.{entry_stays}
use Rattle.host_sockets.proofs.tables.forget.Goals as goal

pub returns-then-found-place : goal.returns-then-found-place
returns-then-found-place c = λ q k apart at.
    let here = sym c.get.ensures.value ∙ (sym c.copied.ensures ∙ (c.in-Some.is ∙ ap (λ (n : ℕ). Some n) c.if-found-place.true)) in
    entry_stays (get same_ends c.args.places.now) (get same_ends c.remove.new.self) c.args.ends q c.args.place k c.remove.ensures.updates.2 here apart at
