use Rattle.std.proofs.Common.{ℕ, ◌+◌, ◌-◌, ◌==◌, Bool, if◌then◌else◌, Option, ap, ◌∙◌}
use Rattle.number_sets.specs.Sets.{has}
use Rattle.number_sets.specs.Ports.{given_end, once}
use Rattle.number_sets.proofs.PortsCounted.{holds_same}
use Rattle.udp_table.proofs.Changed.{indexes_changed}
use Rattle.udp_table.proofs.index.Index.change.Goals as goal

pub returns : goal.returns
returns c = λ done old new h index.
    indexes_changed c.args.self.now _ c.args.place c.args.was c.args.is c.local_in-from.result c.local_in-to.result old new h index c.local_in-from.ensures c.local_in-to.ensures
    (λ k. c.mark.ensures c.if-not-mark.false k ∙ ap (λ (b : Bool). if k == c.args.place then b else has c.args.self.now.taken k) c.is_some.ensures)
    (λ f counts.
    holds_same c.recount.new.counts (λ n. f n + once c.given_end-is_port.result n - once c.given_end-was_port.result n)
    (λ n. f n + once (given_end c.local_in-to.result) n - once (given_end c.local_in-from.result) n)
    (λ n. ap (λ (o : Option ℕ). f n + once o n - once c.given_end-was_port.result n) c.given_end-is_port.ensures
    ∙ ap (λ (o : Option ℕ). f n + once (given_end c.local_in-to.result) n - once o n) c.given_end-was_port.ensures)
    (c.recount.ensures c.if-not-recount.false f counts))
    (c.note.ensures.here c.if-not-note.false)
    c.note.ensures.others
    (c.move_end.ensures done)
