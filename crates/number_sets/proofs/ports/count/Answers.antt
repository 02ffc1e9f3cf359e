use Rattle.std.proofs.Common.{ℕ, ◌+◌, Option, Some, sym, ap, ◌∙◌}
use Rattle.number_sets.specs.Ports.{once}
use Rattle.number_sets.proofs.PortsCounted.{holds_same, on_ok}
use Rattle.number_sets.proofs.ports.count.Goals as goal

pub returns-in-Some : goal.returns-in-Some
returns-in-Some c = λ done f h.
    holds_same c.add.new.self (λ n. f n + once (Some c.in-Some.port) n) (λ n. f n + once c.args.port n) (λ n. ap (λ (o : Option ℕ). f n + once o n) (sym c.in-Some.is))
    (on_ok c.add.result _ (sym c.is_ok.ensures.value ∙ done) c.add.ensures f h)
