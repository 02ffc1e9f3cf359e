use Rattle.std.specs.List.{sum_by}
use Rattle.number_sets.specs.Ports.{had}
use Rattle.number_sets.proofs.PortsCounted.{least_told, none_told}
use Rattle.number_sets.proofs.ports.free_port.Goals as goal

pub returns-then-number-lt-GIVEN : goal.returns-then-number-lt-GIVEN
returns-then-number-lt-GIVEN c = λ bound h.
    least_told bound c.least_absent-number.result
    (c.least_absent-number.ensures.absent (λ n. sum_by (had n) bound) h)
    (c.least_absent-number.ensures.least (λ n. sum_by (had n) bound) h)
    c.if-number-lt-GIVEN.true

pub returns-else-number-lt-GIVEN : goal.returns-else-number-lt-GIVEN
returns-else-number-lt-GIVEN c = λ bound h.
    none_told bound c.least_absent-number.result (c.least_absent-number.ensures.least (λ n. sum_by (had n) bound) h) c.if-number-lt-GIVEN.false
