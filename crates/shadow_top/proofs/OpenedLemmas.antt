-- What was opened can be run by rounds.
use Rattle.std.proofs.Common.{◌<◌, Option, Some, None, IfSome, arith}
use Rattle.opened_run.specs.Opened.{HasOpened}
use Rattle.opened_run.specs.declared.opened.Opened.{Opened}
use Rattle.round_lookahead.specs.OpeningWorld.{AreHostRows}
use Rattle.round_lookahead.specs.WorldStands.{HasRounds, IsAhead, nanos_of}
use Rattle.sim_base.specs.declared.time.Time.{Time}

pub host_rows_is : (opened : Opened) → HasOpened opened → AreHostRows opened.net opened.rows.items
host_rows_is opened has = record { count = has.rows.count; places = has.rows.places; fit = has.rows.fit }

is_ahead : (lookahead : Option Time) → IfSome lookahead (λ (time : Time). 0 < time.nanos) → IsAhead (nanos_of lookahead)
is_ahead None ahead = tt
is_ahead (Some time) ahead = ahead

pub has_rounds : (opened : Opened) → HasOpened opened → HasRounds opened.net (nanos_of opened.lookahead)
has_rounds opened has = record {
  stop = has.rows.stop;
  some = has.some;
  few = (let few = has.few in omega (arith, few));
  routes = has.routes;
  short = has.short;
  ahead = is_ahead opened.lookahead has.ahead;
}
