-- What a run begins with: the rows of hosts and the net that its plan says, which can be run by rounds.
use Rattle.std.specs.Prelude.{◌≡◌, ◌<◌, ◌≤◌, length, map, IfSome}
use Rattle.sim_base.specs.Limits.{most_hosts}
use Rattle.host_rows.specs.declared.row.Row.{Row}
use Rattle.host_state.specs.Fits.{IsLookaheadOf, IsShort}
use Rattle.host_state.specs.World.{AreRows}
use Rattle.plan_rows.specs.Rows.{rows_of, net_of, cut_lookahead}
use Rattle.run_plan.specs.Names.{AreApart}
use Rattle.run_plan.specs.Plan.{nanos_of}
use Rattle.run_plan.specs.declared.planned.Run.{Run}
use Rattle.opened_run.specs.declared.opened.Opened.{Opened}

-- a run is opened
pub record Opens (run : Run) (opened : Opened) : Type 0 where
  pub directory : opened.directory ≡ run.plan.settings.data_directory
  pub notes : opened.notes ≡ run.plan.settings.notes
  pub self_load : opened.is_self_load ≡ run.is_self_load
  pub streams : opened.streams ≡ run.streams
  pub parallelism : opened.parallelism ≡ run.plan.settings.parallelism
  pub lookahead : opened.lookahead ≡ cut_lookahead run.plan.lookahead
  pub rows : opened.rows.items ≡ rows_of run
  pub net : opened.net ≡ net_of run

-- its rows are those of its net, which has 1 to 16,384 hosts; no route from one to another takes less than the lookahead, which is a nanosecond
-- at least and leaves room before the end of time; and no two hosts have one name
pub record HasOpened (opened : Opened) : Type 0 where
  pub rows : AreRows opened.net opened.rows.items
  pub some : 0 < length opened.net.known.book
  pub few : length opened.net.known.book ≤ most_hosts
  pub routes : IsLookaheadOf opened.net (nanos_of opened.lookahead)
  pub ahead : IfSome opened.lookahead (λ time. 0 < time.nanos)
  pub short : IsShort (nanos_of opened.lookahead)
  pub names : AreApart (map (λ (row : Row). row.name) opened.rows.items)
