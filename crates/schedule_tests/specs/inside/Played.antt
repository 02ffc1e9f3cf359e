-- The first round of a run, and steps that are allowed in it.
use Rattle.std.specs.Prelude.{◌≡◌, List, Some}
use Rattle.host_link.specs.declared.line.Line.{Line}
use Rattle.host_link.specs.Net.{Net}
use Rattle.host_state.specs.Fits.{model}
use Rattle.host_state.specs.HostRecord.{HostRecord}
use Rattle.host_state.specs.World.{opening_world}
use Rattle.round_schedule.specs.Opening.{MayOpenOn}
use Rattle.round_schedule.specs.Reaching.{State, round_on}
use Rattle.round_schedule.specs.Standing.{RoundStands}
use Rattle.round_schedule.specs.declared.round.Round.{Round}
use Rattle.run_plan.specs.Limits.{KeepsToLimits}
use Rattle.run_plan.specs.Names.{AreRowsApart}
use Rattle.run_plan.specs.Plan.{nanos_of}
use Rattle.run_plan.specs.Routed.{IsRouted}
use Rattle.run_plan.specs.declared.planned.Run.{Run}
use Rattle.plan_rows.specs.Rows.{cut_lookahead, net_of, rows_of}
use Rattle.world_order.specs.Schedule.{after_all}
use Rattle.world_order.specs.Window.{window_end}
use Rattle.world_order.specs.World.{World}
use Rattle.world_order.specs.declared.round_window.Window.{Window}
use Rattle.world_order.specs.declared.step.Step.{Step}

-- a run whose plan was read
pub record MayBegin (run : Run) : Type 0 where
  pub limits : KeepsToLimits run.plan
  pub routed : IsRouted run.plan
  pub apart : AreRowsApart run.plan

-- the window of the first round begins at 0
abbrev pub first_window : Run → Window
first_window run = record {
  from = record { nanos = 0 };
  end = record { nanos = window_end (nanos_of (cut_lookahead run.plan.lookahead)) run.plan.settings.stop_time.nanos 0 };
}

abbrev pub first_world : Run → World HostRecord Line
first_world run = opening_world (rows_of run)

-- the first round, for two workers
abbrev pub first_state : Run → State
first_state run = round_on (net_of run) (first_window run) 2 (first_world run)

-- a round that is opened on the hosts of a run, and the run's net
pub record HasBegun (run : Run) (round : Round) (net : Net) : Type 0 where
  pub is_net : net ≡ net_of run
  pub window : round.window ≡ first_window run
  pub may : MayOpenOn (net_of run) (first_window run) (first_world run)
  pub stands : RoundStands (net_of run) (first_world run) round (first_state run)

-- the steps are allowed, each in its turn
abbrev pub AreAllowed : Net → List Step → State → Type 0
AreAllowed net steps s = (t : State) × (after_all (model net) steps s ≡ Some t)

-- the same in whatever state the round stood for
abbrev pub MayTake : Net → List Step → Round → Type 0
MayTake net steps round = (w : World HostRecord Line) (s : State) → RoundStands net w round s → AreAllowed net steps s
