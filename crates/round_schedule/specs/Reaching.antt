-- Where the steps of a round lead.
use Rattle.std.specs.Prelude.{◌≡◌, ℕ, List, Option, Some}
use Rattle.host_link.specs.declared.line.Line.{Line}
use Rattle.host_link.specs.Net.{Net}
use Rattle.host_state.specs.Fits.{model}
use Rattle.host_state.specs.HostRecord.{HostRecord}
use Rattle.world_order.specs.Round as order
use Rattle.world_order.specs.Schedule.{after_all}
use Rattle.world_order.specs.World.{World}
use Rattle.world_order.specs.declared.round_window.Window.{Window}
use Rattle.world_order.specs.declared.step.Step.{Step}
use Rattle.round_schedule.specs.declared.round.Round.{Round}
use Rattle.round_schedule.specs.Opening.{MayOpenOn}
use Rattle.round_schedule.specs.Standing.{RoundStands, GoingStands}

abbrev pub State : Type 0
State = order.State HostRecord Line

-- the round for so many workers on a world of hosts
abbrev pub round_on : Net → Window → ℕ → World HostRecord Line → State
round_on net window workers w = order.Going (order.opened (model net) window.end.nanos workers w)

-- some steps, each allowed in its turn, lead to the state from the opening of a round on the world
pub record IsReached (net : Net) (window : Window) (w : World HostRecord Line) (s : State) : Type 0 where
  pub opened : MayOpenOn net window w
  pub workers : ℕ
  pub steps : List Step
  pub leads : after_all (model net) steps (round_on net window workers w) ≡ Some s

-- steps, each allowed in its turn, lead on from a state that was reached and that the round stands for
pub record MayGo (net : Net) (steps : List Step) (c : Round) : Type 0 where
  pub world : World HostRecord Line
  pub state : State
  pub stands : RoundStands net world c state
  pub reached : IsReached net c.window world state
  pub last : State
  pub leads : after_all (model net) steps state ≡ Some last

-- whatever state the old round stood for, the new one stands for that to which the steps lead
abbrev pub Goes : Net → List Step → Round → Round → Type 0
Goes net steps old new = (w : World HostRecord Line) (s t : State) → RoundStands net w old s → after_all (model net) steps s ≡ Some t → RoundStands net w new t

-- ---- one kind of step

abbrev pub Going : Type 0
Going = order.Round HostRecord Line

-- a step of this kind leads on from a state that was reached and that the round stands for, to another one that is reached
pub record May (net : Net) (step : Going → Option State) (c : Round) : Type 0 where
  pub world : World HostRecord Line
  pub round : Going
  pub next : State
  pub stands : GoingStands net world c round
  pub leads : step round ≡ Some next
  pub reached : IsReached net c.window world (order.Going round)
  pub reaches : IsReached net c.window world next

-- whatever round the old one stood for, the new one stands for what the step makes of it
pub record Does (net : Net) (step : Going → Option State) (old new : Round) : Type 0 where
  pub window : new.window ≡ old.window
  pub stands : (w : World HostRecord Line) (r : Going) (t : State) → GoingStands net w old r → step r ≡ Some t → RoundStands net w new t
