-- Rounds of a net's hosts one after another, up to its stop.
use Rattle.std.specs.Prelude.{◌≡◌, ℕ, List, Some}
use Rattle.host_state.specs.Fits.{model}
use Rattle.host_state.specs.World.{World}
use Rattle.host_link.specs.Net.{Net}
use Rattle.world_order.specs.Round.{Closed}
use Rattle.world_order.specs.Rounds.{after_round}
use Rattle.world_order.specs.Schedule.{after_all}
use Rattle.world_order.specs.Settled.{AreDueFrom}
use Rattle.world_order.specs.declared.round_window.Window.{Window}
use Rattle.world_order.specs.declared.step.Step.{Step}
use Rattle.round_schedule.specs.Opening.{IsWindowOf}
use Rattle.round_schedule.specs.Reaching.{round_on}

-- rounds one after another lead from a world to the last one, in which no event is due before the stop: each round is opened for some workers
-- and for a window before which no event is due, and closed by some list of steps, each allowed in its turn
pub data AreRounds (net : Net) (last : World) : World → Type 0 where
  are_over : (w : World) → AreDueFrom net.stop.nanos w.events → w ≡ last → AreRounds net last w
  go_on : (w closed : World) (window : Window) (workers : ℕ) (steps : List Step) → IsWindowOf net window → AreDueFrom window.from.nanos w.events
      → after_all (model net) steps (round_on net window workers w) ≡ Some (Closed closed) → AreRounds net last (after_round w closed) → AreRounds net last w
