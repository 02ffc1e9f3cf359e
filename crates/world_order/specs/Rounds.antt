-- The round that is opened on a world, and the world after it.
use Rattle.std.specs.Prelude.{◌≡◌, ℕ, ◌++◌, IsPermutation}
use Rattle.world_order.specs.Premises.{Simulation}
use Rattle.world_order.specs.Round.{State, Going, opened}
use Rattle.world_order.specs.Window.{window_end}
use Rattle.world_order.specs.World.{World}

module _ {H L : Type 0} where
  -- the world after a round: its hosts and events, and its lines behind the log before it
  abbrev pub after_round : World H L → World H L → World H L
  after_round before closed = record { hosts = closed.hosts; events = closed.events; log = before.log ++ closed.log }

  -- the end of a round of a simulation, and the round that is opened on a world
  abbrev pub end_of : Simulation H L → ℕ → ℕ → ℕ
  end_of sim stop least = window_end sim.lookahead stop least

  abbrev pub round_on : Simulation H L → ℕ → ℕ → ℕ → World H L → State H L
  round_on sim stop least workers w = Going (opened sim.model (end_of sim stop least) workers w)

  -- two worlds are the same, but for the places of events in their lists
  pub record IsSameWorld (w v : World H L) : Type 0 where
    pub hosts : w.hosts ≡ v.hosts
    pub events : IsPermutation w.events v.events
    pub log : w.log ≡ v.log
