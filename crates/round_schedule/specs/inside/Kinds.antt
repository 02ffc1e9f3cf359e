-- The kinds of steps, on a round of hosts.
use Rattle.std.specs.Prelude.{ℕ, Option, option_map}
use Rattle.host_link.specs.Net.{Net}
use Rattle.host_state.specs.Fits.{model}
use Rattle.world_order.specs.Round as order
use Rattle.world_order.specs.Steps.{take_host, fire_host, put_packet, give_back, close_round, goes}
use Rattle.world_order.specs.declared.step.Spot.{Spot}
use Rattle.round_schedule.specs.Reaching.{Going, State}

abbrev pub takes_host : ℕ → ℕ → Going → Option State
takes_host worker host r = goes (take_host worker host r)

abbrev pub fires : Net → ℕ → Going → Option State
fires net worker r = goes (fire_host (model net) worker r)

abbrev pub puts : Net → ℕ → Spot → Going → Option State
puts net worker spot r = goes (put_packet (model net) worker spot r)

abbrev pub gives : ℕ → Going → Option State
gives worker r = goes (give_back worker r)

abbrev pub closes : Going → Option State
closes r = option_map order.Closed (close_round r)
