-- What is put while a run goes on, and at its end.
use Rattle.std.specs.Prelude.{◌≡◌, ℕ, Bool, List, map, Option, Some, Result, Ok, Err}
use Rattle.run_outside.specs.Sink.{Content}
use Rattle.run_outside.specs.declared.sink.WriteError.{WriteError}
use Rattle.run_files.specs.Files.{Put, put_of}
use Rattle.run_files.specs.LinesFit.{AllFit}
use Rattle.host_state.specs.Gains.{names_in}
use Rattle.host_link.specs.Logs.{lines_of}
use Rattle.host_state.specs.World.{World, IsResult}
use Rattle.net_run.specs.Grown.{IsUnderway}
use Rattle.net_run.specs.Parts.{Between}
use Rattle.net_run.specs.Pieces.{with_pieces}
use Rattle.net_run.specs.Shown.{run_pieces}
use Rattle.round_lookahead.specs.Gains.{HasRound}
use Rattle.round_lookahead.specs.WorldStands.{WorldStands}
use Rattle.round_lookahead.specs.declared.world.pieces.Pieces.{Pieces}
use Rattle.round_lookahead.specs.declared.world.world_state.World as rounds

-- what a round gained: what the processes wrote, and the lines of the packet log
abbrev pub gained_by : Pieces → List Put
gained_by p = map put_of p.files.items

-- a round, and what it gained, gathered behind what was there
abbrev pub GathersRound : rounds.World → rounds.World → ℕ → World → List Put → List Put → Type 0
GathersRound c d workers w old new = (v : World) × (p : Pieces) × HasRound c d workers w v p × ((at : Content) → with_pieces new at ≡ with_pieces (gained_by p) (with_pieces old at))

-- what stands is what was put since a run began that has come to this world, if the sink tells what it holds
abbrev pub StandsAt : World → Option Content → Option Content → Type 0
StandsAt w old now = (begun : Content) → old ≡ Some begun → IsUnderway (names_in w) begun now w

-- each target holds a front of what the world shows
abbrev pub StandsBefore : World → Option Content → Option Content → Type 0
StandsBefore w old now = (begun : Content) → old ≡ Some begun → (load : Bool) → Between begun now (with_pieces (run_pieces load w) begun)

-- all rounds were made, and all lines that they logged are of packets whose numbers fit their types
pub record HasAllRounds (c d : rounds.World) (w : World) (old new : Option Content) : Type 0 where
  pub world : World
  pub result : IsResult c.net world w
  pub at : WorldStands d world
  pub stands : StandsAt world old new
  pub fit : AllFit (lines_of w.log) → AllFit (lines_of world.log)

-- each target holds a front of what the result shows
abbrev pub PutsInPart : rounds.World → World → Option Content → Option Content → Type 0
PutsInPart c w old new = (r : World) × IsResult c.net r w × StandsBefore r old new

-- what all rounds leave
abbrev pub PutsRounds : rounds.World → rounds.World → World → Option Content → Option Content → Result (Unit {0}) WriteError → Type 0
PutsRounds c d w old new (Ok done) = HasAllRounds c d w old new
PutsRounds c d w old new (Err error) = PutsInPart c w old new
