use Rattle.std.proofs.Common.{◌≡◌, Option, option_map}
use Rattle.run_outside.specs.Sink.{Content}
use Rattle.host_state.specs.World.{World}
use Rattle.net_run.specs.Pieces.{with_pieces}
use Rattle.round_lookahead.specs.WorldStands.{WorldStands}
use Rattle.round_lookahead.specs.Reached.{time_left}
use Rattle.shadow_top.specs.inside.Rounds.{StandsAt}
use Rattle.shadow_top.proofs.RoundLemmas.{HasCome, HasGrown}
use Rattle.shadow_top.proofs.rounds.put_rounds.Given as goal

-- the world stands for one; and where a run has come that began with the first world, if what stood there was put in it, once what is gathered is put too
abbrev pub invariant-rounds : goal.invariant-rounds
invariant-rounds g l = record {
  at : (w : World) × WorldStands l.world w;
  come : (w : World) (old : Option Content) → WorldStands l.initial.world w → StandsAt w old (g.K.Sink.content l.initial.sink)
      → HasCome l.initial.world l.world w old (option_map (with_pieces l.gathered) (g.K.Sink.content l.sink));
  grown : (w : World) (old : Option Content) → StandsAt w old (g.K.Sink.content l.initial.sink) → HasGrown old (g.K.Sink.content l.sink);
  listing : l.world.listing ≡ l.initial.world.listing;
  faults : (g.K.Sink.tally l.sink).faults ≡ (g.K.Sink.tally l.initial.sink).faults;
  errors : (g.K.Sink.tally l.sink).errors ≡ (g.K.Sink.tally l.initial.sink).errors;
}

abbrev pub decreases-rounds : goal.decreases-rounds
decreases-rounds g l = time_left l.world
