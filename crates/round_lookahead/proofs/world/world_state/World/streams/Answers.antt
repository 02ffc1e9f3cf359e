use Rattle.std.proofs.Common.{◌≤◌, ◌^◌, List, length, sym, subst}
use Rattle.stream_pairs.specs.declared.kept.KeptStreams.{KeptStreams}
use Rattle.round_lookahead.proofs.StreamSteps.{few_kept}
use Rattle.round_lookahead.proofs.world.world_state.World.streams.Goals as goal

pub directions-requires : goal.directions-requires
directions-requires c =
    subst (λ (ks : List KeptStreams). length ks ≤ 2 ^ 32) (sym c.as_slice.ensures.value)
    (few_kept c.args.self.now c.requires.stands.0 c.requires.stands.1 c.in_ok-kept.kept.items (c.in_ok-kept.ensures c.requires.stands.0 c.requires.stands.1))
