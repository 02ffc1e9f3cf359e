use Rattle.std.proofs.Common.{◌≡◌, map, take}
use Rattle.stream_pairs.specs.declared.kept.KeptStreams.{KeptStreams}
use Rattle.stream_pairs.proofs.pairing.book_of.Given as goal

abbrev pub invariant-loop-each : goal.invariant-loop-each
invariant-loop-each l = l.addresses.items ≡ map (λ (k : KeptStreams). k.address) (take l.each-index l.kept)
