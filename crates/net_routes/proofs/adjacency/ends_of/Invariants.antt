use Rattle.std.proofs.Common.{◌≡◌, ◌*◌, length, take}
use Rattle.std.specs.Prelude.{Contains, All}
use Rattle.net_routes.specs.declared.hop.Hop.{Hop}
use Rattle.net_routes.specs.inside.Adjacency.{ends_of}
use Rattle.net_routes.proofs.adjacency.ends_of.Given as goal

abbrev pub invariant-loop-hop : goal.invariant-loop-hop
invariant-loop-hop l = record {
  size : length l.ends.items ≡ 2 * l.hop-index;
  ends : All (λ (s : Hop). Contains l.ends.items s.from × Contains l.ends.items s.to) (take l.hop-index l.hops);
  all : l.ends.items ≡ ends_of (take l.hop-index l.hops);
}
