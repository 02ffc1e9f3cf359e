use Rattle.std.proofs.Common.{ℕ, List}
use Rattle.std.specs.Vec.Iter.{into_iter_items}
use Rattle.host_link.specs.Net.{Net}
use Rattle.round_lookahead.specs.declared.world.share.Share.{Share}
use Rattle.round_lookahead.specs.inside.Shares.{HaveRunShares}
use Rattle.round_lookahead.proofs.ShareSteps.{IsJoining}
use Rattle.round_lookahead.proofs.world.sharing.join_shares.Given as goal

-- the shares before those that are left stand one behind another
abbrev pub invariant-loop-share : goal.invariant-loop-share
invariant-loop-share l = (net : Net) (end : ℕ) (old : List Share) → HaveRunShares net end old l.fn.shares.items → IsJoining net end old l.fn.shares.items (into_iter_items l.share-iterator) l.joined
