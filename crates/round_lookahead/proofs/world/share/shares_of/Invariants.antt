use Rattle.std.proofs.Common.{◌≡◌, ◌<◌, [], length}
use Rattle.round_lookahead.specs.inside.Shares.{dealt_in}
use Rattle.round_lookahead.proofs.world.share.shares_of.Given as goal

abbrev pub invariant-loop : goal.invariant-loop
invariant-loop l = record {
  dealt : dealt_in l.dealing ≡ l.fn.tasks.items;
  count : length l.dealing.shares.items ≡ l.counter;
  begun : l.first < l.counter → l.dealing.tasks.items ≡ [];
}
