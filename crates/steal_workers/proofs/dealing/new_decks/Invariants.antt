use Rattle.std.proofs.Common.{◌≡◌, ◌≤◌, [], vec_len, vec_capacity}
use Rattle.list_weights.specs.Places.{EachAt}
use Rattle.steal_workers.specs.inside.Decks.{IsFilling, queue_of}
use Rattle.steal_workers.proofs.dealing.new_decks.Given as goal

abbrev pub invariant-loop : goal.invariant-loop
invariant-loop g l = record {
  count : vec_len l.decks ≡ l.counter;
  room : l.seats ≤ vec_capacity l.decks;
  each : EachAt (λ d deck. IsFilling l.seats l.room 0 d deck × (queue_of deck ≡ [])) l.decks.items;
}
