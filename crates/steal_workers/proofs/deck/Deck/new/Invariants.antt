use Rattle.std.proofs.Common.{◌≡◌, ◌≤◌, ◌+◌, All, vec_len, vec_capacity}
use Rattle.crossbeam_deque.specs.Handles.{worker_deque}
use Rattle.steal_workers.specs.inside.Decks.{IsThiefOf}
use Rattle.steal_workers.proofs.deck.Deck.new.Given as goal

abbrev pub invariant-loop : goal.invariant-loop
invariant-loop g l = record {
  thieves : All (IsThiefOf (worker_deque l.deque)) l.thieves.items;
  count : vec_len l.thieves + 1 ≡ l.counter;
  room : l.seats ≤ vec_capacity l.thieves + 1;
}
