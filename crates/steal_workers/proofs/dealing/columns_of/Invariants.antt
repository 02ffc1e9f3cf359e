use Rattle.std.proofs.Common.{◌≡◌, ◌≤◌, ◌++◌, List, length, get_or, vec_len, vec_capacity}
use Rattle.std.specs.Vec.Iter.{into_iter_items}
use Rattle.list_weights.specs.Places.{EachAt}
use Rattle.steal_workers.specs.declared.deck.Deck.{Deck}
use Rattle.steal_workers.specs.inside.Columns.{IsColumn, closed, deck_deque}
use Rattle.steal_workers.proofs.dealing.columns_of.Given as goal

abbrev pub invariant-loop-deck : goal.invariant-loop-deck
invariant-loop-deck g l = record {
  so_far : (done : List (Deck g.row.T.Denot)) × (length done ≡ vec_len l.columns) × (l.fn.decks.items ≡ done ++ into_iter_items l.deck-iterator);
  count : l.count ≡ vec_len l.fn.decks;
  room : vec_len l.fn.decks ≤ vec_capacity l.columns;
  each : EachAt (λ d column. ((e : Deck g.row.T.Denot) → IsColumn (deck_deque (get_or l.fn.decks.items d e)) (closed (vec_len l.fn.decks) (get_or l.fn.decks.items d e)) (vec_len l.fn.decks) d column.items)
      × (length column.items ≡ vec_len l.fn.decks)) l.columns.items;
}
