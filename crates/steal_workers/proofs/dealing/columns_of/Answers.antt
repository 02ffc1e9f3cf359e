use Rattle.std.proofs.Common.{◌≡◌, ℕ, List, [], ◌∷◌, ◌++◌, length, get_or, Vec, vec_len, ap, sym, ◌∙◌, subst, length-append, arith}
use Rattle.std.proofs.lemmas.List.{get_or_at}
use Rattle.std.specs.Vec.Iter.{into_iter_items}
use Rattle.std.specs.declared.alloc.Global.{Global}
use Rattle.list_weights.specs.Places.{EachAt}
use Rattle.steal_workers.specs.declared.deck.Deck.{Deck}
use Rattle.steal_workers.specs.declared.share.Share.{Share}
use Rattle.steal_workers.specs.inside.Columns.{IsColumn, closed, deck_deque}
use Rattle.steal_workers.specs.inside.Decks.{IsDeck}
use Rattle.list_weights.proofs.Places.{EachAt_push}
use Rattle.steal_workers.proofs.DealSteps.{next_filled}
use Rattle.steal_workers.proofs.DeckSteps.{done_less, taken_next}
use Rattle.steal_workers.proofs.dealing.columns_of.Goals as goal

pub loop-deck-init : goal.loop-deck-init
loop-deck-init g c = record {
  so_far = ([], (let e = ap length c.requires.empty.0 in omega (arith, c.args.columns.ok.0)), sym c.into_iter-deck-iterator.ensures.into_iter_gives.0);
  count = c.len-count.ensures;
  room = c.requires.empty.1;
  each = rw c.requires.empty.0 (λ d e w. absurd (omega arith));
}

pub column-requires-clause-deck : goal.column-requires-clause-deck
column-requires-clause-deck g c =
    let inv = c.loop-deck.invariant in
    subst (λ (n : ℕ). IsDeck n c.in-Some.deck) (sym inv.count)
    (next_filled (vec_len c.args.decks) c.args.decks.items inv.so_far.0 (into_iter_items c.loop-deck.deck-iterator) (into_iter_items c.next.new.self) c.in-Some.deck c.requires.filled inv.so_far.2 c.in-Some.ensures.steps.0).0

pub column-requires-clause-unmarked : goal.column-requires-clause-unmarked
column-requires-clause-unmarked g c =
    let so_far = c.loop-deck.invariant.so_far in
    (next_filled (vec_len c.args.decks) c.args.decks.items so_far.0 (into_iter_items c.loop-deck.deck-iterator) (into_iter_items c.next.new.self) c.in-Some.deck c.requires.filled so_far.2 c.in-Some.ensures.steps.0).1

pub column-requires-clause-room : goal.column-requires-clause-room
column-requires-clause-room g c =
    let inv = c.loop-deck.invariant in
    let room = (next_filled (vec_len c.args.decks) c.args.decks.items inv.so_far.0 (into_iter_items c.loop-deck.deck-iterator) (into_iter_items c.next.new.self) c.in-Some.deck c.requires.filled inv.so_far.2 c.in-Some.ensures.steps.0).2 in
    let count = inv.count in
    omega arith

pub column-requires-clause-place : goal.column-requires-clause-place
column-requires-clause-place g c =
    let inv = c.loop-deck.invariant in
    let less = done_less c.args.decks.items inv.so_far.0 (into_iter_items c.loop-deck.deck-iterator) (into_iter_items c.next.new.self) c.in-Some.deck inv.so_far.2 c.in-Some.ensures.steps.0 in
    let done = inv.so_far.1 in
    let count = inv.count in
    let place = c.len-place.ensures in
    omega (arith, c.args.decks.ok.0)

pub push_reserved-requires : goal.push_reserved-requires
push_reserved-requires g c =
    let inv = c.loop-deck.invariant in
    let less = done_less c.args.decks.items inv.so_far.0 (into_iter_items c.loop-deck.deck-iterator) (into_iter_items c.next.new.self) c.in-Some.deck inv.so_far.2 c.in-Some.ensures.steps.0 in
    let done = inv.so_far.1 in
    let room = inv.room in
    omega (arith, c.args.decks.ok.0)

pub loop-deck-preserved : goal.loop-deck-preserved
loop-deck-preserved g c =
    let inv = c.loop-deck.invariant in
    let decks = c.args.decks.items in
    let n = vec_len c.args.decks in
    let rest = into_iter_items c.next.new.self in
    let k = vec_len c.loop-deck.columns in
    let place = length c.loop-deck.columns.items in
    let long : k ≡ place = c.loop-deck.columns.ok.0 in
    let next = taken_next decks inv.so_far.0 (into_iter_items c.loop-deck.deck-iterator) rest c.in-Some.deck k inv.so_far.1 inv.so_far.2 c.in-Some.ensures.steps.0 in
    let all : decks ≡ inv.so_far.0 ++ (c.in-Some.deck ∷ rest) = inv.so_far.2 ∙ ap (λ (l : List (Deck g.row.T.Denot)). inv.so_far.0 ++ l) c.in-Some.ensures.steps.0 in
    let F : ℕ → Vec (Share g.row.T.Denot) Global → Type 0 = λ d column. ((e : Deck g.row.T.Denot) → IsColumn (deck_deque (get_or decks d e)) (closed n (get_or decks d e)) n d column.items) × (length column.items ≡ n) in
    let here : (e : Deck g.row.T.Denot) → get_or decks place e ≡ c.in-Some.deck = λ e.
    ap (λ (l : List (Deck g.row.T.Denot)). get_or l place e) all ∙ get_or_at inv.so_far.0 c.in-Some.deck rest e place (inv.so_far.1 ∙ long) in
    let count : c.len-count.result ≡ n = inv.count in
    let at : c.len-place.result ≡ place = c.len-place.ensures ∙ long in
    record {
      so_far = (next.1.0, (next.1.1 ∙ sym c.push_reserved.ensures.len), next.1.2);
      count = inv.count;
      room = (let r = inv.room in let p = c.push_reserved.ensures.capacity in omega arith);
      each = subst (EachAt F) (sym c.push_reserved.ensures.items)
          (EachAt_push F c.loop-deck.columns.items c.column.result inv.each (
            (λ e. subst (λ (deck : Deck g.row.T.Denot). IsColumn (deck_deque deck) (closed n deck) n place c.column.result.items) (sym (here e))
                (subst (λ (p : ℕ × ℕ). IsColumn (deck_deque c.in-Some.deck) (closed p.0 c.in-Some.deck) p.0 p.1 c.column.result.items) (λ i. (count i, at i)) c.column.ensures.each)),
            c.column.ensures.count ∙ count,
          ));
    }

pub returns-clause-columns : goal.returns-clause-columns
returns-clause-columns g c =
    let inv = c.loop-deck.invariant in
    let none : length (into_iter_items c.loop-deck.deck-iterator) ≡ 0 = (let e = c.in-None.ensures.steps.0 in omega (arith, c.loop-deck.deck-iterator.rest.ok.0)) in
    let all = ap length inv.so_far.2 in
    record {
      count = (let d = inv.so_far.1 in omega (arith, length-append inv.so_far.0 (into_iter_items c.loop-deck.deck-iterator), c.loop-deck.columns.ok.0, c.args.decks.ok.0));
      same_count = sym c.args.decks.ok.0;
      each = λ d column w e. (inv.each d column w).0 e;
    }

pub returns-clause-height : goal.returns-clause-height
returns-clause-height g c = λ d column w. (c.loop-deck.invariant.each d column w).1
