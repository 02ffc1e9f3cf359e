use Rattle.std.proofs.Common.{◌≡◌, ℕ, [], length, sym, subst, arith}
use Rattle.list_weights.specs.Places.{EachAt}
use Rattle.steal_workers.specs.declared.deck.Deck.{Deck}
use Rattle.steal_workers.specs.inside.Decks.{IsFilling, queue_of}
use Rattle.list_weights.proofs.Places.{EachAt_push}
use Rattle.steal_workers.proofs.dealing.new_decks.Goals as goal

pub loop-init : goal.loop-init
loop-init g c = record {
  count = c.in_ok-decks.ensures.len;
  room = c.in_ok-decks.ensures.capacity;
  each = rw c.in_ok-decks.ensures.items (λ d e w. absurd (omega arith));
}

pub loop-preserved : goal.loop-preserved
loop-preserved g c =
    let F : ℕ → Deck g.row.T.Denot → Type 0 = λ d deck. IsFilling c.args.seats c.args.room 0 d deck × (queue_of deck ≡ []) in
    let count = c.loop.invariant.count in
    record {
      count = (let p = c.push_reserved.ensures.len in omega arith);
      room = (let r = c.loop.invariant.room in let p = c.push_reserved.ensures.capacity in omega arith);
      each = subst (EachAt F) (sym c.push_reserved.ensures.items)
          (EachAt_push F c.loop.decks.items _ c.loop.invariant.each
          (c.in_ok-new.ensures.0 (length c.loop.decks.items) (let t = c.loop-test.true in omega (arith, c.loop.decks.ok.0)), c.in_ok-new.ensures.1));
    }

pub returns : goal.returns
returns g c = ((let count = c.loop.invariant.count in let t = c.loop-test.false in let e = c.loop.auto.counter-end in omega (arith, c.loop.decks.ok.0)), c.loop.invariant.each)
