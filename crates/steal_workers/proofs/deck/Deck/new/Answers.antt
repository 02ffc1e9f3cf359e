use Rattle.std.proofs.Common.{◌≡◌, ◌*◌, [], ◌∷◌, ap, sym, ◌∙◌, arith}
use Rattle.std.proofs.lemmas.List.Elements.{All-nil, All-cons, All-append}
use Rattle.crossbeam_deque.specs.Handles.{worker_deque, worker_index}
use Rattle.steal_workers.specs.declared.hand.Hand.{Hand}
use Rattle.steal_workers.specs.inside.Items.{marks}
use Rattle.steal_workers.specs.inside.Decks.{IsThiefOf}
use Rattle.steal_workers.proofs.Steps.{begins}
use Rattle.steal_workers.proofs.deck.Deck.new.Goals as goal

pub fifo_as-requires : goal.fifo_as-requires
fifo_as-requires g c = begins

pub loop-init : goal.loop-init
loop-init g c = record {
  thieves = rw c.in_ok-thieves.ensures.items (All-nil _);
  count = (let e = c.in_ok-thieves.ensures.len in omega arith);
  room = (let e = c.in_ok-thieves.ensures.capacity in omega arith);
}

pub push_reserved-requires : goal.push_reserved-requires
push_reserved-requires g c =
    let room = c.loop.invariant.room in
    let count = c.loop.invariant.count in
    omega arith

pub loop-preserved : goal.loop-preserved
loop-preserved g c =
    let P = IsThiefOf (worker_deque c.in_ok-deque.deque) in
    record {
      thieves = rw c.push_reserved.ensures.items (All-append P c.loop.thieves.items (c.in_ok-stealer.field-0 ∷ []) c.loop.invariant.thieves (All-cons P c.in_ok-stealer.field-0 [] (c.in_ok-stealer.ensures.0, c.in_ok-stealer.ensures.1 ∙ c.in_ok-deque.ensures.1) (All-nil P)));
      count = (let e = c.push_reserved.ensures.len in let k = c.loop.invariant.count in omega arith);
      room = (let e = c.push_reserved.ensures.capacity in let k = c.loop.invariant.room in omega arith);
    }

pub returns : goal.returns
returns g c =
    let made = c.in_ok-deque.ensures in
    let view = made.4 in
    let index = made.3 in (
      (λ place within. record {
        sound = record {
          fifo = made.1;
          deals = ap (λ (v : Hand g.row.T.Denot). v.deals) view;
          share = ap (λ (v : Hand g.row.T.Denot). v.share) view ∙ sym (ap (λ (v : Hand g.row.T.Denot). marks v.dealt) view);
          taken = ap (λ (v : Hand g.row.T.Denot). v.taken) view;
          thieves = c.loop.invariant.thieves;
          count = (let k = c.loop.invariant.count in let t = c.loop-test.false in let e = c.loop.auto.counter-end in omega arith);
          empty = c.in_ok-shares.ensures.items;
          room = c.in_ok-shares.ensures.capacity;
        };
        capacity = made.0.1;
        level = (let zero_level : worker_index c.in_ok-deque.deque * c.args.seats ≡ 0 * c.args.seats = ap (λ i. i * c.args.seats) index in omega arith);
        unmarked = ap (λ (v : Hand g.row.T.Denot). marks v.dealt) view;
      }),
      ap (λ (v : Hand g.row.T.Denot). v.dealt) view,
    )
