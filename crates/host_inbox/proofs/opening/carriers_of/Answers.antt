use Rattle.std.proofs.Common.{◌≡◌, ℕ, ◌+◌, ◌-◌, [], All, sym, subst, ap, ◌∙◌, arith}
use Rattle.std.proofs.lemmas.List.Elements.{All-push}
use Rattle.host_inbox.specs.CarrierViews.{CarrierView}
use Rattle.host_inbox.specs.Inboxes.{known}
use Rattle.host_inbox.proofs.SeatSteps.{splits_of, one_less}
use Rattle.host_inbox.proofs.opening.carriers_of.Goals as goal

pub split_seat-one-requires : goal.split_seat-one-requires
split_seat-one-requires g c =
    let seat = c.loop.seat in (
      c.loop.invariant.table,
      c.requires.table.1,
      splits_of c.args.places.now.key seat.id (c.args.seats - c.loop.counter + 1) seat.me (omega arith) c.loop.invariant.knows,
    )

pub loop-preserved : goal.loop-preserved
loop-preserved g c =
    let split = c.split_seat-one.ensures in
    let push = c.push_reserved.ensures in
    let t = c.loop-test.true in
    record {
      table = split.0 ∙ c.loop.invariant.table;
      knows = one_less (c.args.seats - c.loop.counter) c.loop.seat.me c.split_seat-one.new.seat.me c.loop.invariant.knows split.2
          ∙ ap (λ (n : ℕ). (known n [] [], [])) (let e : c.args.seats - c.loop.counter ≡ c.args.seats - (c.loop.counter + 1) + 1 = omega arith in e);
      count = (let n = c.loop.invariant.count in let l = push.len in omega arith);
      room = (let r = c.loop.invariant.room in let p = push.capacity in omega arith);
      each = subst (All (λ (carrier : CarrierView g.row.T.Denot). (carrier.boards ≡ c.args.places.now.table_id) × (carrier.entries ≡ []))) (sym push.items)
          (All-push (λ (carrier : CarrierView g.row.T.Denot). (carrier.boards ≡ c.args.places.now.table_id) × (carrier.entries ≡ [])) c.loop.carriers.items c.new.result c.loop.invariant.each
          (c.new.ensures.0 ∙ (split.3 ∙ c.loop.invariant.table), c.new.ensures.1));
    }
