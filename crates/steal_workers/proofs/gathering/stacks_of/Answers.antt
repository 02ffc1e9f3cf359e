use Rattle.std.proofs.Common.{◌≡◌, ◌++◌, List, [], ◌∷◌, length, refl, ap, sym, ◌∙◌, subst, length-append, append-nil, append_assoc, arith}
use Rattle.std.proofs.lemmas.List.Elements.{All-nil}
use Rattle.std.proofs.lemmas.List.{nil_from_length}
use Rattle.std.specs.Vec.Iter.{into_iter_items}
use Rattle.steal_workers.specs.SeatViews.{SeatView}
use Rattle.steal_workers.proofs.SeatStacks.{AreStacked, stacked_more, dealt_by}
use Rattle.steal_workers.proofs.gathering.stacks_of.Goals as goal

pub loop-seat-init : goal.loop-seat-init
loop-seat-init g c = record {
  so_far = (
    [],
    (let e = ap length c.requires.empty.0 in omega (arith, c.args.stacks.ok.0)),
    sym c.into_iter-seat-iterator.ensures.into_iter_gives.0,
    subst (AreStacked c.args.seats.items []) (sym c.requires.empty.0) (record { same_places = refl; numbers = λ h. refl; each = All-nil _ }),
  );
  room = c.requires.empty.1;
  dealt = λ some_stack. (let e = ap length c.requires.empty.0 in absurd (omega (arith, c.args.stacks.ok.0)));
}

pub loop-seat-preserved : goal.loop-seat-preserved
loop-seat-preserved g c =
    let T = g.row.T.Denot in
    let inv = c.loop-seat.invariant in
    let seats = c.args.seats.items in
    let done = inv.so_far.0 in
    let rest = into_iter_items c.next.new.self in
    let all : seats ≡ done ++ (c.in-Some.seat ∷ rest) = inv.so_far.2 ∙ ap (λ (l : List (SeatView T)). done ++ l) c.in-Some.ensures.steps.0 in
    let more = stacked_more seats done rest c.in-Some.seat c.loop-seat.stacks.items c.into_stack.result c.requires.whole all inv.so_far.3 c.into_stack.ensures.stack c.into_stack.ensures.numbers in
    let joins = c.push_reserved.ensures.items in
    record {
      so_far = (
        done ++ c.in-Some.seat ∷ [],
        (let d = inv.so_far.1 in let p = c.push_reserved.ensures.len in omega (arith, length-append done (c.in-Some.seat ∷ []))),
        all ∙ sym (append_assoc done (c.in-Some.seat ∷ []) rest),
        subst (AreStacked seats (done ++ c.in-Some.seat ∷ [])) (sym joins) more,
      );
      room = (let r = inv.room in let p = c.push_reserved.ensures.capacity in omega arith);
      dealt = λ some_stack. dealt_by seats done rest c.in-Some.seat c.requires.whole all c.into_stack.ensures.dealt;
    }

pub returns : goal.returns
returns g c =
    let T = g.row.T.Denot in
    let inv = c.loop-seat.invariant in
    let seats = c.args.seats.items in
    let none : into_iter_items c.loop-seat.seat-iterator ≡ [] = nil_from_length (into_iter_items c.loop-seat.seat-iterator) (let e = c.in-None.ensures.steps.0 in omega (arith, c.loop-seat.seat-iterator.rest.ok.0)) in
    let whole : inv.so_far.0 ≡ seats = sym (inv.so_far.2 ∙ ap (λ (l : List (SeatView T)). inv.so_far.0 ++ l) none ∙ append-nil inv.so_far.0) in
    let stacked = subst (λ (done : List (SeatView T)). AreStacked seats done c.loop-seat.stacks.items) whole inv.so_far.3 in
    let long = ap length whole in
    let d = inv.so_far.1 in
    record {
      stacks = stacked.each;
      places = stacked.same_places;
      numbers = stacked.numbers;
      dealt = λ some_seat. inv.dealt (omega (arith, c.args.seats.ok.0));
    }
