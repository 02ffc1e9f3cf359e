use Rattle.std.proofs.Common.{◌≡◌, ◌+◌, ◌*◌, List, Option, Some, None, Vec, vec_len, vec_capacity, sym, refl, subst, ap, ◌∙◌, append-nil, arith}
use Rattle.std.specs.Mem.Slots.{slots_items, slots_filled, slots_counts}
use Rattle.std.specs.declared.alloc.Global.{Global}
use Rattle.host_inbox.specs.inside.Slots.{IsTakenTo, parcels_from, row_of}
use Rattle.host_inbox.proofs.DrainSteps.{takes_next, row_next}
use Rattle.host_inbox.proofs.draining.drained_row.Goals as goal
use Rattle.host_inbox.proofs.draining.drained_row.Goals.{in-Some, in-None}

pub loop-number-preserved : goal.loop-number-preserved
loop-number-preserved g c =
    let T = g.row.T.Denot in
    let inv = c.loop-number.invariant in
    let take = c.take.ensures in
    let old = c.loop-number.closed.slots in
    let n = c.loop-number.number in
    let from = c.args.host * 16 in
    let t = c.loop-number-test.true in
    let counts = slots_counts old in
    record {
      items = take.others.0 ∙ inv.items;
      places = take.others.2 ∙ inv.places;
      taken = subst (IsTakenTo (from + (n + 1))) (sym take.others.1)
          (takes_next (slots_filled old) (from + n) (from + (n + 1)) (let w = c.requires.within in let p = inv.places in omega (arith, counts.1)) (omega arith) inv.taken);
      parcels = elim c.match-take.branch [
        | in-Some w ↦
            ap (λ (v : Vec T Global). v.items) w.row-is
            ∙ row_next (slots_items old) from n (n + 1) (Some w.in-Some.parcel) c.loop-number.row.items w.push_reserved.new.self.items refl w.in-Some.ensures.value inv.parcels w.push_reserved.ensures.items
            ∙ ap (λ (s : List (Option T)). parcels_from s from (n + 1)) (sym take.others.0)
        | in-None w ↦
            ap (λ (v : Vec T Global). v.items) w.row-is
            ∙ row_next (slots_items old) from n (n + 1) None c.loop-number.row.items c.loop-number.row.items refl w.in-None.ensures.value inv.parcels (sym (append-nil c.loop-number.row.items))
            ∙ ap (λ (s : List (Option T)). parcels_from s from (n + 1)) (sym take.others.0)
      ];
      few = elim c.match-take.branch [
        | in-Some w ↦ (let e : vec_len c.match-take.row ≡ vec_len w.push_reserved.new.self = ap (λ (v : Vec T Global). vec_len v) w.row-is in let p = w.push_reserved.ensures.len in let f = inv.few in omega arith)
        | in-None w ↦ (let e : vec_len c.match-take.row ≡ vec_len c.loop-number.row = ap (λ (v : Vec T Global). vec_len v) w.row-is in let f = inv.few in omega arith)
      ];
      room = elim c.match-take.branch [
        | in-Some w ↦ (let e : vec_capacity c.match-take.row ≡ vec_capacity w.push_reserved.new.self = ap (λ (v : Vec T Global). vec_capacity v) w.row-is in let p = w.push_reserved.ensures.capacity in let r = inv.room in omega arith)
        | in-None w ↦ (let e : vec_capacity c.match-take.row ≡ vec_capacity c.loop-number.row = ap (λ (v : Vec T Global). vec_capacity v) w.row-is in let r = inv.room in omega arith)
      ];
    }

pub returns-clause-parcels : goal.returns-clause-parcels
unfolding row_of
returns-clause-parcels g c =
    let T = g.row.T.Denot in
    let inv = c.loop-number.invariant in
    let from = c.args.host * 16 in
    let t = c.loop-number-test.false in
    let e = c.loop-number.auto.number-end in
    inv.parcels
    ∙ ap (λ (s : List (Option T)). parcels_from s from c.loop-number.number) inv.items
    ∙ ap (parcels_from (slots_items c.args.closed.now.slots) from) (let k : c.loop-number.number ≡ 16 = omega arith in k)
