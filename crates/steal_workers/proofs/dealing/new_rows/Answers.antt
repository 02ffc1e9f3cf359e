use Rattle.std.proofs.Common.{[], ◌∷◌, Vec, ap, arith}
use Rattle.std.proofs.lemmas.List.Elements.{All-nil, All-cons, All-append}
use Rattle.std.specs.declared.alloc.Global.{Global}
use Rattle.steal_workers.specs.declared.dealing.SeatRow.{SeatRow}
use Rattle.steal_workers.specs.inside.Layouts.{IsEmptyRow}
use Rattle.steal_workers.proofs.dealing.new_rows.Goals as goal

pub loop-init : goal.loop-init
loop-init g c = record {
  count = c.in_ok-rows.ensures.len;
  room = c.in_ok-rows.ensures.capacity;
  each = rw c.in_ok-rows.ensures.items (All-nil _);
}

pub loop-preserved : goal.loop-preserved
loop-preserved g c =
    let P : SeatRow g.row.T.Denot → Type 0 = IsEmptyRow c.args.seats c.args.tasks.now.items in
    let row : SeatRow g.row.T.Denot = record { shares = c.in_ok-shares.shares; tasks = c.of.result } in
    let fresh : P row = (c.in_ok-shares.ensures.items, c.in_ok-shares.ensures.capacity, ap (λ (v : Vec g.row.T.Denot Global). v.items) c.of.ensures) in
    let count = c.loop.invariant.count in
    record {
      count = (let p = c.push_reserved.ensures.len in omega arith);
      room = (let r = c.loop.invariant.room in let p = c.push_reserved.ensures.capacity in omega arith);
      each = rw c.push_reserved.ensures.items (All-append P c.loop.rows.items (row ∷ []) c.loop.invariant.each (All-cons P row [] fresh (All-nil P)));
    }

pub returns : goal.returns
returns g c = ((let count = c.loop.invariant.count in let t = c.loop-test.false in let e = c.loop.auto.counter-end in omega (arith, c.loop.rows.ok.0)), c.loop.invariant.each)
