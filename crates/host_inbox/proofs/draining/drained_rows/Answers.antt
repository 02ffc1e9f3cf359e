use Rattle.std.proofs.Common.{◌≡◌, ◌+◌, ◌*◌, ℕ, List, Option, Some, Vec, length, vec_len, sym, subst, ap, ◌∙◌, arith}
use Rattle.std.proofs.lemmas.List.Elements.{All-pop}
use Rattle.std.specs.Mem.Slots.{slots_items, slots_filled}
use Rattle.std.specs.declared.alloc.Global.{Global}
use Rattle.list_weights.specs.Places.{EachAt}
use Rattle.host_inbox.specs.inside.Slots.{IsRoom, IsTakenTo, row_of}
use Rattle.list_weights.proofs.Places.{EachAt_push}
use Rattle.host_inbox.proofs.draining.drained_rows.Goals as goal

pub loop-row-preserved : goal.loop-row-preserved
loop-row-preserved g c =
    let T = g.row.T.Denot in
    let inv = c.loop-row.invariant in
    let row = c.drained_row.ensures in
    let pop = c.in-Some.ensures in
    let push = c.push_reserved.ensures in
    let slots = slots_items c.args.closed.slots in
    let long = c.loop-row.rows.ok.0 in
    let host : c.len-host.result ≡ length c.loop-row.rows.items = c.len-host.ensures ∙ long in
    let F : ℕ → Vec T Global → Type 0 = λ host row. row.items ≡ row_of slots host in
    record {
      items = row.same.0 ∙ inv.items;
      places = row.same.1 ∙ inv.places;
      taken = subst (λ (n : ℕ). IsTakenTo n (slots_filled c.drained_row.new.closed.slots))
          (let n : c.len-host.result * 16 + 16 ≡ vec_len c.push_reserved.new.self * 16 = (let p = push.len in let l = c.len-host.ensures in omega arith) in n) row.taken;
      count = (let p = pop.len in let q = push.len in let n = inv.count in omega arith);
      room = (let p = push.capacity in let r = inv.room in omega arith);
      rooms = (All-pop (IsRoom {T = T}) c.loop-row.empty.items c.pop.new.self.items (Some c.in-Some.row) pop.items inv.rooms).0;
      each = subst (EachAt F) (sym push.items)
          (EachAt_push F c.loop-row.rows.items c.drained_row.result inv.each
          (row.parcels ∙ ap (λ (s : List (Option T)). row_of s c.len-host.result) inv.items ∙ ap (row_of slots) host));
    }
