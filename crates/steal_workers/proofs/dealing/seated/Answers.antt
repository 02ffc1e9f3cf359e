use Rattle.std.proofs.Common.{◌≡◌, ℕ, List, ◌∷◌, All, length, ap, sym, ◌∙◌, subst, arith}
use Rattle.std.proofs.lemmas.List.Elements.{All-head, All-tail}
use Rattle.std.specs.Vec.Iter.{into_iter_items}
use Rattle.list_weights.specs.Places.{EachAt}
use Rattle.steal_workers.specs.declared.item.Item.{Item}
use Rattle.steal_workers.specs.declared.dealing.SeatRow.{SeatRow}
use Rattle.steal_workers.specs.Deals.{IsDealt}
use Rattle.steal_workers.specs.SeatViews.{SeatView}
use Rattle.steal_workers.specs.WholeDeals.{IsNewSeat}
use Rattle.steal_workers.specs.inside.Columns.{AreColumns, IsRow}
use Rattle.steal_workers.specs.inside.Layouts.{IsEmptyRow, planned}
use Rattle.list_weights.proofs.Places.{EachAt_push}
use Rattle.steal_workers.proofs.DealSteps.{row_queues, seat_of_row}
use Rattle.steal_workers.proofs.dealing.seated.Goals as goal

pub row-shares-requires-clause-columns : goal.row-shares-requires-clause-columns
row-shares-requires-clause-columns g c =
    let inv = c.loop-empty.invariant in
    subst (λ (n : ℕ). AreColumns c.args.plan.now.decks.value.items n c.loop-empty.columns) (sym inv.columns.count) inv.columns

pub row-shares-requires-clause-height : goal.row-shares-requires-clause-height
row-shares-requires-clause-height g c = λ d column w.
    let inv = c.loop-empty.invariant in
    let h = inv.height d column w in
    let count = inv.columns.count in
    let place = c.len-place.ensures in
    omega arith

pub row-shares-requires-clause-place : goal.row-shares-requires-clause-place
row-shares-requires-clause-place g c =
    let inv = c.loop-empty.invariant in
    let count = inv.columns.count in
    let left = inv.left in
    let long = ap length c.in-Some.ensures.steps.0 in
    let place = c.len-place.ensures in
    omega arith

pub row-shares-requires-clause-empty : goal.row-shares-requires-clause-empty
row-shares-requires-clause-empty g c =
    let P : SeatRow g.row.T.Denot → Type 0 = IsEmptyRow (length c.args.columns.now) c.args.plan.now.tasks.value.items in
    (All-head P c.in-Some.empty (into_iter_items c.next.new.self) (subst (All P) c.in-Some.ensures.steps.0 c.loop-empty.invariant.rows)).0

pub row-shares-requires-clause-room : goal.row-shares-requires-clause-room
row-shares-requires-clause-room g c =
    let P : SeatRow g.row.T.Denot → Type 0 = IsEmptyRow (length c.args.columns.now) c.args.plan.now.tasks.value.items in
    let room = (All-head P c.in-Some.empty (into_iter_items c.next.new.self) (subst (All P) c.in-Some.ensures.steps.0 c.loop-empty.invariant.rows)).1 in
    let count = c.loop-empty.invariant.columns.count in
    omega arith

pub new-requires-clause-place : goal.new-requires-clause-place
new-requires-clause-place g c =
    let inv = c.loop-empty.invariant in
    let row = c.row-shares.ensures.row.count in
    let count = inv.columns.count in
    let left = inv.left in
    let long = ap length c.in-Some.ensures.steps.0 in
    let place = c.len-place.ensures in
    let most = c.requires.seats.2 in
    (omega arith, omega arith)

pub new-requires-clause-shares : goal.new-requires-clause-shares
new-requires-clause-shares g c = c.row-shares.ensures.row.each

pub new-requires-clause-dealt : goal.new-requires-clause-dealt
new-requires-clause-dealt g c =
    let T = g.row.T.Denot in
    let inv = c.loop-empty.invariant in
    let decks = c.args.plan.now.decks.value.items in
    let n = length c.args.columns.now in
    let P : SeatRow T → Type 0 = IsEmptyRow n c.args.plan.now.tasks.value.items in
    let same = (All-head P c.in-Some.empty (into_iter_items c.next.new.self) (subst (All P) c.in-Some.ensures.steps.0 inv.rows)).2 in
    let row : IsRow decks n n c.len-place.result c.row-shares.result.items = subst (λ (m : ℕ). IsRow decks m m c.len-place.result c.row-shares.result.items) inv.columns.count c.row-shares.ensures.row in
    let queues = row_queues decks n c.len-place.result c.row-shares.result.items inv.columns.same_count row in
    subst (λ (p : List (List (Item T)) × List T). IsDealt p.0 p.1) (λ i. (sym queues i, sym same i)) c.requires.dealt

pub new-requires-clause-count : goal.new-requires-clause-count
new-requires-clause-count g c =
    let P : SeatRow g.row.T.Denot → Type 0 = IsEmptyRow (length c.args.columns.now) c.args.plan.now.tasks.value.items in
    let same = (All-head P c.in-Some.empty (into_iter_items c.next.new.self) (subst (All P) c.in-Some.ensures.steps.0 c.loop-empty.invariant.rows)).2 in
    c.requires.count ∙ ap length (sym same)

pub push_reserved-requires : goal.push_reserved-requires
push_reserved-requires g c =
    let inv = c.loop-empty.invariant in
    let left = inv.left in
    let long = ap length c.in-Some.ensures.steps.0 in
    let room = inv.room in
    omega arith

pub loop-empty-preserved : goal.loop-empty-preserved
loop-empty-preserved g c =
    let inv = c.loop-empty.invariant in
    let decks = c.args.plan.now.decks.value.items in
    let tasks = c.args.plan.now.tasks.value.items in
    let n = length c.args.columns.now in
    let rest = into_iter_items c.next.new.self in
    let next = c.in-Some.ensures.steps.0 in
    let long = ap length next in
    let P : SeatRow g.row.T.Denot → Type 0 = IsEmptyRow n tasks in
    let rows : All P (c.in-Some.empty ∷ rest) = subst (All P) next inv.rows in
    let head = All-head P c.in-Some.empty rest rows in
    let wide : length c.loop-empty.columns ≡ n = inv.columns.count in
    let place = c.len-place.result in
    let at : place ≡ length c.loop-empty.seats.items = c.len-place.ensures ∙ c.loop-empty.seats.ok.0 in
    let F : ℕ → SeatView g.row.T.Denot → Type 0 = λ d seat. (seat.deal ≡ planned n decks tasks) × (seat.place ≡ d) × IsNewSeat seat in
    let row : IsRow decks n n place c.row-shares.result.items = subst (λ (m : ℕ). IsRow decks m m place c.row-shares.result.items) wide c.row-shares.ensures.row in
    let seat = seat_of_row decks n place c.row-shares.result.items tasks c.in-Some.empty.tasks.value.items c.new.result inv.columns.same_count row head.2 c.new.ensures in
    record {
      columns = subst (λ (m : ℕ). AreColumns decks m c.row-shares.new.columns) wide c.row-shares.ensures.columns;
      height = λ d column w. (let h = c.row-shares.ensures.height d column w in let e = c.push_reserved.ensures.len in let p = c.len-place.ensures in omega arith);
      rows = All-tail P c.in-Some.empty rest rows;
      left = (let l = inv.left in let e = c.push_reserved.ensures.len in omega arith);
      room = (let r = inv.room in let e = c.push_reserved.ensures.capacity in omega arith);
      seats = subst (EachAt F) (sym c.push_reserved.ensures.items)
          (EachAt_push F c.loop-empty.seats.items c.new.result inv.seats (seat.0, seat.1 ∙ at, seat.2));
    }

pub returns-clause-count : goal.returns-clause-count
returns-clause-count g c =
    let e = c.in-None.ensures.steps.0 in
    let left = c.loop-empty.invariant.left in
    omega (arith, c.loop-empty.seats.ok.0, c.loop-empty.empty-iterator.rest.ok.0)

pub returns-clause-seats : goal.returns-clause-seats
returns-clause-seats g c = c.loop-empty.invariant.seats
