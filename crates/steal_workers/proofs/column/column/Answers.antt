use Rattle.std.proofs.Common.{◌≡◌, ◌+◌, ◌-◌, ◌<◌, ◌==◌, ℕ, List, length, get_or, vec_len, sym, ap, ◌∙◌, subst, arith}
use Rattle.std.specs.List.{swap}
use Rattle.std.proofs.lemmas.List.{with_items_is}
use Rattle.std.specs.declared.alloc.Global.{Global}
use Rattle.atomic_blocks.specs.Lent.{RowsId}
use Rattle.steal_workers.specs.declared.item.Item.{Item}
use Rattle.steal_workers.specs.declared.hand.Hand.{Hand}
use Rattle.steal_workers.specs.declared.share.Share.{Share}
use Rattle.steal_workers.specs.inside.Handles.{is_own}
use Rattle.steal_workers.specs.inside.Columns.{IsFresh, IsColumn, closed, deck_deque}
use Rattle.steal_workers.proofs.ColumnSteps.{column_swapped}
use Rattle.steal_workers.proofs.column.column.Goals as goal

pub returns-clause-each : goal.returns-clause-each
returns-clause-each g c =
    let T = g.row.T.Denot in
    let n = c.args.seats in
    let place = c.args.place in
    let m = vec_len c.args.deck.thieves in
    let count = c.requires.deck.count in
    let xs = c.shared_out-shares.result.items in
    let long : length xs ≡ n = (let k = c.shared_out-shares.ensures.count in omega (arith, c.shared_out-shares.result.ok.0)) in
    let last : n - 1 ≡ m = omega arith in
    let read = c.as_mut_slice.ensures.value in
    let left = with_items_is c.shared_out-shares.result c.swap.new.self (c.swap.ensures.len ∙ ap length read ∙ sym c.shared_out-shares.result.ok.0) in
    let swapped : c.swap.new.self ≡ swap xs (m - place) m = c.swap.ensures.after ∙ ap (λ (l : List (Share T)). swap l (n - 1 - place) (n - 1)) read ∙ ap (λ (k : ℕ). swap xs (k - place) k) last in
    let dealt = ap (λ (v : Hand T). v.dealt) c.put_marks.ensures.view in
    let each = subst (λ (d : (RowsId × Global) × List (Item T)). (i : ℕ) (e : Share T) → i < m + 1 → IsFresh d.0 d.1 (get_or xs i e) × (is_own (get_or xs i e).handle ≡ (i == m)))
    (λ k. (c.put_marks.ensures.same.1 k, dealt k)) c.shared_out-shares.ensures.each in
    subst (IsColumn (deck_deque c.args.deck) (closed n c.args.deck) n place) (sym (left ∙ swapped))
    (column_swapped (deck_deque c.args.deck) (closed n c.args.deck) n place m xs c.requires.place count long (λ i e within. each i e (omega arith)))
