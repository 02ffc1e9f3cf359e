use Rattle.std.proofs.Common.{◌≡◌, List, ℕ, Some, slice_get, sym, ap, ◌∙◌, arith}
use Rattle.sock_tcp.proofs.Listeners.ListenEnds.{first_below}
use Rattle.sock_tcp.proofs.listener.Listener.oldest.Goals as goal

pub returns-else-place-len-clause-oldest : goal.returns-else-place-len-clause-oldest
returns-else-place-len-clause-oldest c = λ l h.
    let self = c.args.self.now in
    let place = c.in_ok-place.field-0.now in
    let first : slice_get self.accept_queue.items 0 ≡ Some place =
    ap (λ (xs : List ℕ). slice_get xs 0) (sym c.deref.ensures.value) ∙ sym c.in_ok-place.ensures.value in
    let below = first_below self l place first h in
    absurd (omega (arith, below, c.if-place-len.false, c.len.ensures, self.records.ok.0))
