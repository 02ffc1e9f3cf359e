use Rattle.std.proofs.Common.{◌≡◌, ◌+◌, ◌/◌, ℕ, List, length, vec_len, ap, sym, ◌∙◌, subst}
use Rattle.std.proofs.lemmas.List.{with_items_is}
use Rattle.steal_workers.specs.declared.deck.Deck.{Deck}
use Rattle.steal_workers.specs.inside.Decks.{AreFilling}
use Rattle.steal_workers.specs.inside.Layouts.{AreFresh}
use Rattle.steal_workers.proofs.DealSteps.{fresh_filling}
use Rattle.steal_workers.proofs.dealing.filled.Goals as goal

pub put_tasks-requires-clause-fresh : goal.put_tasks-requires-clause-fresh
put_tasks-requires-clause-fresh g c =
    let all = vec_len c.args.tasks in
    let xs = c.args.decks.items in
    let fresh = subst (λ (n : ℕ). AreFresh n (all / n + 1 + n) xs) c.args.decks.ok.0 c.requires.fresh in
    subst (λ (l : List (Deck g.row.T.Denot)). AreFilling (length l) (all / length l + 1 + length l) 0 c.args.tasks.items l) (sym c.as_mut_slice.ensures.value)
    (fresh_filling (length xs) (all / length xs + 1 + length xs) c.args.tasks.items xs fresh)

pub returns : goal.returns
returns g c =
    let all = vec_len c.args.tasks in
    let same : length c.as_mut_slice.result.now ≡ vec_len c.args.decks = ap length c.as_mut_slice.ensures.value ∙ sym c.args.decks.ok.0 in
    let left = with_items_is c.args.decks c.put_tasks.new.decks (c.put_tasks.ensures.count ∙ same) in
    subst (AreFilling (vec_len c.args.decks) (all / vec_len c.args.decks + 1 + vec_len c.args.decks) all c.args.tasks.items) (sym left)
    (subst (λ (n : ℕ). AreFilling n (all / n + 1 + n) all c.args.tasks.items c.put_tasks.new.decks) same c.put_tasks.ensures)
