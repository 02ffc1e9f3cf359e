use Rattle.std.proofs.Common.{◌≡◌, ◌+◌, ◌/◌, ℕ, List, map, length, Vec, vec_len, ap, sym, ◌∙◌, subst, arith}
use Rattle.std.proofs.lemmas.List.{length-map}
use Rattle.std.specs.declared.alloc.Global.{Global}
use Rattle.steal_workers.specs.declared.deck.Deck.{Deck}
use Rattle.steal_workers.specs.Deals.{Deal, IsDealt}
use Rattle.steal_workers.specs.WholeDeals.{IsNewDeal}
use Rattle.steal_workers.specs.inside.Decks.{AreFilling}
use Rattle.steal_workers.specs.inside.Columns.{closed, deck_deque}
use Rattle.steal_workers.specs.inside.Layouts.{AreFresh, AreFilled, planned}
use Rattle.steal_workers.proofs.DealSteps.{filled_from_filling, dealt_from_filling, new_deal}
use Rattle.steal_workers.proofs.dealing.laid_out.Goals as goal

pub filled-decks-requires-clause-fresh : goal.filled-decks-requires-clause-fresh
filled-decks-requires-clause-fresh g c =
    subst (λ (n : ℕ). AreFresh n (vec_len c.args.tasks / n + 1 + n) c.args.layout.decks.items) (sym (c.args.layout.decks.ok.0 ∙ c.requires.decks.0)) c.requires.decks

pub columns_of-columns-requires-clause-filled : goal.columns_of-columns-requires-clause-filled
columns_of-columns-requires-clause-filled g c =
    let n = vec_len c.args.layout.decks in
    let all = vec_len c.args.tasks in
    let decks = c.filled-decks.result.items in
    let filling : AreFilling n (all / n + 1 + n) all c.args.tasks.items decks = c.filled-decks.ensures in
    let same : n ≡ vec_len c.filled-decks.result = sym (c.filled-decks.result.ok.0 ∙ filling.count) in
    subst (λ (m : ℕ). AreFilled m decks) same
    (filled_from_filling n all c.args.tasks.items decks (let s = c.requires.few_seats.0 in let d = c.requires.decks.0 in omega (arith, c.args.layout.decks.ok.0)) filling)

pub seated-requires-clause-dealt : goal.seated-requires-clause-dealt
seated-requires-clause-dealt g c =
    let T = g.row.T.Denot in
    let n = vec_len c.args.layout.decks in
    let all = vec_len c.args.tasks in
    let decks = c.filled-decks.result.items in
    let filling = c.filled-decks.ensures in
    let long : all ≡ length c.args.tasks.items = c.args.tasks.ok.0 in
    let dealt : IsDealt (map (closed n) decks) c.args.tasks.items =
    dealt_from_filling n (all / n + 1 + n) c.args.tasks.items decks (subst (λ (k : ℕ). AreFilling n (all / n + 1 + n) k c.args.tasks.items decks) long filling) in
    let wide : n ≡ length c.as_mut_slice.result.now = sym (ap length c.as_mut_slice.ensures.value ∙ c.columns_of-columns.ensures.columns.count ∙ c.filled-decks.result.ok.0 ∙ filling.count) in
    let plan : decks ≡ c.of.result.value.items = sym (ap (λ (v : Vec (Deck T) Global). v.items) c.of.ensures) in
    let whole : c.args.tasks.items ≡ c.of-whole.result.value.items = sym (ap (λ (v : Vec T Global). v.items) c.of-whole.ensures) in
    subst (λ (p : ℕ × List (Deck T) × List T). IsDealt (map (closed p.0) p.1) p.2) (λ i. (wide i, plan i, whole i)) dealt

pub returns : goal.returns
returns g c =
    let T = g.row.T.Denot in
    let filling = c.filled-decks.ensures in
    let slice = c.as_mut_slice.result.now in
    let deal : Deal T = planned (length slice) c.of.result.value.items c.of-whole.result.value.items in
    let decks : length c.of.result.value.items ≡ length c.filled-decks.result.items = ap (λ (v : Vec (Deck T) Global). length v.items) c.of.ensures in
    let seats : length c.filled-decks.result.items ≡ c.args.seats = filling.count ∙ c.args.layout.decks.ok.0 ∙ c.requires.decks.0 in
    let wide : length slice ≡ c.args.seats = ap length c.as_mut_slice.ensures.value ∙ c.columns_of-columns.ensures.columns.count ∙ c.filled-decks.result.ok.0 ∙ seats in
    subst (λ (tasks : List T). IsNewDeal tasks c.args.seats c.seated.result.items) (ap (λ (v : Vec T Global). v.items) c.of-whole.ensures)
    (new_deal deal c.args.seats c.seated.result.items c.requires.few_seats.0 (c.seated.ensures.count ∙ wide)
    (length-map c.of.result.value.items deck_deque ∙ decks ∙ seats) c.seated.ensures.seats)
