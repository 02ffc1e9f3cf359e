use Rattle.std.proofs.Common.{◌≡◌, ◌++◌, ◌∷◌, [], List, ℕ, All, Some, length, sym, ap, subst, ◌∙◌, length-append, arith}
use Rattle.std.proofs.lemmas.List.Elements.{All-nil, All-push, All-pop}
use Rattle.host_inbox.specs.CarrierViews.{CarrierView, BoardsView, AreAllOf}
use Rattle.host_inbox.proofs.JoiningSteps.{last_is_theirs}
use Rattle.part_tests.proofs.boards.both.Goals as goal

all_two : (b : BoardsView) (none mid end : List (CarrierView ℕ)) (one two : CarrierView ℕ) → length none ≡ 0 → mid ≡ none ++ one ∷ [] → end ≡ mid ++ two ∷ [] → one.boards ≡ b.id → two.boards ≡ b.id → b.seats ≡ 2 → AreAllOf b end
all_two b (x ∷ none) mid end one two empty first second p q seats = absurd (omega arith)
all_two b [] mid end one two empty first second p q seats =
    let P : CarrierView ℕ → Type 0 = λ carrier. carrier.boards ≡ b.id in
    record {
      theirs = subst (All P) (sym second) (All-push P mid two (subst (All P) (sym first) (All-push P [] one (All-nil P) p)) q);
      count = (let a = ap length first in let b = ap length second in omega (arith, length-append mid (two ∷ [])));
    }

pub close-requires : goal.close-requires
close-requires g c =
    let boards = c.in_ok-boards.boards in
    let open_is = c.in_ok-boards.ensures in
    let Theirs : CarrierView ℕ → Type 0 = λ carrier. carrier.boards ≡ boards.id in
    let two_is = c.in-Some.ensures in
    let one_is = c.in-Some-pop.ensures in
    let two : c.in-Some.two.boards ≡ boards.id = last_is_theirs boards.id c.in_ok-boards.carriers.items c.pop.new.self.items c.in-Some.two open_is.carriers_are.theirs two_is.items in
    let front : All Theirs c.pop.new.self.items = (All-pop Theirs c.in_ok-boards.carriers.items c.pop.new.self.items (Some c.in-Some.two) two_is.items open_is.carriers_are.theirs).0 in
    let one : c.in-Some-pop.one.boards ≡ boards.id = last_is_theirs boards.id c.pop.new.self.items c.pop-2.new.self.items c.in-Some-pop.one front one_is.items in
    all_two boards c.pop-2.new.self.items c.push.new.self.items c.push-2.new.self.items c.join-first.result.0.0 c.join-first.result.1.0
    (let count = open_is.carriers_are.count in let seats = open_is.seats_are in let a = ap length two_is.items in let b = ap length one_is.items in
    omega (arith, length-append c.pop.new.self.items (c.in-Some.two ∷ []), length-append c.pop-2.new.self.items (c.in-Some-pop.one ∷ [])))
    c.in_ok-push.ensures.items c.in_ok-push-2.ensures.items (c.join-first.ensures.first ∙ one) (c.join-first.ensures.second ∙ two) open_is.seats_are
