use Rattle.std.proofs.Common.{◌≡◌, ℕ, ◌++◌, ◌∷◌, [], Some, slice_get, sym, subst, ◌∙◌}
use Rattle.round_lookahead.specs.Tasks.{IsTask}
use Rattle.round_lookahead.proofs.WorkSteps.{gained_more, no_more}
use Rattle.round_lookahead.proofs.workers.working.turn.Goals as goal

pub returns-in_ok-work_one-in-Task-clause-below : goal.returns-in_ok-work_one-in-Task-clause-below
returns-in_ok-work_one-in-Task-clause-below g c = no_more c.next.new.self.numbers _ (c.next.ensures.once (λ _. 1))

pub returns-in-Empty-clause-below : goal.returns-in-Empty-clause-below
returns-in-Empty-clause-below g c = no_more c.next.new.self.numbers _ (c.next.ensures.once (λ _. 1))

pub returns-in-Lost-clause-below : goal.returns-in-Lost-clause-below
returns-in-Lost-clause-below g c = no_more c.next.new.self.numbers _ (c.next.ensures.once (λ _. 1))

pub returns-in_ok-work_one-in-Task-clause-worked : goal.returns-in_ok-work_one-in-Task-clause-worked
returns-in_ok-work_one-in-Task-clause-worked g c = λ rec start tasks w.
    (let net = c.args.net.now in
    let all = c.args.seat.now.deal.tasks in
    let task = c.in-Task.task in
    let n = c.in-Task.ensures.answer.0 in
    let is : IsTask net n.0 task (rec n.0) = tasks n.0 task n.2 in
    let step = c.in_ok-work_one-in-Task.ensures.worked all rec w.jobs (subst (λ (k : ℕ). slice_get all k ≡ Some task) (sym is.id) n.2) (subst (λ (k : ℕ). IsTask net k task (rec k)) (sym is.id) is) w.work in
    record {
      jobs = w.jobs ++ step.0 ∷ [];
      gained = gained_more start c.args.seat.now.numbers c.next.new.self.numbers w.jobs step.0 n.0 (step.1 ∙ is.id) n.1 w.gained;
      work = step.2;
    })

pub work_one-requires-clause-task : goal.work_one-requires-clause-task
work_one-requires-clause-task g c =
    let n = c.in-Task.ensures.answer.0 in
    let h = c.requires.tasks.each n.0 c.in-Task.task n.2 in
    (h.0, subst (λ (k : ℕ). IsTask c.args.net.now k c.in-Task.task h.0) (sym (h.1).id) h.1)
