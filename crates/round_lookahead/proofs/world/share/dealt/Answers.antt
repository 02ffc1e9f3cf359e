use Rattle.std.proofs.Common.{◌≡◌, ◌++◌, ◌∷◌, [], List, sym, ap, ◌∙◌, arith, append-nil}
use Rattle.std.proofs.lemmas.List.{nil_from_length}
use Rattle.std.specs.Vec.Iter.{into_iter_items}
use Rattle.round_lookahead.specs.declared.workers.host_task.HostTask.{HostTask}
use Rattle.round_lookahead.specs.inside.Shares.{dealt_in}
use Rattle.round_lookahead.proofs.BackSteps.{completes}
use Rattle.round_lookahead.proofs.world.share.dealt.Goals as goal

pub loop-task-preserved : goal.loop-task-preserved
loop-task-preserved c =
    let i = c.loop-task.invariant in
    let rest : List HostTask = into_iter_items c.next.new.self in
    let is : into_iter_items c.loop-task.task-iterator ≡ c.in-Some.task ∷ rest = c.in-Some.ensures.steps.0 in
    record {
      dealt = completes (dealt_in c.loop-task.dealing) (dealt_in c.add.new.self) (c.in-Some.task ∷ []) rest c.args.tasks.items c.in_ok-add.ensures.tasks
          (ap (λ (l : List HostTask). dealt_in c.loop-task.dealing ++ l) (sym is) ∙ i.dealt);
      few = c.in_ok-add.ensures.count;
    }

pub returns-clause-tasks : goal.returns-clause-tasks
returns-clause-tasks c =
    let none : into_iter_items c.loop-task.task-iterator ≡ [] = nil_from_length (into_iter_items c.loop-task.task-iterator) (let e = c.in-None.ensures.steps.0 in omega (arith, c.loop-task.task-iterator.rest.ok.0)) in
    sym (append-nil (dealt_in c.loop-task.dealing)) ∙ ap (λ (l : List HostTask). dealt_in c.loop-task.dealing ++ l) (sym none) ∙ c.loop-task.invariant.dealt
