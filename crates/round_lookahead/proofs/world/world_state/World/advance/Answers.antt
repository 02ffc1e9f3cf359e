use Rattle.std.proofs.Common.{◌≡◌, ℕ, ◌≤◌, length, sym, ap, subst, arith, Vec, Global}
use Rattle.world_order.proofs.Orders.{window_upto}
use Rattle.round_lookahead.specs.declared.workers.host_task.HostTask.{HostTask}
use Rattle.round_lookahead.specs.Tasks.{AreTasksOf}
use Rattle.round_lookahead.specs.WorldStands.{nanos_of}
use Rattle.round_lookahead.proofs.WorldGains.{settles, goes_on, goes_on_here}
use Rattle.round_lookahead.proofs.WorldSteps.{all_tasks}
use Rattle.round_lookahead.proofs.world.world_state.World.advance.Goals as goal

pub run_beside-requires-clause-until : goal.run_beside-requires-clause-until
run_beside-requires-clause-until g c κs lives =
    subst (λ (n : ℕ). n ≤ c.args.self.now.net.stop.nanos) (sym c.window-window.ensures.end) (window_upto (nanos_of c.args.self.now.lookahead) c.args.self.now.net.stop.nanos c.args.least.nanos)

pub run_beside-requires-clause-few : goal.run_beside-requires-clause-few
run_beside-requires-clause-few g c κs lives =
    let s = c.requires.stands.1 in
    let count = s.count in
    let book = s.between.count in
    let some = s.rounds.some in
    let few = s.rounds.few in
    let same : length c.replace-tasks.result.items ≡ length c.args.self.now.tasks.items = ap (λ (v : Vec HostTask Global). length v.items) c.replace-tasks.ensures.value in
    omega arith

pub run_beside-requires-clause-tasks : goal.run_beside-requires-clause-tasks
run_beside-requires-clause-tasks g c κs lives =
    subst (λ (v : Vec HostTask Global). AreTasksOf c.args.self.now.net v.items) (sym c.replace-tasks.ensures.value) (all_tasks c.args.self.now c.requires.stands.0 c.requires.stands.1)

pub settle-requires : goal.settle-requires
settle-requires g c =
    settles c.args.self.now c.requires.stands.0 c.requires.stands.1 c.args.least c.requires.least c.args.workers c.in_ok-works.field-0.works.items c.in_ok-works.field-0.rows.items
    c.in_ok-works.ensures.works c.replace-tasks.result c.replace-tasks.ensures.value c.window-window.result.end.nanos c.window-window.ensures.end c.in_ok-works.ensures.round
    c.len-count.result (let e = c.len-count.ensures in omega (arith, c.args.self.now.tasks.ok.0))

pub returns-clause-turns : goal.returns-clause-turns
returns-clause-turns g c = λ w stands.
    goes_on c.args.self.now w stands c.args.least c.requires.least c.args.workers c.in_ok-works.field-0.works.items c.in_ok-works.field-0.rows.items
    c.in_ok-works.ensures.works c.replace-tasks.result c.replace-tasks.ensures.value c.window-window.result.end.nanos c.window-window.ensures.end c.in_ok-works.ensures.round
    c.len-count.result (let e = c.len-count.ensures in omega (arith, c.args.self.now.tasks.ok.0)) c.in_ok-tasks.field-0 c.in_ok-tasks.ensures
    c.count_into-2.new.counts c.count_into-2.ensures c.note-2.new.self _ _

pub round_in_place-requires-clause-few : goal.round_in_place-requires-clause-few
round_in_place-requires-clause-few g c κs lives =
    let s = c.requires.stands.1 in
    let count = s.count in
    let book = s.between.count in
    let few = s.rounds.few in
    let same : length c.replace-tasks.result.items ≡ length c.args.self.now.tasks.items = ap (λ (v : Vec HostTask Global). length v.items) c.replace-tasks.ensures.value in
    omega arith

pub round_in_place-requires-clause-tasks : goal.round_in_place-requires-clause-tasks
round_in_place-requires-clause-tasks g c κs lives =
    subst (λ (v : Vec HostTask Global). AreTasksOf c.args.self.now.net v.items) (sym c.replace-tasks.ensures.value) (all_tasks c.args.self.now c.requires.stands.0 c.requires.stands.1)

pub returns-then-spread-lt2-clause-turns : goal.returns-then-spread-lt2-clause-turns
returns-then-spread-lt2-clause-turns g c = λ w stands.
    goes_on_here c.args.self.now w stands c.args.least c.requires.least c.args.workers c.replace-tasks.result c.replace-tasks.ensures.value c.round_in_place.new.tasks c.window-window.result.end.nanos c.window-window.ensures.end
    c.in_ok-gained.field-0.gained c.in_ok-gained.ensures.round c.count_into.new.counts c.count_into.ensures c.note.new.self _ _
