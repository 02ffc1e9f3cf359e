use Rattle.std.proofs.Common.{◌++◌, refl, sym, subst, Vec, Global}
use Rattle.world_order.specs.EventOrder.{AreApart}
use Rattle.host_state.specs.declared.host.Host.{Host}
use Rattle.round_parts.specs.Arrivals.{Boxed, arrivals}
use Rattle.round_lookahead.proofs.TaskRuns.{all_joined, stands_joined, may_run, to_within, run_of, made}
use Rattle.round_lookahead.proofs.workers.host_task.HostTask.run_here.Goals as goal

pub join_parcels-joined-requires : goal.join_parcels-joined-requires
join_parcels-joined-requires c =
    subst (λ (h : Host). AreApart (h.queue ++ arrivals c.replace-parcels.result.items)) (sym c.deref_mut.ensures.value)
    (subst (λ (v : Vec Boxed Global). AreApart (c.args.self.now.host.value.queue ++ arrivals v.items)) (sym c.replace-parcels.ensures.value) c.requires.task.1.apart)

pub run_until-ran-requires-clause-own : goal.run_until-ran-requires-clause-own
run_until-ran-requires-clause-own c =
    let t = c.args.self.now in
    let start = c.deref_mut.result.now in
    let joined = c.join_parcels-joined.new.host in
    let again = c.deref_mut-2.result.now in
    let parcels = c.replace-parcels.result in
    let h = c.requires.task.0 in
    let is = c.requires.task.1 in
    may_run c.args.net.now t again
    (all_joined t start joined again parcels c.deref_mut.ensures.value c.replace-parcels.ensures.value c.deref_mut-2.ensures.value c.in_ok-joined.ensures.queue) t.id.index h is
    (stands_joined t start joined again parcels c.deref_mut.ensures.value c.replace-parcels.ensures.value c.deref_mut-2.ensures.value c.in_ok-joined.ensures.body h is.stands)

pub returns-clause-to : goal.returns-clause-to
returns-clause-to c =
    let t = c.args.self.now in
    let start = c.deref_mut.result.now in
    let joined = c.join_parcels-joined.new.host in
    let again = c.deref_mut-2.result.now in
    let parcels = c.replace-parcels.result in
    let h = c.requires.task.0 in
    let is = c.requires.task.1 in
    to_within c.args.net.now t again
    (all_joined t start joined again parcels c.deref_mut.ensures.value c.replace-parcels.ensures.value c.deref_mut-2.ensures.value c.in_ok-joined.ensures.queue) c.requires.stop c.args.end h t.id.index is
    c.run_until-ran.new.self c.new-out.result c.run_until-ran.new.out
    (c.in_ok-ran.ensures.ran h (stands_joined t start joined again parcels c.deref_mut.ensures.value c.replace-parcels.ensures.value c.deref_mut-2.ensures.value c.in_ok-joined.ensures.body h is.stands)) c.new-out.ensures

pub returns-clause-run : goal.returns-clause-run
returns-clause-run c = λ h is.
    (let t = c.args.self.now in
    let start = c.deref_mut.result.now in
    let joined = c.join_parcels-joined.new.host in
    let again = c.deref_mut-2.result.now in
    let parcels = c.replace-parcels.result in
    let moved = all_joined t start joined again parcels c.deref_mut.ensures.value c.replace-parcels.ensures.value c.deref_mut-2.ensures.value c.in_ok-joined.ensures.queue in
    let stands = stands_joined t start joined again parcels c.deref_mut.ensures.value c.replace-parcels.ensures.value c.deref_mut-2.ensures.value c.in_ok-joined.ensures.body h is.stands in
    let ran = c.in_ok-ran.ensures.ran h stands in
    record {
      ran = ran.ran;
      run = run_of c.args.net.now t again moved c.requires.stop c.args.end h t.id.index is c.run_until-ran.new.self c.new-out.result c.run_until-ran.new.out ran c.new-out.ensures c.in_ok-ran.ensures.own _ refl refl refl refl;
      made = made c.args.net.now t again moved c.requires.stop c.args.end h t.id.index is c.run_until-ran.new.self c.new-out.result c.run_until-ran.new.out ran c.run_until-ran.new.out.parcels.items c.new-out.ensures.parcels refl;
    })
