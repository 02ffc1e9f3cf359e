use Rattle.std.proofs.Common.{◌≡◌, ◌++◌, ◌∷◌, [], List, refl, sym, ap, subst, ◌∙◌}
use Rattle.std.proofs.lemmas.Result.{on_ok_weaker}
use Rattle.sim_base.specs.declared.event.Parcel.{Parcel}
use Rattle.round_lookahead.specs.declared.workers.worked.Done.{Done}
use Rattle.round_lookahead.specs.inside.Works.{done_of}
use Rattle.round_parts.specs.Posts.{IsPosted}
use Rattle.round_lookahead.specs.Works.{HostJob, AreDone, parcels_made}
use Rattle.round_lookahead.proofs.WorkSteps.{done_more, made_more}
use Rattle.round_lookahead.proofs.workers.working.work_one.Goals as goal

pub returns-clause-worked : goal.returns-clause-worked
returns-clause-worked c = on_ok_weaker c.post_all.result
    (λ post tasks rec jobs dealt is w.
    let net = c.args.net.now in
    let k = c.args.task.id.index in
    let run = c.in_ok-parcels.ensures.run (rec k) is in
    let job : HostJob = record { worker = c.args._worker; number = k; ran = run.ran } in
    let done : Done = done_of c.run_if_busy.new.self c.in_ok-parcels.field-0 in
    let all : parcels_made net (jobs ++ job ∷ []) ≡ parcels_made net jobs ++ c.in_ok-parcels.field-0.parcels.items =
    made_more net jobs job ∙ ap (λ (l : List Parcel). parcels_made net jobs ++ l) (sym run.made) in (
      job,
      refl,
      record {
        done = subst (AreDone net c.args.end.nanos c.args._worker tasks rec (jobs ++ job ∷ [])) (sym (c.push_reserved.ensures.items ∙ ap (λ (l : List Done). l ++ done ∷ []) c.reserve.ensures.items))
            (done_more net c.args.end.nanos c.args._worker tasks rec jobs c.args.shift.now.worked.done.items job done w.done (record { by_worker = refl; task = c.args.task; dealt = dealt; run = run.run }));
        posted = subst (λ (l : List Parcel). IsPosted l c.post_all.new.carrier.entries c.post_all.new.spill.items) (sym all) (post (parcels_made net jobs) w.posted);
      },
    )) c.post_all.ensures.posted
