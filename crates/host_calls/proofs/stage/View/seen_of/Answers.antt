use Rattle.std.proofs.Common.{◌≡◌, ◌+◌, ◌<◌, ◌≤◌, ◌∷◌, [], ◌++◌, length, get_or, refl, ap, ◌∙◌, arith}
use Rattle.host_fds.specs.declared.epoll.Seen.{Seen}
use Rattle.host_fds.specs.declared.epoll.Watch.{Watch}
use Rattle.host_fds.specs.Epoll.{is_due}
use Rattle.host_calls.specs.Epoll.{seen_of}
use Rattle.call_parts.specs.Epoll.{up_to}
use Rattle.host_calls.specs.inside.Stage.{scene_in}
use Rattle.host_calls.proofs.Waits.{is_noted, not_due, some_due, none_due, no_watch, ends_alike, ends_due}
use Rattle.host_calls.proofs.stage.View.seen_of.Goals as goal
use Rattle.host_calls.proofs.stage.View.seen_of.Goals.{in-Some+in_ok-put_seen-in-Some, in-None}

pub loop-place-preserved : goal.loop-place-preserved
loop-place-preserved c =
    let v = c.args.self.now in
    let entries = c.args.entries.now in
    let place = c.loop-place.place in
    let all = c.loop-place.all.items in
    let within : place < length entries = omega arith in
    let watch : Watch = get_or entries place no_watch in
    elim c.match-seen_due.branch [
      | in-Some+in_ok-put_seen-in-Some w ↦
          let size : length c.match-seen_due.all.items ≡ place + 1 = ap (λ v. length v.items) w.all-is ∙ w.in_ok-put_seen-in-Some.ensures.size in
          record {
            size = omega arith;
            noting = λ t h.
                let g = seen_of v.time (scene_in v t) in
                let is = some_due (is_due watch (g watch)) (g watch) w.in-Some.seen (w.in-Some.ensures t h) in
                is_noted g entries place watch no_watch all (c.loop-place.invariant.noting t h) within refl c.match-seen_due.all.items is.0
                (ap (λ v. v.items) w.all-is ∙ (w.in_ok-put_seen-in-Some.ensures.seen ∙ ap (λ (s : Seen). up_to place all ++ s ∷ []) is.1)) size;
          }
      | in-None w ↦
          let same : c.match-seen_due.all.items ≡ all = ap (λ v. v.items) w.all-is in
          let few : length all ≤ place = c.loop-place.invariant.size in
          record {
            size = rw same (omega arith);
            noting = λ t h.
                let g = seen_of v.time (scene_in v t) in
                rw same (not_due g entries place watch no_watch all (c.loop-place.invariant.noting t h) within refl few
                (none_due (is_due watch (g watch)) (g watch) (w.in-None.ensures t h)));
          }
    ]

pub returns-clause-alike : goal.returns-clause-alike
returns-clause-alike c = λ t h.
    ends_alike (seen_of c.args.self.now.time (scene_in c.args.self.now t)) c.args.entries.now c.loop-place.place c.loop-place.all.items (c.loop-place.invariant.noting t h) (omega arith)

pub returns-clause-due : goal.returns-clause-due
returns-clause-due c = λ t h.
    ends_due (seen_of c.args.self.now.time (scene_in c.args.self.now t)) c.args.entries.now c.loop-place.place c.loop-place.all.items (c.loop-place.invariant.noting t h) (omega arith)
