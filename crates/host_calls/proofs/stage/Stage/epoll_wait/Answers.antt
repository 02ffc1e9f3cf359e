use Rattle.std.proofs.Common.{refl, subst}
use Rattle.host_sockets.specs.StandsFor.{Stand}
use Rattle.host_files.specs.Epolls.{epoll_at}
use Rattle.host_calls.specs.Epoll.{TellAlike, all_seen}
use Rattle.host_calls.specs.declared.stage.View.{View}
use Rattle.host_calls.specs.inside.Stage.{scene_on, scene_in}
use Rattle.host_calls.proofs.Waits.{waits_react}
use Rattle.host_calls.proofs.stage.Stage.epoll_wait.Goals as goal

pub returns : goal.returns
returns c =
    let s = c.args.self.now in (
      record { known = refl; time = refl; process = refl; task = refl; shared = refl; sockets = refl },
      λ t h.
          let alike : TellAlike (epoll_at c.args.waiting.place s.task.now.epolls) c.as_slice.result.now (all_seen s.time (scene_on s t) (epoll_at c.args.waiting.place s.task.now.epolls))
          = rw c.as_slice.ensures.value (subst
          (λ (v : View). Stand v.sockets.now t → TellAlike (epoll_at c.args.waiting.place v.task.now.epolls) c.in_ok-all.all.items (all_seen v.time (scene_in v t) (epoll_at c.args.waiting.place v.task.now.epolls)))
          c.view.ensures (c.in_ok-all.ensures.alike t) h) in
          waits_react s.time c.args.waiting s.task.now c.tell.new.task s.shared.now s.sockets.now t c.as_slice.result.now c.in_ok-found.found
          alike c.in_ok-found.ensures.count c.in_ok-found.ensures.told h,
    )
