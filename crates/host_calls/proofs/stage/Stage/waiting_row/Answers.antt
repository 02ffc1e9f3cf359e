-- A wait for an epoll is asked and done at once.
use Rattle.host_calls.specs.inside.Stage.{local_on, scene_on}
use Rattle.host_calls.proofs.Waits.{wait_answers}
use Rattle.host_calls.proofs.stage.Stage.waiting_row.Goals as goal

pub returns-in-EpollWait : goal.returns-in-EpollWait
returns-in-EpollWait c =
    let s = c.args.self.now in (
      c.epoll_pwait.ensures.0,
      λ t h. wait_answers s.known.now s.time s.process c.args.args (scene_on s t) c.args.call c.in-EpollWait.is
          c.epoll_pwait.result (local_on s) (local_on c.epoll_pwait.new.self) t c.epoll_pwait.new.self.sockets.now (c.epoll_pwait.ensures.1 t h),
    )
