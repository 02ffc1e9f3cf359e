use Rattle.std.proofs.Common.{refl}
use Rattle.file_calls.specs.Flags.{o_nonblock, has}
use Rattle.call_parts.specs.Sockets.{socket_asked}
use Rattle.host_calls.specs.inside.Stage.{scene_on}
use Rattle.host_calls.specs.inside.Sockets.{new_object}
use Rattle.host_calls.proofs.Made.{made}
use Rattle.host_calls.proofs.stage.Stage.socket.Goals as goal

pub returns : goal.returns
returns c =
    let s = c.args.self.now in
    let a = c.args in (
      record { known = refl; time = refl; process = refl; task = refl; shared = refl; sockets = refl },
      λ t h.
          let is = c.in_ok-object.ensures t h in (
            (new_object c.in_ok-new.new.stream t).1,
            (
              made (socket_asked a.family a.kind a.protocol s.task.now) c.in_ok-new.new (has o_nonblock a.kind) c.has.result (scene_on s t) c.in_ok-object.object
                  c.open.new.task c.open.new.shared c.in_ok-new.ensures.asked c.has.ensures is.0 c.in_ok-open.ensures,
              is.1,
            ),
          ),
    )
