use Rattle.std.proofs.Common.{refl, sym, subst}
use Rattle.host_sockets.specs.Sockets.{SocketsRecord}
use Rattle.file_calls.specs.declared.task.Shared.{Shared}
use Rattle.host_calls.specs.Closing.{Ended}
use Rattle.host_calls.proofs.Objects.{other_ends}
use Rattle.host_calls.proofs.closing.end_object.Goals as goal

pub returns-in_default : goal.returns-in_default
returns-in_default c = λ t h.
    let o = c.in_default in
    subst (λ (after : Shared × SocketsRecord). Ended after c.args.shared.now c.args.sockets.now)
    (sym (other_ends c.args.now c.args.object c.args.shared.now t o.not-ReadEnd o.not-WriteEnd o.not-Timer o.not-Eventfd o.not-Udp o.not-Tcp)) (refl, h)
