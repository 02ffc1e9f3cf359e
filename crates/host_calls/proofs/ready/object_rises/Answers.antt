use Rattle.std.proofs.Common.{sym, ◌∙◌}
use Rattle.host_calls.proofs.Objects.{other_rises}
use Rattle.host_calls.proofs.ready.object_rises.Goals as goal

pub returns-in_default : goal.returns-in_default
returns-in_default c = λ t h.
    let o = c.in_default in
    c.none.ensures ∙ sym (other_rises c.args.now c.args.object c.args.files.now t o.not-ReadEnd o.not-WriteEnd o.not-Timer o.not-Eventfd o.not-Udp o.not-Tcp)
