use Rattle.std.proofs.Common.{sym, ◌∙◌}
use Rattle.host_calls.proofs.Objects.{other_bits}
use Rattle.host_calls.proofs.ready.bits_seen.Goals as goal

pub returns-in_default : goal.returns-in_default
returns-in_default c = λ t h.
    c.object_ready.ensures t h ∙ sym (other_bits c.args.now c.args.object c.args.files.now t c.in_default.not-Tcp)
