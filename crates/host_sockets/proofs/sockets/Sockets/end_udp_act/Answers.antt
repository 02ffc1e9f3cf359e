use Rattle.std.proofs.Common.{length, ap, ◌∙◌, arith}
use Rattle.host_sockets.specs.declared.glance.Glance.{Glance}
use Rattle.host_sockets.specs.Rises.{slot_glance, moved_at}
use Rattle.host_sockets.proofs.Endings.{read_there, all_lent}
use Rattle.host_sockets.proofs.sockets.Sockets.end_udp_act.Goals as goal

pub returns-clause-udp_risen : goal.returns-clause-udp_risen
returns-clause-udp_risen c = λ slot at.
    let here = c.index.ensures ∙ read_there c.args.self.now.udp.slots.items c.args.k slot c.index.result.now at in
    all_lent c.args.self.now.udp_risen.len c.move_at.new.kept _ (omega (arith, ap length c.as_mut_slice.ensures.value, c.args.self.now.udp_risen.ok.0))
    ∙ (c.move_at.ensures ∙ (ap (moved_at c.args.k c.args.before c.slot_glance-after.result) c.as_mut_slice.ensures.value ∙ ap (λ (g : Glance). moved_at c.args.k c.args.before g c.args.self.now.udp_risen.items) (c.slot_glance-after.ensures ∙ ap slot_glance here)))
