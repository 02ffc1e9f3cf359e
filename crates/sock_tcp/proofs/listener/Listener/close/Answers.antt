use Rattle.std.proofs.Common.{List, ◌++◌, refl, sym, ap, subst, ◌∙◌}
use Rattle.sim_base.specs.declared.packet.Packet.{Packet}
use Rattle.sock_tcp.specs.declared.connection.conn.Conn.{Conn}
use Rattle.sock_tcp.specs.connection.Resets.{resets_of}
use Rattle.sock_tcp.specs.connection.StandsFor.{StandsAll}
use Rattle.sock_tcp.proofs.Listeners.ListenEnds.{tells_close}
use Rattle.sock_tcp.proofs.listener.Listener.close.Goals as goal

pub returns-clause-hears : goal.returns-clause-hears
returns-clause-hears c = λ l h.
    let records = subst (λ (xs : List Conn). StandsAll xs l.records) (sym c.as_slice.ensures.value) h.records in
    let segments = c.in_ok-reset_all.ensures.segments l.records records ∙ ap (λ (xs : List Packet). xs ++ resets_of l.records) c.new-draft.ensures.segments in
    tells_close c.args.self.now _ l _ h refl refl c.clear.ensures.items c.clear-2.ensures.items segments refl

pub returns-clause-gone : goal.returns-clause-gone
returns-clause-gone c = λ l h.
    c.in_ok-add_carried.ensures l h
