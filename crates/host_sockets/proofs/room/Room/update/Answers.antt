use Rattle.std.proofs.Common.{sym, ◌∙◌}
use Rattle.number_sets.specs.Sets.{has}
use Rattle.number_sets.proofs.PortsCounted.{on_ok}
use Rattle.host_sockets.proofs.RoomKnown.{knows_put, knows_out}
use Rattle.host_sockets.proofs.room.Room.update.Goals as goal

pub returns-then-is_free : goal.returns-then-is_free
returns-then-is_free c = λ done.
    knows_out (has c.args.self.now.taken) (has c.remove.new.self) c.args.socks.now c.args.place c.index-socks-place.result c.requires c.remove.ensures c.index-socks-place.is
    (λ s stands. sym (c.is_free.ensures s stands) ∙ c.if-is_free.true)

pub returns : goal.returns
returns c = λ done.
    knows_put (has c.args.self.now.taken) (has c.insert.new.self) c.args.socks.now c.args.place c.index-socks-place.result c.requires
    (on_ok c.insert.result _ (sym c.is_ok.ensures.value ∙ done) c.insert.ensures)
    c.index-socks-place.is
    (λ s stands. sym (c.is_free.ensures s stands) ∙ c.if-is_free.false)
