use Rattle.std.proofs.Common.{◌∙◌}
use Rattle.number_sets.specs.Sets.{has}
use Rattle.host_sockets.proofs.RoomKnown.{knows_behind, first_free}
use Rattle.host_sockets.proofs.room.Room.free_place.Goals as goal

pub returns : goal.returns
returns c = λ sockets h.
    c.min.ensures
    ∙ first_free (has c.args.self.now.taken) c.args.socks.now sockets c.least_absent.result h (knows_behind (has c.args.self.now.taken) c.args.socks.now c.args.last c.if-last-socks.false c.requires) c.least_absent.ensures.absent c.least_absent.ensures.least
