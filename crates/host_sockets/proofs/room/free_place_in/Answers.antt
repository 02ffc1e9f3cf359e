use Rattle.std.proofs.Common.{refl}
use Rattle.host_sockets.specs.inside.Lookup.{is_sought}
use Rattle.host_sockets.specs.declared.slots.Sought.TheVariants.{Free}
use Rattle.host_sockets.proofs.Places.{first_or_behind}
use Rattle.host_sockets.proofs.room.free_place_in.Goals as goal

pub returns : goal.returns
returns c = λ sockets h.
    first_or_behind (is_sought Free) c.args.socks.now c.args.socks.now sockets c.place_in.result _ c.unwrap_or.result h refl (c.place_in.ensures.place sockets) refl c.unwrap_or.ensures
