use Rattle.std.proofs.Common.{refl}
use Rattle.host_sockets.proofs.Placing.{put_within}
use Rattle.host_sockets.proofs.Turning.{within_turned, turned_set}
use Rattle.host_sockets.proofs.sockets.Sockets.set_tcp.Goals as goal

pub returns : goal.returns
returns c = λ t s h stands.
    put_within c.turn_to.new.self _ t c.args.place c.args.sock s (c.turn_to.ensures.stands t h) stands (within_turned c.args.self.now c.turn_to.new.self c.args.place c.turn_to.ensures.tcp c.requires) refl refl refl refl c.in_ok-put_none.ensures refl

pub invariant_of-self : goal.invariant_of-self
invariant_of-self c = record { indexed = turned_set c.turn_to.new.self c.args.place _ c.turn_to.ensures.acts }
