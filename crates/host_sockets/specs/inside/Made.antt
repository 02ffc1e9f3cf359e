-- connections that are made, and room for what each carries once it is gone
use Rattle.std.specs.Prelude.{◌≡◌, ◌+◌, ◌≤◌, Bool, false, Option, Some, None, min}
use Rattle.std.specs.Vec.{vec_capacity}
use Rattle.sim_base.specs.Units.{max_u64}
use Rattle.sim_base.specs.declared.packet.Packet.{Packet}
use Rattle.sock_tcp.specs.listener.Listen.{Listen, takes_word}
use Rattle.host_sockets.specs.declared.sockets.Sockets.{Sockets}

-- whether a listener makes a connection of a segment, if there is one
abbrev pub makes_record : Packet → Option Listen → Bool
makes_record p None = false
makes_record p (Some l) = takes_word p l

-- one more is counted, and there is room for all that were made
pub record MakesRoom (old new : Sockets) : Type 0 where
  pub made : new.made ≡ min (old.made + 1) max_u64
  pub room : new.made ≤ vec_capacity new.gone
