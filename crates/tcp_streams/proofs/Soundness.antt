-- every act keeps a record sound, and what it sends is honest
use Rattle.sock_tcp.specs.connection.Tcb.{Tcb}
use Rattle.tcp_laws.specs.Acts.{Start, begun_by, IsStart, Act, acted}
use Rattle.tcp_laws.specs.Growth.{GrowsTo}
use Rattle.tcp_laws.specs.Sending.{AreOf}
use Rattle.tcp_laws.proofs.Acting.{acts_keep}
use Rattle.tcp_laws.proofs.Histories.{begun_holds}
use Rattle.tcp_streams.specs.Sound.{IsSound}

pub acted_sound : (act : Act) (r : Tcb) → IsSound r → IsSound (acted act r).tcb
acted_sound act r s =
    let h = acts_keep act r s.order s.counted s.buffered in
    record { order = h.order; counted = h.heard; buffered = h.buffered }

pub acted_honest : (act : Act) (r : Tcb) → IsSound r → AreOf (acted act r).tcb (acted act r).sent
acted_honest act r s = (acts_keep act r s.order s.counted s.buffered).sent

pub acted_grows : (act : Act) (r : Tcb) → IsSound r → GrowsTo r (acted act r).tcb
acted_grows act r s = (acts_keep act r s.order s.counted s.buffered).grown

pub begun_sound : (start : Start) → IsStart start → IsSound (begun_by start).tcb
begun_sound start b =
    let h = begun_holds start b in record { order = h.order; counted = h.heard; buffered = h.buffered }

pub begun_honest : (start : Start) → IsStart start → AreOf (begun_by start).tcb (begun_by start).sent
begun_honest start b = (begun_holds start b).sent
