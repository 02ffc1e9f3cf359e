-- what comes to a host comes to one of its addresses, and its connections have one at their own end
use Rattle.std.specs.Prelude.{List, [], ◌∷◌, Contains}
use Rattle.sim_base.specs.declared.address.Ip.{Ip}
use Rattle.sim_base.specs.declared.time.Time.{Time}
use Rattle.sock_tcp.specs.connection.Tcb.{Tcb}
use Rattle.socket_laws.specs.Histories.{SocketsAct}
use Rattle.socket_laws.specs.Histories.SocketsAct.{arrival}
use Rattle.socket_streams.specs.Inside.{IsHome}

-- an act that isn't the arrival of a packet for another host
abbrev pub ComesHome : Ip → SocketsAct → Type 0
ComesHome own (arrival p) = IsHome own p.to.ip
ComesHome own _ = Unit {0}

abbrev pub AllComeHome : Ip → List (Time × SocketsAct) → Type 0
AllComeHome own [] = Unit {0}
AllComeHome own ((now, act) ∷ acts) = ComesHome own act × AllComeHome own acts

-- the own end of each record is at an address of the host
abbrev pub AreAtHome : Ip → List Tcb → Type 0
AreAtHome own records = (r : Tcb) → Contains records r → IsHome own r.control.local.ip
