-- acts on the connection of a socket
use Rattle.std.proofs.Common.{◌≡◌, ℕ, List, Option, Some, None, Result, Ok, Err, OnOk, subst}
use Rattle.sim_base.specs.declared.time.Time.{Time}
use Rattle.sock_tcp.specs.declared.connection.carried.Carried.{Carried}
use Rattle.sock_tcp.specs.declared.connection.conn.Conn.{Conn}
use Rattle.sock_tcp.specs.declared.connection.effects.Effects.{Effects}
use Rattle.sock_tcp.specs.connection.Tcb.{Tcb, Turn}
use Rattle.sock_tcp.specs.connection.Timer.{timer_of}
use Rattle.sock_tcp.specs.connection.StandsFor.{StandsFor, Gives}
use Rattle.host_wants.specs.Wanted.{Wanted}
use Rattle.host_sockets.specs.declared.tcp_sock.TcpSock.{TcpSock}
use Rattle.host_sockets.specs.TcpSocket.{TcpSocket, with_tcb}
use Rattle.host_sockets.specs.TcpActs.{turned, turned_in, record_acts}
use Rattle.host_sockets.specs.StandsFor.{ConnStands, SocketStands}
use Rattle.host_sockets.specs.inside.StandsFor.{Brings}

-- what an act on it does is brought about
pub acts_there : (now : Time) (k : ℕ) (act : Tcb → Turn) (old new : TcpSock) (s : TcpSocket) (o : Option Tcb) (before' after' : Conn) (w v : Wanted) (effects : Effects) (before left : List Carried) → SocketStands old s → ConnStands (Some before') o → ((r : Tcb) → StandsFor before' r → Gives after' effects (act r)) → ((x : TcpSocket) (t : Turn) → SocketStands (record old { conn = Some after' }) (with_tcb t.tcb x) → effects.segments.items ≡ t.sent → effects.timer ≡ timer_of t → Brings new v before left (turned now k t x w)) → Brings new v before left (turned_in now k act o s w)
acts_there now k act old new s None before' after' w v effects before left h stands gives brings = absurd stands
acts_there now k act old new s (Some r) before' after' w v effects before left h stands gives brings =
    let g = gives r stands in
    let there : SocketStands (record old { conn = Some after' }) (with_tcb (act r).tcb s) =
    record { held = h.held; bound = h.bound; conn = g.conn; listener = h.listener; serial = h.serial; timers = h.timers } in
    brings s (act r) there g.segments g.timer

-- the same where what brings it about may lack memory
pub acts_then : {A E : Type 0} (now : Time) (k : ℕ) (act : Tcb → Turn) (old new : TcpSock) (before' after' : Conn) (w v : Wanted) (effects : Effects) (before left : List Carried) (answer : Result A E) → old.conn ≡ Some before' → ((r : Tcb) → StandsFor before' r → Gives after' effects (act r))
    → OnOk answer ((x : TcpSocket) (t : Turn) → SocketStands (record old { conn = Some after' }) (with_tcb t.tcb x) → effects.segments.items ≡ t.sent → effects.timer ≡ timer_of t → Brings new v before left (turned now k t x w))
    → OnOk answer ((s : TcpSocket) → SocketStands old s → Brings new v before left (record_acts now k act s w))
acts_then now k act old new before' after' w v effects before left (Err e) is gives brings = tt
acts_then now k act old new before' after' w v effects before left (Ok a) is gives brings = λ s h.
    acts_there now k act old new s s.tcb before' after' w v effects before left h (subst (λ (o : Option Conn). ConnStands o s.tcb) is h.conn) gives brings

-- what is read of it is that of the record
pub told_there : {A : Type 0} (o : Option Tcb) (conn : Conn) (f : Option Tcb → A) (v : A) → ConnStands (Some conn) o → ((r : Tcb) → StandsFor conn r → v ≡ f (Some r)) → v ≡ f o
told_there None conn f v stands tells = absurd stands
told_there (Some r) conn f v stands tells = tells r stands

pub told_none : {A : Type 0} (o : Option Tcb) (f : Option Tcb → A) (v : A) → ConnStands None o → v ≡ f None → v ≡ f o
told_none None f v stands e = e
told_none (Some r) f v stands e = absurd stands
