-- close(2) on TCP sockets (RFC 9293, section 3.10.4)
use Rattle.std.specs.Prelude.{ℕ, false, Option, Some, None}
use Rattle.sim_base.specs.declared.time.Time.{Time}
use Rattle.sock_tcp.specs.connection.Begin.{begin}
use Rattle.sock_tcp.specs.connection.Process.{closes}
use Rattle.sock_tcp.specs.listener.Listen.{Listen, hears_close}
use Rattle.host_wants.specs.Wanted.{Wanted, sends}
use Rattle.host_sockets.specs.TcpSocket.{TcpSocket, fresh}
use Rattle.host_sockets.specs.Sockets.{SocketsRecord}
use Rattle.host_sockets.specs.TcpActs.{Acted, record_acts, acts_at}

-- a closed socket is named by no descriptor and bound to nothing; what its record has is the record's
abbrev pub unheld : TcpSocket → TcpSocket
unheld s = record (fresh false) { tcb = s.tcb; serial = s.serial }

-- a listener resets each record that wasn't accepted, and they are let go
abbrev pub listener_closes : Listen → Wanted → Acted
listener_closes l w =
    record { socket = fresh false; wanted = sends (hears_close l).sent w; gone = l.records }

-- else its record, if it has one, is closed
abbrev pub closes_in : Time → ℕ → Option Listen → TcpSocket → Wanted → Acted
closes_in now k None s w = record_acts now k (λ r. closes (begin r)) (unheld s) w
closes_in now k (Some l) s w = listener_closes l w

abbrev pub closed : Time → ℕ → TcpSocket → Wanted → Acted
closed now k s w = closes_in now k s.listen s w

-- close(2)
unfoldable pub closes_tcp : Time → ℕ → SocketsRecord → Wanted → SocketsRecord × Wanted
closes_tcp now k t w = acts_at k (closed now k) t w
