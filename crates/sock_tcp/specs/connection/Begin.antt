-- how a call begins
use Rattle.std.specs.Prelude.{[], false}
use Rattle.sock_tcp.specs.connection.Tcb.{Tcb, Turn}

-- the turn that a call begins with: nothing is sent yet
abbrev pub begin : Tcb → Turn
begin r = record { tcb = r; sent = []; started = false }
