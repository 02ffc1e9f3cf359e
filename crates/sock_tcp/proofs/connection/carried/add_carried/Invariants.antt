use Rattle.std.proofs.Common.{◌≡◌, List, take}
use Rattle.sock_tcp.specs.connection.Carried.{with_gone}
use Rattle.sock_tcp.specs.connection.StandsFor.{StandsAll}
use Rattle.sock_tcp.specs.connection.Tcb.{Tcb}
use Rattle.sock_tcp.proofs.connection.carried.add_carried.Given as goal

-- those before the index were added
abbrev pub invariant-loop-conn : goal.invariant-loop-conn
invariant-loop-conn l = (records : List Tcb) → StandsAll l.conns records → l.all.items ≡ with_gone (take l.conn-index records) l.initial.all.items
