use Rattle.std.proofs.Common.{◌≡◌, List, ◌++◌, take}
use Rattle.sock_tcp.specs.connection.Tcb.{Tcb}
use Rattle.sock_tcp.specs.connection.Resets.{resets_of}
use Rattle.sock_tcp.specs.connection.StandsFor.{StandsAll}
use Rattle.sock_tcp.proofs.connection.resets.reset_all.Given as goal

-- those before the index were reset, and no timer was started
abbrev pub invariant-loop-conn : goal.invariant-loop-conn
invariant-loop-conn l =
    ((records : List Tcb) → StandsAll l.conns records → l.draft.segments.items ≡ l.initial.draft.segments.items ++ resets_of (take l.conn-index records)) × (l.draft.started ≡ l.initial.draft.started)
