-- what a listener is ready for, by the bits of poll(2)
use Rattle.std.specs.Prelude.{ℕ, length, nat_lt}
use Rattle.sim_base.specs.Poll.{pollin}
use Rattle.sock_tcp.specs.connection.Ready.{bit_if}
use Rattle.sock_tcp.specs.listener.Listen.{Listen}

-- a whole connection waits to be accepted
abbrev pub readiness : Listen → ℕ
readiness l = bit_if (nat_lt 0 (length l.accept_queue)) pollin
