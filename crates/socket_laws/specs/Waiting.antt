-- the acts of a listener (RFC 9293, section 3.10.7.2), and what is left after some of them
use Rattle.std.specs.Prelude.{ℕ, ℤ, List, [], ◌∷◌, Option, Some, None}
use Rattle.sim_base.specs.declared.address.Addr.{Addr}
use Rattle.sim_base.specs.declared.packet.Packet.{Packet}
use Rattle.sock_tcp.specs.connection.Tcb.{Tcb}
use Rattle.sock_tcp.specs.listener.Listen.{Listen, fresh_listen, queue_limit, hears, hears_timer, accepts}

-- a segment comes while a word may be drawn, the timer of the record of two ends expires, a connection is accepted, or the
-- process listens again
pub data ListenAct : Type 0 where
  segment : (p : Packet) (word : ℕ) → ListenAct
  expiry : (own other : Addr) → ListenAct
  accept : ListenAct
  backlog : (count : ℤ) → ListenAct

abbrev pub after_accept : Option (Tcb × Listen) → Listen → Listen
after_accept None l = l
after_accept (Some (r, rest)) l = rest

abbrev pub listen_acted : ListenAct → Listen → Listen
listen_acted (segment p word) l = (hears p word l).listen
listen_acted (expiry own other) l = (hears_timer own other l).listen
listen_acted accept l = after_accept (accepts l) l
listen_acted (backlog count) l = record l { limit = queue_limit count }

abbrev pub listen_after : List ListenAct → Listen → Listen
listen_after [] l = l
listen_after (act ∷ acts) l = listen_after acts (listen_acted act l)

-- a listener after acts, one behind another
abbrev pub listen_of : Addr → ℤ → List ListenAct → Listen
listen_of local count acts = listen_after acts (fresh_listen local count)
