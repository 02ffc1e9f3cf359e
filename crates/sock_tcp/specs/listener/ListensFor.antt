-- what a listener of the code stands for
use Rattle.std.specs.Prelude.{◌≡◌, ◌<◌, All, length, Option, Some, None}
use Rattle.sock_tcp.specs.declared.connection.conn.Conn.{Conn}
use Rattle.sock_tcp.specs.declared.connection.effects.Effects.{Effects}
use Rattle.sock_tcp.specs.declared.listener.Listener.{Listener}
use Rattle.sock_tcp.specs.connection.Tcb.{Tcb}
use Rattle.sock_tcp.specs.connection.StandsFor.{StandsFor, StandsAll}
use Rattle.sock_tcp.specs.listener.Listen.{Listen, Heard, accepts}

pub record ListensFor (k : Listener) (l : Listen) : Type 0 where
  pub local : k.local ≡ l.local
  pub limit : k.limit ≡ l.limit
  pub records : StandsAll k.records.items l.records
  pub accept_queue : k.accept_queue.items ≡ l.accept_queue
  -- what waits to be accepted is among the records
  pub places : All (λ place. place < length l.records) l.accept_queue

-- a call on a listener leaves and brings about this
pub record Tells (k : Listener) (e : Effects) (heard : Heard) : Type 0 where
  pub listen : ListensFor k heard.listen
  pub segments : e.segments.items ≡ heard.sent
  pub timer : e.timer ≡ heard.timer

-- whatever the listener stood for, the act says what it stands for afterwards
abbrev pub Hears : (Listen → Heard) → Listener → Listener → Effects → Type 0
Hears act old new effects = (l : Listen) → ListensFor old l → Tells new effects (act l)

-- a record is accepted and the others stay, or none waits
abbrev pub AcceptsAs : Option (Tcb × Listen) → Listen → Option Conn → Listener → Type 0
AcceptsAs None l None k = ListensFor k l
AcceptsAs None l (Some c) k = ⊥
AcceptsAs (Some (r, rest)) l None k = ⊥
AcceptsAs (Some (r, rest)) l (Some c) k = StandsFor c r × ListensFor k rest

abbrev pub Accepts : Listener → Option Conn → Listener → Type 0
Accepts old result new = (l : Listen) → ListensFor old l → AcceptsAs (accepts l) l result new
