-- what the code's sockets stand for. Of the records that were let go it keeps what they carried
use Rattle.std.specs.Prelude.{◌≡◌, map, Result, Ok, Err}
use Rattle.sim_base.specs.declared.act.Act.{Act}
use Rattle.sock_tcp.specs.connection.Carried.{carried_of}
use Rattle.host_wants.specs.declared.error.CallError.{CallError}
use Rattle.host_wants.specs.declared.error.CallError.TheVariants as error
use Rattle.host_wants.specs.declared.error.Refusal.{Refusal}
use Rattle.host_sockets.specs.declared.sockets.Sockets.{Sockets}
pub use Rattle.host_sockets.specs.SocketsStand.{ConnStands, ListenerStands, SocketStands, AllStand}
use Rattle.host_wants.specs.Wanted.{Wanted}
use Rattle.host_sockets.specs.Sockets.{SocketsRecord}

pub record Stand (c : Sockets) (t : SocketsRecord) : Type 0 where
  pub own : c.own ≡ t.own
  pub udp : c.udp.slots.items ≡ t.udp
  pub tcp : AllStand c.tcp.items t.tcp
  pub udp_risen : c.udp_risen.items ≡ t.udp_risen
  pub tcp_risen : c.tcp_risen.items ≡ t.tcp_risen
  pub gone : c.gone.items ≡ map carried_of t.gone

-- a call that can't refuse leaves this
pub record Leaves (c : Sockets) (w : Wanted) (after : SocketsRecord × Wanted) : Type 0 where
  pub sockets : Stand c after.0
  pub wanted : w ≡ after.1

-- the same with what the packet log tells
abbrev pub Delivers : Act → Sockets → Wanted → Act × (SocketsRecord × Wanted) → Type 0
Delivers act c w told = (act ≡ told.0) × Leaves c w told.1

-- a call answers as its row does: what it leaves, if it is done, or else nothing has changed. After want of memory nothing is
-- known
abbrev pub Answers : {A : Type 0} → Result (A × (SocketsRecord × Wanted)) Refusal → SocketsRecord → Wanted → Sockets → Wanted → Result A CallError → Type 0
Answers row t w c v (Ok a) = (t' : SocketsRecord) × ((row ≡ Ok (a, (t', v))) × Stand c t')
Answers row t w c v (Err (error.Refused refusal)) = (row ≡ Err refusal) × (Stand c t × (v ≡ w))
Answers row t w c v (Err error.NoMemory) = Unit {0}

-- the same of a call that wants nothing
abbrev pub Becomes : {A : Type 0} → Result (A × SocketsRecord) Refusal → SocketsRecord → Sockets → Result A CallError → Type 0
Becomes row t c (Ok a) = (t' : SocketsRecord) × ((row ≡ Ok (a, t')) × Stand c t')
Becomes row t c (Err (error.Refused refusal)) = (row ≡ Err refusal) × Stand c t
Becomes row t c (Err error.NoMemory) = Unit {0}
