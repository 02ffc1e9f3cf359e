-- What a line of the packet log and the name of a file tell.
use Rattle.std.specs.Prelude.{◌≡◌, ℕ, ◌<◌, ◌^◌, ◌==◌, List, Bool, not, IsTrue}
use Rattle.std.specs.List.{list_all}
use Rattle.sim_base.specs.Ascii.{space}
use Rattle.sim_base.specs.Packet.{packet_size, syn_flag, ack_flag, fin_flag, rst_flag}
use Rattle.sim_base.specs.declared.address.Addr.{Addr}
use Rattle.sim_base.specs.declared.packet.Load.{Load}
use Rattle.sim_base.specs.declared.packet.Load.TheVariants.{Udp, Tcp}
use Rattle.out_text.specs.Log.{LogLine, is_set}

-- the text doesn't have this byte
abbrev pub lacks : ℕ → List ℕ → Bool
lacks byte text = list_all (λ b. not (b == byte)) text

-- the numbers fit their types
pub record FitsAddr (a : Addr) : Type 0 where
  pub ip : a.ip.bits < 2 ^ 32
  pub port : a.port < 2 ^ 16

abbrev pub FitsLoad : Load → Type 0
FitsLoad (Udp text) = Unit {0}
FitsLoad (Tcp flags seq ack window text) = (seq < 2 ^ 32) × (ack < 2 ^ 32)

-- a line whose numbers fit their types, and whose host's name has no space
pub record IsLogged (l : LogLine) : Type 0 where
  pub time : l.time.nanos < 2 ^ 64
  pub host : IsTrue (lacks space l.host)
  pub from : FitsAddr l.packet.from
  pub to : FitsAddr l.packet.to
  pub size : packet_size l.packet < 2 ^ 64
  pub load : FitsLoad l.packet.load

-- the same flags are set, of those that the log tells
pub record SameFlags (f g : ℕ) : Type 0 where
  pub syn : is_set f syn_flag ≡ is_set g syn_flag
  pub ack : is_set f ack_flag ≡ is_set g ack_flag
  pub fin : is_set f fin_flag ≡ is_set g fin_flag
  pub rst : is_set f rst_flag ≡ is_set g rst_flag

-- the protocol is the same, and of segments the flags and both numbers
abbrev pub SameLoad : Load → Load → Type 0
SameLoad (Udp text) (Udp other) = Unit {0}
SameLoad (Tcp f seq ack window text) (Tcp g seq' ack' window' text') = SameFlags f g × (seq ≡ seq') × (ack ≡ ack')
SameLoad _ _ = ⊥

-- two lines tell the same
pub record TellsSame (a b : LogLine) : Type 0 where
  pub time : a.time ≡ b.time
  pub host : a.host ≡ b.host
  pub act : a.act ≡ b.act
  pub from : a.packet.from ≡ b.packet.from
  pub to : a.packet.to ≡ b.packet.to
  pub size : packet_size a.packet ≡ packet_size b.packet
  pub load : SameLoad a.packet.load b.packet.load
