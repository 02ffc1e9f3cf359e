-- what the segments of a record carry
use Rattle.std.specs.Prelude.{◌≡◌, ◌⊎◌, ℕ, ◌+◌, ◌≤◌, List, [], ◌∷◌, ◌++◌, length, drop, Bool, true}
use Rattle.sim_base.specs.declared.address.Addr.{Addr}
use Rattle.sim_base.specs.declared.packet.Load.{Load}
use Rattle.sim_base.specs.declared.packet.Load.TheVariants.{Udp, Tcp}
use Rattle.sim_base.specs.declared.packet.Packet.{Packet}
use Rattle.sock_tcp.specs.declared.segment.header.Header.{Header}
use Rattle.sock_tcp.specs.segment.Header.{header_of}
use Rattle.sock_tcp.specs.segment.Number.{wire}
use Rattle.sock_tcp.specs.connection.Tcb.{Tcb}

-- a text stands in a list at a place
pub record IsAt (place : ℕ) (text whole : List ℕ) : Type 0 where
  pub behind : List ℕ
  pub is : drop place whole ≡ text ++ behind

-- what a record sends, byte by byte of its numbers: the SYN has the first place
abbrev pub stream : List ℕ → List ℕ
stream written = 0 ∷ written

-- a segment's number is that of an offset; its text is the part of what was written there; a SYN has the
-- first offset, and a FIN stands behind everything written, once writing has ended
pub record Carries (iss : ℕ) (written : List ℕ) (wanted : Bool) (h : Header) (text : List ℕ) : Type 0 where
  pub offset : ℕ
  pub seq : h.seq ≡ wire iss offset
  pub within : offset ≤ 2 + length written
  pub syn : h.syn ≡ true → offset ≡ 0
  pub part : IsAt offset text (stream written)
  pub fin : h.fin ≡ true → (wanted ≡ true) × (offset + length text ≡ 1 + length written)

-- a RST tells nothing of the stream
abbrev pub LoadCarries : ℕ → List ℕ → Bool → Load → Type 0
LoadCarries iss written wanted (Udp text) = ⊥
LoadCarries iss written wanted (Tcp flags seq ack window text) =
    let h = header_of flags seq ack window in (h.rst ≡ true) ⊎ Carries iss written wanted h text

-- a segment from one end to the other
pub record Sent (own other : Addr) (iss : ℕ) (written : List ℕ) (wanted : Bool) (p : Packet) : Type 0 where
  pub from : p.from ≡ own
  pub to : p.to ≡ other
  pub load : LoadCarries iss written wanted p.load

abbrev pub AreSent : Addr → Addr → ℕ → List ℕ → Bool → List Packet → Type 0
AreSent own other iss written wanted [] = Unit {0}
AreSent own other iss written wanted (p ∷ packets) =
    Sent own other iss written wanted p × AreSent own other iss written wanted packets

abbrev pub AreOf : Tcb → List Packet → Type 0
AreOf r packets =
    AreSent r.control.local r.control.peer r.iss r.written r.control.fin_wanted packets
