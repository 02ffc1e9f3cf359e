-- what a connection of the code stands for: a record with the whole lists and offsets
use Rattle.std.specs.Prelude.{◌≡◌, ℕ, ◌+◌, ◌-◌, ◌≤◌, List, [], ◌∷◌, length, drop, min, Bool, true, false}
use Rattle.sock_tcp.specs.declared.connection.conn.Conn.{Conn}
use Rattle.sock_tcp.specs.declared.connection.effects.Draft.{Draft}
use Rattle.sock_tcp.specs.declared.connection.effects.Effects.{Effects}
use Rattle.sock_tcp.specs.declared.segment.state.Phase.{Phase}
use Rattle.sock_tcp.specs.declared.segment.state.Phase.TheVariants.{Opening, Open, Ending, Finished, Over}
use Rattle.sock_tcp.specs.segment.Number.{wire}
use Rattle.sock_tcp.specs.segment.State.{phase_of}
use Rattle.sock_tcp.specs.connection.Carried.{counts_of}
use Rattle.sock_tcp.specs.connection.Tcb.{Tcb, Turn, data_end}
use Rattle.sock_tcp.specs.connection.Timer.{timer_of}
use Rattle.sock_tcp.specs.connection.Begin.{begin}

-- how many duplicate acknowledgements the code counts at most
abbrev pub most_duplicates : ℕ
most_duplicates = 255

-- how far the offsets una, nxt and highest of a record may be, by its phase: its SYN is in flight;
-- what was written and no FIN; its FIN too, which isn't acknowledged; or all was acknowledged
abbrev pub FitsPhase : Phase → Bool → ℕ → ℕ → ℕ → ℕ → Type 0
FitsPhase Opening wanted una nxt highest end = (wanted ≡ false) × (una ≡ 0) × (nxt ≡ 1) × (highest ≡ 1)
FitsPhase Open wanted una nxt highest end = (wanted ≡ false) × (1 ≤ una) × (nxt ≤ end) × (highest ≤ end)
FitsPhase Ending wanted una nxt highest end =
    (wanted ≡ true) × (1 ≤ una) × (una ≤ end) × (nxt ≤ end + 1) × (highest ≤ end + 1)
FitsPhase Finished wanted una nxt highest end = (wanted ≡ true) × (1 ≤ una)
FitsPhase Over wanted una nxt highest end = Unit {0}

pub record StandsFor (c : Conn) (r : Tcb) : Type 0 where
  pub control : c.control ≡ r.control
  -- the numbers on the wire, and how far the others are from the first one
  pub una : c.una ≡ wire r.iss r.una
  pub next : r.una + c.sent ≡ r.nxt
  pub highest : r.una + c.highest ≡ r.highest
  -- the code's count stands still where nothing reads more
  pub duplicates : c.duplicates ≡ min most_duplicates r.duplicates
  pub recover : c.recover ≡ r.recover - r.una
  pub rcv : c.rcv ≡ wire r.irs r.rcv
  -- the code's counts stand still at 2^30
  pub counts : c.counts ≡ counts_of r
  -- what isn't acknowledged yet, and what isn't read yet
  pub send : c.send.items ≡ drop (r.una - 1) r.written
  pub receive : c.receive.items ≡ drop r.read r.received
  pub read : r.read ≤ length r.received
  pub phase : FitsPhase (phase_of r.control.state) r.control.fin_wanted r.una r.nxt r.highest (data_end r)

-- a connection and the effects so far stand for a call on its way
pub record Stands (c : Conn) (d : Draft) (t : Turn) : Type 0 where
  pub conn : StandsFor c t.tcb
  pub segments : d.segments.items ≡ t.sent
  pub started : d.started ≡ t.started

-- a part of a call does an act: whatever the connection stood for, it stands for what comes next
abbrev pub Does : (Turn → Turn) → Conn → Draft → Conn → Draft → Type 0
Does act c d c' d' = (t : Turn) → Stands c d t → Stands c' d' (act t)

-- a call on a record gives its next one, with these segments and this timer
pub record Gives (c : Conn) (e : Effects) (t : Turn) : Type 0 where
  pub conn : StandsFor c t.tcb
  pub segments : e.segments.items ≡ t.sent
  pub timer : e.timer ≡ timer_of t

-- whatever the connection stood for, the effects and what it stands for afterwards are the act's
abbrev pub Follows : (Turn → Turn) → Conn → Conn → Effects → Type 0
Follows act old new effects = (r : Tcb) → StandsFor old r → Gives new effects (act (begin r))

-- each connection stands for the record at its place
abbrev pub StandsAll : List Conn → List Tcb → Type 0
StandsAll [] [] = Unit {0}
StandsAll [] (r ∷ records) = ⊥
StandsAll (c ∷ conns) [] = ⊥
StandsAll (c ∷ conns) (r ∷ records) = StandsFor c r × StandsAll conns records
