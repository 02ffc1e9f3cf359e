-- Two hosts 10 ms apart: the one sends a packet when it starts, the other pauses for a nanosecond.
use Rattle.std.specs.Prelude.{ℕ, zero, suc, ◌+◌, List, [], ◌∷◌, codes}
use Rattle.sim_base.specs.declared.event.Event.{Event}
use Rattle.sim_base.specs.declared.event.What.{What}
use Rattle.sim_base.specs.declared.event.What.TheVariants as what
use Rattle.sim_base.specs.declared.key.Kind.{Kind}
use Rattle.sim_base.specs.declared.key.Kind.TheVariants as kind
use Rattle.sim_base.specs.declared.packet.Load.TheVariants.{Udp}
use Rattle.world_order.specs.Model.{Model, Fired}
use Rattle.world_order.specs.World.{World, Logged}
use Rattle.world_order.specs.declared.step.Spot.TheVariants.{Place, Spill}
use Rattle.world_order.specs.declared.step.Step.{Step}
use Rattle.world_order.specs.declared.step.Step.TheVariants.{Take, Fire, Put, Back, Close}

-- the number of the next event, and when the host fired last
pub record Host : Type 0 where
  pub next : ℕ
  pub clock : ℕ

abbrev pub event : ℕ → Kind → ℕ → ℕ → What → Event
event due kind source number what = record { key = record { due = record { nanos = due }; kind = kind; source = record { index = source }; number = number }; what = what }

-- the address of a host is its number
abbrev pub packet_to : ℕ → What
packet_to number = what.Packet (record { from = record { ip = record { bits = 0 }; port = 1 }; to = record { ip = record { bits = number }; port = 1 }; load = Udp [] })

abbrev pub made_at : ℕ → ℕ → ℕ → What → List Event
made_at zero now number (what.Start p) = event (now + 10000000) kind.Packet 0 number (packet_to 1) ∷ []
made_at (suc zero) now number (what.Start p) = event (now + 1) kind.Local 1 number (what.Go p) ∷ []
made_at _ now number _ = []

abbrev pub line_of : What → List ℕ
line_of (what.Start p) = codes "start"
line_of (what.Go p) = codes "go"
line_of _ = codes "arrive"

abbrev pub after : ℕ → List Event → Host → Host
after now [] host = record { next = host.next; clock = now }
after now (e ∷ es) host = record { next = host.next + 1; clock = now }

abbrev pub by_made : ℕ → Host → Event → List Event → Fired Host (List ℕ)
by_made number host e made = record { host = after e.key.due.nanos made host; made = made; lines = line_of e.what ∷ [] }

abbrev pub home_of : ℕ → What → ℕ
home_of source (what.Packet packet) = packet.to.ip.bits
home_of source _ = source

abbrev pub two_hosts : Model Host (List ℕ)
two_hosts = record {
  fire = λ number host e. by_made number host e (made_at number e.key.due.nanos host.next e.what);
  home = λ e. home_of e.key.source.index e.what;
  next = λ host. host.next;
  clock = λ host. host.clock;
}

abbrev pub start_of : ℕ → Event
start_of number = event 0 kind.Local number 0 (what.Start 0)

-- both hosts start at 0
abbrev pub opening : World Host (List ℕ)
opening = record {
  hosts = record { next = 1; clock = 0 } ∷ record { next = 1; clock = 0 } ∷ [];
  events = start_of 0 ∷ start_of 1 ∷ [];
  log = [];
}

-- the packet that is on its way when the first round is over
abbrev pub packet : Event
packet = event 10000000 kind.Packet 0 1 (packet_to 1)

abbrev pub pause : Event
pause = event 1 kind.Local 1 1 (what.Go 0)

abbrev pub at : Event → List ℕ → Logged (List ℕ)
at e line = record { key = e.key; line = line }

-- the world after the turns that are due before 10 ms
abbrev pub first_round : World Host (List ℕ)
first_round = record {
  hosts = record { next = 2; clock = 0 } ∷ record { next = 2; clock = 1 } ∷ [];
  events = packet ∷ [];
  log = at (start_of 0) (codes "start") ∷ at (start_of 1) (codes "start") ∷ at pause (codes "go") ∷ [];
}

-- the steps of a round for two workers: the other host first, and the sending host first
abbrev pub take : ℕ → ℕ → Step
take worker host = Take worker (record { index = host })

abbrev pub other_first : List Step
other_first = take 0 1 ∷ Fire 0 ∷ Fire 0 ∷ Back 0 ∷ take 1 0 ∷ Fire 1 ∷ Put 1 Spill ∷ Back 1 ∷ Close ∷ []

abbrev pub sender_first : List Step
sender_first = take 0 0 ∷ Fire 0 ∷ Put 0 Spill ∷ Back 0 ∷ take 1 1 ∷ Fire 1 ∷ Fire 1 ∷ Back 1 ∷ Close ∷ []

-- both at once, the packet to a place of the other host
abbrev pub at_once : List Step
at_once = take 0 0 ∷ take 1 1 ∷ Fire 1 ∷ Fire 0 ∷ Put 0 (Place 3) ∷ Back 0 ∷ Fire 1 ∷ Back 1 ∷ Close ∷ []
