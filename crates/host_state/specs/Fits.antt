-- What the law of rounds asks of hosts and events.
use Rattle.std.specs.Prelude.{◌≡◌, ◌≢◌, ℕ, ◌^◌, ◌<◌, ◌≤◌, [], length, All, Option, Some, None, IsSome, nat_lt, if◌then◌else◌}
use Rattle.sim_base.specs.declared.event.Event.{Event}
use Rattle.sim_base.specs.declared.event.What.{What}
use Rattle.sim_base.specs.declared.event.What.TheVariants as what
use Rattle.sim_base.specs.declared.size.TheConstants.{MAX_PACKET}
use Rattle.sim_base.specs.declared.time.Time.{Time}
use Rattle.sim_base.specs.Addresses.{host_at}
use Rattle.sim_base.specs.Packet.{packet_size}
use Rattle.sim_base.specs.Units.{max_u64}
use Rattle.net_iface.specs.Lane.{AllFit}
use Rattle.host_link.specs.declared.line.Line.{Line}
use Rattle.host_link.specs.Net.{Net}
use Rattle.host_rows.specs.declared.row.Row.{Row}
use Rattle.host_link.specs.Home.{home}
use Rattle.host_state.specs.HostRecord.{HostRecord}
use Rattle.host_link.specs.Sending.{route_from}
use Rattle.sim_base.specs.Limits.{most_processes}
use Rattle.host_state.specs.Fire.{fire}
use Rattle.world_order.specs.Model.{Model, Fired}
use Rattle.world_order.specs.Premises.{AreNumbered, IsFit}

-- an event that is due at the stop or later does not fire
abbrev pub fires_before_stop : Net → HostRecord → Event → Fired HostRecord Line
fires_before_stop net host e = if nat_lt e.key.due.nanos net.stop.nanos then fire net host e else record { host = host; made = []; lines = [] }

-- the hosts of a net as a kind of hosts
abbrev pub model : Net → Model HostRecord Line
model net = record {
  fire = λ number host e. fires_before_stop net host e;
  home = home net;
  next = λ host. host.link.next;
  clock = λ host. host.link.time.nanos;
}

-- a packet between hosts is no larger than the largest, and goes to a host of the net
abbrev pub FitsWhat : Net → What → Type 0
FitsWhat net (what.Packet packet) = (packet_size packet ≤ MAX_PACKET) × IsSome (host_at net.known.book packet.to.ip)
FitsWhat net _ = Unit {0}

pub record IsEventOf (net : Net) (e : Event) : Type 0 where
  pub source : e.key.source.index < length net.known.book
  pub what : FitsWhat net e.what

-- host i of a net, between firings
pub record IsHostOf (net : Net) (i : ℕ) (host : HostRecord) : Type 0 where
  pub number : host.link.number ≡ i
  pub within : i < length net.known.book
  pub limited : host.link.next ≤ max_u64
  pub up : AllFit host.link.up.waiting
  pub down : AllFit host.link.down.waiting
  pub made : host.link.made ≡ []
  pub lines : host.link.lines ≡ []

-- a row of a net
pub record FitsNet (net : Net) (row : Row) : Type 0 where
  pub within : row.host.index < length net.known.book
  pub few : length row.processes ≤ most_processes

-- a host at the beginning, which has fired nothing and written nothing, and its events
pub record OpensFit (net : Net) (i : ℕ) (f : Fired HostRecord Line) : Type 0 where
  pub host : IsHostOf net i f.host
  pub clock : f.host.link.time.nanos ≡ 0
  pub numbered : AreNumbered i 0 f.made
  pub counted : f.host.link.next ≡ length f.made
  pub written : f.host.written ≡ []
  pub events : All (IsEventOf net) f.made
  pub own : All (λ (e : Event). home net e ≡ i) f.made

-- each route from one host to another takes as long as the lookahead at least; without one there is none
abbrev pub IsLatency : Option ℕ → ℕ → Type 0
IsLatency None latency = ⊥
IsLatency (Some lookahead) latency = lookahead ≤ latency

abbrev pub IsLookaheadOf : Net → Option ℕ → Type 0
IsLookaheadOf net lookahead =
    (i j : ℕ) (latency : Time) (reliability : ℕ) → i ≢ j → route_from net i j ≡ Some (latency, reliability) → IsLatency lookahead latency.nanos

-- a lookahead that leaves room before the end of time
abbrev pub IsShort : Option ℕ → Type 0
IsShort None = Unit {0}
IsShort (Some lookahead) = lookahead ≤ 2 ^ 63

-- a firing at a host that fired no later event fits
abbrev pub FiringsFit : Net → Option ℕ → Type 0
FiringsFit net lookahead =
    (host : HostRecord) (e : Event) → IsHostOf net (home net e) host → IsEventOf net e → host.link.time.nanos ≤ e.key.due.nanos
    → IsFit (model net) lookahead max_u64 (IsHostOf net) (IsEventOf net) host e (fires_before_stop net host e)
