-- The host at which an event fires.
use Rattle.std.specs.Prelude.{ℕ, unwrap_or}
use Rattle.sim_base.specs.declared.event.Event.{Event}
use Rattle.sim_base.specs.declared.event.What.{What}
use Rattle.sim_base.specs.declared.event.What.TheVariants as what
use Rattle.sim_base.specs.Addresses.{host_at}
use Rattle.host_link.specs.Net.{Net}

-- an event fires at the host that has the address of its packet, and another one at its source
abbrev pub home_of : Net → ℕ → What → ℕ
home_of net source (what.Packet packet) = unwrap_or (host_at net.known.book packet.to.ip) source
home_of net source _ = source

abbrev pub home : Net → Event → ℕ
home net e = home_of net e.key.source.index e.what
