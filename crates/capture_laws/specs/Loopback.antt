-- which packets of a run stand in the captures of loopback
use Rattle.std.specs.Prelude.{◌≡◌, ℕ, not, ◌&&◌, List}
use Rattle.std.specs.List.{filter}
use Rattle.sim_base.specs.declared.address.Ip.{Ip}
use Rattle.run_files.specs.Captures.{is_at, is_sent, passes, is_on_eth0, is_on_lo}
use Rattle.host_link.specs.Sending.{stays_here}
use Rattle.host_link.specs.declared.line.Line.{Line}
use Rattle.host_link.specs.Net.{Net}
use Rattle.host_rows.specs.declared.row.Row.{Row}
use Rattle.world_order.specs.World.{Logged}
use Rattle.run_streams.specs.Past.{stays, WasLogged}

-- the lines of the packets that a host sends to itself, past the network
abbrev pub past_of : ℕ → Ip → List Line → List Line
past_of number own lines = filter (λ (line : Line). is_at number line && (is_sent line.act && stays_here own line.packet)) lines

-- a line is at loopback as its packet is sent and stays at its host, and at the interface to the network where its packet doesn't
-- stay: by its addresses, as by the event that logged it
pub record IsPlaced (net : Net) (rows : List Row) (own : Ip) (l : Logged Line) : Type 0 where
  pub was : WasLogged net rows l
  pub lo : is_on_lo own l.line ≡ (is_sent l.line.act && stays own was.event.what l.line.act l.line.packet)
  pub eth0 : is_on_eth0 own l.line ≡ (passes l.line.act && not (stays own was.event.what l.line.act l.line.packet))
