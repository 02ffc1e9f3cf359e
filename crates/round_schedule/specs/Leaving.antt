-- What a closed round of hosts leaves.
use Rattle.std.specs.Prelude.{◌≡◌, ℕ, ◌++◌, map}
use Rattle.host_link.specs.declared.line.Line.{Line}
use Rattle.host_link.specs.Net.{Net}
use Rattle.host_state.specs.HostRecord.{HostRecord}
use Rattle.world_order.specs.Settled.{AreDueFrom}
use Rattle.world_order.specs.World.{World}
use Rattle.round_schedule.specs.declared.member.Member.{Member}
use Rattle.round_schedule.specs.declared.round.Round.{Round}
use Rattle.round_schedule.specs.Standing.{EachStands, HostsStand, lines_of, written_at}

-- a closed round that was opened on a world stands for another one: its hosts stand for that world's and hold its events, each once and at its
-- home; the lines end its log, behind that of the world before, and the outputs end what was written; and no event is due in the window
pub record LeavesWorld (net : Net) (w : World HostRecord Line) (c : Round) (after : World HostRecord Line) : Type 0 where
  pub hosts : HostsStand net (map (λ (m : Member). m.host) c.members.items) after
  pub log : w.log ++ lines_of c.lines.items ≡ after.log
  pub outputs : EachStands (λ i (m : Member) (h : HostRecord). h.written ≡ written_at w i ++ m.outputs.items) c.members.items after.hosts
  pub over : AreDueFrom c.window.end.nanos after.events
