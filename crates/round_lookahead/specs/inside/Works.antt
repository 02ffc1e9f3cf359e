-- A job that was done.
use Rattle.std.specs.Prelude.{◌≡◌, ℕ, List}
use Rattle.sim_base.specs.declared.event.Parcel.{Parcel}
use Rattle.host_link.specs.declared.line.Line.{Line}
use Rattle.host_link.specs.Net.{Net}
use Rattle.host_link.specs.declared.outbox.Outbox.{Outbox}
use Rattle.host_state.specs.HostRecord.{HostRecord}
use Rattle.host_link.specs.Outbox.{parcels_of}
use Rattle.world_order.specs.WholeTurns.{Ran}
use Rattle.round_lookahead.specs.declared.workers.host_task.HostTask.{HostTask}
use Rattle.round_lookahead.specs.declared.workers.worked.Done.{Done}
use Rattle.round_lookahead.specs.Works.{IsRunOf}

-- the same, with the parcels that it made for other hosts
pub record HasRun (net : Net) (end : ℕ) (t : HostTask) (h : HostRecord) (d : Done) (parcels : List Parcel) : Type 0 where
  pub ran : Ran HostRecord Line
  pub run : IsRunOf net end t.id.index t h ran d
  pub made : parcels ≡ parcels_of net t.id.index ran.packets

-- a host that was run where it was, and what it handed out
abbrev pub done_of : HostTask → Outbox → Done
done_of t out = record { id = t.id; host = t.host; lines = out.lines; outputs = out.outputs }
