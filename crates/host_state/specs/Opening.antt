-- The host of the opening world, and the events that it begins with.
use Rattle.std.specs.Prelude.{[], length, replicate}
use Rattle.host_draws.specs.Draws.{host_generator}
use Rattle.host_calls.specs.Starting.{no_parts}
use Rattle.host_link.specs.declared.line.Line.{Line}
use Rattle.guest_process.specs.declared.process.Process.TheVariants as process
use Rattle.host_rows.specs.declared.row.Row.{Row}
use Rattle.host_state.specs.HostRecord.{HostRecord}
use Rattle.host_link.specs.Beginning.{begins_all}
use Rattle.host_link.specs.Link.{new_link}
use Rattle.host_state.specs.Fire.{hands_out}
use Rattle.world_order.specs.Model.{Fired}

-- no process has started; the generator is that of the host with this number, in an experiment with this seed
abbrev pub host_begins : Row → HostRecord
host_begins row = record {
  row = row;
  link = begins_all 0 row.processes (new_link row);
  processes = replicate (length row.processes) process.NotStarted;
  parts = no_parts row.address (host_generator row.seed row.host.index) (length row.processes);
  written = [];
}

-- the host, and its events
abbrev pub opening : Row → Fired HostRecord Line
opening row = hands_out (host_begins row)
