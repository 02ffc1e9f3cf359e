use Rattle.std.proofs.Common.{◌≡◌, ℕ, length, Some, slice_get}
use Rattle.std.specs.Prelude.{Vec}
use Rattle.std.specs.declared.alloc.Global.{Global}
use Rattle.sim_base.specs.declared.state.State.{State}
use Rattle.host_state.specs.HostRecord.{HostRecord}
use Rattle.host_state.specs.World.{World}
use Rattle.net_run.specs.Rest.{TellsStates}
use Rattle.round_lookahead.specs.WorldStands.{WorldStands}
use Rattle.shadow_top.proofs.ending.all_states.Given as goal

-- those of the hosts so far
abbrev pub invariant-loop-host : goal.invariant-loop-host
invariant-loop-host l = record {
  count : length l.states.items ≡ l.host;
  each : (w : World) → WorldStands l.world w → (k : ℕ) (h : HostRecord) (states : Vec State Global) → slice_get w.hosts k ≡ Some h → slice_get l.states.items k ≡ Some states → TellsStates h states.items;
}
