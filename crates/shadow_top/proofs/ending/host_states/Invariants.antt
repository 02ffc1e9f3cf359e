use Rattle.std.proofs.Common.{◌≡◌, ℕ, length, Some, slice_get}
use Rattle.sim_base.specs.declared.state.State.{State}
use Rattle.host_state.specs.HostRecord.{HostRecord, process_state}
use Rattle.host_state.specs.World.{World}
use Rattle.round_lookahead.specs.WorldStands.{WorldStands}
use Rattle.shadow_top.proofs.ending.host_states.Given as goal

-- the states so far
abbrev pub invariant-loop-process : goal.invariant-loop-process
invariant-loop-process l = record {
  count : length l.states.items ≡ l.process;
  each : (w : World) (h : HostRecord) → WorldStands l.world w → slice_get w.hosts l.host ≡ Some h → (p : ℕ) (state : State) → slice_get l.states.items p ≡ Some state → state ≡ process_state p h;
}
