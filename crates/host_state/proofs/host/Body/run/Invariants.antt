use Rattle.std.proofs.Common.{◌-◌}
use Rattle.host_state.specs.HostRecord.{HostRecord}
use Rattle.host_state.specs.Slice.{slice}
use Rattle.host_state.specs.StandsFor.{BodyStands, LeadsTo}
use Rattle.host_state.proofs.host.Body.run.Given as goal

-- what is left of the slice gives the whole
abbrev pub invariant-loop-call : goal.invariant-loop-call
invariant-loop-call l =
    (h : HostRecord) → BodyStands l.fn.self h → LeadsTo (slice l.net l.process (l.calls - l._call) l.running) l.self (slice l.net l.process l.calls l.fn.cpu h)
