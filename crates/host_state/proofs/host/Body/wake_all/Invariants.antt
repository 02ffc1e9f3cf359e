use Rattle.std.proofs.Common.{◌-◌}
use Rattle.host_state.specs.Fire.{wakes_from, wakes_all}
use Rattle.host_state.specs.HostRecord.{HostRecord}
use Rattle.host_state.specs.StandsFor.{BodyStands, LeadsTo}
use Rattle.host_state.proofs.host.Body.wake_all.Given as goal

-- what is left gives the whole
abbrev pub invariant-loop-process : goal.invariant-loop-process
invariant-loop-process l =
    (h : HostRecord) → BodyStands l.fn.self h → LeadsTo (wakes_from l.net l.process (l.count - l.process)) l.self (wakes_all l.net h)
