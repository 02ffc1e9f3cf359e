use Rattle.std.proofs.Common.{◌+◌, ◌-◌, ◌^◌, length}
use Rattle.host_state.specs.HostRecord.{HostRecord}
use Rattle.host_state.specs.HostStands.{Stands}
use Rattle.host_state.specs.Running.{MayRun}
use Rattle.host_state.proofs.Runs.{SoFar}
use Rattle.host_state.proofs.host.Host.run_until.Given as goal

-- what the host holds is its own, and whatever record it stood for, it has come so far
abbrev pub invariant-events : goal.invariant-events
invariant-events l = record {
  own : MayRun l.net l.self;
  so_far : (h : HostRecord) → Stands l.initial.self h → SoFar l.net l.end h l.initial.self.queue l.self l.initial.out l.out;
}

-- the events that wait and the numbers that are left
abbrev pub decreases-events : goal.decreases-events
decreases-events l = length l.self.queue + ((2 ^ 64 - 1) - l.self.body.link.next)
