-- What a host of the code stands for.
use Rattle.std.specs.Prelude.{◌≡◌, ◌≤◌, List}
use Rattle.sim_base.specs.declared.time.Time.{Time}
use Rattle.world_order.specs.Model.{Fired}
use Rattle.file_calls.specs.declared.task.Output.{Output}
use Rattle.host_calls.specs.Parts.{PartsStand}
use Rattle.host_state.specs.declared.host.Body.{Body}
use Rattle.host_link.specs.declared.outbox.Made.{Made}
use Rattle.host_link.specs.declared.line.Line.{Line}
use Rattle.host_state.specs.Step.{Step}
use Rattle.host_state.specs.HostRecord.{HostRecord}

-- all is equal but the sockets; what was written before is not kept
pub record BodyStands (c : Body) (h : HostRecord) : Type 0 where
  pub row : c.row ≡ h.row
  pub link : c.link ≡ h.link
  pub processes : c.processes.items ≡ h.processes
  pub parts : PartsStand c.parts h.parts

-- whatever record the old host stood for, the new one stands for what this makes of it
abbrev pub Does : (HostRecord → HostRecord) → Body → Body → Type 0
Does act old new = (h : HostRecord) → BodyStands old h → BodyStands new (act h)

-- a step of a process, and the host after it
pub record StepStands (s : Step) (c : Body) (t : Step × HostRecord) : Type 0 where
  pub step : s ≡ t.0
  pub body : BodyStands c t.1

-- the same for records whose last firing wasn't after a time
abbrev pub DoesFrom : Time → (HostRecord → HostRecord) → Body → Body → Type 0
DoesFrom due act old new = (h : HostRecord) → BodyStands old h → h.link.time.nanos ≤ due.nanos → BodyStands new (act h)

-- what a firing hands out, in which so much was written
pub record HandsOut (f : Fired HostRecord Line) (wrote : List Output) (made : Made) (c : Body) : Type 0 where
  pub body : BodyStands c f.host
  pub events : made.events.items ≡ f.made
  pub lines : made.lines.items ≡ f.lines
  pub outputs : made.outputs.items ≡ wrote

abbrev pub DoesStep : (HostRecord → Step × HostRecord) → Step → Body → Body → Type 0
DoesStep act step old new = (h : HostRecord) → BodyStands old h → StepStands step new (act h)

-- a body stands for a record from which an act leads to the whole
pub record LeadsTo (act : HostRecord → HostRecord) (c : Body) (whole : HostRecord) : Type 0 where
  pub here : HostRecord
  pub body : BodyStands c here
  pub same : act here ≡ whole
