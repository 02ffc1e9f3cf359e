-- What a host does with a packet that arrives, an alarm, and the end of a process.
use Rattle.std.specs.Prelude.{◌≡◌, ℕ, Option, Some, None}
use Rattle.sim_base.specs.declared.act.Act.{Act}
use Rattle.sim_base.specs.declared.alarm.AlarmTarget.{AlarmTarget}
use Rattle.sim_base.specs.declared.alarm.AlarmTarget.TheVariants.{Process, Timer, Socket}
use Rattle.sim_base.specs.declared.packet.Packet.{Packet}
use Rattle.sim_base.specs.declared.time.Time.{Time}
use Rattle.host_wants.specs.Wanted.{Wanted}
use Rattle.host_sockets.specs.Sockets.{SocketsRecord}
use Rattle.host_sockets.specs.Arriving as arriving
use Rattle.host_sockets.specs.Alarms.{alarm_comes}
use Rattle.host_calls.specs.declared.all.Parts.{Parts}
use Rattle.file_calls.specs.declared.task.Task.{Task}
use Rattle.host_calls.specs.Calls.{scene_at, cleared}
use Rattle.host_calls.specs.Closing.{all_closed}
use Rattle.host_calls.specs.Parts.{PartsRecord, PartsStand, Slot, slot_of, slot_in, with_slot}
use Rattle.file_calls.specs.Times.{rings}

-- what the sockets leave
abbrev pub with_wanted : SocketsRecord × Wanted → PartsRecord → PartsRecord
with_wanted (t, w) h = record h { shared = record h.shared { outlet = w }; sockets = t }

abbrev pub with_act : Act × (SocketsRecord × Wanted) → PartsRecord → Act × PartsRecord
with_act (act, after) h = (act, with_wanted after h)

-- a packet arrives: its act in the packet log, and what it leaves
abbrev pub arrives : Time → Packet → PartsRecord → Act × PartsRecord
arrives now packet h = with_act (arriving.arrives now packet h.sockets h.shared.outlet) h

-- an alarm. That of a deadline changes nothing by itself: as each event ends, the calls that wait are asked again
abbrev pub alarmed : Time → AlarmTarget → ℕ → PartsRecord → PartsRecord
alarmed now (Process p) serial h = h
alarmed now (Timer k) serial h = record h { shared = rings now k serial h.shared }
alarmed now (Socket k) serial h = with_wanted (alarm_comes now k serial h.sockets h.shared.outlet) h

-- the end of a process, if it is there: its descriptors are closed, and it waits in no call
abbrev pub ended_by : Time → Option Task → Slot → Slot
ended_by now None p = p
ended_by now (Some task) p = slot_of (all_closed now (cleared (scene_at task p)))

abbrev pub ended_slot : Time → Slot → Slot
ended_slot now p = ended_by now p.task p

abbrev pub ended : Time → ℕ → PartsRecord → PartsRecord
ended now process h = with_slot process (ended_slot now (slot_in process h)) h

-- what the code answers and leaves
abbrev pub Delivered : Act × PartsRecord → Act → Parts → Type 0
Delivered (b, h) a c = (a ≡ b) × PartsStand c h
