-- every event at a host: what it does to the host's files is acts
use Rattle.std.proofs.Common.{◌≡◌, ℕ, Bool, List, [], ◌∷◌, ◌++◌, Option, Some, refl, ap, ◌∙◌}
use Rattle.sim_base.specs.declared.address.Ip.{Ip}
use Rattle.sim_base.specs.declared.event.Event.{Event}
use Rattle.sim_base.specs.declared.packet.Packet.{Packet}
use Rattle.net_iface.specs.declared.lane.Pushed.{Pushed}
use Rattle.net_iface.specs.declared.lane.Pushed.TheVariants.{Leaves, Waits, Dropped}
use Rattle.net_iface.specs.Lane.{pushed, released}
use Rattle.rv32_machine.specs.Table.{state}
use Rattle.rv32_machine.specs.Turn.{turn}
use Rattle.std.specs.Option.{option_flatten}
use Rattle.host_files.specs.Files.{FilesState}
use Rattle.host_files.specs.Slots.{at}
use Rattle.file_calls.specs.declared.task.Task.{Task}
use Rattle.host_calls.specs.Events.{arrives}
use Rattle.host_calls.specs.Parts.{PartsRecord, slot}
use Rattle.host_link.specs.Net.{Net}
use Rattle.host_state.specs.Arriving.{is_handed_over}
use Rattle.host_state.specs.Fire.{fire}
use Rattle.host_state.specs.Host.{with_parts, does_wanted}
use Rattle.host_state.specs.HostRecord.{HostRecord}
use Rattle.host_state.specs.Slice.{with_task}
use Rattle.host_laws.proofs.Walks.{PushIs, HandsKeep, PartsAct, StepsKeep, router_keeps, down_keeps, event_keeps}
use Rattle.host_laws.proofs.Walks.PartsAct.{Calls, Begins, Ends, Rings, Turns, LetsGo}
use Rattle.std.specs.List.{AllByRecursion}
use Rattle.pipe_laws.specs.Acts.{PipeAct}
use Rattle.pipe_laws.specs.Eventfds.{EventfdAct}
use Rattle.file_laws.specs.Kinds.{pipes, eventfds, timers}
use Rattle.file_laws.specs.Lives.{SlotAct, slots_after}
use Rattle.file_laws.specs.Timers.{TimerAct}
use Rattle.call_rises.specs.Moves.{FilesMove, TasksRise}
use Rattle.call_rises.proofs.Moving.{none, moved, slots_joined}
use Rattle.call_rises.proofs.Table.{Keeps, moved_slot, emptied, call_keeps, ended_keeps, starts_keep, arrives_keeps, alarmed_keeps}
use Rattle.call_rises.proofs.SocketMoves.{sockets_rest}
use Rattle.call_rises.proofs.There.{all_stay}
use Rattle.call_rises.proofs.Views.{view, grows_so}
use Rattle.run_rises.specs.Histories.{HostHistory}
use Rattle.run_rises.specs.Marks.{HoldsOn}
use Rattle.run_rises.proofs.GoingOn.{holds_on, call_holds_on, start_holds_on, end_holds_on, arrival_holds_on, alarm_holds_on}
use Rattle.run_rises.proofs.Marks.{goes_none, goes_both, holds_left}

-- acts lead from some files to others, at whatever moments
pub record FilesLead (x y : FilesState) : Type 0 where
  pub on_pipes : List (SlotAct (Unit {0}) PipeAct)
  pub on_eventfds : List (SlotAct (ℕ × Bool) EventfdAct)
  pub on_timers : List (SlotAct ℕ TimerAct)
  pub pipes_after : slots_after pipes on_pipes x.pipes ≡ y.pipes
  pub eventfds_after : slots_after eventfds on_eventfds x.eventfds ≡ y.eventfds
  pub timers_after : slots_after timers on_timers x.timers ≡ y.timers

pub lead_none : (x : FilesState) → FilesLead x x
lead_none x = record {
  on_pipes = [];
  on_eventfds = [];
  on_timers = [];
  pipes_after = refl;
  eventfds_after = refl;
  timers_after = refl;
}

pub lead_by : (now : ℕ) (x y : FilesState) → FilesMove now x y → FilesLead x y
lead_by now x y m = record {
  on_pipes = m.on_pipes;
  on_eventfds = m.on_eventfds;
  on_timers = m.on_timers;
  pipes_after = m.pipes_after;
  eventfds_after = m.eventfds_after;
  timers_after = m.timers_after;
}

pub lead_both : (x y z : FilesState) → FilesLead x y → FilesLead y z → FilesLead x z
lead_both x y z a b = record {
  on_pipes = a.on_pipes ++ b.on_pipes;
  on_eventfds = a.on_eventfds ++ b.on_eventfds;
  on_timers = a.on_timers ++ b.on_timers;
  pipes_after = slots_joined pipes a.on_pipes b.on_pipes x.pipes y.pipes z.pipes a.pipes_after b.pipes_after;
  eventfds_after = slots_joined eventfds a.on_eventfds b.on_eventfds x.eventfds y.eventfds z.eventfds a.eventfds_after b.eventfds_after;
  timers_after = slots_joined timers a.on_timers b.on_timers x.timers y.timers z.timers a.timers_after b.timers_after;
}

abbrev pub host_files : HostRecord → FilesState
host_files h = h.parts.shared.files

-- where a history leaves a host, with the names of its descriptors and the marks, one that goes on from it leaves another so
abbrev pub GoesOnFrom : Net → HostRecord → HostRecord → Type 0
GoesOnFrom net h k = (own : Ip) (history : HostHistory) → HoldsOn net.known.book own history h.parts k.parts

pub from_none : (net : Net) (h : HostRecord) → GoesOnFrom net h h
from_none net h own history holds = (history, (goes_none history, holds))

pub from_both : (net : Net) (h k l : HostRecord) → GoesOnFrom net h k → GoesOnFrom net k l → GoesOnFrom net h l
from_both net h k l a b own history holds =
    let first = a own history holds in
    let second = b own first.0 first.1.1 in
    (second.0, (goes_both history first.0 second.0 first.1.0 second.1.0, second.1.1))

-- whatever comes
abbrev Any : {X : Type 0} → X → Type 0
Any x = Unit {0}

push_any : (t : Pushed) → PushIs Any t
push_any (Leaves p) = tt
push_any (Waits due) = tt
push_any (Dropped p) = tt

all_any : (packets : List Packet) → AllByRecursion Any packets
all_any [] = tt
all_any (p ∷ packets) = (tt, all_any packets)

module _ (net : Net) where
  -- acts lead to its files, its entries stay in order, and one history leads to another
  abbrev H : HostRecord → HostRecord → Type 0
  H h k =
      FilesLead (host_files h) (host_files k)
      × ((TasksRise h.parts → TasksRise k.parts) × ((h.row.address ≡ k.row.address) × GoesOnFrom net h k))

  stays : (h : HostRecord) → H h h
  stays h = (lead_none (host_files h), (λ rise. rise, (refl, from_none net h)))

  then : (h k l : HostRecord) → H h k → H k l → H h l
  then h k l a b = (
    lead_both (host_files h) (host_files k) (host_files l) a.0 b.0,
    (λ rise. b.1.0 (a.1.0 rise), (a.1.1.0 ∙ b.1.1.0, from_both net h k l a.1.1.1 b.1.1.1)),
  )

  -- its parts act
  kept : (h : HostRecord) (parts : PartsRecord) → Keeps net.known.book h.link.time h.parts parts → ((own : Ip) (history : HostHistory) → HoldsOn net.known.book own history h.parts parts) → H h (with_parts parts h)
  kept h parts m holds =
      (lead_by h.link.time.nanos (host_files h) parts.shared.files m.files, (m.tasks, (refl, holds)))

  -- what is wanted is done by the link
  did_wanted : (h : HostRecord) → H h (does_wanted net h)
  unfolding does_wanted
  did_wanted h = stays h

  -- ---- packets

  handed : (packet : Packet) (h : HostRecord) → H h (is_handed_over net packet h)
  unfolding is_handed_over does_wanted
  handed packet h =
      let parts = (arrives h.link.time packet h.parts).1 in
      then h (with_parts parts h) (is_handed_over net packet h)
      (kept h parts (arrives_keeps net.known.book h.link.time packet h.parts) (λ own history. arrival_holds_on net.known.book own history h.link.time packet h.parts)) (stays (with_parts parts h))

  -- a task is put in its place
  tasked : (p : ℕ) (task : Task) (h : HostRecord) (before : Task) → at p h.parts.tasks ≡ Some before → before.table ≡ task.table → before.epolls ≡ task.epolls → H h (with_parts (with_task p (Some task) h.parts) h)
  tasked p task h before there table epolls =
      let shared = h.parts.shared in
      let sockets = h.parts.sockets in
      let parts = with_task p (Some task) h.parts in
      let moved_so = moved h.link.time.nanos (view before shared sockets) (view task shared sockets) (none h.link.time.nanos shared.files) table refl epolls (grows_so shared.files shared.files refl refl refl) (all_stay sockets) in
      let k = (moved_slot net.known.book h.link.time h.parts p before (slot (Some task) shared sockets) task there refl moved_so (sockets_rest net.known.book sockets)).keeps in
      kept h parts k
      (λ own history. holds_on net.known.book own history h.link.time h.parts parts k)

  parts_act : (h : HostRecord) (parts : PartsRecord) → PartsAct net h parts → H h (with_parts parts h)
  parts_act h parts (Calls p number arguments) =
      kept h parts (call_keeps net.known h.link.time p number arguments h.parts) (λ own history. call_holds_on net.known own history h.link.time p number arguments h.parts)
  parts_act h parts (Begins p s is) =
      kept h parts (starts_keep net.known.book h.link.time p s.memory h.parts) (λ own history. start_holds_on net.known.book own history h.link.time p s.memory h.parts)
  parts_act h parts (Ends p) =
      kept h parts (ended_keeps net.known.book h.link.time p h.parts) (λ own history. end_holds_on net.known.book own history h.link.time p h.parts)
  parts_act h parts (Rings target serial) =
      kept h parts (alarmed_keeps net.known.book h.link.time target serial h.parts) (λ own history. alarm_holds_on net.known.book own history h.link.time target serial h.parts)
  parts_act h parts (Turns p cpu task there) =
      tasked p (record task { memory = (turn net.budget (state cpu task.memory)).state.memory }) h task (ap (λ (o : Option (Option Task)). option_flatten o) there) refl refl
  parts_act h parts (LetsGo p) = (
    lead_none (host_files h),
    (
      λ rise. emptied h.parts p rise,
      (
        refl,
        λ own history holds. (history, (goes_none history, holds_left net.known.book own history h.parts.tasks h.parts.shared.files h.parts.sockets p holds)),
      ),
    ),
  )

  -- ---- an event

  hands : (first : HostRecord) → HandsKeep net Any (H first)
  hands first = record {
    handed = λ packet h any m. then first h (is_handed_over net packet h) m (handed packet h);
    full = λ packet h any m. m;
    next = λ due h m. m;
  }

  steps : (first : HostRecord) → StepsKeep net Any (H first)
  steps first = record {
    acted = λ h parts act m. then first h (with_parts parts h) m (parts_act h parts act);
    wanted = λ h m. then first h (does_wanted net h) m (did_wanted h);
    beside = λ processes h m. m;
    pauses = λ nanos p h m. m;
    up = λ h m. m;
    down = λ h any m. down_keeps net Any (H first) (hands first) h (all_any (released h.link.time h.link.down).packets, m);
    loops = λ packet h any m. then first h (is_handed_over net packet h) m (handed packet h);
    comes = λ packet h any small m. then first h (is_handed_over net packet h) m (handed packet h);
    routed = λ packet h any small m. router_keeps net Any (H first) (hands first) packet h (push_any (pushed h.link.time packet h.link.down).0, m);
  }

  pub fires_lead : (e : Event) (h : HostRecord) → H h (fire net h e).host
  fires_lead e h = event_keeps net Any (H h) (steps h) e h tt (stays h)
