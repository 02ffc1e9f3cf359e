-- a history goes on by what happens
use Rattle.std.proofs.Common.{◌≡◌, ℕ, List, [], ◌++◌, refl, sym, ap, subst, ◌∙◌}
use Rattle.sim_base.specs.declared.address.Ip.{Ip}
use Rattle.sim_base.specs.declared.alarm.AlarmTarget.{AlarmTarget}
use Rattle.sim_base.specs.declared.packet.Packet.{Packet}
use Rattle.sim_base.specs.declared.time.Time.{Time}
use Rattle.guest_mem.specs.Memory.{Memory}
use Rattle.host_sockets.specs.Sockets.{SocketsRecord, no_sockets}
use Rattle.host_wants.specs.Wanted.{Wanted, nothing_wanted}
use Rattle.file_calls.specs.declared.known.Known.{Known}
use Rattle.host_calls.specs.Calls.{call}
use Rattle.host_calls.specs.Events.{arrives, alarmed, ended}
use Rattle.host_calls.specs.Parts.{PartsRecord}
use Rattle.host_calls.specs.Starting.{task_starts}
use Rattle.socket_laws.specs.Histories.{SocketsAct, sockets_after, sockets_of}
use Rattle.file_laws.specs.Kinds.{pipes, eventfds, timers}
use Rattle.call_rises.specs.Sockets.{SocketsMove, sockets_left}
use Rattle.call_rises.proofs.Moving.{slots_joined}
use Rattle.call_rises.proofs.SocketMoves.{sockets_on}
use Rattle.call_rises.proofs.Table.{Keeps, ended_keeps, starts_keep, arrives_keeps, alarmed_keeps, call_keeps}
use Rattle.run_rises.specs.Histories.{HostHistory, Leaves, GoesOn, GoesOnTo}
use Rattle.run_rises.specs.Marks.{HoldsOn}
use Rattle.run_rises.proofs.Marks.{GoesBy, goes_so, marks_hold}

sockets_go_on : (hosts : List Ip) (own : Ip) (draws : List ℕ) (acts : List (Time × SocketsAct)) (x y : SocketsRecord) (m : SocketsMove hosts x y) → x ≡ sockets_of hosts own draws acts → y ≡ sockets_of hosts own draws (acts ++ m.acts)
sockets_go_on hosts own draws acts x y m is =
    let reached = sockets_left hosts own draws acts in
    sym
    (ap (λ (u : SocketsRecord × Wanted). u.0) (sockets_on hosts acts m.acts (no_sockets own) (nothing_wanted draws))
    ∙ subst (λ (u : SocketsRecord). (sockets_after hosts m.acts (u, reached.1)).0 ≡ y) is (m.after reached.1))

module _ (hosts : List Ip) (own : Ip) (history : HostHistory) (now : Time) (x y : PartsRecord) (kept : Keeps hosts now x y) where
  abbrev more : HostHistory
  more = record {
    on_pipes = history.on_pipes ++ kept.files.on_pipes;
    on_eventfds = history.on_eventfds ++ kept.files.on_eventfds;
    on_timers = history.on_timers ++ kept.files.on_timers;
    draws = history.draws;
    on_sockets = history.on_sockets ++ kept.sockets.acts;
  }

  goes_by : GoesBy hosts history more now.nanos x.shared.files y.shared.files kept.files x.sockets y.sockets kept.sockets
  goes_by = record { on_pipes = refl; on_eventfds = refl; on_timers = refl; draws = refl; on_sockets = refl }

  goes : GoesOn history more
  goes = goes_so hosts history more now.nanos x.shared.files y.shared.files kept.files x.sockets y.sockets kept.sockets goes_by

  leaves_more : Leaves hosts own history x.shared.files x.sockets → Leaves hosts own more y.shared.files y.sockets
  leaves_more leaves = record {
    files_are = record {
      pipes_are = slots_joined pipes history.on_pipes kept.files.on_pipes [] x.shared.files.pipes y.shared.files.pipes leaves.files_are.pipes_are kept.files.pipes_after;
      eventfds_are = slots_joined eventfds history.on_eventfds kept.files.on_eventfds [] x.shared.files.eventfds y.shared.files.eventfds leaves.files_are.eventfds_are kept.files.eventfds_after;
      timers_are = slots_joined timers history.on_timers kept.files.on_timers [] x.shared.files.timers y.shared.files.timers leaves.files_are.timers_are kept.files.timers_after;
    };
    sockets_are = sockets_go_on hosts own history.draws history.on_sockets x.sockets y.sockets kept.sockets leaves.sockets_are;
  }

  goes_on : GoesOnTo hosts own history x y
  goes_on leaves = (more, (goes, leaves_more leaves))

  -- with the names of descriptors and the marks
  pub holds_on : HoldsOn hosts own history x y
  holds_on h = (
    more,
    (
      goes,
      record {
        leaves = leaves_more h.leaves;
        names = kept.hold h.names;
        marks = marks_hold hosts own history more now x y kept goes_by h.leaves h.names kept.were h.marks;
      },
    ),
  )

pub call_goes_on : (known : Known) (own : Ip) (history : HostHistory) (now : Time) (process number : ℕ) (args : List ℕ) (h : PartsRecord) → GoesOnTo known.book own history h (call known now process number args h).1
call_goes_on known own history now process number args h leaves =
    goes_on known.book own history now h (call known now process number args h).1 (call_keeps known now process number args h) leaves

pub start_goes_on : (hosts : List Ip) (own : Ip) (history : HostHistory) (process : ℕ) (memory : Memory) (h : PartsRecord) → GoesOnTo hosts own history h (task_starts process memory h)
start_goes_on hosts own history process memory h leaves =
    let now : Time = record { nanos = 0 } in
    goes_on hosts own history now h (task_starts process memory h) (starts_keep hosts now process memory h) leaves

pub end_goes_on : (hosts : List Ip) (own : Ip) (history : HostHistory) (now : Time) (process : ℕ) (h : PartsRecord) → GoesOnTo hosts own history h (ended now process h)
end_goes_on hosts own history now process h leaves =
    goes_on hosts own history now h (ended now process h) (ended_keeps hosts now process h) leaves

pub arrival_goes_on : (hosts : List Ip) (own : Ip) (history : HostHistory) (now : Time) (packet : Packet) (h : PartsRecord) → GoesOnTo hosts own history h (arrives now packet h).1
arrival_goes_on hosts own history now packet h leaves =
    goes_on hosts own history now h (arrives now packet h).1 (arrives_keeps hosts now packet h) leaves

pub alarm_goes_on : (hosts : List Ip) (own : Ip) (history : HostHistory) (now : Time) (target : AlarmTarget) (serial : ℕ) (h : PartsRecord) → GoesOnTo hosts own history h (alarmed now target serial h)
alarm_goes_on hosts own history now target serial h leaves =
    goes_on hosts own history now h (alarmed now target serial h) (alarmed_keeps hosts now target serial h) leaves

-- and so do the names of descriptors and the marks
pub call_holds_on : (known : Known) (own : Ip) (history : HostHistory) (now : Time) (process number : ℕ) (args : List ℕ) (h : PartsRecord) → HoldsOn known.book own history h (call known now process number args h).1
call_holds_on known own history now process number args h =
    holds_on known.book own history now h (call known now process number args h).1 (call_keeps known now process number args h)

pub start_holds_on : (hosts : List Ip) (own : Ip) (history : HostHistory) (now : Time) (process : ℕ) (memory : Memory) (h : PartsRecord) → HoldsOn hosts own history h (task_starts process memory h)
start_holds_on hosts own history now process memory h =
    holds_on hosts own history now h (task_starts process memory h) (starts_keep hosts now process memory h)

pub end_holds_on : (hosts : List Ip) (own : Ip) (history : HostHistory) (now : Time) (process : ℕ) (h : PartsRecord) → HoldsOn hosts own history h (ended now process h)
end_holds_on hosts own history now process h =
    holds_on hosts own history now h (ended now process h) (ended_keeps hosts now process h)

pub arrival_holds_on : (hosts : List Ip) (own : Ip) (history : HostHistory) (now : Time) (packet : Packet) (h : PartsRecord) → HoldsOn hosts own history h (arrives now packet h).1
arrival_holds_on hosts own history now packet h =
    holds_on hosts own history now h (arrives now packet h).1 (arrives_keeps hosts now packet h)

pub alarm_holds_on : (hosts : List Ip) (own : Ip) (history : HostHistory) (now : Time) (target : AlarmTarget) (serial : ℕ) (h : PartsRecord) → HoldsOn hosts own history h (alarmed now target serial h)
alarm_holds_on hosts own history now target serial h =
    holds_on hosts own history now h (alarmed now target serial h) (alarmed_keeps hosts now target serial h)
