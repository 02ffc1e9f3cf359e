-- in every world that a run reaches, each host's files have a history
use Rattle.std.proofs.Common.{◌≡◌, ℕ, zero, suc, true, List, [], ◌∷◌, length, replicate, Option, Some, None, nat_lt, slice_get, slice_set, refl, sym, subst, ◌∙◌}
use Rattle.sim_base.specs.declared.address.Ip.{Ip}
use Rattle.sim_base.specs.declared.event.Event.{Event}
use Rattle.sim_base.specs.declared.time.Time.{Time}
use Rattle.host_fds.specs.declared.file_id.FileId.{FileId}
use Rattle.host_files.specs.declared.file.File.{File}
use Rattle.host_files.specs.declared.file.Object.{Object}
use Rattle.host_files.specs.Files.{no_files, file_at}
use Rattle.host_files.specs.Slots.{at}
use Rattle.host_sockets.specs.Sockets.{no_sockets}
use Rattle.file_calls.specs.declared.task.Task.{Task}
use Rattle.host_calls.specs.Ready.{object_rises}
use Rattle.call_rises.specs.Moves.{TasksRise}
use Rattle.call_rises.specs.Names.{named_in, names}
use Rattle.call_rises.proofs.Views.{some_same}
use Rattle.host_link.specs.declared.line.Line.{Line}
use Rattle.host_link.specs.Net.{Net}
use Rattle.host_rows.specs.declared.row.Row.{Row}
use Rattle.host_state.specs.Fire.{fire}
use Rattle.host_state.specs.Fits.{model}
use Rattle.host_link.specs.Home.{home}
use Rattle.host_state.specs.HostRecord.{HostRecord}
use Rattle.host_state.specs.Opening.{opening}
use Rattle.host_state.specs.World.{World, opening_world}
use Rattle.world_order.specs.Model.{Fired, with_host, fires_at}
use Rattle.world_order.specs.World.{next}
use Rattle.socket_streams.proofs.Shares.{AllHold, set_hold}
use Rattle.run_streams.specs.Run.{IsReached, HasHistory}
use Rattle.run_streams.specs.Run.IsReached.{begins, turns}
use Rattle.run_streams.proofs.Firing.{fires_so}
use Rattle.run_streams.proofs.Histories.{history}
use Rattle.run_streams.proofs.Worlds.{rows_hold, turn_of}
use Rattle.run_rises.specs.Histories.{HostHistory, Leaves}
use Rattle.run_rises.specs.Rises.{rises_counted, counts}
use Rattle.run_rises.proofs.Counted.{object_counts}
use Rattle.run_rises.specs.Marks.{Holds, HoldsOn}
use Rattle.run_rises.proofs.Walk.{FilesLead, GoesOnFrom, from_none, from_both, lead_none, lead_both, host_files, fires_lead}

-- a history leaves a host, with the names of its descriptors and the marks
abbrev Good : Net → Ip → HostRecord → Type 0
Good net own h =
    (history : HostHistory) × Holds net.known.book own history h.parts.tasks h.parts.shared.files h.parts.sockets

-- acts lead to a host's files from none, the entries of its epolls are in order, and a history leaves it with the marks
abbrev IsKnown : Net → HostRecord → Type 0
IsKnown net h = FilesLead no_files (host_files h) × (TasksRise h.parts × Good net h.row.address h)

nobody : (count process : ℕ) (task : Task) → at process (replicate count None) ≡ Some task → ⊥
nobody zero process task e = cc
nobody (suc count) zero task e = cc
nobody (suc count) (suc process) task e = nobody count process task e

no_name : (count process fd : ℕ) (id : FileId) → names process fd (replicate count None) ≡ Some id → ⊥
no_name count process fd id e = by_task (at process (replicate count None)) refl e
  where
    by_task : (o : Option Task) → at process (replicate count None) ≡ o → named_in fd o ≡ Some id → ⊥
    by_task None there e = cc
    by_task (Some task) there e = nobody count process task there

no_history : HostHistory
no_history = record { on_pipes = []; on_eventfds = []; on_timers = []; draws = []; on_sockets = [] }

nothing_holds : (net : Net) (own : Ip) (count : ℕ) → Holds net.known.book own no_history (replicate count None) no_files (no_sockets own)
unfolding no_history
nothing_holds net own count = record {
  leaves = record { files_are = record { pipes_are = refl; eventfds_are = refl; timers_are = refl }; sockets_are = refl };
  names = record {
    opened = λ process fd id e. absurd (no_name count process fd id e);
    apart = λ process fd other gd id e k. absurd (no_name count process fd id e);
    there = λ id file e. absurd (no_file id file e);
    single = λ id other f g e k same one. absurd (no_file id f e);
    watched = λ process k task w e entry. absurd (nobody count process task e);
  };
  marks = λ process k task w mark id file e entry marked named there. absurd (nobody count process task e);
}
  where
    no_file : (id : FileId) (file : File) → file_at id no_files ≡ Some file → ⊥
    no_file id file e = cc

row_known : (net : Net) (row : Row) → IsKnown net (opening row).host
row_known net row = (
  lead_none no_files,
  (λ process task e. absurd (nobody (length row.processes) process task e), (no_history, nothing_holds net row.address (length row.processes))),
)

fires_known : (net : Net) (hosts : List HostRecord) (e : Event) (o : Option HostRecord) → slice_get hosts (home net e) ≡ o → nat_lt e.key.due.nanos net.stop.nanos ≡ true → AllHold (IsKnown net) hosts → AllHold (IsKnown net) (fires_at (model net) hosts e o).hosts
fires_known net hosts e None there due known = known
fires_known net hosts e (Some h) there due known =
    subst (λ (f : Fired HostRecord Line). AllHold (IsKnown net) (with_host hosts (home net e) f).hosts) (sym (fires_so net h e due))
    (set_hold (IsKnown net) hosts (home net e) (fire net h e).host known
    (let before = known (home net e) h there in
    let fired = fires_lead net e h in (
      lead_both no_files (host_files h) (host_files (fire net h e).host) before.0 fired.0,
      (
        fired.1.0 before.1.0,
        let on = fired.1.1.1 h.row.address before.1.1.0 before.1.1.1 in
            subst (λ (own : Ip). Good net own (fire net h e).host) fired.1.1.0 (on.0, on.1.1),
      ),
    )))

turn_known : (net : Net) (w v : World) → next (model net) net.stop.nanos w ≡ Some v → AllHold (IsKnown net) w.hosts → AllHold (IsKnown net) v.hosts
turn_known net w v k known =
    let turn = turn_of net w v k in
    subst (λ (u : World). AllHold (IsKnown net) u.hosts) turn.is
    (fires_known net w.hosts turn.event (slice_get w.hosts (home net turn.event)) refl turn.due known)

run_known : (net : Net) (rows : List Row) (w : World) → IsReached net (opening_world rows) w → AllHold (IsKnown net) w.hosts
run_known net rows w (begins v same) =
    subst (λ (u : World). AllHold (IsKnown net) u.hosts) same (rows_hold (IsKnown net) rows (row_known net))
run_known net rows w (turns u v reached k) = turn_known net u v k (run_known net rows u reached)

module _ (net : Net) (rows : List Row) (w : World) (i : ℕ) (h : HostRecord) (reached : IsReached net (opening_world rows) w) (there : slice_get w.hosts i ≡ Some h) where
  files_known : FilesLead no_files (host_files h)
  files_known = (run_known net rows w reached i h there).0

  sockets_known : HasHistory net h
  sockets_known = history net rows w i h reached there

  pub whole_history : HostHistory
  whole_history = record {
    on_pipes = files_known.on_pipes;
    on_eventfds = files_known.on_eventfds;
    on_timers = files_known.on_timers;
    draws = sockets_known.draws;
    on_sockets = sockets_known.acts;
  }

  pub leaves : Leaves net.known.book h.row.address whole_history h.parts.shared.files h.parts.sockets
  unfolding whole_history
  leaves = record {
    files_are = record { pipes_are = files_known.pipes_after; eventfds_are = files_known.eventfds_after; timers_are = files_known.timers_after };
    sockets_are = sockets_known.is;
  }

  pub rises : (now : Time) (object : Object) → object_rises now object h.parts.shared.files h.parts.sockets ≡ counts (rises_counted net.known.book h.row.address whole_history now object)
  rises now object =
      object_counts net.known.book h.row.address whole_history now object h.parts.shared.files h.parts.sockets leaves

  pub in_order : TasksRise h.parts
  in_order = (run_known net rows w reached i h there).1.0

  pub good : Good net h.row.address h
  good = (run_known net rows w reached i h there).1.1

-- from one world to another each host's history goes on
abbrev HasGoneOn : Net → List HostRecord → ℕ → HostRecord → Type 0
HasGoneOn net hosts i h = (k : HostRecord) × ((slice_get hosts i ≡ Some k) × GoesOnFrom net h k)

abbrev HaveGoneOn : Net → List HostRecord → List HostRecord → Type 0
HaveGoneOn net before after = (i : ℕ) (h : HostRecord) → slice_get before i ≡ Some h → HasGoneOn net after i h

none_gone : (net : Net) (hosts : List HostRecord) → HaveGoneOn net hosts hosts
none_gone net hosts i h e = (h, (e, from_none net h))

set_gone : (net : Net) (hosts : List HostRecord) (place : ℕ) (x y : HostRecord) → slice_get hosts place ≡ Some x → GoesOnFrom net x y → HaveGoneOn net hosts (slice_set hosts place y)
set_gone net [] place x y there goes i h e = let no : ⊥ = cc in absurd no
set_gone net (z ∷ hosts) zero x y there goes zero h e =
    let is : x ≡ h = some_same x h (sym there ∙ e) in (y, (refl, subst (λ (u : HostRecord). GoesOnFrom net u y) is goes))
set_gone net (z ∷ hosts) zero x y there goes (suc i) h e = (h, (e, from_none net h))
set_gone net (z ∷ hosts) (suc place) x y there goes zero h e = (h, (e, from_none net h))
set_gone net (z ∷ hosts) (suc place) x y there goes (suc i) h e = set_gone net hosts place x y there goes i h e

fires_gone : (net : Net) (hosts : List HostRecord) (e : Event) (o : Option HostRecord) → slice_get hosts (home net e) ≡ o → nat_lt e.key.due.nanos net.stop.nanos ≡ true → HaveGoneOn net hosts (fires_at (model net) hosts e o).hosts
fires_gone net hosts e None there due = none_gone net hosts
fires_gone net hosts e (Some h) there due =
    subst (λ (f : Fired HostRecord Line). HaveGoneOn net hosts (with_host hosts (home net e) f).hosts) (sym (fires_so net h e due))
    (set_gone net hosts (home net e) h (fire net h e).host there (fires_lead net e h).1.1.1)

turn_gone : (net : Net) (w v : World) → next (model net) net.stop.nanos w ≡ Some v → HaveGoneOn net w.hosts v.hosts
turn_gone net w v k =
    let turn = turn_of net w v k in
    subst (λ (u : World). HaveGoneOn net w.hosts u.hosts) turn.is
    (fires_gone net w.hosts turn.event (slice_get w.hosts (home net turn.event)) refl turn.due)

run_gone : (net : Net) (v w : World) → IsReached net v w → HaveGoneOn net v.hosts w.hosts
run_gone net v w (begins u same) = subst (λ (x : World). HaveGoneOn net v.hosts x.hosts) same (none_gone net v.hosts)
run_gone net v w (turns u x reached k) = λ i h e.
    let first = run_gone net v u reached i h e in
    let second = turn_gone net u x k i first.0 first.1.0 in
    (second.0, (second.1.0, from_both net h first.0 second.0 first.1.1 second.1.1))

pub world_goes_on : (net : Net) (v w : World) (i : ℕ) (h : HostRecord) → IsReached net v w → slice_get v.hosts i ≡ Some h → (k : HostRecord) × ((slice_get w.hosts i ≡ Some k) × ((history : HostHistory) → HoldsOn net.known.book h.row.address history h.parts k.parts))
world_goes_on net v w i h reached e =
    let gone = run_gone net v w reached i h e in (gone.0, (gone.1.0, λ history. gone.1.1 h.row.address history))
