-- in each world that a run reaches hosts and events fit, and lines are of whole packets
use Rattle.std.proofs.Common.{IfSome, IsPermutation, List, None, Option, Some, [], flat_map, length, map, nat_lt, replicate, slice_get, subst, suc, sym, true, zero, ℕ, ◌+◌, ◌∷◌, ◌≡◌}
use Rattle.std.specs.List.{AllByRecursion}
use Rattle.host_state.specs.Fire.{fire}
use Rattle.host_state.specs.Fits.{model}
use Rattle.host_link.specs.Home.{home}
use Rattle.host_state.specs.HostRecord.{HostRecord}
use Rattle.run_files.specs.LinesFit.{AllFit}
use Rattle.host_link.specs.Link.{LinkState, new_link, numbers}
use Rattle.host_link.specs.Logs.{lines_of}
use Rattle.host_link.specs.Beginning.{begins_all, begins_process, begins_shutdown}
use Rattle.host_state.specs.Opening.{host_begins, opening}
use Rattle.host_state.specs.World.{World, opening_world}
use Rattle.host_link.specs.declared.line.Line.{Line}
use Rattle.host_link.specs.Net.{Net}
use Rattle.host_rows.specs.declared.row.ProcessRow.{ProcessRow}
use Rattle.host_rows.specs.declared.row.Row.{Row}
use Rattle.run_fits.proofs.Bytes.{all_flat_map, all_set, got, all_append}
use Rattle.run_fits.proofs.Links.{LineFits, LinkFits, numbers_fit, EventFits}
use Rattle.run_fits.proofs.Walk.{HostFits, acted_fits}
use Rattle.run_fits.specs.Given.{AllWhole, NetHasBytes, RowFits, RowsFit}
use Rattle.run_fits.specs.Parts.{TaskFits}
use Rattle.sim_base.specs.declared.event.Event.{Event}
use Rattle.sim_base.specs.declared.key.Key.{Key}
use Rattle.sim_base.specs.declared.time.Time.{Time}
use Rattle.world_order.specs.Model.{Fired, Firing, fires, fires_at, with_host}
use Rattle.world_order.specs.World.{Logged, after_firing, logged, next}
use Rattle.sim_base.specs.declared.event.What.TheVariants as what
use Rattle.run_streams.specs.Run.{IsReached}
use Rattle.run_streams.specs.Run.IsReached.{begins, turns}
use Rattle.run_streams.proofs.Firing.{fires_so}
use Rattle.run_streams.proofs.Worlds.{turn_of}
use Rattle.std.proofs.lemmas.List.Elements.{All-from_recursion, recursion_from_All, All-head, All-tail}
use Rattle.std.proofs.lemmas.List.Sorted.{All-permutation}

pub record WorldFits (w : World) : Type 0 where
  pub hosts : AllByRecursion HostFits w.hosts
  pub events : AllByRecursion EventFits w.events
  pub log : AllByRecursion (λ (l : Logged Line). LineFits l.line) w.log

logged_fit : (key : Key) (lines : List Line) → AllByRecursion LineFits lines → AllByRecursion (λ (l : Logged Line). LineFits l.line) (logged key lines)
logged_fit key [] h = tt
logged_fit key (l ∷ lines) h = (h.0, logged_fit key lines h.1)

-- what a firing leaves
abbrev FiringFits : Firing HostRecord Line → Type 0
FiringFits f = AllByRecursion HostFits f.hosts × AllByRecursion EventFits f.made × AllByRecursion LineFits f.lines

module _ (net : Net) (lent : NetHasBytes net) where
  fires_fit : (hosts : List HostRecord) (e : Event) (found : Option HostRecord) → nat_lt e.key.due.nanos net.stop.nanos ≡ true → EventFits e → IfSome found HostFits → AllByRecursion HostFits hosts → FiringFits (fires_at (model net) hosts e found)
  fires_fit hosts e None due fits there all = (all, tt, tt)
  fires_fit hosts e (Some h) due fits there all =
      let a = acted_fits net lent e h fits there in
      let left : HostFits (fire net h e).host =
      ((a.0.0, a.0.1, tt, tt), record { tasks = a.1.tasks; files = a.1.files; wants = a.1.wants; sockets = a.1.sockets }, a.2) in
      subst (λ (f : Fired HostRecord Line). FiringFits (with_host hosts (home net e) f)) (sym (fires_so net h e due))
      (all_set HostFits hosts (home net e) (fire net h e).host all left, a.0.2, a.0.3)

  after_fits : (w : World) (e : Event) (rest : List Event) → nat_lt e.key.due.nanos net.stop.nanos ≡ true → IsPermutation w.events (e ∷ rest) → WorldFits w → WorldFits (after_firing w e rest (fires (model net) w.hosts e))
  after_fits w e rest due taken fits =
      let events = All-permutation EventFits w.events (e ∷ rest) taken (All-from_recursion EventFits w.events fits.events) in
      let here = All-head EventFits e rest events in
      let others = recursion_from_All EventFits rest (All-tail EventFits e rest events) in
      let number = home net e in
      let f = fires_fit w.hosts e (slice_get w.hosts number) due here (got HostFits w.hosts number fits.hosts) fits.hosts in
      let after : Firing HostRecord Line = fires (model net) w.hosts e in
      record {
        hosts = f.0;
        events = all_append EventFits rest after.made others f.1;
        log = all_append (λ (l : Logged Line). LineFits l.line) w.log (logged e.key after.lines) fits.log (logged_fit e.key after.lines f.2);
      }

  turn_fits : (w v : World) → next (model net) net.stop.nanos w ≡ Some v → WorldFits w → WorldFits v
  turn_fits w v k fits =
      let turn = turn_of net w v k in subst WorldFits turn.is (after_fits w turn.event turn.rest turn.due turn.taken fits)

-- ---- the opening world

shutdown_fits : (p : ℕ) (due : Option Time) (l : LinkState) → LinkFits l → LinkFits (begins_shutdown p due l)
shutdown_fits p None l h = h
shutdown_fits p (Some due) l h = numbers_fit l due (what.Shutdown p) tt h

begins_fit : (p : ℕ) (processes : List ProcessRow) (l : LinkState) → LinkFits l → LinkFits (begins_all p processes l)
unfolding begins_all
begins_fit p [] l h = h
begins_fit p (process ∷ processes) l h =
    begins_fit (p + 1) processes (begins_process p process l)
    (shutdown_fits p process.shutdown (numbers process.start (what.Start p) l) (numbers_fit l process.start (what.Start p) tt h))

nobody_fits : (count : ℕ) → AllByRecursion TaskFits (replicate count None)
nobody_fits zero = tt
nobody_fits (suc count) = (tt, nobody_fits count)

link_opens : (row : Row) → LinkFits (host_begins row).link
link_opens row = begins_fit 0 row.processes (new_link row) (tt, tt, tt, tt)

host_opens : (row : Row) → RowFits row → HostFits (opening row).host
host_opens row fits =
    let link = link_opens row in
    ((link.0, link.1, tt, tt), record { tasks = nobody_fits (length row.processes); files = tt; wants = tt; sockets = (fits.0, tt, tt) }, fits)

hosts_open : (rows : List Row) → RowsFit rows → AllByRecursion HostFits (map (λ (row : Row). (opening row).host) rows)
hosts_open [] h = tt
hosts_open (row ∷ rows) h = (host_opens row h.0, hosts_open rows h.1)

events_open : (rows : List Row) → AllByRecursion EventFits (flat_map (λ (row : Row). (opening row).made) rows)
events_open rows = all_flat_map EventFits (λ (row : Row). (opening row).made) rows (λ row. (link_opens row).2)

opening_fits : (rows : List Row) → RowsFit rows → WorldFits (opening_world rows)
opening_fits rows h = record { hosts = hosts_open rows h; events = events_open rows; log = tt }

-- ---- each world that is reached

reached_fits : (net : Net) (rows : List Row) (w : World) → NetHasBytes net → RowsFit rows → IsReached net (opening_world rows) w → WorldFits w
reached_fits net rows w lent fits (begins v same) = subst WorldFits same (opening_fits rows fits)
reached_fits net rows w lent fits (turns u v reached k) = turn_fits net lent u v k (reached_fits net rows u lent fits reached)

lines_whole : (log : List (Logged Line)) → AllByRecursion (λ (l : Logged Line). LineFits l.line) log → AllWhole (lines_of log)
lines_whole [] h = tt
lines_whole (l ∷ log) h = (h.0, lines_whole log h.1)

pub log_whole : (net : Net) (rows : List Row) (w : World) → NetHasBytes net → RowsFit rows → IsReached net (opening_world rows) w → AllWhole (lines_of w.log)
log_whole net rows w lent fits reached = lines_whole w.log (reached_fits net rows w lent fits reached).log

pub whole_fit : (lines : List Line) → AllWhole lines → AllFit lines
whole_fit [] h = tt
whole_fit (l ∷ lines) h = (h.0.fits, whole_fit lines h.1)
