-- Each world that a run reaches has lines of packets that are not too large, at times before its stop.
use Rattle.std.proofs.Common.{◌≡◌, ℕ, ◌+◌, ◌≤◌, Bool, true, false, List, [], ◌∷◌, map, flat_map, Option, Some, None, nat_lt, slice_get, refl, sym, subst, arith}
use Rattle.std.specs.Prelude.{slice_set, if◌then◌else◌}
use Rattle.std.specs.List.{AllByRecursion}
use Rattle.std.proofs.lemmas.Bool.Decides.{nat_tests}
use Rattle.sim_base.specs.Units.{latest_time, max_u64}
use Rattle.sim_base.specs.declared.event.Event.{Event}
use Rattle.sim_base.specs.declared.event.What.{What}
use Rattle.sim_base.specs.declared.event.What.TheVariants as what
use Rattle.sim_base.specs.declared.key.Key.{Key}
use Rattle.sim_base.specs.declared.time.Time.{Time}
use Rattle.net_iface.specs.Lane.{AllFit}
use Rattle.run_streams.specs.Run.{IsReached}
use Rattle.run_streams.specs.Run.IsReached.{begins, turns}
use Rattle.host_link.specs.declared.line.Line.{Line}
use Rattle.host_link.specs.Net.{Net}
use Rattle.host_rows.specs.declared.row.ProcessRow.{ProcessRow}
use Rattle.host_rows.specs.declared.row.Row.{Row}
use Rattle.host_state.specs.Fire.{fire}
use Rattle.host_state.specs.Fits.{model}
use Rattle.host_link.specs.Home.{home}
use Rattle.host_state.specs.HostRecord.{HostRecord}
use Rattle.host_link.specs.Link.{LinkState, event_of, numbers, new_link}
use Rattle.host_link.specs.Logs.{lines_of}
use Rattle.host_link.specs.Beginning.{begins_shutdown, begins_process, begins_all}
use Rattle.host_state.specs.Opening.{host_begins, opening}
use Rattle.host_state.specs.World.{World, IsResult, opening_world}
use Rattle.host_state.proofs.Growth.{by_if}
use Rattle.world_order.specs.EventOrder.{is_before, taken_with, take_least}
use Rattle.world_order.specs.Model.{Fired, fires, fires_at}
use Rattle.world_order.specs.World.{Logged, logged, after_firing, by_least, next}
use Rattle.world_order.specs.World as order
use Rattle.capture_laws.specs.ReadAgain.{IsInRange, AllInRange}
use Rattle.run_fits.proofs.Bytes.{all_append, all_get, all_set}
use Rattle.capture_laws.proofs.Keeping.{FitsLoop, IsSmallLoop, IsAt}
use Rattle.capture_laws.proofs.Acting.{IsIdle, has_kept, fired_idle}

-- the least event is taken out
abbrev Taken : Event × List Event → Type 0
Taken t = IsSmallLoop t.0 × AllByRecursion IsSmallLoop t.1

taken_so : (e : Event) (es : List Event) (found : Option (Event × List Event)) → IsSmallLoop e → AllByRecursion IsSmallLoop es
    → ((t : Event × List Event) → found ≡ Some t → Taken t) → Taken (taken_with e es found)
taken_so e es None here each behind = (here, each)
taken_so e es (Some (f, rest)) here each behind =
    let t = behind (f, rest) refl in
    by_if Taken (is_before f e) (f, e ∷ rest) (e, es) (λ b. (t.0, (here, t.1))) (λ b. (here, each))

all_taken : (events : List Event) (t : Event × List Event) → AllByRecursion IsSmallLoop events → take_least events ≡ Some t → Taken t
all_taken [] t h is = absurd (cc)
all_taken (e ∷ es) t h is =
    let same : taken_with e es (take_least es) ≡ t = cc in
    subst Taken same (taken_so e es (take_least es) h.0 h.1 (λ u found. all_taken es u h.1 found))

-- ---- worlds

pub record IsSmallWorld (w : World) : Type 0 where
  pub hosts : AllByRecursion IsIdle w.hosts
  pub events : AllByRecursion IsSmallLoop w.events
  pub log : AllByRecursion (λ (l : Logged Line). IsInRange l.line) w.log

logged_range : (key : Key) (now : Time) (lines : List Line) → now.nanos ≤ latest_time → AllByRecursion (IsAt now) lines → AllByRecursion (λ (l : Logged Line). IsInRange l.line) (logged key lines)
logged_range key now [] early h = tt
logged_range key now (l ∷ ls) early h =
    (record { time = subst (λ (t : Time). t.nanos ≤ latest_time) (sym h.0.time) early; size = h.0.size }, logged_range key now ls early h.1)

fires_early : (net : Net) (h : HostRecord) (e : Event) (b : Bool) → b ≡ true → (if b then fire net h e else record { host = h; made = []; lines = [] }) ≡ fire net h e
fires_early net h e true is = refl
fires_early net h e false is = absurd (cc)

module _ (net : Net) (late : net.stop.nanos ≤ latest_time) (w : World) (e : Event) (rest : List Event) (small : IsSmallWorld w) (here : IsSmallLoop e) (each : AllByRecursion IsSmallLoop rest) where
  soon : nat_lt e.key.due.nanos net.stop.nanos ≡ true → e.key.due.nanos ≤ latest_time
  soon early = grind (arith, nat_tests, early, late)

  fired_small : nat_lt e.key.due.nanos net.stop.nanos ≡ true → (found : Option HostRecord) → slice_get w.hosts (home net e) ≡ found → IsSmallWorld (after_firing w e rest (fires_at (model net) w.hosts e found))
  fired_small early None is = record { hosts = small.hosts; events = all_append IsSmallLoop rest [] each tt; log = all_append (λ (l : Logged Line). IsInRange l.line) w.log [] small.log tt }
  fired_small early (Some h) is =
      let idle : IsIdle h = all_get IsIdle w.hosts (home net e) h small.hosts is in
      let k = has_kept net e h here idle in
      subst (λ (f : Fired HostRecord Line). IsSmallWorld (after_firing w e rest (record { hosts = slice_set w.hosts (home net e) f.host; made = f.made; lines = f.lines })))
      (sym (fires_early net h e (nat_lt e.key.due.nanos net.stop.nanos) early))
      (record {
        hosts = all_set IsIdle w.hosts (home net e) (fire net h e).host small.hosts (fired_idle net e h here idle);
        events = all_append IsSmallLoop rest (fire net h e).made each k.made;
        log = all_append (λ (l : Logged Line). IsInRange l.line) w.log _ small.log (logged_range e.key e.key.due (fire net h e).lines (soon early) k.lines);
      })

  -- the event fires, where it is due before the stop
  turned_small : (v : World) (b : Bool) → nat_lt e.key.due.nanos net.stop.nanos ≡ b
      → (if b then Some (after_firing w e rest (fires (model net) w.hosts e)) else None) ≡ Some v → IsSmallWorld v
  turned_small v true is leads =
      let same : after_firing w e rest (fires (model net) w.hosts e) ≡ v = cc in
      subst IsSmallWorld same (fired_small is (slice_get w.hosts (home net e)) refl)
  turned_small v false is leads = absurd (cc)

module _ (net : Net) (late : net.stop.nanos ≤ latest_time) where
  least_small : (w v : World) (found : Option (Event × List Event)) → take_least w.events ≡ found → IsSmallWorld w → by_least (model net) net.stop.nanos w found ≡ Some v → IsSmallWorld v
  least_small w v None is small leads = absurd (cc)
  least_small w v (Some (e, rest)) is small leads =
      let t = all_taken w.events (e, rest) small.events is in
      turned_small net late w e rest small t.0 t.1 v (nat_lt e.key.due.nanos net.stop.nanos) refl leads

  next_small : (w v : World) → IsSmallWorld w → next (model net) net.stop.nanos w ≡ Some v → IsSmallWorld v
  unfolding next
  next_small w v small leads = least_small w v (take_least w.events) refl small leads

  result_small : (result w : World) → IsSmallWorld w → IsResult net result w → IsSmallWorld result
  result_small result w small (order.is_over u over same) = subst IsSmallWorld same small
  result_small result w small (order.goes_on u v leads is) = result_small result v (next_small u v small leads) is

-- ---- the opening world

record Opens (l : LinkState) : Type 0 where
  up : AllFit l.up.waiting
  down : AllFit l.down.waiting
  made : AllByRecursion IsSmallLoop l.made
  lines : l.lines ≡ []

numbers_open : (l : LinkState) (due : Time) (w : What) → FitsLoop w → Opens l → Opens (numbers due w l)
unfolding numbers
numbers_open l due w fits k =
    by_if Opens (nat_lt l.next max_u64) _ _
    (λ e. record { up = k.up; down = k.down; made = all_append IsSmallLoop l.made (event_of l due w ∷ []) k.made (fits, tt); lines = k.lines })
    (λ e. k)

shutdown_opens : (p : ℕ) (due : Option Time) (l : LinkState) → Opens l → Opens (begins_shutdown p due l)
shutdown_opens p None l k = k
shutdown_opens p (Some due) l k = numbers_open l due (what.Shutdown p) tt k

all_open : (p : ℕ) (rows : List ProcessRow) (l : LinkState) → Opens l → Opens (begins_all p rows l)
unfolding begins_all
all_open p [] l k = k
all_open p (row ∷ rows) l k =
    all_open (p + 1) rows (begins_process p row l) (shutdown_opens p row.shutdown (numbers row.start (what.Start p) l) (numbers_open l row.start (what.Start p) tt k))

row_opens : (row : Row) → Opens (host_begins row).link
row_opens row = all_open 0 row.processes (new_link row) (record { up = tt; down = tt; made = tt; lines = refl })

hosts_idle : (rows : List Row) → AllByRecursion IsIdle (map (λ (row : Row). (opening row).host) rows)
hosts_idle [] = tt
hosts_idle (row ∷ rows) =
    let k = row_opens row in
    (record { up = k.up; down = k.down; made = refl; lines = refl }, hosts_idle rows)

events_small : (rows : List Row) → AllByRecursion IsSmallLoop (flat_map (λ (row : Row). (opening row).made) rows)
events_small [] = tt
events_small (row ∷ rows) = all_append IsSmallLoop (opening row).made _ (row_opens row).made (events_small rows)

pub opening_small : (rows : List Row) → IsSmallWorld (opening_world rows)
opening_small rows = record { hosts = hosts_idle rows; events = events_small rows; log = tt }

-- ---- the lines of a world that is reached, and of a result

lines_in_range : (log : List (Logged Line)) → AllByRecursion (λ (l : Logged Line). IsInRange l.line) log → AllInRange (lines_of log)
lines_in_range [] h = tt
lines_in_range (l ∷ ls) h = (h.0, lines_in_range ls h.1)

pub in_range : (net : Net) (rows : List Row) (result : World) → net.stop.nanos ≤ latest_time → IsResult net result (opening_world rows) → AllInRange (lines_of result.log)
in_range net rows result late is = lines_in_range result.log (result_small net late result (opening_world rows) (opening_small rows) is).log

reached_small : (net : Net) (rows : List Row) (w : World) → net.stop.nanos ≤ latest_time → IsReached net (opening_world rows) w → IsSmallWorld w
reached_small net rows w late (begins v same) = subst IsSmallWorld same (opening_small rows)
reached_small net rows w late (turns u v reached leads) = next_small net late u v (reached_small net rows u late reached) leads

pub reached_in_range : (net : Net) (rows : List Row) (w : World) → net.stop.nanos ≤ latest_time → IsReached net (opening_world rows) w → AllInRange (lines_of w.log)
reached_in_range net rows w late reached = lines_in_range w.log (reached_small net rows w late reached).log
