-- The first round of a run may be opened.
use Rattle.std.proofs.Common.{◌≡◌, ◌≤◌, List, Option, ◌∙◌, sym, ap, subst, arith}
use Rattle.sim_base.specs.declared.event.Event.{Event}
use Rattle.sim_base.specs.declared.time.Time.{Time}
use Rattle.host_state.specs.declared.host.Host.{Host}
use Rattle.host_link.specs.declared.line.Line.{Line}
use Rattle.host_link.specs.Net.{Net}
use Rattle.host_rows.specs.declared.row.Row.{Row}
use Rattle.host_state.specs.HostRecord.{HostRecord}
use Rattle.host_state.specs.World.{AreRows, opening_world}
use Rattle.round_lookahead.specs.OpeningWorld.{AreHostRows}
use Rattle.round_lookahead.specs.WorldStands.{IsBetweenRounds}
use Rattle.round_schedule.specs.Opening.{IsBetween, MayOpen, MayOpenOn}
use Rattle.round_schedule.specs.Reaching.{round_on}
use Rattle.round_schedule.specs.Standing.{HostsStand, RoundStands}
use Rattle.round_schedule.specs.declared.round.Round.{Round}
use Rattle.run_plan.specs.Plan.{nanos_of}
use Rattle.run_plan.specs.declared.planned.Run.{Run}
use Rattle.opened_run.specs.Opened.{Opens, HasOpened}
use Rattle.plan_rows.specs.Rows.{net_of, rows_of, cut_lookahead}
use Rattle.opened_run.specs.declared.opened.Opened.{Opened}
use Rattle.world_order.proofs.Members.{All_from_Each}
use Rattle.world_order.specs.Window.{window_end}
use Rattle.world_order.specs.World.{World}
use Rattle.world_order.specs.declared.round_window.Window.{Window}
use Rattle.schedule_tests.specs.inside.Played.{HasBegun, first_window, first_world}

-- what is told of worlds in which all hosts begin
abbrev pub OpenBetween : Type 0
OpenBetween = (net : Net) (rows : List Row) → AreHostRows net rows → IsBetweenRounds net (opening_world rows)

between : (net : Net) (w : World HostRecord Line) → IsBetweenRounds net w → IsBetween net w
between net w is = record { count = is.count; hosts = is.hosts; apart = is.apart; below = is.below; events = is.events; clock = is.clock }

host_rows : (net : Net) (rows : List Row) → AreRows net rows → AreHostRows net rows
host_rows net rows are = record { count = are.count; places = are.places; fit = are.fit }

-- on the opening world, with the window that begins at 0
may_open_on : OpenBetween → (opened : Opened) (window : Window) → HasOpened opened → window.from.nanos ≡ 0 → window.end.nanos ≡ window_end (nanos_of opened.lookahead) opened.net.stop.nanos 0
    → MayOpenOn opened.net window (opening_world opened.rows.items)
may_open_on openings opened window has from_is end_is = record {
  window = record {
    stop = has.rows.stop;
    lookahead = nanos_of opened.lookahead;
    routes = has.routes;
    short = has.short;
    end = end_is ∙ ap (window_end (nanos_of opened.lookahead) opened.net.stop.nanos) (sym from_is);
  };
  between = between opened.net (opening_world opened.rows.items) (openings opened.net opened.rows.items (host_rows opened.net opened.rows.items has.rows));
  due = All_from_Each (λ (e : Event). window.from.nanos ≤ e.key.due.nanos) (opening_world opened.rows.items).events (λ e h. omega (arith, from_is));
}

pub may_open : OpenBetween → (opened : Opened) (window : Window) (hosts : List Host) → HasOpened opened → HostsStand opened.net hosts (opening_world opened.rows.items) → window.from.nanos ≡ 0
    → window.end.nanos ≡ window_end (nanos_of opened.lookahead) opened.net.stop.nanos 0 → MayOpen opened.net window hosts
may_open openings opened window hosts has stand from_is end_is = record {
  world = opening_world opened.rows.items;
  stand = stand;
  may = may_open_on openings opened window has from_is end_is;
}

-- the same in the words of the run
in_run : (run : Run) (opened : Opened) (net : Net) (rows : List Row) (window : Window) (round : Round) → net ≡ net_of run → rows ≡ rows_of run → window ≡ first_window run → round.window ≡ window
    → MayOpenOn net window (opening_world rows) → RoundStands net (opening_world rows) round (round_on net window 2 (opening_world rows)) → HasBegun run round net
in_run run opened net rows window round net_is rows_are window_is same may stands = record {
  is_net = net_is;
  window = same ∙ window_is;
  may = subst (λ (n : Net). MayOpenOn n (first_window run) (first_world run)) net_is
      (subst (λ (v : Window). MayOpenOn net v (first_world run)) window_is (subst (λ (l : List Row). MayOpenOn net window (opening_world l)) rows_are may));
  stands = subst (λ (n : Net). RoundStands n (first_world run) round (round_on n (first_window run) 2 (first_world run))) net_is
      (subst (λ (v : Window). RoundStands net (first_world run) round (round_on net v 2 (first_world run))) window_is
      (subst (λ (l : List Row). RoundStands net (opening_world l) round (round_on net window 2 (opening_world l))) rows_are stands));
}

pub has_begun : OpenBetween → (run : Run) (opened : Opened) (window : Window) (hosts : List Host) (round : Round) → Opens run opened → HasOpened opened → HostsStand opened.net hosts (opening_world opened.rows.items)
    → window.from ≡ record { nanos = 0 } → window.end.nanos ≡ window_end (nanos_of opened.lookahead) opened.net.stop.nanos 0 → round.window ≡ window
    → ((w : World HostRecord Line) → HostsStand opened.net hosts w → RoundStands opened.net w round (round_on opened.net window 2 w)) → HasBegun run round opened.net
has_begun openings run opened window hosts round opens has stand from_is end_is same stands =
    in_run run opened opened.net opened.rows.items window round opens.net opens.rows
    (let there : window.end.nanos ≡ (first_window run).end.nanos = end_is ∙ ap (λ (o : Option Time). window_end (nanos_of o) opened.net.stop.nanos 0) opens.lookahead
    ∙ ap (λ (n : Net). window_end (nanos_of (cut_lookahead run.plan.lookahead)) n.stop.nanos 0) opens.net in
    window_of window (first_window run) from_is there)
    same (may_open_on openings opened window has (ap (λ (t : Time). t.nanos) from_is) end_is) (stands (opening_world opened.rows.items) stand)
  where
    window_of : (v u : Window) → v.from ≡ u.from → v.end.nanos ≡ u.end.nanos → v ≡ u
    window_of v u from_is end_is = λ i. record { from = from_is i; end = record { nanos = end_is i } }
