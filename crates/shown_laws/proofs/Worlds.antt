-- Each run has a result.
use Rattle.std.proofs.Common.{◌≡◌, ◌≢◌, ℕ, zero, suc, ◌+◌, ◌≤◌, List, [], ◌∷◌, length, All, Option, Some, None, slice_get, refl, sym, ap, subst, ◌∙◌, arith}
use Rattle.std.proofs.lemmas.List.{length-map}
use Rattle.std.proofs.lemmas.List.Elements.{All-head, All-tail}
use Rattle.std.proofs.lemmas.Option.{slice_get_within}
use Rattle.sim_base.specs.Units.{latest_time}
use Rattle.sim_base.specs.declared.time.Time.{Time}
use Rattle.host_link.specs.Net.{Net}
use Rattle.host_link.proofs.RoutesFound.{IsRouteOf, route_found, are_two, takes_least}
use Rattle.host_rows.specs.declared.row.Row.{Row}
use Rattle.host_state.specs.Fits.{IsLatency, IsLookaheadOf, IsShort}
use Rattle.host_state.specs.World.{World, IsResult, opening_world}
use Rattle.host_state.proofs.Simulations.{simulation}
use Rattle.net_routes.specs.Least.{IsLookahead}
use Rattle.net_routes.specs.RouteMap.{RouteMap}
use Rattle.round_lookahead.specs.OpeningWorld.{AreHostRows}
use Rattle.round_lookahead.proofs.WorldOpenings.{opened_between}
use Rattle.run_plan.specs.Limits.{KeepsToLimits}
use Rattle.run_plan.specs.Plan.{nanos_of, nodes_of}
use Rattle.run_plan.specs.declared.host_row.HostRow.{HostRow}
use Rattle.run_plan.specs.declared.plan.Settings.{Settings}
use Rattle.run_plan.specs.declared.planned.Run.{Run}
use Rattle.shadow_top.specs.Input.{Input, IsToRun}
use Rattle.shadow_top.specs.Shown.{IsRunTo}
use Rattle.shd_config.specs.declared.config.ProcessConfig.{ProcessConfig}
use Rattle.plan_rows.specs.Rows.{processes_of, row_of, rows_from, rows_of, net_of, cut_lookahead}
use Rattle.world_order.specs.Settled.{IsSettled}
use Rattle.world_order.proofs.Results.{at_least_one}
use Rattle.shown_laws.proofs.Plans.{IsBounded, is_bounded}

-- ---- the rows of a net have a result

module _ (net : Net) (rows : List Row) (are : AreHostRows net rows) (lookahead : Option ℕ) (routes : IsLookaheadOf net lookahead) (short : IsShort lookahead) (early : net.stop.nanos ≤ latest_time) where
  opening_settled : IsSettled (simulation net lookahead routes short early) (opening_world rows)
  opening_settled =
      let b = opened_between net rows are in
      record { count = b.count; apart = b.apart; below = b.below; events = b.events; hosts = b.hosts; limited = λ i h at. (b.hosts i h at).limited; clock = b.clock }

  -- the hosts of a net, each as its row opens it, come to a world in which no event is due before the stop
  pub rows_result : (world : World) × IsResult net world (opening_world rows)
  rows_result = at_least_one (simulation net lookahead routes short early) net.stop.nanos (opening_world rows) opening_settled

-- ---- the rows of a plan

length_rows : (s : Settings) (n : ℕ) (hs : List HostRow) → length (rows_from s n hs) ≡ length hs
length_rows s n [] = refl
length_rows s n (h ∷ hs) = ap suc (length_rows s (n + 1) hs)

-- a host has no more processes than its configuration
few_processes : (cs : List ProcessConfig) (images : List ℕ) → length (processes_of cs images) ≤ length cs
few_processes [] images = omega arith
few_processes (c ∷ cs) [] = omega arith
few_processes (c ∷ cs) (image ∷ images) = let rest = few_processes cs images in omega (arith, rest)

-- the row of the host of that number, with few processes
record IsRowAt (number : ℕ) (row : Row) : Type 0 where
  number_is : row.host.index ≡ number
  few : length row.processes ≤ 64

abbrev HasFew : HostRow → Type 0
HasFew h = length h.config.processes ≤ 64

row_is : (s : Settings) (number : ℕ) (h : HostRow) → HasFew h → IsRowAt number (row_of s number h)
row_is s number h few = let bound = few_processes h.config.processes h.images in record { number_is = refl; few = omega (arith, bound, few) }

rows_at : (s : Settings) (n : ℕ) (hs : List HostRow) → All HasFew hs → (i : ℕ) (row : Row) → slice_get (rows_from s n hs) i ≡ Some row → IsRowAt (n + i) row
rows_at s n [] few i row at = absurd (cc)
rows_at s n (h ∷ hs) few zero row at =
    let is : row_of s n h ≡ row = cc in
    let place : n ≡ n + zero = omega arith in
    subst (λ (k : ℕ). IsRowAt k row) place (subst (IsRowAt n) is (row_is s n h (All-head HasFew h hs few)))
rows_at s n (h ∷ hs) few (suc i) row at =
    let there = rows_at s (n + 1) hs (All-tail HasFew h hs few) i row at in
    let place : (n + 1) + i ≡ n + suc i = omega arith in
    subst (λ (k : ℕ). IsRowAt k row) place there

rows_fit : (run : Run) → KeepsToLimits run.plan → AreHostRows (net_of run) (rows_of run)
rows_fit run within =
    let hs : List HostRow = run.plan.rows in
    let count : length (rows_of run) ≡ length (net_of run).known.book = length_rows run.plan.settings 0 hs ∙ sym (length-map hs (λ (h : HostRow). h.address)) in
    let at : (i : ℕ) (row : Row) → slice_get (rows_of run) i ≡ Some row → IsRowAt i row =
    λ i row is. subst (λ (k : ℕ). IsRowAt k row) (let e : 0 + i ≡ i = omega arith in e) (rows_at run.plan.settings 0 hs within.processes i row is) in
    record {
      count = count;
      places = λ i row is. (at i row is).number_is;
      fit = λ i row is. record {
        within = (let here = slice_get_within (rows_of run) i row is in let number = (at i row is).number_is in omega (arith, here, count, number));
        few = (at i row is).few;
      };
    }

-- ---- its lookahead

-- with two hosts there is a lookahead, and no route between them takes less
latency_is : (nodes : List ℕ) (routes : RouteMap) (lookahead : Option Time) (i j : ℕ) (latency : Time) (reliability : ℕ) → IsLookahead nodes routes (nanos_of lookahead) → i ≢ j
    → IsRouteOf nodes routes i j (latency, reliability) → IsLatency (nanos_of (cut_lookahead lookahead)) latency.nanos
latency_is nodes routes None i j latency reliability few others route = are_two nodes routes i j (latency, reliability) few others route
latency_is nodes routes (Some time) i j latency reliability least others route =
    let bound = takes_least nodes routes time.nanos i j latency reliability least others route in omega (arith, bound)

routes_fit : (run : Run) → IsLookahead (nodes_of run.plan.rows) run.plan.routes (nanos_of run.plan.lookahead) → IsLookaheadOf (net_of run) (nanos_of (cut_lookahead run.plan.lookahead))
routes_fit run least i j latency reliability others is =
    latency_is (nodes_of run.plan.rows) run.plan.routes run.plan.lookahead i j latency reliability least others (route_found (net_of run) i j (latency, reliability) is)

is_short : (lookahead : Option Time) → IsShort (nanos_of (cut_lookahead lookahead))
is_short None = tt
is_short (Some time) = omega arith

-- ---- a run

run_result : (run : Run) → IsBounded run.plan → (world : World) × IsRunTo run world
run_result run bounded =
    let lookahead = run.plan.lookahead in
    rows_result (net_of run) (rows_of run) (rows_fit run bounded.limits) (nanos_of (cut_lookahead lookahead)) (routes_fit run bounded.lookahead) (is_short lookahead) bounded.limits.stop.1

-- each run that is asked for has a result
pub some_result : (i : Input) (run : Run) → IsToRun i run → (world : World) × IsRunTo run world
some_result i run is = run_result run (is_bounded i.words i.held run is.asked)
