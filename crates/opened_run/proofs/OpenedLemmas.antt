-- The rows of a run are those of its net, which can be run by rounds.
use Rattle.std.proofs.Common.{◌≡◌, ◌≢◌, ℕ, zero, suc, ◌+◌, ◌<◌, ◌≤◌, List, [], ◌∷◌, length, map, All, Option, Some, None, option_map, IfSome, slice_get, refl, sym, ap, subst, ◌∙◌, arith}
use Rattle.std.proofs.lemmas.List.Elements.{All-head, All-tail}
use Rattle.host_link.specs.Net.{Net}
use Rattle.host_rows.specs.declared.row.Row.{Row}
use Rattle.host_state.specs.Fits.{IsLatency, IsLookaheadOf, IsShort}
use Rattle.host_state.specs.World.{AreRows}
use Rattle.net_routes.specs.declared.cost.Cost.{Cost}
use Rattle.net_routes.specs.RouteMap.{RouteMap}
use Rattle.net_routes.specs.Least.{IsLookahead}
use Rattle.net_routes.specs.Routes.{route_in}
use Rattle.run_plan.specs.Limits.{KeepsToLimits}
use Rattle.run_plan.specs.Names.{AreApart, AreRowsApart}
use Rattle.run_plan.specs.Plan.{nanos_of, nodes_of}
use Rattle.run_plan.specs.Routed.{TakeTime, IsRouted}
use Rattle.run_plan.specs.declared.host_row.HostRow.{HostRow}
use Rattle.run_plan.specs.declared.plan.Settings.{Settings}
use Rattle.run_plan.specs.declared.planned.Run.{Run}
use Rattle.sim_base.specs.declared.time.Time.{Time}
use Rattle.shd_config.specs.declared.config.ProcessConfig.{ProcessConfig}
use Rattle.plan_rows.specs.Rows.{processes_of, row_of, rows_from, rows_of, net_of, cut_lookahead}
use Rattle.opened_run.specs.Opened.{Opens, HasOpened}
use Rattle.opened_run.specs.declared.opened.Opened.{Opened}
use Rattle.std.proofs.lemmas.Option.{slice_get_within}
use Rattle.host_link.proofs.RoutesFound.{IsRouteOf, route_found, are_two, takes_least}

length-map : {A B : Type 0} (f : A → B) (xs : List A) → length (map f xs) ≡ length xs
length-map f [] = refl
length-map f (x ∷ xs) = ap suc (length-map f xs)

length-rows : (s : Settings) (n : ℕ) (hs : List HostRow) → length (rows_from s n hs) ≡ length hs
length-rows s n [] = refl
length-rows s n (h ∷ hs) = ap suc (length-rows s (n + 1) hs)

-- a host has no more processes than its configuration
few_processes : (cs : List ProcessConfig) (images : List ℕ) → length (processes_of cs images) ≤ length cs
few_processes [] images = omega arith
few_processes (c ∷ cs) [] = omega arith
few_processes (c ∷ cs) (image ∷ images) = let rest = few_processes cs images in omega (arith, rest)

-- what is known of the row of a host
record IsRowAt (number : ℕ) (row : Row) : Type 0 where
  number_is : row.host.index ≡ number
  few : length row.processes ≤ 64

row_is : (s : Settings) (number : ℕ) (h : HostRow) → length h.config.processes ≤ 64 → IsRowAt number (row_of s number h)
row_is s number h few = let bound = few_processes h.config.processes h.images in record { number_is = refl; few = omega (arith, bound, few) }

rows_at : (s : Settings) (n : ℕ) (hs : List HostRow) → All (λ (h : HostRow). length h.config.processes ≤ 64) hs → (i : ℕ) (row : Row) → slice_get (rows_from s n hs) i ≡ Some row → IsRowAt (n + i) row
rows_at s n [] few i row at = absurd (cc)
rows_at s n (h ∷ hs) few zero row at =
    let is : row_of s n h ≡ row = cc in
    let place : n ≡ n + zero = omega arith in
    subst (λ (k : ℕ). IsRowAt k row) place (subst (IsRowAt n) is (row_is s n h (All-head (λ (x : HostRow). length x.config.processes ≤ 64) h hs few)))
rows_at s n (h ∷ hs) few (suc i) row at =
    let there = rows_at s (n + 1) hs (All-tail (λ (x : HostRow). length x.config.processes ≤ 64) h hs few) i row at in
    let place : (n + 1) + i ≡ n + suc i = omega arith in
    subst (λ (k : ℕ). IsRowAt k row) place there

-- each host has a name in the book
length_book : (run : Run) → length (net_of run).known.book ≡ length run.plan.rows
length_book run = length-map (λ (h : HostRow). h.address) run.plan.rows

rows_fit : (run : Run) → KeepsToLimits run.plan → AreRows (net_of run) (rows_of run)
rows_fit run within =
    let hs : List HostRow = run.plan.rows in
    let count : length (rows_of run) ≡ length (net_of run).known.book = length-rows run.plan.settings 0 hs ∙ sym (length_book run) in
    let at : (i : ℕ) (row : Row) → slice_get (rows_of run) i ≡ Some row → IsRowAt i row = λ i row is. subst (λ (k : ℕ). IsRowAt k row) (let e : 0 + i ≡ i = omega arith in e) (rows_at run.plan.settings 0 hs within.processes i row is) in
    record {
      count = count;
      places = λ i row is. (at i row is).number_is;
      fit = λ i row is. record {
        within = (let here = slice_get_within (rows_of run) i row is in let number = (at i row is).number_is in omega (arith, here, count, number));
        few = (at i row is).few;
      };
      stop = (let early = within.stop.1 in omega (arith, early));
    }

-- ---- rounds

-- with two hosts there is a lookahead, and no route between them takes less
latency_is : (nodes : List ℕ) (routes : RouteMap) (lookahead : Option Time) (i j : ℕ) (latency : Time) (reliability : ℕ) → IsLookahead nodes routes (nanos_of lookahead) → i ≢ j
    → IsRouteOf nodes routes i j (latency, reliability) → IsLatency (nanos_of (cut_lookahead lookahead)) latency.nanos
latency_is nodes routes None i j latency reliability few others route = are_two nodes routes i j (latency, reliability) few others route
latency_is nodes routes (Some time) i j latency reliability least others route =
    let bound = takes_least nodes routes time.nanos i j latency reliability least others route in
    omega (arith, bound)

abbrev IsAhead : Option Time → Type 0
IsAhead lookahead = IfSome lookahead (λ (time : Time). 0 < time.nanos)

-- the least latency is that of a route, which takes time
some_latency : (P : ℕ → Type 0) (o : Option Cost) (t : ℕ) → option_map (λ (c : Cost). c.latency) o ≡ Some t → ((c : Cost) → o ≡ Some c → P c.latency) → P t
some_latency P None t is each = absurd (cc)
some_latency P (Some c) t is each = subst P (let e : Some c.latency ≡ Some t = is in cc) (each c refl)

is_ahead : (nodes : List ℕ) (routes : RouteMap) (lookahead : Option Time) → IsLookahead nodes routes (nanos_of lookahead) → TakeTime nodes routes → IsAhead (cut_lookahead lookahead)
is_ahead nodes routes None few later = tt
is_ahead nodes routes (Some time) least later =
    let some : 0 < time.nanos = some_latency (λ (t : ℕ). 0 < t) (route_in routes least.from least.to) time.nanos least.is (λ c is. later least.from least.to c least.needed is) in
    omega (arith, some)

is_short : (lookahead : Option Time) → IsShort (nanos_of (cut_lookahead lookahead))
is_short None = tt
is_short (Some time) = omega arith

routes_fit : (run : Run) → IsRouted run.plan → IsLookaheadOf (net_of run) (nanos_of (cut_lookahead run.plan.lookahead))
routes_fit run routed i j latency reliability others is =
    latency_is (nodes_of run.plan.rows) run.plan.routes run.plan.lookahead i j latency reliability routed.lookahead others (route_found (net_of run) i j (latency, reliability) is)

-- ---- names

names_from : (s : Settings) (n : ℕ) (hs : List HostRow) → map (λ (row : Row). row.name) (rows_from s n hs) ≡ map (λ (h : HostRow). h.config.name) hs
names_from s n [] = refl
names_from s n (h ∷ hs) = ap (λ (names : List (List ℕ)). h.config.name ∷ names) (names_from s (n + 1) hs)

-- no two rows have one name
names_fit : (run : Run) → AreRowsApart run.plan → AreApart (map (λ (row : Row). row.name) (rows_of run))
names_fit run apart = subst AreApart (sym (names_from run.plan.settings 0 run.plan.rows)) apart

-- ---- the whole

-- what was opened of it
module _ (run : Run) (opened : Opened) (opens : Opens run opened) where
  rows_opened : AreRows (net_of run) (rows_of run) → AreRows opened.net opened.rows.items
  rows_opened are = subst (λ (net : Net). AreRows net opened.rows.items) (sym opens.net) (subst (AreRows (net_of run)) (sym opens.rows) are)

  routes_opened : IsLookaheadOf (net_of run) (nanos_of (cut_lookahead run.plan.lookahead)) → IsLookaheadOf opened.net (nanos_of opened.lookahead)
  routes_opened is = subst (λ (net : Net). IsLookaheadOf net (nanos_of opened.lookahead)) (sym opens.net)
      (subst (λ (l : Option Time). IsLookaheadOf (net_of run) (nanos_of l)) (sym opens.lookahead) is)

  book_opened : length opened.net.known.book ≡ length run.plan.rows
  book_opened = ap (λ (net : Net). length net.known.book) opens.net ∙ length_book run

pub opened_fits : (run : Run) (opened : Opened) → KeepsToLimits run.plan → IsRouted run.plan → AreRowsApart run.plan → Opens run opened → HasOpened opened
opened_fits run opened within routed apart opens = record {
  rows = rows_opened run opened opens (rows_fit run within);
  some = (let book = book_opened run opened opens in let some = within.some in omega (arith, book, some));
  few = (let book = book_opened run opened opens in let few = within.few in omega (arith, book, few));
  routes = routes_opened run opened opens (routes_fit run routed);
  ahead = subst IsAhead (sym opens.lookahead) (is_ahead (nodes_of run.plan.rows) run.plan.routes run.plan.lookahead routed.lookahead routed.later);
  short = subst (λ (l : Option Time). IsShort (nanos_of l)) (sym opens.lookahead) (is_short run.plan.lookahead);
  names = subst (λ (rows : List Row). AreApart (map (λ (row : Row). row.name) rows)) (sym opens.rows) (names_fit run apart);
}
