-- The steps of a plan.
use Rattle.std.proofs.Common.{List, ℕ, Option, map, refl}
use Rattle.std.specs.Prelude.{Result, Ok}
use Rattle.run_outside.specs.Files.{Held}
use Rattle.sim_base.specs.declared.time.Time.{Time}
use Rattle.gml_graph.specs.declared.graph.Graph.{Graph}
use Rattle.elf_load.specs.ProgramImage.{ProgramImage}
use Rattle.net_routes.specs.Least.{IsLookahead}
use Rattle.net_routes.specs.RouteMap.{RouteMap}
use Rattle.out_text.specs.Hosts.{hosts_text}
use Rattle.shd_config.specs.declared.config.Config.{Config}
use Rattle.run_plan.specs.HostRows.{host_rows}
use Rattle.run_plan.specs.Network.{network}
use Rattle.run_plan.specs.Reading.{Reading, gives, some_that, Stops, Meets, ◌>>=◌}
use Rattle.run_plan.specs.Plan.{nodes_of, routed, nanos_of, line_of_host, settings_of, run_of, plan_of}
use Rattle.run_plan.specs.Programs.{programs_of, images}
use Rattle.run_plan.specs.declared.fault.ReadStop.{ReadStop}
use Rattle.run_plan.specs.declared.host_row.HostRow.{HostRow}
use Rattle.run_plan.specs.declared.plan.Plan.{Plan}
use Rattle.run_plan.proofs.StepLemmas.{goes_on, stops_first, stops_next}

-- ---- the parts behind one another

abbrev pub made : Config → List HostRow → RouteMap → List ProgramImage → Option Time → Plan
made config rows routes found lookahead =
    record { settings = settings_of config; rows = rows; routes = routes; lookahead = lookahead; images = found; hosts_text = hosts_text (map line_of_host rows) }

abbrev pub with_images : Config → List HostRow → RouteMap → List ProgramImage → Reading Plan
with_images config rows routes found = some_that (λ t. IsLookahead (nodes_of rows) routes (nanos_of t)) >>= (λ lookahead. gives (Ok (made config rows routes found lookahead)))

abbrev pub with_routes : Held → Config → List HostRow → RouteMap → Reading Plan
with_routes held config rows routes = images held (programs_of config.hosts) >>= (λ found. with_images config rows routes found)

abbrev pub with_rows : Held → Graph → Config → List HostRow → Reading Plan
with_rows held graph config rows = routed graph config.use_shortest_path (nodes_of rows) >>= (λ routes. with_routes held config rows routes)

module _ (held : Held) (name : List ℕ) (graph : Graph) (config : Config) where
  pub rows_stop : (stop : ReadStop) → Stops (host_rows name graph config.hosts) stop → Stops (run_of held name graph config) stop
  unfolding run_of
  rows_stop stop h = stops_first (host_rows name graph config.hosts) (λ rows. with_rows held graph config rows) stop h

  module _ (rows : List HostRow) (h : (host_rows name graph config.hosts).answers (Ok rows)) where
    behind_rows : (stop : ReadStop) → Stops (with_rows held graph config rows) stop → Stops (run_of held name graph config) stop
    unfolding run_of
    behind_rows stop k = stops_next (host_rows name graph config.hosts) (λ rows. with_rows held graph config rows) rows stop h k

    pub routes_stop : (stop : ReadStop) → Stops (routed graph config.use_shortest_path (nodes_of rows)) stop → Stops (run_of held name graph config) stop
    routes_stop stop k = behind_rows stop (stops_first (routed graph config.use_shortest_path (nodes_of rows)) (λ routes. with_routes held config rows routes) stop k)

    module _ (routes : RouteMap) (k : (routed graph config.use_shortest_path (nodes_of rows)).answers (Ok routes)) where
      pub images_stop : (stop : ReadStop) → Stops (images held (programs_of config.hosts)) stop → Stops (run_of held name graph config) stop
      images_stop stop m =
          behind_rows stop (stops_next (routed graph config.use_shortest_path (nodes_of rows)) (λ routes. with_routes held config rows routes) routes stop k
          (stops_first (images held (programs_of config.hosts)) (λ found. with_images config rows routes found) stop m))

      pub run_done : (found : List ProgramImage) (lookahead : Option Time) → (images held (programs_of config.hosts)).answers (Ok found) → IsLookahead (nodes_of rows) routes (nanos_of lookahead)
          → (run_of held name graph config).answers (Ok (made config rows routes found lookahead))
      unfolding run_of
      run_done found lookahead m n = (rows, h, (routes, k, (found, m, (lookahead, n, refl))))

pub plan_goes_on : (held : Held) (name : List ℕ) (config : Config) (graph : Graph) (result : Result Plan ReadStop) → (network held name config.graph).answers (Ok graph)
    → Meets (λ (p : Plan). p) (run_of held name graph config) result → Meets (λ (p : Plan). p) (plan_of held name config) result
unfolding plan_of
plan_goes_on held name config graph result h k = goes_on (λ (p : Plan). p) (network held name config.graph) (λ g. run_of held name g config) graph result h k
