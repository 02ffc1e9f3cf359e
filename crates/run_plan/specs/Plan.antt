-- What is asked, read step by step: the order of the steps is that in which faults count.
use Rattle.std.specs.Prelude.{ℕ, List, map, Option, option_map, Ok, Err, Bool, Result}
use Rattle.run_outside.specs.Files.{Held}
use Rattle.gml_graph.specs.declared.graph.Graph.{Graph}
use Rattle.net_routes.specs.Routes.{AreRoutes, IsLeastLack}
use Rattle.net_routes.specs.Table.{IsTable}
use Rattle.net_routes.specs.Least.{IsLookahead}
use Rattle.net_routes.specs.RouteMap.{RouteMap}
use Rattle.out_text.specs.Hosts.{hosts_text}
use Rattle.out_text.specs.declared.hosts.HostLine.{HostLine}
use Rattle.shd_config.specs.declared.config.Config.{Config}
use Rattle.sim_base.specs.declared.time.Time.{Time}
use Rattle.run_plan.specs.HostRows.{host_rows}
use Rattle.run_plan.specs.Network.{network}
use Rattle.run_plan.specs.Reading.{Reading, gives, some_that, no_file, ◌>>=◌}
use Rattle.run_plan.specs.Programs.{programs_of, images}
use Rattle.run_plan.specs.declared.fault.Fault.{Fault}
use Rattle.run_plan.specs.declared.fault.Fault.TheVariants as fault
use Rattle.run_plan.specs.declared.host_row.HostRow.{HostRow}
use Rattle.run_plan.specs.declared.plan.Plan.{Plan}
use Rattle.run_plan.specs.declared.plan.Settings.{Settings}

-- ---- routes

abbrev pub nodes_of : List HostRow → List ℕ
nodes_of rows = map (λ r. r.config.network_node_id) rows

abbrev pub IsRouteFault : Graph → Bool → List ℕ → Fault → Type 0
IsRouteFault g shortest nodes (fault.NoRoute from to) = IsLeastLack g shortest nodes from to
IsRouteFault g shortest nodes _ = ⊥

-- the table of routes between the nodes of hosts, with those that hosts need; or the least pair that lacks one
abbrev pub AreRoutesOrFault : Graph → Bool → List ℕ → Result RouteMap Fault → Type 0
AreRoutesOrFault g shortest nodes (Ok routes) = AreRoutes g shortest nodes routes × IsTable g shortest nodes routes
AreRoutesOrFault g shortest nodes (Err f) = IsRouteFault g shortest nodes f

abbrev pub routed : Graph → Bool → List ℕ → Reading RouteMap
routed g shortest nodes = record { answers = AreRoutesOrFault g shortest nodes; reaches = no_file }

abbrev pub nanos_of : Option Time → Option ℕ
nanos_of t = option_map (λ t. t.nanos) t

-- ---- the plan

abbrev pub settings_of : Config → Settings
settings_of c = record {
  stop_time = c.stop_time;
  seed = c.seed;
  parallelism = c.parallelism;
  bootstrap_end_time = c.bootstrap_end_time;
  data_directory = c.data_directory;
  router_queue = c.router_queue;
  notes = c.notes;
}

abbrev pub line_of_host : HostRow → HostLine
line_of_host r = record { address = r.address; name = r.config.name }

-- what is run of a configuration that has this name, over a graph
unfoldable pub run_of : Held → List ℕ → Graph → Config → Reading Plan
run_of held name graph config = do
  rows ← host_rows name graph config.hosts
  routes ← routed graph config.use_shortest_path (nodes_of rows)
  images ← images held (programs_of config.hosts)
  lookahead ← some_that (λ t. IsLookahead (nodes_of rows) routes (nanos_of t))
  gives (Ok (record {
    settings = settings_of config;
    rows = rows;
    routes = routes;
    lookahead = lookahead;
    images = images;
    hosts_text = hosts_text (map line_of_host rows);
  }))

-- what is run of a configuration that has this name
unfoldable pub plan_of : Held → List ℕ → Config → Reading Plan
plan_of held name config = do
  graph ← network held name config.graph
  run_of held name graph config
