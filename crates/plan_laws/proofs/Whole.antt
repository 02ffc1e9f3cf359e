-- What is asked has a plan, or a first fault: each part of the reading has an answer.
use Rattle.std.proofs.Common.{◌≡◌, ℕ, ◌≤◌, List, [], ◌∷◌, Bool, true, false, Option, Some, None, IsSome, IsSomeAnd, Result, Ok, Err, codes, refl}
use Rattle.yaml_tokens.specs.Lines.{lines_of}
use Rattle.yaml_tree.specs.Said.{Said}
use Rattle.yaml_tree.specs.Tree.{is_empty_document}
use Rattle.run_outside.specs.Files.{Held}
use Rattle.sim_base.specs.Limits.{most_ring_hosts}
use Rattle.sim_base.specs.declared.address.Ip.{Ip}
use Rattle.sim_base.specs.declared.time.Time.{Time}
use Rattle.command_line.specs.Asked.{asked}
use Rattle.command_line.specs.declared.asked.Asked.{Asked}
use Rattle.command_line.specs.declared.asked.Subject.{Subject}
use Rattle.command_line.specs.declared.asked.Subject.TheVariants as subject
use Rattle.command_line.specs.declared.fault.WordsFault.{WordsFault}
use Rattle.elf_load.specs.ProgramImage.{ProgramImage}
use Rattle.gml_graph.specs.declared.graph.Graph.{Graph}
use Rattle.net_routes.specs.Least.{IsLookahead}
use Rattle.net_routes.specs.Routes.{HasRoutes}
use Rattle.net_routes.specs.Walk.{AreHops, hops}
use Rattle.pcap_text.specs.declared.capture.Capture.{Capture}
use Rattle.shd_config.specs.Config.{config}
use Rattle.shd_config.specs.declared.config.Config.{Config}
use Rattle.shd_config.specs.declared.config.GraphSource.{GraphSource}
use Rattle.shd_config.specs.declared.config.GraphSource.TheVariants as source
use Rattle.shd_config.specs.declared.config.HostConfig.{HostConfig}
use Rattle.shd_config.specs.declared.overrides.Overrides.{Overrides}
use Rattle.run_plan.specs.Captured.{captured}
use Rattle.run_plan.specs.Configured.{tree_of, or_config_fault, configured}
use Rattle.run_plan.specs.File.{file, reads, read}
use Rattle.run_plan.specs.HostRows.{AreInOrder, HaveAddresses, rows_of, host_rows}
use Rattle.run_plan.specs.InRange.{IsInRange}
use Rattle.run_plan.specs.Network.{one_gbit_switch, graph_at, network}
use Rattle.run_plan.specs.Plan.{nodes_of, routed, nanos_of, run_of, plan_of}
use Rattle.run_plan.specs.Planned.{or_words_fault, manner_of, runs, shown_or_run, file_planned, self_load_planned, capture_planned, planned_of, planned}
use Rattle.run_plan.specs.Program.{program}
use Rattle.run_plan.specs.Programs.{programs_of, images}
use Rattle.run_plan.specs.Rates.{all_rates}
use Rattle.run_plan.specs.Reading.{Reading, gives, some_that, ◌>>=◌}
use Rattle.run_plan.specs.Ring.{ring_files}
use Rattle.run_plan.specs.SelfLoad.{self_load_config, self_load_graph}
use Rattle.run_plan.specs.declared.host_row.HostRow.{HostRow}
use Rattle.run_plan.specs.declared.plan.Plan.{Plan}
use Rattle.run_plan.specs.declared.planned.Manner.{Manner}
use Rattle.run_plan.specs.declared.planned.Planned.{Planned}
use Rattle.run_plan.specs.declared.planned.Planned.TheVariants.{Shows, Lists}
use Rattle.run_plan.specs.declared.rates.Rates.{Rates}
use Rattle.run_plan.proofs.InRangeLemmas.{asked_in_range}
use Rattle.run_plan.proofs.PlanLemmas.{made, with_images, with_routes, with_rows}
use Rattle.run_plan.proofs.PlannedLemmas.{with_config, with_text}
use Rattle.plan_laws.proofs.Addressed.{some_addresses}
use Rattle.plan_laws.proofs.Following.{HasAnswer, given, read_once, found, followed}
use Rattle.plan_laws.proofs.Graphs.{network_hops, self_load_hops}
use Rattle.plan_laws.proofs.Lookaheads.{some_lookahead}
use Rattle.plan_laws.proofs.Orders.{some_order}
use Rattle.plan_laws.proofs.Routed.{some_routes}
use Rattle.plan_laws.proofs.Trees.{some_tree}

-- ---- a configuration

some_config : (name text : List ℕ) (o : Overrides) → HasAnswer (configured name text o)
unfolding configured
some_config name text o =
    followed (tree_of name text) (λ (tree : Said). gives (or_config_fault name (config o (is_empty_document (lines_of text)) tree))) (some_tree name text)
    (λ tree h. given (or_config_fault name (config o (is_empty_document (lines_of text)) tree)))

-- ---- a graph

some_network : (held : Held) (name : List ℕ) (from : GraphSource) → HasAnswer (network held name from)
some_network held name source.OneGbitSwitch = given (Ok one_gbit_switch)
some_network held name (source.Inline text) = given (graph_at name true text)
some_network held name (source.File other) = followed (read held other) (λ (text : List ℕ). gives (graph_at other false text)) (read_once other (file held other)) (λ text h. given (graph_at other false text))

-- ---- hosts

abbrev with_addresses : List HostConfig → List HostConfig → List Rates → List Ip → Reading (List HostRow)
with_addresses hosts ordered rates addresses = gives (Ok (rows_of (programs_of hosts) ordered rates addresses))

abbrev with_rates : List HostConfig → List HostConfig → List Rates → Reading (List HostRow)
with_rates hosts ordered rates = some_that (HaveAddresses ordered) >>= with_addresses hosts ordered rates

abbrev with_order : List ℕ → Graph → List HostConfig → List HostConfig → Reading (List HostRow)
with_order name g hosts ordered = gives (all_rates name g.nodes ordered) >>= with_rates hosts ordered

some_rows : (name : List ℕ) (g : Graph) (hosts : List HostConfig) → HasAnswer (host_rows name g hosts)
unfolding host_rows
some_rows name g hosts =
    followed (some_that (AreInOrder hosts)) (with_order name g hosts) (found (AreInOrder hosts) (some_order hosts)) (λ ordered h.
    followed (gives (all_rates name g.nodes ordered)) (with_rates hosts ordered) (given (all_rates name g.nodes ordered)) (λ rates k.
    followed (some_that (HaveAddresses ordered)) (with_addresses hosts ordered rates) (found (HaveAddresses ordered) (some_addresses ordered)) (λ addresses m.
    given (Ok (rows_of (programs_of hosts) ordered rates addresses)))))

-- ---- images

some_images : (held : Held) (paths : List (List ℕ)) → HasAnswer (images held paths)
some_images held [] = given (Ok [])
some_images held (path ∷ paths) =
    followed (reads path (program held path)) (λ (first : ProgramImage). images held paths >>= (λ (rest : List ProgramImage). gives (Ok (first ∷ rest)))) (read_once path (program held path))
    (λ first h. followed (images held paths) (λ (rest : List ProgramImage). gives (Ok (first ∷ rest))) (some_images held paths) (λ rest k. given (Ok (first ∷ rest))))

-- ---- a plan

is_some : {A : Type 0} (P : A → Type 0) (o : Option A) → IsSomeAnd o P → IsSome o
is_some P None h = absurd h
is_some P (Some a) h = refl

some_run : (held : Held) (name : List ℕ) (g : Graph) (c : Config) → AreHops (hops g) → HasAnswer (run_of held name g c)
unfolding run_of
some_run held name g c sound =
    followed (host_rows name g c.hosts) (with_rows held g c) (some_rows name g c.hosts) (λ rows h.
    followed (routed g c.use_shortest_path (nodes_of rows)) (with_routes held c rows) (some_routes g c.use_shortest_path (nodes_of rows) sound) (λ routes k.
    followed (images held (programs_of c.hosts)) (with_images c rows routes) (some_images held (programs_of c.hosts)) (λ there m.
    let has : HasRoutes (nodes_of rows) routes = λ a b needed. is_some _ _ (k.0 a b needed) in
    followed (some_that (λ (t : Option Time). IsLookahead (nodes_of rows) routes (nanos_of t))) (λ (t : Option Time). gives (Ok (made c rows routes there t)))
    (found (λ (t : Option Time). IsLookahead (nodes_of rows) routes (nanos_of t)) (some_lookahead (nodes_of rows) routes has))
    (λ t n. given (Ok (made c rows routes there t))))))

some_file_plan : (held : Held) (name : List ℕ) (c : Config) → HasAnswer (plan_of held name c)
unfolding plan_of
some_file_plan held name c =
    followed (network held name c.graph) (λ (g : Graph). run_of held name g c) (some_network held name c.graph) (λ g h. some_run held name g c (network_hops held name c.graph g h))

-- ---- what each subject asks

shown_or_planned : (shows : Bool) (c : Config) (plan : Reading Plan) (run : Plan → Planned) → HasAnswer plan → HasAnswer (shown_or_run shows c plan run)
shown_or_planned true c plan run h = given (Ok (Shows c))
shown_or_planned false c plan run h = followed plan (λ (p : Plan). gives (Ok (run p))) h (λ p k. given (Ok (run p)))

some_file : (m : Manner) (held : Held) (name : List ℕ) → HasAnswer (file_planned m held name)
unfolding file_planned
some_file m held name =
    followed (read held name) (with_text m held name) (read_once name (file held name)) (λ text h.
    followed (configured name text m.overrides) (with_config m held name) (some_config name text m.overrides) (λ c k.
    shown_or_planned m.shows_config c (plan_of held name c) (runs m false) (some_file_plan held name c)))

some_self_load : (m : Manner) (hosts : ℕ) → hosts ≤ most_ring_hosts → HasAnswer (self_load_planned m hosts)
unfolding self_load_planned
some_self_load m hosts few =
    shown_or_planned m.shows_config (self_load_config m.overrides hosts) (run_of ring_files (codes "self-load") (self_load_graph hosts) (self_load_config m.overrides hosts)) (runs m true)
    (some_run ring_files (codes "self-load") (self_load_graph hosts) (self_load_config m.overrides hosts) (self_load_hops hosts few))

some_capture : (held : Held) (name : List ℕ) → HasAnswer (capture_planned held name)
unfolding capture_planned
some_capture held name =
    followed (read held name) (λ (bytes : List ℕ). gives (captured name bytes) >>= (λ (capture : Capture). gives (Ok (Lists capture)))) (read_once name (file held name))
    (λ bytes h. followed (gives (captured name bytes)) (λ (capture : Capture). gives (Ok (Lists capture))) (given (captured name bytes)) (λ capture k. given (Ok (Lists capture))))

-- ---- what is asked

asked_is : (answer : Result Asked WordsFault) (a : Asked) → or_words_fault answer ≡ Ok a → answer ≡ Ok a
asked_is (Ok b) a e = cc
asked_is (Err f) a e = cc

some_subject : (held : Held) (m : Manner) (s : Subject) → IsInRange s → HasAnswer (planned_of held m s)
some_subject held m (subject.File name) range = some_file m held name
some_subject held m (subject.SelfLoad hosts) range = some_self_load m hosts range.1
some_subject held m (subject.Capture name) range = some_capture held name

-- for all words and files there is a plan, or a first fault
pub some_plan : (words : List (List ℕ)) (held : Held) → HasAnswer (planned words held)
unfolding planned
some_plan words held =
    followed (gives (or_words_fault (asked words))) (λ (a : Asked). planned_of held (manner_of a) a.subject) (given (or_words_fault (asked words)))
    (λ a e. some_subject held (manner_of a) a.subject (asked_in_range words a (asked_is (asked words) a e)).subject)
