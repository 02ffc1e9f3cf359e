-- Two answers for one input agree.
use Rattle.std.proofs.Common.{◌≡◌, ℕ, ◌+◌, ◌<◌, Bool, true, false, List, [], ◌∷◌, length, map, Option, Some, None, Result, Ok, Err, refl, sym, ap, subst, ◌∙◌, arith, inl, inr, le_antisymm, codes}
use Rattle.std.specs.Ordering.{nat_cmp, is_lt}
use Rattle.std.specs.Cmp.Lexicographic.{slice_cmp}
use Rattle.std.proofs.lemmas.Cmp.{nat_list_cmp_total}
use Rattle.std.proofs.lemmas.List.Sorted.{ranks_by}
use Rattle.command_line.specs.Asked.{asked}
use Rattle.command_line.specs.declared.asked.Subject.{Subject}
use Rattle.command_line.specs.declared.asked.Subject.TheVariants as subject
use Rattle.gml_graph.specs.declared.graph.Graph.{Graph}
use Rattle.net_routes.specs.Least.{IsLookahead}
use Rattle.net_routes.specs.Needed.{IsNeeded}
use Rattle.net_routes.specs.RouteMap.{RouteMap}
use Rattle.net_routes.proofs.RouteLaws.{no_lack, one_least_lack}
use Rattle.net_routes.proofs.TableLemmas.{one_table}
use Rattle.run_outside.specs.Files.{Held}
use Rattle.sim_base.specs.declared.address.Ip.{Ip}
use Rattle.sim_base.specs.declared.time.Time.{Time}
use Rattle.yaml_tree.specs.Said.{Said}
use Rattle.yaml_tree.specs.Tree.{IsTreeOf, is_empty_document}
use Rattle.yaml_tree.proofs.FlowLaws.{flow_reader}
use Rattle.yaml_tree.proofs.RuleLaws.{one_tree, no_fault}
use Rattle.yaml_tree.proofs.FaultLaws.{one_fault}
use Rattle.yaml_tokens.specs.Lines.{lines_of}
use Rattle.shd_config.specs.Config.{config}
use Rattle.shd_config.specs.declared.config.Config.{Config}
use Rattle.shd_config.specs.declared.config.GraphSource.{GraphSource}
use Rattle.shd_config.specs.declared.config.GraphSource.TheVariants as source
use Rattle.shd_config.specs.declared.config.HostConfig.{HostConfig}
use Rattle.shd_config.specs.declared.overrides.Overrides.{Overrides}
use Rattle.run_plan.specs.Addresses.{IsLeastOpen, AreAddressesFrom, given_addresses, first_address}
use Rattle.run_plan.specs.Captured.{captured}
use Rattle.run_plan.specs.Configured.{IsTreeFault, tree_of, or_config_fault, configured}
use Rattle.run_plan.specs.File.{file, read, reads}
use Rattle.run_plan.specs.HostRows.{AreInOrder, HaveAddresses, rows_of, host_rows}
use Rattle.run_plan.specs.Network.{one_gbit_switch, graph_at, network}
use Rattle.run_plan.specs.Reading.{Reading, gives, some_that, ◌>>=◌}
use Rattle.run_plan.specs.Plan.{nodes_of, IsRouteFault, routed, nanos_of, run_of, plan_of}
use Rattle.run_plan.specs.Planned.{or_words_fault, manner_of, runs, shown_or_run, file_planned, self_load_planned, capture_planned, planned_of, planned}
use Rattle.run_plan.specs.Program.{program}
use Rattle.run_plan.specs.Programs.{programs_of, images}
use Rattle.run_plan.specs.Rates.{all_rates}
use Rattle.run_plan.specs.Ring.{ring_files}
use Rattle.run_plan.specs.SelfLoad.{self_load_config, self_load_graph}
use Rattle.run_plan.specs.declared.fault.Fault.{Fault}
use Rattle.run_plan.specs.declared.fault.Fault.TheVariants as fault
use Rattle.run_plan.specs.declared.plan.Plan.{Plan}
use Rattle.run_plan.specs.declared.planned.Manner.{Manner}
use Rattle.run_plan.specs.declared.planned.Planned.{Planned}
use Rattle.run_plan.specs.declared.planned.Planned.TheVariants as plan
use Rattle.run_plan.proofs.ImageLemmas.{with_first}
use Rattle.run_plan.proofs.PlanLemmas.{made, with_images, with_routes, with_rows}
use Rattle.run_plan.proofs.PlannedLemmas.{with_config, with_text}
use Rattle.run_plan.proofs.RowLemmas.{with_order, with_rates}
use Rattle.run_plan.proofs.StableLemmas.{one_order}

-- ---- steps

-- a part has one answer at most
abbrev HasOne : {A : Type 0} → Reading A → Type 0
HasOne {A} reading = (r s : Result A Fault) → reading.answers r → reading.answers s → r ≡ s

same_value : {A : Type 0} (a b : A) → ◌≡◌ {A = Result A Fault} (Ok a) (Ok b) → a ≡ b
same_value a b e = cc

same_fault : {A : Type 0} (f g : Fault) → ◌≡◌ {A = Result A Fault} (Err f) (Err g) → f ≡ g
same_fault f g e = cc

value_or_fault : {A : Type 0} (a : A) (f : Fault) → ◌≡◌ {A = Result A Fault} (Ok a) (Err f) → ⊥
value_or_fault a f e = cc

module _ {A B : Type 0} (first : Reading A) (next : A → Reading B) (one : HasOne first) (more : (a : A) → first.answers (Ok a) → HasOne (next a)) where
  behind : (a b : A) (r s : Result B Fault) → first.answers (Ok a) → first.answers (Ok b) → (next a).answers r → (next b).answers s → r ≡ s
  behind a b r s h h' k k' = more a h r s k (subst (λ (x : A). (next x).answers s) (sym (same_value a b (one (Ok a) (Ok b) h h'))) k')

  -- two parts behind one another
  one_then : HasOne (first >>= next)
  one_then (Ok c) (Ok d) (a, h, k) (b, h', k') = behind a b (Ok c) (Ok d) h h' k k'
  one_then (Ok c) (Err g) (a, h, k) (inl h') = absurd (value_or_fault a g (one (Ok a) (Err g) h h'))
  one_then (Ok c) (Err g) (a, h, k) (inr (b, h', k')) = behind a b (Ok c) (Err g) h h' k k'
  one_then (Err f) (Ok d) (inl h) (b, h', k') = absurd (value_or_fault b f (one (Ok b) (Err f) h' h))
  one_then (Err f) (Ok d) (inr (a, h, k)) (b, h', k') = behind a b (Err f) (Ok d) h h' k k'
  one_then (Err f) (Err g) (inl h) (inl h') = ap Err (same_fault f g (one (Err f) (Err g) h h'))
  one_then (Err f) (Err g) (inl h) (inr (b, h', k')) = absurd (value_or_fault b f (one (Ok b) (Err f) h' h))
  one_then (Err f) (Err g) (inr (a, h, k)) (inl h') = absurd (value_or_fault a g (one (Ok a) (Err g) h h'))
  one_then (Err f) (Err g) (inr (a, h, k)) (inr (b, h', k')) = behind a b (Err f) (Err g) h h' k k'

gives_one : {A : Type 0} (d : Result A Fault) → HasOne (gives d)
gives_one d r s h k = sym h ∙ k

reads_one : {A : Type 0} (name : List ℕ) (d : Result A Fault) → HasOne (reads name d)
reads_one name d r s h k = sym h ∙ k

some_one : {A : Type 0} (P : A → Type 0) → ((a b : A) → P a → P b → a ≡ b) → HasOne (some_that P)
some_one P one (Ok a) (Ok b) h k = ap Ok (one a b h k)
some_one P one (Ok a) (Err g) h k = absurd k
some_one P one (Err f) s h k = absurd h

-- ---- the configuration of a text

no_tree_fault : (name text : List ℕ) (tree : Said) (f : Fault) → IsTreeOf text tree → IsTreeFault name text f → ⊥
no_tree_fault name text tree (fault.Tree n f) h k = no_fault flow_reader text tree f.line f.kind h k.1
no_tree_fault name text tree _ h k = k

one_tree_fault : (name text : List ℕ) (f g : Fault) → IsTreeFault name text f → IsTreeFault name text g → f ≡ g
one_tree_fault name text (fault.Tree n f) (fault.Tree m g) h k =
    let same = one_fault flow_reader text f.line g.line f.kind g.kind h.1 k.1 in
    let named : n ≡ m = h.0 ∙ sym k.0 in
    λ i. fault.Tree (named i) (record { line = same.0 i; kind = same.1 i })
one_tree_fault name text (fault.Tree n f) _ h k = absurd k
one_tree_fault name text _ g h k = absurd h

one_tree_of : (name text : List ℕ) → HasOne (tree_of name text)
one_tree_of name text (Ok t) (Ok u) h k = ap Ok (one_tree flow_reader (lines_of text) t u h.1.says k.1.says)
one_tree_of name text (Ok t) (Err f) h k = absurd (no_tree_fault name text t f h k)
one_tree_of name text (Err f) (Ok u) h k = absurd (no_tree_fault name text u f k h)
one_tree_of name text (Err f) (Err g) h k = ap Err (one_tree_fault name text f g h k)

one_configured : (name text : List ℕ) (o : Overrides) → HasOne (configured name text o)
unfolding configured
one_configured name text o =
    let last : Said → Result Config Fault = λ tree. or_config_fault name (config o (is_empty_document (lines_of text)) tree) in
    one_then (tree_of name text) (λ tree. gives (last tree)) (one_tree_of name text) (λ tree h. gives_one (last tree))

-- ---- rows

order_same : (hosts a b : List HostConfig) → AreInOrder hosts a → AreInOrder hosts b → a ≡ b
order_same hosts a b h k =
    one_order (λ (x y : HostConfig). is_lt (slice_cmp nat_cmp x.name y.name)) (ranks_by nat_list_cmp_total (λ (x : HostConfig). x.name)) hosts a b h.order k.order h.stable k.stable

same_bits : (given : List Ip) (from a b : ℕ) → IsLeastOpen given from a → IsLeastOpen given from b → a ≡ b
same_bits given from a b h k = le_antisymm (h.least b k.within k.is_free) (k.least a h.within h.is_free)

addresses_same : (given : List Ip) (from : ℕ) (hosts : List (Option Ip)) (xs ys : List Ip) → AreAddressesFrom given from hosts xs → AreAddressesFrom given from hosts ys → xs ≡ ys
addresses_same given from [] [] [] h k = refl
addresses_same given from [] [] (y ∷ ys) h k = absurd k
addresses_same given from [] (x ∷ xs) ys h k = absurd h
addresses_same given from (Some ip ∷ hosts) [] ys h k = absurd h
addresses_same given from (Some ip ∷ hosts) (x ∷ xs) [] h k = absurd k
addresses_same given from (Some ip ∷ hosts) (x ∷ xs) (y ∷ ys) h k =
    let first : x ≡ y = h.0 ∙ sym k.0 in let rest : xs ≡ ys = addresses_same given from hosts xs ys h.1 k.1 in λ i. first i ∷ rest i
addresses_same given from (None ∷ hosts) [] ys h k = absurd h
addresses_same given from (None ∷ hosts) (x ∷ xs) [] h k = absurd k
addresses_same given from (None ∷ hosts) (x ∷ xs) (y ∷ ys) h k =
    let bits : x.bits ≡ y.bits = same_bits given from x.bits y.bits h.0 k.0 in
    let first : x ≡ y = λ i. record { bits = bits i } in
    let rest : xs ≡ ys = addresses_same given (x.bits + 1) hosts xs ys h.1 (subst (λ (n : ℕ). AreAddressesFrom given (n + 1) hosts ys) (sym bits) k.1) in
    λ i. first i ∷ rest i

addresses_are_one : (ordered : List HostConfig) (xs ys : List Ip) → HaveAddresses ordered xs → HaveAddresses ordered ys → xs ≡ ys
addresses_are_one ordered xs ys h k = addresses_same (given_addresses (map (λ (x : HostConfig). x.ip_addr) ordered)) first_address (map (λ (x : HostConfig). x.ip_addr) ordered) xs ys h k

one_rows : (name : List ℕ) (graph : Graph) (hosts : List HostConfig) → HasOne (host_rows name graph hosts)
unfolding host_rows
one_rows name graph hosts =
    one_then (some_that (AreInOrder hosts)) (with_order name graph hosts) (some_one (AreInOrder hosts) (order_same hosts))
    (λ ordered h. one_then (gives (all_rates name graph.nodes ordered)) (with_rates hosts ordered) (gives_one (all_rates name graph.nodes ordered))
    (λ rates k. one_then (some_that (HaveAddresses ordered)) (λ addresses. gives (Ok (rows_of (programs_of hosts) ordered rates addresses)))
    (some_one (HaveAddresses ordered) (addresses_are_one ordered))
    (λ addresses m. gives_one (Ok (rows_of (programs_of hosts) ordered rates addresses)))))

-- ---- routes

module _ (g : Graph) (shortest : Bool) (nodes : List ℕ) where
  no_route_fault : (r : RouteMap) (f : Fault) → (routed g shortest nodes).answers (Ok r) → IsRouteFault g shortest nodes f → ⊥
  no_route_fault r (fault.NoRoute a b) h k = no_lack g shortest nodes r a b h.0 k.lacks
  no_route_fault r _ h k = k

  one_route_fault : (f f' : Fault) → IsRouteFault g shortest nodes f → IsRouteFault g shortest nodes f' → f ≡ f'
  one_route_fault (fault.NoRoute a b) (fault.NoRoute p q) h k = let same = one_least_lack g shortest nodes a b p q h k in λ i. fault.NoRoute (same.0 i) (same.1 i)
  one_route_fault (fault.NoRoute a b) _ h k = absurd k
  one_route_fault _ f' h k = absurd h

  one_routed : HasOne (routed g shortest nodes)
  one_routed (Ok r) (Ok s) h k = ap Ok (one_table g shortest nodes r s h.1 k.1)
  one_routed (Ok r) (Err f) h k = absurd (no_route_fault r f h k)
  one_routed (Err f) (Ok s) h k = absurd (no_route_fault s f k h)
  one_routed (Err f) (Err f') h k = ap Err (one_route_fault f f' h k)

-- ---- the lookahead

module _ (nodes : List ℕ) (routes : RouteMap) where
  no_pair : (a b : ℕ) → length nodes < 2 → IsNeeded nodes a b → ⊥
  no_pair a b few needed = let one : needed.first ≡ needed.second = (let p = needed.from.within in let q = needed.to.within in omega (arith, p, q, few)) in needed.others one

  lookahead_same : (t u : Option Time) → IsLookahead nodes routes (nanos_of t) → IsLookahead nodes routes (nanos_of u) → t ≡ u
  lookahead_same None None h k = refl
  lookahead_same None (Some u) h k = absurd (no_pair k.from k.to h k.needed)
  lookahead_same (Some t) None h k = absurd (no_pair h.from h.to k h.needed)
  lookahead_same (Some t) (Some u) h k =
      let nanos : t.nanos ≡ u.nanos = le_antisymm (h.each k.from k.to u.nanos k.needed k.is) (k.each h.from h.to t.nanos h.needed h.is) in λ i. Some (record { nanos = nanos i })

-- ---- the plan

one_images : (held : Held) (paths : List (List ℕ)) → HasOne (images held paths)
one_images held [] = gives_one (Ok [])
one_images held (path ∷ paths) =
    one_then (reads path (program held path)) (λ first. with_first held paths first) (reads_one path (program held path))
    (λ first h. one_then (images held paths) (λ rest. gives (Ok (first ∷ rest))) (one_images held paths) (λ rest k. gives_one (Ok (first ∷ rest))))

one_network : (held : Held) (name : List ℕ) (g : GraphSource) → HasOne (network held name g)
one_network held name source.OneGbitSwitch = gives_one (Ok one_gbit_switch)
one_network held name (source.Inline text) = gives_one (graph_at name true text)
one_network held name (source.File f) = one_then (read held f) (λ text. gives (graph_at f false text)) (reads_one f (file held f)) (λ text h. gives_one (graph_at f false text))

one_run : (held : Held) (name : List ℕ) (g : Graph) (c : Config) → HasOne (run_of held name g c)
unfolding run_of
one_run held name g c =
    one_then (host_rows name g c.hosts) (λ rows. with_rows held g c rows) (one_rows name g c.hosts)
    (λ rows h. one_then (routed g c.use_shortest_path (nodes_of rows)) (λ routes. with_routes held c rows routes) (one_routed g c.use_shortest_path (nodes_of rows))
    (λ routes k. one_then (images held (programs_of c.hosts)) (λ found. with_images c rows routes found) (one_images held (programs_of c.hosts))
    (λ found m. one_then (some_that (λ (t : Option Time). IsLookahead (nodes_of rows) routes (nanos_of t))) (λ t. gives (Ok (made c rows routes found t)))
    (some_one (λ (t : Option Time). IsLookahead (nodes_of rows) routes (nanos_of t)) (lookahead_same (nodes_of rows) routes))
    (λ t n. gives_one (Ok (made c rows routes found t))))))

one_plan_of : (held : Held) (name : List ℕ) (c : Config) → HasOne (plan_of held name c)
unfolding plan_of
one_plan_of held name c = one_then (network held name c.graph) (λ g. run_of held name g c) (one_network held name c.graph) (λ g h. one_run held name g c)

-- ---- what is asked

one_shown_or_run : (b : Bool) (c : Config) (plan_read : Reading Plan) (run : Plan → Planned) → HasOne plan_read → HasOne (shown_or_run b c plan_read run)
one_shown_or_run true c plan_read run one = gives_one (Ok (plan.Shows c))
one_shown_or_run false c plan_read run one = one_then plan_read (λ p. gives (Ok (run p))) one (λ p h. gives_one (Ok (run p)))

one_file : (m : Manner) (held : Held) (name : List ℕ) → HasOne (file_planned m held name)
unfolding file_planned
one_file m held name =
    one_then (read held name) (λ text. with_text m held name text) (reads_one name (file held name))
    (λ text h. one_then (configured name text m.overrides) (λ c. with_config m held name c) (one_configured name text m.overrides)
    (λ c k. one_shown_or_run m.shows_config c (plan_of held name c) (runs m false) (one_plan_of held name c)))

one_self_load : (m : Manner) (hosts : ℕ) → HasOne (self_load_planned m hosts)
unfolding self_load_planned
one_self_load m hosts =
    let c : Config = self_load_config m.overrides hosts in
    one_shown_or_run m.shows_config c (run_of ring_files (codes "self-load") (self_load_graph hosts) c) (runs m true) (one_run ring_files (codes "self-load") (self_load_graph hosts) c)

one_capture : (held : Held) (name : List ℕ) → HasOne (capture_planned held name)
unfolding capture_planned
one_capture held name =
    one_then (read held name) (λ bytes. gives (captured name bytes) >>= (λ c. gives (Ok (plan.Lists c)))) (reads_one name (file held name))
    (λ bytes h. one_then (gives (captured name bytes)) (λ c. gives (Ok (plan.Lists c))) (gives_one (captured name bytes)) (λ c k. gives_one (Ok (plan.Lists c))))

one_subject : (held : Held) (m : Manner) (x : Subject) → HasOne (planned_of held m x)
one_subject held m (subject.File name) = one_file m held name
one_subject held m (subject.SelfLoad hosts) = one_self_load m hosts
one_subject held m (subject.Capture name) = one_capture held name

-- two answers for one input are equal
pub one_answer : (words : List (List ℕ)) (held : Held) → HasOne (planned words held)
unfolding planned
one_answer words held =
    one_then (gives (or_words_fault (asked words))) (λ a. planned_of held (manner_of a) a.subject) (gives_one (or_words_fault (asked words))) (λ a h. one_subject held (manner_of a) a.subject)
