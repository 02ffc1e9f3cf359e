-- What hosts are that are read from a good tree, and the whole configuration.
use Rattle.std.proofs.Common.{◌≡◌, ℕ, suc, ◌-◌, ◌^◌, ◌<◌, ◌≤◌, Bool, true, false, if◌then◌else◌, List, [], ◌∷◌, map, length, Option, Some, None, IfSome, IfOk, is_some, codes, unwrap_or, Result, Ok, Err, refl, sym, ap, subst, arith}
use Rattle.std.specs.List.{AllByRecursion}
use Rattle.std.proofs.lemmas.List.Elements.{All-from_recursion}
use Rattle.sim_base.specs.Refusals.{◌>>=◌}
use Rattle.sim_base.specs.declared.address.Ip.{Ip}
use Rattle.sim_base.proofs.RefusalLemmas.{then_has, then_all, weaker}
use Rattle.shd_config.proofs.Walks.{checked_has, below_has, needed_has, given_has, optional_has, Read}
use Rattle.shd_values.specs.Word.{is_name_of_host}
use Rattle.yaml_tree.specs.Said.{Said}
use Rattle.yaml_merge.specs.Merge.{merged}
use Rattle.yaml_merge.specs.Plain.{line_of}
use Rattle.yaml_merge.specs.Plainness as plainness
use Rattle.yaml_merge.specs.declared.plain.Pair.{Pair}
use Rattle.yaml_merge.specs.declared.fault.MergeFault.{MergeFault}
use Rattle.shd_config.specs.declared.config.Config.{Config}
use Rattle.shd_config.specs.declared.general.General.{General}
use Rattle.shd_config.specs.declared.key.Key.{Key}
use Rattle.shd_config.specs.declared.key.Key.TheVariants as keys
use Rattle.shd_config.specs.declared.network.Network.{Network}
use Rattle.shd_config.specs.declared.options.HostOptions.{HostOptions}
use Rattle.shd_config.specs.declared.overrides.Overrides.{Overrides}
use Rattle.shd_config.specs.declared.host.HostDraft.{HostDraft}
use Rattle.shd_config.specs.declared.host.HostRead.{HostRead}
use Rattle.shd_config.specs.declared.reading.RootDraft.{RootDraft}
use Rattle.shd_config.specs.declared.fault.ConfigKind.TheVariants.{OutOfRange, BadValue}
use Rattle.shd_config.specs.Steps.{needed, through, given, optional}
use Rattle.shd_config.specs.Keys.{key_of}
use Rattle.shd_config.specs.Values.{mapping_at, number_at, rate_at, address_at, may_be_host, is_within}
use Rattle.shd_config.specs.General.{finished_general, general_at, new_general}
use Rattle.shd_config.specs.Network.{network_at}
use Rattle.shd_config.specs.Process.{processes_at}
use Rattle.shd_config.specs.Host.{no_options, options_at, new_host, host_key, host_row, finished_host, host_of, host_at, hosts_row, hosts_at, chosen, completed}
use Rattle.shd_config.specs.Config.{root, new_root, experimental_at, root_key, root_row, general_or, finished_root, root_of, merged_config, wrong_merge, config, is_passed_over}
use Rattle.shown_config.specs.Plain.{AreApart, IsPlainProcess, IsRate, IsPlainHost, IsPlain}
use Rattle.shown_config.specs.Same.{AreOverrides}
use Rattle.shown_config.proofs.plain.Has.{or_default_has, through_keeps, IsPushed, ArePushed, through_pushes, read_length, read_each, read_names}
use Rattle.shown_config.proofs.plain.GoodTrees.{IsGood, IsGoodPair, AreGoodPairs}
use Rattle.shown_config.proofs.plain.Merges.{merged_good}
use Rattle.shown_config.proofs.plain.PlainValues.{mapping_has, number_has, rate_has, address_has, within}
use Rattle.shown_config.proofs.plain.PlainParts.{IsPlainGeneral, general_has, absent_general_has, IsPlainNetwork, network_has, IsCapture, ArePlainOptions, options_has}
use Rattle.shown_config.proofs.plain.PlainProcesses.{ArePlainProcesses, processes_has}

-- ---- a host

abbrev IsNode : ℕ → Type 0
IsNode n = n < 2 ^ 32

abbrev MayBeHost : Ip → Type 0
MayBeHost ip = may_be_host ip ≡ true

record IsDraft (d : HostDraft) : Type 0 where
  node : IfSome d.network_node_id IsNode
  address : IfSome d.ip_addr MayBeHost
  up : IfSome d.bandwidth_up IsRate
  down : IfSome d.bandwidth_down IsRate
  options : ArePlainOptions d.options
  processes : ArePlainProcesses d.processes

record IsPlainRead (h : HostRead) : Type 0 where
  name : is_name_of_host h.name ≡ true
  node : IsNode h.network_node_id
  address : IfSome h.ip_addr MayBeHost
  up : IfSome h.bandwidth_up IsRate
  down : IfSome h.bandwidth_down IsRate
  options : ArePlainOptions h.options
  processes : ArePlainProcesses h.processes

no_processes : ArePlainProcesses []
no_processes = (omega arith, tt)

host_key_has : (key : Option Key) (d : HostDraft) (p : Pair) → IsDraft d → IsGoodPair p → IfOk (host_key key d p) IsDraft
host_key_has (Some keys.NetworkNodeId) d p h g =
    then_has IsNode IsDraft (number_at 0 (2 ^ 32 - 1) p) _ (weaker (λ n. (0 ≤ n) × (n ≤ 2 ^ 32 - 1)) IsNode (number_at 0 (2 ^ 32 - 1) p) (number_has 0 (2 ^ 32 - 1) p) (λ n k. omega (arith, k.1)))
    (λ v k. record { node = k; address = h.address; up = h.up; down = h.down; options = h.options; processes = h.processes })
host_key_has (Some keys.IpAddr) d p h g =
    then_has (λ v. IfSome v MayBeHost) IsDraft (optional p (address_at p)) _ (optional_has MayBeHost p (address_at p) (address_has p))
    (λ v k. record { node = h.node; address = k; up = h.up; down = h.down; options = h.options; processes = h.processes })
host_key_has (Some keys.BandwidthUp) d p h g =
    then_has (λ v. IfSome v IsRate) IsDraft (optional p (rate_at p)) _ (optional_has IsRate p (rate_at p) (rate_has p))
    (λ v k. record { node = h.node; address = h.address; up = k; down = h.down; options = h.options; processes = h.processes })
host_key_has (Some keys.BandwidthDown) d p h g =
    then_has (λ v. IfSome v IsRate) IsDraft (optional p (rate_at p)) _ (optional_has IsRate p (rate_at p) (rate_has p))
    (λ v k. record { node = h.node; address = h.address; up = h.up; down = k; options = h.options; processes = h.processes })
host_key_has (Some keys.HostOptions) d p h g =
    then_has (λ v. IfSome v ArePlainOptions) IsDraft (optional p (options_at p)) _ (optional_has ArePlainOptions p (options_at p) (options_has p g.value))
    (λ v k. record { node = h.node; address = h.address; up = h.up; down = h.down; options = or_default_has ArePlainOptions v no_options k tt; processes = h.processes })
host_key_has (Some keys.Processes) d p h g =
    then_has (λ v. IfSome v ArePlainProcesses) IsDraft (optional p (processes_at p)) _ (optional_has ArePlainProcesses p (processes_at p) (processes_has p g.value))
    (λ v k. record { node = h.node; address = h.address; up = h.up; down = h.down; options = h.options; processes = or_default_has ArePlainProcesses v [] k no_processes })
host_key_has _ d p h g = tt

abbrev ReadHost : Pair → HostRead → Type 0
ReadHost p h = (h.name ≡ p.key) × IsPlainRead h

finished_host_has : (p : Pair) (line : ℕ) (d : HostDraft) → is_name_of_host p.key ≡ true → IsDraft d → IfOk (finished_host p line d) (ReadHost p)
finished_host_has p line d n h =
    then_has IsNode (ReadHost p) (needed (codes "network_node_id") line d.network_node_id) _ (needed_has IsNode (codes "network_node_id") line d.network_node_id h.node)
    (λ node k. (refl, record { name = n; node = k; address = h.address; up = h.up; down = h.down; options = h.options; processes = h.processes }))

host_of_has : (p : Pair) (pairs : List Pair) → is_name_of_host p.key ≡ true → AllByRecursion IsGoodPair pairs → IfOk (host_of p pairs) (ReadHost p)
unfolding host_of
host_of_has p pairs n h =
    then_has IsDraft (ReadHost p) (through host_row new_host pairs) _
    (through_keeps IsDraft IsGoodPair host_row (λ d q k g. host_key_has (key_of q.key) d q k g) new_host pairs (record { node = tt; address = tt; up = tt; down = tt; options = tt; processes = no_processes }) h)
    (λ d k. finished_host_has p _ d n k)

host_has : (p : Pair) → IsGood p.value → IfOk (host_at p) (ReadHost p)
unfolding host_at
host_has p h =
    checked_has (ReadHost p) BadValue p (is_name_of_host p.key) _
    (λ n. then_has (AreGoodPairs p.value) (ReadHost p) (mapping_at p) _ (mapping_has p h) (λ pairs k. below_has (ReadHost p) p (host_of p pairs) (host_of_has p pairs n k.each)))

-- ---- hosts

record ArePlainReads (hs : List HostRead) : Type 0 where
  few : (1 ≤ length hs) × (length hs ≤ 16384)
  each : AllByRecursion IsPlainRead hs
  apart : AreApart (map (λ h. h.name) hs)

host_pushed : (before : List HostRead) (p : Pair) → IsGoodPair p → IfOk (hosts_row before p) (IsPushed ReadHost p before)
host_pushed before p g = then_has (ReadHost p) (IsPushed ReadHost p before) (host_at p) _ (host_has p g.value) (λ h k. record { last = h; read = k; is = refl })

hosts_has : (p : Pair) → IsGood p.value → IfOk (hosts_at p) ArePlainReads
unfolding hosts_at
hosts_has p g =
    then_has (AreGoodPairs p.value) ArePlainReads (mapping_at p) _ (mapping_has p g)
    (λ pairs k. checked_has ArePlainReads OutOfRange p (is_within 1 16384 (length pairs)) _
    (λ e. below_has ArePlainReads p (through hosts_row [] pairs)
    (weaker (ArePushed ReadHost pairs []) ArePlainReads (through hosts_row [] pairs) (through_pushes ReadHost IsGoodPair hosts_row host_pushed [] pairs k.each)
    (λ all more. (let few = within 1 16384 (length pairs) e in let count = read_length ReadHost pairs more.more more.read in
    subst ArePlainReads (sym more.are) (record {
      few = (omega (arith, few.0, count), omega (arith, few.1, count));
      each = read_each ReadHost IsPlainRead (λ a b r. r.1) pairs more.more more.read;
      apart = subst AreApart (sym (read_names ReadHost (λ a. a.key) (λ b. b.name) (λ a b r. r.0) pairs more.more more.read)) k.apart;
    }))))))

-- ---- the hosts with their options

capture : (own all : Option ℕ) → IfSome own IsCapture → IfSome all IsCapture → IsCapture (chosen own all 65535)
capture own all h k = or_default_has IsCapture own (unwrap_or all 65535) h (or_default_has IsCapture all 65535 k (omega arith, omega arith))

completed_plain : (all : HostOptions) (h : HostRead) → ArePlainOptions all → IsPlainRead h → IsPlainHost (completed all h)
completed_plain all h a p = record {
  name = p.name;
  node = p.node;
  address = p.address;
  up = p.up;
  down = p.down;
  capture = capture h.options.pcap_capture_size all.pcap_capture_size p.options a;
  few = p.processes.0;
  processes = All-from_recursion IsPlainProcess h.processes p.processes.1;
}

all_completed : (all : HostOptions) (hs : List HostRead) → ArePlainOptions all → AllByRecursion IsPlainRead hs → AllByRecursion IsPlainHost (map (completed all) hs)
all_completed all [] a h = tt
all_completed all (x ∷ hs) a h = (completed_plain all x a h.0, all_completed all hs a h.1)

length_completed : (all : HostOptions) (hs : List HostRead) → length (map (completed all) hs) ≡ length hs
length_completed all [] = refl
length_completed all (h ∷ hs) = ap suc (length_completed all hs)

names_completed : (all : HostOptions) (hs : List HostRead) → map (λ h. h.name) (map (completed all) hs) ≡ map (λ h. h.name) hs
names_completed all [] = refl
names_completed all (h ∷ hs) = ap (λ names. h.name ∷ names) (names_completed all hs)

-- ---- the root

record IsRoot (d : RootDraft) : Type 0 where
  general : IfSome d.general IsPlainGeneral
  network : IfSome d.network IsPlainNetwork
  hosts : IfSome d.hosts ArePlainReads
  options : ArePlainOptions d.options

module _ (o : Overrides) (may : AreOverrides o) where
  root_key_has : (key : Option Key) (d : RootDraft) (p : Pair) → IsRoot d → IsGoodPair p → IfOk (root_key o key d p) IsRoot
  root_key_has (Some keys.General) d p h g =
      then_has (λ v. IfSome v IsPlainGeneral) IsRoot (given (is_some o.stop_time) p (general_at o p)) _ (given_has IsPlainGeneral (is_some o.stop_time) p (general_at o p) (general_has o may p g.value))
      (λ v k. record { general = k; network = h.network; hosts = h.hosts; options = h.options })
  root_key_has (Some keys.Network) d p h g = then_has IsPlainNetwork IsRoot (network_at p) _ (network_has p g.value) (λ v k. record { general = h.general; network = k; hosts = h.hosts; options = h.options })
  root_key_has (Some keys.Hosts) d p h g = then_has ArePlainReads IsRoot (hosts_at p) _ (hosts_has p g.value) (λ v k. record { general = h.general; network = h.network; hosts = k; options = h.options })
  root_key_has (Some keys.HostOptionDefaults) d p h g =
      then_has (λ v. IfSome v ArePlainOptions) IsRoot (optional p (options_at p)) _ (optional_has ArePlainOptions p (options_at p) (options_has p g.value))
      (λ v k. record { general = h.general; network = h.network; hosts = h.hosts; options = or_default_has ArePlainOptions v no_options k tt })
  root_key_has (Some keys.Experimental) d p h g = then_all IsRoot (optional p (experimental_at p)) _ (λ v. h)
  root_key_has _ d p h g = tt

  row_by : (passed : Bool) (d : RootDraft) (p : Pair) → IsRoot d → IsGoodPair p → IfOk (if passed then Ok d else root_key o (key_of p.key) d p) IsRoot
  row_by true d p h g = h
  row_by false d p h g = root_key_has (key_of p.key) d p h g

  general_or_has : (line : ℕ) (g : Option General) → IfSome g IsPlainGeneral → IfOk (general_or o line g) IsPlainGeneral
  general_or_has line (Some g) h = h
  general_or_has line None h = absent (is_some o.stop_time) line
    where
      absent : (b : Bool) (line : ℕ) → IfOk (if b then finished_general o line new_general else needed (codes "general") line None) IsPlainGeneral
      absent true line = absent_general_has o may line
      absent false line = tt

  plain_by : (general : General) (network : Network) (hosts : List HostRead) (all : HostOptions) (told : List (List ℕ)) → IsPlainGeneral general → IsPlainNetwork network → ArePlainReads hosts → ArePlainOptions all
      → IsPlain (record { stop_time = general.stop_time; seed = general.seed; parallelism = general.parallelism; bootstrap_end_time = general.bootstrap_end_time; data_directory = general.data_directory; graph = network.graph; use_shortest_path = network.use_shortest_path; router_queue = network.router_queue; hosts = map (completed all) hosts; notes = told })
  plain_by general network hosts all told g n h a =
      let count = length_completed all hosts in
      record {
        stop = g.stop;
        seed = g.seed;
        parallelism = g.parallelism;
        bootstrap = g.bootstrap;
        directory = g.directory;
        named = g.named;
        graph = n;
        few = (omega (arith, h.few, count), omega (arith, h.few, count));
        hosts = All-from_recursion IsPlainHost (map (completed all) hosts) (all_completed all hosts a h.each);
        apart = subst AreApart (sym (names_completed all hosts)) h.apart;
      }

  finished_root_has : (told : List (List ℕ)) (line : ℕ) (d : RootDraft) → IsRoot d → IfOk (finished_root o told line d) IsPlain
  finished_root_has told line d h =
      then_has IsPlainGeneral IsPlain (general_or o line d.general) _ (general_or_has line d.general h.general)
      (λ general g. then_has IsPlainNetwork IsPlain (needed (codes "network") line d.network) _ (needed_has IsPlainNetwork (codes "network") line d.network h.network)
      (λ network n. then_has ArePlainReads IsPlain (needed (codes "hosts") line d.hosts) _ (needed_has ArePlainReads (codes "hosts") line d.hosts h.hosts)
      (λ hosts k. plain_by general network hosts d.options told g n k h.options)))

  root_of_has : (line : ℕ) (pairs : List Pair) → AllByRecursion IsGoodPair pairs → IfOk (root_of o line pairs) IsPlain
  unfolding root_of
  root_of_has line pairs h =
      then_has IsRoot IsPlain (through (root_row o) new_root pairs) _
      (through_keeps IsRoot IsGoodPair (root_row o) (λ d p k g. row_by (is_passed_over p) d p k g) new_root pairs (record { general = tt; network = tt; hosts = tt; options = tt }) h)
      (λ d k. finished_root_has _ _ d k)

  merged_config_has : (empty : Bool) (tree : Said) → IsGood tree → IfOk (merged_config o empty tree) IsPlain
  merged_config_has true tree g = root_of_has 1 [] tt
  merged_config_has false tree g = then_has (AreGoodPairs tree) IsPlain (mapping_at (root tree)) _ (mapping_has (root tree) g) (λ pairs k. root_of_has (line_of tree) pairs k.each)

  config_has : (empty : Bool) (tree : Said) (merging : Result Said MergeFault) → merged tree ≡ merging → plainness.IsPlain tree → IfOk (wrong_merge merging >>= merged_config o empty) IsPlain
  config_has empty tree (Ok after) e h = merged_config_has empty after (merged_good tree after e h)
  config_has empty tree (Err f) e h = tt

-- the configuration of a plain tree is plain
pub config_plain : (tree : Said) (o : Overrides) (empty : Bool) (c : Config) → plainness.IsPlain tree → AreOverrides o → config o empty tree ≡ Ok c → IsPlain c
unfolding config
config_plain tree o empty c h may e = subst (λ (r : Read Config). IfOk r IsPlain) e (config_has o may empty tree (merged tree) refl h)
