-- No mapping of the block of a plain configuration has a key twice.
use Rattle.std.proofs.Common.{◌≡◌, ◌≢◌, ℕ, ◌≤◌, Bool, true, false, ◌||◌, ◌==◌, List, [], ◌∷◌, map, length, Option, Some, None, codes, refl, arith, true≢false}
use Rattle.std.specs.Cmp.Lexicographic.{pointwise}
use Rattle.std.specs.List.{AllByRecursion}
use Rattle.std.proofs.lemmas.List.Elements.{recursion_from_All}
use Rattle.sim_base.specs.declared.time.Time.{Time}
use Rattle.yaml_tree.proofs.KnownLaws.{same_bytes}
use Rattle.shd_config.specs.declared.config.GraphSource.{GraphSource}
use Rattle.shd_config.specs.declared.config.GraphSource.TheVariants as sources
use Rattle.host_rows.specs.declared.row.FinalState.{FinalState}
use Rattle.host_rows.specs.declared.row.FinalState.TheVariants.{Exited, Signaled, Running}
use Rattle.shd_config.specs.declared.config.Variable.{Variable}
use Rattle.shd_config.specs.declared.config.ProcessConfig.{ProcessConfig}
use Rattle.shd_config.specs.declared.config.HostConfig.{HostConfig}
use Rattle.shd_config.specs.declared.config.Config.{Config}
use Rattle.shown_config.specs.Plain.{AreApart, IsPlainVariable, IsPlainProcess, IsPlainHost, IsPlain}
use Rattle.shown_config.proofs.words.Words.{says}
use Rattle.shown_config.proofs.words.Words.Word.{bare}
use Rattle.shown_config.proofs.forms.Cells.{Cell}
use Rattle.shown_config.proofs.blocks.Blocks.{Block, is_done}
use Rattle.shown_config.proofs.blocks.Blocks.Block.{done, leaf_then, block_then, items_then}
use Rattle.shown_config.proofs.blocks.BlockSaid.{HasRows}
use Rattle.shown_config.proofs.blocks.Tidy.{is_among, IsNew, AreNewEntries, HasNewKeys, AreNewLeaves, IsNewItem, AreNewItems, HasNewRows}
use Rattle.shown_config.proofs.blocks.BlockText.{IsBlock}
use Rattle.shown_config.proofs.config.ConfigBlock.{general_block, graph_block, network_block, variable_words, state_cell, shutdown_leaves, process_item, processes_block, leaf_if, option_entries, options_cell, host_block, hosts_block, config_block}
use Rattle.shown_config.proofs.config.ConfigWords.{name_other, config_spelled}

-- ---- rows

if_rows : {A : Type 0} (key : List ℕ) (cell : A → Cell) (o : Option A) (rest : Block) → HasRows rest → HasRows (leaf_if key cell o rest)
if_rows key cell None rest h = h
if_rows key cell (Some x) rest h = h

processes_rows : (ps : List ProcessConfig) → HasRows (processes_block ps)
processes_rows [] = tt
processes_rows (p ∷ ps) = tt

host_rows_is : (h : HostConfig) → HasRows (host_block h)
host_rows_is h =
    if_rows (codes "ip_addr") _ h.ip_addr _ (if_rows (codes "bandwidth_up") _ h.bandwidth_up _ (if_rows (codes "bandwidth_down") _ h.bandwidth_down _
    (if_rows (codes "host_options") _ (options_cell h) _ (processes_rows h.processes))))

graph_rows : (g : GraphSource) → (is_done (graph_block g) ≡ false) × HasRows (graph_block g)
graph_rows sources.OneGbitSwitch = (refl, tt)
graph_rows (sources.Inline text) = (refl, tt)
graph_rows (sources.File name) = (refl, tt)

hosts_rows : (hs : List HostConfig) → HasRows (hosts_block hs)
hosts_rows [] = tt
hosts_rows (h ∷ hs) = (refl, host_rows_is h, hosts_rows hs)

hosts_some : (hs : List HostConfig) → 1 ≤ length hs → is_done (hosts_block hs) ≡ false
hosts_some [] h = absurd (omega (arith, h))
hosts_some (x ∷ hs) h = refl

config_rows : (c : Config) → IsPlain c → HasRows (config_block c)
config_rows c h =
    let g = graph_rows c.graph in
    (refl, tt, (refl, (g.0, g.1, tt), (hosts_some c.hosts h.few.0, hosts_rows c.hosts, tt)))

-- ---- fewer keys

abbrev Fewer : List (List ℕ) → List (List ℕ) → Type 0
Fewer keys others = (key : List ℕ) → is_among key keys ≡ false → is_among key others ≡ false

or_false : (a b : Bool) → (a || b) ≡ false → (a ≡ false) × (b ≡ false)
or_false true b h = absurd (true≢false h)
or_false false b h = (refl, h)

fewer_one : (k : List ℕ) (keys : List (List ℕ)) → Fewer (k ∷ keys) keys
fewer_one k keys key h = (or_false (is_among key keys) _ h).0

fewer_more : (k : List ℕ) (keys others : List (List ℕ)) → Fewer keys others → Fewer (k ∷ keys) (k ∷ others)
fewer_more k keys others f key h = let q = or_false (is_among key keys) (pointwise ◌==◌ key k) h in rw (f key q.0, q.1) refl

fewer_new : (key : List ℕ) (keys others : List (List ℕ)) → Fewer keys others → IsNew key keys → IsNew key others
fewer_new key keys others f n = record { apart = f key n.apart; plain = n.plain }

fewer_rows : (b : Block) (k : ℕ) (keys others : List (List ℕ)) → Fewer keys others → HasNewRows k keys b → HasNewRows k others b
fewer_rows done k keys others f h = tt
fewer_rows (leaf_then w c rest) k keys others f h = (fewer_new (says w) keys others f h.0, h.1, fewer_rows rest k (says w ∷ keys) (says w ∷ others) (fewer_more (says w) keys others f) h.2)
fewer_rows (block_then w inner rest) k keys others f h = (fewer_new (says w) keys others f h.0, h.1, h.2, h.3, h.4, fewer_rows rest k (says w ∷ keys) (says w ∷ others) (fewer_more (says w) keys others f) h.5)
fewer_rows (items_then w first more rest) k keys others f h = (fewer_new (says w) keys others f h.0, h.1, fewer_rows rest k (says w ∷ keys) (says w ∷ others) (fewer_more (says w) keys others f) h.2)

-- a key that may be there or not
if_new : {A : Type 0} (key : List ℕ) (cell : A → Cell) (o : Option A) (rest : Block) (k : ℕ) (keys : List (List ℕ)) → IsNew key keys → ((x : A) → HasNewKeys (cell x)) → HasNewRows k (key ∷ keys) rest → HasNewRows k keys (leaf_if key cell o rest)
if_new key cell None rest k keys n f h = fewer_rows rest k (key ∷ keys) keys (fewer_one key keys) h
if_new key cell (Some x) rest k keys n f h = (n, f x, h)

-- ---- names that are apart

-- none of these names is one of those
abbrev AreOthers : List (List ℕ) → List (List ℕ) → Type 0
AreOthers names keys = AllByRecursion (λ key. AllByRecursion (λ other. other ≢ key) names) keys

other_bytes : (a b : List ℕ) → a ≢ b → pointwise ◌==◌ a b ≡ false
other_bytes a b h = by (pointwise ◌==◌ a b) refl
  where
    by : (t : Bool) → pointwise ◌==◌ a b ≡ t → t ≡ false
    by true e = absurd (h (same_bytes a b e))
    by false e = refl

first_new : (name : List ℕ) (names keys : List (List ℕ)) → AreOthers (name ∷ names) keys → is_among name keys ≡ false
first_new name names [] h = refl
first_new name names (k ∷ keys) h = rw (first_new name names keys h.1, other_bytes name k h.0.0) refl

others_rest : (name : List ℕ) (names keys : List (List ℕ)) → AreOthers (name ∷ names) keys → AreOthers names keys
others_rest name names [] h = tt
others_rest name names (k ∷ keys) h = (h.0.1, others_rest name names keys h.1)

others_next : (name : List ℕ) (names keys : List (List ℕ)) → AreApart (name ∷ names) → AreOthers (name ∷ names) keys → AreOthers names (name ∷ keys)
others_next name names keys a h = (recursion_from_All (λ other. other ≢ name) names a.0, others_rest name names keys h)

-- ---- hosts

variables_new : (vs : List Variable) (keys : List (List ℕ)) → AllByRecursion IsPlainVariable vs → AreApart (map (λ v. v.name) vs) → AreOthers (map (λ v. v.name) vs) keys → AreNewEntries keys (map variable_words vs)
variables_new [] keys h a o = tt
variables_new (v ∷ vs) keys h a o = (
  record { apart = first_new v.name (map (λ x. x.name) vs) keys o; plain = other_bytes v.name (codes "<<") h.0.other },
  variables_new vs (v.name ∷ keys) h.1 a.1 (others_next v.name (map (λ x. x.name) vs) keys a o),
)

state_new : (s : FinalState) → HasNewKeys (state_cell s)
state_new (Exited status) = (record { apart = refl; plain = refl }, tt)
state_new (Signaled s) = (record { apart = refl; plain = refl }, tt)
state_new Running = tt

shutdown_new : (o : Option Time) (signal : Cell) (state : FinalState) → HasNewKeys signal
    → AreNewLeaves (codes "start_time" ∷ codes "environment" ∷ codes "args" ∷ codes "path" ∷ []) (shutdown_leaves o ((bare (codes "shutdown_signal"), signal) ∷ (bare (codes "expected_final_state"), state_cell state) ∷ []))
shutdown_new None signal state h = (record { apart = refl; plain = refl }, h, (record { apart = refl; plain = refl }, state_new state, tt))
shutdown_new (Some t) signal state h = (record { apart = refl; plain = refl }, tt, (record { apart = refl; plain = refl }, h, (record { apart = refl; plain = refl }, state_new state, tt)))

process_new : (p : ProcessConfig) → IsPlainProcess p → IsNewItem (process_item p)
process_new p h = (
  record { apart = refl; plain = refl },
  tt,
  (
    record { apart = refl; plain = refl },
    tt,
    (
      record { apart = refl; plain = refl },
      variables_new p.environment [] (recursion_from_All IsPlainVariable p.environment h.environment) h.apart tt,
      (
        record { apart = refl; plain = refl },
        tt,
        shutdown_new p.shutdown_time _ p.expected_final_state tt,
      ),
    ),
  ),
)

processes_new : (ps : List ProcessConfig) → AllByRecursion IsPlainProcess ps → AreNewItems (map process_item ps)
processes_new [] h = tt
processes_new (p ∷ ps) h = (process_new p h.0, processes_new ps h.1)

-- the keys that stand before the options of a host, the last one first, and with that of the options
abbrev interface_keys : List (List ℕ)
interface_keys = codes "bandwidth_down" ∷ codes "bandwidth_up" ∷ codes "ip_addr" ∷ codes "network_node_id" ∷ []

abbrev host_keys : List (List ℕ)
host_keys = codes "host_options" ∷ interface_keys

processes_rows_new : (k : ℕ) (ps : List ProcessConfig) → AllByRecursion IsPlainProcess ps → HasNewRows k host_keys (processes_block ps)
processes_rows_new k [] h = (record { apart = refl; plain = refl }, tt, tt)
processes_rows_new k (p ∷ ps) h = (record { apart = refl; plain = refl }, (process_new p h.0, processes_new ps h.1), tt)

options_new : (enabled all : Bool) (size : ℕ) (rest : Block) (k : ℕ) → HasNewRows k host_keys rest → HasNewRows k interface_keys (leaf_if (codes "host_options") (λ cell. cell) (option_entries enabled all size) rest)
options_new false true size rest k h = fewer_rows rest k host_keys interface_keys (fewer_one (codes "host_options") interface_keys) h
options_new false false size rest k h = (record { apart = refl; plain = refl }, (record { apart = refl; plain = refl }, tt), h)
options_new true true size rest k h = (record { apart = refl; plain = refl }, (record { apart = refl; plain = refl }, tt), h)
options_new true false size rest k h = (record { apart = refl; plain = refl }, (record { apart = refl; plain = refl }, (record { apart = refl; plain = refl }, tt)), h)

host_new : (k : ℕ) (h : HostConfig) → IsPlainHost h → HasNewRows k [] (host_block h)
host_new k h p = (
  record { apart = refl; plain = refl },
  tt,
  if_new (codes "ip_addr") _ h.ip_addr _ k _ (record { apart = refl; plain = refl }) (λ ip. tt)
      (if_new (codes "bandwidth_up") _ h.bandwidth_up _ k _ (record { apart = refl; plain = refl }) (λ n. tt)
      (if_new (codes "bandwidth_down") _ h.bandwidth_down _ k _ (record { apart = refl; plain = refl }) (λ n. tt)
      (options_new h.pcap_enabled (h.pcap_capture_size == 65535) h.pcap_capture_size (processes_block h.processes) k
      (processes_rows_new k h.processes (recursion_from_All IsPlainProcess h.processes p.processes))))),
)

hosts_new : (hs : List HostConfig) (keys : List (List ℕ)) → AllByRecursion IsPlainHost hs → AreApart (map (λ h. h.name) hs) → AreOthers (map (λ h. h.name) hs) keys → HasNewRows 40 keys (hosts_block hs)
hosts_new [] keys h a o = tt
hosts_new (x ∷ hs) keys h a o = (
  record { apart = first_new x.name (map (λ y. y.name) hs) keys o; plain = name_other x.name h.0.name },
  20,
  omega arith,
  omega arith,
  host_new 20 x h.0,
  hosts_new hs (x.name ∷ keys) h.1 a.1 (others_next x.name (map (λ y. y.name) hs) keys a o),
)

graph_new : (k : ℕ) (g : GraphSource) → HasNewRows k [] (graph_block g)
graph_new k sources.OneGbitSwitch = (record { apart = refl; plain = refl }, tt, tt)
graph_new k (sources.Inline text) = (record { apart = refl; plain = refl }, tt, (record { apart = refl; plain = refl }, tt, tt))
graph_new k (sources.File name) = (record { apart = refl; plain = refl }, tt, (record { apart = refl; plain = refl }, (record { apart = refl; plain = refl }, tt), tt))

general_new : (k : ℕ) (c : Config) → HasNewRows k [] (general_block c)
general_new k c = (
  record { apart = refl; plain = refl },
  tt,
  (
    record { apart = refl; plain = refl },
    tt,
    (
      record { apart = refl; plain = refl },
      tt,
      (record { apart = refl; plain = refl }, tt, (record { apart = refl; plain = refl }, tt, tt)),
    ),
  ),
)

network_new : (c : Config) → HasNewRows 40 [] (network_block c)
network_new c = (
  record { apart = refl; plain = refl },
  20,
  omega arith,
  omega arith,
  graph_new 20 c.graph,
  (record { apart = refl; plain = refl }, tt, (record { apart = refl; plain = refl }, tt, tt)),
)

config_new : (c : Config) → IsPlain c → HasNewRows 60 [] (config_block c)
config_new c h = (
  record { apart = refl; plain = refl },
  40,
  omega arith,
  omega arith,
  general_new 40 c,
  (
    record { apart = refl; plain = refl },
    40,
    omega arith,
    omega arith,
    network_new c,
    (record { apart = refl; plain = refl }, 40, omega arith, omega arith, hosts_new c.hosts [] (recursion_from_All IsPlainHost c.hosts h.hosts) h.apart tt, tt),
  ),
)

pub config_is_block : (c : Config) → IsPlain c → IsBlock (config_block c)
config_is_block c h = record { spelled = config_spelled c h; some = refl; rows = config_rows c h; apart = config_new c h }
