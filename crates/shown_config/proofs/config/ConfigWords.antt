-- The block of a plain configuration is a block: its words are such, and no mapping has a key twice.
use Rattle.std.proofs.Common.{◌≡◌, ℕ, ◌<◌, ◌≤◌, ◌^◌, Bool, true, false, ◌&&◌, not, ◌==◌, List, [], ◌∷◌, map, Option, Some, None, IfSome, IsUtf8, codes, refl, sym, arith, true≢false, leb-true, nat_le}
use Rattle.std.specs.List.{list_all, AllByRecursion}
use Rattle.std.specs.Char.{is_ascii_alphanumeric}
use Rattle.std.proofs.lemmas.Bool.{and_parts}
use Rattle.std.proofs.lemmas.Bool.Decides.{nat_tests}
use Rattle.std.proofs.lemmas.List.Elements.{recursion_from_All}
use Rattle.std.proofs.lemmas.Str.{IsUtf8-from_ascii}
use Rattle.std.proofs.lemmas.Str.Ascii.{IsAscii-nil, IsAscii-cons}
use Rattle.std.specs.Str.{IsAscii}
use Rattle.sim_base.specs.Signal.{signal_name}
use Rattle.sim_base.specs.declared.signal.Signal.{Signal}
use Rattle.sim_base.specs.declared.signal.Signal.TheVariants.{SigHup, SigInt, SigQuit, SigIll, SigTrap, SigAbrt, SigBus, SigFpe, SigKill, SigUsr1, SigSegv, SigUsr2, SigPipe, SigAlrm, SigTerm, SigXcpu}
use Rattle.sim_base.specs.declared.time.Time.{Time}
use Rattle.sim_base.specs.declared.address.Ip.{Ip}
use Rattle.shd_values.specs.Word.{is_name_byte, is_name_of_host}
use Rattle.yaml_tokens.specs.Scalars.{is_space, is_null}
use Rattle.yaml_merge.specs.Merge.{is_merge_key}
use Rattle.shd_config.specs.Values.{is_within, may_be_host}
use Rattle.config_lines.specs.Shown.{shown_truth, shown_address, shown_rule}
use Rattle.shd_config.specs.declared.config.GraphSource.{GraphSource}
use Rattle.shd_config.specs.declared.config.GraphSource.TheVariants as sources
use Rattle.net_iface.specs.declared.lane.QueueRule.{QueueRule}
use Rattle.net_iface.specs.declared.lane.QueueRule.TheVariants.{Fifo, Codel}
use Rattle.host_rows.specs.declared.row.FinalState.{FinalState}
use Rattle.host_rows.specs.declared.row.FinalState.TheVariants.{Exited, Signaled, Running}
use Rattle.shd_config.specs.declared.config.Variable.{Variable}
use Rattle.shd_config.specs.declared.config.ProcessConfig.{ProcessConfig}
use Rattle.shd_config.specs.declared.config.HostConfig.{HostConfig}
use Rattle.shd_config.specs.declared.config.Config.{Config}
use Rattle.shown_config.specs.Plain.{IsPlainVariable, IsPlainState, IsShutdown, IsPlainProcess, IsRate, IsPlainHost, IsPlainGraph, IsPlain}
use Rattle.shown_config.proofs.words.Words.{is_bare, is_other, begins_with_letter, last_byte, IsBare}
use Rattle.shown_config.proofs.words.Words.Word.{bare, quote}
use Rattle.shown_config.proofs.forms.Forms.{AreWords, AreEntries}
use Rattle.shown_config.proofs.forms.Cells.{Cell, IsCell}
use Rattle.shown_config.proofs.forms.Cells.Cell.{word}
use Rattle.shown_config.proofs.blocks.Blocks.{Leaf, Block}
use Rattle.shown_config.proofs.blocks.BlockTokens.{AreLeaves, IsItem, AreItems, IsSpelled}
use Rattle.shown_config.proofs.words.Decimals.{decimal_bare, unit_bare, address_bare}
use Rattle.shown_config.proofs.config.ConfigBlock.{time_cell, general_block, graph_block, network_block, variable_words, state_cell, shutdown_leaves, process_item, processes_block, leaf_if, option_entries, rate_cell, host_block, hosts_block, config_block}

-- ---- known words

is_bare_text : List ℕ → Bool
is_bare_text text = list_all is_bare text && (begins_with_letter text && (not (is_space (last_byte text)) && not (is_null text)))

not_true : (a : Bool) → not a ≡ true → a ≡ false
not_true true h = absurd (true≢false (sym h))
not_true false h = refl

known : (text : List ℕ) → is_bare_text text ≡ true → IsBare text
unfolding is_bare_text
known text h =
    let a = and_parts (list_all is_bare text) _ h in
    let b = and_parts (begins_with_letter text) _ a.1 in
    let c = and_parts (not (is_space (last_byte text))) (not (is_null text)) b.1 in
    record { bytes = a.0; first = b.0; last = not_true _ c.0; other = not_true _ c.1 }

signal_bare : (s : Signal) → IsBare (signal_name s)
unfolding is_bare_text
signal_bare SigHup = known _ refl
signal_bare SigInt = known _ refl
signal_bare SigQuit = known _ refl
signal_bare SigIll = known _ refl
signal_bare SigTrap = known _ refl
signal_bare SigAbrt = known _ refl
signal_bare SigBus = known _ refl
signal_bare SigFpe = known _ refl
signal_bare SigKill = known _ refl
signal_bare SigUsr1 = known _ refl
signal_bare SigSegv = known _ refl
signal_bare SigUsr2 = known _ refl
signal_bare SigPipe = known _ refl
signal_bare SigAlrm = known _ refl
signal_bare SigTerm = known _ refl
signal_bare SigXcpu = known _ refl

truth_bare : (b : Bool) → IsBare (shown_truth b)
unfolding is_bare_text
truth_bare true = known _ refl
truth_bare false = known _ refl

rule_bare : (r : QueueRule) → IsBare (shown_rule r)
unfolding is_bare_text
rule_bare Fifo = known _ refl
rule_bare Codel = known _ refl

time_bare : (t : Time) → t.nanos < 2 ^ 64 → IsCell (time_cell t)
time_bare t h = unit_bare t.nanos (codes " ns") h refl (omega arith) refl

-- ---- spelled

general_spelled : (c : Config) → IsPlain c → IsSpelled (general_block c)
unfolding is_bare_text
general_spelled c h = (
  known _ refl,
  time_bare c.stop_time (omega (arith, h.stop)),
  (
    known _ refl,
    decimal_bare c.seed (omega (arith, h.seed)),
    (
      known _ refl,
      decimal_bare c.parallelism (omega (arith, h.parallelism)),
      (
        known _ refl,
        time_bare c.bootstrap_end_time h.bootstrap,
        (known _ refl, h.directory, tt),
      ),
    ),
  ),
)

graph_spelled : (g : GraphSource) → IsPlainGraph g → IsSpelled (graph_block g)
unfolding is_bare_text
graph_spelled sources.OneGbitSwitch h = (known _ refl, known _ refl, tt)
graph_spelled (sources.Inline text) h = (known _ refl, known _ refl, (known _ refl, h, tt))
graph_spelled (sources.File name) h = (known _ refl, known _ refl, (known _ refl, (known _ refl, h, tt), tt))

network_spelled : (c : Config) → IsPlain c → IsSpelled (network_block c)
unfolding is_bare_text
network_spelled c h = (known _ refl, graph_spelled c.graph h.graph, (known _ refl, truth_bare c.use_shortest_path, (known _ refl, rule_bare c.router_queue, tt)))

args_words : (args : List (List ℕ)) → AllByRecursion IsUtf8 args → AreWords (map quote args)
args_words [] h = tt
args_words (a ∷ args) h = (h.0, args_words args h.1)

environment_words : (vs : List Variable) → AllByRecursion IsPlainVariable vs → AreEntries (map variable_words vs)
environment_words [] h = tt
environment_words (v ∷ vs) h = (h.0.name, h.0.value, environment_words vs h.1)

state_words : (s : FinalState) → IsPlainState s → IsCell (state_cell s)
unfolding is_bare_text
state_words (Exited status) h = (known _ refl, decimal_bare status (omega (arith, h)), tt)
state_words (Signaled signal) h = (known _ refl, signal_bare signal, tt)
state_words Running h = known _ refl

shutdown_words : (start : Time) (o : Option Time) (rest : List Leaf) → IfSome o (IsShutdown start) → AreLeaves rest → AreLeaves (shutdown_leaves o rest)
unfolding is_bare_text
shutdown_words start None rest h k = k
shutdown_words start (Some t) rest h k = (known _ refl, time_bare t h.1, k)

process_words : (p : ProcessConfig) → IsPlainProcess p → IsItem (process_item p)
unfolding is_bare_text
process_words p h = (
  known _ refl,
  h.path,
  (
    known _ refl,
    args_words p.args (recursion_from_All IsUtf8 p.args h.args),
    (
      known _ refl,
      environment_words p.environment (recursion_from_All IsPlainVariable p.environment h.environment),
      (
        known _ refl,
        time_bare p.start_time h.start,
        shutdown_words p.start_time p.shutdown_time _ h.shutdown (known _ refl, signal_bare p.shutdown_signal, (known _ refl, state_words p.expected_final_state h.state, tt)),
      ),
    ),
  ),
)

processes_words : (ps : List ProcessConfig) → AllByRecursion IsPlainProcess ps → AreItems (map process_item ps)
processes_words [] h = tt
processes_words (p ∷ ps) h = (process_words p h.0, processes_words ps h.1)

processes_spelled : (ps : List ProcessConfig) → AllByRecursion IsPlainProcess ps → IsSpelled (processes_block ps)
unfolding is_bare_text
processes_spelled [] h = (known _ refl, tt, tt)
processes_spelled (p ∷ ps) h = (known _ refl, process_words p h.0, processes_words ps h.1, tt)

if_spelled : {A : Type 0} (P : A → Type 0) (key : List ℕ) (cell : A → Cell) (o : Option A) (rest : Block) → IsBare key → ((x : A) → P x → IsCell (cell x)) → IfSome o P → IsSpelled rest → IsSpelled (leaf_if key cell o rest)
if_spelled P key cell None rest k f h r = r
if_spelled P key cell (Some x) rest k f h r = (k, f x h, r)

options_spelled : (enabled all : Bool) (size : ℕ) (rest : Block) → size ≤ 65535 → IsSpelled rest → IsSpelled (leaf_if (codes "host_options") (λ cell. cell) (option_entries enabled all size) rest)
unfolding is_bare_text
options_spelled false true size rest h k = k
options_spelled false false size rest h k = (known _ refl, (known _ refl, unit_bare size (codes " B") (omega (arith, h)) refl (omega arith) refl, tt), k)
options_spelled true true size rest h k = (known _ refl, (known _ refl, known _ refl, tt), k)
options_spelled true false size rest h k = (known _ refl, (known _ refl, known _ refl, (known _ refl, unit_bare size (codes " B") (omega (arith, h)) refl (omega arith) refl, tt)), k)

pub address_small : (ip : Ip) → may_be_host ip ≡ true → ip.bits < 2 ^ 32
address_small ip h =
    let a = and_parts (is_within 0x0100_0000 0xdfff_ffff ip.bits) (not (is_within 0x7f00_0000 0x7fff_ffff ip.bits)) h in
    let b = and_parts (nat_le 0x0100_0000 ip.bits) (nat_le ip.bits 0xdfff_ffff) a.0 in
    let le : ip.bits ≤ 0xdfff_ffff = leb-true ip.bits 0xdfff_ffff b.1 in
    omega arith

rate_bare : (n : ℕ) → IsRate n → IsCell (rate_cell n)
rate_bare n h = unit_bare n (codes " bit") h.1 refl (omega arith) refl

host_spelled : (h : HostConfig) → IsPlainHost h → IsSpelled (host_block h)
unfolding is_bare_text
host_spelled h p = (
  known _ refl,
  decimal_bare h.network_node_id (omega (arith, p.node)),
  if_spelled (λ ip. may_be_host ip ≡ true) (codes "ip_addr") (λ ip. word (bare (shown_address ip))) h.ip_addr _ (known _ refl) (λ ip k. address_bare ip (address_small ip k)) p.address
      (if_spelled IsRate (codes "bandwidth_up") rate_cell h.bandwidth_up _ (known _ refl) rate_bare p.up
      (if_spelled IsRate (codes "bandwidth_down") rate_cell h.bandwidth_down _ (known _ refl) rate_bare p.down
      (options_spelled h.pcap_enabled (h.pcap_capture_size == 65535) h.pcap_capture_size _ p.capture.1
      (processes_spelled h.processes (recursion_from_All IsPlainProcess h.processes p.processes))))),
)

-- ---- names of hosts

name_byte_ascii : (b : ℕ) → is_name_byte b ≡ true → b < 128
name_byte_ascii b h = grind (arith, nat_tests)

letter_ascii : (b : ℕ) → is_ascii_alphanumeric b ≡ true → b < 128
letter_ascii b h = grind (arith, nat_tests)

names_ascii : (bytes : List ℕ) → list_all is_name_byte bytes ≡ true → IsAscii bytes
names_ascii [] h = IsAscii-nil
names_ascii (b ∷ bytes) h = let k = and_parts (is_name_byte b) _ h in IsAscii-cons b bytes (name_byte_ascii b k.0) (names_ascii bytes k.1)

name_utf8 : (name : List ℕ) → is_name_of_host name ≡ true → IsUtf8 name
name_utf8 [] h = absurd (true≢false (sym h))
name_utf8 (b ∷ bytes) h =
    let k = and_parts (is_ascii_alphanumeric b && _) (list_all is_name_byte bytes) h in
    IsUtf8-from_ascii (b ∷ bytes) (IsAscii-cons b bytes (letter_ascii b (and_parts (is_ascii_alphanumeric b) _ k.0).0) (names_ascii bytes k.1))

pub name_other : (name : List ℕ) → is_name_of_host name ≡ true → is_merge_key name ≡ false
name_other [] h = absurd (true≢false (sym h))
name_other (b ∷ bytes) h =
    let k = and_parts (is_ascii_alphanumeric b && _) (list_all is_name_byte bytes) h in
    rw (is_other is_ascii_alphanumeric b 60 (and_parts (is_ascii_alphanumeric b) _ k.0).0 refl) refl

hosts_spelled : (hs : List HostConfig) → AllByRecursion IsPlainHost hs → IsSpelled (hosts_block hs)
hosts_spelled [] h = tt
hosts_spelled (x ∷ hs) h = (name_utf8 x.name h.0.name, host_spelled x h.0, hosts_spelled hs h.1)

pub config_spelled : (c : Config) → IsPlain c → IsSpelled (config_block c)
unfolding is_bare_text
config_spelled c h = (
  known _ refl,
  general_spelled c h,
  (
    known _ refl,
    network_spelled c h,
    (known _ refl, hosts_spelled c.hosts (recursion_from_All IsPlainHost c.hosts h.hosts), tt),
  ),
)
