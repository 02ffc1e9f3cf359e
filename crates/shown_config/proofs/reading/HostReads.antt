-- The hosts are read as they were shown, but for the lines of their keys.
use Rattle.std.proofs.Common.{◌≡◌, ℕ, suc, ◌+◌, ◌-◌, ◌≤◌, ◌^◌, ◌==◌, Bool, true, false, List, [], ◌∷◌, ◌++◌, map, length, Option, Some, None, IfSome, Ok, codes, refl, sym, ap, ◌∙◌, arith, append_assoc, append-nil, eqb-true}
use Rattle.std.specs.List.{AllByRecursion}
use Rattle.std.proofs.lemmas.List.Elements.{recursion_from_All}
use Rattle.sim_base.specs.Refusals.{◌>>=◌}
use Rattle.sim_base.specs.declared.address.Ip.{Ip}
use Rattle.sim_base.proofs.RefusalLemmas.{then_is}
use Rattle.shd_values.specs.Address.{address_of}
use Rattle.shd_values.specs.Word.{is_name_of_host}
use Rattle.yaml_tree.specs.Said.Said.{sequence, mapping}
use Rattle.shd_config.specs.declared.config.ProcessConfig.{ProcessConfig}
use Rattle.shd_config.specs.declared.config.HostConfig.{HostConfig}
use Rattle.shd_config.specs.declared.options.HostOptions.{HostOptions}
use Rattle.shd_config.specs.declared.host.HostDraft.{HostDraft}
use Rattle.shd_config.specs.declared.host.HostRead.{HostRead}
use Rattle.shd_config.specs.declared.fault.ConfigKind.TheVariants.{OutOfRange, BadValue}
use Rattle.shd_config.specs.Steps.{valued, checked, below, through, mapping_line}
use Rattle.shd_config.specs.Keys.{key_of}
use Rattle.shd_config.specs.Values.{mapping_at, scalar_at, ranged, is_within, address_at, may_be_host}
use Rattle.shd_config.specs.Process.{processes_at}
use Rattle.shd_config.specs.Host.{no_options, options_at, new_host, host_row, finished_host, host_of, host_at, hosts_row, hosts_at, completed}
use Rattle.config_lines.specs.Shown.{shown_address}
use Rattle.shown_config.specs.Plain.{IsRate, IsPlainProcess, IsPlainHost}
use Rattle.shown_config.specs.Same.{without_line}
use Rattle.shown_config.proofs.words.Words.Word.{bare, quote}
use Rattle.shown_config.proofs.forms.Cells.Cell.{word}
use Rattle.shown_config.proofs.blocks.Blocks.{Block, block_said, after_block, block_pairs, pair_at}
use Rattle.shown_config.proofs.blocks.BlockSaid.{block_pairs_is}
use Rattle.shown_config.proofs.config.ConfigBlock.{process_item, processes_block, leaf_if, option_entries, rate_cell, host_block, hosts_block}
use Rattle.shown_config.proofs.config.ConfigWords.{address_small}
use Rattle.shown_config.proofs.reading.ReadSteps.{through_ok, mapping_ok, checked_ok, ranged_ok, text_pair, number_ok, rate_ok, size_ok, within_ok, items_not_null}
use Rattle.shown_config.proofs.reading.ProcessReads.{processes_reads}
use Rattle.shown_config.proofs.words.Decimals.{address_read}

-- ---- values

address_ok : (ip : Ip) (line : ℕ) (key : List ℕ) → may_be_host ip ≡ true → address_at (text_pair line key (shown_address ip)) ≡ Ok ip
address_ok ip line key h =
    let p = text_pair line key (shown_address ip) in
    then_is (scalar_at address_of p) (ranged may_be_host p) ip (Ok ip) (ap (valued BadValue p) (address_read ip (address_small ip h))) (ranged_ok may_be_host p ip h)

-- the options that are read
abbrev read_options : Bool → Bool → ℕ → HostOptions
read_options false true size = record { pcap_enabled = None; pcap_capture_size = None }
read_options false false size = record { pcap_enabled = None; pcap_capture_size = Some size }
read_options true true size = record { pcap_enabled = Some true; pcap_capture_size = None }
read_options true false size = record { pcap_enabled = Some true; pcap_capture_size = Some size }

-- ---- a host

abbrev draft : ℕ → Option Ip → Option ℕ → Option ℕ → HostOptions → List ProcessConfig → HostDraft
draft node ip up down options processes = record { network_node_id = Some node; ip_addr = ip; bandwidth_up = up; bandwidth_down = down; options = options; processes = processes }

-- these rows, from any line on, lead from one draft to another
abbrev Leads : HostDraft → Block → HostDraft → Type 0
Leads before rows after = (n : ℕ) → through host_row before (block_pairs n rows) ≡ Ok after

processes_lead : (node : ℕ) (ip : Option Ip) (up down : Option ℕ) (options : HostOptions) (ps : List ProcessConfig) → length ps ≤ 64 → AllByRecursion IsPlainProcess ps → Leads (draft node ip up down options []) (processes_block ps) (draft node ip up down options ps)
unfolding key_of processes_at
processes_lead node ip up down options [] few h n = refl
processes_lead node ip up down options (p ∷ ps) few h n =
    rw (items_not_null (1 + n) (sequence (1 + n)) (map process_item (p ∷ ps)) refl, processes_reads (1 + n) n (codes "processes") (p ∷ ps) few h) refl

options_lead : (node : ℕ) (ip : Option Ip) (up down : Option ℕ) (enabled all : Bool) (size : ℕ) (rest : Block) (after : HostDraft) → 1 ≤ size → size ≤ 65535
    → Leads (draft node ip up down (read_options enabled all size) []) rest after → Leads (draft node ip up down no_options []) (leaf_if (codes "host_options") (λ cell. cell) (option_entries enabled all size) rest) after
unfolding key_of options_at
options_lead node ip up down false true size rest after a b k n = k n
options_lead node ip up down false false size rest after a b k n = rw (size_ok size n (codes "pcap_capture_size") a b) (k (1 + n))
options_lead node ip up down true true size rest after a b k n = k (1 + n)
options_lead node ip up down true false size rest after a b k n = rw (size_ok size n (codes "pcap_capture_size") a b) (k (1 + n))

down_leads : (node : ℕ) (ip : Option Ip) (up o : Option ℕ) (rest : Block) (after : HostDraft) → IfSome o IsRate → Leads (draft node ip up o no_options []) rest after → Leads (draft node ip up None no_options []) (leaf_if (codes "bandwidth_down") rate_cell o rest) after
unfolding key_of
down_leads node ip up None rest after h k n = k n
down_leads node ip up (Some x) rest after h k n = rw (rate_ok x n (codes "bandwidth_down") h.0 h.1) (k (1 + n))

up_leads : (node : ℕ) (ip : Option Ip) (o : Option ℕ) (rest : Block) (after : HostDraft) → IfSome o IsRate → Leads (draft node ip o None no_options []) rest after → Leads (draft node ip None None no_options []) (leaf_if (codes "bandwidth_up") rate_cell o rest) after
unfolding key_of
up_leads node ip None rest after h k n = k n
up_leads node ip (Some x) rest after h k n = rw (rate_ok x n (codes "bandwidth_up") h.0 h.1) (k (1 + n))

ip_leads : (node : ℕ) (o : Option Ip) (rest : Block) (after : HostDraft) → IfSome o (λ ip. may_be_host ip ≡ true) → Leads (draft node o None None no_options []) rest after → Leads (draft node None None None no_options []) (leaf_if (codes "ip_addr") (λ ip. word (bare (shown_address ip))) o rest) after
unfolding key_of
ip_leads node None rest after h k n = k n
ip_leads node (Some ip) rest after h k n = rw (address_ok ip n (codes "ip_addr") h) (k (1 + n))

abbrev options_of : HostConfig → HostOptions
options_of h = read_options h.pcap_enabled (h.pcap_capture_size == 65535) h.pcap_capture_size

host_leads : (h : HostConfig) → IsPlainHost h → Leads new_host (host_block h) (draft h.network_node_id h.ip_addr h.bandwidth_up h.bandwidth_down (options_of h) h.processes)
unfolding key_of
host_leads h p n =
    rw (number_ok 0 (2 ^ 32 - 1) h.network_node_id n (codes "network_node_id") (omega arith) (omega (arith, p.node)) (omega arith))
    (ip_leads h.network_node_id h.ip_addr _ after p.address
    (up_leads h.network_node_id h.ip_addr h.bandwidth_up _ after p.up
    (down_leads h.network_node_id h.ip_addr h.bandwidth_up h.bandwidth_down _ after p.down
    (options_lead h.network_node_id h.ip_addr h.bandwidth_up h.bandwidth_down h.pcap_enabled (h.pcap_capture_size == 65535) h.pcap_capture_size _ after p.capture.0 p.capture.1
    (processes_lead h.network_node_id h.ip_addr h.bandwidth_up h.bandwidth_down (options_of h) h.processes p.few (recursion_from_All IsPlainProcess h.processes p.processes))))) (1 + n))
  where
    after : HostDraft
    after = draft h.network_node_id h.ip_addr h.bandwidth_up h.bandwidth_down (options_of h) h.processes

abbrev pub host_read : ℕ → HostConfig → HostRead
host_read n h = record {
  name = h.name;
  line = n;
  network_node_id = h.network_node_id;
  ip_addr = h.ip_addr;
  bandwidth_up = h.bandwidth_up;
  bandwidth_down = h.bandwidth_down;
  options = options_of h;
  processes = h.processes;
}

host_reads : (n : ℕ) (h : HostConfig) → IsPlainHost h → host_at (pair_at n (quote h.name) (block_said (1 + n) (mapping (1 + n)) (host_block h))) ≡ Ok (host_read n h)
unfolding host_at host_of
host_reads n h p =
    let q = pair_at n (quote h.name) (block_said (1 + n) (mapping (1 + n)) (host_block h)) in
    let pairs = block_pairs (1 + n) (host_block h) in
    then_is (checked BadValue q (is_name_of_host h.name)) (λ _. mapping_at q >>= λ ps. below q (host_of q ps)) tt (Ok (host_read n h)) (checked_ok BadValue q _ p.name)
    (then_is (mapping_at q) (λ ps. below q (host_of q ps)) pairs (Ok (host_read n h)) (mapping_ok q pairs (block_pairs_is (1 + n) (host_block h)))
    (ap (λ r. below q (r >>= finished_host q (mapping_line q.line pairs))) (host_leads h p (1 + n))))

-- ---- hosts

abbrev pub hosts_read : ℕ → List HostConfig → List HostRead
hosts_read n [] = []
hosts_read n (h ∷ hs) = host_read n h ∷ hosts_read (after_block (1 + n) (host_block h)) hs

hosts_through : (n : ℕ) (before : List HostRead) (hs : List HostConfig) → AllByRecursion IsPlainHost hs → through hosts_row before (block_pairs n (hosts_block hs)) ≡ Ok (before ++ hosts_read n hs)
hosts_through n before [] p = ap Ok (sym (append-nil before))
hosts_through n before (h ∷ hs) p =
    let next = after_block (1 + n) (host_block h) in
    through_ok hosts_row before (before ++ host_read n h ∷ []) (pair_at n (quote h.name) (block_said (1 + n) (mapping (1 + n)) (host_block h))) (block_pairs next (hosts_block hs)) (Ok (before ++ (host_read n h ∷ hosts_read next hs)))
    (ap (λ r. r >>= λ host. Ok (before ++ host ∷ [])) (host_reads n h p.0))
    (hosts_through next (before ++ host_read n h ∷ []) hs p.1 ∙ ap Ok (append_assoc before (host_read n h ∷ []) (hosts_read next hs)))

length_hosts : (n : ℕ) (hs : List HostConfig) → length (block_pairs n (hosts_block hs)) ≡ length hs
length_hosts n [] = refl
length_hosts n (h ∷ hs) = ap suc (length_hosts (after_block (1 + n) (host_block h)) hs)

pub hosts_reads : (n : ℕ) (hs : List HostConfig) → 1 ≤ length hs → length hs ≤ 16384 → AllByRecursion IsPlainHost hs → hosts_at (pair_at n (bare (codes "hosts")) (block_said (1 + n) (mapping (1 + n)) (hosts_block hs))) ≡ Ok (hosts_read (1 + n) hs)
unfolding hosts_at
hosts_reads n hs some few p =
    let q = pair_at n (bare (codes "hosts")) (block_said (1 + n) (mapping (1 + n)) (hosts_block hs)) in
    let pairs = block_pairs (1 + n) (hosts_block hs) in
    let e = length_hosts (1 + n) hs in
    then_is (mapping_at q) (λ ps. checked OutOfRange q (is_within 1 16384 (length ps)) >>= λ _. below q (through hosts_row [] ps)) pairs (Ok (hosts_read (1 + n) hs)) (mapping_ok q pairs (block_pairs_is (1 + n) (hosts_block hs)))
    (then_is (checked OutOfRange q (is_within 1 16384 (length pairs))) (λ _. below q (through hosts_row [] pairs)) tt (Ok (hosts_read (1 + n) hs)) (checked_ok OutOfRange q _ (within_ok 1 16384 (length pairs) (omega (arith, e, some)) (omega (arith, e, few))))
    (ap (below q) (hosts_through (1 + n) [] hs p)))

-- ---- the same hosts

completed_by : (enabled all : Bool) (n size : ℕ) (h : HostConfig) → (size == 65535) ≡ all
    → without_line (completed no_options (record { name = h.name; line = n; network_node_id = h.network_node_id; ip_addr = h.ip_addr; bandwidth_up = h.bandwidth_up; bandwidth_down = h.bandwidth_down; options = read_options enabled all size; processes = h.processes }))
    ≡ record h { line = 0; pcap_enabled = enabled; pcap_capture_size = size }
completed_by false true n size h e = ap (λ (k : ℕ). record h { line = 0; pcap_enabled = false; pcap_capture_size = k }) (sym (eqb-true size 65535 e))
completed_by false false n size h e = refl
completed_by true true n size h e = ap (λ (k : ℕ). record h { line = 0; pcap_enabled = true; pcap_capture_size = k }) (sym (eqb-true size 65535 e))
completed_by true false n size h e = refl

pub hosts_same : (n : ℕ) (hs : List HostConfig) → map without_line (map (completed no_options) (hosts_read n hs)) ≡ map without_line hs
hosts_same n [] = refl
hosts_same n (h ∷ hs) = λ i. completed_by h.pcap_enabled (h.pcap_capture_size == 65535) n h.pcap_capture_size h refl i ∷ hosts_same (after_block (1 + n) (host_block h)) hs i
