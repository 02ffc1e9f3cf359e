-- what is read of a tree of texts are texts
use Rattle.shd_config.specs.declared.options.HostOptions.{HostOptions}
use Rattle.shd_config.specs.declared.config.ProcessConfig.{ProcessConfig}
use Rattle.shd_config.specs.declared.config.Variable.{Variable}
use Rattle.std.proofs.Common.{Bool, Err, IfOk, IfSome, List, None, Ok, Option, Result, Some, [], codes, false, is_some, length, map, nat_le, option_map, true, ℕ, ◌++◌, ◌∷◌}
use Rattle.std.specs.List.{AllByRecursion}
use Rattle.std.specs.Str.{IsUtf8}
use Rattle.config_texts.proofs.Lists.{all_pushed, or_none, through_members}
use Rattle.config_texts.proofs.Trees.{PairIsText, SaidIsText, merged_text}
use Rattle.shown_config.proofs.plain.SplitWords.{words_has}
use Rattle.config_texts.specs.Texts.{AreUtf8, HasTexts, HostIsText, ProcessIsText, VariableIsText}
use Rattle.shd_config.proofs.Walks.{below_has, checked_has, kept_or_read, needed_has, optional_has, valued_has}
use Rattle.shd_config.specs.Config.{config, experimental_at, general_or, is_passed_over, kept, merged_config, new_root, root, root_key, root_of, root_row, wrong_merge}
use Rattle.shd_config.specs.General.{general_at}
use Rattle.shd_config.specs.Host.{host_at, host_key, host_of, host_row, hosts_at, hosts_row, new_host, options_at, completed}
use Rattle.shd_config.specs.Keys.{key_of}
use Rattle.shd_config.specs.Network.{network_at}
use Rattle.shd_config.specs.Process.{argument_row, arguments_at, arguments_in, environment_at, finished_process, new_process, process_at, process_in, process_item, process_key, process_of, process_row, processes_at, shutdown_at, start_in, state_at, texts_size, variable_row}
use Rattle.shd_config.specs.Steps.{given, item, mapping_line, needed, optional, through}
use Rattle.shd_config.specs.Values.{address_at, is_within, mapping_at, number_at, rate_at, sequence_at, signal_at, text_at, text_with, time_at}
use Rattle.shd_config.specs.declared.fault.ConfigKind.TheVariants.{BadValue, OutOfRange, WrongType}
use Rattle.shd_config.specs.declared.host.HostDraft.{HostDraft}
use Rattle.shd_config.specs.declared.host.HostRead.{HostRead}
use Rattle.shd_config.specs.declared.overrides.Overrides.{Overrides}
use Rattle.shd_config.specs.declared.process.ProcessDraft.{ProcessDraft}
use Rattle.shd_config.specs.declared.reading.RootDraft.{RootDraft}
use Rattle.shd_values.specs.Word.{is_name_of_host, names_program}
use Rattle.shd_values.specs.Words.{words_of}
use Rattle.sim_base.specs.Limits.{most_hosts, most_processes, most_text_bytes}
use Rattle.sim_base.specs.Refusals.{◌>>=◌}
use Rattle.sim_base.specs.Units.{max_u32}
use Rattle.sim_base.specs.declared.time.Time.{Time}
use Rattle.sim_base.proofs.RefusalLemmas.{then_has, then_all}
use Rattle.yaml_merge.specs.Merge.{merged}
use Rattle.yaml_merge.specs.Plain.{items_in, line_of, pairs_in, text_in}
use Rattle.yaml_merge.specs.declared.fault.MergeFault.{MergeFault}
use Rattle.yaml_merge.specs.declared.plain.Pair.{Pair}
use Rattle.shd_config.specs.declared.key.Key.{Key}
use Rattle.shd_config.specs.declared.key.Key.TheVariants as keys
use Rattle.yaml_tree.specs.Said.{Said}
use Rattle.yaml_tree.specs.Said.Said.{null, text, unknown, sequence, mapping, with_item, with_pair}

-- ---- the kinds of values

items_text : (v : Said) → SaidIsText v → IfSome (items_in v) (λ (items : List Said). AllByRecursion SaidIsText items)
items_text (null line) h = tt
items_text (text line bytes) h = tt
items_text (unknown line) h = tt
items_text (sequence line) h = tt
items_text (mapping line) h = tt
items_text (with_item before value) h = by (items_in before) (items_text before h.0)
  where
    by : (o : Option (List Said)) → IfSome o (λ (items : List Said). AllByRecursion SaidIsText items) → IfSome (option_map (λ (items : List Said). items ++ value ∷ []) o) (λ (items : List Said). AllByRecursion SaidIsText items)
    by None k = tt
    by (Some items) k = all_pushed SaidIsText items value k h.1
items_text (with_pair before line key value) h = tt

pairs_in_text : (v : Said) → SaidIsText v → IfSome (pairs_in v) (λ (pairs : List Pair). AllByRecursion PairIsText pairs)
pairs_in_text (null line) h = tt
pairs_in_text (text line bytes) h = tt
pairs_in_text (unknown line) h = tt
pairs_in_text (sequence line) h = tt
pairs_in_text (mapping line) h = tt
pairs_in_text (with_item before value) h = tt
pairs_in_text (with_pair before line key value) h = by (pairs_in before) (pairs_in_text before h.0)
  where
    p : Pair
    p = record { line = line; key = key; value = value }

    by : (o : Option (List Pair)) → IfSome o (λ (pairs : List Pair). AllByRecursion PairIsText pairs) → IfSome (option_map (λ (pairs : List Pair). pairs ++ (record { line = line; key = key; value = value }) ∷ []) o) (λ (pairs : List Pair). AllByRecursion PairIsText pairs)
    by None k = tt
    by (Some pairs) k = all_pushed PairIsText pairs (record { line = line; key = key; value = value }) k (h.1, h.2)

text_in_text : (v : Said) → SaidIsText v → IfSome (text_in v) IsUtf8
text_in_text (null line) h = tt
text_in_text (text line bytes) h = h
text_in_text (unknown line) h = tt
text_in_text (sequence line) h = tt
text_in_text (mapping line) h = tt
text_in_text (with_item before value) h = tt
text_in_text (with_pair before line key value) h = tt

abbrev ArePairs : List Pair → Type 0
ArePairs pairs = AllByRecursion PairIsText pairs

mapping_text : (p : Pair) → SaidIsText p.value → IfOk (mapping_at p) ArePairs
mapping_text p h = valued_has ArePairs WrongType p (pairs_in p.value) (pairs_in_text p.value h)

sequence_text : (p : Pair) → SaidIsText p.value → IfOk (sequence_at p) (λ (items : List Said). AllByRecursion SaidIsText items)
sequence_text p h = valued_has (λ (items : List Said). AllByRecursion SaidIsText items) WrongType p (items_in p.value) (items_text p.value h)

scalar_text : (p : Pair) → SaidIsText p.value → IfOk (text_at p) IsUtf8
scalar_text p h = valued_has IsUtf8 WrongType p (text_in p.value) (text_in_text p.value h)

tested_text : (test : List ℕ → Bool) (p : Pair) → SaidIsText p.value → IfOk (text_with test p) IsUtf8
tested_text test p h =
    then_has IsUtf8 IsUtf8 (text_at p) _ (scalar_text p h) (λ found k. checked_has IsUtf8 BadValue p (test found) _ (λ e. k))

-- ---- a process

argument_text : (key : List ℕ) (before : List (List ℕ)) (value : Said) → AreUtf8 before → SaidIsText value → IfOk (argument_row key before value) AreUtf8
argument_text key before value h k =
    then_has IsUtf8 AreUtf8 (text_at (item key (length before) value)) _ (scalar_text (item key (length before) value) k) (λ found m. all_pushed IsUtf8 before found h m)

arguments_by : (p : Pair) (items : Option (List Said)) → SaidIsText p.value → IfSome items (λ (xs : List Said). AllByRecursion SaidIsText xs) → IfOk (arguments_in p items) AreUtf8
arguments_by p (Some items) h k = through_members AreUtf8 SaidIsText (argument_row p.key) (argument_text p.key) [] items tt k
arguments_by p None h k =
    then_has IsUtf8 AreUtf8 (text_at p) _ (scalar_text p h) (λ found m. valued_has AreUtf8 BadValue p (words_of found) (words_has found m))

arguments_text : (p : Pair) → SaidIsText p.value → IfOk (arguments_at p) AreUtf8
unfolding arguments_at
arguments_text p h = arguments_by p (items_in p.value) h (items_text p.value h)

abbrev AreVariables : List Variable → Type 0
AreVariables vs = AllByRecursion VariableIsText vs

variable_text : (before : List Variable) (p : Pair) → AreVariables before → PairIsText p → IfOk (variable_row before p) AreVariables
variable_text before p h k =
    then_has IsUtf8 AreVariables (text_at p) _ (scalar_text p k.1)
    (λ found m. all_pushed VariableIsText before (record { name = p.key; value = found }) h (k.0, m))

environment_text : (p : Pair) → SaidIsText p.value → IfOk (environment_at p) AreVariables
unfolding environment_at
environment_text p h =
    then_has ArePairs AreVariables (mapping_at p) _ (mapping_text p h)
    (λ pairs k. below_has AreVariables p (through variable_row [] pairs) (through_members AreVariables PairIsText variable_row variable_text [] pairs tt k))

abbrev DraftIsText : ProcessDraft → Type 0
DraftIsText d = IfSome d.path IsUtf8 × AreUtf8 d.args × AreVariables d.environment

process_key_text : (first : Option Time) (key : Option Key) (d : ProcessDraft) (p : Pair) → DraftIsText d → SaidIsText p.value → IfOk (process_key first key d p) DraftIsText
process_key_text first (Some keys.Path) d p h k =
    then_has IsUtf8 DraftIsText (text_with names_program p) _ (tested_text names_program p k) (λ v m. (m, h.1, h.2))
process_key_text first (Some keys.Args) d p h k =
    then_has (λ (o : Option (List (List ℕ))). IfSome o AreUtf8) DraftIsText (optional p (arguments_at p)) _
    (optional_has AreUtf8 p (arguments_at p) (arguments_text p k)) (λ v m. (h.0, or_none IsUtf8 v m, h.2))
process_key_text first (Some keys.Environment) d p h k =
    then_has (λ (o : Option (List Variable)). IfSome o AreVariables) DraftIsText (optional p (environment_at p)) _
    (optional_has AreVariables p (environment_at p) (environment_text p k)) (λ v m. (h.0, h.1, or_none VariableIsText v m))
process_key_text first (Some keys.StartTime) d p h k = then_all DraftIsText (optional p (time_at p)) _ (λ v. h)
process_key_text first (Some keys.ShutdownTime) d p h k = then_all DraftIsText (optional p (shutdown_at first p)) _ (λ v. h)
process_key_text first (Some keys.ShutdownSignal) d p h k = then_all DraftIsText (optional p (signal_at p)) _ (λ v. h)
process_key_text first (Some keys.ExpectedFinalState) d p h k = then_all DraftIsText (optional p (state_at p)) _ (λ v. h)
process_key_text first _ d p h k = tt

finished_process_text : (line : ℕ) (d : ProcessDraft) → DraftIsText d → IfOk (finished_process line d) ProcessIsText
finished_process_text line d h =
    then_has IsUtf8 ProcessIsText (needed (codes "path") line d.path) _ (needed_has IsUtf8 (codes "path") line d.path h.0) (λ path k. (k, h.1, h.2))

process_of_text : (line : ℕ) (pairs : List Pair) → ArePairs pairs → IfOk (process_of line pairs) ProcessIsText
unfolding process_of
process_of_text line pairs all =
    then_has DraftIsText ProcessIsText (through (process_row (start_in pairs)) new_process pairs) _
    (through_members DraftIsText PairIsText (process_row (start_in pairs)) (λ d p h k. process_key_text (start_in pairs) (key_of p.key) d p h k.1) new_process pairs (tt, tt, tt) all)
    (λ d h. finished_process_text (mapping_line line pairs) d h)

process_in_text : (p : Pair) → SaidIsText p.value → IfOk (process_in p) ProcessIsText
unfolding process_in
process_in_text p h =
    then_has ArePairs ProcessIsText (mapping_at p) _ (mapping_text p h) (λ pairs k. below_has ProcessIsText p (process_of p.line pairs) (process_of_text p.line pairs k))

process_text : (p : Pair) → SaidIsText p.value → IfOk (process_at p) ProcessIsText
unfolding process_at
process_text p h =
    then_has ProcessIsText ProcessIsText (process_in p) _ (process_in_text p h)
    (λ c k. checked_has ProcessIsText OutOfRange p (nat_le (texts_size c) most_text_bytes) _ (λ e. k))

abbrev AreProcesses : List ProcessConfig → Type 0
AreProcesses ps = AllByRecursion ProcessIsText ps

process_item_text : (key : List ℕ) (before : List ProcessConfig) (value : Said) → AreProcesses before → SaidIsText value → IfOk (process_item key before value) AreProcesses
process_item_text key before value h k =
    then_has ProcessIsText AreProcesses (process_at (item key (length before) value)) _ (process_text (item key (length before) value) k)
    (λ c m. all_pushed ProcessIsText before c h m)

processes_text : (p : Pair) → SaidIsText p.value → IfOk (processes_at p) AreProcesses
unfolding processes_at
processes_text p h =
    then_has (λ (items : List Said). AllByRecursion SaidIsText items) AreProcesses (sequence_at p) _ (sequence_text p h)
    (λ items k. checked_has AreProcesses OutOfRange p (nat_le (length items) most_processes) _
    (λ e. through_members AreProcesses SaidIsText (process_item p.key) (process_item_text p.key) [] items tt k))

-- ---- a host

abbrev HostDraftIsText : HostDraft → Type 0
HostDraftIsText d = AreProcesses d.processes

abbrev HostReadIsText : HostRead → Type 0
HostReadIsText h = IsUtf8 h.name × AreProcesses h.processes

host_key_text : (key : Option Key) (d : HostDraft) (p : Pair) → HostDraftIsText d → SaidIsText p.value → IfOk (host_key key d p) HostDraftIsText
host_key_text (Some keys.NetworkNodeId) d p h k = then_all HostDraftIsText (number_at 0 max_u32 p) _ (λ v. h)
host_key_text (Some keys.IpAddr) d p h k = then_all HostDraftIsText (optional p (address_at p)) _ (λ v. h)
host_key_text (Some keys.BandwidthUp) d p h k = then_all HostDraftIsText (optional p (rate_at p)) _ (λ v. h)
host_key_text (Some keys.BandwidthDown) d p h k = then_all HostDraftIsText (optional p (rate_at p)) _ (λ v. h)
host_key_text (Some keys.HostOptions) d p h k = then_all HostDraftIsText (optional p (options_at p)) _ (λ v. h)
host_key_text (Some keys.Processes) d p h k =
    then_has (λ (o : Option (List ProcessConfig)). IfSome o AreProcesses) HostDraftIsText (optional p (processes_at p)) _
    (optional_has AreProcesses p (processes_at p) (processes_text p k)) (λ v m. or_none ProcessIsText v m)
host_key_text _ d p h k = tt

host_of_text : (p : Pair) (pairs : List Pair) → IsUtf8 p.key → ArePairs pairs → IfOk (host_of p pairs) HostReadIsText
unfolding host_of
host_of_text p pairs name all =
    then_has HostDraftIsText HostReadIsText (through host_row new_host pairs) _
    (through_members HostDraftIsText PairIsText host_row (λ d q h k. host_key_text (key_of q.key) d q h k.1) new_host pairs tt all)
    (λ d h. then_all HostReadIsText (needed (codes "network_node_id") (mapping_line p.line pairs) d.network_node_id) _ (λ node. (name, h)))

host_text : (p : Pair) → PairIsText p → IfOk (host_at p) HostReadIsText
unfolding host_at
host_text p h =
    checked_has HostReadIsText BadValue p (is_name_of_host p.key) _
    (λ e. then_has ArePairs HostReadIsText (mapping_at p) _ (mapping_text p h.1) (λ pairs k. below_has HostReadIsText p (host_of p pairs) (host_of_text p pairs h.0 k)))

abbrev AreHosts : List HostRead → Type 0
AreHosts hs = AllByRecursion HostReadIsText hs

hosts_row_text : (before : List HostRead) (p : Pair) → AreHosts before → PairIsText p → IfOk (hosts_row before p) AreHosts
hosts_row_text before p h k =
    then_has HostReadIsText AreHosts (host_at p) _ (host_text p k) (λ host m. all_pushed HostReadIsText before host h m)

hosts_text : (p : Pair) → SaidIsText p.value → IfOk (hosts_at p) AreHosts
unfolding hosts_at
hosts_text p h =
    then_has ArePairs AreHosts (mapping_at p) _ (mapping_text p h)
    (λ pairs k. checked_has AreHosts OutOfRange p (is_within 1 most_hosts (length pairs)) _
    (λ e. below_has AreHosts p (through hosts_row [] pairs) (through_members AreHosts PairIsText hosts_row hosts_row_text [] pairs tt k)))

-- ---- the configuration

abbrev RootIsText : RootDraft → Type 0
RootIsText d = IfSome d.hosts AreHosts

completed_text : (all : HostOptions) (hosts : List HostRead) → AreHosts hosts → AllByRecursion HostIsText (map (completed all) hosts)
completed_text all [] h = tt
completed_text all (x ∷ hosts) h = (h.0, completed_text all hosts h.1)

module _ (o : Overrides) where
  root_key_text : (key : Option Key) (d : RootDraft) (p : Pair) → RootIsText d → SaidIsText p.value → IfOk (root_key o key d p) RootIsText
  root_key_text (Some keys.General) d p h k = then_all RootIsText (given (is_some o.stop_time) p (general_at o p)) _ (λ v. h)
  root_key_text (Some keys.Network) d p h k = then_all RootIsText (network_at p) _ (λ v. h)
  root_key_text (Some keys.Hosts) d p h k = then_has AreHosts RootIsText (hosts_at p) _ (hosts_text p k) (λ v m. m)
  root_key_text (Some keys.HostOptionDefaults) d p h k = then_all RootIsText (optional p (options_at p)) _ (λ v. h)
  root_key_text (Some keys.Experimental) d p h k = then_all RootIsText (optional p (experimental_at p)) _ (λ v. h)
  root_key_text _ d p h k = tt

  root_text : (line : ℕ) (pairs : List Pair) → ArePairs pairs → IfOk (root_of o line pairs) HasTexts
  unfolding root_of
  root_text line pairs all =
      then_has RootIsText HasTexts (through (root_row o) new_root pairs) _
      (through_members RootIsText PairIsText (root_row o) (λ d p h k. kept_or_read RootIsText (is_passed_over p) d (root_key o (key_of p.key) d p) h (root_key_text (key_of p.key) d p h k.1)) new_root pairs tt all)
      (λ d h. then_all HasTexts (general_or o (mapping_line line (kept pairs)) d.general) _
      (λ general. then_all HasTexts (needed (codes "network") (mapping_line line (kept pairs)) d.network) _
      (λ network. then_has AreHosts HasTexts (needed (codes "hosts") (mapping_line line (kept pairs)) d.hosts) _ (needed_has AreHosts (codes "hosts") (mapping_line line (kept pairs)) d.hosts h)
      (λ hosts k. completed_text d.options hosts k))))

  merged_config_text : (empty : Bool) (tree : Said) → SaidIsText tree → IfOk (merged_config o empty tree) HasTexts
  merged_config_text true tree h = root_text 1 [] tt
  merged_config_text false tree h =
      then_has ArePairs HasTexts (mapping_at (root tree)) _ (mapping_text (root tree) h) (λ pairs k. root_text (line_of tree) pairs k)

  by_merged : (empty : Bool) (r : Result Said MergeFault) → IfOk r SaidIsText → IfOk (wrong_merge r >>= merged_config o empty) HasTexts
  by_merged empty (Ok tree) h = merged_config_text empty tree h
  by_merged empty (Err f) h = tt

  pub config_text : (empty : Bool) (tree : Said) → SaidIsText tree → IfOk (config o empty tree) HasTexts
  unfolding config
  config_text empty tree h = by_merged empty (merged tree) (merged_text tree h)
