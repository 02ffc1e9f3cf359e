-- Each configuration keeps to its limits.
use Rattle.std.specs.Prelude.{if◌then◌else◌}
use Rattle.std.proofs.Common.{◌≡◌, ℕ, ◌+◌, ◌≤◌, ◌&&◌, Bool, true, false, List, [], ◌∷◌, length, map, All, Option, Some, None, IfSome, IfOk, Result, Ok, Err, unwrap_or, is_some, codes, suc, refl, sym, ap, subst, ◌∙◌, arith, nat_le}
use Rattle.std.proofs.lemmas.Bool.{leb-true}
use Rattle.std.proofs.lemmas.List.Elements.{All-nil, All-map, All-weaker}
use Rattle.sim_base.specs.Limits.{most_hosts, most_processes, most_text_bytes}
use Rattle.sim_base.specs.Units.{max_u32, latest_time}
use Rattle.sim_base.specs.declared.time.Time.{Time}
use Rattle.sim_base.proofs.RefusalLemmas.{then_has, then_all, weaker}
use Rattle.yaml_tree.specs.Said.{Said}
use Rattle.yaml_merge.specs.Plain.{line_of}
use Rattle.yaml_merge.specs.declared.plain.Pair.{Pair}
use Rattle.shd_config.specs.declared.fault.ConfigKind.TheVariants.{OutOfRange, BadValue}
use Rattle.shd_config.specs.declared.fault.ConfigError.{ConfigError}
use Rattle.shd_config.specs.declared.config.Config.{Config}
use Rattle.shd_config.specs.declared.config.HostConfig.{HostConfig}
use Rattle.shd_config.specs.declared.config.ProcessConfig.{ProcessConfig}
use Rattle.shd_config.specs.declared.general.General.{General}
use Rattle.shd_config.specs.declared.general.GeneralDraft.{GeneralDraft}
use Rattle.shd_config.specs.declared.host.HostDraft.{HostDraft}
use Rattle.shd_config.specs.declared.host.HostRead.{HostRead}
use Rattle.shd_config.specs.declared.key.Key.{Key}
use Rattle.shd_config.specs.declared.key.Key.TheVariants as keys
use Rattle.shd_config.specs.declared.options.HostOptions.{HostOptions}
use Rattle.shd_config.specs.declared.overrides.Overrides.{Overrides}
use Rattle.shd_config.specs.declared.reading.RootDraft.{RootDraft}
use Rattle.shd_config.specs.Steps.{Gives, needed, checked, through, given, optional, item}
use Rattle.shd_config.specs.Keys.{key_of}
use Rattle.shd_config.specs.Values.{is_within, ranged, may_stop_at, stop_time_at, time_at, text_at, text_with, is_some_text, mapping_at, sequence_at, number_at, address_at, rate_at}
use Rattle.shd_config.specs.General.{general_key, general_row, overridden, finished_general, general_of, general_at, new_general}
use Rattle.shd_config.specs.Process.{process_at, process_in, process_item, processes_at, texts_size}
use Rattle.shd_config.specs.Network.{network_at}
use Rattle.shd_config.specs.Host.{options_at, new_host, host_key, host_row, finished_host, host_of, host_at, hosts_row, hosts_at, completed}
use Rattle.shd_config.specs.Config.{root, new_root, experimental_at, root_key, root_row, general_or, finished_root, root_of, merged_config, is_passed_over}
use Rattle.shd_config.proofs.Walks.{Read, checked_has, below_has, needed_has, given_has, optional_has, kept_or_read, through_keeps, IsMore, AreMore, through_pushes}
use Rattle.shd_config.specs.Limits.{MayStop, IsSomeText, HasFewProcesses, HasFewBytes, HaveFewBytes, MayOverride, IsWithinLimits}

-- ---- values

both_hold : (least most n : ℕ) (a b : Bool) → nat_le least n ≡ a → nat_le n most ≡ b → (a && b) ≡ true → (least ≤ n) × (n ≤ most)
both_hold least most n true true p q e = (leb-true least n p, leb-true n most q)
both_hold least most n true false p q e = cc
both_hold least most n false b p q e = cc

within : (least most n : ℕ) → is_within least most n ≡ true → (least ≤ n) × (n ≤ most)
within least most n e = both_hold least most n (nat_le least n) (nat_le n most) refl refl e

stop_if : (p : Pair) (t : Time) (b : Bool) → may_stop_at t ≡ b → IfOk (ranged (λ _. b) p t) MayStop
stop_if p t true e = within 1 latest_time t.nanos e
stop_if p t false e = tt

stop_has : (p : Pair) → IfOk (stop_time_at p) MayStop
stop_has p = then_all MayStop (time_at p) (ranged may_stop_at p) (λ t. stop_if p t (may_stop_at t) refl)

text_has : (p : Pair) → IfOk (text_with is_some_text p) IsSomeText
text_has p =
    then_all IsSomeText (text_at p) _ (λ text. checked_has IsSomeText BadValue p (is_some_text text) (λ _. Ok text) (λ e. leb-true 1 (length text) e))

-- ---- `general`

pub record IsGeneralDraft (d : GeneralDraft) : Type 0 where
  pub stop : IfSome d.stop_time MayStop
  pub directory : IfSome d.data_directory IsSomeText

pub record IsGeneral (g : General) : Type 0 where
  pub stop : MayStop g.stop_time
  pub directory : IsSomeText g.data_directory

overridden_has : {A : Type 0} (P : A → Type 0) (o own : Option A) → IfSome o P → IfSome own P → IfSome (overridden o own) P
overridden_has P None own h k = k
overridden_has P (Some a) own h k = h

or_default : {A : Type 0} (P : A → Type 0) (o : Option A) (default : A) → IfSome o P → P default → P (unwrap_or o default)
or_default P None default h k = k
or_default P (Some a) default h k = h

module _ (o : Overrides) (may : MayOverride o) where
  general_key_has : (key : Option Key) (d : GeneralDraft) (p : Pair) → IsGeneralDraft d → IfOk (general_key o key d p) IsGeneralDraft
  general_key_has (Some keys.StopTime) d p h =
      then_has (λ v. IfSome v MayStop) IsGeneralDraft (given (is_some o.stop_time) p (stop_time_at p)) _ (given_has MayStop (is_some o.stop_time) p (stop_time_at p) (stop_has p))
      (λ v k. record { stop = k; directory = h.directory })
  general_key_has (Some keys.Seed) d p h = then_all IsGeneralDraft (optional p _) _ (λ v. record { stop = h.stop; directory = h.directory })
  general_key_has (Some keys.Parallelism) d p h = then_all IsGeneralDraft (optional p _) _ (λ v. record { stop = h.stop; directory = h.directory })
  general_key_has (Some keys.BootstrapEndTime) d p h = then_all IsGeneralDraft (optional p _) _ (λ v. record { stop = h.stop; directory = h.directory })
  general_key_has (Some keys.DataDirectory) d p h =
      then_has (λ v. IfSome v IsSomeText) IsGeneralDraft (optional p (text_with is_some_text p)) _ (optional_has IsSomeText p (text_with is_some_text p) (text_has p))
      (λ v k. record { stop = h.stop; directory = k })
  general_key_has (Some keys.LogLevel) d p h = then_all IsGeneralDraft (optional p (text_at p)) _ (λ v. h)
  general_key_has (Some keys.HeartbeatInterval) d p h = then_all IsGeneralDraft (optional p (text_at p)) _ (λ v. h)
  general_key_has (Some keys.Progress) d p h = then_all IsGeneralDraft (optional p (text_at p)) _ (λ v. h)
  general_key_has (Some keys.ModelUnblockedSyscallLatency) d p h = then_all IsGeneralDraft (optional p (text_at p)) _ (λ v. h)
  general_key_has _ d p h = tt

  finished_general_has : (line : ℕ) (d : GeneralDraft) → IsGeneralDraft d → IfOk (finished_general o line d) IsGeneral
  finished_general_has line d h =
      then_has MayStop IsGeneral (needed (codes "stop_time") line (overridden o.stop_time d.stop_time)) _
      (needed_has MayStop (codes "stop_time") line (overridden o.stop_time d.stop_time) (overridden_has MayStop o.stop_time d.stop_time may.stop h.stop))
      (λ t k. record { stop = k; directory = or_default IsSomeText (overridden o.data_directory d.data_directory) (codes "shadow.data") (overridden_has IsSomeText o.data_directory d.data_directory may.directory h.directory) (omega arith) })

  no_general : IsGeneralDraft new_general
  no_general = record { stop = tt; directory = tt }

  general_of_has : (line : ℕ) (pairs : List Pair) → IfOk (general_of o line pairs) IsGeneral
  unfolding general_of
  general_of_has line pairs =
      then_has IsGeneralDraft IsGeneral (through (general_row o) new_general pairs) _
      (through_keeps IsGeneralDraft (general_row o) (λ d p h. general_key_has (key_of p.key) d p h) new_general pairs no_general) (λ d h. finished_general_has _ d h)

  general_has : (p : Pair) → IfOk (general_at o p) IsGeneral
  unfolding general_at
  general_has p = then_all IsGeneral (mapping_at p) _ (λ pairs. below_has IsGeneral p (general_of o p.line pairs) (general_of_has p.line pairs))

-- ---- processes

process_has : (p : Pair) → IfOk (process_at p) HasFewBytes
unfolding process_at
process_has p =
    then_all HasFewBytes (process_in p) _ (λ c. checked_has HasFewBytes OutOfRange p (nat_le (texts_size c) most_text_bytes) (λ _. Ok c) (λ e. leb-true (texts_size c) most_text_bytes e))

abbrev AreProcesses : List ProcessConfig → Type 0
AreProcesses ps = (length ps ≤ most_processes) × All HasFewBytes ps

one_process : (key : List ℕ) (before : List ProcessConfig) (value : Said) → IfOk (process_item key before value) (IsMore HasFewBytes before)
one_process key before value =
    then_has HasFewBytes (IsMore HasFewBytes before) (process_at (item key (length before) value)) _ (process_has (item key (length before) value)) (λ c h. record { last = c; has = h; is = refl })

processes_has : (p : Pair) → IfOk (processes_at p) AreProcesses
unfolding processes_at
processes_has p =
    then_all AreProcesses (sequence_at p) _
    (λ items. checked_has AreProcesses OutOfRange p (nat_le (length items) most_processes) _
    (λ e. weaker (AreMore HasFewBytes (0 + length items)) AreProcesses (through (process_item p.key) [] items)
    (through_pushes HasFewBytes (process_item p.key) (λ before value. one_process p.key before value) [] items (All-nil HasFewBytes))
    (λ all more. (let few = leb-true (length items) most_processes e in let count = more.length_is in omega (arith, few, count), more.each))))

-- ---- hosts

abbrev IsDraft : HostDraft → Type 0
IsDraft d = AreProcesses d.processes

abbrev IsHost : HostRead → Type 0
IsHost h = AreProcesses h.processes

no_processes : AreProcesses []
no_processes = (omega arith, All-nil HasFewBytes)

host_key_has : (key : Option Key) (d : HostDraft) (p : Pair) → IsDraft d → IfOk (host_key key d p) IsDraft
host_key_has (Some keys.NetworkNodeId) d p h = then_all IsDraft (number_at 0 max_u32 p) _ (λ v. h)
host_key_has (Some keys.IpAddr) d p h = then_all IsDraft (optional p (address_at p)) _ (λ v. h)
host_key_has (Some keys.BandwidthUp) d p h = then_all IsDraft (optional p (rate_at p)) _ (λ v. h)
host_key_has (Some keys.BandwidthDown) d p h = then_all IsDraft (optional p (rate_at p)) _ (λ v. h)
host_key_has (Some keys.HostOptions) d p h = then_all IsDraft (optional p (options_at p)) _ (λ v. h)
host_key_has (Some keys.Processes) d p h =
    then_has (λ v. IfSome v AreProcesses) IsDraft (optional p (processes_at p)) _ (optional_has AreProcesses p (processes_at p) (processes_has p)) (λ v k. or_default AreProcesses v [] k no_processes)
host_key_has _ d p h = tt

finished_host_has : (p : Pair) (line : ℕ) (d : HostDraft) → IsDraft d → IfOk (finished_host p line d) IsHost
finished_host_has p line d h = then_all IsHost (needed (codes "network_node_id") line d.network_node_id) _ (λ node. h)

host_of_has : (p : Pair) (pairs : List Pair) → IfOk (host_of p pairs) IsHost
unfolding host_of
host_of_has p pairs =
    then_has IsDraft IsHost (through host_row new_host pairs) _
    (through_keeps IsDraft host_row (λ d q h. host_key_has (key_of q.key) d q h) new_host pairs no_processes) (λ d h. finished_host_has p _ d h)

host_has : (p : Pair) → IfOk (host_at p) IsHost
unfolding host_at
host_has p = then_all IsHost (checked BadValue p _) _ (λ _. then_all IsHost (mapping_at p) _ (λ pairs. below_has IsHost p (host_of p pairs) (host_of_has p pairs)))

abbrev AreHosts : List HostRead → Type 0
AreHosts hs = ((1 ≤ length hs) × (length hs ≤ most_hosts)) × All IsHost hs

one_host : (before : List HostRead) (p : Pair) → IfOk (hosts_row before p) (IsMore IsHost before)
one_host before p = then_has IsHost (IsMore IsHost before) (host_at p) _ (host_has p) (λ h k. record { last = h; has = k; is = refl })

hosts_has : (p : Pair) → IfOk (hosts_at p) AreHosts
unfolding hosts_at
hosts_has p =
    then_all AreHosts (mapping_at p) _
    (λ pairs. checked_has AreHosts OutOfRange p (is_within 1 most_hosts (length pairs)) _
    (λ e. below_has AreHosts p (through hosts_row [] pairs)
    (weaker (AreMore IsHost (0 + length pairs)) AreHosts (through hosts_row [] pairs)
    (through_pushes IsHost hosts_row one_host [] pairs (All-nil IsHost))
    (λ all more. (let few = within 1 most_hosts (length pairs) e in let count = more.length_is in (omega (arith, few.0, count), omega (arith, few.1, count)), more.each)))))

-- ---- the root

pub record IsRoot (d : RootDraft) : Type 0 where
  pub general : IfSome d.general IsGeneral
  pub hosts : IfSome d.hosts AreHosts

no_root : IsRoot new_root
no_root = record { general = tt; hosts = tt }

length-map : {A B : Type 0} (f : A → B) (xs : List A) → length (map f xs) ≡ length xs
length-map f [] = refl
length-map f (x ∷ xs) = ap suc (length-map f xs)

completed_within : (all : HostOptions) (hs : List HostRead) (c : Config) → c.hosts ≡ map (completed all) hs → AreHosts hs → MayStop c.stop_time → IsSomeText c.data_directory → IsWithinLimits c
completed_within all hs c same h stop directory =
    let count : length c.hosts ≡ length hs = ap (λ (l : List HostConfig). length l) same ∙ length-map (completed all) hs in
    record {
      few = (omega (arith, h.0.0, count), omega (arith, h.0.1, count));
      processes = subst (All HasFewProcesses) (sym same) (All-map HasFewProcesses (completed all) hs (All-weaker IsHost (λ x. HasFewProcesses (completed all x)) (λ x k. k.0) hs h.1));
      texts = subst (All HaveFewBytes) (sym same) (All-map HaveFewBytes (completed all) hs (All-weaker IsHost (λ x. HaveFewBytes (completed all x)) (λ x k. k.1) hs h.1));
      stop = stop;
      directory = directory;
    }

module _ (o : Overrides) (may : MayOverride o) where
  root_key_has : (key : Option Key) (d : RootDraft) (p : Pair) → IsRoot d → IfOk (root_key o key d p) IsRoot
  root_key_has (Some keys.General) d p h =
      then_has (λ v. IfSome v IsGeneral) IsRoot (given (is_some o.stop_time) p (general_at o p)) _ (given_has IsGeneral (is_some o.stop_time) p (general_at o p) (general_has o may p))
      (λ v k. record { general = k; hosts = h.hosts })
  root_key_has (Some keys.Network) d p h = then_all IsRoot (network_at p) _ (λ v. record { general = h.general; hosts = h.hosts })
  root_key_has (Some keys.Hosts) d p h = then_has AreHosts IsRoot (hosts_at p) _ (hosts_has p) (λ v k. record { general = h.general; hosts = k })
  root_key_has (Some keys.HostOptionDefaults) d p h = then_all IsRoot (optional p (options_at p)) _ (λ v. record { general = h.general; hosts = h.hosts })
  root_key_has (Some keys.Experimental) d p h = then_all IsRoot (optional p (experimental_at p)) _ (λ v. h)
  root_key_has _ d p h = tt

  general_or_has : (line : ℕ) (g : Option General) → IfSome g IsGeneral → IfOk (general_or o line g) IsGeneral
  general_or_has line (Some g) h = h
  general_or_has line None h = absent (is_some o.stop_time) line
    where
      absent : (b : Bool) (line : ℕ) → IfOk (if b then finished_general o line new_general else needed (codes "general") line None) IsGeneral
      absent true line = finished_general_has o may line new_general (no_general o may)
      absent false line = tt

  finished_root_has : (told : List (List ℕ)) (line : ℕ) (d : RootDraft) → IsRoot d → IfOk (finished_root o told line d) IsWithinLimits
  finished_root_has told line d h =
      then_has IsGeneral IsWithinLimits (general_or o line d.general) _ (general_or_has line d.general h.general)
      (λ general g. then_all IsWithinLimits (needed (codes "network") line d.network) _
      (λ network. then_has AreHosts IsWithinLimits (needed (codes "hosts") line d.hosts) _ (needed_has AreHosts (codes "hosts") line d.hosts h.hosts)
      (λ hosts k. completed_within d.options hosts _ refl k g.stop g.directory)))

  root_of_has : (line : ℕ) (pairs : List Pair) → IfOk (root_of o line pairs) IsWithinLimits
  unfolding root_of
  root_of_has line pairs =
      then_has IsRoot IsWithinLimits (through (root_row o) new_root pairs) _
      (through_keeps IsRoot (root_row o) (λ d p h. kept_or_read IsRoot (is_passed_over p) d (root_key o (key_of p.key) d p) h (root_key_has (key_of p.key) d p h)) new_root pairs no_root) (λ d h. finished_root_has _ _ d h)

  merged_config_has : (empty : Bool) (tree : Said) → IfOk (merged_config o empty tree) IsWithinLimits
  merged_config_has true tree = root_of_has 1 []
  merged_config_has false tree = then_all IsWithinLimits (mapping_at (root tree)) _ (λ pairs. root_of_has (line_of tree) pairs)

  -- what reading a merged tree answers
  pub answers_within : (empty : Bool) (tree : Said) (result : Result Config ConfigError) → Gives result (merged_config o empty tree) → IfOk result IsWithinLimits
  answers_within empty tree (Ok c) h = subst (λ (r : Read Config). IfOk r IsWithinLimits) h (merged_config_has empty tree)
  answers_within empty tree (Err e) h = tt
