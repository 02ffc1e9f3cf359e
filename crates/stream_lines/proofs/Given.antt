-- What a configuration says of its hosts: there are not too many, and each address that is given is one that a host may have.
use Rattle.std.proofs.Common.{◌≡◌, ℕ, ◌+◌, ◌≤◌, ◌&&◌, Bool, true, false, List, [], ◌∷◌, length, map, All, Option, Some, IfSome, IfOk, is_some, codes, suc, refl, sym, ap, subst, ◌∙◌, arith, nat_le}
use Rattle.std.proofs.lemmas.Bool.{leb-true}
use Rattle.std.proofs.lemmas.List.Elements.{All-nil, All-map, All-weaker}
use Rattle.std.proofs.lemmas.List.FromFn.{length-map-range_with_len}
use Rattle.sim_base.specs.Limits.{most_hosts, most_ring_hosts}
use Rattle.sim_base.specs.Units.{max_u32}
use Rattle.sim_base.specs.declared.address.Ip.{Ip}
use Rattle.sim_base.proofs.RefusalLemmas.{then_has, then_all, weaker}
use Rattle.yaml_tree.specs.Said.{Said}
use Rattle.yaml_merge.specs.Merge.{merged}
use Rattle.yaml_merge.specs.Plain.{line_of}
use Rattle.yaml_merge.specs.declared.plain.Pair.{Pair}
use Rattle.shd_values.specs.Address.{address_of}
use Rattle.shd_config.specs.declared.fault.ConfigKind.TheVariants.{OutOfRange, BadValue}
use Rattle.shd_config.specs.declared.config.Config.{Config}
use Rattle.shd_config.specs.declared.config.HostConfig.{HostConfig}
use Rattle.shd_config.specs.declared.host.HostDraft.{HostDraft}
use Rattle.shd_config.specs.declared.host.HostRead.{HostRead}
use Rattle.shd_config.specs.declared.key.Key.{Key}
use Rattle.shd_config.specs.declared.key.Key.TheVariants as keys
use Rattle.shd_config.specs.declared.options.HostOptions.{HostOptions}
use Rattle.shd_config.specs.declared.overrides.Overrides.{Overrides}
use Rattle.shd_config.specs.declared.reading.RootDraft.{RootDraft}
use Rattle.shd_config.specs.Steps.{needed, checked, through, given, optional}
use Rattle.shd_config.specs.Keys.{key_of}
use Rattle.shd_config.specs.Values.{is_within, ranged, scalar_at, mapping_at, number_at, address_at, rate_at, may_be_host}
use Rattle.shd_config.specs.General.{general_at}
use Rattle.shd_config.specs.Process.{processes_at}
use Rattle.shd_config.specs.Network.{network_at}
use Rattle.shd_config.specs.Host.{options_at, new_host, host_key, host_row, finished_host, host_of, host_at, hosts_row, hosts_at, completed}
use Rattle.shd_config.specs.Config.{root, new_root, experimental_at, root_key, root_row, general_or, finished_root, root_of, merged_config, wrong_merge, config, is_passed_over}
use Rattle.shd_config.proofs.Walks.{checked_has, below_has, needed_has, optional_has, kept_or_read, through_keeps, IsMore, AreMore, through_pushes}
use Rattle.run_plan.specs.SelfLoad.{ring_host, self_load_config}
use Rattle.run_plan.proofs.LimitLemmas.{each_ring_host}
use Rattle.stream_lines.proofs.Walk.{IsForHost}

-- ---- an address

for_host_if : (p : Pair) (ip : Ip) (b : Bool) → may_be_host ip ≡ b → IfOk (ranged (λ _. b) p ip) IsForHost
for_host_if p ip true e = e
for_host_if p ip false e = tt

address_has : (p : Pair) → IfOk (address_at p) IsForHost
address_has p = then_all IsForHost (scalar_at address_of p) (ranged may_be_host p) (λ ip. for_host_if p ip (may_be_host ip) refl)

-- ---- a host

abbrev MayHave : Option Ip → Type 0
MayHave o = IfSome o IsForHost

abbrev IsDraft : HostDraft → Type 0
IsDraft d = MayHave d.ip_addr

abbrev IsHost : HostRead → Type 0
IsHost h = MayHave h.ip_addr

-- a host of a configuration is given no other address
abbrev pub MayHaveAddress : HostConfig → Type 0
MayHaveAddress h = MayHave h.ip_addr

host_key_has : (key : Option Key) (d : HostDraft) (p : Pair) → IsDraft d → IfOk (host_key key d p) IsDraft
host_key_has (Some keys.NetworkNodeId) d p h = then_all IsDraft (number_at 0 max_u32 p) _ (λ v. h)
host_key_has (Some keys.IpAddr) d p h = then_has MayHave IsDraft (optional p (address_at p)) _ (optional_has IsForHost p (address_at p) (address_has p)) (λ v k. k)
host_key_has (Some keys.BandwidthUp) d p h = then_all IsDraft (optional p (rate_at p)) _ (λ v. h)
host_key_has (Some keys.BandwidthDown) d p h = then_all IsDraft (optional p (rate_at p)) _ (λ v. h)
host_key_has (Some keys.HostOptions) d p h = then_all IsDraft (optional p (options_at p)) _ (λ v. h)
host_key_has (Some keys.Processes) d p h = then_all IsDraft (optional p (processes_at p)) _ (λ v. h)
host_key_has _ d p h = tt

finished_host_has : (p : Pair) (line : ℕ) (d : HostDraft) → IsDraft d → IfOk (finished_host p line d) IsHost
finished_host_has p line d h = then_all IsHost (needed (codes "network_node_id") line d.network_node_id) _ (λ node. h)

host_of_has : (p : Pair) (pairs : List Pair) → IfOk (host_of p pairs) IsHost
unfolding host_of
host_of_has p pairs =
    then_has IsDraft IsHost (through host_row new_host pairs) _
    (through_keeps IsDraft host_row (λ d q h. host_key_has (key_of q.key) d q h) new_host pairs tt) (λ d h. finished_host_has p _ d h)

host_has : (p : Pair) → IfOk (host_at p) IsHost
unfolding host_at
host_has p = then_all IsHost (checked BadValue p _) _ (λ _. then_all IsHost (mapping_at p) _ (λ pairs. below_has IsHost p (host_of p pairs) (host_of_has p pairs)))

-- ---- the hosts

one_host : (before : List HostRead) (p : Pair) → IfOk (hosts_row before p) (IsMore IsHost before)
one_host before p = then_has IsHost (IsMore IsHost before) (host_at p) _ (host_has p) (λ h k. record { last = h; has = k; is = refl })

record AreHosts (hosts : List HostRead) : Type 0 where
  few : length hosts ≤ most_hosts
  each : All IsHost hosts

at_most : (least most n : ℕ) (a b : Bool) → nat_le least n ≡ a → nat_le n most ≡ b → (a && b) ≡ true → n ≤ most
at_most least most n true true p q e = leb-true n most q
at_most least most n true false p q e = cc
at_most least most n false b p q e = cc

hosts_have : (p : Pair) → IfOk (hosts_at p) AreHosts
unfolding hosts_at
hosts_have p =
    then_all AreHosts (mapping_at p) _
    (λ pairs. checked_has AreHosts OutOfRange p (is_within 1 most_hosts (length pairs)) _
    (λ e. below_has AreHosts p (through hosts_row [] pairs)
    (weaker (AreMore IsHost (0 + length pairs)) AreHosts (through hosts_row [] pairs) (through_pushes IsHost hosts_row one_host [] pairs (All-nil IsHost))
    (λ all more.
    let few = at_most 1 most_hosts (length pairs) (nat_le 1 (length pairs)) (nat_le (length pairs) most_hosts) refl refl e in
    record { few = (let count = more.length_is in omega (arith, few, count)); each = more.each }))))

-- ---- the root

abbrev IsRoot : RootDraft → Type 0
IsRoot d = IfSome d.hosts AreHosts

-- the hosts of a configuration
pub record HasHosts (c : Config) : Type 0 where
  pub few : length c.hosts ≤ most_hosts
  pub each : All MayHaveAddress c.hosts

length-map : {A B : Type 0} (f : A → B) (xs : List A) → length (map f xs) ≡ length xs
length-map f [] = refl
length-map f (x ∷ xs) = ap suc (length-map f xs)

completed_has : (all : HostOptions) (hosts : List HostRead) (c : Config) → c.hosts ≡ map (completed all) hosts → AreHosts hosts → HasHosts c
completed_has all hosts c same h =
    let count : length c.hosts ≡ length hosts = ap (λ (l : List HostConfig). length l) same ∙ length-map (completed all) hosts in
    record {
      few = (let few = h.few in omega (arith, few, count));
      each = subst (All MayHaveAddress) (sym same) (All-map MayHaveAddress (completed all) hosts (All-weaker IsHost (λ x. MayHaveAddress (completed all x)) (λ x k. k) hosts h.each));
    }

module _ (o : Overrides) where
  root_key_has : (key : Option Key) (d : RootDraft) (p : Pair) → IsRoot d → IfOk (root_key o key d p) IsRoot
  root_key_has (Some keys.General) d p h = then_all IsRoot (given (is_some o.stop_time) p (general_at o p)) _ (λ v. h)
  root_key_has (Some keys.Network) d p h = then_all IsRoot (network_at p) _ (λ v. h)
  root_key_has (Some keys.Hosts) d p h = then_has AreHosts IsRoot (hosts_at p) _ (hosts_have p) (λ v k. k)
  root_key_has (Some keys.HostOptionDefaults) d p h = then_all IsRoot (optional p (options_at p)) _ (λ v. h)
  root_key_has (Some keys.Experimental) d p h = then_all IsRoot (optional p (experimental_at p)) _ (λ v. h)
  root_key_has _ d p h = tt

  finished_root_has : (told : List (List ℕ)) (line : ℕ) (d : RootDraft) → IsRoot d → IfOk (finished_root o told line d) HasHosts
  finished_root_has told line d h =
      then_all HasHosts (general_or o line d.general) _
      (λ general. then_all HasHosts (needed (codes "network") line d.network) _
      (λ network. then_has AreHosts HasHosts (needed (codes "hosts") line d.hosts) _ (needed_has AreHosts (codes "hosts") line d.hosts h)
      (λ hosts k. completed_has d.options hosts _ refl k)))

  root_of_has : (line : ℕ) (pairs : List Pair) → IfOk (root_of o line pairs) HasHosts
  unfolding root_of
  root_of_has line pairs =
      then_has IsRoot HasHosts (through (root_row o) new_root pairs) _
      (through_keeps IsRoot (root_row o) (λ d p h. kept_or_read IsRoot (is_passed_over p) d (root_key o (key_of p.key) d p) h (root_key_has (key_of p.key) d p h)) new_root pairs tt) (λ d h. finished_root_has _ _ d h)

  merged_config_has : (empty : Bool) (tree : Said) → IfOk (merged_config o empty tree) HasHosts
  merged_config_has true tree = root_of_has 1 []
  merged_config_has false tree = then_all HasHosts (mapping_at (root tree)) _ (λ pairs. root_of_has (line_of tree) pairs)

  pub config_has : (empty : Bool) (tree : Said) → IfOk (config o empty tree) HasHosts
  unfolding config
  config_has empty tree = then_all HasHosts (wrong_merge (merged tree)) (merged_config o empty) (λ after. merged_config_has empty after)

  -- ---- a self-load

  pub self_load_has : (n : ℕ) → n ≤ most_ring_hosts → HasHosts (self_load_config o n)
  unfolding self_load_config
  self_load_has n few = record {
    few = (let count = length-map-range_with_len (ring_host n) 0 n in omega (arith, count, few));
    each = each_ring_host MayHaveAddress n (λ i lt. tt);
  }
