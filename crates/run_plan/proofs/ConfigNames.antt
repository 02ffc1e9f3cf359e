-- No two hosts of a configuration have one name.
use Rattle.std.proofs.Common.{◌≡◌, ◌∙◌, ℕ, ◌≤◌, Bool, true, false, List, [], ◌∷◌, ◌++◌, length, map, Option, Some, None, is_some, Result, Ok, Err, IfOk, IfSome, refl, sym, ap, subst, append_assoc, append-nil, codes}
use Rattle.std.specs.Option.{option_map}
use Rattle.sim_base.specs.Refusals.{◌>>=◌}
use Rattle.sim_base.proofs.RefusalLemmas.{then_has, then_all, weaker}
use Rattle.yaml_tree.specs.Said.{Said}
use Rattle.yaml_tree.specs.Said.Said.{null, text, unknown, sequence, mapping, with_item, with_pair}
use Rattle.yaml_merge.specs.Merge.{keys_of, merged}
use Rattle.yaml_merge.specs.Plain.{line_of, pairs_in}
use Rattle.yaml_merge.specs.Plainness.{IsPlain}
use Rattle.yaml_merge.specs.declared.fault.MergeFault.{MergeFault}
use Rattle.yaml_merge.specs.declared.plain.Pair.{Pair}
use Rattle.shd_values.specs.Word.{is_name_of_host}
use Rattle.shd_config.specs.Config.{root, new_root, experimental_at, root_key, root_row, general_or, finished_root, root_of, merged_config, wrong_merge, config, is_passed_over}
use Rattle.shd_config.specs.General.{general_at}
use Rattle.shd_config.specs.Host.{options_at, new_host, host_row, finished_host, host_of, host_at, hosts_row, hosts_at, completed}
use Rattle.shd_config.specs.Keys.{key_of}
use Rattle.shd_config.specs.Network.{network_at}
use Rattle.shd_config.specs.Steps.{needed, through, given, optional}
use Rattle.shd_config.specs.Values.{mapping_at, is_within}
use Rattle.shd_config.specs.declared.config.Config.{Config}
use Rattle.shd_config.specs.declared.config.HostConfig.{HostConfig}
use Rattle.shd_config.specs.declared.fault.ConfigKind.TheVariants.{WrongType, OutOfRange, BadValue}
use Rattle.shd_config.specs.declared.host.HostDraft.{HostDraft}
use Rattle.shd_config.specs.declared.host.HostRead.{HostRead}
use Rattle.shd_config.specs.declared.key.Key.{Key}
use Rattle.shd_config.specs.declared.key.Key.TheVariants as keys
use Rattle.shd_config.specs.declared.options.HostOptions.{HostOptions}
use Rattle.shd_config.specs.declared.overrides.Overrides.{Overrides}
use Rattle.shd_config.specs.declared.reading.RootDraft.{RootDraft}
use Rattle.shd_config.proofs.Walks.{checked_has, below_has, valued_has, needed_has, kept_or_read}
use Rattle.run_plan.proofs.NameCounts.{copies}
use Rattle.run_plan.proofs.TreeKeys.{IsOnce, AreOnce, keys_once, plain_kind, plain_once}
use Rattle.run_plan.proofs.MergedKeys.{merged_once}

-- ---- the pairs of a mapping

pairs_by : (key : List ℕ) (p : Pair) (o : Option (List Pair)) (ks : List (List ℕ)) → p.key ≡ key → IfSome o (λ ps. map (λ (q : Pair). q.key) ps ≡ ks)
    → IfSome (option_map (λ ps. ps ++ p ∷ []) o) (λ ps. map (λ (q : Pair). q.key) ps ≡ ks ++ key ∷ [])
pairs_by key p None ks same h = tt
pairs_by key p (Some ps) ks same h = keys_push ps ∙ (λ j. h j ++ same j ∷ [])
  where
    keys_push : (qs : List Pair) → map (λ (q : Pair). q.key) (qs ++ p ∷ []) ≡ map (λ (q : Pair). q.key) qs ++ p.key ∷ []
    keys_push [] = refl
    keys_push (q ∷ qs) = ap (λ (ks : List (List ℕ)). q.key ∷ ks) (keys_push qs)

keys_are : (s : Said) → IfSome (pairs_in s) (λ ps. map (λ (q : Pair). q.key) ps ≡ keys_of s)
keys_are (null line) = tt
keys_are (text line bytes) = tt
keys_are (unknown line) = tt
keys_are (sequence line) = tt
keys_are (mapping line) = refl
keys_are (with_item before value) = tt
keys_are (with_pair before line key value) = pairs_by key (record { line = line; key = key; value = value }) (pairs_in before) (keys_of before) refl (keys_are before)

-- ---- a host has the name of its key

abbrev HasName : List ℕ → HostRead → Type 0
HasName key h = h.name ≡ key

finished_named : (p : Pair) (line : ℕ) (d : HostDraft) → IfOk (finished_host p line d) (HasName p.key)
finished_named p line d = then_all (HasName p.key) (needed (codes "network_node_id") line d.network_node_id) _ (λ node. refl)

read_named : (p : Pair) (pairs : List Pair) → IfOk (host_of p pairs) (HasName p.key)
unfolding host_of
read_named p pairs = then_all (HasName p.key) (through host_row new_host pairs) _ (λ d. finished_named p _ d)

host_named : (p : Pair) → IfOk (host_at p) (HasName p.key)
unfolding host_at
host_named p =
    checked_has (HasName p.key) BadValue p (is_name_of_host p.key) _
    (λ fits. then_all (HasName p.key) (mapping_at p) _ (λ pairs. below_has (HasName p.key) p (host_of p pairs) (read_named p pairs)))

-- ---- the hosts

abbrev names : List HostRead → List (List ℕ)
names hs = map (λ (h : HostRead). h.name) hs

abbrev keys_in : List Pair → List (List ℕ)
keys_in ps = map (λ (p : Pair). p.key) ps

names_push : (before : List HostRead) (h : HostRead) → names (before ++ h ∷ []) ≡ names before ++ h.name ∷ []
names_push [] h = refl
names_push (x ∷ before) h = ap (λ (ns : List (List ℕ)). x.name ∷ ns) (names_push before h)

-- these have these names
abbrev AreNamed : List (List ℕ) → List HostRead → Type 0
AreNamed ns all = names all ≡ ns

one_named : (before : List HostRead) (p : Pair) → IfOk (hosts_row before p) (AreNamed (names before ++ p.key ∷ []))
one_named before p =
    then_has (HasName p.key) (AreNamed (names before ++ p.key ∷ [])) (host_at p) _ (host_named p)
    (λ host h. names_push before host ∙ ap (λ (k : List ℕ). names before ++ k ∷ []) h)

all_named : (before : List HostRead) (ps : List Pair) → IfOk (through hosts_row before ps) (AreNamed (names before ++ keys_in ps))
all_named before [] = sym (append-nil (names before))
all_named before (p ∷ ps) =
    then_has (AreNamed (names before ++ p.key ∷ [])) (AreNamed (names before ++ keys_in (p ∷ ps))) (hosts_row before p) (λ next. through hosts_row next ps) (one_named before p)
    (λ next h. subst (λ (ns : List (List ℕ)). IfOk (through hosts_row next ps) (AreNamed ns)) (ap (λ (ns : List (List ℕ)). ns ++ keys_in ps) h ∙ append_assoc (names before) (p.key ∷ []) (keys_in ps))
    (all_named next ps))

module _ (name : List ℕ) where
  abbrev AreFew : List HostRead → Type 0
  AreFew hs = copies name (names hs) ≤ 1

  hosts_few : (p : Pair) → IsOnce name p.value → IfOk (hosts_at p) AreFew
  unfolding hosts_at
  hosts_few p h =
      then_has (λ ps. keys_in ps ≡ keys_of p.value) AreFew (mapping_at p) _ (valued_has (λ ps. keys_in ps ≡ keys_of p.value) WrongType p (pairs_in p.value) (keys_are p.value))
      (λ ps same. checked_has AreFew OutOfRange p (is_within 1 16384 (length ps)) _
      (λ fits. below_has AreFew p (through hosts_row [] ps)
      (weaker (AreNamed (keys_in ps)) AreFew (through hosts_row [] ps) (all_named [] ps)
      (λ all k. subst (λ (ks : List (List ℕ)). copies name ks ≤ 1) (sym (k ∙ same)) (keys_once name p.value h)))))

  -- ---- the root

  abbrev IsRoot : RootDraft → Type 0
  IsRoot d = IfSome d.hosts AreFew

  all_push : (ps : List Pair) (p : Pair) → AreOnce name ps → IsOnce name p.value → AreOnce name (ps ++ p ∷ [])
  all_push [] p h k = (k, tt)
  all_push (q ∷ ps) p h k = (h.0, all_push ps p h.1 k)

  pushed : (p : Pair) (o : Option (List Pair)) → IfSome o (AreOnce name) → IsOnce name p.value → IfSome (option_map (λ ps. ps ++ p ∷ []) o) (AreOnce name)
  pushed p None h k = tt
  pushed p (Some ps) h k = all_push ps p h k

  values_once : (s : Said) → IsOnce name s → IfSome (pairs_in s) (AreOnce name)
  values_once (null line) h = tt
  values_once (text line bytes) h = tt
  values_once (unknown line) h = tt
  values_once (sequence line) h = tt
  values_once (mapping line) h = tt
  values_once (with_item before value) h = tt
  values_once (with_pair before line key value) h = pushed (record { line = line; key = key; value = value }) (pairs_in before) (values_once before h.1) h.2

  abbrev HasFew : Config → Type 0
  HasFew c = copies name (map (λ (h : HostConfig). h.name) c.hosts) ≤ 1

  names_completed : (all : HostOptions) (hs : List HostRead) → map (λ (h : HostConfig). h.name) (map (completed all) hs) ≡ names hs
  names_completed all [] = refl
  names_completed all (h ∷ hs) = ap (λ (ns : List (List ℕ)). h.name ∷ ns) (names_completed all hs)

  module _ (o : Overrides) where
    key_few : (key : Option Key) (d : RootDraft) (p : Pair) → IsOnce name p.value → IsRoot d → IfOk (root_key o key d p) IsRoot
    key_few (Some keys.General) d p s h = then_all IsRoot (given (is_some o.stop_time) p (general_at o p)) _ (λ v. h)
    key_few (Some keys.Network) d p s h = then_all IsRoot (network_at p) _ (λ v. h)
    key_few (Some keys.Hosts) d p s h = then_has AreFew IsRoot (hosts_at p) _ (hosts_few p s) (λ v k. k)
    key_few (Some keys.HostOptionDefaults) d p s h = then_all IsRoot (optional p (options_at p)) _ (λ v. h)
    key_few (Some keys.Experimental) d p s h = then_all IsRoot (optional p (experimental_at p)) _ (λ v. h)
    key_few _ d p s h = tt

    rows_few : (ps : List Pair) (d : RootDraft) → AreOnce name ps → IsRoot d → IfOk (through (root_row o) d ps) IsRoot
    rows_few [] d s h = h
    rows_few (p ∷ ps) d s h = then_has IsRoot IsRoot (root_row o d p) (λ next. through (root_row o) next ps) (kept_or_read IsRoot (is_passed_over p) d (root_key o (key_of p.key) d p) h (key_few (key_of p.key) d p s.0 h)) (λ next k. rows_few ps next s.1 k)

    finished_few : (told : List (List ℕ)) (line : ℕ) (d : RootDraft) → IsRoot d → IfOk (finished_root o told line d) HasFew
    finished_few told line d h =
        then_all HasFew (general_or o line d.general) _
        (λ general. then_all HasFew (needed (codes "network") line d.network) _
        (λ network. then_has AreFew HasFew (needed (codes "hosts") line d.hosts) _ (needed_has AreFew (codes "hosts") line d.hosts h)
        (λ hosts k. subst (λ (ns : List (List ℕ)). copies name ns ≤ 1) (sym (names_completed d.options hosts)) k)))

    root_few : (line : ℕ) (pairs : List Pair) → AreOnce name pairs → IfOk (root_of o line pairs) HasFew
    unfolding root_of
    root_few line pairs s = then_has IsRoot HasFew (through (root_row o) new_root pairs) _ (rows_few pairs new_root s tt) (λ d h. finished_few _ _ d h)

    merged_few : (empty : Bool) (tree : Said) → IsOnce name tree → IfOk (merged_config o empty tree) HasFew
    merged_few true tree s = root_few 1 [] tt
    merged_few false tree s =
        then_has (AreOnce name) HasFew (mapping_at (root tree)) _ (valued_has (AreOnce name) WrongType (root tree) (pairs_in tree) (values_once tree s)) (λ pairs k. root_few (line_of tree) pairs k)

    config_few : (empty : Bool) (tree : Said) → IfOk (merged tree) (IsOnce name) → IfOk (config o empty tree) HasFew
    unfolding config
    config_few empty tree h = by (merged tree) h
      where
        by : (read : Result Said MergeFault) → IfOk read (IsOnce name) → IfOk (wrong_merge read >>= merged_config o empty) HasFew
        by (Ok after) k = merged_few empty after k
        by (Err f) k = tt

  -- no name is that of two hosts of the configuration of a plain tree
  pub config_names : (o : Overrides) (empty : Bool) (tree : Said) → IsPlain tree → IfOk (config o empty tree) HasFew
  config_names o empty tree plain =
      config_few o empty tree (merged_once name tree (plain_kind tree plain) (plain_once name tree plain) (plain_once (codes "<<") tree plain))
