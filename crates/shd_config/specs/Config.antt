-- The configuration of a tree, or its first fault in document order.
use Rattle.std.specs.Prelude.{ℕ, Bool, not, if◌then◌else◌, List, [], map, filter, Option, Some, None, is_some, unwrap_or, Result, Ok, Err, codes, nat_eq}
use Rattle.std.specs.List.{starts_with}
use Rattle.yaml_tree.specs.Said.{Said}
use Rattle.sim_base.specs.Refusals.{◌>>=◌}
use Rattle.yaml_merge.specs.Merge.{merged}
use Rattle.yaml_merge.specs.Plain.{line_of}
use Rattle.yaml_merge.specs.declared.plain.Pair.{Pair}
use Rattle.yaml_merge.specs.declared.fault.MergeFault.{MergeFault}
use Rattle.shd_config.specs.declared.fault.ConfigKind.TheVariants.{UnknownKey, WrongType}
use Rattle.shd_config.specs.declared.fault.ConfigFault.{ConfigFault}
use Rattle.shd_config.specs.declared.key.Key.{Key}
use Rattle.shd_config.specs.declared.key.Key.TheVariants as keys
use Rattle.shd_config.specs.declared.overrides.Overrides.{Overrides}
use Rattle.shd_config.specs.declared.config.Config.{Config}
use Rattle.shd_config.specs.declared.general.General.{General}
use Rattle.shd_config.specs.declared.reading.RootDraft.{RootDraft}
use Rattle.shd_config.specs.Steps.{refused, needed, through, given, optional, mapping_line}
use Rattle.shd_config.specs.Keys.{key_of}
use Rattle.shd_config.specs.Values.{mapping_at}
use Rattle.shd_config.specs.General.{general_at, finished_general, new_general}
use Rattle.shd_config.specs.Network.{network_at}
use Rattle.shd_config.specs.Host.{options_at, hosts_at, completed, no_options}
use Rattle.shd_config.specs.Notes.{notes}

abbrev pub new_root : RootDraft
new_root = record { general = None; network = None; hosts = None; options = no_options }

-- `experimental` holds any keys
abbrev pub experimental_at : Pair → Result (List Pair) ConfigFault
experimental_at p = mapping_at p

abbrev pub root_key : Overrides → Option Key → RootDraft → Pair → Result RootDraft ConfigFault
root_key o (Some keys.General) d p = given (is_some o.stop_time) p (general_at o p) >>= λ v. Ok (record d { general = v })
root_key o (Some keys.Network) d p = network_at p >>= λ v. Ok (record d { network = Some v })
root_key o (Some keys.Hosts) d p = hosts_at p >>= λ v. Ok (record d { hosts = Some v })
root_key o (Some keys.HostOptionDefaults) d p = optional p (options_at p) >>= λ v. Ok (record d { options = unwrap_or v no_options })
root_key o (Some keys.Experimental) d p = optional p (experimental_at p) >>= λ _. Ok d
root_key o _ d p = refused UnknownKey p

-- keys of the root that begin with `x-` are passed over with all below them
abbrev pub is_passed_over : Pair → Bool
is_passed_over p = starts_with nat_eq p.key (codes "x-")

abbrev pub kept : List Pair → List Pair
kept pairs = filter (λ p. not (is_passed_over p)) pairs

abbrev pub root_row : Overrides → RootDraft → Pair → Result RootDraft ConfigFault
root_row o d p = if is_passed_over p then Ok d else root_key o (key_of p.key) d p

-- `general` may be absent where the stop time is overridden
abbrev pub general_or : Overrides → ℕ → Option General → Result General ConfigFault
general_or o line (Some general) = Ok general
general_or o line None = if is_some o.stop_time then finished_general o line new_general else needed (codes "general") line None

abbrev pub finished_root : Overrides → List (List ℕ) → ℕ → RootDraft → Result Config ConfigFault
finished_root o told line d = do
  general ← general_or o line d.general
  network ← needed (codes "network") line d.network
  hosts ← needed (codes "hosts") line d.hosts
  Ok (record {
    stop_time = general.stop_time;
    seed = general.seed;
    parallelism = general.parallelism;
    bootstrap_end_time = general.bootstrap_end_time;
    data_directory = general.data_directory;
    graph = network.graph;
    use_shortest_path = network.use_shortest_path;
    router_queue = network.router_queue;
    hosts = map (completed d.options) hosts;
    notes = told;
  })

-- the line of the root is that of its first key that isn't passed over
unfoldable pub root_of : Overrides → ℕ → List Pair → Result Config ConfigFault
root_of o line pairs = through (root_row o) new_root pairs >>= finished_root o (notes pairs) (mapping_line line (kept pairs))

-- the root has no key
abbrev pub root : Said → Pair
root tree = record { line = line_of tree; key = []; value = tree }

-- the configuration of a merged tree; an empty document has no pair and begins on line 1
abbrev pub merged_config : Overrides → Bool → Said → Result Config ConfigFault
merged_config o empty tree =
    if empty then root_of o 1 [] else (mapping_at (root tree) >>= root_of o (line_of tree))

abbrev pub wrong_merge : Result Said MergeFault → Result Said ConfigFault
wrong_merge (Ok tree) = Ok tree
wrong_merge (Err f) = Err (record { line = f.line; path = f.path; kind = WrongType })

-- the configuration of a tree, which may be that of an empty document
unfoldable pub config : Overrides → Bool → Said → Result Config ConfigFault
config o empty tree = wrong_merge (merged tree) >>= merged_config o empty
