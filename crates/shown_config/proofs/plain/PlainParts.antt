-- What `general`, `network` and the options of hosts are that are read from a good tree.
use Rattle.std.proofs.Common.{◌≡◌, ℕ, ◌-◌, ◌^◌, ◌<◌, ◌≤◌, true, List, Option, Some, None, IfSome, IfOk, IsUtf8, is_some, codes, refl, arith}
use Rattle.std.specs.List.{AllByRecursion}
use Rattle.sim_base.proofs.RefusalLemmas.{then_has, then_all, weaker}
use Rattle.shd_config.proofs.Walks.{below_has, needed_has, given_has, optional_has}
use Rattle.yaml_merge.specs.declared.plain.Pair.{Pair}
use Rattle.shd_config.specs.declared.general.General.{General}
use Rattle.shd_config.specs.declared.general.GeneralDraft.{GeneralDraft}
use Rattle.shd_config.specs.declared.graph.GraphKind.{GraphKind}
use Rattle.shd_config.specs.declared.graph.GraphKind.TheVariants.{Gml, OneGbitSwitch}
use Rattle.shd_config.specs.declared.graph.GraphDraft.{GraphDraft}
use Rattle.shd_config.specs.declared.key.Key.{Key}
use Rattle.shd_config.specs.declared.key.Key.TheVariants as keys
use Rattle.shd_config.specs.declared.network.Network.{Network}
use Rattle.shd_config.specs.declared.network.NetworkDraft.{NetworkDraft}
use Rattle.shd_config.specs.declared.options.HostOptions.{HostOptions}
use Rattle.shd_config.specs.declared.overrides.Overrides.{Overrides}
use Rattle.shd_config.specs.Steps.{needed, through, given, optional}
use Rattle.shd_config.specs.Keys.{key_of}
use Rattle.shd_config.specs.Values.{mapping_at, text_at, number_at, time_at, stop_time_at, truth_at, size_at, scalar_at, text_with, is_some_text}
use Rattle.shd_config.specs.Limits.{MayStop, IsSomeText}
use Rattle.shd_config.specs.General.{general_key, general_row, overridden, finished_general, general_of, general_at, new_general}
use Rattle.shd_config.specs.Network.{file_key, file_row, file_of, file_at, kind_in, graph_alone, graph_key, graph_row, new_graph, gml_source, source_of, graph_of, graph_at, network_key, network_row, new_network, network_of, network_at}
use Rattle.shd_config.specs.Host.{no_options, options_key, options_row, options_at}
use Rattle.shown_config.specs.Plain.{IsPlainGraph}
use Rattle.shown_config.specs.Same.{AreOverrides}
use Rattle.text_trees.proofs.Bytes.{IsText_known}
use Rattle.shown_config.proofs.plain.Has.{or_default_has, through_keeps}
use Rattle.shown_config.proofs.plain.GoodTrees.{IsGood, IsGoodPair, AreGoodPairs}
use Rattle.shown_config.proofs.plain.PlainValues.{mapping_has, text_has, number_has, size_has, IsSmall, time_has, stop_has, text_with_has, some_text}

-- ---- `general`

abbrev IsName : List ℕ → Type 0
IsName name = IsUtf8 name × IsSomeText name

record IsDraft (d : GeneralDraft) : Type 0 where
  stop : IfSome d.stop_time MayStop
  seed : IfSome d.seed (λ n. n < 2 ^ 32)
  parallelism : IfSome d.parallelism (λ n. n < 2 ^ 32)
  bootstrap : IfSome d.bootstrap_end_time IsSmall
  directory : IfSome d.data_directory IsName

pub record IsPlainGeneral (g : General) : Type 0 where
  pub stop : MayStop g.stop_time
  pub seed : g.seed < 2 ^ 32
  pub parallelism : g.parallelism < 2 ^ 32
  pub bootstrap : g.bootstrap_end_time.nanos < 2 ^ 64
  pub directory : IsUtf8 g.data_directory
  pub named : IsSomeText g.data_directory

abbrev IsCount : ℕ → Type 0
IsCount n = n < 2 ^ 32

count_has : (p : Pair) → IfOk (number_at 0 (2 ^ 32 - 1) p) IsCount
count_has p = weaker (λ n. (0 ≤ n) × (n ≤ 2 ^ 32 - 1)) IsCount (number_at 0 (2 ^ 32 - 1) p) (number_has 0 (2 ^ 32 - 1) p) (λ n h. omega (arith, h.1))

name_has : (p : Pair) → IsGood p.value → IfOk (text_with is_some_text p) IsName
name_has p h = weaker (λ t. IsUtf8 t × (is_some_text t ≡ true)) IsName (text_with is_some_text p) (text_with_has is_some_text p h) (λ t k. (k.0, some_text t k.1))

overridden_has : {A : Type 0} (P : A → Type 0) (o own : Option A) → IfSome o P → IfSome own P → IfSome (overridden o own) P
overridden_has P None own h k = k
overridden_has P (Some a) own h k = h

module _ (o : Overrides) (may : AreOverrides o) where
  general_key_has : (key : Option Key) (d : GeneralDraft) (p : Pair) → IsDraft d → IsGoodPair p → IfOk (general_key o key d p) IsDraft
  general_key_has (Some keys.StopTime) d p h g =
      then_has (λ v. IfSome v MayStop) IsDraft (given (is_some o.stop_time) p (stop_time_at p)) _ (given_has MayStop (is_some o.stop_time) p (stop_time_at p) (stop_has p))
      (λ v k. record { stop = k; seed = h.seed; parallelism = h.parallelism; bootstrap = h.bootstrap; directory = h.directory })
  general_key_has (Some keys.Seed) d p h g =
      then_has (λ v. IfSome v IsCount) IsDraft (optional p (number_at 0 (2 ^ 32 - 1) p)) _ (optional_has IsCount p (number_at 0 (2 ^ 32 - 1) p) (count_has p))
      (λ v k. record { stop = h.stop; seed = k; parallelism = h.parallelism; bootstrap = h.bootstrap; directory = h.directory })
  general_key_has (Some keys.Parallelism) d p h g =
      then_has (λ v. IfSome v IsCount) IsDraft (optional p (number_at 0 (2 ^ 32 - 1) p)) _ (optional_has IsCount p (number_at 0 (2 ^ 32 - 1) p) (count_has p))
      (λ v k. record { stop = h.stop; seed = h.seed; parallelism = k; bootstrap = h.bootstrap; directory = h.directory })
  general_key_has (Some keys.BootstrapEndTime) d p h g =
      then_has (λ v. IfSome v IsSmall) IsDraft (optional p (time_at p)) _ (optional_has IsSmall p (time_at p) (time_has p))
      (λ v k. record { stop = h.stop; seed = h.seed; parallelism = h.parallelism; bootstrap = k; directory = h.directory })
  general_key_has (Some keys.DataDirectory) d p h g =
      then_has (λ v. IfSome v IsName) IsDraft (optional p (text_with is_some_text p)) _ (optional_has IsName p (text_with is_some_text p) (name_has p g.value))
      (λ v k. record { stop = h.stop; seed = h.seed; parallelism = h.parallelism; bootstrap = h.bootstrap; directory = k })
  general_key_has (Some keys.LogLevel) d p h g = then_all IsDraft (optional p (text_at p)) _ (λ v. h)
  general_key_has (Some keys.HeartbeatInterval) d p h g = then_all IsDraft (optional p (text_at p)) _ (λ v. h)
  general_key_has (Some keys.Progress) d p h g = then_all IsDraft (optional p (text_at p)) _ (λ v. h)
  general_key_has (Some keys.ModelUnblockedSyscallLatency) d p h g = then_all IsDraft (optional p (text_at p)) _ (λ v. h)
  general_key_has _ d p h g = tt

  finished_general_has : (line : ℕ) (d : GeneralDraft) → IsDraft d → IfOk (finished_general o line d) IsPlainGeneral
  finished_general_has line d h =
      then_has MayStop IsPlainGeneral (needed (codes "stop_time") line (overridden o.stop_time d.stop_time)) _
      (needed_has MayStop (codes "stop_time") line (overridden o.stop_time d.stop_time) (overridden_has MayStop o.stop_time d.stop_time may.stop h.stop))
      (λ t k. (let name = or_default_has IsName (overridden o.data_directory d.data_directory) (codes "shadow.data") (overridden_has IsName o.data_directory d.data_directory may.directory h.directory) ((IsText_known (codes "shadow.data") refl).valid, omega arith) in
      record {
        stop = k;
        seed = or_default_has IsCount (overridden o.seed d.seed) 1 (overridden_has IsCount o.seed d.seed may.seed h.seed) (omega arith);
        parallelism = or_default_has IsCount (overridden o.parallelism d.parallelism) 0 (overridden_has IsCount o.parallelism d.parallelism may.parallelism h.parallelism) (omega arith);
        bootstrap = or_default_has IsSmall d.bootstrap_end_time (record { nanos = 0 }) h.bootstrap (omega arith);
        directory = name.0;
        named = name.1;
      }))

  no_general : IsDraft new_general
  no_general = record { stop = tt; seed = tt; parallelism = tt; bootstrap = tt; directory = tt }

  -- what is read where `general` is absent
  pub absent_general_has : (line : ℕ) → IfOk (finished_general o line new_general) IsPlainGeneral
  absent_general_has line = finished_general_has line new_general no_general

  general_of_has : (line : ℕ) (pairs : List Pair) → AllByRecursion IsGoodPair pairs → IfOk (general_of o line pairs) IsPlainGeneral
  unfolding general_of
  general_of_has line pairs h =
      then_has IsDraft IsPlainGeneral (through (general_row o) new_general pairs) _
      (through_keeps IsDraft IsGoodPair (general_row o) (λ d p k g. general_key_has (key_of p.key) d p k g) new_general pairs no_general h) (λ d k. finished_general_has _ d k)

  pub general_has : (p : Pair) → IsGood p.value → IfOk (general_at o p) IsPlainGeneral
  unfolding general_at
  general_has p h =
      then_has (AreGoodPairs p.value) IsPlainGeneral (mapping_at p) _ (mapping_has p h) (λ pairs k. below_has IsPlainGeneral p (general_of o p.line pairs) (general_of_has p.line pairs k.each))

-- ---- `network`

file_key_has : (key : Option Key) (d : Option (List ℕ)) (p : Pair) → IfSome d IsUtf8 → IsGoodPair p → IfOk (file_key key d p) (λ x. IfSome x IsUtf8)
file_key_has (Some keys.Path) d p h g = then_has IsUtf8 (λ x. IfSome x IsUtf8) (text_at p) _ (text_has p g.value) (λ t u. u)
file_key_has (Some keys.Compression) d p h g = then_all (λ x. IfSome x IsUtf8) (optional p _) _ (λ v. h)
file_key_has _ d p h g = tt

file_of_has : (line : ℕ) (pairs : List Pair) → AllByRecursion IsGoodPair pairs → IfOk (file_of line pairs) IsUtf8
unfolding file_of
file_of_has line pairs h =
    then_has (λ d. IfSome d IsUtf8) IsUtf8 (through file_row None pairs) _
    (through_keeps (λ d. IfSome d IsUtf8) IsGoodPair file_row (λ d p k g. file_key_has (key_of p.key) d p k g) None pairs tt h) (λ d k. needed_has IsUtf8 (codes "path") _ d k)

file_has : (p : Pair) → IsGood p.value → IfOk (file_at p) IsUtf8
unfolding file_at
file_has p h = then_has (AreGoodPairs p.value) IsUtf8 (mapping_at p) _ (mapping_has p h) (λ pairs k. below_has IsUtf8 p (file_of p.line pairs) (file_of_has p.line pairs k.each))

record IsGraphDraft (d : GraphDraft) : Type 0 where
  inline : IfSome d.inline IsUtf8
  file : IfSome d.file IsUtf8

graph_key_has : (kind : Option GraphKind) (key : Option Key) (d : GraphDraft) (p : Pair) → IsGraphDraft d → IsGoodPair p → IfOk (graph_key kind key d p) IsGraphDraft
graph_key_has kind (Some keys.Type) d p h g = then_all IsGraphDraft (scalar_at _ p) _ (λ v. record { inline = h.inline; file = h.file })
graph_key_has kind (Some keys.Inline) d p h g =
    then_all IsGraphDraft (graph_alone kind (is_some d.file) p) _
    (λ _. then_has (λ v. IfSome v IsUtf8) IsGraphDraft (optional p (text_at p)) _ (optional_has IsUtf8 p (text_at p) (text_has p g.value)) (λ v k. record { inline = k; file = h.file }))
graph_key_has kind (Some keys.File) d p h g =
    then_all IsGraphDraft (graph_alone kind (is_some d.inline) p) _
    (λ _. then_has (λ v. IfSome v IsUtf8) IsGraphDraft (optional p (file_at p)) _ (optional_has IsUtf8 p (file_at p) (file_has p g.value)) (λ v k. record { inline = h.inline; file = k }))
graph_key_has kind _ d p h g = tt

gml_has : (line : ℕ) (text file : Option (List ℕ)) → IfSome text IsUtf8 → IfSome file IsUtf8 → IfOk (gml_source line text file) IsPlainGraph
gml_has line (Some t) file h k = h
gml_has line None file h k = then_has IsUtf8 IsPlainGraph (needed (codes "inline") line file) _ (needed_has IsUtf8 (codes "inline") line file k) (λ name u. u)

source_has : (line : ℕ) (d : GraphDraft) (kind : GraphKind) → IsGraphDraft d → IfOk (source_of line d kind) IsPlainGraph
source_has line d OneGbitSwitch h = tt
source_has line d Gml h = gml_has line d.inline d.file h.inline h.file

graph_of_has : (line : ℕ) (pairs : List Pair) → AllByRecursion IsGoodPair pairs → IfOk (graph_of line pairs) IsPlainGraph
unfolding graph_of
graph_of_has line pairs h =
    then_has IsGraphDraft IsPlainGraph (through (graph_row (kind_in pairs)) new_graph pairs) _
    (through_keeps IsGraphDraft IsGoodPair (graph_row (kind_in pairs)) (λ d p k g. graph_key_has (kind_in pairs) (key_of p.key) d p k g) new_graph pairs (record { inline = tt; file = tt }) h)
    (λ d k. then_all IsPlainGraph (needed (codes "type") _ d.kind) _ (λ kind. source_has _ d kind k))

graph_has : (p : Pair) → IsGood p.value → IfOk (graph_at p) IsPlainGraph
unfolding graph_at
graph_has p h = then_has (AreGoodPairs p.value) IsPlainGraph (mapping_at p) _ (mapping_has p h) (λ pairs k. below_has IsPlainGraph p (graph_of p.line pairs) (graph_of_has p.line pairs k.each))

abbrev HasGraph : NetworkDraft → Type 0
HasGraph d = IfSome d.graph IsPlainGraph

network_key_has : (key : Option Key) (d : NetworkDraft) (p : Pair) → HasGraph d → IsGoodPair p → IfOk (network_key key d p) HasGraph
network_key_has (Some keys.Graph) d p h g = then_has IsPlainGraph HasGraph (graph_at p) _ (graph_has p g.value) (λ v k. k)
network_key_has (Some keys.UseShortestPath) d p h g = then_all HasGraph (optional p (truth_at p)) _ (λ v. h)
network_key_has (Some keys.RouterQueue) d p h g = then_all HasGraph (optional p _) _ (λ v. h)
network_key_has _ d p h g = tt

abbrev pub IsPlainNetwork : Network → Type 0
IsPlainNetwork n = IsPlainGraph n.graph

network_of_has : (line : ℕ) (pairs : List Pair) → AllByRecursion IsGoodPair pairs → IfOk (network_of line pairs) IsPlainNetwork
unfolding network_of
network_of_has line pairs h =
    then_has HasGraph IsPlainNetwork (through network_row new_network pairs) _
    (through_keeps HasGraph IsGoodPair network_row (λ d p k g. network_key_has (key_of p.key) d p k g) new_network pairs tt h)
    (λ d k. then_has IsPlainGraph IsPlainNetwork (needed (codes "graph") _ d.graph) _ (needed_has IsPlainGraph (codes "graph") _ d.graph k) (λ graph q. q))

pub network_has : (p : Pair) → IsGood p.value → IfOk (network_at p) IsPlainNetwork
unfolding network_at
network_has p h = then_has (AreGoodPairs p.value) IsPlainNetwork (mapping_at p) _ (mapping_has p h) (λ pairs k. below_has IsPlainNetwork p (network_of p.line pairs) (network_of_has p.line pairs k.each))

-- ---- options of hosts

abbrev pub IsCapture : ℕ → Type 0
IsCapture n = (1 ≤ n) × (n ≤ 65535)

abbrev pub ArePlainOptions : HostOptions → Type 0
ArePlainOptions d = IfSome d.pcap_capture_size IsCapture

options_key_has : (key : Option Key) (d : HostOptions) (p : Pair) → ArePlainOptions d → IfOk (options_key key d p) ArePlainOptions
options_key_has (Some keys.LogLevel) d p h = then_all ArePlainOptions (optional p (text_at p)) _ (λ v. h)
options_key_has (Some keys.PcapEnabled) d p h = then_all ArePlainOptions (optional p (truth_at p)) _ (λ v. h)
options_key_has (Some keys.PcapCaptureSize) d p h = then_has (λ v. IfSome v IsCapture) ArePlainOptions (optional p (size_at p)) _ (optional_has IsCapture p (size_at p) (size_has p)) (λ v k. k)
options_key_has _ d p h = tt

pub options_has : (p : Pair) → IsGood p.value → IfOk (options_at p) ArePlainOptions
unfolding options_at
options_has p h =
    then_has (AreGoodPairs p.value) ArePlainOptions (mapping_at p) _ (mapping_has p h)
    (λ pairs k. below_has ArePlainOptions p (through options_row no_options pairs)
    (through_keeps ArePlainOptions IsGoodPair options_row (λ d q x g. options_key_has (key_of q.key) d q x) no_options pairs tt k.each))
