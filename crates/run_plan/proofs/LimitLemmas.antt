-- The limits of configurations are those of plans.
use Rattle.std.proofs.Common.{◌≡◌, ℕ, ◌+◌, ◌%◌, ◌^◌, ◌<◌, ◌≤◌, List, [], ◌∷◌, length, map, All, Result, Ok, Err, unwrap_or, IfSome, IfOk, Option, Some, None, sym, subst, ◌∙◌, arith, div-le_self, mod-lt, codes}
use Rattle.std.specs.List.{range_with_len}
use Rattle.std.specs.List.Sorted.{IsPermutation}
use Rattle.std.proofs.lemmas.List.{length-map}
use Rattle.std.proofs.lemmas.List.Elements.{All-nil, All-cons, All-head, All-tail}
use Rattle.std.proofs.lemmas.List.FromFn.{length-map-range_with_len, get_or-map-range_with_len}
use Rattle.std.proofs.lemmas.List.Sorted.{All-permutation, length_permutation}
use Rattle.std.proofs.lemmas.Fmt.{length-decimal-le}
use Rattle.gml_graph.specs.declared.graph.Graph.{Graph}
use Rattle.shd_config.specs.Limits.{MayStop, IsSomeText, HasFewProcesses, HasFewBytes, HaveFewBytes, MayOverride, IsWithinLimits}
use Rattle.shd_config.specs.declared.config.Config.{Config}
use Rattle.shd_config.specs.declared.config.HostConfig.{HostConfig}
use Rattle.shd_config.specs.declared.overrides.Overrides.{Overrides}
use Rattle.run_plan.specs.HostRows.{host_rows}
use Rattle.run_plan.specs.Limits.{KeepsToLimits}
use Rattle.run_plan.specs.SelfLoad.{next_host, address_number, ring_process, ring_host, self_load_config}
use Rattle.run_plan.specs.declared.host_row.HostRow.{HostRow}
use Rattle.run_plan.specs.declared.plan.Plan.{Plan}
use Rattle.run_plan.proofs.RowLengthLemmas.{rows_moved}

-- ---- rows

each_row : (P : HostConfig → Type 0) (rows : List HostRow) → All P (map (λ (r : HostRow). r.config) rows) → All (λ (r : HostRow). P r.config) rows
each_row P [] h = All-nil (λ (r : HostRow). P r.config)
each_row P (r ∷ rows) h =
    All-cons (λ (row : HostRow). P row.config) r rows (All-head P r.config (map (λ (row : HostRow). row.config) rows) h) (each_row P rows (All-tail P r.config (map (λ (row : HostRow). row.config) rows) h))

-- a plan of a configuration within its limits
pub plan_within : (name : List ℕ) (graph : Graph) (config : Config) (plan : Plan) → IsWithinLimits config → (host_rows name graph config.hosts).answers (Ok plan.rows) → plan.settings.stop_time ≡ config.stop_time → KeepsToLimits plan
plan_within name graph config plan within h stop =
    let configs = map (λ (r : HostRow). r.config) plan.rows in
    let moved : IsPermutation config.hosts configs = rows_moved name graph config.hosts plan.rows h in
    let count : length plan.rows ≡ length config.hosts = sym (length-map plan.rows (λ (r : HostRow). r.config)) ∙ length_permutation config.hosts configs moved in
    record {
      some = (let some = within.few.0 in omega (arith, count, some));
      few = (let few = within.few.1 in omega (arith, count, few));
      processes = each_row HasFewProcesses plan.rows (All-permutation HasFewProcesses config.hosts configs moved within.processes);
      texts = each_row HaveFewBytes plan.rows (All-permutation HaveFewBytes config.hosts configs moved within.texts);
      stop = subst MayStop (sym stop) within.stop;
    }

-- ---- a self-load

pub small_address : (j : ℕ) → j < 4096 → address_number j < 10 ^ 10
small_address j lt = let a = div-le_self j 254 in let b : j % 254 < 254 = mod-lt j (omega arith) in omega (arith, a, b, lt)

pub few_bytes : (j : ℕ) → j < 4096 → HasFewBytes (ring_process j)
few_bytes j lt = let short = length-decimal-le 10 (address_number j) (omega arith) (small_address j lt) (omega (arith, small_address j lt)) in omega (arith, short)

pub each_ring_host : (P : HostConfig → Type 0) (n : ℕ) → ((i : ℕ) → i < n → P (ring_host n i)) → All P (map (ring_host n) (range_with_len 0 n))
each_ring_host P n h k d lt =
    let i : k < n = omega (arith, lt, length-map-range_with_len (ring_host n) 0 n) in
    subst P (sym (get_or-map-range_with_len (ring_host n) 0 n k k d i (omega arith))) (h k i)

given_or : {A : Type 0} (P : A → Type 0) (o : Option A) (default : A) → IfSome o P → P default → P (unwrap_or o default)
given_or P None default h k = k
given_or P (Some a) default h k = h

pub self_load_within : (o : Overrides) (n : ℕ) → 0 < n → n ≤ 4096 → MayOverride o → IsWithinLimits (self_load_config o n)
unfolding self_load_config
self_load_within o n some few may =
    let count = length-map-range_with_len (ring_host n) 0 n in
    record {
      few = (omega (arith, count, some), omega (arith, count, few));
      processes = each_ring_host HasFewProcesses n (λ i lt. omega arith);
      texts = each_ring_host HaveFewBytes n (λ i lt. All-cons HasFewBytes (ring_process (next_host n i)) [] (few_bytes (next_host n i) (let b : (i + 1) % n < n = mod-lt (i + 1) some in omega (arith, b, few))) (All-nil HasFewBytes));
      stop = given_or MayStop o.stop_time (record { nanos = 5000000000 }) may.stop (omega arith, omega arith);
      directory = given_or IsSomeText o.data_directory (codes "shadow.data") may.directory (omega arith);
    }

pub config_within : {E : Type 0} (d : Config) (r : Result Config E) → IfOk r (λ (c : Config). c ≡ d) → IsWithinLimits d → IfOk r IsWithinLimits
config_within d (Ok c) h within = subst IsWithinLimits (sym h) within
config_within d (Err e) h within = tt
