-- The text of a self-load's configuration has no key without effect, and few nodes.
use Rattle.std.proofs.Common.{◌≡◌, ℕ, zero, suc, ◌+◌, ◌*◌, ◌≤◌, List, [], ◌++◌, map, flat_map, codes, unwrap_or, refl, ap, ◌∙◌, arith}
use Rattle.std.specs.List.{range_with_len}
use Rattle.yaml_tree.specs.Said.{Said, size}
use Rattle.yaml_tree.specs.Said.Said.{mapping}
use Rattle.shd_config.specs.Keys.{key_of}
use Rattle.shd_config.specs.Notes.{held, host_notes, hosts_notes, notes, path_behind}
use Rattle.shd_config.specs.declared.config.HostConfig.{HostConfig}
use Rattle.shown_config.specs.Same.{no_overrides}
use Rattle.shown_config.proofs.words.Words.Word.{quote}
use Rattle.shown_config.proofs.blocks.Blocks.{Block, block_said, after_block, block_pairs, pair_at}
use Rattle.shown_config.proofs.blocks.BlockSaid.{block_pairs_is}
use Rattle.shown_config.proofs.blocks.BlockText.{tree_of_block}
use Rattle.shown_config.proofs.config.ConfigBlock.{host_block, hosts_block, config_block}
use Rattle.run_plan.specs.SelfLoad.{ring_host, self_load_config}

abbrev pub ring_hosts : ℕ → ℕ → ℕ → List HostConfig
ring_hosts n a k = map (ring_host n) (range_with_len a k)

-- ---- nodes

host_size : (n i line : ℕ) → size (block_said line (mapping line) (host_block (ring_host n i))) ≡ 14
host_size n i line = refl

hosts_size : (n k a line : ℕ) (before : Said) → size (block_said line before (hosts_block (ring_hosts n a k))) ≡ size before + 14 * k
hosts_size n zero a line before = omega arith
hosts_size n (suc k) a line before =
    let inner = host_block (ring_host n a) in
    let own = host_size n a (1 + line) in
    let more = hosts_size n k (a + 1) (after_block (1 + line) inner) (Said.with_pair before line (ring_host n a).name (block_said (1 + line) (mapping (1 + line)) inner)) in
    omega (arith, own, more)

pub few_nodes : (n : ℕ) → n ≤ 4096 → size (tree_of_block (config_block (self_load_config no_overrides n))) ≤ 1_000_000
unfolding self_load_config
few_nodes n few = omega (arith, hosts_size n n 0 14 (mapping 14), few)

-- ---- notes

-- the pairs of a key with a block below it
block_held : (n : ℕ) (key : List ℕ) (b : Block) → held (record { line = n; key = key; value = block_said (1 + n) (mapping (1 + n)) b }) ≡ block_pairs (1 + n) b
block_held n key b = ap (λ o. unwrap_or o []) (block_pairs_is (1 + n) b)

host_is_silent : (n i line : ℕ) (front : List ℕ) → flat_map (host_notes front) (block_pairs line (host_block (ring_host n i))) ≡ []
unfolding key_of
host_is_silent n i line front = refl

hosts_are_silent : (n k a line : ℕ) (front : List ℕ) → flat_map (hosts_notes front) (block_pairs line (hosts_block (ring_hosts n a k))) ≡ []
hosts_are_silent n zero a line front = refl
hosts_are_silent n (suc k) a line front =
    let h = ring_host n a in
    let p = pair_at line (quote h.name) (block_said (1 + line) (mapping (1 + line)) (host_block h)) in
    let own : hosts_notes front p ≡ [] = ap (flat_map (host_notes (path_behind front p))) (block_held line h.name (host_block h)) ∙ host_is_silent n a (1 + line) (path_behind front p) in
    ap (λ (l : List (List ℕ)). l ++ flat_map (hosts_notes front) (block_pairs (after_block (1 + line) (host_block h)) (hosts_block (ring_hosts n (a + 1) k)))) own
    ∙ hosts_are_silent n k (a + 1) (after_block (1 + line) (host_block h)) front

pub no_notes : (n : ℕ) → notes (block_pairs 1 (config_block (self_load_config no_overrides n))) ≡ []
unfolding self_load_config notes key_of
no_notes n = ap (λ (l : List (List ℕ)). l ++ []) (ap (flat_map (hosts_notes (codes "hosts"))) (block_held 13 (codes "hosts") (hosts_block (ring_hosts n 0 n))) ∙ hosts_are_silent n n 0 14 (codes "hosts"))
