-- The text that shows a plain configuration gives it again.
use Rattle.std.proofs.Common.{◌≡◌, ℕ, ◌+◌, false, List, [], map, None, Some, Ok, nat_eq, refl, ap, ◌∙◌}
use Rattle.std.specs.List.{starts_with, list_all}
use Rattle.std.proofs.lemmas.List.Elements.{recursion_from_All}
use Rattle.sim_base.specs.Refusals.{◌>>=◌}
use Rattle.yaml_tokens.specs.Lines.{byte_order_mark, lines_of}
use Rattle.yaml_tokens.specs.Tokens.{tokens_of}
use Rattle.yaml_tree.specs.Written.{is_name}
use Rattle.yaml_tree.specs.Tree.{is_empty_document}
use Rattle.yaml_merge.specs.Merge.{merged}
use Rattle.yaml_merge.specs.Plain.{line_of}
use Rattle.yaml_merge.specs.declared.plain.Pair.{Pair}
use Rattle.yaml_merge.proofs.MergeLaws.{free_fixed}
use Rattle.shd_config.specs.Steps.{through, mapping_line}
use Rattle.shd_config.specs.Keys.{key_of}
use Rattle.shd_config.specs.Notes.{notes}
use Rattle.shd_config.specs.Host.{completed, no_options}
use Rattle.shd_config.specs.Config.{new_root, root_row, finished_root, root_of, merged_config, wrong_merge, config, kept}
use Rattle.config_lines.specs.Shown.{shown}
use Rattle.shd_config.specs.declared.config.Config.{Config}
use Rattle.shd_config.specs.declared.reading.RootDraft.{RootDraft}
use Rattle.shown_config.specs.Plain.{IsPlainHost, IsPlain}
use Rattle.shown_config.specs.Same.{no_overrides, ReadsBack}
use Rattle.shown_config.proofs.blocks.Blocks.{block_pairs, after_block}
use Rattle.shown_config.proofs.blocks.BlockTokens.{block_has_tokens}
use Rattle.shown_config.proofs.blocks.BlockText.{tree_of_block, block_is_tidy, block_lines_is, block_says, block_is_tree}
use Rattle.shown_config.proofs.config.ConfigBlock.{general_block, network_block, config_block}
use Rattle.shown_config.proofs.config.ConfigText.{shown_text}
use Rattle.shown_config.proofs.config.ConfigKeys.{config_is_block}
use Rattle.shown_config.proofs.reading.GeneralReads.{general_value, general_reads, network_value, network_reads}
use Rattle.shown_config.proofs.reading.HostReads.{hosts_read, hosts_reads, hosts_same}

-- the line of `network`, and that of `hosts`
abbrev network_line : Config → ℕ
network_line c = after_block 2 (general_block c)

abbrev hosts_line : Config → ℕ
hosts_line c = after_block (1 + network_line c) (network_block c)

abbrev root_pairs : Config → List Pair
root_pairs c = block_pairs 1 (config_block c)

abbrev root_draft : Config → RootDraft
root_draft c = record { general = Some (general_value c); network = Some (network_value c); hosts = Some (hosts_read (1 + hosts_line c) c.hosts); options = no_options }

root_through : (c : Config) → IsPlain c → through (root_row no_overrides) new_root (root_pairs c) ≡ Ok (root_draft c)
unfolding key_of
root_through c h =
    rw (general_reads 1 c h, network_reads (network_line c) c, hosts_reads (hosts_line c) c.hosts h.few.0 h.few.1 (recursion_from_All IsPlainHost c.hosts h.hosts)) refl

-- what is read again
abbrev again : Config → Config
again c = record c { hosts = map (completed no_options) (hosts_read (1 + hosts_line c) c.hosts); notes = notes (root_pairs c) }

root_reads : (c : Config) (line : ℕ) → IsPlain c → root_of no_overrides line (root_pairs c) ≡ Ok (again c)
unfolding root_of
root_reads c line h = ap (λ r. r >>= finished_root no_overrides (notes (root_pairs c)) (mapping_line line (kept (root_pairs c)))) (root_through c h)

config_reads : (c : Config) → IsPlain c → config no_overrides false (tree_of_block (config_block c)) ≡ Ok (again c)
unfolding config merged
config_reads c h =
    let tree = tree_of_block (config_block c) in
    let t = block_is_tidy (config_block c) (config_is_block c h) in
    ap (λ r. wrong_merge r >>= merged_config no_overrides false) (free_fixed tree tree t.free)
    ∙ root_reads c (line_of tree) h

-- the text begins with a letter
no-mark : (c : Config) → starts_with nat_eq (shown c) byte_order_mark ≡ false
unfolding shown
no-mark c = refl

-- its first token is a key
not_empty : (c : Config) → IsPlain c → is_empty_document (lines_of (shown c)) ≡ false
not_empty c h =
    let b = config_is_block c h in
    ap (list_all is_name) (ap tokens_of (block_lines_is (shown c) (config_block c) b (shown_text c) (no-mark c)) ∙ block_has_tokens false None 1 0 (config_block c) b.spelled)

pub reads_back : (c : Config) → IsPlain c → ReadsBack c
reads_back c h =
    let b = config_is_block c h in
    record {
      tree = tree_of_block (config_block c);
      says = block_says (shown c) (config_block c) b (shown_text c) (no-mark c);
      is = block_is_tree (shown c) (config_block c) b (shown_text c) (no-mark c);
      some = not_empty c h;
      again = again c;
      read = config_reads c h;
      same = λ i. record c { hosts = hosts_same (1 + hosts_line c) c.hosts i; notes = [] };
    }
