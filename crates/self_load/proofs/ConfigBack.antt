-- The text of a self-load's configuration is read as this configuration, whatever is overridden.
use Rattle.std.proofs.Common.{◌≡◌, ℕ, ◌+◌, ◌-◌, ◌^◌, ◌≤◌, ◌<◌, Bool, true, false, ◌&&◌, List, map, length, Option, None, Some, is_some, unwrap_or, Result, Ok, Err, IfOk, codes, nat_eq, refl, sym, ap, ◌∙◌, subst, arith, lt-ltb}
use Rattle.std.specs.List.{starts_with, list_all}
use Rattle.std.proofs.lemmas.List.Elements.{recursion_from_All}
use Rattle.sim_base.specs.Refusals.{◌>>=◌}
use Rattle.yaml_tokens.specs.Lines.{byte_order_mark, lines_of}
use Rattle.yaml_tokens.specs.Tokens.{tokens_of}
use Rattle.yaml_tree.specs.Written.{is_name}
use Rattle.yaml_tree.specs.Tree.{is_empty_document}
use Rattle.yaml_merge.specs.Merge.{merged}
use Rattle.yaml_merge.specs.Plain.{line_of}
use Rattle.yaml_merge.specs.declared.plain.Pair.{Pair}
use Rattle.yaml_merge.proofs.MergeLaws.{free_fixed}
use Rattle.shd_config.specs.General.{overridden, general_of, general_at}
use Rattle.shd_config.specs.Steps.{needed, through, mapping_line}
use Rattle.shd_config.specs.Keys.{key_of}
use Rattle.shd_config.specs.Values.{is_some_text}
use Rattle.shd_config.specs.Notes.{notes}
use Rattle.shd_config.specs.Host.{completed, no_options}
use Rattle.shd_config.specs.Config.{new_root, root_row, finished_root, root_of, merged_config, wrong_merge, config, kept}
use Rattle.config_lines.specs.Shown.{shown}
use Rattle.shd_config.specs.declared.config.Config.{Config}
use Rattle.shd_config.specs.declared.general.General.{General}
use Rattle.shd_config.specs.declared.overrides.Overrides.{Overrides}
use Rattle.shd_config.specs.declared.reading.RootDraft.{RootDraft}
use Rattle.shown_config.specs.Plain.{IsPlainHost, IsPlain}
use Rattle.shown_config.specs.Same.{no_overrides}
use Rattle.shown_config.proofs.reading.ReadSteps.{number_ok, time_ok, stop_time_ok, text_ok}
use Rattle.shown_config.proofs.blocks.Blocks.{block_pairs, after_block}
use Rattle.shown_config.proofs.blocks.BlockTokens.{block_has_tokens}
use Rattle.shown_config.proofs.blocks.BlockText.{tree_of_block, block_is_tidy, block_lines_is, block_is_tree}
use Rattle.shown_config.proofs.config.ConfigBlock.{general_block, network_block, config_block}
use Rattle.shown_config.proofs.config.ConfigText.{shown_text}
use Rattle.shown_config.proofs.config.ConfigKeys.{config_is_block}
use Rattle.shown_config.proofs.reading.GeneralReads.{general_pair, network_value, network_reads}
use Rattle.shown_config.proofs.reading.HostReads.{hosts_read, hosts_reads, hosts_same}
use Rattle.run_plan.specs.SelfLoad.{self_load_config}
use Rattle.self_load.specs.Means.{without_lines, SaysConfig}
use Rattle.self_load.proofs.ConfigPlain.{plain}
use Rattle.self_load.proofs.ConfigNotes.{ring_hosts, few_nodes, no_notes}

-- ---- what an option overrides

and_false : (b : Bool) → (b && false) ≡ false
and_false true = refl
and_false false = refl

needed_given : {A : Type 0} (key : List ℕ) (line : ℕ) (o : Option A) (x : A) → needed key line (overridden o (Some x)) ≡ Ok (unwrap_or o x)
needed_given key line None x = refl
needed_given key line (Some y) x = refl

or_given : {A : Type 0} (o : Option A) (x default : A) → unwrap_or (overridden o (Some x)) default ≡ unwrap_or o x
or_given None x default = refl
or_given (Some y) x default = refl

-- ---- `general`

abbrev general_with : Overrides → Config → General
general_with o c = record {
  stop_time = unwrap_or o.stop_time c.stop_time;
  seed = unwrap_or o.seed c.seed;
  parallelism = unwrap_or o.parallelism c.parallelism;
  bootstrap_end_time = c.bootstrap_end_time;
  data_directory = unwrap_or o.data_directory c.data_directory;
}

general_reads : (o : Overrides) (n : ℕ) (c : Config) → IsPlain c → general_at o (general_pair n c) ≡ Ok (general_with o c)
unfolding general_at general_of key_of
general_reads o n c h =
    rw (
      and_false (is_some o.stop_time),
      stop_time_ok c.stop_time (1 + n) (codes "stop_time") h.stop.0 h.stop.1,
      number_ok 0 (2 ^ 32 - 1) c.seed (1 + (1 + n)) (codes "seed") (omega arith) (omega (arith, h.seed)) (omega arith),
      number_ok 0 (2 ^ 32 - 1) c.parallelism (1 + (1 + (1 + n))) (codes "parallelism") (omega arith) (omega (arith, h.parallelism)) (omega arith),
      time_ok c.bootstrap_end_time (1 + (1 + (1 + (1 + n)))) (codes "bootstrap_end_time") h.bootstrap,
      text_ok is_some_text c.data_directory (codes "data_directory") (1 + (1 + (1 + (1 + (1 + n))))) (lt-ltb 0 (length c.data_directory) h.named),
      needed_given (codes "stop_time") (1 + n) o.stop_time c.stop_time,
      or_given o.seed c.seed 1,
      or_given o.parallelism c.parallelism 0,
      or_given o.data_directory c.data_directory (codes "shadow.data"),
    ) refl

-- ---- the whole

-- the line of `network`, and that of `hosts`
abbrev network_line : Config → ℕ
network_line c = after_block 2 (general_block c)

abbrev hosts_line : Config → ℕ
hosts_line c = after_block (1 + network_line c) (network_block c)

abbrev root_pairs : Config → List Pair
root_pairs c = block_pairs 1 (config_block c)

abbrev root_draft : Overrides → Config → RootDraft
root_draft o c = record { general = Some (general_with o c); network = Some (network_value c); hosts = Some (hosts_read (1 + hosts_line c) c.hosts); options = no_options }

root_through : (o : Overrides) (c : Config) → IsPlain c → through (root_row o) new_root (root_pairs c) ≡ Ok (root_draft o c)
unfolding key_of
root_through o c h =
    rw (and_false (is_some o.stop_time), general_reads o 1 c h, network_reads (network_line c) c, hosts_reads (hosts_line c) c.hosts h.few.0 h.few.1 (recursion_from_All IsPlainHost c.hosts h.hosts)) refl

-- what is read
abbrev said_with : Overrides → Config → Config
said_with o c = record c {
  stop_time = unwrap_or o.stop_time c.stop_time;
  seed = unwrap_or o.seed c.seed;
  parallelism = unwrap_or o.parallelism c.parallelism;
  data_directory = unwrap_or o.data_directory c.data_directory;
  hosts = map (completed no_options) (hosts_read (1 + hosts_line c) c.hosts);
  notes = notes (root_pairs c);
}

root_reads : (o : Overrides) (c : Config) (line : ℕ) → IsPlain c → root_of o line (root_pairs c) ≡ Ok (said_with o c)
unfolding root_of
root_reads o c line h = ap (λ r. r >>= finished_root o (notes (root_pairs c)) (mapping_line line (kept (root_pairs c)))) (root_through o c h)

config_reads : (o : Overrides) (c : Config) → IsPlain c → config o false (tree_of_block (config_block c)) ≡ Ok (said_with o c)
unfolding config merged
config_reads o c h =
    let tree = tree_of_block (config_block c) in
    let t = block_is_tidy (config_block c) (config_is_block c h) in
    ap (λ r. wrong_merge r >>= merged_config o false) (free_fixed tree tree t.free)
    ∙ root_reads o c (line_of tree) h

-- ---- the text

-- it begins with a letter
no-mark : (c : Config) → starts_with nat_eq (shown c) byte_order_mark ≡ false
unfolding shown
no-mark c = refl

-- its first token is a key
not_empty : (c : Config) → IsPlain c → is_empty_document (lines_of (shown c)) ≡ false
not_empty c h =
    let b = config_is_block c h in
    ap (list_all is_name) (ap tokens_of (block_lines_is (shown c) (config_block c) b (shown_text c) (no-mark c)) ∙ block_has_tokens false None 1 0 (config_block c) b.spelled)

-- ---- a self-load

same : (o : Overrides) (n : ℕ) → without_lines (said_with o (self_load_config no_overrides n)) ≡ without_lines (self_load_config o n)
unfolding self_load_config
same o n = λ i. record (self_load_config o n) { hosts = hosts_same 14 (ring_hosts n 0 n) i; notes = no_notes n i }

pub config_back : (n : ℕ) → 0 < n → n ≤ 4096 → (text : List ℕ) → text ≡ shown (self_load_config no_overrides n) → (o : Overrides) → SaysConfig text o (self_load_config o n)
config_back n some few text e o =
    let c = self_load_config no_overrides n in
    let h = plain n some few in
    let P : List ℕ → Type 0 = λ bytes. SaysConfig bytes o (self_load_config o n) in
    subst P (sym e)
    (record {
      tree = tree_of_block (config_block c);
      is = block_is_tree (shown c) (config_block c) (config_is_block c h) (shown_text c) (no-mark c) (few_nodes n few);
      said = said_with o c;
      read = ap (λ empty. config o empty (tree_of_block (config_block c))) (not_empty c h) ∙ config_reads o c h;
      same = same o n;
    })

-- the same of what was written, if anything
pub text_back : {E : Type 0} (n : ℕ) (r : Result (List ℕ) E) → 0 < n → n ≤ 4096 → IfOk r (λ text. text ≡ shown (self_load_config no_overrides n)) → IfOk r (λ text. (o : Overrides) → SaysConfig text o (self_load_config o n))
text_back n (Ok text) some few h = config_back n some few text h
text_back n (Err e) some few h = tt
