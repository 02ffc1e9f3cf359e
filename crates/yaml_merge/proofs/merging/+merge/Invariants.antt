use Rattle.std.proofs.Common.{◌≡◌, ◌+◌, ◌*◌, Result, drop, vec_len}
use Rattle.yaml_tree.specs.Said.{Said}
use Rattle.yaml_tree.specs.Said.Said.{sequence, mapping}
use Rattle.yaml_merge.specs.inside.Held.{keys_in}
use Rattle.yaml_merge.specs.Rows.{with_items, with_pairs}
use Rattle.yaml_merge.specs.inside.Merging.{ItemsMergeTo, EntriesMergeTo}
use Rattle.yaml_merge.specs.Merge.{keys_of}
use Rattle.yaml_merge.specs.declared.fault.MergeFault.{MergeFault}
use Rattle.yaml_merge.proofs.merging.+merge.Given as goal

-- each call goes a level down, or passes the levels on to a helper

abbrev pub decreases-merge_node : goal.decreases-merge_node
decreases-merge_node l = 4 * l.depth

abbrev pub decreases-merge_entry : goal.decreases-merge_entry
decreases-merge_entry l = 4 * l.depth + 1

abbrev pub decreases-merge_entries : goal.decreases-merge_entries
decreases-merge_entries l = 4 * l.depth + 2

abbrev pub decreases-merge_items : goal.decreases-merge_items
decreases-merge_items l = 4 * l.depth + 2

abbrev pub decreases-merge_value : goal.decreases-merge_value
decreases-merge_value l = 4 * l.depth + 3

-- what all merge to, what is left merges to behind what is merged

abbrev pub invariant-merge_entries-loop-key : goal.invariant-merge_entries-loop-key
invariant-merge_entries-loop-key l = (all : Said) (whole : Result Said MergeFault) → keys_of all ≡ keys_in l.entries → EntriesMergeTo l.depth l.tree.nodes all (mapping l.line) l.entries whole
    → EntriesMergeTo l.depth l.tree.nodes all (with_pairs (mapping l.line) l.pairs.items) l.key-iterator whole

abbrev pub invariant-merge_items-loop-number : goal.invariant-merge_items-loop-number
invariant-merge_items-loop-number l = (whole : Result Said MergeFault) → ItemsMergeTo l.depth l.tree.nodes (sequence l.line) 0 l.numbers whole
    → ItemsMergeTo l.depth l.tree.nodes (with_items (sequence l.line) l.items.items) (vec_len l.items) (drop l.number-index l.numbers) whole
