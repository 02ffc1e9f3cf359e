use Rattle.std.proofs.Common.{ℕ, List, Ok, sym, ap, subst, ◌∙◌, arith}
use Rattle.std.proofs.lemmas.Result.{err_from_is_err_and}
use Rattle.yaml_tree.specs.Said.Said.{sequence, mapping}
use Rattle.yaml_tree.specs.Trees.{nodes_of}
use Rattle.yaml_tree.specs.declared.node.Value.{Value}
use Rattle.yaml_merge.specs.Merge.{below, merged}
use Rattle.yaml_merge.specs.inside.Held.{valid_text, keys_in}
use Rattle.yaml_merge.specs.Rows.{with_items, with_pairs}
use Rattle.yaml_merge.specs.inside.Merging.{ItemsMergeTo, ValueMergesTo}
use Rattle.yaml_merge.proofs.HeldLaws.{found}
use Rattle.yaml_merge.proofs.MergingLaws.{below_fails, entry_wrong, entry_stops, entry_put, items_end, items_go_on, items_stop, entries_go_on, entries_stop}
use Rattle.yaml_merge.proofs.merging.+merge.Goals as goal

pub merge_node-returns-then-depth-eq0 : goal.merge_node-returns-then-depth-eq0
merge_node-returns-then-depth-eq0 t c = λ said h. absurd (omega (arith, h.shallow))

pub merge_node-returns-in-Some : goal.merge_node-returns-in-Some
merge_node-returns-in-Some t c = λ said h. c.merge_value.ensures (merged said) (found c.args.depth (nodes_of c.args.tree.now) c.args.number _ said c.in-Some.ensures h).0

pub merge_node-returns-in-None : goal.merge_node-returns-in-None
merge_node-returns-in-None t c = λ said h. absurd (found c.args.depth (nodes_of c.args.tree.now) c.args.number _ said c.in-None.ensures h)

pub merge_value-returns-in-Null : goal.merge_value-returns-in-Null
merge_value-returns-in-Null t c = λ whole h.
    subst (λ (v : Value). ValueMergesTo c.args.depth (nodes_of c.args.tree.now) c.args.node.now.line v whole) c.in-Null.is h ∙ ap Ok (sym c.null.ensures)

pub merge_value-returns-in-Sequence : goal.merge_value-returns-in-Sequence
merge_value-returns-in-Sequence t c = λ whole h.
    c.merge_items.ensures whole (subst (λ (ns : List ℕ). ItemsMergeTo c.args.depth (nodes_of c.args.tree.now) (sequence c.args.node.now.line) 0 ns whole) (sym c.as_slice.ensures)
    (subst (λ (v : Value). ValueMergesTo c.args.depth (nodes_of c.args.tree.now) c.args.node.now.line v whole) c.in-Sequence.is h))

pub merge_value-returns-in-Mapping : goal.merge_value-returns-in-Mapping
merge_value-returns-in-Mapping t c = λ whole h.
    let held = subst (λ (v : Value). ValueMergesTo c.args.depth (nodes_of c.args.tree.now) c.args.node.now.line v whole) c.in-Mapping.is h in
    c.merge_entries.ensures held.0 whole held.1 held.2

pub merge_items-loop-number-preserved : goal.merge_items-loop-number-preserved
merge_items-loop-number-preserved t c = λ whole h.
    items_go_on c.args.depth (nodes_of c.args.tree.now) c.args.line c.args.numbers.now c.loop-number.number-index _ _ c.loop-number.items.items _ c.in-Ok.item whole
    c.loop-number-test.true c.in_ok-push.ensures.items c.in_ok-push.ensures.len c.in-Ok.ensures (c.loop-number.invariant whole h)

pub merge_items-returns-in-Err : goal.merge_items-returns-in-Err
merge_items-returns-in-Err t c = λ whole h.
    items_stop c.args.depth (nodes_of c.args.tree.now) (with_items (sequence c.args.line) c.loop-number.items.items) c.args.numbers.now c.loop-number.number-index _ _ c.is_mapping-keyed.result
    c.in-Err.error c.below_item.result whole c.loop-number-test.true c.len.ensures c.is_mapping-keyed.ensures c.below_item.ensures c.in-Err.ensures (c.loop-number.invariant whole h)

pub merge_items-returns : goal.merge_items-returns
merge_items-returns t c = λ whole h.
    items_end c.args.depth (nodes_of c.args.tree.now) (with_items (sequence c.args.line) c.loop-number.items.items) c.args.numbers.now c.loop-number.number-index _ whole c.loop-number-test.false
    (c.loop-number.invariant whole h) ∙ ap Ok (sym c.sequence.ensures)

pub merge_entries-loop-key-preserved : goal.merge_entries-loop-key-preserved
merge_entries-loop-key-preserved t c = λ all whole keys h.
    entries_go_on c.args.depth (nodes_of c.args.tree.now) all (with_pairs (mapping c.args.line) c.loop-key.pairs.items) (with_pairs (mapping c.args.line) c.in_ok-pairs.pairs.items)
    c.loop-key.key-iterator c.next.new.self (c.in-Some.key.now, c.in-Some.child.now) c.valid_text-key.result.now whole
    c.in-Some.ensures.steps (c.valid_text-key.ensures ∙ ap valid_text c.as_slice.ensures) (λ v hold. c.in_ok-pairs.ensures all v c.args.line keys hold) (c.loop-key.invariant all whole keys h)

pub merge_entries-returns-in_err-pairs : goal.merge_entries-returns-in_err-pairs
merge_entries-returns-in_err-pairs t c =
    let p = err_from_is_err_and c.from_residual.result c.from_residual.ensures.1 in
    rw (p.1, p.2) (λ all whole keys h.
    entries_stop c.args.depth (nodes_of c.args.tree.now) all (with_pairs (mapping c.args.line) c.loop-key.pairs.items)
    c.loop-key.key-iterator c.next.new.self (c.in-Some.key.now, c.in-Some.child.now) c.valid_text-key.result.now c.in_err-pairs.field-0.0 whole
    c.in-Some.ensures.steps (c.valid_text-key.ensures ∙ ap valid_text c.as_slice.ensures) (λ v hold. c.in_err-pairs.ensures all v c.args.line keys hold) (c.loop-key.invariant all whole keys h))

pub merge_entry-returns-then-is_wrong : goal.merge_entry-returns-then-is_wrong
merge_entry-returns-then-is_wrong t c = λ all value first keys h.
    entry_wrong all (with_pairs (mapping first) c.args.pairs.items) c.args.child.line c.args.key.now value (merged value) c.wrong_value.result (sym (c.is_wrong.ensures c.args.depth value h) ∙ c.if-is_wrong.true)
    c.wrong_value.ensures

pub merge_entry-returns-in_ok-put-in-Ok : goal.merge_entry-returns-in_ok-put-in-Ok
merge_entry-returns-in_ok-put-in-Ok t c = λ all value first keys h.
    entry_put all (mapping first) c.args.child.line c.args.key.now value (merged value) (keys_in c.args.entries.now) c.args.pairs.items _ c.in-Ok.value (sym (c.is_wrong.ensures c.args.depth value h) ∙ c.if-is_wrong.false)
    keys (ap (below c.args.key.now value) (c.in-Ok.ensures value h)) c.in_ok-put-in-Ok.ensures

pub merge_entry-returns-in-Err : goal.merge_entry-returns-in-Err
merge_entry-returns-in-Err t c = λ all value first keys h.
    entry_stops all (with_pairs (mapping first) c.args.pairs.items) c.args.child.line c.args.key.now value (merged value) c.below.result (sym (c.is_wrong.ensures c.args.depth value h) ∙ c.if-is_wrong.false)
    (below_fails (nodes_of c.args.tree.now) c.args.child.node c.in-Err.error c.below.result c.args.key.now c.is_mapping-keyed.result value c.is_mapping-keyed.ensures h.held c.below.ensures (c.in-Err.ensures value h))
