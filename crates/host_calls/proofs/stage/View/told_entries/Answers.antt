use Rattle.std.proofs.Common.{◌∙◌, ap, List, ℕ}
use Rattle.host_calls.specs.Polling.{told_entry}
use Rattle.host_calls.specs.inside.Stage.{scene_in}
use Rattle.host_calls.proofs.Entries.{told_entries_next}
use Rattle.host_calls.proofs.stage.View.told_entries.Goals as goal

pub loop-place-preserved : goal.loop-place-preserved
loop-place-preserved c = λ t stands.
    let v = c.args.self.now in
    told_entries_next v.time (scene_in v t) c.args.count c.loop-place.place c.args.entries.now _ c.loop-place.bytes.items
    c.extend_from_slice.new.self.items c.told_entry.result c.loop-place-test.true (c.loop-place.invariant t stands)
    (c.told_entry.ensures t stands ∙ ap (λ (x : List ℕ). told_entry v.time (scene_in v t) x) c.entry_at-entry.ensures)
    c.in_ok-extend_from_slice.ensures.items
