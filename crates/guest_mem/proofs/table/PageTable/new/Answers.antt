use Rattle.std.proofs.Common.{length, sym, ap, ◌∙◌}
use Rattle.std.specs.Arc.{arc_value}
use Rattle.guest_mem.specs.inside.PageStore.{shown}
use Rattle.guest_mem.specs.inside.Pages.{numbers}
use Rattle.guest_mem.specs.inside.Slots.{fixed_numbers}
use Rattle.guest_mem.proofs.HeapLemmas.{table_new}
use Rattle.guest_mem.proofs.SlotLemmas.{length-numbers}
use Rattle.guest_mem.proofs.table.PageTable.new.Goals as goal

pub invariant_of-result : goal.invariant_of-result
invariant_of-result c = record {
  low = c.requires.low;
  stay = c.len-fixed.ensures ∙ sym (length-numbers c.args.pages) ∙ ap length c.requires.listed;
  sound = table_new (fixed_numbers (arc_value c.args.pages.shared)) (numbers (shown c.args.pages)) c.args.heap c.requires.listed c.requires.apart c.requires.bounded;
}
