use Rattle.std.proofs.Common.{◌≡◌, ℕ, ◌+◌, ◌-◌, ◌^◌, ◌<◌, ◌≤◌, None, refl, arith}
use Rattle.guest_mem.specs.Memory.{bytes_for}
use Rattle.guest_mem.proofs.CellLemmas.{bytes_for_none, open_more, open_stops}
use Rattle.guest_mem.proofs.PageLemmas.{byte_for_past}
use Rattle.guest_mem.specs.inside.Pages.{mapped_cells}
use Rattle.guest_mem.specs.inside.PageStore.{shown}
use Rattle.guest_mem.proofs.SlotLemmas.{shown_below}
use Rattle.guest_mem.proofs.table.PageTable.is_open.Goals as goal

pub returns-then-len-from-clause-value : goal.returns-then-len-from-clause-value
returns-then-len-from-clause-value c =
    let a : ℕ = c.args.at in
    let past : 2 ^ 32 - a < c.args.len = omega arith in
    let none : bytes_for c.args.right c.args.len (mapped_cells (shown c.args.self.now.pages)) a ≡ None =
    bytes_for_none c.args.right (mapped_cells (shown c.args.self.now.pages)) c.args.len a (2 ^ 32 - a) past (byte_for_past c.args.right (shown c.args.self.now.pages) (a + (2 ^ 32 - a)) (shown_below c.args.self.now.pages) (omega arith)) in
    rw none refl

pub returns-in_default-clause-value : goal.returns-in_default-clause-value
returns-in_default-clause-value c =
    let fits : c.loop-done.done + c.len_in_page-count.result ≤ c.args.len = omega arith in
    let none : bytes_for c.args.right c.args.len (mapped_cells (shown c.args.self.now.pages)) c.args.at ≡ None =
    open_stops c.args.right (mapped_cells (shown c.args.self.now.pages)) c.loop-done.done c.len_in_page-count.result c.args.len c.args.at c.in_default.ensures.found fits in
    rw none refl

pub loop-done-preserved : goal.loop-done-preserved
loop-done-preserved c =
    let fits : c.loop-done.done + c.len_in_page-count.result ≤ c.args.len = omega arith in
    record {
      within = fits;
      in_range = c.loop-done.invariant.in_range;
      open_so_far = open_more c.args.right (mapped_cells (shown c.args.self.now.pages)) c.loop-done.done c.len_in_page-count.result c.args.at c.in-Some.field-0.now c.loop-done.invariant.open_so_far c.in-Some.ensures.found;
    }
