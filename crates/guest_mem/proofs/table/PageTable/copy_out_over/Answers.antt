use Rattle.std.proofs.Common.{◌≡◌, ℕ, ◌+◌, ◌-◌, ◌≤◌, ◌++◌, List, length, take, Some, sym, ap, ◌∙◌, arith}
use Rattle.std.proofs.lemmas.Slice.{take-put_mid}
use Rattle.elf_load.specs.Cells.{Cells}
use Rattle.guest_mem.proofs.CellLemmas.{bytes_for_append, part_open, length_put_mid}
use Rattle.guest_mem.specs.inside.Pages.{mapped_cells}
use Rattle.guest_mem.specs.inside.PageStore.{shown}
use Rattle.guest_mem.proofs.table.PageTable.copy_out_over.Goals as goal

pub unreachable-requires : goal.unreachable-requires
unreachable-requires c =
    let fits : c.loop-done.done + c.len_in_page-count.result ≤ length c.args.into.now = omega arith in
    part_open c.args.right (mapped_cells (shown c.args.self.now.pages)) c.args.at (length c.args.into.now) c.loop-done.done c.len_in_page-count.result c.if-not-is_open.ensures.value fits c.in_default.ensures.found

pub loop-done-preserved : goal.loop-done-preserved
loop-done-preserved c =
    let cells : Cells = mapped_cells (shown c.args.self.now.pages) in
    let done : ℕ = c.loop-done.done in
    let count : ℕ = c.len_in_page-count.result in
    let into : List ℕ = c.loop-done.into in
    let part : List ℕ = c.copy_from_slice.new.self in
    let as_long : length into ≡ length c.args.into.now = c.loop-done.auto.into in
    let fits : done + count ≤ length into = omega arith in
    let exact : done + count - done ≡ count = omega arith in
    let part_long : length part ≡ count = ap (λ (xs : List ℕ). length xs) c.copy_from_slice.ensures.after ∙ c.in-Some.ensures.whole in
    rw exact record {
      within = omega (arith, length_put_mid done count into part fits part_long);
      in_range = omega (arith, length_put_mid done count into part fits part_long, c.loop-done.invariant.in_range);
      read_so_far =
          bytes_for_append c.args.right cells done count c.args.at (take done into) c.in-Some.bytes.now c.loop-done.invariant.read_so_far c.in-Some.ensures.found
          ∙ ap (λ (xs : List ℕ). Some (take done into ++ xs)) (sym c.copy_from_slice.ensures.after)
          ∙ ap (λ (xs : List ℕ). Some xs) (sym (take-put_mid done count into part (done + count) (omega arith) (omega arith)));
    }
