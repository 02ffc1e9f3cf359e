use Rattle.std.proofs.Common.{◌≡◌, ℕ, ◌+◌, ◌-◌, ◌≤◌, List, length, take, drop, None, ◌∙◌, arith, subst}
use Rattle.std.proofs.lemmas.List.{length-take-le, length-drop}
use Rattle.elf_load.specs.Cells.{Cells}
use Rattle.guest_mem.specs.declared.right.Right.TheVariants.{Write}
use Rattle.guest_mem.specs.Memory.{bytes_for, put_all}
use Rattle.guest_mem.proofs.CellLemmas.{part_open_after, put_more}
use Rattle.guest_mem.specs.inside.Pages.{mapped_cells}
use Rattle.guest_mem.specs.inside.PageStore.{shown}
use Rattle.guest_mem.proofs.table.PageTable.copy_in_over.Goals as goal

pub unreachable-requires : goal.unreachable-requires
unreachable-requires c =
    let done : ℕ = c.loop-done.done in
    let count : ℕ = c.len_in_page-count.result in
    let bytes : List ℕ = c.args.bytes.now in
    let now : Cells = mapped_cells (shown c.loop-done.self.pages) in
    let fits : done + count ≤ length bytes = omega arith in
    let exact : done + count - done ≡ count = omega arith in
    let as_long : length (take (done + count - done) (drop done bytes)) ≡ count = rw exact (length-take-le count (drop done bytes) (omega (arith, length-drop done bytes))) in
    let none : bytes_for Write count now (c.args.at + done) ≡ None = subst (λ (k : ℕ). bytes_for Write k now (c.args.at + done) ≡ None) as_long c.in_default.ensures.bad in
    part_open_after Write (mapped_cells (shown c.args.self.now.pages)) now c.args.at (length bytes) done count (take done bytes) c.if-not-is_open.ensures.value fits c.loop-done.invariant.put_so_far none

pub loop-done-preserved : goal.loop-done-preserved
loop-done-preserved c =
    let done : ℕ = c.loop-done.done in
    let count : ℕ = c.len_in_page-count.result in
    let bytes : List ℕ = c.args.bytes.now in
    let now : Cells = mapped_cells (shown c.loop-done.self.pages) in
    let next : Cells = mapped_cells (shown c.put_within.new.self.pages) in
    let fits : done + count ≤ length bytes = omega arith in
    let exact : done + count - done ≡ count = omega arith in
    let put : next ≡ put_all now (c.args.at + done) (take count (drop done bytes)) = rw exact at c.in-Ok.ensures.put in
    record {
      within = fits;
      in_range = c.loop-done.invariant.in_range;
      put_so_far = put_more (mapped_cells (shown c.args.self.now.pages)) now next c.args.at done count bytes fits c.loop-done.invariant.put_so_far put;
      kept = record {
        fixed = c.in-Ok.ensures.kept.fixed ∙ c.loop-done.invariant.kept.fixed;
        heap = c.in-Ok.ensures.kept.heap ∙ c.loop-done.invariant.kept.heap;
        count = c.in-Ok.ensures.kept.count ∙ c.loop-done.invariant.kept.count;
      };
    }
