use Rattle.std.proofs.Common.{◌≡◌, ◌+◌, ◌-◌, ◌^◌, ◌≤◌, ℕ, List, length, take, Some}
use Rattle.elf_load.specs.Cells.{Cells}
use Rattle.guest_mem.specs.declared.right.Right.{Right}
use Rattle.guest_mem.specs.Memory.{bytes_for}
use Rattle.guest_mem.specs.inside.Pages.{mapped_cells}
use Rattle.guest_mem.specs.inside.PageStore.{shown}
use Rattle.guest_mem.proofs.table.PageTable.copy_out_over.Given as goal

-- the bytes so far are those of the cells
pub record IsReadSoFar (right : Right) (cells : Cells) (a done : ℕ) (into : List ℕ) : Type 0 where
  pub within : done ≤ length into
  pub in_range : a + length into ≤ 2 ^ 32
  pub read_so_far : bytes_for right done cells a ≡ Some (take done into)

abbrev pub invariant-loop-done : goal.invariant-loop-done
invariant-loop-done l = IsReadSoFar l.right (mapped_cells (shown l.self.pages)) l.at l.done l.into

abbrev pub decreases-loop-done : goal.decreases-loop-done
decreases-loop-done l = length l.initial.into - l.done
