use Rattle.std.proofs.Common.{◌+◌, ◌-◌, ◌^◌, ◌≤◌, ℕ, IsSome}
use Rattle.elf_load.specs.Cells.{Cells}
use Rattle.guest_mem.specs.declared.right.Right.{Right}
use Rattle.guest_mem.specs.Memory.{bytes_for}
use Rattle.guest_mem.specs.inside.Pages.{mapped_cells}
use Rattle.guest_mem.specs.inside.PageStore.{shown}
use Rattle.guest_mem.proofs.table.PageTable.is_open.Given as goal

-- the addresses so far are mapped with the right
pub record IsOpenSoFar (right : Right) (cells : Cells) (a len done : ℕ) : Type 0 where
  pub within : done ≤ len
  pub in_range : a + len ≤ 2 ^ 32
  pub open_so_far : IsSome (bytes_for right done cells a)

abbrev pub invariant-loop-done : goal.invariant-loop-done
invariant-loop-done l = IsOpenSoFar l.right (mapped_cells (shown l.self.pages)) l.at l.len l.done

abbrev pub decreases-loop-done : goal.decreases-loop-done
decreases-loop-done l = l.len - l.done
