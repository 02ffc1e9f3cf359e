use Rattle.std.proofs.Common.{◌≡◌, ◌+◌, ◌-◌, ◌^◌, ◌≤◌, ℕ, List, length, take}
use Rattle.guest_mem.specs.Memory.{put_all}
use Rattle.guest_mem.specs.inside.PageTable.{IsSameShape}
use Rattle.guest_mem.specs.declared.table.PageTable.{PageTable}
use Rattle.guest_mem.specs.inside.Pages.{mapped_cells}
use Rattle.guest_mem.specs.inside.PageStore.{shown}
use Rattle.guest_mem.proofs.table.PageTable.copy_in_over.Given as goal

-- the bytes so far are put
pub record IsPutSoFar (old now : PageTable) (a done : ℕ) (bytes : List ℕ) : Type 0 where
  pub within : done ≤ length bytes
  pub in_range : a + length bytes ≤ 2 ^ 32
  pub put_so_far : mapped_cells (shown now.pages) ≡ put_all (mapped_cells (shown old.pages)) a (take done bytes)
  pub kept : IsSameShape old now

abbrev pub invariant-loop-done : goal.invariant-loop-done
invariant-loop-done l = IsPutSoFar l.fn.self l.self l.at l.done l.bytes

abbrev pub decreases-loop-done : goal.decreases-loop-done
decreases-loop-done l = length l.bytes - l.done
