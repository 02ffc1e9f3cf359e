-- What stays of a table of pages where only bytes change.
use Rattle.std.specs.Prelude.{◌≡◌}
use Rattle.guest_mem.specs.declared.table.PageTable.{PageTable}

pub record IsSameShape (old new : PageTable) : Type 0 where
  pub fixed : new.fixed ≡ old.fixed
  pub heap : new.heap ≡ old.heap
  pub count : new.pages.count ≡ old.pages.count
