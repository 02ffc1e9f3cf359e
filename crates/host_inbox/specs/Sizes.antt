-- The table of boards has their size.
use Rattle.std.specs.Prelude.{◌≡◌, ℕ, ◌+◌, ◌*◌, ◌<◌, ◌≤◌, Option}
use Rattle.std.specs.declared.alloc.Global.{Global}
use Rattle.atomic_table.specs.declared.owned.Table.{Table}
use Rattle.host_inbox.specs.declared.rule.Known.{Known}
use Rattle.host_inbox.specs.declared.rule.Size.{Size}
use Rattle.host_inbox.specs.declared.rule.Inboxes.{Inboxes}
use Rattle.sim_base.specs.Limits.{most_workers}
use Rattle.host_inbox.specs.Entries.{inbox_places}

-- hosts of boards, each with an inbox
abbrev pub most_inboxes : ℕ
most_inboxes = 65536

module _ {T : Type 0} where
  -- The table's key is the size, and it has two words and the places of an inbox for each host.
  pub record IsSized (table : Table (Option T) (Known T) Size Inboxes Global) (size : Size) : Type 0 where
    pub key : table.shared.key ≡ size
    pub words : table.shared.table_id.words ≡ size.hosts + size.hosts
    pub slots : table.shared.table_id.slots ≡ size.hosts * inbox_places
    pub hosts : (0 < size.hosts) × (size.hosts ≤ most_inboxes)
    pub seats : (0 < size.seats) × (size.seats ≤ most_workers)
