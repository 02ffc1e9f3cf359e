-- The events that a host begins with.
use Rattle.std.specs.Prelude.{ℕ, ◌+◌, List, [], ◌∷◌, Option, Some, None}
use Rattle.sim_base.specs.declared.event.What.TheVariants as what
use Rattle.sim_base.specs.declared.time.Time.{Time}
use Rattle.host_rows.specs.declared.row.ProcessRow.{ProcessRow}
use Rattle.host_link.specs.Link.{LinkState, numbers}

abbrev pub begins_shutdown : ℕ → Option Time → LinkState → LinkState
begins_shutdown p None link = link
begins_shutdown p (Some due) link = numbers due (what.Shutdown p) link

-- for each process, in their order, its start and then its shutdown, where there is one
abbrev pub begins_process : ℕ → ProcessRow → LinkState → LinkState
begins_process p row link = begins_shutdown p row.shutdown (numbers row.start (what.Start p) link)

unfoldable pub begins_all : ℕ → List ProcessRow → LinkState → LinkState
begins_all p [] link = link
begins_all p (row ∷ rows) link = begins_all (p + 1) rows (begins_process p row link)
