use Rattle.std.proofs.Common.{ap, ◌∙◌}
use Rattle.std.specs.BTreeMap.{insert_entry}
use Rattle.host_sockets.specs.inside.Told.{all_told}
use Rattle.host_sockets.proofs.Telling.{ends_order, ends_of, entered}
use Rattle.host_sockets.proofs.streams.enter.Goals as goal

pub returns : goal.returns
returns c =
    let old = c.args.pairs.now.entries in
    ap all_told c.in_ok-insert.ensures.entries
    ∙ (ap (λ v. all_told (insert_entry ends_order old (ends_of c.args.carried) v)) c.unless.ensures
    ∙ entered c.args.carried c.contains_key-again.result old c.in_ok-insert.ensures.was_ordered c.contains_key-again.ensures)
