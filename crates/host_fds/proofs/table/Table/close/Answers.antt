use Rattle.std.proofs.Common.{◌<◌, length, sym, arith, refl}
use Rattle.host_fds.proofs.Slots.{freed, freed_already}
use Rattle.host_fds.proofs.table.Table.close.Goals as goal

pub returns-in_err-file-clause-freed : goal.returns-in_err-file-clause-freed
returns-in_err-file-clause-freed c = freed_already c.args.self.now c.args.fd (sym c.in_err-file.ensures.file)

pub returns-clause-freed : goal.returns-clause-freed
returns-clause-freed c =
    let within : c.args.fd < length c.self.inside.slots.items = omega (arith, c.in_ok-file.ensures.in_range refl) in
    rw (← c.self.view_is) (freed c.self.inside.slots.items c.args.fd within)
