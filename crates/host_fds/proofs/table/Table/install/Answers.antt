use Rattle.std.proofs.Common.{◌<◌, length, arith}
use Rattle.host_fds.proofs.Slots.{placed}
use Rattle.host_fds.proofs.table.Table.install.Goals as goal

pub returns : goal.returns
returns c =
    let within : c.args.fd < length c.self.inside.slots.items = omega arith in
    rw (← c.self.view_is) (placed c.self.inside.slots.items c.args.fd within c.args.file)
