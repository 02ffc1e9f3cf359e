use Rattle.std.proofs.Common.{ap, ◌∙◌}
use Rattle.host_fds.specs.Descriptors.{descriptors_of}
use Rattle.host_fds.proofs.Slots.{descriptors_of_none}
use Rattle.host_fds.proofs.table.Table.new.Goals as goal

pub returns : goal.returns
returns c = ap descriptors_of c.in_ok-from_slice.ensures.items ∙ descriptors_of_none 256
