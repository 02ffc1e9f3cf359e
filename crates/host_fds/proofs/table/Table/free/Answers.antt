use Rattle.std.proofs.Common.{◌≡◌, ◌+◌, length, ap, ◌∙◌, arith}
use Rattle.std.specs.Prelude.{count_by, is_none}
use Rattle.std.specs.FinMap.{len}
use Rattle.host_fds.specs.Descriptors.{descriptors_of}
use Rattle.host_fds.proofs.Slots.{free_and_taken}
use Rattle.host_fds.proofs.table.Table.free.Goals as goal

pub returns : goal.returns
returns c =
    let counted : c.count_free.result ≡ count_by is_none c.self.inside.slots.items = c.count_free.ensures ∙ ap (count_by is_none) c.deref.ensures.value in
    let size : length c.self.inside.slots.items ≡ 256 = omega arith in
    rw (← c.self.view_is) (ap (λ n. n + len (descriptors_of c.self.inside.slots.items)) counted ∙ free_and_taken c.self.inside.slots.items ∙ size)
