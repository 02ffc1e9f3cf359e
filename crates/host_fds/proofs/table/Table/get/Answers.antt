use Rattle.std.proofs.Common.{◌≡◌, get_or, None, ap, sym, ◌∙◌, subst, arith, length, ◌<◌}
use Rattle.std.specs.Prelude.{IsSome, unwrap_or}
use Rattle.std.specs.FinMap.{get}
use Rattle.host_fds.proofs.Slots.{get_descriptors_of, flattened, some_within}
use Rattle.host_fds.proofs.table.Table.get.Goals as goal

pub returns : goal.returns
returns c =
    let found : c.flatten.result ≡ get_or c.self.inside.slots.items c.args.fd None =
    c.flatten.ensures ∙ flattened c.copied.result ∙ ap (λ o. unwrap_or o None) c.copied.ensures ∙ c.get.ensures.lookup.4 (omega arith) None ∙ ap (λ xs. get_or xs c.args.fd None) c.deref.ensures.value in
    record {
      file = found ∙ sym (get_descriptors_of c.self.inside.slots.items c.args.fd) ∙ ap (λ m. get m c.args.fd) c.self.view_is;
      in_range = λ some.
          let inside : c.args.fd < length c.self.inside.slots.items = some_within c.self.inside.slots.items c.args.fd (subst IsSome found some) in
          omega arith;
    }
