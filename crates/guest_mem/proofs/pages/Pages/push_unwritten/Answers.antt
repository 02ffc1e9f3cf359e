use Rattle.std.proofs.Common.{◌<◌, length, refl, arith}
use Rattle.guest_mem.specs.declared.pages.Pages.{Pages}
use Rattle.guest_mem.specs.inside.PageStore.{all_bytes}
use Rattle.guest_mem.proofs.SlotLemmas.{again_shared, again_shared_kept}
use Rattle.guest_mem.proofs.pages.Pages.push_unwritten.Goals as goal

pub invariant_of-self : goal.invariant_of-self
invariant_of-self c =
    let p : Pages = c.args.self.now in
    let at : p.count < length p.entries.items = omega (arith, c.requires.behind, p.entries.ok.0) in
    record { same = p.same; as_many = p.as_many; shares = p.shares; sound = again_shared_kept p.entries.items p.count p.first_own (all_bytes p) _ p.sound _ at c.requires.shared refl }

pub returns-clause-pushed : goal.returns-clause-pushed
returns-clause-pushed c =
    let p : Pages = c.args.self.now in
    let at : p.count < length p.entries.items = omega (arith, c.requires.behind, p.entries.ok.0) in
    again_shared p.entries.items p.count p.first_own (all_bytes p) _ p.sound _ c.args.number c.args.rights at refl refl refl
