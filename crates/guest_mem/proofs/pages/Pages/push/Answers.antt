use Rattle.std.proofs.Common.{◌≡◌, ◌+◌, List, length, map, take, ap, ◌∙◌, arith, refl}
use Rattle.std.proofs.lemmas.List.{length-map}
use Rattle.guest_mem.specs.declared.entry.Entry.{Entry}
use Rattle.guest_mem.specs.declared.pages.Pages.{Pages}
use Rattle.guest_mem.specs.inside.PageStore.{all_bytes}
use Rattle.guest_mem.specs.inside.Slots.{page_of}
use Rattle.guest_mem.proofs.SlotLemmas.{pushed, pushed_kept}
use Rattle.guest_mem.proofs.pages.Pages.push.Goals as goal

pub invariant_of-self : goal.invariant_of-self
invariant_of-self c =
    let p : Pages = c.args.self.now in
    let all : p.count ≡ length p.entries.items = omega (arith, c.if-self-len.false, c.len.ensures, p.sound.within, p.entries.ok.0, length-map p.entries.items (λ (e : Entry). e.slot)) in
    record {
      same = p.same;
      as_many = p.as_many;
      shares = p.shares;
      sound = rw c.push_reserved.ensures.items (pushed_kept p.entries.items p.count p.first_own (all_bytes p) _ p.sound _ all c.requires.few refl (omega (arith, c.requires.room.bytes)));
    }

pub returns-else-self-len-clause-pushed : goal.returns-else-self-len-clause-pushed
returns-else-self-len-clause-pushed c =
    let p : Pages = c.args.self.now in
    let all : p.count ≡ length p.entries.items = omega (arith, c.if-self-len.false, c.len.ensures, p.sound.within, p.entries.ok.0, length-map p.entries.items (λ (e : Entry). e.slot)) in
    ap (λ (es : List Entry). take (p.count + 1) (map (page_of (all_bytes p)) es)) c.push_reserved.ensures.items
    ∙ pushed p.entries.items p.count p.first_own (all_bytes p) _ p.sound _ c.args.number c.args.rights all refl refl refl
