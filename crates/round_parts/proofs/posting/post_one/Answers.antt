use Rattle.std.proofs.Common.{◌≡◌, ◌<◌, ◌-◌, ◌^◌, ◌∷◌, [], ◌++◌, List, length, ap, sym, subst, ◌∙◌, arith}
use Rattle.sim_base.specs.declared.event.Parcel.{Parcel}
use Rattle.host_inbox.specs.Entries.{entry}
use Rattle.round_parts.specs.Arrivals.{Boxed}
use Rattle.round_parts.specs.Posts.{IsPosted}
use Rattle.round_parts.proofs.PostSteps.{kept_more, placed_more, back_more}
use Rattle.round_parts.proofs.posting.post_one.Goals as goal

pub returns-then-puts-eq4294967295-clause-posted : goal.returns-then-puts-eq4294967295-clause-posted
returns-then-puts-eq4294967295-clause-posted c = λ all is.
    kept_more all c.args.carrier.now.entries c.args.spill.now.items is c.args.parcel c.push_reserved.new.self.items (omega (arith, c.requires.puts))
    (c.push_reserved.ensures.items ∙ ap (λ (l : List Parcel). l ++ c.args.parcel ∷ []) c.reserve.ensures.items)

pub returns-in-Ok-clause-posted : goal.returns-in-Ok-clause-posted
returns-in-Ok-clause-posted c = λ all is.
    (let entries = c.args.carrier.now.entries in
    let boxed : Boxed = c.in_ok-boxed.boxed in
    let few : length entries < 2 ^ 32 - 1 = omega (arith, c.requires.puts) in
    subst (λ (p : Parcel). IsPosted (all ++ p ∷ []) c.put.new.carrier.entries c.reserve.new.self.items) c.in_ok-boxed.ensures.ok
    (subst (IsPosted (all ++ boxed.value ∷ []) c.put.new.carrier.entries) (sym c.reserve.ensures.items)
    (placed_more all entries c.args.spill.now.items is few boxed c.in-Ok.field-0 c.put.new.carrier.entries (c.in-Ok.ensures.placed.1 ∙ ap (λ (p : Parcel). entries ++ entry p.to.index c.in-Ok.field-0 boxed ∷ []) c.deref.ensures) c.in-Ok.ensures.placed.0)))

pub returns-in-Err-clause-posted : goal.returns-in-Err-clause-posted
returns-in-Err-clause-posted c = λ all is.
    (let entries = c.args.carrier.now.entries in
    let boxed : Boxed = c.in_ok-boxed.boxed in
    let few : length entries < 2 ^ 32 - 1 = omega (arith, c.requires.puts) in
    let full = c.in-Err.ensures.full in
    let came : c.into_inner.result ≡ boxed.value = c.into_inner.ensures ∙ ap (λ (b : Boxed). b.value) full.1 in
    subst (λ (p : Parcel). IsPosted (all ++ p ∷ []) c.put.new.carrier.entries c.push_reserved-in-Err.new.self.items) c.in_ok-boxed.ensures.ok
    (subst (IsPosted (all ++ boxed.value ∷ []) c.put.new.carrier.entries)
    (sym {A = List Parcel} (c.push_reserved-in-Err.ensures.items ∙ ap (λ (l : List Parcel). l ++ c.into_inner.result ∷ []) c.reserve.ensures.items ∙ ap (λ (p : Parcel). c.args.spill.now.items ++ p ∷ []) came))
    (back_more all entries c.args.spill.now.items is few boxed c.in-Err.full.claimed c.put.new.carrier.entries (full.2 ∙ ap (λ (p : Parcel). entries ++ entry p.to.index c.in-Err.full.claimed boxed ∷ []) c.deref.ensures) full.0)))
