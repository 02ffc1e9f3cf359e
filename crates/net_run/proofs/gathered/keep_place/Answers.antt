use Rattle.std.proofs.Common.{rules, ◌≡◌, ◌++◌, [], ◌∷◌, ℕ, List, slice_set, sym, subst, refl, arith}
use Rattle.run_outside.specs.declared.sink.SinkTarget.{SinkTarget}
use Rattle.run_outside.specs.declared.sink.SinkTarget.TheVariants as target
use Rattle.net_run.specs.inside.Gathered.{AreLast, slot_of}
use Rattle.net_run.proofs.LastLemmas.{last_set, last_other, last_unset, no_slot}
use Rattle.net_run.proofs.gathered.keep_place.Goals as goal

pub returns-then-slot-len : goal.returns-then-slot-len
returns-then-slot-len c puts bytes many last =
    let file : List ℕ = c.as_str.result.now in
    let is : c.args.at.now ≡ target.File file = search rules in
    subst (λ (t : SinkTarget). AreLast (puts ++ (t, bytes) ∷ []) (slice_set c.args.slots.now.items c.slot_of-slot.result c.args.place)) (sym is)
    (subst (λ (s : ℕ). AreLast (puts ++ (target.File file, bytes) ∷ []) (slice_set c.args.slots.now.items s c.args.place)) (sym c.slot_of-slot.ensures)
    (subst (λ (n : ℕ). AreLast (puts ++ (target.File file, bytes) ∷ []) (slice_set c.args.slots.now.items (slot_of file) n)) many (last_set puts c.args.slots.now.items file bytes last)))

pub returns-else-slot-len : goal.returns-else-slot-len
returns-else-slot-len c puts bytes many last =
    let file : List ℕ = c.as_str.result.now in
    let is : c.args.at.now ≡ target.File file = search rules in
    subst (λ (t : SinkTarget). AreLast (puts ++ (t, bytes) ∷ []) c.args.slots.now.items) (sym is)
    (last_unset puts c.args.slots.now.items file bytes (no_slot c.args.slots.now.items (slot_of file) (omega (arith, c.slot_of-slot.ensures, c.len.ensures, c.args.slots.now.ok.0, c.if-slot-len.false))) last)

pub returns : goal.returns
returns c puts bytes many last =
    let is : c.args.at.now ≡ target.Out = search rules in
    subst (λ (t : SinkTarget). AreLast (puts ++ (t, bytes) ∷ []) c.args.slots.now.items) (sym is) (last_other puts c.args.slots.now.items target.Out bytes (λ name. refl) last)

pub returns-2 : goal.returns-2
returns-2 c puts bytes many last =
    let is : c.args.at.now ≡ target.Err = search rules in
    subst (λ (t : SinkTarget). AreLast (puts ++ (t, bytes) ∷ []) c.args.slots.now.items) (sym is) (last_other puts c.args.slots.now.items target.Err bytes (λ name. refl) last)
