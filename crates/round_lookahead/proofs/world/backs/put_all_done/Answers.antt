use Rattle.std.proofs.Common.{◌≡◌, ℕ, ◌<◌, ◌++◌, ◌∷◌, [], List, All, Some, length, sym, ap, subst, ◌∙◌, length-set}
use Rattle.std.specs.Vec.Iter.{into_iter_items}
use Rattle.round_lookahead.specs.declared.workers.worked.Done.{Done}
use Rattle.round_lookahead.specs.inside.Backs.{back_of, with_done, lines_done, ids_of}
use Rattle.round_lookahead.proofs.BackSteps.{completes}
use Rattle.round_parts.proofs.ListFacts.{first_of, rest_of}
use Rattle.round_lookahead.proofs.world.backs.put_all_done.Goals as goal

pub put_done-requires : goal.put_done-requires
put_done-requires c =
    first_of (λ (d : Done). d.id.index < length c.loop-done.slots.items) (into_iter_items c.loop-done.done-iterator) (into_iter_items c.next.new.self) c.in-Some.done
    c.in-Some.ensures.steps.0 c.loop-done.invariant.below

pub loop-done-preserved : goal.loop-done-preserved
loop-done-preserved c =
    let rest : List Done = into_iter_items c.next.new.self in
    let left : List Done = into_iter_items c.loop-done.done-iterator in
    let is : left ≡ c.in-Some.done ∷ rest = c.in-Some.ensures.steps.0 in
    let old = c.loop-done in
    let d : Done = c.in-Some.done in
    let long : length c.put_done.new.slots.items ≡ length old.slots.items =
    ap length c.in_ok-put_done.ensures.slots ∙ length-set old.slots.items d.id.index (Some (back_of d)) in
    record {
      slots = ap (with_done rest) c.in_ok-put_done.ensures.slots ∙ ap (λ (ds : List Done). with_done ds old.slots.items) (sym is) ∙ old.invariant.slots;
      lines = completes old.lines.items c.put_done.new.lines.items d.lines.items (lines_done rest) (c.args.lines.now.items ++ lines_done c.args.all.items) c.in_ok-put_done.ensures.lines
          (ap (λ (ds : List Done). old.lines.items ++ lines_done ds) (sym is) ∙ old.invariant.lines);
      took = completes old.took.items c.put_done.new.took.items (d.id ∷ []) (ids_of rest) (c.args.took.now.items ++ ids_of c.args.all.items) c.in_ok-put_done.ensures.took
          (ap (λ (ds : List Done). old.took.items ++ ids_of ds) (sym is) ∙ old.invariant.took);
      below = subst (λ (n : ℕ). All (λ (x : Done). x.id.index < n) rest) (sym long)
          (rest_of (λ (x : Done). x.id.index < length old.slots.items) left rest d is old.invariant.below);
    }
