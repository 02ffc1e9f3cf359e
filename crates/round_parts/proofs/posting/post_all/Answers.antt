use Rattle.std.proofs.Common.{◌≡◌, ◌++◌, ◌<◌, ◌∷◌, [], List, append_assoc, sym, ap, ◌∙◌}
use Rattle.std.proofs.lemmas.List.Elements.{All-tail}
use Rattle.std.specs.Vec.Iter.{into_iter_items}
use Rattle.sim_base.specs.declared.event.Parcel.{Parcel}
use Rattle.round_parts.proofs.posting.post_all.Goals as goal
use Rattle.std.proofs.Common.{subst, All}

pub loop-parcel-preserved : goal.loop-parcel-preserved
loop-parcel-preserved c =
    let inv = c.loop-parcel.invariant in
    let rest = into_iter_items c.next.new.self in
    let step : into_iter_items c.loop-parcel.parcel-iterator ≡ c.in-Some.parcel ∷ rest = c.in-Some.ensures.steps.0 in
    record {
      boards = c.post_one.ensures.boards ∙ inv.boards;
      to = All-tail (λ (parcel : Parcel). parcel.to.index < c.args.boards.now.hosts) c.in-Some.parcel rest (subst (All (λ (parcel : Parcel). parcel.to.index < c.args.boards.now.hosts)) step inv.to);
      puts = c.in_ok-post_one.ensures.puts;
      posted = λ all is.
          (let so = inv.posted all is in
          (so.0 ++ c.in-Some.parcel ∷ [], c.in_ok-post_one.ensures.posted so.0 so.1, append_assoc so.0 (c.in-Some.parcel ∷ []) rest ∙ ap (λ (l : List Parcel). so.0 ++ l) (sym step) ∙ so.2));
    }
