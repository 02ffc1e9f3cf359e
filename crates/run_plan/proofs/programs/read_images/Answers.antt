use Rattle.std.proofs.Common.{◌≡◌, ◌∙◌, ◌+◌, ℕ, List, ◌∷◌, drop, sym, ap}
use Rattle.std.proofs.lemmas.List.{drop_more}
use Rattle.std.proofs.lemmas.Result.{err_from_is_err_and}
use Rattle.run_plan.proofs.StepLemmas.{when_told, when_both}
use Rattle.run_plan.proofs.ImageLemmas.{image_stops, image_read, images_end}
use Rattle.run_plan.proofs.programs.read_images.Goals as goal

pub returns-in_err-image-clause-told : goal.returns-in_err-image-clause-told
returns-in_err-image-clause-told g c =
    let at : drop c.loop-path.path-index c.args.paths.now ≡ c.as_str.result.now ∷ drop (c.loop-path.path-index + 1) c.args.paths.now =
    drop_more c.args.paths.now c.loop-path.path-index c.path-item.result c.loop-path-test.true
    ∙ ap (λ (p : List ℕ). p ∷ drop (c.loop-path.path-index + 1) c.args.paths.now) (sym c.path-item.is ∙ sym c.as_str.ensures) in
    let p = err_from_is_err_and c.from_residual.result c.from_residual.ensures.1 in rw (p.1, p.2)
    (when_both (g.S.Source.held c.args.source.now)
    (λ held inv h. image_stops held c.args.paths.now c.loop-path.path-index c.loop-path.all.items inv c.as_str.result.now c.in_err-image.field-0.0 at h)
    c.loop-path.invariant.told (rw c.loop-path.invariant.same at c.in_err-image.ensures.told))

pub loop-path-preserved : goal.loop-path-preserved
loop-path-preserved g c =
    let at : drop c.loop-path.path-index c.args.paths.now ≡ c.as_str.result.now ∷ drop (c.loop-path.path-index + 1) c.args.paths.now =
    drop_more c.args.paths.now c.loop-path.path-index c.path-item.result c.loop-path-test.true
    ∙ ap (λ (p : List ℕ). p ∷ drop (c.loop-path.path-index + 1) c.args.paths.now) (sym c.path-item.is ∙ sym c.as_str.ensures) in
    record {
      told = rw c.in_ok-push.ensures.items (when_both (g.S.Source.held c.args.source.now)
          (λ held inv h. image_read held c.args.paths.now c.loop-path.path-index c.loop-path.all.items inv c.as_str.result.now c.in_ok-image.image at h)
          c.loop-path.invariant.told (rw c.loop-path.invariant.same at c.in_ok-image.ensures.told));
      same = c.in_ok-image.ensures.same ∙ c.loop-path.invariant.same;
      count = c.in_ok-image.ensures.count ∙ c.loop-path.invariant.count;
    }

pub returns-clause-told : goal.returns-clause-told
returns-clause-told g c =
    when_told (g.S.Source.held c.args.source.now)
    (λ held inv. images_end held c.args.paths.now c.loop-path.path-index c.loop-path.all.items inv c.loop-path-test.false)
    c.loop-path.invariant.told
