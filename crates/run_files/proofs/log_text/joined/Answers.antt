use Rattle.std.proofs.Common.{◌≡◌, ◌++◌, ap, ◌∙◌, arith}
use Rattle.std.specs.Vec.Iter.{into_iter_items}
use Rattle.std.proofs.lemmas.List.{nil_from_length}
use Rattle.run_files.proofs.Shares.{joins_all, joins_next}
use Rattle.run_files.proofs.log_text.joined.Goals as goal

pub loop-text-preserved : goal.loop-text-preserved
loop-text-preserved c left rest =
    let grown : c.push_str.new.self ≡ c.loop-text.all ++ c.in_ok-text.text = c.in_ok-push_str.ensures.ok ∙ ap (λ l. c.loop-text.all ++ l) c.as_str.ensures in
    joins_next c.args.texts.items (into_iter_items c.loop-text.text-iterator) (into_iter_items c.next.new.self) c.in-Some.text c.loop-text.all c.in_ok-text.text c.push_str.new.self left
    c.loop-text.invariant c.in-Some.ensures.steps.0 c.in_ok-text.was grown rest

pub returns : goal.returns
returns c =
    joins_all c.args.texts.items (into_iter_items c.loop-text.text-iterator) c.loop-text.all c.loop-text.invariant
    (nil_from_length (into_iter_items c.loop-text.text-iterator) (omega (arith, c.in-None.ensures.steps.0, c.loop-text.text-iterator.rest.ok.0)))
