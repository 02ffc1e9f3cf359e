use Rattle.std.proofs.Common.{◌≡◌, ◌++◌, ◌∷◌, [], true, false, sym, ap, ◌∙◌}
use Rattle.yaml_merge.specs.inside.Held.{keys_in}
use Rattle.yaml_merge.specs.Merge.{new_pairs}
use Rattle.yaml_merge.proofs.MergingLaws.{if_ok_more, put_is}
use Rattle.yaml_merge.proofs.merging.put.Goals as goal

pub returns-then-is_merge_key : goal.returns-then-is_merge_key
returns-then-is_merge_key c =
    if_ok_more c.spread.result _ _ c.spread.ensures (λ all e.
    e ∙ ap (λ ps. c.args.pairs.items ++ ps)
    (ap (new_pairs (keys_in c.args.entries.now)) c.in_ok-more.ensures ∙ put_is (keys_in c.args.entries.now) c.args.line c.args.key.now c.args.value true (sym c.if-is_merge_key.ensures)))

pub returns : goal.returns
returns c =
    let e : c.push.new.self.items ≡ c.args.pairs.items ++ (record { line = c.args.line; key = c.args.key.now; value = c.args.value }) ∷ [] = cc (c.in_ok-push.ensures.items, c.in_ok-from_str.ensures) in
    e ∙ ap (λ ps. c.args.pairs.items ++ ps) (put_is (keys_in c.args.entries.now) c.args.line c.args.key.now c.args.value false (sym c.if-is_merge_key.ensures))
