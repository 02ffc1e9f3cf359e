use Rattle.std.proofs.Common.{◌∙◌}
use Rattle.yaml_tokens.proofs.PackedLaws.{packed_as}
use Rattle.yaml_tokens.proofs.pieces.Pieces.with.Goals as goal

pub invariant_of-result : goal.invariant_of-result
invariant_of-result c = packed_as c.self.inside.bare.value.items c.self.inside.texts.value.items c.args.piece _ _ _ _ c.self.invariant
    (c.new.ensures ∙ c.parted-kind.ensures.kind) c.parted-kind.ensures.text c.in_ok-bare.ensures c.in_ok-texts.ensures
