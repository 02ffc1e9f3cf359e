use Rattle.std.proofs.Common.{◌≡◌, ◌⊎◌, inl, inr, Some, refl, ◌∙◌}
use Rattle.udp_table.specs.Table.{takes_in}
use Rattle.udp_table.specs.inside.Indexing.{at_place}
use Rattle.udp_table.proofs.Takers.{takes_bound, first_of}
use Rattle.udp_table.proofs.index.Index.taker.Goals as goal

pub returns : goal.returns
returns c = λ h.
    c.earlier.ensures
    ∙ first_of (takes_in c.args.from c.args.to) c.args.places.now c.taker_at-wide.result c.taker_at-narrow.result refl
    (c.taker_at-wide.ensures.takes h)
    (c.taker_at-narrow.ensures.takes h)
    (λ k passes. elim (takes_bound c.args.from c.args.to (at_place c.args.places.now k) passes) as (λ _. (c.taker_at-wide.result ≡ Some k) ⊎ (c.taker_at-narrow.result ≡ Some k)) [
      | inl wide ↦ inl (c.taker_at-wide.ensures.only h k wide passes)
      | inr same ↦ inr (c.taker_at-narrow.ensures.only h k same passes)
    ])
