use Rattle.std.proofs.Common.{ℕ, ◌-◌, sym, ap, ◌∙◌, arith}
use Rattle.sim_base.specs.Addresses.{first_free_port}
use Rattle.sim_base.proofs.PortLemmas.{first_free_port_passed, has_port_not_so_far}
use Rattle.sim_base.proofs.ports.port_past.Goals as goal
use Rattle.sim_base.proofs.ports.port_past.Goals.{then-from-past, else-from-past}

pub loop-at-preserved : goal.loop-at-preserved
loop-at-preserved c =
    let bound = c.args.bound.now in
    let past = c.loop-at.past in
    let here = c.loop-at-test.true in
    let count : ℕ → ℕ = λ k. 65536 - k in
    elim c.if-from-past.branch [
      | then-from-past w ↦
          let passed = first_free_port_passed bound c.loop-at.at-index past _ here (sym c.from.ensures ∙ w.if-from-past.true) (omega arith) in
          record {
            first_free = ap (λ k. first_free_port bound k (count k)) w.past-is ∙ passed ∙ c.loop-at.invariant.first_free;
            no_less = omega arith;
            within = omega arith;
            free = λ same. absurd (omega arith);
          }
      | else-from-past w ↦
          record {
            first_free = ap (λ k. first_free_port bound k (count k)) w.past-is ∙ c.loop-at.invariant.first_free;
            no_less = omega arith;
            within = omega arith;
            free = λ same.
                let before = sym w.past-is ∙ same in
                has_port_not_so_far bound c.loop-at.at-index c.args.port _ here (c.loop-at.invariant.free before)
                (λ e. w.if-from-past.false (c.from.ensures ∙ e ∙ sym before));
          }
    ]
