use Rattle.std.proofs.Common.{◌≡◌, ◌+◌, true, false, sym, ◌∙◌, arith, below_more}
use Rattle.sim_base.specs.Addresses.{any, at_port, has_port}
use Rattle.udp_table.specs.Table.{bound_ends}
use Rattle.number_sets.proofs.PortsCounted.{first_told, all_told}
use Rattle.udp_table.proofs.Meeting.{met_in, any_meets}
use Rattle.udp_table.proofs.table.free_port_in.Goals as goal

pub loop-number-preserved : goal.loop-number-preserved
loop-number-preserved c =
    let places = c.args.places.now in
    let port = 10000 + c.loop-number.number in
    let had : has_port (bound_ends places) port ≡ true =
    sym (any_meets port (bound_ends places)) ∙ (sym (met_in (at_port any port) places) ∙ (sym c.is_taken_in.ensures ∙ c.if-not-is_taken_in.false)) in
    below_more _ _ c.loop-number.invariant had

pub returns-then-not-is_taken_in : goal.returns-then-not-is_taken_in
returns-then-not-is_taken_in c =
    let places = c.args.places.now in
    let port = 10000 + c.loop-number.number in
    let free : has_port (bound_ends places) port ≡ false =
    sym (any_meets port (bound_ends places)) ∙ (sym (met_in (at_port any port) places) ∙ (sym c.is_taken_in.ensures ∙ c.if-not-is_taken_in.true)) in
    first_told (bound_ends places) c.loop-number.number free c.loop-number.invariant c.loop-number-test.true

pub returns : goal.returns
returns c = all_told (bound_ends c.args.places.now) (λ m less. c.loop-number.invariant m (omega arith))
