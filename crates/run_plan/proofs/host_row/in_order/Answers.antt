use Rattle.std.proofs.Common.{List, rules, subst}
use Rattle.std.specs.Ordering.{nat_cmp}
use Rattle.std.specs.Cmp.Lexicographic.{slice_cmp}
use Rattle.std.specs.List.Sorted.{IsPermutation, IsStableByKey}
use Rattle.shd_config.specs.declared.config.HostConfig.{HostConfig}
use Rattle.run_plan.proofs.OrderLemmas.{in_byte_order, in_first_order}
use Rattle.run_plan.proofs.host_row.in_order.Goals as goal

pub returns-clause-order : goal.returns-clause-order
returns-clause-order c = record {
  same = subst (λ (hosts : List HostConfig). IsPermutation hosts c.sort_by.new.self.items) c.into_vec-ordered.ensures c.in_ok-sort_by.ensures.permutation;
  order = in_byte_order c.sort_by.new.self.items c.in_ok-sort_by.ensures.sorted (λ a r q k. search rules);
  stable = subst (λ (hosts : List HostConfig). IsStableByKey (λ (h : HostConfig). h.name) (slice_cmp nat_cmp) hosts c.sort_by.new.self.items) c.into_vec-ordered.ensures
      (in_first_order c.into_vec-ordered.result.items c.sort_by.new.self.items c.in_ok-sort_by.ensures.stable (λ a r q k. search rules));
}
