use Rattle.std.proofs.Common.{◌∙◌, arith, length, All, slice_get, ap, sym, subst}
use Rattle.run_files.specs.Listed.{HasIds, names_of}
use Rattle.run_files.specs.declared.listed.Listing.{Listing}
use Rattle.shadow_top.proofs.EndLemmas.{none_there, one_more, all-more, few_hosts, few_processes, tasks_count}
use Rattle.shadow_top.proofs.RoundLemmas.{at_count}
use Rattle.shadow_top.proofs.ending.all_states.Goals as goal

pub loop-host-init : goal.loop-host-init
loop-host-init c = record { count = ap length c.new-states.ensures.items; each = λ w at k h states there told. none_there c.new-states.result.items k states c.new-states.ensures.items told }

pub overflow_cast-number : goal.overflow_cast-number
overflow_cast-number c =
    let e = c.host_count-host-end.ensures in
    let t = c.loop-host-test.true in
    let same = ap (λ (l : Listing). length (names_of l)) c.listing-listing.ensures in
    let few = few_hosts c.args.world.now c.requires.stands.0 c.requires.stands.1 in
    omega arith

pub host_states-requires-clause-host : goal.host_states-requires-clause-host
host_states-requires-clause-host c =
    let e = c.host_count-host-end.ensures in
    let t = c.loop-host-test.true in
    let same = ap (λ (l : Listing). length (names_of l)) c.listing-listing.ensures in
    let many = tasks_count c.args.world.now c.requires.stands.0 c.requires.stands.1 in
    omega arith

pub host_states-requires-clause-few : goal.host_states-requires-clause-few
host_states-requires-clause-few c =
    few_processes (names_of c.listing-listing.result.now) c.loop-host.host c.process_count-count.result (let e = c.host_count-host-end.ensures in let t = c.loop-host-test.true in omega arith)
    (subst (λ (l : Listing). All HasIds (names_of l)) (sym c.listing-listing.ensures) c.requires.ids) c.process_count-count.ensures

pub loop-host-preserved : goal.loop-host-preserved
loop-host-preserved c =
    let i = c.loop-host.invariant in
    record {
      count = one_more c.loop-host.states.items c.push.new.self.items c.in_ok-each.each c.loop-host.host c.in_ok-push.ensures.items i.count;
      each = λ w at. all-more c.args.world.now w at c.loop-host.states.items c.push.new.self.items c.in_ok-each.each c.loop-host.host c.process_count-count.result c.in_ok-push.ensures.items i.count
          (i.each w at) (λ names there. c.process_count-count.ensures names (ap (λ (l : Listing). slice_get (names_of l) c.loop-host.host) c.listing-listing.ensures ∙ there)) (c.in_ok-each.ensures w);
    }

pub returns : goal.returns
returns c = λ w at. record {
  count = (let n = c.loop-host.invariant.count in
      let e = c.host_count-host-end.ensures in
      let t = c.loop-host-test.false in
      let listed = ap (λ (l : Listing). length (names_of l)) c.listing-listing.ensures in
      let same = at_count c.args.world.now w at in
      omega arith);
  each = c.loop-host.invariant.each w at;
}
