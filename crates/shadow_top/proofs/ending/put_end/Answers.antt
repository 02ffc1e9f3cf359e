use Rattle.std.proofs.Common.{◌∙◌, arith, length, ap, sym, subst}
use Rattle.run_outside.specs.declared.sink.WriteError.TheVariants as write
use Rattle.run_files.specs.Listed.{names_of}
use Rattle.run_files.specs.declared.listed.Listing.{Listing}
use Rattle.shadow_top.specs.inside.Ending.{TellsAll}
use Rattle.shadow_top.proofs.EndLemmas.{few_hosts, end_without, end_told_by}
use Rattle.shadow_top.proofs.RoundLemmas.{at_count}
use Rattle.shadow_top.proofs.ending.put_end.Goals as goal

pub returns-in-Err-clause-told : goal.returns-in-Err-clause-told
returns-in-Err-clause-told g c = λ w old at stands. end_without c.runs_grow.ensures.front c.args.is_self_load w old (g.K.Sink.content c.args.sink.now) write.NoMemory stands

pub overflow_cast-hosts : goal.overflow_cast-hosts
overflow_cast-hosts g c =
    let e = c.host_count-hosts.ensures in
    let same = ap (λ (l : Listing). length (names_of l)) c.listing-listing.ensures in
    let few = few_hosts c.args.world.now c.requires.stands.0 c.requires.stands.1 in
    omega arith

pub put_rest-requires : goal.put_rest-requires
put_rest-requires g c =
    let at = c.requires.stands in
    ap length c.as_slice.ensures.value ∙ (c.in-Ok.ensures at.0 at.1).count ∙ sym (at_count c.args.world.now at.0 at.1) ∙ ap (λ (l : Listing). length (names_of l)) (sym c.listing-listing.ensures)

pub returns-clause-told : goal.returns-clause-told
returns-clause-told g c = λ w old at stands.
    (let told : TellsAll w c.as_slice.result.now = subst (TellsAll w) (sym c.as_slice.ensures.value) (c.in-Ok.ensures w at) in
    end_told_by c.runs_grow.ensures.ends c.runs_grow.ensures.status c.parts_are_between.ensures c.args.is_self_load w old (g.K.Sink.content c.args.sink.now) (g.K.Sink.content c.put_rest.new.sink) c.as_slice.result.now told stands c.summary-summary.result
    (c.summary-summary.ensures w at (c.host_count-hosts.ensures ∙ ap (λ (l : Listing). length (names_of l)) c.listing-listing.ensures ∙ at_count c.args.world.now w at))
    c.listing-listing.result.now (ap names_of c.listing-listing.ensures ∙ at.listed) c.put_rest.result c.put_rest.ensures.status c.put_rest.ensures.ok c.put_rest.ensures.err)
