use Rattle.std.proofs.Common.{◌≡◌, ℕ, ◌∙◌, refl, ap, sym, arith, length, map, List}
use Rattle.std.specs.Prelude.{find}
use Rattle.std.proofs.lemmas.List.{length-map}
use Rattle.host_sockets.specs.declared.streams.HostStream.{HostStream}
use Rattle.stream_pairs.specs.Directions.{kept_in, is_between}
use Rattle.stream_pairs.proofs.DirectionLemmas.{no_entries, more_entries, host_at, all_entries_is}
use Rattle.stream_pairs.proofs.pairing.all_entries.Goals as goal

pub loop-each-init : goal.loop-each-init
loop-each-init c = no_entries 0 c.new-entries.result.items (map kept_in c.args.kept.now) refl c.new-entries.ensures.items

pub loop-each-preserved : goal.loop-each-preserved
loop-each-preserved c =
    more_entries c.loop-each.each-index c.loop-each.entries.items c.push.new.self.items c.in_ok-entries_of.field-0 (map kept_in c.args.kept.now) (kept_in c.each-item.result)
    c.loop-each.invariant c.in_ok-push.ensures.items (host_at c.args.kept.now c.loop-each.each-index c.each-item.result c.loop-each-test.true c.each-item.is)
    (λ q. c.in_ok-entries_of.ensures q ∙ ap (λ (xs : List HostStream). find (is_between q.own q.peer) xs) c.as_slice.ensures.value)

pub returns : goal.returns
returns c = λ book is.
    all_entries_is c.loop-each.each-index c.loop-each.entries.items c.args.kept.now book c.loop-each.invariant
    (let past = c.loop-each-test.false in
    let within = c.loop-each.auto.each-index-end in
    let whole : c.loop-each.each-index ≡ length c.args.kept.now = omega arith in
    whole ∙ sym (length-map c.args.kept.now kept_in)) is
