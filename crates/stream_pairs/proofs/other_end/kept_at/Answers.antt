use Rattle.std.proofs.Common.{ℕ, ◌<◌, Option, length, slice_get, sym, ap, ◌∙◌, arith}
use Rattle.std.specs.Prelude.{option_and_then, unwrap_or}
use Rattle.host_sockets.specs.declared.streams.HostStream.{HostStream}
use Rattle.stream_pairs.specs.Directions.{kept_at, unused}
use Rattle.stream_pairs.proofs.FindingLemmas.{kept_found}
use Rattle.stream_pairs.proofs.other_end.kept_at.Goals as goal

pub returns-in-Some-get-2 : goal.returns-in-Some-get-2
returns-in-Some-get-2 c = λ all book indexes.
    sym (ap (λ (o : Option ℕ). kept_at c.args.own c.args.peer (option_and_then (slice_get all) o)) c.in-Some.is
    ∙ kept_found book c.args.entries.now all indexes c.in-Some.place c.args.own c.args.peer c.in-Some-get.kept.now (let told = c.in-Some-get.ensures.lookup in let below : c.in-Some.place < length c.args.entries.now = omega arith in below) c.in-Some-get.ensures.lookup.1
    ∙ ap (λ (o : Option HostStream). unwrap_or o (unused c.args.own c.args.peer)) (sym c.in-Some-get-2.ensures.value))

pub returns-in-None : goal.returns-in-None
returns-in-None c = λ all book indexes.
    c.unused-in-None.ensures
    ∙ sym (ap (λ (o : Option ℕ). kept_at c.args.own c.args.peer (option_and_then (slice_get all) o)) c.in-Some.is
    ∙ kept_found book c.args.entries.now all indexes c.in-Some.place c.args.own c.args.peer c.in-Some-get.kept.now (let told = c.in-Some-get.ensures.lookup in let below : c.in-Some.place < length c.args.entries.now = omega arith in below) c.in-Some-get.ensures.lookup.1
    ∙ ap (λ (o : Option HostStream). unwrap_or o (unused c.args.own c.args.peer)) (sym c.in-None.ensures.value))
