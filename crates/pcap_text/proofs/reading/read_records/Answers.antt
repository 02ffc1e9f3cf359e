use Rattle.std.proofs.Common.{◌≡◌, ◌∙◌, ℕ, ◌+◌, ap, drop, length, arith}
use Rattle.std.proofs.lemmas.Result.{err_from_is_err_and}
use Rattle.pcap_text.specs.Reading.{kept_of, records}
use Rattle.pcap_text.proofs.RecordLemmas.{takes, stops, is_done, some_left, none_left}
use Rattle.pcap_text.proofs.reading.read_records.Goals as goal
use Rattle.pcap_text.specs.Writing.{head_size, front_size}

pub returns-in_err-record-clause-refused : goal.returns-in_err-record-clause-refused
returns-in_err-record-clause-refused c =
    let p = err_from_is_err_and c.from_residual.result c.from_residual.ensures.1 in
    let all = records c.args.head.unit c.args.head.size head_size 0 (drop head_size c.args.bytes.now) in
    rw (p.1, p.2) (stops c.in_err-record.field-0.0 c.loop-rest.records.items c.args.head.unit c.args.head.size c.loop-rest.at c.loop-rest.rest.now all
    (some_left c.is_empty.result (length c.loop-rest.rest.now) c.is_empty.ensures c.loop-rest-test.true) c.in_err-record.ensures.refused c.loop-rest.invariant.told)

pub loop-rest-preserved : goal.loop-rest-preserved
loop-rest-preserved c =
    let r = c.in_ok-record.record in
    let all = records c.args.head.unit c.args.head.size head_size 0 (drop head_size c.args.bytes.now) in
    let rest = c.loop-rest.rest.now in
    let split = c.split_at-in-loop-rest in
    let kept : c.len.result ≡ kept_of rest = c.len.ensures.len ∙ c.in_ok-record.ensures.kept in
    let taken : length split.result.0.now ≡ front_size + kept_of rest = split.ensures.front_len ∙ ap (λ (n : ℕ). front_size + n) kept in
    let after : split.result.1.now ≡ drop (front_size + kept_of rest) rest = split.ensures.back ∙ ap (λ (n : ℕ). drop (front_size + n) rest) kept in
    record {
      place = omega (arith, split.ensures.back_len);
      told = takes c.loop-rest.records.items c.push.new.self.items r c.args.head.unit c.args.head.size c.loop-rest.at (length split.result.0.now) rest split.result.1.now all
          c.in_ok-record.ensures.checked c.in_ok-record.ensures.length c.loop-rest.invariant.told c.in_ok-push.ensures.items c.in_ok-record.ensures.record taken after;
    }

pub returns-clause-records : goal.returns-clause-records
returns-clause-records c =
    is_done c.loop-rest.records.items c.args.head.unit c.args.head.size c.loop-rest.at c.loop-rest.rest.now (records c.args.head.unit c.args.head.size head_size 0 (drop head_size c.args.bytes.now))
    (none_left c.is_empty.result (length c.loop-rest.rest.now) c.is_empty.ensures c.loop-rest-test.false) c.loop-rest.invariant.told
