use Rattle.std.proofs.Common.{◌≡◌, ◌+◌, ◌<◌, ◌∷◌, [], ◌++◌, List, length, take, get_or, sym, ap, subst, ◌∙◌, arith}
use Rattle.std.proofs.lemmas.List.{take_more}
use Rattle.pcap_text.specs.declared.capture.Record.{Record}
use Rattle.run_answers.specs.Captured.{AreLinesOf}
use Rattle.run_answers.proofs.CaptureLemmas.{lines_more}
use Rattle.run_answers.proofs.captured.capture_text.Goals as goal

pub loop-taken-preserved : goal.loop-taken-preserved
loop-taken-preserved c =
    let records : List Record = c.args.capture.now.records in
    let i = c.loop-taken.taken-index in
    let r : Record = c.taken-item.result in
    let added = c.in_ok-record_line.ensures in
    let same : c.as_slice-taken-items.result.now ≡ records = c.as_slice-taken-items.ensures in
    let below : i < length records = omega (arith, ap (λ (rs : List Record). length rs) same) in
    let here : r ≡ get_or records i r = c.taken-item.is ∙ ap (λ (rs : List Record). get_or rs i r) same in
    let more : take (i + 1) records ≡ take i records ++ r ∷ [] = take_more records i r below ∙ ap (λ (x : Record). take i records ++ x ∷ []) (sym here) in
    subst (λ (rs : List Record). AreLinesOf rs c.record_line.new.into) (sym more)
    (subst (AreLinesOf (take i records ++ r ∷ [])) (sym added.2) (lines_more (take i records) r c.loop-taken.lines added.0 c.loop-taken.invariant added.1))
