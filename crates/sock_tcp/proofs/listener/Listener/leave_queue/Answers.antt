use Rattle.std.proofs.Common.{◌≡◌, ◌++◌, length, take, drop, map, sym, ap, ◌∙◌, rules}
use Rattle.std.proofs.lemmas.Fn.{filter_same}
use Rattle.std.proofs.Math.Seq.{take-append_seam}
use Rattle.std.proofs.lemmas.List.{length-map}
use Rattle.sock_tcp.specs.listener.Listen.{place_past}
use Rattle.sock_tcp.proofs.listener.Listener.leave_queue.Goals as goal

pub returns-clause-queue : goal.returns-clause-queue
returns-clause-queue c =
    let kept = c.retain.new.self in
    let moved = c.move_up.new.places in
    let same = c.move_up.ensures ∙ ap (map (place_past c.args.gone)) c.as_mut_slice.ensures.value in
    let count : length moved ≡ length kept.items = ap length same ∙ length-map kept.items (place_past c.args.gone) in
    let long : kept.len ≡ length moved = kept.ok.0 ∙ sym count in
    ap (λ n. take n (moved ++ drop (length moved) kept.items)) long
    ∙ (take-append_seam moved (drop (length moved) kept.items)
    ∙ (same ∙ ap (map (place_past c.args.gone)) (filter_same _ _ _ (λ x b f' k. search rules) _ _ c.retain.ensures.filtered)))
