use Rattle.std.proofs.Common.{◌<◌, length, get_or, set, ap, ◌∙◌, arith}
use Rattle.std.proofs.lemmas.List.{get_or_default}
use Rattle.std.proofs.lemmas.List.Edits.{map_over_more}
use Rattle.sock_tcp.specs.listener.Listen.{place_past}
use Rattle.sock_tcp.proofs.listener.queue.move_up.Goals as goal

pub loop-place-preserved : goal.loop-place-preserved
loop-place-preserved c =
    let xs = c.args.places.now in
    let ys = c.loop-place.places in
    let i = c.loop-place.place-index in
    let x = get_or ys i 0 in
    let within : i < length xs = omega arith in
    let here : i < length ys = omega arith in
    ap (set ys i) c.place_past.ensures ∙ map_over_more (place_past c.args.gone) xs ys i x within c.loop-place.invariant (get_or_default ys i 0 x here)
