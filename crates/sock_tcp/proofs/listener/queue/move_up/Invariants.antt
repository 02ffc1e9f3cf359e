use Rattle.std.proofs.Common.{◌≡◌, ◌++◌, take, drop, map}
use Rattle.sock_tcp.specs.listener.Listen.{place_past}
use Rattle.sock_tcp.proofs.listener.queue.move_up.Given as goal

abbrev pub invariant-loop-place : goal.invariant-loop-place
invariant-loop-place l =
    l.places ≡ map (place_past l.gone) (take l.place-index l.initial.places) ++ drop l.place-index l.initial.places
