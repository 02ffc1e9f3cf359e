-- Descriptors that are closed one after another.
use Rattle.std.proofs.Common.{◌≡◌, ℕ, ◌+◌, refl, ◌∙◌, ap, subst, sym, add-one}
use Rattle.sim_base.specs.declared.time.Time.{Time}
use Rattle.host_sockets.specs.declared.sockets.Sockets.{Sockets}
use Rattle.host_sockets.specs.Sockets.{SocketsRecord}
use Rattle.host_sockets.specs.StandsFor.{Stand}
use Rattle.host_calls.specs.Closing.{closed_below, closed_one}
use Rattle.host_calls.specs.Parts.{Leaves, Scene, scene}
use Rattle.file_calls.specs.Scene.{Local}

pub closed_none : (now : Time) (s : Scene) → closed_below now 0 s ≡ s
unfolding closed_below
closed_none now s = refl

closed_next : (now : Time) (fd : ℕ) (s : Scene) → closed_below now (fd + 1) s ≡ closed_one now fd (closed_below now fd s)
unfolding closed_below
closed_next now fd s = rw add-one refl

-- one more is closed
pub leaves_next : (now : Time) (fd : ℕ) (s : Scene) (local local' : Local) (c c' : Sockets) → Leaves (closed_below now fd s) local c
    → ((t : SocketsRecord) → Stand c t → Leaves (closed_one now fd (scene local t)) local' c')
    → Leaves (closed_below now (fd + 1) s) local' c'
leaves_next now fd s local local' c c' (after, (e, stands)) step =
    subst (λ (x : Scene). Leaves x local' c') (sym (closed_next now fd s ∙ ap (closed_one now fd) e)) (step after stands)
