use Rattle.std.proofs.Common.{◌≡◌, inl, inr, length, map, sym, ◌∙◌}
use Rattle.std.specs.Prelude.{◌⊎◌}
use Rattle.std.specs.Vec.Iter.{into_iter_items}
use Rattle.run_files.specs.Captured.{host_captures, no_head}
use Rattle.run_files.specs.Files.{put_of}
use Rattle.run_files.proofs.Capturing.{captured_end}
use Rattle.run_files.proofs.capture.push_all_captured.Goals as goal

pub returns : goal.returns
returns c =
    let it = c.loop-host.host-iterator in
    let ended : (length it.a.rest.now ≡ 0) ⊎ (length (into_iter_items it.b) ≡ 0) = elim c.in-None.ensures.steps [ inl h ↦ inl h.1.0 | inr h ↦ inr (sym c.loop-host.invariant.left ∙ h.1.0) ] in
    captured_end (host_captures no_head) it.a.rest.now (into_iter_items it.b) (map put_of c.loop-host.pieces.items) _ ended c.loop-host.invariant.so_far
