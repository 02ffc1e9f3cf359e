use Rattle.std.proofs.Common.{◌≡◌, ℕ, length, map, sym, ap, ◌∙◌, arith}
use Rattle.std.specs.Prelude.{replicate}
use Rattle.std.proofs.lemmas.List.{length-map}
use Rattle.run_files.specs.Listed.{said}
use Rattle.run_files.proofs.Capturing.{nothing, nothing_captured}
use Rattle.run_files.proofs.capture.none_captured.Goals as goal

pub returns : goal.returns
returns c =
    let hosts = c.args.hosts.now in
    let e = c.loop-test.false in
    let f = c.loop.auto.index-end in
    let all : c.loop.index ≡ length hosts = omega arith in
    c.loop.invariant ∙ ap (λ (n : ℕ). replicate n nothing) (all ∙ sym (length-map hosts said)) ∙ sym (nothing_captured 0 (map said hosts))
