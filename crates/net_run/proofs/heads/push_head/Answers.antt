use Rattle.std.proofs.Common.{ℕ, List, [], ◌∷◌, ◌++◌, map, ap, ◌∙◌}
use Rattle.run_outside.specs.declared.sink.SinkTarget.TheVariants as target
use Rattle.out_text.specs.Files.{capture_name}
use Rattle.run_files.specs.Files.{Put, put_of}
use Rattle.net_run.proofs.heads.push_head.Goals as goal

pub returns : goal.returns
returns c =
    c.in_ok-push_capture.ensures
    ∙ ap (λ (bytes : List ℕ). let put : Put = (target.File (capture_name c.args.host.now c.args.loopback), bytes) in map put_of c.args.pieces.now.items ++ (put ∷ [])) c.in_ok-bytes.ensures
