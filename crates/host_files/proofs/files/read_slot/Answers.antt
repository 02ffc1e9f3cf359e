use Rattle.std.proofs.Common.{◌≡◌, ℕ, false, List, length, drop, Some, sym, ap, ◌∙◌}
use Rattle.std.proofs.lemmas.List.{drop_min}
use Rattle.host_fds.specs.Pipe.{PipeState, holding, acted}
use Rattle.host_files.specs.Files as spec
use Rattle.host_files.specs.Slots as act
use Rattle.host_files.proofs.files.read_slot.Goals as goal

pub returns-in-Some-clause-left : goal.returns-in-Some-clause-left
returns-in-Some-clause-left c =
    let p : PipeState = c.in-Some.pipe in
    let left : drop c.read.result p.bytes ≡ drop (length c.args.into.now) p.bytes =
    ap (λ (n : ℕ). drop n p.bytes) c.read.ensures.count ∙ drop_min (length c.args.into.now) p.bytes in
    ap (λ (q : PipeState). Some q) (c.read.ensures.left ∙ ap (λ (bytes : List ℕ). acted p false (holding bytes p)) left)
    ∙ ap (act.after (spec.after_read (length c.args.into.now))) (sym c.in-Some.is)
