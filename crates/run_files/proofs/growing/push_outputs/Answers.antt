use Rattle.std.proofs.Common.{◌≡◌, length, map, ◌++◌, List, sym, ap, ◌∙◌, arith, append-nil}
use Rattle.std.proofs.lemmas.List.{nil_from_length}
use Rattle.run_files.specs.Files.{Put, put_of}
use Rattle.run_files.specs.Listed.{said}
use Rattle.run_files.proofs.Listings.{nothing_grown}
use Rattle.run_files.proofs.growing.push_outputs.Goals as goal

pub returns-then-is_empty : goal.returns-then-is_empty
returns-then-is_empty c =
    let test = sym c.is_empty.ensures ∙ c.if-is_empty.true in
    let empty : length c.args.outputs.now ≡ 0 = grind arith in
    let pieces = map put_of c.args.pieces.now.items in
    sym (append-nil pieces) ∙ ap (λ (l : List Put). pieces ++ l) (sym (nothing_grown (said c.args.host.now) c.args.outputs.now (nil_from_length c.args.outputs.now empty)))
