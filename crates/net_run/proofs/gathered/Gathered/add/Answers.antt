use Rattle.std.proofs.Common.{◌≡◌, [], ◌∷◌, List, map, ap, ◌∙◌, sym}
use Rattle.std.specs.Vec.Iter.{into_iter_items}
use Rattle.run_files.specs.Files.{Put, put_of}
use Rattle.net_run.specs.Pieces.{with_pieces}
use Rattle.run_files.specs.declared.piece.Piece.{Piece}
use Rattle.net_run.proofs.FrontLemmas.{with_append}
use Rattle.net_run.proofs.gathered.Gathered.add.Goals as goal

pub loop-piece-preserved : goal.loop-piece-preserved
loop-piece-preserved c =
    let rest : List Piece = into_iter_items c.next.new.self in
    let old : List Put = map put_of c.loop-piece.self-inside.pieces.items in
    let is : into_iter_items c.loop-piece.piece-iterator ≡ c.in-Some.piece ∷ rest = c.in-Some.ensures.steps.0 in record {
      whole = λ k.
          ap (with_pieces (map put_of rest)) (c.in_ok-add_piece.ensures.whole k ∙ with_append old (put_of c.in-Some.piece ∷ []) k)
          ∙ ap (λ (ps : List Piece). with_pieces (map put_of ps) (with_pieces old k)) (sym is)
          ∙ c.loop-piece.invariant.whole k;
      last = c.in_ok-add_piece.ensures.last;
    }
