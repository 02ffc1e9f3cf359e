use Rattle.std.proofs.Common.{◌≡◌, [], List, map, sym, subst}
use Rattle.run_files.specs.Files.{put_of}
use Rattle.run_files.specs.declared.piece.Piece.{Piece}
use Rattle.net_run.specs.inside.Gathered.{AreLast}
use Rattle.net_run.proofs.LastLemmas.{last_none, no_pieces}
use Rattle.net_run.proofs.gathered.Gathered.open.Goals as goal

pub invariant_of-self : goal.invariant_of-self
invariant_of-self c =
    let none : c.self.inside.pieces.items ≡ [] = no_pieces c.self.inside.pieces c.is_empty-then-is_empty.result c.is_empty-then-is_empty.ensures c.if-is_empty-2.true in
    subst (λ (ps : List Piece). AreLast (map put_of ps) c.in_ok-self-inside.field-0.items) (sym none) (last_none c.in_ok-self-inside.field-0.items)
