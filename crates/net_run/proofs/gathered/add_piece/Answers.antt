use Rattle.std.proofs.Common.{◌≡◌, ◌+◌, ◌++◌, ◌<◌, ℕ, List, true, false, length, drop, map, get_or, subst, ap, ◌∙◌}
use Rattle.run_files.specs.Files.{put_of}
use Rattle.net_run.specs.Targets.{is_target, is_touched}
use Rattle.run_files.specs.declared.piece.Piece.{Piece}
use Rattle.net_run.proofs.GatherLemmas.{joined_in}
use Rattle.net_run.proofs.LastLemmas.{joined_last}
use Rattle.net_run.proofs.gathered.add_piece.Goals as goal

pub returns-in_ok-extend_from_slice-in-Some-clause-whole : goal.returns-in_ok-extend_from_slice-in-Some-clause-whole
returns-in_ok-extend_from_slice-in-Some-clause-whole c =
    let was = c.index_mut.result.now in
    let place : ℕ = c.in-Some.place in
    let same = c.as_slice.ensures.value in
    joined_in c.args.pieces.now.items place was c.args.piece c.extend_from_slice.new.self
    (subst (λ (ps : List Piece). place < length ps) same c.in-Some.ensures.within)
    c.index_mut.ensures.value
    (subst (λ (ps : List Piece). (d : Piece) → is_target (get_or ps place d).target c.args.piece.target ≡ true) same c.in-Some.ensures.here)
    (subst (λ (ps : List Piece). is_touched c.args.piece.target (drop (place + 1) (map put_of ps)) ≡ false) same c.in-Some.ensures.last)
    (c.in_ok-extend_from_slice-in-Some.ensures.ok ∙ ap (λ (bs : List ℕ). was.bytes ++ bs) c.as_slice-in-Some.ensures)

pub returns-in_ok-extend_from_slice-in-Some-clause-last : goal.returns-in_ok-extend_from_slice-in-Some-clause-last
returns-in_ok-extend_from_slice-in-Some-clause-last c =
    let was = c.index_mut.result.now in
    let place : ℕ = c.in-Some.place in
    joined_last c.args.pieces.now.items c.args.slots.now.items place was c.extend_from_slice.new.self
    (subst (λ (ps : List Piece). place < length ps) c.as_slice.ensures.value c.in-Some.ensures.within)
    c.index_mut.ensures.value c.requires
