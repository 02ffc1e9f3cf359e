use Rattle.std.proofs.Common.{◌≡◌, ℕ, Some, slice_get, get_or, sym, ap, ◌∙◌, subst, arith}
use Rattle.std.proofs.lemmas.Option.{slice_get-get_or}
use Rattle.run_outside.specs.declared.sink.SinkTarget.TheVariants as target
use Rattle.run_files.specs.declared.piece.Piece.{Piece}
use Rattle.net_run.specs.Targets.{is_target}
use Rattle.net_run.proofs.LastLemmas.{last_at}
use Rattle.net_run.proofs.gathered.last_place.Goals as goal

pub returns-then-is_file-clause-last : goal.returns-then-is_file-clause-last
returns-then-is_file-clause-last c =
    let slots = c.args.slots.now in
    let place : ℕ = get_or slots c.slot_of-slot.result 0 in
    let at : slice_get slots c.slot_of-slot.result ≡ Some place = slice_get-get_or slots c.slot_of-slot.result 0 (omega (arith, c.if-slot-slots.false)) in
    last_at c.args.pieces.now slots c.args.name.now place c.index-pieces-place.result c.requires
    (subst (λ (s : ℕ). slice_get slots s ≡ Some place) c.slot_of-slot.ensures at)
    (omega (arith, c.if-place-pieces.true)) c.index-pieces-place.is
    (ap (λ (p : Piece). is_target p.target (target.File c.args.name.now)) c.index-pieces-place.is ∙ sym c.is_file.ensures ∙ c.if-is_file.true)
