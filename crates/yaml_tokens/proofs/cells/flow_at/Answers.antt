use Rattle.std.proofs.Common.{◌≡◌, ◌∙◌, ◌-◌, ◌≤◌, length, ap, arith}
use Rattle.std.proofs.lemmas.List.{length-drop}
use Rattle.yaml_tokens.specs.Pieces.{CellStep, step_at}
use Rattle.yaml_tokens.proofs.CellSteps.{pieces_go_on, pieces_end, len_goes_on, len_ends, pieces_over, len_over}
use Rattle.yaml_tokens.proofs.cells.flow_at.Goals as goal

pub returns-then-last-clause-pieces : goal.returns-then-last-clause-pieces
returns-then-last-clause-pieces c = pieces_end c.in-Some.b.now c.in-Some.behind.now c.loop-b.rest.now c.loop-b.depth (record { piece = c.piece.inside.piece; skip = c.piece.inside.skip }) (c.piece.view_is ∙ c.in_ok-piece.ensures.step) c.in-Some.ensures.cases.0
    c.is_last-last.result c.is_last-last.ensures c.if-last.true c.loop-b.pieces c.in_ok-pieces-2.pieces _ c.loop-b.invariant.pieces c.in_ok-pieces-2.ensures

pub returns-then-last-clause-len : goal.returns-then-last-clause-len
returns-then-last-clause-len c = let one = len_ends c.in-Some.b.now c.in-Some.behind.now c.loop-b.rest.now c.loop-b.depth (record { piece = c.piece.inside.piece; skip = c.piece.inside.skip }) (c.piece.view_is ∙ c.in_ok-piece.ensures.step) c.in-Some.ensures.cases.0
    c.is_last-last.result c.is_last-last.ensures c.if-last.true in
    omega (arith, one, c.loop-b.invariant.len, c.loop-b.invariant.within, c.in-Some.ensures.cases.1)

pub loop-b-preserved : goal.loop-b-preserved
loop-b-preserved c = let step : CellStep = record { piece = c.piece.inside.piece; skip = c.piece.inside.skip } in
    let is : step ≡ step_at c.in-Some.b.now c.in-Some.behind.now = c.piece.view_is ∙ c.in_ok-piece.ensures.step in
    let fits : step.skip ≤ length c.in-Some.behind.now = let same = ap (λ (s : CellStep). s.skip) c.piece.view_is in omega (arith, same, c.in_ok-piece.ensures.within) in
    let more = len_goes_on c.in-Some.b.now c.in-Some.behind.now c.loop-b.rest.now c.loop-b.depth step is c.in-Some.ensures.cases.0
    c.is_last-last.result c.is_last-last.ensures c.if-last.false fits c.open_after-depth.result c.from-rest.result.now c.open_after-depth.ensures.value c.from-rest.ensures in
    let left : length c.from-rest.result.now ≡ length c.in-Some.behind.now - step.skip = ap length c.from-rest.ensures ∙ length-drop step.skip c.in-Some.behind.now in
    record {
      pieces = pieces_go_on c.in-Some.b.now c.in-Some.behind.now c.loop-b.rest.now c.loop-b.depth step is c.in-Some.ensures.cases.0
          c.is_last-last.result c.is_last-last.ensures c.if-last.false c.loop-b.pieces c.in_ok-pieces-2.pieces c.open_after-depth.result c.from-rest.result.now _ c.loop-b.invariant.pieces c.in_ok-pieces-2.ensures c.open_after-depth.ensures.value c.from-rest.ensures;
      len = omega (arith, more, left, fits, c.loop-b.invariant.len, c.in-Some.ensures.cases.1);
      within = omega (arith, left, fits, c.loop-b.invariant.within, c.open_after-depth.ensures.small, c.in-Some.ensures.cases.1);
    }

pub returns-clause-pieces : goal.returns-clause-pieces
returns-clause-pieces c = pieces_over c.loop-b.rest.now c.loop-b.depth c.loop-b.pieces _ c.in_default.ensures.cases c.loop-b.invariant.pieces

pub returns-clause-len : goal.returns-clause-len
returns-clause-len c = let none = len_over c.loop-b.rest.now c.loop-b.depth c.in_default.ensures.cases in omega (arith, none, c.loop-b.invariant.len, c.in_default.ensures.cases)
