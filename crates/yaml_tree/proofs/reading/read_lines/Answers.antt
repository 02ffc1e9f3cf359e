use Rattle.std.proofs.Common.{◌≡◌, ◌+◌, ◌&&◌, Bool, false, ◌∙◌, ap, sym, arith}
use Rattle.std.specs.List.{list_all}
use Rattle.yaml_tokens.specs.Lines.{split_lines}
use Rattle.yaml_tokens.specs.Tokens.{tokens_from}
use Rattle.yaml_tree.specs.Written.{is_name}
use Rattle.yaml_tokens.specs.declared.place.LinePlace.{LinePlace}
use Rattle.std.proofs.lemmas.Bool.{eqb-true}
use Rattle.std.proofs.lemmas.Result.{err_from_is_err_and}
use Rattle.yaml_tree.proofs.ReadSteps.{lines_go_on, line_is_refused, lines_end, names_go_on, names_end}
use Rattle.yaml_tree.proofs.reading.read_lines.Goals as goal
use Rattle.yaml_tree.proofs.reading.read_lines.Goals.{then-empty, else-empty}

pub returns-in_err-read-clause-read : goal.returns-in_err-read-clause-read
returns-in_err-read-clause-read c = let p = err_from_is_err_and c.from_residual.result c.from_residual.ensures.1 in rw (p.1, p.2)
    (line_is_refused c.loop-rest.begun c.loop-rest.place c.loop-rest.number c.loop-rest.rest.now c.loop-rest.builder _ c.loop-rest.invariant.read (LinePlace × Bool) Bool c.next_line.result.0.now c.next_line.result.1.now _ c.read_line.new.builder c.next_line.ensures.lines c.in_err-read.ensures.read)

pub loop-rest-preserved : goal.loop-rest-preserved
loop-rest-preserved c =
    let told = c.in_ok-read.read.1 in
    let both : c.if-empty.empty ≡ (c.loop-rest.empty && told) = elim c.if-empty.branch [
      | then-empty w ↦ w.empty-is ∙ sym (ap (λ b. b && told) w.if-empty.true)
      | else-empty w ↦ (let none : c.if-empty.empty ≡ false = cc (w.empty-is, w.if-empty.false) in none ∙ sym (ap (λ b. b && told) w.if-empty.false))
    ] in
    let behind = c.next_line.result.1.now in
    record {
      read = lines_go_on c.loop-rest.begun c.loop-rest.place c.loop-rest.number c.loop-rest.rest.now c.loop-rest.builder _ c.loop-rest.invariant.read c.next_line.result.0.now behind c.read_line.new.builder c.has_begun-begun.result c.in_ok-read.read.0 c.next_line.ensures.lines c.in_ok-read.ensures.read c.has_begun-begun.ensures c.in_ok-read.ensures.place;
      within = omega (arith, c.next_line.ensures.rest, c.loop-rest.invariant.within);
      counted = omega arith;
      names = ap (λ b. b && list_all is_name (tokens_from c.has_begun-begun.result c.in_ok-read.read.0 (c.loop-rest.number + 1) (split_lines behind))) both
          ∙ names_go_on c.loop-rest.begun c.has_begun-begun.result c.loop-rest.place c.in_ok-read.read.0 c.loop-rest.number c.loop-rest.rest.now c.next_line.result.0.now behind c.loop-rest.empty told _ c.loop-rest.invariant.names c.next_line.ensures.lines c.in_ok-read.ensures.names c.has_begun-begun.ensures c.in_ok-read.ensures.place;
    }

pub returns-clause-read : goal.returns-clause-read
returns-clause-read c = sym (lines_end c.loop-rest.begun c.loop-rest.place c.loop-rest.number c.loop-rest.rest.now c.loop-rest.builder _ c.loop-rest.invariant.read (eqb-true _ _ (sym c.is_empty.ensures ∙ c.loop-rest-test.false)))

pub returns-clause-empty : goal.returns-clause-empty
returns-clause-empty c = names_end c.loop-rest.begun c.loop-rest.place c.loop-rest.number c.loop-rest.rest.now c.loop-rest.empty _ c.loop-rest.invariant.names (eqb-true _ _ (sym c.is_empty.ensures ∙ c.loop-rest-test.false))
