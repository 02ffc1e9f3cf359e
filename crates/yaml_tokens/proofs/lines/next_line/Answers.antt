use Rattle.std.proofs.Common.{◌∷◌, ◌∙◌, sym, ap, length, take, arith}
use Rattle.yaml_tokens.specs.Lines.{split_lines, without_return}
use Rattle.yaml_tokens.proofs.LineLaws.{split_cut, split_whole, length_without_return}
use Rattle.std.proofs.lemmas.List.{length-take-le}
use Rattle.yaml_tokens.proofs.lines.next_line.Goals as goal

pub returns-then-n-len-clause-lines : goal.returns-then-n-len-clause-lines
returns-then-n-len-clause-lines c = split_whole c.args.text.now c.line_len-n.result c.line_len-n.ensures.len c.requires c.if-n-len.true
    ∙ ap (λ l. c.args.text.now ∷ split_lines l) (sym c.past-none.ensures)

pub returns-clause-lines : goal.returns-clause-lines
returns-clause-lines c =
    let within = c.line_len-n.ensures.within in let other = c.if-n-len.false in
    let line = sym (c.without_return-line.ensures ∙ ap without_return c.before-front.ensures) in
    let rest = sym c.past-rest.ensures in
    split_cut c.args.text.now c.line_len-n.result c.line_len-n.ensures.len (omega (arith, within, other)) ∙ (λ j. line j ∷ split_lines (rest j))

pub returns-clause-line : goal.returns-clause-line
returns-clause-line c =
    let within = c.line_len-n.ensures.within in
    let same = ap length (c.without_return-line.ensures ∙ ap without_return c.before-front.ensures) in
    let taken = length-take-le c.line_len-n.result c.args.text.now within in
    (let short = length_without_return (take c.line_len-n.result c.args.text.now) in omega (arith, short, same, taken))
