use Rattle.std.proofs.Common.{[], ◌∷◌, ◌++◌, ◌∙◌, ap}
use Rattle.yaml_tokens.proofs.LineLaws.{return_taken, return_absent, return_of_nothing}
use Rattle.yaml_tokens.proofs.lines.without_return.Goals as goal

pub returns-then-last-eq13 : goal.returns-then-last-eq13
returns-then-last-eq13 c = return_taken c.args.line.now c.in-Some.front.now (c.in-Some.ensures.cases.0 ∙ ap (λ b. c.in-Some.front.now ++ (b ∷ [])) c.if-last-eq13.true)

pub returns-else-last-eq13 : goal.returns-else-last-eq13
returns-else-last-eq13 c = return_absent c.args.line.now c.in-Some.front.now c.in-Some.last.now c.in-Some.ensures.cases.0 c.if-last-eq13.false

pub returns-in-None : goal.returns-in-None
returns-in-None c = return_of_nothing c.args.line.now c.in-None.ensures.cases
