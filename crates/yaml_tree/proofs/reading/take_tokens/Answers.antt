use Rattle.std.proofs.Common.{arith}
use Rattle.std.specs.Vec.Iter.{into_iter_items}
use Rattle.std.proofs.lemmas.Result.{err_from_is_err_and}
use Rattle.yaml_tree.proofs.BuilderSteps.{tokens_go_on, token_is_refused, tokens_end}
use Rattle.yaml_tree.proofs.reading.take_tokens.Goals as goal

pub loop-token-preserved : goal.loop-token-preserved
loop-token-preserved c = tokens_go_on (into_iter_items c.loop-token.token-iterator) c.loop-token.builder _ c.loop-token.invariant c.in-Some.token (into_iter_items c.next.new.self) c.take_token.new.self c.in-Some.ensures.steps.0 c.in_ok-take_token.ensures

pub returns-in_err-take_token : goal.returns-in_err-take_token
returns-in_err-take_token c = let p = err_from_is_err_and c.from_residual.result c.from_residual.ensures.1 in rw (p.1, p.2)
    (token_is_refused (into_iter_items c.loop-token.token-iterator) c.loop-token.builder _ c.loop-token.invariant c.in-Some.token (into_iter_items c.next.new.self) _ c.take_token.new.self c.in-Some.ensures.steps.0 c.in_err-take_token.ensures)

pub returns : goal.returns
returns c = let e = c.in-None.ensures.steps.0 in tokens_end (into_iter_items c.loop-token.token-iterator) c.loop-token.builder _ c.loop-token.invariant (omega (arith, c.loop-token.token-iterator.rest.ok.0))
