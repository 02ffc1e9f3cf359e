use Rattle.std.proofs.Common.{◌≡◌, rules}
use Rattle.std.proofs.lemmas.Fn.{always_returns_same}
use Rattle.host_link.specs.declared.line.Logged.{Logged}
use Rattle.round_lookahead.proofs.MergeSteps.{merged}
use Rattle.round_lookahead.proofs.world.merging.merge_many.Goals as goal

pub returns : goal.returns
returns c = λ all is.
    merged c.args.lines.now.items c.sort_by_cached_key.new.self.items all is c.in_ok-sort_by_cached_key.ensures.permutation
    (c.in_ok-sort_by_cached_key.ensures.sorted (λ (l : Logged). l.key) (always_returns_same _ (λ a r. r ≡ a.0.now.key) _ (λ a r q k. search rules)))
    (c.in_ok-sort_by_cached_key.ensures.stable (λ (l : Logged). l.key) (always_returns_same _ (λ a r. r ≡ a.0.now.key) _ (λ a r q k. search rules)))
