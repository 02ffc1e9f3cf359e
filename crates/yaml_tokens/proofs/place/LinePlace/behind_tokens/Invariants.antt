use Rattle.std.proofs.Common.{◌≡◌, drop}
use Rattle.yaml_tokens.specs.Tokens.{place_behind}
use Rattle.yaml_tokens.proofs.place.LinePlace.behind_tokens.Given as goal

abbrev pub invariant-loop-token : goal.invariant-loop-token
invariant-loop-token l = place_behind l.place (drop l.token-index l.token-items) ≡ place_behind l.initial.place l.token-items
