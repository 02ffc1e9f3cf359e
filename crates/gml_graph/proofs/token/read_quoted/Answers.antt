use Rattle.std.proofs.Common.{◌≡◌, Option, Some, None, refl, ap}
use Rattle.std.specs.Option.{option_map}
use Rattle.sim_base.specs.declared.time.Time.{Time}
use Rattle.gml_graph.specs.Token.{quoted}
use Rattle.gml_graph.proofs.token.read_quoted.Goals as goal

again : (t : Option Time) → t ≡ option_map (λ nanos. record { nanos = nanos }) (option_map (λ t. t.nanos) t)
again None = refl
again (Some t) = refl

pub returns : goal.returns
unfolding quoted
returns c = rw (← c.read_time.ensures, ← c.read_rate.ensures) (ap (λ (t : Option Time). record { time = t; rate = c.read_rate.result }) (again c.read_time.result))
