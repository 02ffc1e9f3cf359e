use Rattle.std.proofs.Common.{◌≡◌, drop, []}
use Rattle.run_plan.specs.Rates.{rates_behind}
use Rattle.run_plan.proofs.StepLemmas.{ahead}
use Rattle.run_plan.proofs.rates.all_rates.Given as goal

abbrev pub invariant-loop-host : goal.invariant-loop-host
invariant-loop-host l = ahead l.all.items (rates_behind l.file l.nodes l.earlier.items (drop l.host-index l.hosts)) ≡ rates_behind l.file l.nodes [] l.hosts
