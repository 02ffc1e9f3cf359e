use Rattle.std.proofs.Common.{◌≡◌, drop}
use Rattle.std.specs.List.{find}
use Rattle.std.specs.Str.{bytes_eq}
use Rattle.sim_base.specs.Signal.{signal_name}
use Rattle.shd_values.proofs.word.find_signal.Given as goal

-- what is left gives the whole
abbrev pub invariant-loop-signal : goal.invariant-loop-signal
invariant-loop-signal l = find (λ s. bytes_eq (signal_name s) l.name) (drop l.signal-index l.signals) ≡ find (λ s. bytes_eq (signal_name s) l.name) l.signals
