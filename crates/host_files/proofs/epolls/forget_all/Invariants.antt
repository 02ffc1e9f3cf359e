use Rattle.std.proofs.Common.{◌≡◌, ◌++◌, take, drop, map}
use Rattle.host_files.specs.Epolls.{forgets}
use Rattle.host_files.proofs.epolls.forget_all.Given as goal

abbrev pub invariant-loop-place : goal.invariant-loop-place
invariant-loop-place l = l.slots ≡ map (forgets l.fd) (take l.place l.initial.slots) ++ drop l.place l.initial.slots
