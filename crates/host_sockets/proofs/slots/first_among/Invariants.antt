use Rattle.std.proofs.Common.{drop}
use Rattle.host_sockets.specs.inside.Lookup.{is_sought}
use Rattle.host_sockets.proofs.FirstAmong.{Best}
use Rattle.host_sockets.proofs.slots.first_among.Given as goal

-- the best of those that were looked at
abbrev pub invariant-loop-place : goal.invariant-loop-place
invariant-loop-place l = Best (is_sought l.sought) l.socks l.last l.places l.best (drop l.place-index l.places)
