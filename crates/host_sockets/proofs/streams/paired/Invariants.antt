use Rattle.std.proofs.Common.{◌≡◌, [], take}
use Rattle.std.specs.List.{fold}
use Rattle.host_sockets.specs.Streams.{with_carried}
use Rattle.host_sockets.specs.inside.Told.{all_told}
use Rattle.host_sockets.proofs.streams.paired.Given as goal

-- those before the index were entered
abbrev pub invariant-loop-carried : goal.invariant-loop-carried
invariant-loop-carried l = all_told l.pairs.entries ≡ fold with_carried [] (take l.carried-index l.all)
