use Rattle.std.proofs.Common.{◌≡◌, map, take}
use Rattle.run_files.specs.Files.{put_of}
use Rattle.run_files.specs.Listed.{said}
use Rattle.net_run.specs.Heads.{all_heads}
use Rattle.net_run.proofs.heads.head_pieces.Given as goal

-- those of the hosts so far
abbrev pub invariant-loop-host : goal.invariant-loop-host
invariant-loop-host l = map put_of l.pieces.items ≡ all_heads (map said (take l.host-index l.hosts))
