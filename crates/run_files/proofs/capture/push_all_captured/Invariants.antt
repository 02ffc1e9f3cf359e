use Rattle.std.proofs.Common.{◌≡◌, ◌++◌, length, map}
use Rattle.std.specs.Vec.Iter.{into_iter_items, into_iter_len}
use Rattle.run_files.specs.Captured.{host_captures, no_head}
use Rattle.run_files.specs.Files.{put_of}
use Rattle.run_files.specs.Grown.{with_bytes}
use Rattle.run_files.specs.Listed.{said, by_host}
use Rattle.run_files.proofs.capture.push_all_captured.Given as goal

-- what is left completes the whole
abbrev pub invariant-loop-host : goal.invariant-loop-host
invariant-loop-host l = record {
  so_far : map put_of l.pieces.items ++ with_bytes (by_host (host_captures no_head) (map said l.host-iterator.a.rest.now) (into_iter_items l.host-iterator.b))
      ≡ map put_of l.initial.pieces.items ++ with_bytes (by_host (host_captures no_head) (map said l.hosts) l.fn.captured.items);
  left : into_iter_len l.host-iterator.b ≡ length (into_iter_items l.host-iterator.b);
}
