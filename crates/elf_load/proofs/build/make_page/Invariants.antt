use Rattle.std.proofs.Common.{◌≡◌, ℕ, ◌+◌, ◌*◌, ◌<◌, length, take, get_or}
use Rattle.elf_load.specs.Image.{byte_at}
use Rattle.elf_load.proofs.build.make_page.Given as goal
use Rattle.elf_load.specs.Room.{page_size}

abbrev pub invariant-loop-segment : goal.invariant-loop-segment
invariant-loop-segment l = record {
  whole : length l.page.items ≡ page_size;
  laid : (offset : ℕ) → offset < page_size → get_or l.page.items offset 0 ≡ byte_at l.bytes (take l.segment-index l.segments) (page_size * l.number + offset);
}
