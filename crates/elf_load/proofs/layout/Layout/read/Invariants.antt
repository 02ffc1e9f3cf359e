use Rattle.std.proofs.Common.{◌≡◌, [], take, drop}
use Rattle.elf_load.specs.Elf.{program_headers}
use Rattle.elf_load.specs.Image.{all_program_header_checks, first_fault}
use Rattle.elf_load.specs.inside.Layout.{IsSound}
use Rattle.elf_load.specs.Pages.{segments}
use Rattle.elf_load.proofs.layout.Layout.read.Given as goal

abbrev pub invariant-loop-index : goal.invariant-loop-index
invariant-loop-index l = record {
  sound : IsSound l.bytes l.layout;
  segments : l.layout.segments.items ≡ segments (take l.index (program_headers l.bytes));
  left : first_fault (all_program_header_checks l.bytes [] (program_headers l.bytes))
      ≡ first_fault (all_program_header_checks l.bytes (take l.index (program_headers l.bytes)) (drop l.index (program_headers l.bytes)));
}
