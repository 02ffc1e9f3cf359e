use Rattle.std.proofs.Common.{◌≤◌, ◌++◌, ◌-◌, vec_len}
use Rattle.std.specs.List.{range_with_len}
use Rattle.elf_load.specs.Pages.{first_page}
use Rattle.elf_load.specs.inside.Layout.{IsListOf}
use Rattle.elf_load.proofs.layout.touch.Given as goal
use Rattle.elf_load.specs.Room.{max_program_pages}

abbrev pub invariant-loop-page : goal.invariant-loop-page
invariant-loop-page l = record {
  listed : IsListOf l.pages.items (l.initial.pages.items ++ range_with_len (first_page l.segment) (l.page - first_page l.segment));
  few : vec_len l.pages ≤ max_program_pages;
}
