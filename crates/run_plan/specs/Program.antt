-- The image in the file of a program.
use Rattle.std.specs.Prelude.{ℕ, List, Result, Ok, Err}
use Rattle.elf_load.specs.Image.{image}
use Rattle.elf_load.specs.ProgramImage.{ProgramImage}
use Rattle.elf_load.specs.declared.fault.ElfFault.{ElfFault}
use Rattle.run_outside.specs.Files.{Held}
use Rattle.sim_base.specs.Refusals.{◌>>=◌}
use Rattle.run_plan.specs.File.{file}
use Rattle.run_plan.specs.declared.fault.Fault.{Fault}
use Rattle.run_plan.specs.declared.fault.Fault.TheVariants.{Elf}

abbrev pub or_elf_fault : List ℕ → Result ProgramImage ElfFault → Result ProgramImage Fault
or_elf_fault path (Ok i) = Ok i
or_elf_fault path (Err fault) = Err (Elf path fault)

-- its presence, its length, and then its form
unfoldable pub program : Held → List ℕ → Result ProgramImage Fault
program held path = do
  bytes ← file held path
  or_elf_fault path (image bytes)
