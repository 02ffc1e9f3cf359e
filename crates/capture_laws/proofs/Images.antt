-- the image of a file of bytes is of bytes
use Rattle.std.proofs.Common.{Bool, Err, IfSome, List, None, Ok, Option, Result, Some, [], arith, false, flat_map, fold, if◌then◌else◌, length, nat_le, nat_lt, refl, slice_get, subst, true, unwrap_or, ℕ, ◌&&◌, ◌*◌, ◌+◌, ◌-◌, ◌∷◌, ◌≡◌}
use Rattle.std.specs.FinSet.{items}
use Rattle.std.specs.List.{AllByRecursion, range_with_len}
use Rattle.capture_laws.specs.Given.{HoldBytes}
use Rattle.elf_load.specs.Cells.{Cell}
use Rattle.elf_load.specs.Elf.{program_headers}
use Rattle.elf_load.specs.Image.{cell_at, cells_of_segments, cells_on, checks, file_byte, first_fault, image_of, unless, image}
use Rattle.elf_load.specs.Pages.{segments, touched_pages}
use Rattle.elf_load.specs.ProgramImage.{ProgramImage}
use Rattle.elf_load.specs.Room.{page_size}
use Rattle.elf_load.specs.declared.fault.ElfFault.{ElfFault}
use Rattle.elf_load.specs.declared.program_header.ProgramHeader.{ProgramHeader}
use Rattle.host_state.proofs.Growth.{by_if}
use Rattle.pcap_text.specs.Laws.{IsByte}
use Rattle.run_fits.proofs.Bytes.{all_flat_map, all_map, got}
use Rattle.run_fits.proofs.Memories.{listed}
use Rattle.run_fits.proofs.Steps.{Gives}
use Rattle.run_fits.specs.Bytes.{AreBytes, CellsHaveBytes}
use Rattle.run_fits.specs.Given.{ImageHasBytes}
use Rattle.run_plan.specs.File.{at_most_16_mib, file, max_file}
use Rattle.run_plan.specs.Program.{or_elf_fault, program}
use Rattle.run_plan.specs.Programs.{images}
use Rattle.run_plan.specs.declared.fault.Fault.{Fault}
use Rattle.run_plan.specs.declared.fault.Fault.TheVariants.{NotFound, TooLong}
use Rattle.run_outside.specs.Files.{Held}
use Rattle.sim_base.specs.Refusals.{or_refuse, ◌>>=◌}

byte_of_file : (bytes : List ℕ) (s : ProgramHeader) (address other : ℕ) → AreBytes bytes → IsByte other → IsByte (unwrap_or (file_byte bytes s address) other)
byte_of_file bytes s address other are small =
    by_if (λ (o : Option ℕ). IsByte (unwrap_or o other)) (nat_le s.address address && nat_lt address (s.address + s.file_size)) _ _
    (λ e. found (slice_get bytes (s.offset + (address - s.address))) (got IsByte bytes (s.offset + (address - s.address)) are))
    (λ e. small)
  where
    found : (o : Option ℕ) → IfSome o IsByte → IsByte (unwrap_or o other)
    found None h = small
    found (Some b) h = h

bytes_laid : (bytes : List ℕ) (ss : List ProgramHeader) (address byte : ℕ) → AreBytes bytes → IsByte byte → IsByte (fold (λ byte s. unwrap_or (file_byte bytes s address) byte) byte ss)
bytes_laid bytes [] address byte are small = small
bytes_laid bytes (s ∷ ss) address byte are small =
    bytes_laid bytes ss address (unwrap_or (file_byte bytes s address) byte) are (byte_of_file bytes s address byte are small)

cells_laid : (bytes : List ℕ) (ss : List ProgramHeader) → AreBytes bytes → CellsHaveBytes (cells_of_segments bytes ss)
unfolding cells_of_segments
cells_laid bytes ss are =
    let entries = flat_map (cells_on bytes ss) (items (touched_pages ss)) in
    listed entries
    (all_flat_map (λ (e : ℕ × Cell). IsByte e.1.byte) (cells_on bytes ss) (items (touched_pages ss))
    (λ page. all_map (λ (e : ℕ × Cell). IsByte e.1.byte) (λ (address : ℕ). (address, cell_at bytes ss address)) (range_with_len (page_size * page) page_size)
    (λ address. bytes_laid bytes ss address 0 are (omega arith))))

image_is : (fault : Option ElfFault) (made image : ProgramImage) → unless fault made ≡ Ok image → made ≡ image
image_is None made image e = cc
image_is (Some fault) made image e = cc

image_has : (bytes : List ℕ) (made : ProgramImage) → AreBytes bytes → image bytes ≡ Ok made → ImageHasBytes made
unfolding image
image_has bytes made are e =
    subst ImageHasBytes (image_is (first_fault (checks bytes)) (image_of bytes) made e) (cells_laid bytes (segments (program_headers bytes)) are)

module _ (held : Held) (hold : HoldBytes held) where
  of_elf : (path bytes : List ℕ) (r : Result ProgramImage ElfFault) (made : ProgramImage) → image bytes ≡ r → AreBytes bytes → or_elf_fault path r ≡ Ok made → ImageHasBytes made
  of_elf path bytes (Ok found) made is are e = let same : found ≡ made = cc in subst ImageHasBytes same (image_has bytes found are is)
  of_elf path bytes (Err fault) made is are e = absurd (cc)

  file_are : (path : List ℕ) → Gives AreBytes (file held path)
  file_are path = by_held (held path) refl
    where
      short : (bytes : List ℕ) (b : Bool) → AreBytes bytes → Gives AreBytes (if b then Ok bytes else Err (TooLong path))
      short bytes true are = are
      short bytes false are = tt

      by_held : (o : Option (List ℕ)) → held path ≡ o → Gives AreBytes (or_refuse o (NotFound path) >>= at_most_16_mib path)
      by_held None e = tt
      by_held (Some bytes) e = short bytes (nat_le (length bytes) max_file) (hold path bytes e)

  program_has : (path : List ℕ) (made : ProgramImage) → program held path ≡ Ok made → ImageHasBytes made
  unfolding program
  program_has path made e = by_file (file held path) (file_are path) e
    where
      by_file : (r : Result (List ℕ) Fault) → Gives AreBytes r → (r >>= λ bytes. or_elf_fault path (image bytes)) ≡ Ok made → ImageHasBytes made
      by_file (Ok bytes) are k = of_elf path bytes (image bytes) made refl are k
      by_file (Err fault) are k = absurd (cc)

  pub images_have : (paths : List (List ℕ)) (made : List ProgramImage) → (images held paths).answers (Ok made) → AllByRecursion ImageHasBytes made
  images_have [] made e = let same : [] ≡ made = cc in subst (λ (xs : List ProgramImage). AllByRecursion ImageHasBytes xs) same tt
  images_have (path ∷ paths) made (first, h, (rest, k, e)) =
      let same : first ∷ rest ≡ made = cc in
      subst (λ (xs : List ProgramImage). AllByRecursion ImageHasBytes xs) same (program_has path first h, images_have paths rest k)
