-- The image of a file, from what its parts were found to be.
use Rattle.std.proofs.Common.{◌≡◌, ℕ, ◌+◌, ◌*◌, ◌≤◌, ◌<◌, List, [], length, map, get_or, Some, None, Ok, Err, sym, ap, ◌∙◌, arith}
use Rattle.std.specs.Prelude.{All, flat_map}
use Rattle.std.specs.Ordering.{nat_cmp}
use Rattle.std.specs.FinMap.{from_entries}
use Rattle.std.specs.FinSet.{len}
use Rattle.std.proofs.lemmas.List.{length-map, get_or-map}
use Rattle.elf_load.specs.declared.fault.ElfFault.{ElfFault}
use Rattle.elf_load.specs.declared.fault.LoadError.{LoadError}
use Rattle.elf_load.specs.declared.fault.LoadError.TheVariants.{Fault, NoMemory}
use Rattle.elf_load.specs.declared.page.Page.{Page}
use Rattle.elf_load.specs.declared.program_header.ProgramHeader.{ProgramHeader}
use Rattle.elf_load.specs.Cells.{cells_of, cells_of_page}
use Rattle.elf_load.specs.Elf.{elf_header, program_headers}
use Rattle.elf_load.specs.Image.{header_checks, all_program_header_checks, entry_checks, first_fault, cells_on, cells_of_segments, image_of, unless, image, IsRefusal}
use Rattle.elf_load.specs.inside.Layout.{IsFound, IsListOf}
use Rattle.elf_load.specs.Pages.{segments, pages_of, touched_pages, highest_end, rounded_up}
use Rattle.elf_load.proofs.Checks.{first_fault_none, first_fault_some}
use Rattle.elf_load.proofs.Lookups.{cells_from_numbers}
use Rattle.elf_load.specs.Room.{page_size}

module _ (bytes : List ℕ) where
  pub fault_of_header : (f : ElfFault) → first_fault (header_checks bytes) ≡ Some f → image bytes ≡ Err f
  unfolding image
  fault_of_header f found = ap (λ o. unless o (image_of bytes)) (first_fault_some (header_checks bytes) _ f found)

  module _ (header_sound : first_fault (header_checks bytes) ≡ None) where
    fault_of_program_header : (f : ElfFault) → first_fault (all_program_header_checks bytes [] (program_headers bytes)) ≡ Some f → image bytes ≡ Err f
    unfolding image
    fault_of_program_header f found =
        ap (λ o. unless o (image_of bytes)) (first_fault_none (header_checks bytes) _ header_sound ∙ first_fault_some (all_program_header_checks bytes [] (program_headers bytes)) _ f found)

    pub refusal_of_program_header : (e : LoadError) → IsFound (first_fault (all_program_header_checks bytes [] (program_headers bytes))) e → IsRefusal (image bytes) e
    refusal_of_program_header (Fault f) found = fault_of_program_header f found
    refusal_of_program_header NoMemory found = tt

    module _ (headers_sound : first_fault (all_program_header_checks bytes [] (program_headers bytes)) ≡ None) where
      to_entry : image bytes ≡ unless (first_fault (entry_checks (elf_header bytes).entry (segments (program_headers bytes)))) (image_of bytes)
      unfolding image
      to_entry = ap (λ o. unless o (image_of bytes)) (first_fault_none (header_checks bytes) _ header_sound ∙ first_fault_none (all_program_header_checks bytes [] (program_headers bytes)) _ headers_sound)

      module _ (entry : ℕ) (ss : List ProgramHeader) (entry_is : entry ≡ (elf_header bytes).entry) (ss_are : ss ≡ segments (program_headers bytes)) where
        same_entry : first_fault (entry_checks (elf_header bytes).entry (segments (program_headers bytes))) ≡ first_fault (entry_checks entry ss)
        same_entry = ap (λ e. first_fault (entry_checks e (segments (program_headers bytes)))) (sym entry_is) ∙ ap (λ xs. first_fault (entry_checks entry xs)) (sym ss_are)

        pub fault_of_entry : (f : ElfFault) → first_fault (entry_checks entry ss) ≡ Some f → image bytes ≡ Err f
        fault_of_entry f found = to_entry ∙ ap (λ o. unless o (image_of bytes)) (same_entry ∙ found)

        pub no_fault : first_fault (entry_checks entry ss) ≡ None → image bytes ≡ Ok (image_of bytes)
        no_fault none = to_entry ∙ ap (λ o. unless o (image_of bytes)) (same_entry ∙ none)

-- the pages that a load makes are those of the image
pub made_image : (bytes : List ℕ) (pages : List Page) (numbers : List ℕ) (ss : List ProgramHeader) (entry start count : ℕ)
    → ss ≡ segments (program_headers bytes) → IsListOf numbers (flat_map pages_of ss) → flat_map cells_of_page pages ≡ flat_map (cells_on bytes ss) numbers
    → entry ≡ (elf_header bytes).entry → start ≡ rounded_up (highest_end ss) → count ≡ length numbers
    → image_of bytes ≡ record { cells = cells_of pages; entry = entry; start = start; pages = count }
unfolding cells_of
made_image bytes pages numbers ss entry start count ss_are listed made entry_is start_is count_is =
    let cells : from_entries {R = nat_cmp} (flat_map cells_of_page pages) ≡ cells_of_segments bytes ss =
    ap from_entries made ∙ cells_from_numbers bytes ss numbers listed in
    let size : count ≡ len (touched_pages ss) = count_is ∙ listed.once in
    let there : cells_of_segments bytes ss ≡ cells_of_segments bytes (segments (program_headers bytes)) = ap (cells_of_segments bytes) ss_are in
    let starts : rounded_up (highest_end ss) ≡ rounded_up (highest_end (segments (program_headers bytes))) = ap (λ xs. rounded_up (highest_end xs)) ss_are in
    let touched : len (touched_pages ss) ≡ len (touched_pages (segments (program_headers bytes))) = ap (λ xs. len (touched_pages xs)) ss_are in
    λ i. record { cells = sym (cells ∙ there) i; entry = sym entry_is i; start = sym (start_is ∙ starts) i; pages = sym (size ∙ touched) i }

pub length-numbers : (pages : List Page) (numbers : List ℕ) → map (λ p. p.number) pages ≡ numbers → length pages ≡ length numbers
length-numbers pages numbers same = sym (length-map pages (λ p. p.number)) ∙ ap length same

pub pages_below : (pages : List Page) (numbers : List ℕ) (start : ℕ) → map (λ p. p.number) pages ≡ numbers → All (λ n. page_size * n + page_size ≤ start) numbers → All (λ p. page_size * p.number + page_size ≤ start) pages
pages_below pages numbers start same below = λ k d within.
    let number_is : get_or numbers k d.number ≡ (get_or pages k d).number = ap (λ ns. get_or ns k d.number) (sym same) ∙ get_or-map (λ p. p.number) pages k d d.number within in
    let inside : k < length numbers = omega (arith, length-numbers pages numbers same) in
    omega (arith, below k d.number inside)
