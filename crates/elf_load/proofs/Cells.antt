-- The cells of pages, one page after another.
use Rattle.std.proofs.Common.{◌≡◌, ℕ, suc, ◌+◌, ◌*◌, ◌/◌, ◌<◌, List, [], ◌∷◌, ◌++◌, length, map, take, get_or, refl, sym, ap, ◌∙◌, arith}
use Rattle.std.specs.Prelude.{flat_map}
use Rattle.std.specs.List.{range_with_len}
use Rattle.std.proofs.lemmas.List.{map-append, take_more}
use Rattle.std.proofs.lemmas.List.Concat.{flat_map-append}
use Rattle.elf_load.specs.declared.page.Page.{Page}
use Rattle.elf_load.specs.declared.program_header.ProgramHeader.{ProgramHeader}
use Rattle.elf_load.specs.declared.rights.Rights.{Rights}
use Rattle.elf_load.specs.inside.Build.{IsPageOf}
use Rattle.elf_load.specs.Cells.{Cell, cells_from, cells_of_page}
use Rattle.elf_load.specs.Image.{byte_at, cell_at, cells_on}
use Rattle.elf_load.specs.Pages.{rights_at}
use Rattle.elf_load.specs.Room.{page_size}

module _ (bytes : List ℕ) (ss : List ProgramHeader) where
  abbrev entry : ℕ → ℕ × Cell
  entry address = (address, cell_at bytes ss address)

  same_cell : (b byte : ℕ) (r rights : Rights) → b ≡ byte → r ≡ rights → ◌≡◌ {A = Cell} (record { byte = b; rights = r }) (record { byte = byte; rights = rights })
  same_cell b byte r rights e f = cc

  cells_from_is : (rights : Rights) (at : ℕ) (bs : List ℕ)
      → ((i : ℕ) → i < length bs → get_or bs i 0 ≡ byte_at bytes ss (at + i))
      → ((i : ℕ) → i < length bs → rights ≡ rights_at ss ((at + i) / page_size))
      → cells_from rights at bs ≡ map entry (range_with_len at (length bs))
  cells_from_is rights at [] bytes_are rights_are = refl
  cells_from_is rights at (b ∷ bs) bytes_are rights_are =
      let here : at + 0 ≡ at = omega arith in
      let byte_is : b ≡ byte_at bytes ss at = bytes_are 0 (omega arith) ∙ ap (byte_at bytes ss) here in
      let rights_is : rights ≡ rights_at ss (at / page_size) = rights_are 0 (omega arith) ∙ ap (λ a. rights_at ss (a / page_size)) here in
      let next : (i : ℕ) → at + suc i ≡ (at + 1) + i = λ i. omega arith in
      let first : ◌≡◌ {A = ℕ × Cell} (at, record { byte = b; rights = rights }) (entry at) = ap (λ c. (at, c)) (same_cell b _ rights _ byte_is rights_is) in
      let rest : cells_from rights (at + 1) bs ≡ map entry (range_with_len (at + 1) (length bs)) =
      cells_from_is rights (at + 1) bs
      (λ i within. bytes_are (suc i) (omega arith) ∙ ap (byte_at bytes ss) (next i))
      (λ i within. rights_are (suc i) (omega arith) ∙ ap (λ a. rights_at ss (a / page_size)) (next i)) in
      ap (λ e. e ∷ cells_from rights (at + 1) bs) first ∙ ap (λ es. entry at ∷ es) rest

  pub cells_of_page_is : (number : ℕ) (page : Page) → length page.bytes.items ≡ page_size → IsPageOf bytes ss number page → cells_of_page page ≡ cells_on bytes ss number
  cells_of_page_is number page whole is =
      ap (λ n. cells_from page.rights (page_size * n) page.bytes.items) is.number_is
      ∙ cells_from_is page.rights (page_size * number) page.bytes.items
      (λ i within. is.bytes_are i (omega arith))
      (λ i within. let same : number ≡ (page_size * number + i) / page_size = omega arith in is.rights_are ∙ ap (rights_at ss) same)
      ∙ ap (λ n. map entry (range_with_len (page_size * number) n)) whole

  -- one page more
  pub cells_more : (pages more : List Page) (page : Page) (numbers : List ℕ) (i number : ℕ)
      → more ≡ pages ++ page ∷ [] → i < length numbers → get_or numbers i 0 ≡ number → length page.bytes.items ≡ page_size → IsPageOf bytes ss number page
      → flat_map cells_of_page pages ≡ flat_map (cells_on bytes ss) (take i numbers)
      → flat_map cells_of_page more ≡ flat_map (cells_on bytes ss) (take (i + 1) numbers)
  cells_more pages more page numbers i number pushed within number_is whole is before =
      ap (flat_map cells_of_page) pushed
      ∙ flat_map-append cells_of_page pages (page ∷ [])
      ∙ ap (λ es. es ++ flat_map cells_of_page (page ∷ [])) before
      ∙ ap (λ es. flat_map (cells_on bytes ss) (take i numbers) ++ (es ++ [])) (cells_of_page_is number page whole is)
      ∙ sym (flat_map-append (cells_on bytes ss) (take i numbers) (number ∷ []))
      ∙ ap (λ n. flat_map (cells_on bytes ss) (take i numbers ++ n ∷ [])) (sym number_is)
      ∙ ap (flat_map (cells_on bytes ss)) (sym (take_more numbers i 0 within))

-- the numbers of one page more
pub numbers_more : (pages more : List Page) (page : Page) (numbers : List ℕ) (i : ℕ)
    → more ≡ pages ++ page ∷ [] → i < length numbers → page.number ≡ get_or numbers i 0
    → map (λ p. p.number) pages ≡ take i numbers
    → map (λ p. p.number) more ≡ take (i + 1) numbers
numbers_more pages more page numbers i pushed within number_is before =
    ap (map (λ p. p.number)) pushed
    ∙ map-append (λ p. p.number) pages (page ∷ [])
    ∙ ap (λ ns. ns ++ page.number ∷ []) before
    ∙ ap (λ n. take i numbers ++ n ∷ []) number_is
    ∙ sym (take_more numbers i 0 within)
