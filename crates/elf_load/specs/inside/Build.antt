-- What stands while the pages of an image are made.
use Rattle.std.specs.Prelude.{◌≡◌, ℕ, ◌+◌, ◌*◌, ◌<◌, List, slice_index}
use Rattle.elf_load.specs.declared.page.Page.{Page}
use Rattle.elf_load.specs.declared.program_header.ProgramHeader.{ProgramHeader}
use Rattle.elf_load.specs.Image.{byte_at}
use Rattle.elf_load.specs.Pages.{rights_at}
use Rattle.elf_load.specs.Room.{page_size}

-- the page with this number of a file's image
pub record IsPageOf (bytes : List ℕ) (ss : List ProgramHeader) (number : ℕ) (page : Page) : Type 0 where
  pub number_is : page.number ≡ number
  pub rights_are : page.rights ≡ rights_at ss number
  pub bytes_are : (offset : ℕ) → offset < page_size → slice_index page.bytes.items offset ≡ byte_at bytes ss (page_size * number + offset)
