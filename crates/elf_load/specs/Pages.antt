-- Segments, and the pages of memory that they touch.
use Rattle.std.specs.Prelude.{ℕ, ◌+◌, ◌-◌, ◌*◌, ◌/◌, Bool, ◌&&◌, not, max, List, if◌then◌else◌, ◌==◌, nat_lt, nat_le, bit_and, filter, fold, flat_map}
use Rattle.std.specs.Ordering.{nat_cmp}
use Rattle.std.specs.List.{range_with_len}
use Rattle.std.specs.FinSet.{FinSet, from_list}
use Rattle.elf_load.specs.declared.rights.Rights.{Rights}
use Rattle.elf_load.specs.declared.program_header.ProgramHeader.{ProgramHeader}
use Rattle.elf_load.specs.Rights.{no_rights, union}
use Rattle.elf_load.specs.Room.{page_size}
use Rattle.elf_load.specs.Standard.{pt_load, pf_x, pf_w, pf_r}

-- a segment is what a header of type PT_LOAD asks for, if it takes memory
abbrev pub is_segment : ProgramHeader → Bool
is_segment h = (h.kind == pt_load) && nat_lt 0 h.memory_size

abbrev pub segments : List ProgramHeader → List ProgramHeader
segments headers = filter is_segment headers

-- the address behind the last byte of a segment
abbrev pub end_of : ProgramHeader → ℕ
end_of s = s.address + s.memory_size

abbrev pub share_a_byte : ProgramHeader → ProgramHeader → Bool
share_a_byte s t = nat_lt s.address (end_of t) && nat_lt t.address (end_of s)

-- the first and the last page that a segment touches
abbrev pub first_page : ProgramHeader → ℕ
first_page s = s.address / page_size

abbrev pub last_page : ProgramHeader → ℕ
last_page s = (end_of s - 1) / page_size

abbrev pub touches : ProgramHeader → ℕ → Bool
touches s page = nat_le (first_page s) page && nat_le page (last_page s)

abbrev pub pages_of : ProgramHeader → List ℕ
pages_of s = range_with_len (first_page s) (last_page s + 1 - first_page s)

-- the pages that segments touch
abbrev pub touched_pages : List ProgramHeader → FinSet nat_cmp
touched_pages ss = from_list (flat_map pages_of ss)

-- the rights that a segment asks for by its flags
abbrev pub rights_of : ProgramHeader → Rights
rights_of s = record {
  read = not (bit_and s.flags pf_r == 0);
  write = not (bit_and s.flags pf_w == 0);
  execute = not (bit_and s.flags pf_x == 0);
}

-- the rights to a page: those of each segment that touches it
abbrev pub rights_at : List ProgramHeader → ℕ → Rights
rights_at ss page = fold (λ rights s. if touches s page then union rights (rights_of s) else rights) no_rights ss

-- the address behind the last byte of all segments
abbrev pub highest_end : List ProgramHeader → ℕ
highest_end ss = fold (λ high s. max high (end_of s)) 0 ss

-- the first address of a page that is not below another address
abbrev pub rounded_up : ℕ → ℕ
rounded_up address = (address + (page_size - 1)) / page_size * page_size
