-- Worked values of the definitions.
use Rattle.std.specs.Prelude.{◌≡◌, ℕ, ◌+◌, ◌*◌, true, false, [], ◌∷◌, refl}
use Rattle.std.specs.FinMap as map
use Rattle.guest_mem.specs.Memory.{Memory, number, low_bytes}
use Rattle.guest_mem.specs.Break.{pages_end, pages_with, may_break}

-- numbers stand low byte first
number_of_four : number (0x21 ∷ 0x43 ∷ 0x65 ∷ 0x87 ∷ []) ≡ 0x87654321
number_of_four = refl

four_bytes : low_bytes 4 0x87654321 ≡ 0x21 ∷ 0x43 ∷ 0x65 ∷ 0x87 ∷ []
four_bytes = refl

two_bytes_of_more : low_bytes 2 0x87654321 ≡ 0x21 ∷ 0x43 ∷ []
two_bytes_of_more = refl

-- pages below an address
at_a_page : pages_end 0x12000 ≡ 0x12000
at_a_page = refl

past_a_page : pages_end 0x12001 ≡ 0x13000
past_a_page = refl

-- a break that stands where the heap of a guest with 258 pages begins
abbrev begun : ℕ → Memory
begun start = record { cells = map.empty; start = start; break = start; pages = 258 }

below_the_start : may_break (begun 0x12000) 0 ≡ false
below_the_start = refl

just_below_the_start : may_break (begun 0x12000) 0x11FFF ≡ false
just_below_the_start = refl

one_page : may_break (begun 0x12000) 0x12001 ≡ true
one_page = refl

one_page_more : pages_with (begun 0x12000) 0x12001 ≡ 259
one_page_more = refl

past_the_heap : may_break (begun 0x12000) 0xFFFFFFFF ≡ false
past_the_heap = refl

all_pages : may_break (begun 0x12000) (0x12000 + 4096 * 3838) ≡ true
all_pages = refl

a_page_too_many : may_break (begun 0x12000) (0x12000 + 4096 * 3838 + 1) ≡ false
a_page_too_many = refl

to_the_limit : may_break (begun 0xBEFFF000) 0xBF000000 ≡ true
to_the_limit = refl

past_the_limit : may_break (begun 0xBEFFF000) 0xBF000001 ≡ false
past_the_limit = refl
