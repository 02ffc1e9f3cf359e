-- The memory of a guest: what stands at each mapped address, and what a load, a store and a copy make of it.
use Rattle.std.specs.Prelude.{◌≡◌, ◌<◌, slice_index, ℕ, zero, suc, ◌+◌, ◌*◌, ◌/◌, ◌%◌, Bool, List, [], ◌∷◌, length, is_some, if◌then◌else◌, Option, Some, None, refl}
use Rattle.std.specs.Option.{option_map}
use Rattle.std.specs.FinMap as map
use Rattle.std.specs.Coded.{Coded, code_by, coded×, coded_ℕ}
use Rattle.elf_load.specs.Cells.{Cell, Cells}
use Rattle.elf_load.specs.ProgramImage.{cell_code}
use Rattle.elf_load.specs.declared.rights.Rights.{Rights}
use Rattle.elf_load.specs.Room.{page_size}
use Rattle.guest_mem.specs.declared.right.Right.{Right}
use Rattle.guest_mem.specs.declared.right.Right.TheVariants.{Read, Write, Execute}

-- the cells by address, where an address without a cell isn't mapped; where the heap begins, the break, and how many pages are mapped
pub record Memory : Type 0 where
  pub cells : Cells
  pub start : ℕ
  pub break : ℕ
  pub pages : ℕ

-- whether this right is among the rights
abbrev pub permits : Right → Rights → Bool
permits Read rights = rights.read
permits Write rights = rights.write
permits Execute rights = rights.execute

-- the byte of a cell, where the cell has the right
abbrev pub permitted : Right → Option Cell → Option ℕ
permitted right None = None
permitted right (Some cell) = if permits right cell.rights then Some cell.byte else None

-- the byte at an address that is mapped with the right
abbrev pub byte_for : Right → Cells → ℕ → Option ℕ
byte_for right cells a = permitted right (map.get cells a)

-- a byte before others, where all are there
abbrev pub with_first : Option ℕ → Option (List ℕ) → Option (List ℕ)
with_first (Some byte) (Some bytes) = Some (byte ∷ bytes)
with_first (Some byte) None = None
with_first None bytes = None

-- the bytes at the k addresses from a on, where each is mapped with the right
abbrev pub bytes_for : Right → ℕ → Cells → ℕ → Option (List ℕ)
bytes_for right zero cells a = Some []
bytes_for right (suc k) cells a = with_first (byte_for right cells a) (bytes_for right k cells (a + 1))

abbrev pub read : Right → ℕ → Memory → ℕ → Option (List ℕ)
read right k m a = bytes_for right k m.cells a

-- the number that little-endian bytes stand for
abbrev pub number : List ℕ → ℕ
number [] = 0
number (byte ∷ bytes) = byte + 256 * number bytes

-- the number in the k bytes at a, where each is mapped with the right
abbrev pub load : Right → ℕ → Memory → ℕ → Option ℕ
load right k m a = option_map number (read right k m a)

-- the bytes of the page with this number, where each of its addresses is mapped with the right
pub record IsPage (right : Right) (cells : Cells) (number : ℕ) (bytes : List ℕ) : Type 0 where
  pub long : length bytes ≡ page_size
  pub each : (o : ℕ) → o < page_size → byte_for right cells (page_size * number + o) ≡ Some (slice_index bytes o)

-- the same of a page of code: each of its addresses may be executed, and none written
pub record IsCode (cells : Cells) (number : ℕ) (bytes : List ℕ) : Type 0 where
  pub page : IsPage Execute cells number bytes
  pub fixed : (o : ℕ) → o < page_size → byte_for Write cells (page_size * number + o) ≡ None

-- the cells with another byte in one of them, whose rights stay
abbrev pub with_byte : Cells → ℕ → ℕ → Option Cell → Cells
with_byte cells a byte None = cells
with_byte cells a byte (Some cell) = map.insert cells a (record cell { byte = byte })

abbrev pub put : Cells → ℕ → ℕ → Cells
put cells a byte = with_byte cells a byte (map.get cells a)

-- the same with bytes from a on
abbrev pub put_all : Cells → ℕ → List ℕ → Cells
put_all cells a [] = cells
put_all cells a (byte ∷ bytes) = put_all (put cells a byte) (a + 1) bytes

-- the memory with these bytes from a on, where each address is mapped with the right to write
abbrev pub write : Memory → ℕ → List ℕ → Option Memory
write m a bytes = if is_some (read Write (length bytes) m a) then Some (record m { cells = put_all m.cells a bytes }) else None

-- the k low bytes of a number, the lowest first
abbrev pub low_bytes : ℕ → ℕ → List ℕ
low_bytes zero n = []
low_bytes (suc k) n = n % 256 ∷ low_bytes k (n / 256)

-- the memory with the k low bytes of n at a, where each address is mapped with the right to write
abbrev pub store : ℕ → Memory → ℕ → ℕ → Option Memory
store k m a n = write m a (low_bytes k n)

-- how such a value is stored, part by part
abbrev pub memory_code : Coded Memory
memory_code =
    code_by
    (Cells × (ℕ × (ℕ × ℕ)))
    (coded× (map.code coded_ℕ cell_code) (coded× coded_ℕ (coded× coded_ℕ coded_ℕ)))
    (λ m. (m.cells, (m.start, (m.break, m.pages))))
    (λ t. record { cells = t.0; start = t.1.0; break = t.1.1.0; pages = t.1.1.1 })
    (λ _. refl)
