-- What a process starts with (System V ABI: the process stack).
use Rattle.std.specs.Prelude.{◌≡◌, ℕ, ◌+◌, ◌-◌, ◌*◌, ◌/◌, Bool, nat_le, List, [], ◌∷◌, ◌++◌, length, replicate, slice_set, flat_map, None}
use Rattle.sim_base.specs.Limits.{most_text_bytes}
use Rattle.elf_load.specs.ProgramImage.{ProgramImage}
use Rattle.elf_load.specs.Room.{page_size}
use Rattle.guest_mem.specs.Memory.{Memory, low_bytes, put_all}
use Rattle.guest_mem.specs.Opening.{stack_end, opening}
use Rattle.rv32_machine.specs.Table.{register_count}
use Rattle.rv32_machine.specs.Word.{word_size}
use Rattle.rv32_machine.specs.declared.cpu.Cpu.{Cpu}
use Rattle.guest_process.specs.Registers.{sp}

-- the texts one after another, each with a zero byte
abbrev pub texts_bytes : List (List ℕ) → List ℕ
texts_bytes texts = flat_map (λ text. text ++ 0 ∷ []) texts

-- where each text begins, the first of them at the address
abbrev pub pointers : ℕ → List (List ℕ) → List ℕ
pointers at [] = []
pointers at (text ∷ texts) = at ∷ pointers (at + (length text + 1)) texts

-- the stack pointer is a multiple of so many bytes (RISC-V ELF psABI, "Integer Calling Convention")
abbrev pub stack_alignment : ℕ
stack_alignment = 16

abbrev pub rounded_down : ℕ → ℕ
rounded_down address = address / stack_alignment * stack_alignment

-- the texts of arguments and environment end below the stack's end
abbrev pub texts_at : List (List ℕ) → ℕ
texts_at texts = rounded_down (stack_end - length (texts_bytes texts))

-- the auxiliary vector (elf.h): the size of a page (AT_PAGESZ), and its end (AT_NULL)
abbrev pub at_pagesz : ℕ
at_pagesz = 6

abbrev pub at_null : ℕ
at_null = 0

abbrev pub auxiliary_vector : List ℕ
auxiliary_vector = at_pagesz ∷ page_size ∷ at_null ∷ 0 ∷ []

-- with texts from an address on: argc, the pointers to the arguments, 0, those to the environment, 0, and the auxiliary vector
abbrev pub words_at : ℕ → List (List ℕ) → List (List ℕ) → List ℕ
words_at at arguments environment =
    length arguments ∷ (pointers at arguments ++ (0 ∷ (pointers (at + length (texts_bytes arguments)) environment ++ (0 ∷ auxiliary_vector))))

-- how many words that are beside the pointers
abbrev pub fixed_words : ℕ
fixed_words = 7

abbrev pub start_words : List (List ℕ) → List (List ℕ) → List ℕ
start_words arguments environment = words_at (texts_at (arguments ++ environment)) arguments environment

-- the words stand below the texts, the first of them at the stack pointer
abbrev pub stack_pointer : List (List ℕ) → List (List ℕ) → ℕ
stack_pointer arguments environment = rounded_down (texts_at (arguments ++ environment) - word_size * length (start_words arguments environment))

abbrev pub word_bytes : List ℕ → List ℕ
word_bytes words = flat_map (low_bytes word_size) words

abbrev pub texts_fit : List (List ℕ) → List (List ℕ) → Bool
texts_fit arguments environment = nat_le (length (texts_bytes (arguments ++ environment))) most_text_bytes

-- the memory with these bytes from an address on
abbrev pub filled : Memory → ℕ → List ℕ → Memory
filled m at bytes = record m { cells = put_all m.cells at bytes }

-- pc is the entry, all registers are 0 but the stack pointer, and no address is reserved
abbrev pub start_cpu : ProgramImage → List (List ℕ) → List (List ℕ) → Cpu
start_cpu image arguments environment = record { pc = image.entry; x = slice_set (replicate register_count 0) sp (stack_pointer arguments environment); reservation = None }

-- the image, and the stack with texts and words
unfoldable pub start_memory : ProgramImage → List (List ℕ) → List (List ℕ) → Memory
start_memory image arguments environment =
    filled
    (filled (opening image) (texts_at (arguments ++ environment)) (texts_bytes (arguments ++ environment)))
    (stack_pointer arguments environment) (word_bytes (start_words arguments environment))

-- these registers and this memory are those of a process at its start
pub record IsStarted (image : ProgramImage) (arguments environment : List (List ℕ)) (c : Cpu) (m : Memory) : Type 0 where
  pub cpu : c ≡ start_cpu image arguments environment
  pub memory : m ≡ start_memory image arguments environment
