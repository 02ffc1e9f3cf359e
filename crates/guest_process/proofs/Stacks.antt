-- The stack may be written from the start on.
use Rattle.std.proofs.Common.{◌≡◌, ℕ, zero, suc, ◌+◌, ◌-◌, ◌*◌, ◌<◌, ◌≤◌, ◌⊎◌, inl, inr, ⊎_elim, Bool, true, List, length, get_or, Option, Some, None, refl, sym, ◌∙◌, ap, subst, arith, is_some}
use Rattle.std.specs.Prelude.{if◌then◌else◌}
use Rattle.std.proofs.lemmas.Bool.{cases_lt}
use Rattle.std.specs.FinMap as map
use Rattle.elf_load.specs.Cells.{Cell}
use Rattle.elf_load.specs.ProgramImage.{ProgramImage}
use Rattle.guest_mem.specs.Memory.{Memory, read, write, put_all, with_first, permitted}
use Rattle.guest_mem.specs.Break.{zero_cell}
use Rattle.guest_mem.specs.Opening.{opening, stack_base, stack_pages}
use Rattle.guest_mem.specs.declared.right.Right.TheVariants.{Write}
use Rattle.guest_mem.proofs.CellLemmas.{get_put_all_in, get_put_all_out}
use Rattle.guest_mem.proofs.HeapLemmas.{get_with_zeros_in}
use Rattle.guest_process.specs.Start.{filled}
use Rattle.guest_process.specs.Stack.{IsWritable}

in_or_out : (q at n : ℕ) → ((q < at) ⊎ (at + n ≤ q)) ⊎ ((at ≤ q) × (q < at + n))
in_or_out q at n =
    ⊎_elim (λ (l : q < at). inl (inl l)) (λ (l : at ≤ q). ⊎_elim (λ (k : q < at + n). inr (l, k)) (λ (k : at + n ≤ q). inl (inr k)) (cases_lt q (at + n))) (cases_lt q at)

-- a byte that may be written, before others that may
begins : (found : Option Cell) (cell : Cell) (rest : Option (List ℕ)) → found ≡ Some cell → cell.rights.write ≡ true → is_some rest ≡ true
    → is_some (with_first (permitted Write found) rest) ≡ true
begins None cell rest is may more = absurd (cc)
begins (Some found) cell None is may more = absurd (cc)
begins (Some found) cell (Some bytes) is may more =
    let same : found.rights.write ≡ true = ap (λ (c : Cell). c.rights.write) (let e : found ≡ cell = cc in e) ∙ may in
    ap (λ (b : Bool). is_some (with_first (if b then Some found.byte else None) (Some bytes))) same

pub IsWritable_opening : (image : ProgramImage) → IsWritable (opening image) stack_base 0xC0000000
unfolding opening
IsWritable_opening image q low high = (zero_cell, get_with_zeros_in image.cells stack_base (4096 * stack_pages) q low (omega arith), refl)

pub IsWritable_filled : (m : Memory) (from to at : ℕ) (bytes : List ℕ) → IsWritable m from to → IsWritable (filled m at bytes) from to
IsWritable_filled m from to at bytes h q low high =
    let (cell, is, may) = h q low high in
    ⊎_elim
    (λ (out : (q < at) ⊎ (at + length bytes ≤ q)). (cell, get_put_all_out m.cells at bytes q out ∙ is, may))
    (λ (within : (at ≤ q) × (q < at + length bytes)).
    let there : at + (q - at) ≡ q = omega arith in
    let was : map.get m.cells (at + (q - at)) ≡ Some cell = subst (λ (x : ℕ). map.get m.cells x ≡ Some cell) (sym there) is in (
      record cell { byte = get_or bytes (q - at) 0 },
      subst (λ (x : ℕ). map.get (put_all m.cells at bytes) x ≡ Some (record cell { byte = get_or bytes (q - at) 0 })) there
          (get_put_all_in m.cells at bytes (q - at) cell (omega arith) was),
      may,
    ))
    (in_or_out q at (length bytes))

pub read_writable : (m : Memory) (from to : ℕ) → IsWritable m from to → (n at : ℕ) → from ≤ at → at + n ≤ to → is_some (read Write n m at) ≡ true
read_writable m from to h zero at low high = refl
read_writable m from to h (suc n) at low high =
    let (cell, is, may) = h at low (omega arith) in
    let rest : is_some (read Write n m (at + 1)) ≡ true = read_writable m from to h n (at + 1) (omega arith) (omega arith) in
    begins (map.get m.cells at) cell (read Write n m (at + 1)) is may rest

-- what a write to the stack leaves
pub write_filled : (m n : Memory) (at : ℕ) (bytes : List ℕ) → is_some (read Write (length bytes) m at) ≡ true → write m at bytes ≡ Some n → n ≡ filled m at bytes
write_filled m n at bytes may is =
    let done : write m at bytes ≡ Some (filled m at bytes) = ap (λ (b : Bool). if b then Some (filled m at bytes) else None) may in
    let e : Some n ≡ Some (filled m at bytes) = sym is ∙ done in
    cc
