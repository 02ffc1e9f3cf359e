-- Stores, and pages that may not be written.
use Rattle.std.proofs.Common.{◌≡◌, ℕ, ◌+◌, ◌-◌, ◌*◌, inl, inr, Bool, true, false, List, length, Some, None, refl, sym, ap, subst, ◌∙◌, arith, is_some}
use Rattle.std.specs.Prelude.{if◌then◌else◌}
use Rattle.std.proofs.lemmas.Bool.{cases_lt}
use Rattle.elf_load.specs.Cells.{Cells}
use Rattle.elf_load.specs.Room.{page_size}
use Rattle.guest_mem.specs.declared.right.Right.{Right}
use Rattle.guest_mem.specs.declared.right.Right.TheVariants.{Execute, Write}
use Rattle.guest_mem.specs.Memory.{Memory, IsCode, permitted, byte_for, bytes_for, low_bytes, put_all, store, write}
use Rattle.guest_mem.proofs.CellLemmas.{bytes_for_none, get_put_all_out}

-- an address that may not be written keeps its cell
kept : (right : Right) (cells : Cells) (a : ℕ) (bytes : List ℕ) (q : ℕ) → is_some (bytes_for Write (length bytes) cells a) ≡ true → byte_for Write cells q ≡ None
    → byte_for right (put_all cells a bytes) q ≡ byte_for right cells q
kept right cells a bytes q may none = elim (cases_lt q a) [
  | inl below ↦ ap (permitted right) (get_put_all_out cells a bytes q (inl below))
  | inr above ↦ elim (cases_lt q (a + length bytes)) [
    | inl within ↦
        let at : a + (q - a) ≡ q = omega arith in
        let nothing : bytes_for Write (length bytes) cells a ≡ None =
        bytes_for_none Write cells (length bytes) a (q - a) (omega arith) (subst (λ (x : ℕ). byte_for Write cells x ≡ None) (sym at) none) in
        let never : false ≡ true = ap is_some (sym nothing) ∙ may in
        absurd (cc)
    | inr past ↦ ap (permitted right) (get_put_all_out cells a bytes q (inr past))
  ]
]

-- what was written, and that it may be
written : (old new : Memory) (a : ℕ) (bytes : List ℕ) → write old a bytes ≡ Some new → (is_some (bytes_for Write (length bytes) old.cells a) ≡ true) × (new.cells ≡ put_all old.cells a bytes)
written old new a bytes is = go (is_some (bytes_for Write (length bytes) old.cells a)) refl is where
  go : (b : Bool) → is_some (bytes_for Write (length bytes) old.cells a) ≡ b → (if b then Some (record old { cells = put_all old.cells a bytes }) else None) ≡ Some new
      → (is_some (bytes_for Write (length bytes) old.cells a) ≡ true) × (new.cells ≡ put_all old.cells a bytes)
  go true may e = let same : record old { cells = put_all old.cells a bytes } ≡ new = cc in (may, sym (ap (λ (m : Memory). m.cells) same))
  go false may e = absurd (cc)

byte_kept : (right : Right) (old new : Memory) (k a n q : ℕ) → store k old a n ≡ Some new → byte_for Write old.cells q ≡ None → byte_for right new.cells q ≡ byte_for right old.cells q
byte_kept right old new k a n q is none =
    let w = written old new a (low_bytes k n) is in
    ap (λ (cells : Cells). byte_for right cells q) w.1 ∙ kept right old.cells a (low_bytes k n) q w.0 none

pub code_kept : (old new : Memory) (k a n number : ℕ) (bytes : List ℕ) → store k old a n ≡ Some new → IsCode old.cells number bytes → IsCode new.cells number bytes
code_kept old new k a n number bytes is code = record {
  page = record {
    long = code.page.long;
    each = λ o l. byte_kept Execute old new k a n (page_size * number + o) is (code.fixed o l) ∙ code.page.each o l;
  };
  fixed = λ o l. byte_kept Write old new k a n (page_size * number + o) is (code.fixed o l) ∙ code.fixed o l;
}
