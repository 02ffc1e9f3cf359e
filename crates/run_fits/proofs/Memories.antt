-- memories of bytes stay so where bytes are written, and give bytes
use Rattle.std.specs.Cmp.{nat_cmp_total}
use Rattle.std.specs.Ordering.{eq_by_cmp}
use Rattle.elf_load.specs.Cells.{Cell, Cells}
use Rattle.guest_mem.specs.declared.right.Right.TheVariants.{Read, Write}
use Rattle.std.proofs.Common.{Bool, IfSome, List, None, Option, Some, [], ap, arith, cond, false, is_some, length, nat_cmp, refl, replicate, subst, suc, sym, take, true, unwrap_or, w16, w32, zero, ℕ, ◌*◌, ◌++◌, ◌+◌, ◌-◌, ◌<◌, ◌^◌, ◌∙◌, ◌∷◌, ◌≡◌}
use Rattle.std.specs.Int.{to_be_bytes, to_le_bytes}
use Rattle.std.specs.List.{AllByRecursion}
use Rattle.elf_load.specs.ProgramImage.{ProgramImage}
use Rattle.elf_load.specs.Room.{page_size}
use Rattle.guest_args.specs.Address.{address_size, address_span, inet, sockaddr, answered}
use Rattle.guest_args.specs.Span.{span, filled}
use Rattle.guest_args.specs.declared.address.AddressPlace.{AddressPlace}
use Rattle.guest_mem.specs.Break.{may_break, pages_end, with_zeros, zero_cell, grown}
use Rattle.guest_mem.specs.Memory.{Memory, byte_for, bytes_for, low_bytes, permits, permitted, put, put_all, store, with_byte, read, with_first, write}
use Rattle.guest_mem.specs.Opening.{stack_base, stack_pages, opening}
use Rattle.guest_mem.specs.declared.right.Right.{Right}
use Rattle.pcap_text.specs.Laws.{IsByte}
use Rattle.run_fits.proofs.Bytes.{MayBeBytes, all_append, all_take, be_are, le_are, low_are}
use Rattle.run_fits.specs.Bytes.{AreBytes, CellsHaveBytes, HasBytes}
use Rattle.sim_base.specs.declared.address.Addr.{Addr}
use Rattle.tcp_laws.proofs.Tests.{by_test}
use Rattle.std.specs.FinMap as map

-- ---- cells

by_cond : (here : Bool) (c cell : Cell) (other : Option Cell) → IsByte c.byte → (other ≡ Some cell → IsByte cell.byte) → cond here (Some c) other ≡ Some cell → IsByte cell.byte
by_cond true c cell other small rest is = let same : c ≡ cell = cc in subst (λ (x : Cell). IsByte x.byte) same small
by_cond false c cell other small rest is = rest is

inserted : (cells : Cells) (a : ℕ) (c : Cell) → IsByte c.byte → CellsHaveBytes cells → CellsHaveBytes (map.insert cells a c)
inserted cells a c small h q cell is =
    by_cond (eq_by_cmp nat_cmp q a) c cell (map.get cells q) small (λ e. h q cell e) (sym (map.get-insert nat_cmp_total cells a c q) ∙ is)

by_kept : (kept : Bool) (cell : Cell) (here : Option Cell) → (here ≡ Some cell → IsByte cell.byte) → cond kept here None ≡ Some cell → IsByte cell.byte
by_kept true cell here rest is = rest is
by_kept false cell here rest is = absurd (cc)

retained : (cells : Cells) (p : ℕ → Bool) → CellsHaveBytes cells → CellsHaveBytes (map.retain_keys cells p)
retained cells p h q cell is =
    by_kept (p q) cell (map.get cells q) (λ e. h q cell e)
    (sym (map.get-retain_keys cells p q (λ x e. ap p (sym (map.nat_cmp-IsAntisymmetric q x e)))) ∙ is)

nowhere : (cell : Cell) → None ≡ Some cell → IsByte cell.byte
nowhere cell e = cc

-- cells by a list
pub listed : (entries : List (ℕ × Cell)) → AllByRecursion (λ (e : ℕ × Cell). IsByte e.1.byte) entries → CellsHaveBytes (map.from_entries entries)
listed [] h = λ q cell is. nowhere cell (sym (map.get-empty {X = Cell} nat_cmp q) ∙ is)
listed (e ∷ entries) h = inserted (map.from_entries entries) e.0 e.1 h.0 (listed entries h.1)

put_in : (cells : Cells) (a byte : ℕ) (here : Option Cell) → IsByte byte → CellsHaveBytes cells → CellsHaveBytes (with_byte cells a byte here)
put_in cells a byte None small h = h
put_in cells a byte (Some cell) small h = inserted cells a (record cell { byte = byte }) small h

pub put_all_in : (cells : Cells) (a : ℕ) (bytes : List ℕ) → AreBytes bytes → CellsHaveBytes cells → CellsHaveBytes (put_all cells a bytes)
put_all_in cells a [] are h = h
put_all_in cells a (byte ∷ bytes) are h =
    put_all_in (put cells a byte) (a + 1) bytes are.1 (put_in cells a byte (map.get cells a) are.0 h)

-- ---- writes

abbrev pub MayHaveBytes : Option Memory → Type 0
MayHaveBytes left = IfSome left HasBytes

pub written : (memory : Memory) (a : ℕ) (bytes : List ℕ) → AreBytes bytes → HasBytes memory → MayHaveBytes (write memory a bytes)
written memory a bytes are h =
    by_test MayHaveBytes (is_some (read Write (length bytes) memory a)) _ _ (λ e. put_all_in memory.cells a bytes are h) (λ e. tt)

pub stored_low : (k : ℕ) (memory : Memory) (a n : ℕ) → HasBytes memory → MayHaveBytes (store k memory a n)
stored_low k memory a n h = written memory a (low_bytes k n) (low_are k n) h

or_left : (left : Option Memory) (memory : Memory) → MayHaveBytes left → HasBytes memory → HasBytes (unwrap_or left memory)
or_left None memory may h = h
or_left (Some left) memory may h = may

pub filled_in : (a : ℕ) (bytes : List ℕ) (memory : Memory) → AreBytes bytes → HasBytes memory → HasBytes (filled a bytes memory)
filled_in a bytes memory are h = or_left (write memory a bytes) memory (written memory a bytes are h) h

sockaddr_are : (at : Addr) → AreBytes (sockaddr at)
sockaddr_are at =
    all_append IsByte (to_le_bytes w16 inet) (to_be_bytes w16 at.port ++ (to_be_bytes w32 at.ip.bits ++ replicate 8 0)) (le_are w16 inet)
    (all_append IsByte (to_be_bytes w16 at.port) (to_be_bytes w32 at.ip.bits ++ replicate 8 0) (be_are w16 at.port)
    (all_append IsByte (to_be_bytes w32 at.ip.bits) (replicate 8 0) (be_are w32 at.ip.bits) zeros))
  where
    none : 0 < 2 ^ 8
    none = omega arith

    zeros : AreBytes (replicate 8 0)
    zeros = (none, (none, (none, (none, (none, (none, (none, (none, tt))))))))

pub answered_in : (place : Option AddressPlace) (at : Addr) (memory : Memory) → HasBytes memory → HasBytes (answered place at memory)
answered_in None at memory h = h
answered_in (Some place) at memory h =
    let bytes = take (address_span place.length) (sockaddr at) in
    filled_in place.length_at (to_le_bytes w32 address_size) (filled place.at bytes memory) (le_are w32 address_size)
    (filled_in place.at bytes memory (all_take IsByte (address_span place.length) (sockaddr at) (sockaddr_are at)) h)

-- ---- brk(2)

zeros_in : (cells : Cells) (from n : ℕ) → CellsHaveBytes cells → CellsHaveBytes (with_zeros cells from n)
unfolding with_zeros
zeros_in cells from zero h = h
zeros_in cells from (suc n) h = inserted (with_zeros cells from n) (from + n) zero_cell (omega arith) (zeros_in cells from n h)

pub grown_in : (memory : Memory) (to : ℕ) → HasBytes memory → HasBytes (grown memory to)
grown_in memory to h =
    by_test HasBytes (may_break memory to) _ _
    (λ e. zeros_in _ (pages_end memory.break) (pages_end to - pages_end memory.break) (retained memory.cells _ h))
    (λ e. h)

-- ---- a start

pub opened_in : (image : ProgramImage) → CellsHaveBytes image.cells → HasBytes (opening image)
unfolding opening
opened_in image h = zeros_in image.cells stack_base (page_size * stack_pages) h

-- ---- reads

abbrev MayBeByte : Option ℕ → Type 0
MayBeByte found = IfSome found IsByte

permitted_small : (right : Right) (here : Option Cell) → ((cell : Cell) → here ≡ Some cell → IsByte cell.byte) → MayBeByte (permitted right here)
permitted_small right None h = tt
permitted_small right (Some cell) h = by_test MayBeByte (permits right cell.rights) _ _ (λ e. h cell refl) (λ e. tt)

with_first_are : (first : Option ℕ) (rest : Option (List ℕ)) → MayBeByte first → MayBeBytes rest → MayBeBytes (with_first first rest)
with_first_are None rest h k = tt
with_first_are (Some byte) None h k = tt
with_first_are (Some byte) (Some bytes) h k = (h, k)

bytes_are : (right : Right) (k : ℕ) (cells : Cells) (a : ℕ) → CellsHaveBytes cells → MayBeBytes (bytes_for right k cells a)
bytes_are right zero cells a h = tt
bytes_are right (suc k) cells a h =
    with_first_are (byte_for right cells a) (bytes_for right k cells (a + 1)) (permitted_small right (map.get cells a) (λ cell e. h a cell e)) (bytes_are right k cells (a + 1) h)

pub span_are : (size at : ℕ) (memory : Memory) → HasBytes memory → MayBeBytes (span size at memory)
span_are size at memory h = bytes_are Read size memory.cells at h
