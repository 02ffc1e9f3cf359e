-- The first fault of the checks of a program header.
use Rattle.std.proofs.Common.{◌≡◌, ◌≢◌, ℕ, ◌+◌, ◌*◌, get_or, vec_len, ◌<◌, ◌≤◌, Bool, true, false, ◌&&◌, ◌||◌, List, [], ◌∷◌, ◌++◌, length, take, drop, Option, Some, None, refl, sym, ap, ◌∙◌, subst, arith, inl, inr}
use Rattle.std.specs.Prelude.{◌==◌, nat_lt, if◌then◌else◌, flat_map}
use Rattle.std.specs.List.{list_any}
use Rattle.std.specs.FinSet.{len}
use Rattle.std.proofs.lemmas.Bool.{le-ltb}
use Rattle.std.proofs.lemmas.Bool.Decides.{eqb_tells}
use Rattle.std.proofs.lemmas.List.{append-nil, take_more, drop_more, take_all, drop_all}
use Rattle.std.proofs.lemmas.List.Concat.{flat_map-append}
use Rattle.std.proofs.lemmas.List.Elements.{All-nil, filter-append}
use Rattle.std.proofs.lemmas.List.FromFn.{length-map-range_with_len, get_or-map-range_with_len}
use Rattle.elf_load.specs.declared.fault.ElfFault.{ElfFault}
use Rattle.elf_load.specs.declared.fault.ElfFault.TheVariants.{Truncated, Range, Interp, Dynamic, Overlap}
use Rattle.elf_load.specs.declared.fault.LoadError.{LoadError}
use Rattle.elf_load.specs.declared.fault.LoadError.TheVariants.{Fault, NoMemory}
use Rattle.elf_load.specs.declared.layout.Layout.{Layout}
use Rattle.elf_load.specs.declared.program_header.ProgramHeader.{ProgramHeader}
use Rattle.elf_load.specs.Elf.{elf_header, program_header, program_headers}
use Rattle.elf_load.specs.Image.{Check, program_header_checks, all_program_header_checks, first_fault}
use Rattle.elf_load.specs.inside.Layout.{IsFound, IsListOf, IsPlaced, IsSound}
use Rattle.elf_load.specs.Pages.{is_segment, segments, end_of, share_a_byte, pages_of, touched_pages}
use Rattle.elf_load.proofs.Numbers.{set_of, set_of_append, IsListOf_none, IsListOf_append}
use Rattle.elf_load.specs.Room.{page_size, room_end, max_program_pages}
use Rattle.elf_load.specs.Standard.{program_header_size}

-- of the checks of a segment, those of its pages and of its bytes alone are open
open_checks : (m o : Bool)
    → first_fault ((false, Interp) ∷ (false, Dynamic) ∷ (true && false, Truncated) ∷ (true && (false || false || false || m), Range) ∷ (true && o, Overlap) ∷ [])
    ≡ (if m then Some Range else (if o then Some Overlap else None))
open_checks true o = refl
open_checks false true = refl
open_checks false false = refl

-- a segment that passes the checks of its own
pub record Passes (bytes : List ℕ) (h : ProgramHeader) : Type 0 where
  pub no_interpreter : h.kind ≢ 3
  pub no_dynamic : h.kind ≢ 2
  pub segment : is_segment h ≡ true
  pub in_file : h.offset + h.file_size ≤ length bytes
  pub sizes : h.file_size ≤ h.memory_size
  pub low : page_size ≤ h.address
  pub high : end_of h ≤ room_end

not_equal : (a b : ℕ) → a ≢ b → (a == b) ≡ false
not_equal a b differ = elim (eqb_tells a b) [ inl is ↦ absurd (differ is.1) | inr is ↦ is.0 ]

fault_of_segment : (bytes : List ℕ) (earlier : List ProgramHeader) (h : ProgramHeader) → Passes bytes h
    → first_fault (program_header_checks bytes earlier h)
    ≡ (if nat_lt max_program_pages (len (touched_pages (earlier ++ h ∷ []))) then Some Range else (if list_any (share_a_byte h) earlier then Some Overlap else None))
unfolding program_header_checks
fault_of_segment bytes earlier h passes =
    let a : (h.kind == 3) ≡ false = not_equal h.kind 3 passes.no_interpreter in
    let b : (h.kind == 2) ≡ false = not_equal h.kind 2 passes.no_dynamic in
    let s : is_segment h ≡ true = passes.segment in
    let t : nat_lt (length bytes) (h.offset + h.file_size) ≡ false = le-ltb _ _ passes.in_file in
    let p : nat_lt h.memory_size h.file_size ≡ false = le-ltb _ _ passes.sizes in
    let q : nat_lt h.address page_size ≡ false = le-ltb _ _ passes.low in
    let r : nat_lt room_end (end_of h) ≡ false = le-ltb _ _ passes.high in
    rw (a, b, s, t, p, q, r) (open_checks _ _)

pub pages_more : (ss : List ProgramHeader) (h : ProgramHeader) → flat_map pages_of (ss ++ h ∷ []) ≡ flat_map pages_of ss ++ pages_of h
pages_more ss h = flat_map-append pages_of ss (h ∷ []) ∙ ap (λ xs. flat_map pages_of ss ++ xs) (append-nil (pages_of h))

pub listed_more : (numbers more : List ℕ) (ss : List ProgramHeader) (h : ProgramHeader)
    → IsListOf numbers (flat_map pages_of ss) → IsListOf more (numbers ++ pages_of h) → IsListOf more (flat_map pages_of (ss ++ h ∷ []))
listed_more numbers more ss h listed added = subst (IsListOf more) (sym (pages_more ss h)) (IsListOf_append numbers more _ _ listed added)

len_pages_more : (numbers : List ℕ) (ss : List ProgramHeader) (h : ProgramHeader)
    → IsListOf numbers (flat_map pages_of ss) → len (touched_pages (ss ++ h ∷ [])) ≡ len (set_of (numbers ++ pages_of h))
len_pages_more numbers ss h listed = ap len (ap set_of (pages_more ss h) ∙ sym (set_of_append numbers (flat_map pages_of ss) (pages_of h) listed.same))

only_many : (m o : Bool) (f : ElfFault) → (if m then Some Range else None) ≡ Some f → (if m then Some Range else (if o then Some Overlap else None)) ≡ Some f
only_many true o f e = e
only_many false o f e = cc

module _ (bytes numbers : List ℕ) (earlier : List ProgramHeader) (h : ProgramHeader) (passes : Passes bytes h) (listed : IsListOf numbers (flat_map pages_of earlier)) where
  -- its pages are too many
  pub fault_of_many : (f : ElfFault) → (if nat_lt max_program_pages (len (set_of (numbers ++ pages_of h))) then Some Range else None) ≡ Some f → first_fault (program_header_checks bytes earlier h) ≡ Some f
  fault_of_many f many =
      fault_of_segment bytes earlier h passes
      ∙ only_many _ _ f (ap (λ n. if nat_lt max_program_pages n then Some Range else None) (len_pages_more numbers earlier h listed) ∙ many)

  -- its pages are few enough
  pub fault_of_few : (more : List ℕ) → IsListOf more (numbers ++ pages_of h) → length more ≤ max_program_pages
      → first_fault (program_header_checks bytes earlier h) ≡ (if list_any (share_a_byte h) earlier then Some Overlap else None)
  fault_of_few more added few =
      let size : len (touched_pages (earlier ++ h ∷ [])) ≡ length more = len_pages_more numbers earlier h listed ∙ sym added.once in
      let small : nat_lt max_program_pages (len (touched_pages (earlier ++ h ∷ []))) ≡ false = le-ltb _ _ (omega arith) in
      fault_of_segment bytes earlier h passes ∙ ap (λ b. if b then Some Range else (if list_any (share_a_byte h) earlier then Some Overlap else None)) small

pub IsFound_along : (found other : Option ElfFault) (e : LoadError) → ((f : ElfFault) → found ≡ Some f → other ≡ Some f) → IsFound found e → IsFound other e
IsFound_along found other (Fault f) along is = along f is
IsFound_along found other NoMemory along is = tt

first_fault_cons : (c : Check) (cs : List Check) → first_fault (c ∷ cs) ≡ (if c.0 then Some c.1 else first_fault cs)
first_fault_cons (true, f) cs = refl
first_fault_cons (false, f) cs = refl

-- checks behind others that found nothing, and behind some that found a fault
pub first_fault_none : (cs ds : List Check) → first_fault cs ≡ None → first_fault (cs ++ ds) ≡ first_fault ds
first_fault_none [] ds none = refl
first_fault_none ((true, f) ∷ cs) ds none = cc
first_fault_none ((false, f) ∷ cs) ds none = first_fault_none cs ds none

pub first_fault_some : (cs ds : List Check) (f : ElfFault) → first_fault cs ≡ Some f → first_fault (cs ++ ds) ≡ Some f
first_fault_some [] ds f some = cc
first_fault_some ((true, g) ∷ cs) ds f some = some
first_fault_some ((false, g) ∷ cs) ds f some = first_fault_some cs ds f some

pub IsSound_empty : (bytes : List ℕ) (layout : Layout) → layout.segments.items ≡ [] → layout.pages.items ≡ [] → vec_len layout.pages ≡ 0 → IsSound bytes layout
IsSound_empty bytes layout no_segments no_pages size = record {
  placed = rw no_segments (All-nil (IsPlaced bytes));
  pages = rw (no_segments, no_pages) IsListOf_none;
  few = omega arith;
}

-- the program headers of a file, one after another
abbrev header_at : List ℕ → ℕ → ProgramHeader
header_at bytes i = program_header bytes ((elf_header bytes).table + program_header_size * i)

pub length_program_headers : (bytes : List ℕ) → length (program_headers bytes) ≡ (elf_header bytes).count
unfolding program_headers
length_program_headers bytes = length-map-range_with_len (header_at bytes) 0 (elf_header bytes).count

get_or_program_headers : (bytes : List ℕ) (i : ℕ) (d : ProgramHeader) → i < (elf_header bytes).count → get_or (program_headers bytes) i d ≡ header_at bytes i
unfolding program_headers
get_or_program_headers bytes i d within = get_or-map-range_with_len (header_at bytes) 0 (elf_header bytes).count i i d within (omega arith)

module _ (bytes : List ℕ) (i : ℕ) (within : i < (elf_header bytes).count) where
  inside : i < length (program_headers bytes)
  inside = omega (arith, length_program_headers bytes)

  next : take (i + 1) (program_headers bytes) ≡ take i (program_headers bytes) ++ header_at bytes i ∷ []
  next = take_more (program_headers bytes) i (header_at bytes i) inside ∙ ap (λ h. take i (program_headers bytes) ++ h ∷ []) (get_or_program_headers bytes i (header_at bytes i) within)

  left : drop i (program_headers bytes) ≡ header_at bytes i ∷ drop (i + 1) (program_headers bytes)
  left = drop_more (program_headers bytes) i (header_at bytes i) inside ∙ ap (λ h. h ∷ drop (i + 1) (program_headers bytes)) (get_or_program_headers bytes i (header_at bytes i) within)

  pub segments_more : segments (take (i + 1) (program_headers bytes)) ≡ segments (take i (program_headers bytes)) ++ segments (header_at bytes i ∷ [])
  segments_more = ap segments next ∙ filter-append is_segment (take i (program_headers bytes)) (header_at bytes i ∷ [])

  split : all_program_header_checks bytes (take i (program_headers bytes)) (drop i (program_headers bytes))
      ≡ program_header_checks bytes (segments (take i (program_headers bytes))) (header_at bytes i) ++ all_program_header_checks bytes (take (i + 1) (program_headers bytes)) (drop (i + 1) (program_headers bytes))
  split = ap (all_program_header_checks bytes (take i (program_headers bytes))) left
      ∙ ap (λ before. program_header_checks bytes (segments (take i (program_headers bytes))) (header_at bytes i) ++ all_program_header_checks bytes before (drop (i + 1) (program_headers bytes))) (sym next)

  pub fault_behind : first_fault (program_header_checks bytes (segments (take i (program_headers bytes))) (header_at bytes i)) ≡ None
      → first_fault (all_program_header_checks bytes (take i (program_headers bytes)) (drop i (program_headers bytes)))
      ≡ first_fault (all_program_header_checks bytes (take (i + 1) (program_headers bytes)) (drop (i + 1) (program_headers bytes)))
  fault_behind none =
      ap first_fault split
      ∙ first_fault_none (program_header_checks bytes (segments (take i (program_headers bytes))) (header_at bytes i)) (all_program_header_checks bytes (take (i + 1) (program_headers bytes)) (drop (i + 1) (program_headers bytes))) none

  pub fault_here : (f : ElfFault) → first_fault (program_header_checks bytes (segments (take i (program_headers bytes))) (header_at bytes i)) ≡ Some f
      → first_fault (all_program_header_checks bytes (take i (program_headers bytes)) (drop i (program_headers bytes))) ≡ Some f
  fault_here f some =
      ap first_fault split
      ∙ first_fault_some (program_header_checks bytes (segments (take i (program_headers bytes))) (header_at bytes i)) (all_program_header_checks bytes (take (i + 1) (program_headers bytes)) (drop (i + 1) (program_headers bytes))) f some

pub fault_at_end : (bytes : List ℕ) (i : ℕ) → (elf_header bytes).count ≤ i
    → first_fault (all_program_header_checks bytes (take i (program_headers bytes)) (drop i (program_headers bytes))) ≡ None
fault_at_end bytes i past =
    let all : length (program_headers bytes) ≤ i = omega (arith, length_program_headers bytes) in
    ap (λ rest. first_fault (all_program_header_checks bytes (take i (program_headers bytes)) rest)) (drop_all i (program_headers bytes) all)

pub segments_at_end : (bytes : List ℕ) (i : ℕ) → (elf_header bytes).count ≤ i → segments (take i (program_headers bytes)) ≡ segments (program_headers bytes)
segments_at_end bytes i past =
    let all : length (program_headers bytes) ≤ i = omega (arith, length_program_headers bytes) in
    ap segments (take_all i (program_headers bytes) all)

-- the checks of all program headers, when those before one have passed
module _ (bytes : List ℕ) (i : ℕ) (earlier : List ProgramHeader) (h : ProgramHeader)
    (within : i < (elf_header bytes).count)
    (behind : earlier ≡ segments (take i (program_headers bytes)))
    (parsed : h ≡ program_header bytes ((elf_header bytes).table + program_header_size * i))
    (left_over : first_fault (all_program_header_checks bytes [] (program_headers bytes)) ≡ first_fault (all_program_header_checks bytes (take i (program_headers bytes)) (drop i (program_headers bytes)))) where
  same_checks : program_header_checks bytes (segments (take i (program_headers bytes))) (header_at bytes i) ≡ program_header_checks bytes earlier h
  same_checks = ap (λ ss. program_header_checks bytes ss (header_at bytes i)) (sym behind) ∙ ap (program_header_checks bytes earlier) (sym parsed)

  pub refused_here : (e : LoadError) → IsFound (first_fault (program_header_checks bytes earlier h)) e → IsFound (first_fault (all_program_header_checks bytes [] (program_headers bytes))) e
  refused_here e is = IsFound_along _ _ e (λ f some. left_over ∙ fault_here bytes i within f (ap first_fault same_checks ∙ some)) is

  pub passed_here : first_fault (program_header_checks bytes earlier h) ≡ None
      → first_fault (all_program_header_checks bytes [] (program_headers bytes)) ≡ first_fault (all_program_header_checks bytes (take (i + 1) (program_headers bytes)) (drop (i + 1) (program_headers bytes)))
  passed_here none = left_over ∙ fault_behind bytes i within (ap first_fault same_checks ∙ none)

  pub segments_here : (more : List ProgramHeader) → more ≡ earlier ++ segments (h ∷ []) → more ≡ segments (take (i + 1) (program_headers bytes))
  segments_here more is = is ∙ ap (λ ss. ss ++ segments (h ∷ [])) behind ∙ ap (λ x. segments (take i (program_headers bytes)) ++ segments (x ∷ [])) parsed ∙ sym (segments_more bytes i within)
