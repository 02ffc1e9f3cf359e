-- A file that is written is read as what was written.
use Rattle.std.proofs.Common.{◌≡◌, ℕ, ◌+◌, ◌*◌, ◌%◌, ◌<◌, ◌≤◌, ◌^◌, Bool, true, false, ◌&&◌, List, [], ◌∷◌, ◌++◌, None, map, length, drop, get_or, flat_map, nat_lt, refl, sym, ap, ◌∙◌, append_assoc, arith, le-ltb, mod-eq_of_lt}
use Rattle.std.proofs.lemmas.List.{length-append, get_or-append-add}
use Rattle.std.proofs.lemmas.Nat.{from_le_bytes-to_le_bytes_2, from_le_bytes-to_le_bytes_4}
use Rattle.std.proofs.Math.Seq.{drop-append_seam}
use Rattle.std.specs.Int.{w32, from_le_bytes}
use Rattle.std.specs.List.{AllByRecursion, range_with_len}
use Rattle.elf_load.specs.Elf.{word, elf_header, program_header, program_headers}
use Rattle.elf_load.specs.File as file
use Rattle.elf_load.specs.Image.{header_checks, first_fault}
use Rattle.elf_load.specs.Laws.{Fits}
use Rattle.elf_load.specs.declared.fault.ElfFault.TheVariants.{Truncated, Magic, Class, Machine, Kind, Flags, Range}
use Rattle.elf_load.specs.declared.program_header.ProgramHeader.{ProgramHeader}
use Rattle.elf_load.specs.Room.{max_program_headers}
use Rattle.elf_load.specs.Standard.{elf_header_size, program_header_size}

-- ---- program headers

word_behind : (front bytes : List ℕ) (at k : ℕ) → at ≡ length front + k → word (front ++ bytes) at ≡ word bytes k
word_behind front bytes at k e =
    let byte = λ (i : ℕ). let place : at + i ≡ length front + (k + i) = omega arith in ap (λ p. get_or (front ++ bytes) p 0) place ∙ get_or-append-add front bytes (k + i) 0 in
    let first : get_or (front ++ bytes) at 0 ≡ get_or bytes k 0 = ap (λ p. get_or (front ++ bytes) p 0) e ∙ get_or-append-add front bytes k 0 in
    (λ j. from_le_bytes w32 (first j ∷ byte 1 j ∷ byte 2 j ∷ byte 3 j ∷ []))

-- at the front of the bytes
header_first : (h : ProgramHeader) (bytes : List ℕ) → Fits h → program_header (file.program_header h ++ bytes) 0 ≡ h
header_first h bytes fits = (λ j. record {
  kind = from_le_bytes-to_le_bytes_4 h.kind fits.kind j;
  offset = from_le_bytes-to_le_bytes_4 h.offset fits.offset j;
  address = from_le_bytes-to_le_bytes_4 h.address fits.address j;
  file_size = from_le_bytes-to_le_bytes_4 h.file_size fits.file_size j;
  memory_size = from_le_bytes-to_le_bytes_4 h.memory_size fits.memory_size j;
  flags = from_le_bytes-to_le_bytes_4 h.flags fits.flags j;
})

header_behind : (front bytes : List ℕ) (at : ℕ) → at ≡ length front → program_header (front ++ bytes) at ≡ program_header bytes 0
header_behind front bytes at e =
    let field = λ (k : ℕ). word_behind front bytes (at + k) k (omega arith) in
    (λ j. record {
      kind = word_behind front bytes at 0 (omega arith) j;
      offset = field 4 j;
      address = field 8 j;
      file_size = field 16 j;
      memory_size = field 20 j;
      flags = field 24 j;
    })

headers_behind : (whole front : List ℕ) (headers : List ProgramHeader) (behind : List ℕ) (table a : ℕ) → whole ≡ front ++ (flat_map file.program_header headers ++ behind) → table + program_header_size * a ≡ length front → AllByRecursion Fits headers → map (λ i. program_header whole (table + program_header_size * i)) (range_with_len a (length headers)) ≡ headers
headers_behind whole front [] behind table a e at fits = refl
headers_behind whole front (h ∷ headers) behind table a e at fits =
    let rest : List ℕ = flat_map file.program_header headers ++ behind in
    let parted : (file.program_header h ++ flat_map file.program_header headers) ++ behind ≡ file.program_header h ++ rest = append_assoc (file.program_header h) (flat_map file.program_header headers) behind in
    let this : whole ≡ front ++ (file.program_header h ++ rest) = e ∙ ap (λ l. front ++ l) parted in
    let more : length (front ++ file.program_header h) ≡ length front + program_header_size = length-append front (file.program_header h) in
    let next : table + program_header_size * (a + 1) ≡ length (front ++ file.program_header h) = omega arith in
    let first : program_header whole (table + program_header_size * a) ≡ h = ap (λ w. program_header w (table + program_header_size * a)) this ∙ header_behind front (file.program_header h ++ rest) (table + program_header_size * a) at ∙ header_first h rest fits.0 in
    let others : map (λ i. program_header whole (table + program_header_size * i)) (range_with_len (a + 1) (length headers)) ≡ headers = headers_behind whole (front ++ file.program_header h) headers behind table (a + 1) (this ∙ sym (append_assoc front (file.program_header h) rest)) next fits.1 in
    (λ j. first j ∷ others j)

length_headers : (headers : List ProgramHeader) → length (flat_map file.program_header headers) ≡ program_header_size * length headers
length_headers [] = refl
length_headers (h ∷ headers) = let n : length (file.program_header h ++ flat_map file.program_header headers) ≡ program_header_size + length (flat_map file.program_header headers) = length-append (file.program_header h) (flat_map file.program_header headers) in
    let more = length_headers headers in omega arith

-- ---- the file

pub same_entry : (entry : ℕ) (headers : List ProgramHeader) (behind : List ℕ) → entry < 2 ^ 32 → (elf_header (file.executable entry headers behind)).entry ≡ entry
unfolding file.executable
same_entry entry headers behind fits = from_le_bytes-to_le_bytes_4 entry fits

same_count : (entry : ℕ) (headers : List ProgramHeader) (behind : List ℕ) → length headers < 2 ^ 16 → (elf_header (file.executable entry headers behind)).count ≡ length headers
unfolding file.executable
same_count entry headers behind few = let whole : length headers % 2 ^ 16 ≡ length headers = mod-eq_of_lt few in
    from_le_bytes-to_le_bytes_2 (length headers % 2 ^ 16) (omega arith) ∙ whole

pub same_headers : (entry : ℕ) (headers : List ProgramHeader) (behind : List ℕ) → length headers < 2 ^ 16 → AllByRecursion Fits headers → program_headers (file.executable entry headers behind) ≡ headers
unfolding program_headers file.executable
same_headers entry headers behind few fits =
    let whole : List ℕ = file.executable entry headers behind in
    ap (λ n. map (λ i. program_header whole (elf_header_size + program_header_size * i)) (range_with_len 0 n)) (same_count entry headers behind few)
    ∙ headers_behind whole (file.elf_header entry (length headers % 2 ^ 16)) headers behind elf_header_size 0 refl refl fits

pub same_behind : (entry : ℕ) (headers : List ProgramHeader) (behind : List ℕ) → drop (elf_header_size + program_header_size * length headers) (file.executable entry headers behind) ≡ behind
unfolding file.executable
same_behind entry headers behind =
    let front : List ℕ = file.elf_header entry (length headers % 2 ^ 16) ++ flat_map file.program_header headers in
    let places : elf_header_size + program_header_size * length headers ≡ length front = sym (length-append (file.elf_header entry (length headers % 2 ^ 16)) (flat_map file.program_header headers) ∙ ap (λ n. elf_header_size + n) (length_headers headers)) in
    ap (drop (elf_header_size + program_header_size * length headers)) (sym (append_assoc (file.elf_header entry (length headers % 2 ^ 16)) (flat_map file.program_header headers) behind))
    ∙ ap (λ n. drop n (front ++ behind)) places ∙ drop-append_seam front behind

and_false : (a : Bool) → (a && false) ≡ false
and_false true = refl
and_false false = refl

length_file : (entry : ℕ) (headers : List ProgramHeader) (behind : List ℕ) → length (file.executable entry headers behind) ≡ elf_header_size + (program_header_size * length headers + length behind)
unfolding file.executable
length_file entry headers behind =
    length-append (file.elf_header entry (length headers % 2 ^ 16)) (flat_map file.program_header headers ++ behind)
    ∙ ap (λ n. elf_header_size + n) (length-append (flat_map file.program_header headers) behind ∙ ap (λ n. n + length behind) (length_headers headers))

pub sound : (entry : ℕ) (headers : List ProgramHeader) (behind : List ℕ) → length headers ≤ max_program_headers → first_fault (header_checks (file.executable entry headers behind)) ≡ None
unfolding header_checks file.executable
sound entry headers behind few =
    let whole : List ℕ = file.executable entry headers behind in
    let size : length whole ≡ elf_header_size + (program_header_size * length headers + length behind) = length_file entry headers behind in
    let count : (elf_header whole).count ≡ length headers = same_count entry headers behind (omega arith) in
    let long : nat_lt (length whole) elf_header_size ≡ false = le-ltb (length whole) elf_header_size (omega arith) in
    let sized : (nat_lt 0 (elf_header whole).count && false) ≡ false = and_false (nat_lt 0 (elf_header whole).count) in
    let fewer : nat_lt max_program_headers (elf_header whole).count ≡ false = le-ltb max_program_headers (elf_header whole).count (omega arith) in
    let held : nat_lt (length whole) (elf_header_size + program_header_size * (elf_header whole).count) ≡ false = le-ltb (length whole) (elf_header_size + program_header_size * (elf_header whole).count) (omega arith) in
    (λ j. first_fault ((long j, Truncated) ∷ (false, Magic) ∷ (false, Class) ∷ (false, Machine) ∷ (sized j, Kind) ∷ (false, Flags) ∷ (fewer j, Range) ∷ (held j, Truncated) ∷ []))
