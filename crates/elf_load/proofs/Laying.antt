-- What stands on a page after bytes of a file were laid on a part of it.
use Rattle.std.proofs.Common.{◌≡◌, ℕ, ◌+◌, ◌-◌, ◌<◌, ◌≤◌, max, min, true, false, List, ◌++◌, length, take, drop, get_or, refl, sym, ap, ◌∙◌, arith, inl, inr, length-drop}
use borrow.Rule.Slice.PartMut.{put_mid, post_of}
use Rattle.std.specs.Prelude.{nat_le, nat_lt, unwrap_or}
use Rattle.std.proofs.lemmas.Bool.{le-leb, lt-leb, lt-ltb, le-ltb, cases_lt}
use Rattle.std.proofs.lemmas.List.{get_or-take, get_or-drop, get_or_append_left, get_or-append_right, length-take-le}
use Rattle.std.proofs.lemmas.List.Sums.{fold_more}
use Rattle.std.proofs.lemmas.Option.{slice_get-get_or}
use Rattle.elf_load.specs.declared.program_header.ProgramHeader.{ProgramHeader}
use Rattle.elf_load.specs.Image.{file_byte, byte_at}
use Rattle.elf_load.specs.Room.{page_size}

module _ (xs ys : List ℕ) (a k : ℕ) (room : a + k ≤ length xs) (size : length ys ≡ k) where
  front : length (take a xs) ≡ a
  front = length-take-le a xs (omega arith)

  put_below : (i : ℕ) → i < a → get_or (put_mid a k xs ys) i 0 ≡ get_or xs i 0
  put_below i below =
      let here : i < length (take a xs) = omega (arith, front) in
      get_or_append_left (take a xs) (ys ++ post_of a k xs) 0 i here ∙ get_or-take a xs i 0 below

  put_within : (i : ℕ) → a ≤ i → i < a + k → get_or (put_mid a k xs ys) i 0 ≡ get_or ys (i - a) 0
  put_within i from before =
      let here : i - a < length ys = omega arith in
      get_or-append_right (take a xs) (ys ++ post_of a k xs) a i 0 front from ∙ get_or_append_left ys (post_of a k xs) 0 (i - a) here

  put_above : (i : ℕ) → a + k ≤ i → get_or (put_mid a k xs ys) i 0 ≡ get_or xs i 0
  put_above i past =
      get_or-append_right (take a xs) (ys ++ post_of a k xs) a i 0 front (omega arith)
      ∙ get_or-append_right ys (post_of a k xs) k (i - a) 0 size (omega arith)
      ∙ get_or-drop k (drop a xs) (i - a - k) 0
      ∙ get_or-drop a xs (k + (i - a - k)) 0
      ∙ ap (λ j. get_or xs j 0) (omega arith)

-- a byte that a segment lays, and one that it does not
byte_inside : (bytes : List ℕ) (s : ProgramHeader) (address old : ℕ) → s.offset + s.file_size ≤ length bytes → s.address ≤ address → address < s.address + s.file_size
    → unwrap_or (file_byte bytes s address) old ≡ get_or bytes (s.offset + (address - s.address)) 0
byte_inside bytes s address old in_file from before =
    let a : nat_le s.address address ≡ true = le-leb _ _ from in
    let b : nat_lt address (s.address + s.file_size) ≡ true = lt-ltb _ _ before in
    let there : s.offset + (address - s.address) < length bytes = omega arith in
    rw (a, b) (ap (λ o. unwrap_or o old) (slice_get-get_or bytes (s.offset + (address - s.address)) 0 there))

byte_before : (bytes : List ℕ) (s : ProgramHeader) (address old : ℕ) → address < s.address → unwrap_or (file_byte bytes s address) old ≡ old
byte_before bytes s address old before =
    let a : nat_le s.address address ≡ false = lt-leb _ _ before in
    rw a refl

byte_behind : (bytes : List ℕ) (s : ProgramHeader) (address old : ℕ) → s.address ≤ address → s.address + s.file_size ≤ address → unwrap_or (file_byte bytes s address) old ≡ old
byte_behind bytes s address old from past =
    let a : nat_le s.address address ≡ true = le-leb _ _ from in
    let b : nat_lt address (s.address + s.file_size) ≡ false = le-ltb _ _ past in
    rw (a, b) refl

-- a page that begins at an address, after the part that a segment has of it was laid
pub laid_at : (page bytes ys : List ℕ) (s : ProgramHeader) (address begin end to k from n : ℕ)
    → length page ≡ page_size → s.offset + s.file_size ≤ length bytes
    → begin ≡ max address s.address → end ≡ min (address + page_size) (s.address + s.file_size) → begin < end
    → to ≡ begin - address → k ≡ end - begin → from ≡ s.offset + (begin - s.address) → n ≡ end - begin → ys ≡ take n (drop from bytes)
    → (offset : ℕ) → offset < page_size
    → get_or (put_mid to k page ys) offset 0 ≡ unwrap_or (file_byte bytes s (address + offset)) (get_or page offset 0)
laid_at page bytes ys s address begin end to k from n whole in_file begins ends some to_is k_is from_is n_is ys_are offset within =
    let room : to + k ≤ length page = omega arith in
    let size : length ys ≡ k = ap length ys_are ∙ length-take-le n (drop from bytes) (omega (arith, length-drop from bytes)) ∙ omega arith in
    elim (cases_lt offset to) [
      | inl below ↦ put_below page ys to k room size offset below ∙ sym (elim (cases_lt (address + offset) s.address) [
        | inl before ↦ byte_before bytes s (address + offset) (get_or page offset 0) before
        | inr not_before ↦ absurd (omega arith)
      ])
      | inr at ↦ elim (cases_lt offset (to + k)) [
        | inl inside ↦
            let place : from + (offset - to) ≡ s.offset + (address + offset - s.address) = omega arith in
            put_within page ys to k room size offset at inside
            ∙ ap (λ zs. get_or zs (offset - to) 0) ys_are
            ∙ get_or-take n (drop from bytes) (offset - to) 0 (omega arith)
            ∙ get_or-drop from bytes (offset - to) 0
            ∙ ap (λ j. get_or bytes j 0) place
            ∙ sym (byte_inside bytes s (address + offset) (get_or page offset 0) in_file (omega arith) (omega arith))
        | inr above ↦
            put_above page ys to k room size offset above
            ∙ sym (byte_behind bytes s (address + offset) (get_or page offset 0) (omega arith) (omega arith))
      ]
    ]

-- the bytes of a page after one segment more
pub laid_more : (page was laid bytes : List ℕ) (ss : List ProgramHeader) (i offset address here : ℕ) (d : ProgramHeader)
    → i < length ss → get_or laid offset 0 ≡ unwrap_or (file_byte bytes (get_or ss i d) here) (get_or was offset 0)
    → was ≡ page → here ≡ address
    → get_or page offset 0 ≡ byte_at bytes (take i ss) address
    → get_or laid offset 0 ≡ byte_at bytes (take (i + 1) ss) address
laid_more page was laid bytes ss i offset address here d within now is_page is_address before =
    now
    ∙ ap (λ a. unwrap_or (file_byte bytes (get_or ss i d) a) (get_or was offset 0)) is_address
    ∙ ap (λ xs. unwrap_or (file_byte bytes (get_or ss i d) address) (get_or xs offset 0)) is_page
    ∙ ap (unwrap_or (file_byte bytes (get_or ss i d) address)) before
    ∙ sym (fold_more (λ byte x. unwrap_or (file_byte bytes x address) byte) 0 ss i d within)
