-- Where the touched pages lie.
use Rattle.std.proofs.Common.{◌≡◌, ◌⊎◌, ℕ, zero, suc, ◌+◌, ◌-◌, ◌*◌, ◌^◌, ◌<◌, ◌≤◌, max, Bool, true, false, ◌||◌, List, [], ◌∷◌, length, get_or, refl, sym, ap, ◌∙◌, arith, inl, inr}
use Rattle.std.specs.Prelude.{◌==◌, All, fold, flat_map}
use Rattle.std.specs.List.{list_any, range_with_len}
use Rattle.std.proofs.lemmas.Bool.{eq-eqb}
use Rattle.std.proofs.lemmas.Bool.Decides.{eqb_tells}
use Rattle.std.proofs.lemmas.List.Elements.{All-head, All-tail, All-from_get_or}
use Rattle.std.proofs.lemmas.List.Folds.{list_any-append, list_any_at}
use Rattle.elf_load.specs.declared.program_header.ProgramHeader.{ProgramHeader}
use Rattle.elf_load.specs.inside.Layout.{IsPlaced, IsListOf}
use Rattle.elf_load.specs.Pages.{end_of, first_page, last_page, pages_of, highest_end, rounded_up}
use Rattle.elf_load.proofs.Numbers.{any_from_sets}
use Rattle.elf_load.specs.Room.{page_size, room_end}

-- the highest end is not below the end that it began with
highest_from : (ss : List ProgramHeader) (high : ℕ) → high ≤ fold (λ h s. max h (end_of s)) high ss
highest_from [] high = omega arith
highest_from (s ∷ ss) high = omega (arith, highest_from ss (max high (end_of s)))

highest_bounded : (bytes : List ℕ) (ss : List ProgramHeader) (high : ℕ) → high ≤ room_end → All (IsPlaced bytes) ss → fold (λ h s. max h (end_of s)) high ss ≤ room_end
highest_bounded bytes [] high bound placed = bound
highest_bounded bytes (s ∷ ss) high bound placed =
    let here : end_of s ≤ room_end = (All-head (IsPlaced bytes) s ss placed).below_stack in
    highest_bounded bytes ss (max high (end_of s)) (omega arith) (All-tail (IsPlaced bytes) s ss placed)

pub highest_end_in_range : (bytes : List ℕ) (ss : List ProgramHeader) → All (IsPlaced bytes) ss → highest_end ss ≤ room_end
highest_end_in_range bytes ss placed = highest_bounded bytes ss 0 (omega arith) placed

-- a number in a row lies between its ends
in_row : (a n q : ℕ) → list_any (λ y. y == q) (range_with_len a n) ≡ true → q < a + n
in_row a zero q there = cc
in_row a (suc n) q there =
    elim (eqb_tells a q) [
      | inl is ↦ let same : a ≡ q = is.1 in omega arith
      | inr is ↦ let rest : list_any (λ y. y == q) (range_with_len (a + 1) n) ≡ true = sym (ap (λ b. b || list_any (λ y. y == q) (range_with_len (a + 1) n)) is.0) ∙ there in
          omega (arith, in_row (a + 1) n q rest)
    ]

or_cases : (a b : Bool) → (a || b) ≡ true → (a ≡ true) ⊎ (b ≡ true)
or_cases true b e = inl refl
or_cases false b e = inr e

-- a touched page ends at or below the highest end, rounded up, and below the room for the stack
page_of_segment : (s : ProgramHeader) (q : ℕ) → page_size ≤ s.address → list_any (λ y. y == q) (pages_of s) ≡ true → page_size * q < end_of s
page_of_segment s q low there =
    let before : q < first_page s + (last_page s + 1 - first_page s) = in_row _ _ q there in
    omega arith

touched_below : (bytes : List ℕ) (ss : List ProgramHeader) (high q : ℕ) → All (IsPlaced bytes) ss → list_any (λ y. y == q) (flat_map pages_of ss) ≡ true → page_size * q < fold (λ h s. max h (end_of s)) high ss
touched_below bytes [] high q placed there = cc
touched_below bytes (s ∷ ss) high q placed there =
    elim (or_cases _ _ (sym (list_any-append (λ y. y == q) (pages_of s) (flat_map pages_of ss)) ∙ there)) [
      | inl here ↦
          let low : page_size ≤ s.address = (All-head (IsPlaced bytes) s ss placed).above_first_page in
          let inside : page_size * q < end_of s = page_of_segment s q low here in
          omega (arith, highest_from ss (max high (end_of s)))
      | inr later ↦ touched_below bytes ss (max high (end_of s)) q (All-tail (IsPlaced bytes) s ss placed) later
    ]

module _ (bytes : List ℕ) (ss : List ProgramHeader) (numbers : List ℕ) (placed : All (IsPlaced bytes) ss) (listed : IsListOf numbers (flat_map pages_of ss)) where
  below_highest : (i : ℕ) → i < length numbers → page_size * get_or numbers i 0 < highest_end ss
  below_highest i within =
      let here : list_any (λ y. y == get_or numbers i 0) numbers ≡ true = list_any_at (λ y. y == get_or numbers i 0) numbers i 0 within (eq-eqb (get_or numbers i 0) (get_or numbers i 0) refl) in
      touched_below bytes ss 0 (get_or numbers i 0) placed (sym (any_from_sets numbers (flat_map pages_of ss) (get_or numbers i 0) listed.same) ∙ here)

  pub numbers_in_range : All (λ n. n < 2 ^ 20) numbers
  numbers_in_range = All-from_get_or (λ n. n < 2 ^ 20) numbers 0 (λ i within. omega (arith, below_highest i within, highest_end_in_range bytes ss placed))

  pub numbers_below_start : All (λ n. page_size * n + page_size ≤ rounded_up (highest_end ss)) numbers
  numbers_below_start = All-from_get_or (λ n. page_size * n + page_size ≤ rounded_up (highest_end ss)) numbers 0 (λ i within. omega (arith, below_highest i within))
