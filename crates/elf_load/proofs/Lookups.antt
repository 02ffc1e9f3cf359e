-- What an image has at an address: its cells are the same whether its pages come in the order of the file or of their numbers.
use Rattle.std.proofs.Common.{◌≡◌, ◌⊎◌, ◌≢◌, ℕ, zero, suc, ◌+◌, ◌*◌, ◌/◌, ◌<◌, ◌≤◌, cond, ◌||◌, List, [], ◌∷◌, ◌++◌, map, Some, None, refl, sym, ap, ◌∙◌, arith, inl, inr}
use Rattle.std.specs.Prelude.{◌==◌, flat_map}
use Rattle.std.specs.Ordering.{nat_cmp}
use Rattle.std.specs.List.{list_any, range_with_len}
use Rattle.std.specs.FinMap.{from_entries, get, find, same_map, get-from_entries}
use Rattle.std.specs.FinSet.{items, contains, contains-items, nat_cmp-IsAntisymmetric}
use Rattle.std.proofs.lemmas.Bool.{cases_lt, ne_eqb, eq-eqb}
use Rattle.std.proofs.lemmas.Bool.Decides.{eqb_tells}
use Rattle.std.proofs.lemmas.Cmp.{nat_cmp_total}
use Rattle.elf_load.specs.declared.program_header.ProgramHeader.{ProgramHeader}
use Rattle.elf_load.specs.Cells.{Cell}
use Rattle.elf_load.specs.Image.{cell_at, cells_on, cells_of_segments}
use Rattle.elf_load.specs.inside.Layout.{IsListOf}
use Rattle.elf_load.specs.Pages.{pages_of, touched_pages}
use Rattle.elf_load.proofs.Numbers.{eq_by_cmp_is, contains_set_of, any_same}
use Rattle.elf_load.specs.Room.{page_size}

module _ (f : ℕ → Cell) (q : ℕ) (rest : List (ℕ × Cell)) where
  abbrev row : ℕ → ℕ → List (ℕ × Cell)
  row a n = map (λ address. (address, f address)) (range_with_len a n)

  at_first : (a : ℕ) (es : List (ℕ × Cell)) → a ≡ q → find nat_cmp q ((a, f a) ∷ es) ≡ Some (f q)
  at_first a es same = ap (λ b. cond b (Some (f a)) (find nat_cmp q es)) (eq_by_cmp_is q a ∙ eq-eqb a q same) ∙ ap (λ x. Some (f x)) same

  past_first : (a : ℕ) (es : List (ℕ × Cell)) → a ≢ q → find nat_cmp q ((a, f a) ∷ es) ≡ find nat_cmp q es
  past_first a es differ = ap (λ b. cond b (Some (f a)) (find nat_cmp q es)) (eq_by_cmp_is q a ∙ ne_eqb a q differ)

  find_in_row : (a n : ℕ) → a ≤ q → q < a + n → find nat_cmp q (row a n ++ rest) ≡ Some (f q)
  find_in_row a zero from before = absurd (omega arith)
  find_in_row a (suc n) from before =
      elim (eqb_tells a q) [
        | inl is ↦ at_first a (row (a + 1) n ++ rest) is.1
        | inr is ↦ let differ : a ≢ q = is.1 in past_first a (row (a + 1) n ++ rest) differ ∙ find_in_row (a + 1) n (omega arith) (omega arith)
      ]

  find_off_row : (a n : ℕ) → (q < a) ⊎ (a + n ≤ q) → find nat_cmp q (row a n ++ rest) ≡ find nat_cmp q rest
  find_off_row a zero off = refl
  find_off_row a (suc n) off = past_first a (row (a + 1) n ++ rest) (differs off) ∙ find_off_row (a + 1) n (still off)
    where
      differs : (q < a) ⊎ (a + suc n ≤ q) → a ≢ q
      differs (inl below) = λ same. omega arith
      differs (inr above) = λ same. omega arith

      still : (q < a) ⊎ (a + suc n ≤ q) → (q < a + 1) ⊎ (a + 1 + n ≤ q)
      still (inl below) = inl (omega arith)
      still (inr above) = inr (omega arith)

module _ (bytes : List ℕ) (ss : List ProgramHeader) where
  find_cells : (numbers : List ℕ) (q : ℕ) → find nat_cmp q (flat_map (cells_on bytes ss) numbers) ≡ cond (list_any (λ n. n == q / page_size) numbers) (Some (cell_at bytes ss q)) None
  find_cells [] q = refl
  find_cells (n ∷ numbers) q =
      let rest : List (ℕ × Cell) = flat_map (cells_on bytes ss) numbers in
      elim (eqb_tells n (q / page_size)) [
        | inl is ↦
            let same : n ≡ q / page_size = is.1 in
            find_in_row (cell_at bytes ss) q rest (page_size * n) page_size (omega arith) (omega arith)
            ∙ sym (ap (λ b. cond (b || list_any (λ m. m == q / page_size) numbers) (Some (cell_at bytes ss q)) None) is.0)
        | inr is ↦
            let differ : n ≢ q / page_size = is.1 in
            find_off_row (cell_at bytes ss) q rest (page_size * n) page_size (off n q differ)
            ∙ find_cells numbers q
            ∙ sym (ap (λ b. cond (b || list_any (λ m. m == q / page_size) numbers) (Some (cell_at bytes ss q)) None) is.0)
      ]
    where
      off : (n q : ℕ) → n ≢ q / page_size → (q < page_size * n) ⊎ (page_size * n + page_size ≤ q)
      off n q differ = elim (cases_lt q (page_size * n)) [ inl below ↦ inl below | inr above ↦ inr (omega arith) ]

  pub cells_from_numbers : (numbers : List ℕ) → IsListOf numbers (flat_map pages_of ss) → from_entries {R = nat_cmp} (flat_map (cells_on bytes ss) numbers) ≡ cells_of_segments bytes ss
  unfolding cells_of_segments
  cells_from_numbers numbers listed =
      same_map nat_cmp_total nat_cmp-IsAntisymmetric _ _ (λ q.
      get-from_entries nat_cmp_total (flat_map (cells_on bytes ss) numbers) q
      ∙ find_cells numbers q
      ∙ ap (λ b. cond b (Some (cell_at bytes ss q)) None) (same_test q)
      ∙ sym (find_cells (items (touched_pages ss)) q)
      ∙ sym (get-from_entries nat_cmp_total (flat_map (cells_on bytes ss) (items (touched_pages ss))) q))
    where
      same_test : (q : ℕ) → list_any (λ n. n == q / page_size) numbers ≡ list_any (λ n. n == q / page_size) (items (touched_pages ss))
      same_test q =
          sym (contains_set_of numbers (q / page_size)) ∙ ap (λ s. contains s (q / page_size)) listed.same ∙ contains-items (touched_pages ss) (q / page_size) ∙ any_same (items (touched_pages ss)) (q / page_size)

  -- the law of an image's cells: an address has one exactly where it lies on a touched page
  pub get_cells_of_segments : (q : ℕ) → get (cells_of_segments bytes ss) q ≡ cond (contains (touched_pages ss) (q / page_size)) (Some (cell_at bytes ss q)) None
  unfolding cells_of_segments
  get_cells_of_segments q =
      get-from_entries nat_cmp_total (flat_map (cells_on bytes ss) (items (touched_pages ss))) q
      ∙ find_cells (items (touched_pages ss)) q
      ∙ ap (λ b. cond b (Some (cell_at bytes ss q)) None) (sym (contains-items (touched_pages ss) (q / page_size) ∙ any_same (items (touched_pages ss)) (q / page_size)))
