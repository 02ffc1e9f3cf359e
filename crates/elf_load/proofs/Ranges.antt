-- Numbers in a row, and the lists that name each of them once.
use Rattle.std.proofs.Common.{◌≡◌, ℕ, zero, suc, ◌+◌, ◌-◌, ◌<◌, ◌≤◌, true, false, List, [], ◌∷◌, ◌++◌, length, refl, sym, ap, ◌∙◌, subst, arith, append_assoc}
use Rattle.std.specs.Prelude.{◌==◌}
use Rattle.std.specs.List.{range_with_len, list_any}
use Rattle.std.specs.FinSet.{len}
use Rattle.elf_load.specs.inside.Layout.{IsListOf}
use Rattle.elf_load.proofs.Numbers.{set_of, IsListOf_old, IsListOf_new, many_new}

pub range_with_len_append : (a n m b k : ℕ) → a + n ≡ b → n + m ≡ k → range_with_len a k ≡ range_with_len a n ++ range_with_len b m
range_with_len_append a zero m b k at size =
    let same_size : k ≡ m = omega arith in
    let same_place : a ≡ b = omega arith in
    ap (range_with_len a) same_size ∙ ap (λ x. range_with_len x m) same_place
range_with_len_append a (suc n) m b k at size =
    let same_size : k ≡ suc (n + m) = omega arith in
    ap (range_with_len a) same_size ∙ ap (λ rest. a ∷ rest) (range_with_len_append (a + 1) n m b (n + m) (omega arith) refl)

range_push : (a n b k : ℕ) → a + n ≡ b → n + 1 ≡ k → range_with_len a k ≡ range_with_len a n ++ b ∷ []
range_push a n b k at size = range_with_len_append a n 1 b k at size

seen_more : (old : List ℕ) (first page : ℕ) → first ≤ page → old ++ range_with_len first (page + 1 - first) ≡ (old ++ range_with_len first (page - first)) ++ page ∷ []
seen_more old first page from =
    ap (λ xs. old ++ xs) (range_push first (page - first) page (page + 1 - first) (omega arith) (omega arith)) ∙ sym (append_assoc old (range_with_len first (page - first)) (page ∷ []))

module _ (old numbers : List ℕ) (first page : ℕ) (from : first ≤ page) (listed : IsListOf numbers (old ++ range_with_len first (page - first))) where
  pub listed_already : list_any (λ y. y == page) numbers ≡ true → IsListOf numbers (old ++ range_with_len first (page + 1 - first))
  listed_already there = subst (IsListOf numbers) (sym (seen_more old first page from)) (IsListOf_old numbers _ page listed there)

  pub listed_now : list_any (λ y. y == page) numbers ≡ false → IsListOf (numbers ++ page ∷ []) (old ++ range_with_len first (page + 1 - first))
  listed_now new = subst (IsListOf (numbers ++ page ∷ [])) (sym (seen_more old first page from)) (IsListOf_new numbers _ page listed new)

  pub listed_too_many : (end : ℕ) → page < end → list_any (λ y. y == page) numbers ≡ false → length numbers < len (set_of (old ++ range_with_len first (end - first)))
  listed_too_many end before new =
      let rest : List ℕ = range_with_len (page + 1) (end - (page + 1)) in
      let split : old ++ range_with_len first (end - first) ≡ ((old ++ range_with_len first (page - first)) ++ page ∷ []) ++ rest =
      ap (λ xs. old ++ xs) (range_with_len_append first (page + 1 - first) (end - (page + 1)) (page + 1) (end - first) (omega arith) (omega arith))
      ∙ sym (append_assoc old (range_with_len first (page + 1 - first)) rest)
      ∙ ap (λ xs. xs ++ rest) (seen_more old first page from) in
      subst (λ xs. length numbers < len (set_of xs)) (sym split) (many_new numbers _ rest page listed new)
