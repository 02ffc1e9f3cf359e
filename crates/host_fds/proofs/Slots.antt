-- Slots in a row against the descriptors that they stand for.
use Rattle.std.proofs.Common.{◌≡◌, ◌≢◌, ℕ, zero, suc, ◌+◌, ◌<◌, true, false, cond, List, [], ◌∷◌, length, get_or, set, replicate, Option, Some, None, refl, sym, ap, ◌∙◌, subst, arith, inl, inr}
use Rattle.std.specs.Prelude.{IsSome, is_some, is_none, count_by, unwrap_or}
use Rattle.std.specs.Option.{option_flatten}
use Rattle.std.specs.Ordering.{nat_cmp, eq_by_cmp}
use Rattle.std.specs.Cmp.{unsigned_tied}
use Rattle.std.specs.FinMap.{find, from_entries, len, len-empty, len-insert, get, insert, remove, empty, same_map, nat_cmp-IsAntisymmetric, get-from_entries, get-insert, get-remove, get-empty}
use Rattle.std.proofs.lemmas.Bool.{cases_lt, eq-eqb, ne_eqb, false≢true}
use Rattle.std.proofs.lemmas.Bool.Decides.{eqb_tells}
use Rattle.std.proofs.lemmas.Cmp.{nat_cmp_total}
use Rattle.std.proofs.lemmas.List.{get_or-set_same, get_or-set_other, get_or_past}
use Rattle.std.proofs.lemmas.List.Sums.{sum_by_from}
use Rattle.host_fds.specs.declared.file_id.FileId.{FileId}
use Rattle.host_fds.specs.Descriptors.{Descriptors, entries_from, descriptors_of}

tied : (q k : ℕ) → q ≡ k → eq_by_cmp nat_cmp q k ≡ true
tied q k same = unsigned_tied q k ∙ eq-eqb q k same

apart : (q k : ℕ) → q ≢ k → eq_by_cmp nat_cmp q k ≡ false
apart q k differ = unsigned_tied q k ∙ ne_eqb q k differ

find_below : (slots : List (Option FileId)) (fd q : ℕ) → q < fd → find nat_cmp q (entries_from fd slots) ≡ None
find_below [] fd q below = refl
find_below (None ∷ slots) fd q below = find_below slots (fd + 1) q (omega arith)
find_below (Some o ∷ slots) fd q below =
    let differ : q ≢ fd = omega arith in
    ap (λ b. cond b (Some o) (find nat_cmp q (entries_from (fd + 1) slots))) (apart q fd differ) ∙ find_below slots (fd + 1) q (omega arith)

find_at : (slots : List (Option FileId)) (fd i q : ℕ) → fd + i ≡ q → find nat_cmp q (entries_from fd slots) ≡ get_or slots i None
find_at [] fd i q at = refl
find_at (None ∷ slots) fd zero q at = find_below slots (fd + 1) q (omega arith)
find_at (None ∷ slots) fd (suc i) q at = find_at slots (fd + 1) i q (omega arith)
find_at (Some o ∷ slots) fd zero q at =
    let same : q ≡ fd = omega arith in
    ap (λ b. cond b (Some o) (find nat_cmp q (entries_from (fd + 1) slots))) (tied q fd same)
find_at (Some o ∷ slots) fd (suc i) q at =
    let differ : q ≢ fd = omega arith in
    ap (λ b. cond b (Some o) (find nat_cmp q (entries_from (fd + 1) slots))) (apart q fd differ) ∙ find_at slots (fd + 1) i q (omega arith)

pub get_descriptors_of : (slots : List (Option FileId)) (q : ℕ) → get (descriptors_of slots) q ≡ get_or slots q None
unfolding descriptors_of
get_descriptors_of slots q = get-from_entries nat_cmp_total (entries_from 0 slots) q ∙ find_at slots 0 q q (omega arith)

same_descriptors : (fds gds : Descriptors) → ((q : ℕ) → get fds q ≡ get gds q) → fds ≡ gds
same_descriptors fds gds is = same_map nat_cmp_total nat_cmp-IsAntisymmetric fds gds is

abbrev free_slots : ℕ → List (Option FileId)
free_slots n = replicate n None

get_or_none : (n q : ℕ) → get_or (free_slots n) q None ≡ None
get_or_none zero q = refl
get_or_none (suc n) zero = refl
get_or_none (suc n) (suc q) = get_or_none n q

pub descriptors_of_none : (n : ℕ) → descriptors_of (replicate n None) ≡ empty
descriptors_of_none n = same_descriptors _ _ (λ q. get_descriptors_of (free_slots n) q ∙ get_or_none n q ∙ sym (get-empty nat_cmp q))

-- what a look-up in the slots finds
pub flattened : (found : Option (Option FileId)) → option_flatten found ≡ unwrap_or found None
flattened None = refl
flattened (Some slot) = refl

pub some_within : (slots : List (Option FileId)) (fd : ℕ) → IsSome (get_or slots fd None) → fd < length slots
some_within slots fd some =
    elim (cases_lt fd (length slots)) [
      | inl within ↦ within
      | inr past ↦ let nothing : get_or slots fd None ≡ None = get_or_past slots fd None past in absurd (false≢true (subst IsSome nothing some))
    ]

pub none_from_test : (slot : Option FileId) → is_some slot ≡ false → slot ≡ None
none_from_test None absent = refl
none_from_test (Some o) absent = absurd (false≢true (sym absent))

-- a slot that is written
module _ (slots : List (Option FileId)) (fd : ℕ) (within : fd < length slots) where
  get_written : (slot : Option FileId) (q : ℕ) → get (descriptors_of (set slots fd slot)) q ≡ cond (eq_by_cmp nat_cmp q fd) slot (get (descriptors_of slots) q)
  get_written slot q =
      elim (eqb_tells q fd) [
        | inl is ↦
            let same : q ≡ fd = is.1 in
            get_descriptors_of (set slots fd slot) q
            ∙ ap (λ k. get_or (set slots fd slot) k None) same
            ∙ get_or-set_same slots fd slot None within
            ∙ sym (ap (λ b. cond b slot (get (descriptors_of slots) q)) (tied q fd same))
        | inr is ↦
            let differ : q ≢ fd = is.1 in
            get_descriptors_of (set slots fd slot) q
            ∙ get_or-set_other slots fd q slot None differ
            ∙ sym (get_descriptors_of slots q)
            ∙ sym (ap (λ b. cond b slot (get (descriptors_of slots) q)) (apart q fd differ))
      ]

  pub placed : (file : FileId) → descriptors_of (set slots fd (Some file)) ≡ insert (descriptors_of slots) fd file
  placed file = same_descriptors _ _ (λ q. get_written (Some file) q ∙ sym (get-insert nat_cmp_total (descriptors_of slots) fd file q))

  pub freed : descriptors_of (set slots fd None) ≡ remove (descriptors_of slots) fd
  freed = same_descriptors _ _ (λ q. get_written None q ∙ sym (get-remove nat_cmp_total (descriptors_of slots) fd q))

-- a number that is free already
pub freed_already : (fds : Descriptors) (fd : ℕ) → get fds fd ≡ None → fds ≡ remove fds fd
freed_already fds fd free = same_descriptors _ _ (λ q. unchanged q ∙ sym (get-remove nat_cmp_total fds fd q))
  where
    unchanged : (q : ℕ) → get fds q ≡ cond (eq_by_cmp nat_cmp q fd) None (get fds q)
    unchanged q =
        elim (eqb_tells q fd) [
          | inl is ↦ let same : q ≡ fd = is.1 in ap (get fds) same ∙ free ∙ sym (ap (λ b. cond b None (get fds q)) (tied q fd same))
          | inr is ↦ let differ : q ≢ fd = is.1 in sym (ap (λ b. cond b None (get fds q)) (apart q fd differ))
        ]

-- a slot is free or has a descriptor
count_free : (slots : List (Option FileId)) (fd : ℕ) → count_by is_none slots + len (from_entries {R = nat_cmp} (entries_from fd slots)) ≡ length slots
count_free [] fd = let none : len (from_entries {R = nat_cmp} (entries_from fd [])) ≡ 0 = len-empty nat_cmp FileId in omega arith
count_free (None ∷ slots) fd =
    let free : Option FileId = None in
    let one : count_by is_none (free ∷ slots) ≡ 1 + count_by is_none slots = sum_by_from (λ slot. cond (is_none slot) 1 0) 1 slots in
    omega (arith, count_free slots (fd + 1))
count_free (Some o ∷ slots) fd =
    let rest : Descriptors = from_entries (entries_from (fd + 1) slots) in
    let absent : get rest fd ≡ None = get-from_entries nat_cmp_total (entries_from (fd + 1) slots) fd ∙ find_below slots (fd + 1) fd (omega arith) in
    let more : len (insert rest fd o) ≡ len rest + 1 = len-insert nat_cmp_total rest fd o ∙ ap (λ found. cond (is_some found) (len rest) (len rest + 1)) absent in
    let same : count_by is_none (Some o ∷ slots) ≡ 0 + count_by is_none slots = sum_by_from (λ slot. cond (is_none slot) 1 0) 0 slots in
    omega (arith, count_free slots (fd + 1))

pub free_and_taken : (slots : List (Option FileId)) → count_by is_none slots + len (descriptors_of slots) ≡ length slots
unfolding descriptors_of
free_and_taken slots = count_free slots 0
