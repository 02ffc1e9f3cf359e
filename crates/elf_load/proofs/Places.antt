-- Where numbers stand in a list.
use Rattle.std.proofs.Common.{◌≡◌, ℕ, zero, suc, ◌+◌, ◌<◌, ◌≤◌, ◌≢◌, ◌⊎◌, inl, inr, Bool, true, false, cond, ◌||◌, List, [], ◌∷◌, ◌++◌, length, get_or, take, Option, Some, None, refl, sym, ap, subst, ◌∙◌, arith, ⊎_elim, eq-eqb, eqb}
use Rattle.std.specs.Prelude.{◌==◌}
use Rattle.std.specs.Option.{option_map}
use Rattle.std.specs.Ordering.{nat_cmp}
use Rattle.std.specs.List.{list_any, range_with_len}
use Rattle.std.specs.FinSet.{len, len-empty}
use Rattle.std.proofs.lemmas.Bool.{ne_eqb, cases_eq}
use Rattle.std.proofs.lemmas.List.{length-map, length-take-le, map-append, take_more}
use Rattle.std.proofs.lemmas.List.Folds.{list_any-append, list_any_at}
use Rattle.elf_load.specs.Places.{page_numbers, place_of}
use Rattle.elf_load.specs.declared.page.Page.{Page}
use Rattle.elf_load.specs.inside.PageIndex.{StandOnce}
use Rattle.elf_load.proofs.Numbers.{set_of, same_sets, len_push}

-- what an option holds
pub told : {A : Type 0} (o : Option A) → (o ≡ None) ⊎ ((x : A) × (o ≡ Some x))
told None = inl refl
told (Some x) = inr (x, refl)

-- one step of the search for a place
place_of_same : (m : ℕ) (ms : List ℕ) (n : ℕ) → m ≡ n → place_of (m ∷ ms) n ≡ Some 0
place_of_same m ms n same = ap (λ (b : Bool). cond b (Some 0) (option_map (λ i. i + 1) (place_of ms n))) (eq-eqb m n same)

place_of_other : (m : ℕ) (ms : List ℕ) (n : ℕ) → m ≢ n → place_of (m ∷ ms) n ≡ option_map (λ i. i + 1) (place_of ms n)
place_of_other m ms n apart = ap (λ (b : Bool). cond b (Some 0) (option_map (λ i. i + 1) (place_of ms n))) (ne_eqb m n apart)

place_of_later : (m : ℕ) (ms : List ℕ) (n j : ℕ) → m ≢ n → place_of ms n ≡ Some j → place_of (m ∷ ms) n ≡ Some (j + 1)
place_of_later m ms n j apart is = place_of_other m ms n apart ∙ ap (option_map (λ i. i + 1)) is

pub place_of_nowhere : (m : ℕ) (ms : List ℕ) (n : ℕ) → m ≢ n → place_of ms n ≡ None → place_of (m ∷ ms) n ≡ None
place_of_nowhere m ms n apart is = place_of_other m ms n apart ∙ ap (option_map (λ i. i + 1)) is

-- where the first of a list stands, and where a later one does
pub place_of_step : (m : ℕ) (ms : List ℕ) (n : ℕ) → ((m ≡ n) × (place_of (m ∷ ms) n ≡ Some 0)) ⊎ ((m ≢ n) × ((place_of ms n ≡ None) × (place_of (m ∷ ms) n ≡ None)) ⊎ ((j : ℕ) × (m ≢ n) × (place_of ms n ≡ Some j) × (place_of (m ∷ ms) n ≡ Some (j + 1))))
place_of_step m ms n =
    ⊎_elim (λ (same : m ≡ n). inl (same, place_of_same m ms n same))
    (λ (apart : m ≢ n). inr (⊎_elim (λ none. inl (apart, (none, place_of_nowhere m ms n apart none)))
    (λ some. inr (some.0, apart, some.1, place_of_later m ms n some.0 apart some.1)) (told (place_of ms n))))
    (cases_eq m n)

-- what stands at a place that is found
pub place_of_in : (ns : List ℕ) (n i : ℕ) → place_of ns n ≡ Some i → (i < length ns) × (get_or ns i 0 ≡ n)
place_of_in [] n i is = cc
place_of_in (m ∷ ms) n i is =
    elim (place_of_step m ms n) [
      | inl first ↦ let at : 0 ≡ i = cc in subst (λ (x : ℕ). (x < length (m ∷ ms)) × (get_or (m ∷ ms) x 0 ≡ n)) at (omega arith, first.0)
      | inr later ↦ elim later [
        | inl nowhere ↦ cc
        | inr there ↦ let at : suc there.0 ≡ i = (let e : there.0 + 1 ≡ i = cc in omega arith) in
            let h : (there.0 < length ms) × (get_or ms there.0 0 ≡ n) = place_of_in ms n there.0 there.2 in
            subst (λ (x : ℕ). (x < length (m ∷ ms)) × (get_or (m ∷ ms) x 0 ≡ n)) at (omega (arith, h.0), h.1)
      ]
    ]

-- a list of page numbers behind another
pub place_of_append_some : (ms ns : List ℕ) (n i : ℕ) → place_of ms n ≡ Some i → place_of (ms ++ ns) n ≡ Some i
place_of_append_some [] ns n i is = cc
place_of_append_some (m ∷ ms) ns n i is =
    elim (place_of_step m ms n) [
      | inl first ↦ place_of_same m (ms ++ ns) n first.0 ∙ (let e : ◌≡◌ {A = Option ℕ} (Some 0) (Some i) = cc in e)
      | inr later ↦ elim later [
        | inl nowhere ↦ cc
        | inr there ↦ place_of_later m (ms ++ ns) n there.0 there.1 (place_of_append_some ms ns n there.0 there.2) ∙ (let e : ◌≡◌ {A = Option ℕ} (Some (there.0 + 1)) (Some i) = cc in e)
      ]
    ]

pub place_of_append_none : (ms ns : List ℕ) (n j : ℕ) → place_of ms n ≡ None → place_of ns n ≡ Some j → place_of (ms ++ ns) n ≡ Some (length ms + j)
place_of_append_none [] ns n j none is = is ∙ ap (λ (x : ℕ). Some x) (let e : j ≡ 0 + j = omega arith in e)
place_of_append_none (m ∷ ms) ns n j none is =
    elim (place_of_step m ms n) [
      | inl first ↦ cc
      | inr later ↦ elim later [
        | inl nowhere ↦ place_of_later m (ms ++ ns) n (length ms + j) nowhere.0 (place_of_append_none ms ns n j nowhere.1.0 is) ∙ ap (λ (x : ℕ). Some x) (let e : length ms + j + 1 ≡ suc (length ms) + j = omega arith in e)
        | inr there ↦ cc
      ]
    ]

pub place_of_append_nowhere : (ms ns : List ℕ) (n : ℕ) → place_of ms n ≡ None → place_of ns n ≡ None → place_of (ms ++ ns) n ≡ None
place_of_append_nowhere [] ns n none is = is
place_of_append_nowhere (m ∷ ms) ns n none is =
    elim (place_of_step m ms n) [
      | inl first ↦ cc
      | inr later ↦ elim later [
        | inl nowhere ↦ place_of_nowhere m (ms ++ ns) n nowhere.0 (place_of_append_nowhere ms ns n nowhere.1.0 is)
        | inr there ↦ cc
      ]
    ]

-- numbers that rise
pub place_of_range_in : (a count k : ℕ) → k < count → place_of (range_with_len a count) (a + k) ≡ Some k
place_of_range_in a zero k l = absurd (omega arith)
place_of_range_in a (suc count) zero l = place_of_same a (range_with_len (a + 1) count) (a + 0) (omega arith)
place_of_range_in a (suc count) (suc k) l =
    let rest : place_of (range_with_len (a + 1) count) (a + suc k) ≡ Some k =
    subst (λ (x : ℕ). place_of (range_with_len (a + 1) count) x ≡ Some k) (let e : a + 1 + k ≡ a + suc k = omega arith in e) (place_of_range_in (a + 1) count k (omega arith)) in
    place_of_later a (range_with_len (a + 1) count) (a + suc k) k (λ same. omega arith) rest ∙ ap (λ (x : ℕ). Some x) (let e : k + 1 ≡ suc k = omega arith in e)

pub place_of_range_out : (a count n : ℕ) → (n < a) ⊎ (a + count ≤ n) → place_of (range_with_len a count) n ≡ None
place_of_range_out a zero n out = refl
place_of_range_out a (suc count) n out =
    let apart : a ≢ n = ⊎_elim (λ l same. omega arith) (λ l same. omega arith) out in
    let later : (n < a + 1) ⊎ (a + 1 + count ≤ n) = ⊎_elim (λ l. inl (omega arith)) (λ l. inr (omega arith)) out in
    place_of_nowhere a (range_with_len (a + 1) count) n apart (place_of_range_out (a + 1) count n later)

-- one page number behind others
one_other : (m n : ℕ) → n ≢ m → place_of (m ∷ []) n ≡ None
one_other m n ne = place_of_nowhere m [] n (λ same. ne (sym same)) refl

pub pushed_known : (ms : List ℕ) (m j : ℕ) → place_of ms m ≡ Some j → (n : ℕ) → place_of (ms ++ m ∷ []) n ≡ place_of ms n
pushed_known ms m j is n =
    ⊎_elim (λ (none : place_of ms n ≡ None).
    let ne : n ≢ m = λ (same : n ≡ m). (let at : place_of ms m ≡ None = subst (λ (x : ℕ). place_of ms x ≡ None) same none in cc) in
    place_of_append_nowhere ms (m ∷ []) n none (one_other m n ne) ∙ sym none)
    (λ (some : (k : ℕ) × (place_of ms n ≡ Some k)). place_of_append_some ms (m ∷ []) n some.0 some.1 ∙ sym some.1)
    (told (place_of ms n))

pub pushed_new : (ms : List ℕ) (m : ℕ) → place_of ms m ≡ None → (n : ℕ) → place_of (ms ++ m ∷ []) n ≡ cond (eqb n m) (Some (length ms)) (place_of ms n)
pushed_new ms m none n =
    ⊎_elim (λ (same : n ≡ m).
    place_of_append_none ms (m ∷ []) n 0 (subst (λ (x : ℕ). place_of ms x ≡ None) (sym same) none) (place_of_same m [] n (sym same))
    ∙ ap (λ (x : ℕ). Some x) (let e : length ms + 0 ≡ length ms = omega arith in e) ∙ sym (ap (λ (b : Bool). cond b (Some (length ms)) (place_of ms n)) (eq-eqb n m same)))
    (λ (ne : n ≢ m). behind ne ∙ sym (ap (λ (b : Bool). cond b (Some (length ms)) (place_of ms n)) (ne_eqb n m ne)))
    (cases_eq n m)
  where
    behind : n ≢ m → place_of (ms ++ m ∷ []) n ≡ place_of ms n
    behind ne =
        ⊎_elim (λ (nowhere : place_of ms n ≡ None). place_of_append_nowhere ms (m ∷ []) n nowhere (one_other m n ne) ∙ sym nowhere)
        (λ (some : (k : ℕ) × (place_of ms n ≡ Some k)). place_of_append_some ms (m ∷ []) n some.0 some.1 ∙ sym some.1)
        (told (place_of ms n))

-- one page more
pub page_numbers-more : (ps : List Page) (i : ℕ) (p : Page) → i < length ps → p ≡ get_or ps i p → page_numbers (take (i + 1) ps) ≡ page_numbers (take i ps) ++ p.number ∷ []
page_numbers-more ps i p l is =
    ap page_numbers (take_more ps i p l) ∙ map-append (λ (x : Page). x.number) (take i ps) (get_or ps i p ∷ []) ∙ ap (λ (x : Page). page_numbers (take i ps) ++ x.number ∷ []) (sym is)

pub length_numbers_so_far : (ps : List Page) (i : ℕ) → i ≤ length ps → length (page_numbers (take i ps)) ≡ i
length_numbers_so_far ps i l = length-map (take i ps) (λ (x : Page). x.number) ∙ length-take-le i ps l

-- numbers that are as many as are told apart stand once each
or_swap : (b c : Bool) → (b || c) ≡ (c || (b || false))
or_swap true true = refl
or_swap true false = refl
or_swap false true = refl
or_swap false false = refl

at_the_end : (x : ℕ) (xs : List ℕ) → set_of (x ∷ xs) ≡ set_of (xs ++ x ∷ [])
at_the_end x xs = same_sets (x ∷ xs) (xs ++ x ∷ []) (λ q. or_swap (x == q) (list_any (λ y. y == q) xs) ∙ sym (list_any-append (λ y. y == q) xs (x ∷ [])))

len_first : (x : ℕ) (xs : List ℕ) → len (set_of (x ∷ xs)) ≡ cond (list_any (λ y. y == x) xs) (len (set_of xs)) (len (set_of xs) + 1)
len_first x xs = ap len (at_the_end x xs) ∙ len_push xs x

one_at_most : (b : Bool) (k n m : ℕ) → k ≡ cond b n (n + 1) → n ≤ m → k ≤ suc m
one_at_most true k n m is l = omega arith
one_at_most false k n m is l = omega arith

len_le : (xs : List ℕ) → len (set_of xs) ≤ length xs
len_le [] = omega (arith, len-empty nat_cmp)
len_le (x ∷ xs) = one_at_most _ _ _ _ (len_first x xs) (len_le xs)

new_first : (b : Bool) (n m : ℕ) → suc m ≡ cond b n (n + 1) → n ≤ m → (b ≡ false) × (m ≡ n)
new_first true n m is l = absurd (omega arith)
new_first false n m is l = (refl, omega arith)

pub stand_once : (ns : List ℕ) → length ns ≡ len (set_of ns) → StandOnce ns
stand_once [] counted i l = absurd (omega arith)
stand_once (x ∷ xs) counted zero l = place_of_same x xs x refl
stand_once (x ∷ xs) counted (suc i) l =
    let new : (list_any (λ y. y == x) xs ≡ false) × (length xs ≡ len (set_of xs)) = new_first _ _ _ (counted ∙ len_first x xs) (len_le xs) in
    let apart : x ≢ get_or xs i 0 = λ same. (let there : list_any (λ y. y == x) xs ≡ true = list_any_at (λ y. y == x) xs i 0 (omega arith) (eq-eqb (get_or xs i 0) x (sym same)) in cc) in
    place_of_later x xs (get_or xs i 0) i apart (stand_once xs new.1 i (omega arith)) ∙ ap (λ (k : ℕ). Some k) (let e : i + 1 ≡ suc i = omega arith in e)
