-- The cells that a list of pages stands for.
use Rattle.std.proofs.Common.{◌≡◌, ℕ, zero, suc, ◌+◌, ◌-◌, ◌*◌, ◌/◌, ◌%◌, ◌^◌, ◌<◌, ◌≤◌, ◌≢◌, ◌⊎◌, inl, inr, Bool, true, false, cond, List, [], ◌∷◌, ◌++◌, length, get_or, set, take, drop, Option, Some, None, refl, sym, ap, subst, ◌∙◌, arith, ⊎_elim, eq-eqb}
use Rattle.std.proofs.lemmas.List.{map-set, set-get_or, get_or-set_same, get_or-set_other, length-map, length-take-le, length-drop, get_or-take, get_or-drop, get_or-map}
use Rattle.std.proofs.lemmas.Bool.{ne_eqb, cases_eq, cases_lt}
use Rattle.std.specs.List.{flat_map, range_with_len}
use Rattle.std.specs.FinMap as map
use Rattle.std.specs.FinMap.{get-from_entries, same_map, nat_cmp-IsAntisymmetric}
use Rattle.std.specs.FinMap.Entries.{find}
use Rattle.std.specs.Cmp.{nat_cmp_total, unsigned_tied}
use Rattle.std.specs.Ordering.{nat_cmp, eq_by_cmp}
use Rattle.elf_load.specs.Cells.{Cell, Cells}
use Rattle.elf_load.specs.declared.rights.Rights.{Rights}
use Rattle.elf_load.specs.Places.{place_of}
use Rattle.elf_load.specs.Room.{page_size}
use Rattle.elf_load.proofs.Places.{told, place_of_step, place_of_in, place_of_append_some, place_of_append_none, place_of_append_nowhere, place_of_range_in, place_of_range_out}
use Rattle.guest_mem.specs.declared.right.Right.{Right}
use Rattle.guest_mem.specs.Memory.{permits, permitted, byte_for, bytes_for, put_all}
use Rattle.guest_mem.specs.inside.Pages.{GuestPage, cell_in, cells_within, mapped_cells, numbers, Rewrites, IsPageTable}
use Rattle.guest_mem.proofs.CellLemmas.{get_put_all_in, get_put_all_out, get_put_all_none, bytes_for_all, bytes_for_none}

abbrev pub Entries : Type 0
Entries = List (ℕ × Cell)

abbrev look : ℕ → Entries → Option Cell
look q es = find nat_cmp q es

look_other : (q k : ℕ) (cell : Cell) (es : Entries) → q ≢ k → look q ((k, cell) ∷ es) ≡ look q es
look_other q k cell es apart = ap (λ (tied : Bool). cond tied (Some cell) (look q es)) (unsigned_tied q k ∙ ne_eqb q k apart)

look_same : (k : ℕ) (cell : Cell) (es : Entries) → look k ((k, cell) ∷ es) ≡ Some cell
look_same k cell es = ap (λ (tied : Bool). cond tied (Some cell) (look k es)) (unsigned_tied k k ∙ eq-eqb k k refl)

-- the first list that has a key decides
look_append_none : (q : ℕ) (xs ys : Entries) → look q xs ≡ None → look q (xs ++ ys) ≡ look q ys
look_append_none q [] ys none = refl
look_append_none q (x ∷ xs) ys none =
    let rest : look q xs ≡ None → look q (xs ++ ys) ≡ look q ys = look_append_none q xs ys in
    elim (eq_by_cmp nat_cmp q x.0) as (λ (tied : Bool). cond tied (Some x.1) (look q xs) ≡ None → cond tied (Some x.1) (look q (xs ++ ys)) ≡ look q ys) [ true ↦ λ none. cc | false ↦ λ none. rest none ] none

look_append_some : (q : ℕ) (xs ys : Entries) (cell : Cell) → look q xs ≡ Some cell → look q (xs ++ ys) ≡ Some cell
look_append_some q [] ys cell some = cc
look_append_some q (x ∷ xs) ys cell some =
    let rest : look q xs ≡ Some cell → look q (xs ++ ys) ≡ Some cell = look_append_some q xs ys cell in
    elim (eq_by_cmp nat_cmp q x.0) as (λ (tied : Bool). cond tied (Some x.1) (look q xs) ≡ Some cell → cond tied (Some x.1) (look q (xs ++ ys)) ≡ Some cell) [ true ↦ λ some. some | false ↦ λ some. rest some ] some

apart_sides : (m n : ℕ) → m ≢ n → (m < n) ⊎ (n < m)
apart_sides m n apart = ⊎_elim (λ (l : m < n). inl l) (λ (l : n ≤ m). inr (omega arith)) (cases_lt m n)

-- a page has the cells of its addresses alone
cells_within_out : (p : GuestPage) (o n q : ℕ) → (q < page_size * p.number + o) ⊎ (page_size * p.number + o + n ≤ q) → look q (cells_within p o n) ≡ None
unfolding cells_within
cells_within_out p o zero q out = refl
cells_within_out p o (suc n) q out =
    let apart : q ≢ page_size * p.number + o = ⊎_elim (λ l same. omega arith) (λ l same. omega arith) out in
    let later : (q < page_size * p.number + (o + 1)) ⊎ (page_size * p.number + (o + 1) + n ≤ q) = ⊎_elim (λ l. inl (omega arith)) (λ l. inr (omega arith)) out in
    look_other q (page_size * p.number + o) _ _ apart ∙ cells_within_out p (o + 1) n q later

cells_within_in : (p : GuestPage) (o n k : ℕ) → k < n → look (page_size * p.number + (o + k)) (cells_within p o n) ≡ Some (cell_in p (o + k))
unfolding cells_within
cells_within_in p o zero k l = absurd (omega arith)
cells_within_in p o (suc n) zero l =
    let here : o + 0 ≡ o = omega arith in
    subst (λ (x : ℕ). look (page_size * p.number + x) (cells_within p o (suc n)) ≡ Some (cell_in p x)) (sym here) (look_same (page_size * p.number + o) (cell_in p o) (cells_within p (o + 1) n))
cells_within_in p o (suc n) (suc k) l =
    let there : o + 1 + k ≡ o + suc k = omega arith in
    look_other (page_size * p.number + (o + suc k)) (page_size * p.number + o) (cell_in p o) (cells_within p (o + 1) n) (λ same. omega arith)
    ∙ subst (λ (x : ℕ). look (page_size * p.number + x) (cells_within p (o + 1) n) ≡ Some (cell_in p x)) there (cells_within_in p (o + 1) n k (omega arith))

look_page_in : (p : GuestPage) (o : ℕ) → o < page_size → look (page_size * p.number + o) (cells_within p 0 page_size) ≡ Some (cell_in p o)
look_page_in p o l = subst (λ (x : ℕ). look (page_size * p.number + x) (cells_within p 0 page_size) ≡ Some (cell_in p x)) (let e : 0 + o ≡ o = omega arith in e) (cells_within_in p 0 page_size o l)

look_page_out : (p : GuestPage) (n o : ℕ) → o < page_size → p.number ≢ n → look (page_size * n + o) (cells_within p 0 page_size) ≡ None
look_page_out p n o l apart =
    cells_within_out p 0 page_size (page_size * n + o)
    (⊎_elim (λ (below : n < p.number). inl (omega arith)) (λ (above : p.number < n). inr (omega arith)) (apart_sides n p.number (λ same. apart (sym same))))

-- the cells of all pages
abbrev pub entries_of : GuestPage → Entries
entries_of p = cells_within p 0 page_size

look_pages_some : (ps : List GuestPage) (n i o : ℕ) (d : GuestPage) → o < page_size → place_of (numbers ps) n ≡ Some i → look (page_size * n + o) (flat_map entries_of ps) ≡ Some (cell_in (get_or ps i d) o)
look_pages_some [] n i o d l is = cc
look_pages_some (p ∷ ps) n i o d l is =
    elim (place_of_step p.number (numbers ps) n) [
      | inl first ↦ let at : 0 ≡ i = cc in
          let found : look (page_size * n + o) (entries_of p) ≡ Some (cell_in p o) = subst (λ (m : ℕ). look (page_size * m + o) (entries_of p) ≡ Some (cell_in p o)) first.0 (look_page_in p o l) in
          subst (λ (x : ℕ). look (page_size * n + o) (flat_map entries_of (p ∷ ps)) ≡ Some (cell_in (get_or (p ∷ ps) x d) o)) at (look_append_some (page_size * n + o) (entries_of p) (flat_map entries_of ps) (cell_in p o) found)
      | inr later ↦ elim later [
        | inl nowhere ↦ cc
        | inr there ↦ let at : suc there.0 ≡ i = (let e : there.0 + 1 ≡ i = cc in omega arith) in
            let found : look (page_size * n + o) (flat_map entries_of (p ∷ ps)) ≡ Some (cell_in (get_or ps there.0 d) o) =
            look_append_none (page_size * n + o) (entries_of p) (flat_map entries_of ps) (look_page_out p n o l there.1) ∙ look_pages_some ps n there.0 o d l there.2 in
            subst (λ (x : ℕ). look (page_size * n + o) (flat_map entries_of (p ∷ ps)) ≡ Some (cell_in (get_or (p ∷ ps) x d) o)) at found
      ]
    ]

look_pages_none : (ps : List GuestPage) (n o : ℕ) → o < page_size → place_of (numbers ps) n ≡ None → look (page_size * n + o) (flat_map entries_of ps) ≡ None
look_pages_none [] n o l is = refl
look_pages_none (p ∷ ps) n o l is =
    elim (place_of_step p.number (numbers ps) n) [
      | inl first ↦ cc
      | inr later ↦ elim later [
        | inl nowhere ↦ look_append_none (page_size * n + o) (entries_of p) (flat_map entries_of ps) (look_page_out p n o l nowhere.0) ∙ look_pages_none ps n o l nowhere.1.0
        | inr there ↦ cc
      ]
    ]

pub get_cells : (ps : List GuestPage) (q : ℕ) → map.get (mapped_cells ps) q ≡ look q (flat_map entries_of ps)
unfolding mapped_cells
get_cells ps q = get-from_entries nat_cmp_total (flat_map entries_of ps) q

-- the cell at an offset of page n: that of the first page with the number, or none
pub get_cells_some : (ps : List GuestPage) (n i o : ℕ) (d : GuestPage) → o < page_size → place_of (numbers ps) n ≡ Some i → map.get (mapped_cells ps) (page_size * n + o) ≡ Some (cell_in (get_or ps i d) o)
get_cells_some ps n i o d l is = get_cells ps (page_size * n + o) ∙ look_pages_some ps n i o d l is

pub get_cells_none : (ps : List GuestPage) (n o : ℕ) → o < page_size → place_of (numbers ps) n ≡ None → map.get (mapped_cells ps) (page_size * n + o) ≡ None
get_cells_none ps n o l is = get_cells ps (page_size * n + o) ∙ look_pages_none ps n o l is

-- a fact at each address is one at each offset of each page
pub by_page : (P : ℕ → Type 0) → ((n o : ℕ) → o < page_size → P (page_size * n + o)) → (q : ℕ) → P q
by_page P at q = subst P (let e : page_size * (q / page_size) + q % page_size ≡ q = omega arith in e) (at (q / page_size) (q % page_size) (omega arith))

-- a page in the place of another with its number
pub numbers_set : (ps : List GuestPage) (i : ℕ) (p : GuestPage) → p.number ≡ get_or (numbers ps) i 0 → numbers (set ps i p) ≡ numbers ps
numbers_set ps i p same = map-set (λ (x : GuestPage). x.number) ps i p ∙ ap (λ (x : ℕ). set (numbers ps) i x) same ∙ set-get_or (numbers ps) i 0

same_cell : (b c : ℕ) (r s : Rights) → b ≡ c → r ≡ s → ◌≡◌ {A = Option Cell} (Some (record { byte = b; rights = r })) (Some (record { byte = c; rights = s }))
same_cell b c r s e f = cc

-- the cells of one page after such a write, the page's own and the others'
written_same : (cells : Cells) (n o : ℕ) (bytes : List ℕ) (old new : GuestPage) (q : ℕ) → Rewrites old new o bytes → q < page_size → map.get cells (page_size * n + q) ≡ Some (cell_in old q)
    → Some (cell_in new q) ≡ map.get (put_all cells (page_size * n + o) bytes) (page_size * n + q)
written_same cells n o bytes old new q writes l is =
    ⊎_elim (λ (below : q < o). outside (inl below))
    (λ (above : o ≤ q). ⊎_elim (λ (within : q < o + length bytes). inside above within) (λ (past : o + length bytes ≤ q). outside (inr past)) (cases_lt q (o + length bytes)))
    (cases_lt q o)
  where
    outside : (q < o) ⊎ (o + length bytes ≤ q) → Some (cell_in new q) ≡ map.get (put_all cells (page_size * n + o) bytes) (page_size * n + q)
    outside out =
        same_cell _ _ _ _ (writes.outside q out) writes.rights
        ∙ sym (get_put_all_out cells (page_size * n + o) bytes (page_size * n + q) (⊎_elim (λ (h : q < o). inl (omega arith)) (λ (h : o + length bytes ≤ q). inr (omega arith)) out) ∙ is)

    inside : o ≤ q → q < o + length bytes → Some (cell_in new q) ≡ map.get (put_all cells (page_size * n + o) bytes) (page_size * n + q)
    inside above within =
        let k : ℕ = q - o in
        let at : o + k ≡ q = omega arith in
        let there : page_size * n + o + k ≡ page_size * n + q = omega arith in
        let was : map.get cells (page_size * n + o + k) ≡ Some (cell_in old q) = subst (λ (x : ℕ). map.get cells x ≡ Some (cell_in old q)) (sym there) is in
        let now : map.get (put_all cells (page_size * n + o) bytes) (page_size * n + o + k) ≡ Some (record { byte = get_or bytes k 0; rights = old.rights }) =
        get_put_all_in cells (page_size * n + o) bytes k (cell_in old q) (omega arith) was in
        let byte : get_or new.bytes q 0 ≡ get_or bytes k 0 = subst (λ (x : ℕ). get_or new.bytes x 0 ≡ get_or bytes k 0) at (writes.inside k (omega arith)) in
        same_cell _ _ _ _ byte writes.rights ∙ sym (subst (λ (x : ℕ). map.get (put_all cells (page_size * n + o) bytes) x ≡ Some (record { byte = get_or bytes k 0; rights = old.rights })) there now)

-- a page in the place of the first with its number stands for the cells with bytes put into that page
pub cells_set : (ps : List GuestPage) (i n o : ℕ) (bytes : List ℕ) (new d : GuestPage) → place_of (numbers ps) n ≡ Some i → new.number ≡ n → Rewrites (get_or ps i d) new o bytes → mapped_cells (set ps i new) ≡ put_all (mapped_cells ps) (page_size * n + o) bytes
cells_set ps i n o bytes new d is numbered writes = same_map nat_cmp_total nat_cmp-IsAntisymmetric _ _ (by_page (λ q. map.get (mapped_cells (set ps i new)) q ≡ map.get (put_all (mapped_cells ps) (page_size * n + o) bytes) q) each)
  where
    found : (i < length (numbers ps)) × (get_or (numbers ps) i 0 ≡ n)
    found = place_of_in (numbers ps) n i is

    same_numbers : numbers (set ps i new) ≡ numbers ps
    same_numbers = numbers_set ps i new (numbered ∙ sym found.1)

    i_below : i < length ps
    i_below = omega (arith, found.0, length-map ps (λ (p : GuestPage). p.number))

    same_place : (j : ℕ) → place_of (numbers ps) n ≡ Some j → j ≡ i
    same_place j at = cc

    elsewhere : (m q : ℕ) → q < page_size → m ≢ n → (page_size * m + q < page_size * n + o) ⊎ (page_size * n + o + length bytes ≤ page_size * m + q)
    elsewhere m q l other =
        let fits : o + length bytes ≤ page_size = writes.fits in
        ⊎_elim (λ (below : m < n). inl (omega arith)) (λ (above : n < m). inr (omega arith)) (apart_sides m n other)

    at_page : (m q : ℕ) → q < page_size → m ≡ n → map.get (mapped_cells (set ps i new)) (page_size * m + q) ≡ map.get (put_all (mapped_cells ps) (page_size * n + o) bytes) (page_size * m + q)
    at_page m q l same =
        let now : map.get (mapped_cells (set ps i new)) (page_size * n + q) ≡ Some (cell_in new q) =
        get_cells_some (set ps i new) n i q d l (ap (λ (ns : List ℕ). place_of ns n) same_numbers ∙ is) ∙ ap (λ (p : GuestPage). Some (cell_in p q)) (get_or-set_same ps i new d i_below) in
        subst (λ (x : ℕ). map.get (mapped_cells (set ps i new)) (page_size * x + q) ≡ map.get (put_all (mapped_cells ps) (page_size * n + o) bytes) (page_size * x + q)) (sym same)
        (now ∙ written_same (mapped_cells ps) n o bytes (get_or ps i d) new q writes l (get_cells_some ps n i q d l is))

    each : (m q : ℕ) → q < page_size → map.get (mapped_cells (set ps i new)) (page_size * m + q) ≡ map.get (put_all (mapped_cells ps) (page_size * n + o) bytes) (page_size * m + q)
    each m q l =
        ⊎_elim (λ (none : place_of (numbers ps) m ≡ None).
        get_cells_none (set ps i new) m q l (ap (λ (ns : List ℕ). place_of ns m) same_numbers ∙ none) ∙ sym (get_put_all_none (mapped_cells ps) (page_size * n + o) bytes (page_size * m + q) (get_cells_none ps m q l none)))
        (λ (some : (j : ℕ) × (place_of (numbers ps) m ≡ Some j)).
        let j : ℕ = some.0 in
        let there : (j < length (numbers ps)) × (get_or (numbers ps) j 0 ≡ m) = place_of_in (numbers ps) m j some.1 in
        let now : map.get (mapped_cells (set ps i new)) (page_size * m + q) ≡ Some (cell_in (get_or (set ps i new) j d) q) =
        get_cells_some (set ps i new) m j q d l (ap (λ (ns : List ℕ). place_of ns m) same_numbers ∙ some.1) in
        let was : map.get (mapped_cells ps) (page_size * m + q) ≡ Some (cell_in (get_or ps j d) q) = get_cells_some ps m j q d l some.1 in
        ⊎_elim (λ (same : j ≡ i). at_page m q l (sym there.1 ∙ ap (λ (x : ℕ). get_or (numbers ps) x 0) same ∙ found.1))
        (λ (apart : j ≢ i).
        let other : m ≢ n = λ (same : m ≡ n). apart (same_place j (subst (λ (x : ℕ). place_of (numbers ps) x ≡ Some j) same some.1)) in
        now ∙ ap (λ (p : GuestPage). Some (cell_in p q)) (get_or-set_other ps i j new d apart)
        ∙ sym (get_put_all_out (mapped_cells ps) (page_size * n + o) bytes (page_size * m + q) (elsewhere m q l other) ∙ was))
        (cases_eq j i))
        (told (place_of (numbers ps) m))

-- where a table finds a page
module _ (front ns : List ℕ) (heap : ℕ) (table : IsPageTable front ns heap) where
  abbrev more : List ℕ
  more = range_with_len heap (length ns - length front)

  pub place_of_heap : (n k : ℕ) → n ≡ heap + k → k < length ns - length front → place_of ns n ≡ Some (length front + k)
  place_of_heap n k at l =
      let behind : place_of more n ≡ Some k = subst (λ (x : ℕ). place_of more x ≡ Some k) (sym at) (place_of_range_in heap (length ns - length front) k l) in
      ap (λ (ms : List ℕ). place_of ms n) table.listed ∙ place_of_append_none front more n k (table.apart n (omega arith) (omega (arith, table.bounded))) behind

  pub place_of_fixed : (n i : ℕ) → place_of front n ≡ Some i → place_of ns n ≡ Some i
  place_of_fixed n i is = ap (λ (ms : List ℕ). place_of ms n) table.listed ∙ place_of_append_some front more n i is

  pub place_of_none : (n : ℕ) → (n < heap) ⊎ (heap + (length ns - length front) ≤ n) → place_of front n ≡ None → place_of ns n ≡ None
  place_of_none n out none = ap (λ (ms : List ℕ). place_of ms n) table.listed ∙ place_of_append_nowhere front more n none (place_of_range_out heap (length ns - length front) n out)

-- what an access asks of the page that holds its address
pub byte_for_some : (right : Right) (ps : List GuestPage) (n i o : ℕ) (d : GuestPage) → o < page_size → place_of (numbers ps) n ≡ Some i → permits right (get_or ps i d).rights ≡ true → byte_for right (mapped_cells ps) (page_size * n + o) ≡ Some (get_or (get_or ps i d).bytes o 0)
byte_for_some right ps n i o d l is may = ap (permitted right) (get_cells_some ps n i o d l is) ∙ ap (λ (b : Bool). cond b (Some (get_or (get_or ps i d).bytes o 0)) None) may

pub byte_for_denied : (right : Right) (ps : List GuestPage) (n i o : ℕ) (d : GuestPage) → o < page_size → place_of (numbers ps) n ≡ Some i → permits right (get_or ps i d).rights ≡ false → byte_for right (mapped_cells ps) (page_size * n + o) ≡ None
byte_for_denied right ps n i o d l is may = ap (permitted right) (get_cells_some ps n i o d l is) ∙ ap (λ (b : Bool). cond b (Some (get_or (get_or ps i d).bytes o 0)) None) may

byte_for_none : (right : Right) (ps : List GuestPage) (n o : ℕ) → o < page_size → place_of (numbers ps) n ≡ None → byte_for right (mapped_cells ps) (page_size * n + o) ≡ None
byte_for_none right ps n o l is = ap (permitted right) (get_cells_none ps n o l is)

pub within_some : (right : Right) (ps : List GuestPage) (a i k : ℕ) (d : GuestPage) → a % page_size + k ≤ page_size → length (get_or ps i d).bytes ≡ page_size → place_of (numbers ps) (a / page_size) ≡ Some i → permits right (get_or ps i d).rights ≡ true
    → bytes_for right k (mapped_cells ps) a ≡ Some (take k (drop (a % page_size) (get_or ps i d).bytes))
within_some right ps a i k d fits whole is may =
    let bytes : List ℕ = (get_or ps i d).bytes in
    let part : List ℕ = take k (drop (a % page_size) bytes) in
    let as_long : length part ≡ k = length-take-le k (drop (a % page_size) bytes) (omega (arith, length-drop (a % page_size) bytes)) in
    let each : (o : ℕ) → o < length part → byte_for right (mapped_cells ps) (a + o) ≡ Some (get_or part o 0) =
    λ o l.
    let there : page_size * (a / page_size) + (a % page_size + o) ≡ a + o = omega arith in
    let read : get_or part o 0 ≡ get_or bytes (a % page_size + o) 0 = get_or-take k (drop (a % page_size) bytes) o 0 (omega arith) ∙ get_or-drop (a % page_size) bytes o 0 in
    subst (λ (x : ℕ). byte_for right (mapped_cells ps) x ≡ Some (get_or part o 0)) there (byte_for_some right ps (a / page_size) i (a % page_size + o) d (omega arith) is may ∙ ap (λ (x : ℕ). Some x) (sym read)) in
    subst (λ (x : ℕ). bytes_for right x (mapped_cells ps) a ≡ Some part) as_long (bytes_for_all right (mapped_cells ps) part a each)

pub within_denied : (right : Right) (ps : List GuestPage) (a i k : ℕ) (d : GuestPage) → 0 < k → place_of (numbers ps) (a / page_size) ≡ Some i → permits right (get_or ps i d).rights ≡ false → bytes_for right k (mapped_cells ps) a ≡ None
within_denied right ps a i k d some is may =
    bytes_for_none right (mapped_cells ps) k a 0 some
    (subst (λ (x : ℕ). byte_for right (mapped_cells ps) x ≡ None) (let e : page_size * (a / page_size) + a % page_size ≡ a + 0 = omega arith in e) (byte_for_denied right ps (a / page_size) i (a % page_size) d (omega arith) is may))

pub within_none : (right : Right) (ps : List GuestPage) (a k : ℕ) → 0 < k → place_of (numbers ps) (a / page_size) ≡ None → bytes_for right k (mapped_cells ps) a ≡ None
within_none right ps a k some is =
    bytes_for_none right (mapped_cells ps) k a 0 some
    (subst (λ (x : ℕ). byte_for right (mapped_cells ps) x ≡ None) (let e : page_size * (a / page_size) + a % page_size ≡ a + 0 = omega arith in e) (byte_for_none right ps (a / page_size) (a % page_size) (omega arith) is))

-- a write within the page that holds an address
numbered : (ps : List GuestPage) (n i : ℕ) (d : GuestPage) → place_of (numbers ps) n ≡ Some i → (get_or ps i d).number ≡ n
numbered ps n i d is =
    let found : (i < length (numbers ps)) × (get_or (numbers ps) i 0 ≡ n) = place_of_in (numbers ps) n i is in
    let below : i < length ps = omega (arith, found.0, length-map ps (λ (p : GuestPage). p.number)) in
    sym (get_or-map (λ (p : GuestPage). p.number) ps i d 0 below) ∙ found.1

pub numbers_put : (ps : List GuestPage) (n i o : ℕ) (bytes : List ℕ) (new d : GuestPage) → place_of (numbers ps) n ≡ Some i → Rewrites (get_or ps i d) new o bytes → numbers (set ps i new) ≡ numbers ps
numbers_put ps n i o bytes new d is writes = numbers_set ps i new (writes.number ∙ numbered ps n i d is ∙ sym (place_of_in (numbers ps) n i is).1)

pub cells_put : (ps : List GuestPage) (a i : ℕ) (bytes : List ℕ) (new d : GuestPage) → place_of (numbers ps) (a / page_size) ≡ Some i → Rewrites (get_or ps i d) new (a % page_size) bytes → mapped_cells (set ps i new) ≡ put_all (mapped_cells ps) a bytes
cells_put ps a i bytes new d is writes =
    subst (λ (x : ℕ). mapped_cells (set ps i new) ≡ put_all (mapped_cells ps) x bytes) (let e : page_size * (a / page_size) + a % page_size ≡ a = omega arith in e)
    (cells_set ps i (a / page_size) (a % page_size) bytes new d is (writes.number ∙ numbered ps (a / page_size) i d is) writes)

-- no page has an address at or past 2^32
pub byte_for_past : (right : Right) (ps : List GuestPage) (a : ℕ) → ((n : ℕ) → 2 ^ 20 ≤ n → place_of (numbers ps) n ≡ None) → 2 ^ 32 ≤ a → byte_for right (mapped_cells ps) a ≡ None
byte_for_past right ps a low l =
    subst (λ (x : ℕ). byte_for right (mapped_cells ps) x ≡ None) (let e : page_size * (a / page_size) + a % page_size ≡ a = omega arith in e)
    (byte_for_none right ps (a / page_size) (a % page_size) (omega arith) (low (a / page_size) (omega arith)))
