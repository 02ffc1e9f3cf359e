-- Pages that are mapped and unmapped.
use Rattle.std.proofs.Common.{◌≡◌, ℕ, zero, suc, ◌+◌, ◌-◌, ◌*◌, ◌<◌, ◌≤◌, ◌⊎◌, inl, inr, Bool, true, false, cond, not, ◌&&◌, List, [], ◌∷◌, ◌++◌, length, get_or, take, drop, append_assoc, Option, Some, None, map, replicate, vec_len, refl, sym, ap, subst, ◌∙◌, arith, ⊎_elim, ltb, leb, Equal}
use Rattle.std.proofs.lemmas.Bool.{cases_lt, lt-ltb, le-ltb, le-leb}
use Rattle.std.proofs.lemmas.Bool.Decides.{leb_tells}
use Rattle.std.proofs.lemmas.List.{append-nil, length-map, length-append, length-take-le, get_or_append_left, get_or-append-add, get_or-take, map-append, take-map, take-append-drop, get_or-map, get_or-replicate, get_or_past, length-replicate}
use Rattle.std.proofs.lemmas.Simd.{map-map}
use Rattle.std.proofs.lemmas.List.FromFn.{length-range_with_len}
use Rattle.std.specs.List.{range_with_len, flat_map, All}
use Rattle.std.specs.FinMap as finmap
use Rattle.std.specs.FinMap.{from_entries, get-retain_keys, same_map, nat_cmp-IsAntisymmetric}
use Rattle.std.specs.Cmp.{nat_cmp_total, ranked}
use Rattle.elf_load.specs.Cells.{Cell, Cells, cells_from, cells_of_page, cells_of}
use Rattle.elf_load.specs.declared.page.Page.{Page}
use Rattle.elf_load.specs.Places.{page_numbers, place_of}
use Rattle.elf_load.specs.Room.{page_size}
use Rattle.elf_load.proofs.Places.{told, place_of_in, place_of_append_some, place_of_append_none, place_of_append_nowhere, place_of_range_in, place_of_range_out}
use Rattle.guest_mem.specs.Break.{zero_cell, with_zeros, without, room_pages}
use Rattle.guest_mem.specs.inside.Pages.{GuestPage, of_image, zeros, zero_page, zero_pages, cell_in, cells_within, mapped_cells, numbers, AreZeroPages, IsPageTable}
use Rattle.guest_mem.proofs.CellLemmas.{get-insert_same, get-insert_other}
use Rattle.guest_mem.proofs.PageLemmas.{Entries, entries_of, by_page, place_of_none, get_cells_some, get_cells_none}

-- the cells with zeros over a span
pub get_with_zeros_in : (cells : Cells) (from n q : ℕ) → from ≤ q → q < from + n → finmap.get (with_zeros cells from n) q ≡ Some zero_cell
unfolding with_zeros
get_with_zeros_in cells from zero q above below = absurd (omega arith)
get_with_zeros_in cells from (suc n) q above below =
    ⊎_elim (λ (earlier : q < from + n). get-insert_other (with_zeros cells from n) (from + n) zero_cell q (λ same. omega arith) ∙ get_with_zeros_in cells from n q above earlier)
    (λ (last : from + n ≤ q). subst (λ (x : ℕ). finmap.get (finmap.insert (with_zeros cells from n) (from + n) zero_cell) x ≡ Some zero_cell) (let e : from + n ≡ q = omega arith in e) (get-insert_same (with_zeros cells from n) (from + n) zero_cell))
    (cases_lt q (from + n))

pub get_with_zeros_out : (cells : Cells) (from n q : ℕ) → (q < from) ⊎ (from + n ≤ q) → finmap.get (with_zeros cells from n) q ≡ finmap.get cells q
unfolding with_zeros
get_with_zeros_out cells from zero q out = refl
get_with_zeros_out cells from (suc n) q out =
    get-insert_other (with_zeros cells from n) (from + n) zero_cell q (⊎_elim (λ (l : q < from) same. omega arith) (λ (l : from + suc n ≤ q) same. omega arith) out)
    ∙ get_with_zeros_out cells from n q (⊎_elim (λ (l : q < from). inl l) (λ (l : from + suc n ≤ q). inr (omega arith)) out)

pub with_zeros_none : (cells : Cells) (from : ℕ) → with_zeros cells from 0 ≡ cells
unfolding with_zeros
with_zeros_none cells from = refl

-- the cells without a span
get_without : (cells : Cells) (from to q : ℕ) → finmap.get (without cells from to) q ≡ cond (not (leb from q && ltb q to)) (finmap.get cells q) None
get_without cells from to q = get-retain_keys cells (λ a. not (leb from a && ltb a to)) q (λ x tie. ap (λ (a : ℕ). not (leb from a && ltb a to)) (sym (ranked q x Equal (sym tie))))

outside_test : (from to q : ℕ) → (q < from) ⊎ (to ≤ q) → not (leb from q && ltb q to) ≡ true
outside_test from to q out =
    ⊎_elim (λ (l : q < from). let no : leb from q ≡ false = elim (leb_tells from q) [ inl low ↦ absurd (omega (arith, low.1)) | inr high ↦ high.0 ] in rw no refl)
    (λ (l : to ≤ q). rw (le-ltb q to l) (elim (leb from q) as (λ (b : Bool). not (b && false) ≡ true) [ true ↦ refl | false ↦ refl ])) out

inside_test : (from to q : ℕ) → from ≤ q → q < to → not (leb from q && ltb q to) ≡ false
inside_test from to q above below = rw (le-leb from q above, lt-ltb q to below) refl

pub get_without_out : (cells : Cells) (from to q : ℕ) → (q < from) ⊎ (to ≤ q) → finmap.get (without cells from to) q ≡ finmap.get cells q
get_without_out cells from to q out = get_without cells from to q ∙ ap (λ (b : Bool). cond b (finmap.get cells q) None) (outside_test from to q out)

pub get_without_in : (cells : Cells) (from to q : ℕ) → from ≤ q → q < to → finmap.get (without cells from to) q ≡ None
get_without_in cells from to q above below = get_without cells from to q ∙ ap (λ (b : Bool). cond b (finmap.get cells q) None) (inside_test from to q above below)

pub without_none : (cells : Cells) (from to : ℕ) → to ≤ from → without cells from to ≡ cells
without_none cells from to l = same_map nat_cmp_total nat_cmp-IsAntisymmetric _ _ (λ q. get_without_out cells from to q (⊎_elim (λ (below : q < from). inl below) (λ (above : from ≤ q). inr (omega arith)) (cases_lt q from)))

-- pages of zeros behind others
pub range_append : (a m n : ℕ) → range_with_len a m ++ range_with_len (a + m) n ≡ range_with_len a (m + n)
range_append a zero n = let at : a + 0 ≡ a = omega arith in let all : 0 + n ≡ n = omega arith in rw (at, all) refl
range_append a (suc m) n = let at : a + suc m ≡ a + 1 + m = omega arith in let all : suc m + n ≡ suc (m + n) = omega arith in rw (at, all) (ap (λ (xs : List ℕ). a ∷ xs) (range_append (a + 1) m n))

pub take_range : (a m n : ℕ) → m ≤ n → take m (range_with_len a n) ≡ range_with_len a m
take_range a zero n l = refl
take_range a (suc m) zero l = absurd (omega arith)
take_range a (suc m) (suc n) l = ap (λ (xs : List ℕ). a ∷ xs) (take_range (a + 1) m n (omega arith))

drop_range : (a m n : ℕ) → drop m (range_with_len a n) ≡ range_with_len (a + m) (n - m)
drop_range a zero n = let at : a + 0 ≡ a = omega arith in let all : n - 0 ≡ n = omega arith in rw (at, all) refl
drop_range a (suc m) zero = let none : 0 - suc m ≡ 0 = omega arith in rw none refl
drop_range a (suc m) (suc n) = let at : a + suc m ≡ a + 1 + m = omega arith in let all : suc n - suc m ≡ n - m = omega arith in rw (at, all) (drop_range (a + 1) m n)

pub numbers_append : (ps qs : List GuestPage) → numbers (ps ++ qs) ≡ numbers ps ++ numbers qs
numbers_append ps qs = map-append (λ (p : GuestPage). p.number) ps qs

-- some page of a list that has one
a_page : (ps : List GuestPage) → 0 < length ps → GuestPage
a_page [] l = absurd (omega arith)
a_page (p ∷ ps) l = p

pub cells_grown : (ps fresh : List GuestPage) (first count : ℕ) → AreZeroPages fresh first count → ((n : ℕ) → first ≤ n → n < first + count → place_of (numbers ps) n ≡ None)
    → mapped_cells (ps ++ fresh) ≡ with_zeros (mapped_cells ps) (page_size * first) (page_size * count)
cells_grown ps fresh first count zeros apart =
    same_map nat_cmp_total nat_cmp-IsAntisymmetric _ _ (by_page (λ q. finmap.get (mapped_cells (ps ++ fresh)) q ≡ finmap.get (with_zeros (mapped_cells ps) (page_size * first) (page_size * count)) q) each)
  where
    all : numbers (ps ++ fresh) ≡ numbers ps ++ range_with_len first count
    all = numbers_append ps fresh ∙ ap (λ (ns : List ℕ). numbers ps ++ ns) zeros.numbered

    placed : (n : ℕ) (o : Option ℕ) → place_of (numbers ps ++ range_with_len first count) n ≡ o → place_of (numbers (ps ++ fresh)) n ≡ o
    placed n o is = ap (λ (ns : List ℕ). place_of ns n) all ∙ is

    new_page : (n o : ℕ) → o < page_size → first ≤ n → n < first + count → finmap.get (mapped_cells (ps ++ fresh)) (page_size * n + o) ≡ finmap.get (with_zeros (mapped_cells ps) (page_size * first) (page_size * count)) (page_size * n + o)
    new_page n o l above below =
        let k : ℕ = n - first in
        let at : first + k ≡ n = omega arith in
        let found : place_of (range_with_len first count) n ≡ Some k = subst (λ (x : ℕ). place_of (range_with_len first count) x ≡ Some k) at (place_of_range_in first count k (omega arith)) in
        let d : GuestPage = a_page fresh (omega (arith, ap (λ (ns : List ℕ). length ns) zeros.numbered, length-range_with_len first count, length-map fresh (λ (p : GuestPage). p.number))) in
        let there : place_of (numbers (ps ++ fresh)) n ≡ Some (length (numbers ps) + k) = placed n _ (place_of_append_none (numbers ps) (range_with_len first count) n k (apart n above below) found) in
        let page : get_or (ps ++ fresh) (length (numbers ps) + k) d ≡ get_or fresh k d = ap (λ (x : ℕ). get_or (ps ++ fresh) (x + k) d) (length-map ps (λ (p : GuestPage). p.number)) ∙ get_or-append-add ps fresh k d in
        get_cells_some (ps ++ fresh) n (length (numbers ps) + k) o d l there ∙ ap (λ (p : GuestPage). Some (cell_in p o)) page ∙ ap (λ (c : Cell). Some c) (zeros.zero k o d (omega arith) l)
        ∙ sym (get_with_zeros_in (mapped_cells ps) (page_size * first) (page_size * count) (page_size * n + o) (omega arith) (omega arith))

    old_page : (n o : ℕ) → o < page_size → (n < first) ⊎ (first + count ≤ n) → finmap.get (mapped_cells (ps ++ fresh)) (page_size * n + o) ≡ finmap.get (with_zeros (mapped_cells ps) (page_size * first) (page_size * count)) (page_size * n + o)
    old_page n o l out =
        let same : finmap.get (with_zeros (mapped_cells ps) (page_size * first) (page_size * count)) (page_size * n + o) ≡ finmap.get (mapped_cells ps) (page_size * n + o) =
        get_with_zeros_out (mapped_cells ps) (page_size * first) (page_size * count) (page_size * n + o) (⊎_elim (λ (h : n < first). inl (omega arith)) (λ (h : first + count ≤ n). inr (omega arith)) out) in
        ⊎_elim (λ (none : place_of (numbers ps) n ≡ None).
        get_cells_none (ps ++ fresh) n o l (placed n None (place_of_append_nowhere (numbers ps) (range_with_len first count) n none (place_of_range_out first count n out)))
        ∙ sym (same ∙ get_cells_none ps n o l none))
        (λ (some : (j : ℕ) × (place_of (numbers ps) n ≡ Some j)).
        let below : some.0 < length ps = omega (arith, (place_of_in (numbers ps) n some.0 some.1).0, length-map ps (λ (p : GuestPage). p.number)) in
        let d : GuestPage = a_page ps (omega arith) in
        get_cells_some (ps ++ fresh) n some.0 o d l (placed n (Some some.0) (place_of_append_some (numbers ps) (range_with_len first count) n some.0 some.1))
        ∙ ap (λ (p : GuestPage). Some (cell_in p o)) (get_or_append_left ps fresh d some.0 below)
        ∙ sym (same ∙ get_cells_some ps n some.0 o d l some.1))
        (told (place_of (numbers ps) n))

    each : (n o : ℕ) → o < page_size → finmap.get (mapped_cells (ps ++ fresh)) (page_size * n + o) ≡ finmap.get (with_zeros (mapped_cells ps) (page_size * first) (page_size * count)) (page_size * n + o)
    each n o l =
        ⊎_elim (λ (below : n < first). old_page n o l (inl below))
        (λ (above : first ≤ n). ⊎_elim (λ (within : n < first + count). new_page n o l above within) (λ (past : first + count ≤ n). old_page n o l (inr past)) (cases_lt n (first + count)))
        (cases_lt n first)

-- numbers behind others
take_behind : (k : ℕ) (xs ys : List ℕ) → length xs ≤ k → take k (xs ++ ys) ≡ xs ++ take (k - length xs) ys
take_behind k [] ys l = ap (λ (n : ℕ). take n ys) (let e : k ≡ k - 0 = omega arith in e)
take_behind zero (x ∷ xs) ys l = absurd (omega arith)
take_behind (suc k) (x ∷ xs) ys l = ap (λ (zs : List ℕ). x ∷ zs) (take_behind k xs ys (omega arith)) ∙ ap (λ (n : ℕ). x ∷ (xs ++ take n ys)) (let e : k - length xs ≡ suc k - suc (length xs) = omega arith in e)

drop_behind : (k : ℕ) (xs ys : List ℕ) → length xs ≤ k → drop k (xs ++ ys) ≡ drop (k - length xs) ys
drop_behind k [] ys l = ap (λ (n : ℕ). drop n ys) (let e : k ≡ k - 0 = omega arith in e)
drop_behind zero (x ∷ xs) ys l = absurd (omega arith)
drop_behind (suc k) (x ∷ xs) ys l = drop_behind k xs ys (omega arith) ∙ ap (λ (n : ℕ). drop n ys) (let e : k - length xs ≡ suc k - suc (length xs) = omega arith in e)

-- a table with pages more at its end
module _ (front ns : List ℕ) (heap : ℕ) (table : IsPageTable front ns heap) where
  pub length_table : length ns ≡ length front + (length ns - length front)
  length_table =
      let more : List ℕ = range_with_len heap (length ns - length front) in
      ap (λ (ms : List ℕ). length ms) table.listed ∙ length-append front more ∙ ap (λ (n : ℕ). length front + n) (length-range_with_len heap (length ns - length front))

  pub place_of_above : (n : ℕ) → heap + (length ns - length front) ≤ n → n < room_pages → place_of ns n ≡ None
  place_of_above n above below = place_of_none front ns heap table n (inr above) (table.apart n (omega arith) below)

  pub table_grown : (count : ℕ) → heap + (length ns - length front) + count ≤ room_pages → IsPageTable front (ns ++ range_with_len (heap + (length ns - length front)) count) heap
  table_grown count bounded =
      let old : List ℕ = range_with_len heap (length ns - length front) in
      let more : List ℕ = range_with_len (heap + (length ns - length front)) count in
      let long : length (ns ++ more) ≡ length ns + count = length-append ns more ∙ ap (λ (x : ℕ). length ns + x) (length-range_with_len (heap + (length ns - length front)) count) in
      let heap_len : length ns - length front + count ≡ length (ns ++ more) - length front = omega (arith, long, length_table) in
      record {
        listed = ap (λ (ms : List ℕ). ms ++ more) table.listed ∙ append_assoc front old more ∙ ap (λ (ms : List ℕ). front ++ ms) (range_append heap (length ns - length front) count)
            ∙ ap (λ (n : ℕ). front ++ range_with_len heap n) heap_len;
        apart = table.apart;
        bounded = omega (arith, heap_len, bounded);
      }

  pub table_shrunk : (k : ℕ) → length front ≤ k → k ≤ length ns → IsPageTable front (take k ns) heap
  table_shrunk k above below =
      let old : List ℕ = range_with_len heap (length ns - length front) in
      let heap_len : k - length front ≡ length (take k ns) - length front = omega (arith, length-take-le k ns below) in
      record {
        listed = ap (take k) table.listed ∙ take_behind k front old above ∙ ap (λ (ms : List ℕ). front ++ ms) (take_range heap (k - length front) (length ns - length front) (omega arith))
            ∙ ap (λ (n : ℕ). front ++ range_with_len heap n) heap_len;
        apart = table.apart;
        bounded = omega (arith, heap_len, table.bounded);
      }

-- bytes that are all 0
pub get_or_zeros : (n o : ℕ) → get_or (zeros n) o 0 ≡ 0
unfolding zeros
get_or_zeros n o =
    ⊎_elim (λ (l : o < n). get_or-replicate n o 0 0 l) (λ (past : n ≤ o). get_or_past (replicate n 0) o 0 (omega (arith, length-replicate {A = ℕ} n 0))) (cases_lt o n)

pub length_zeros : (n : ℕ) → length (zeros n) ≡ n
unfolding zeros
length_zeros n = length-replicate n 0

-- new pages of zeros
pub zero_pages_are : (first count : ℕ) → AreZeroPages (zero_pages first count) first count
zero_pages_are first count = record {
  numbered = map-map (λ (p : GuestPage). p.number) (zero_page zero_cell.rights) (range_with_len first count) ∙ map_same (range_with_len first count);
  zero = λ k o d l within.
      let there : get_or (zero_pages first count) k d ≡ zero_page zero_cell.rights (get_or (range_with_len first count) k 0) =
      get_or-map (zero_page zero_cell.rights) (range_with_len first count) k 0 d (omega (arith, length-range_with_len first count)) in
      ap (λ (p : GuestPage). cell_in p o) there ∙ ap (λ (b : ℕ). record { byte = b; rights = zero_cell.rights }) (get_or_zeros page_size o);
}
  where
    map_same : (ns : List ℕ) → map (λ (n : ℕ). n) ns ≡ ns
    map_same [] = refl
    map_same (n ∷ ns) = ap (λ (xs : List ℕ). n ∷ xs) (map_same ns)

pub zero_pages_more : (first k : ℕ) → zero_pages first (k + 1) ≡ zero_pages first k ++ zero_page zero_cell.rights (first + k) ∷ []
zero_pages_more first k = ap (map (zero_page zero_cell.rights)) (sym (range_append first k 1)) ∙ map-append (zero_page zero_cell.rights) (range_with_len first k) (range_with_len (first + k) 1)

-- a table whose heap is empty
pub table_new : (front ns : List ℕ) (heap : ℕ) → ns ≡ front → ((n : ℕ) → heap ≤ n → n < room_pages → place_of ns n ≡ None) → heap ≤ room_pages → IsPageTable front ns heap
table_new front ns heap is apart low =
    let none : length ns - length front ≡ 0 = omega (arith, ap (λ (ms : List ℕ). length ms) is) in
    record {
      listed = is ∙ sym (append-nil front) ∙ ap (λ (n : ℕ). front ++ range_with_len heap n) (sym none);
      apart = λ n above below. ap (λ (ms : List ℕ). place_of ms n) (sym is) ∙ apart n above below;
      bounded = omega (arith, none, low);
    }

-- the table with such pages at its end
pub table_with_zeros : (front : List ℕ) (ps now : List GuestPage) (heap count : ℕ) → now ≡ ps ++ zero_pages (heap + (length (numbers ps) - length front)) count → IsPageTable front (numbers ps) heap
    → heap + (length (numbers ps) - length front) + count ≤ room_pages → IsPageTable front (numbers now) heap
table_with_zeros front ps now heap count is table bounded =
    let end : ℕ = heap + (length (numbers ps) - length front) in
    let all : numbers now ≡ numbers ps ++ range_with_len end count = ap numbers is ∙ numbers_append ps (zero_pages end count) ∙ ap (λ (ns : List ℕ). numbers ps ++ ns) (zero_pages_are end count).numbered in
    subst (λ (ns : List ℕ). IsPageTable front ns heap) (sym all) (table_grown front (numbers ps) heap table count bounded)

-- the pages of a table but for its last
pub cells_shrunk : (front : List ℕ) (ps : List GuestPage) (heap k : ℕ) → IsPageTable front (numbers ps) heap → length front ≤ k → k ≤ length ps
    → mapped_cells (take k ps) ≡ without (mapped_cells ps) (page_size * (heap + (k - length front))) (page_size * (heap + (length ps - length front)))
cells_shrunk front ps heap k table above below =
    same_map nat_cmp_total nat_cmp-IsAntisymmetric _ _ (by_page (λ q. finmap.get (mapped_cells (take k ps)) q ≡ finmap.get (without (mapped_cells ps) from to) q) each)
  where
    ns : List ℕ
    ns = numbers ps

    fixed : ℕ
    fixed = length front

    long : length ns ≡ length ps
    long = length-map ps (λ (p : GuestPage). p.number)

    from : ℕ
    from = page_size * (heap + (k - fixed))

    to : ℕ
    to = page_size * (heap + (length ps - fixed))

    kept : numbers (take k ps) ≡ take k ns
    kept = sym (take-map (λ (p : GuestPage). p.number) k ps)

    kept_long : length (take k ns) ≡ k
    kept_long = length-take-le k ns (omega (arith, long))

    smaller : IsPageTable front (take k ns) heap
    smaller = table_shrunk front ns heap table k above (omega (arith, long))

    left : drop k ns ≡ range_with_len (heap + (k - fixed)) (length ns - k)
    left =
        let rest : length ns - fixed - (k - fixed) ≡ length ns - k = omega arith in
        ap (drop k) table.listed ∙ drop_behind k front (range_with_len heap (length ns - fixed)) above ∙ drop_range heap (k - fixed) (length ns - fixed) ∙ ap (range_with_len (heap + (k - fixed))) rest

    unmapped : (n o : ℕ) → o < page_size → heap + (k - fixed) ≤ n → n < heap + (length ps - fixed) → finmap.get (mapped_cells (take k ps)) (page_size * n + o) ≡ finmap.get (without (mapped_cells ps) from to) (page_size * n + o)
    unmapped n o l past within =
        let bounded : heap + (length ns - fixed) ≤ room_pages = table.bounded in
        let nowhere : place_of (take k ns) n ≡ None = place_of_above front (take k ns) heap smaller n (omega (arith, kept_long)) (omega (arith, long)) in
        get_cells_none (take k ps) n o l (ap (λ (ms : List ℕ). place_of ms n) kept ∙ nowhere) ∙ sym (get_without_in (mapped_cells ps) from to (page_size * n + o) (omega arith) (omega arith))

    stays : (n o : ℕ) → o < page_size → (n < heap + (k - fixed)) ⊎ (heap + (length ps - fixed) ≤ n) → finmap.get (mapped_cells (take k ps)) (page_size * n + o) ≡ finmap.get (without (mapped_cells ps) from to) (page_size * n + o)
    stays n o l out =
        let same : finmap.get (without (mapped_cells ps) from to) (page_size * n + o) ≡ finmap.get (mapped_cells ps) (page_size * n + o) =
        get_without_out (mapped_cells ps) from to (page_size * n + o) (⊎_elim (λ (h : n < heap + (k - fixed)). inl (omega arith)) (λ (h : heap + (length ps - fixed) ≤ n). inr (omega arith)) out) in
        let behind : place_of (drop k ns) n ≡ None =
        ap (λ (ms : List ℕ). place_of ms n) left ∙ place_of_range_out (heap + (k - fixed)) (length ns - k) n (⊎_elim (λ (h : n < heap + (k - fixed)). inl h) (λ (h : heap + (length ps - fixed) ≤ n). inr (omega (arith, long))) out) in
        ⊎_elim (λ (none : place_of (take k ns) n ≡ None).
        let nowhere : place_of ns n ≡ None = subst (λ (ms : List ℕ). place_of ms n ≡ None) (take-append-drop k ns) (place_of_append_nowhere (take k ns) (drop k ns) n none behind) in
        get_cells_none (take k ps) n o l (ap (λ (ms : List ℕ). place_of ms n) kept ∙ none) ∙ sym (same ∙ get_cells_none ps n o l nowhere))
        (λ (some : (j : ℕ) × (place_of (take k ns) n ≡ Some j)).
        let early : some.0 < k = omega (arith, (place_of_in (take k ns) n some.0 some.1).0, kept_long) in
        let d : GuestPage = a_page ps (omega arith) in
        let there : place_of ns n ≡ Some some.0 = subst (λ (ms : List ℕ). place_of ms n ≡ Some some.0) (take-append-drop k ns) (place_of_append_some (take k ns) (drop k ns) n some.0 some.1) in
        get_cells_some (take k ps) n some.0 o d l (ap (λ (ms : List ℕ). place_of ms n) kept ∙ some.1)
        ∙ ap (λ (p : GuestPage). Some (cell_in p o)) (get_or-take k ps some.0 d early)
        ∙ sym (same ∙ get_cells_some ps n some.0 o d l there))
        (told (place_of (take k ns) n))

    each : (n o : ℕ) → o < page_size → finmap.get (mapped_cells (take k ps)) (page_size * n + o) ≡ finmap.get (without (mapped_cells ps) from to) (page_size * n + o)
    each n o l =
        ⊎_elim (λ (below : n < heap + (k - fixed)). stays n o l (inl below))
        (λ (above : heap + (k - fixed) ≤ n). ⊎_elim (λ (within : n < heap + (length ps - fixed)). unmapped n o l above within) (λ (past : heap + (length ps - fixed) ≤ n). stays n o l (inr past)) (cases_lt n (heap + (length ps - fixed))))
        (cases_lt n (heap + (k - fixed)))

-- the numbers of an image's pages
pub numbers_of_image : (ps : List Page) → numbers (map of_image ps) ≡ page_numbers ps
numbers_of_image ps = map-map (λ (p : GuestPage). p.number) of_image ps

-- the pages of an image lie below its first break
pub below_start : (ps : List Page) (start n : ℕ) → All (λ p. page_size * p.number + page_size ≤ start) ps → start ≤ page_size * n → place_of (numbers (map of_image ps)) n ≡ None
below_start ps start n low above =
    ⊎_elim (λ none. none)
    (λ (some : (i : ℕ) × (place_of (numbers (map of_image ps)) n ≡ Some i)).
    let found : (some.0 < length (numbers (map of_image ps))) × (get_or (numbers (map of_image ps)) some.0 0 ≡ n) = place_of_in (numbers (map of_image ps)) n some.0 some.1 in
    let same : numbers (map of_image ps) ≡ page_numbers ps = numbers_of_image ps in
    let within : some.0 < length ps = omega (arith, found.0, ap (λ (ns : List ℕ). length ns) same, length-map ps (λ (p : Page). p.number)) in
    let d : Page = an_image_page ps (omega arith) in
    let number : get_or (numbers (map of_image ps)) some.0 0 ≡ (get_or ps some.0 d).number = ap (λ (ns : List ℕ). get_or ns some.0 0) same ∙ get_or-map (λ (p : Page). p.number) ps some.0 d 0 within in
    let limit : page_size * (get_or ps some.0 d).number + page_size ≤ start = low some.0 d within in
    absurd (omega (arith, found.1, number)))
    (told (place_of (numbers (map of_image ps)) n))
  where
    an_image_page : (ps : List Page) → 0 < length ps → Page
    an_image_page [] l = absurd (omega arith)
    an_image_page (p ∷ ps) l = p

-- the pages of an image stand for its cells
cells_from_within : (p : GuestPage) (bs : List ℕ) (o : ℕ) → ((k : ℕ) → k < length bs → get_or p.bytes (o + k) 0 ≡ get_or bs k 0) → cells_from p.rights (page_size * p.number + o) bs ≡ cells_within p o (length bs)
unfolding cells_within
cells_from_within p [] o same = refl
cells_from_within p (b ∷ bs) o same =
    let first : b ≡ get_or p.bytes o 0 = sym (same 0 (omega arith)) ∙ ap (λ (x : ℕ). get_or p.bytes x 0) (let e : o + 0 ≡ o = omega arith in e) in
    let there : page_size * p.number + o + 1 ≡ page_size * p.number + (o + 1) = omega arith in
    let later : (k : ℕ) → k < length bs → get_or p.bytes (o + 1 + k) 0 ≡ get_or bs k 0 =
    λ k l. ap (λ (x : ℕ). get_or p.bytes x 0) (let e : o + 1 + k ≡ o + suc k = omega arith in e) ∙ same (suc k) (omega arith) in
    ap (λ (es : List (ℕ × Cell)). (page_size * p.number + o, record { byte = b; rights = p.rights }) ∷ es) (ap (λ (x : ℕ). cells_from p.rights x bs) there ∙ cells_from_within p bs (o + 1) later)
    ∙ ap (λ (x : ℕ). (page_size * p.number + o, record { byte = x; rights = p.rights }) ∷ cells_within p (o + 1) (length bs)) first

image_page : (p : Page) → cells_of_page p ≡ cells_within (of_image p) 0 page_size
image_page p =
    let whole : length p.bytes.items ≡ page_size = (let long : vec_len p.bytes ≡ page_size = p.is_whole in omega (arith, long, p.bytes.ok.0)) in
    ap (λ (x : ℕ). cells_from p.rights x p.bytes.items) (let e : page_size * p.number ≡ page_size * p.number + 0 = omega arith in e)
    ∙ cells_from_within (of_image p) p.bytes.items 0 (λ k l. ap (λ (x : ℕ). get_or p.bytes.items x 0) (let e : 0 + k ≡ k = omega arith in e))
    ∙ ap (cells_within (of_image p) 0) whole

image_pages : (ps : List Page) → flat_map cells_of_page ps ≡ flat_map entries_of (map of_image ps)
image_pages [] = refl
image_pages (p ∷ ps) = ap (λ (es : Entries). es ++ flat_map cells_of_page ps) (image_page p) ∙ ap (λ (es : Entries). entries_of (of_image p) ++ es) (image_pages ps)

pub cells_of_image : (ps : List Page) → mapped_cells (map of_image ps) ≡ cells_of ps
unfolding cells_of mapped_cells
cells_of_image ps = ap from_entries (sym (image_pages ps))
