-- The pages that entries and slots stand for, and what stays of them.
use Rattle.std.proofs.Common.{◌≡◌, ℕ, zero, suc, ◌+◌, ◌-◌, ◌*◌, ◌^◌, ◌<◌, ◌≤◌, ◌≢◌, ◌⊎◌, inl, inr, Bool, true, false, cond, List, [], ◌∷◌, ◌++◌, flat_map, length, get_or, set, take, drop, map, None, vec_len, nat_lt, refl, sym, ap, subst, ◌∙◌, arith, ⊎_elim}
use Rattle.std.specs.Arc.{arc_value}
use Rattle.std.specs.List.{range_with_len}
use Rattle.std.proofs.lemmas.Bool.{cases_eq, cases_lt, lt-ltb, le-ltb}
use Rattle.std.proofs.lemmas.List.{length-map, length-set, length-take-le, length-drop, length-append, get_or-take, get_or-drop, get_or-map, get_or-set_same, get_or-set_other, get_or_append_left, get_or-append-add, get_or_push, get_or_past, get_or_default, set-get_or, map-set, same_lists, take_more, take_more_set, map-append, take_all, drop-take, drop-drop, take-take}
use Rattle.std.proofs.lemmas.List.FromFn.{get_or-range_with_len, length-range_with_len}
use Rattle.std.proofs.lemmas.Grind.{same_number_lists}
use Rattle.std.proofs.Math.Seq.{drop-append_seam}
use Rattle.elf_load.specs.declared.page.Page.{Page}
use Rattle.elf_load.specs.declared.rights.Rights.{Rights}
use Rattle.elf_load.specs.declared.shared.SharedPages.{SharedPages}
use Rattle.elf_load.specs.Places.{place_of}
use Rattle.elf_load.specs.Room.{page_size}
use Rattle.elf_load.proofs.Places.{place_of_nowhere}
use Rattle.guest_mem.specs.declared.entry.Entry.{Entry}
use Rattle.guest_mem.specs.declared.pages.Pages.{Pages}
use Rattle.guest_mem.specs.inside.PageStore.{all_bytes, shown}
use Rattle.guest_mem.specs.Break.{max_pages}
use Rattle.guest_mem.specs.inside.Pages.{GuestPage, IsRewritten, Rewrites, numbers, of_image, zeros, zero_page}
use Rattle.guest_mem.specs.inside.Slots.{AreSlots, page_of, shared_bytes, slot_bytes, slots, taken}
use Rattle.guest_mem.proofs.HeapLemmas.{get_or_zeros, length_zeros}

-- how many slots are taken
one_more : (b : Bool) (n m : ℕ) → n ≤ m → cond b n (n + 1) ≤ m + 1
one_more true n m l = omega arith
one_more false n m l = omega arith

one_more_lt : (b : Bool) (n m : ℕ) → n < m → cond b n (n + 1) < m + 1
one_more_lt true n m l = omega arith
one_more_lt false n m l = omega arith

one_more_next : (b : Bool) (n : ℕ) → cond b (n + 1) (n + 1 + 1) ≡ cond b n (n + 1) + 1
one_more_next true n = refl
one_more_next false n = refl

taken_shared : (first s : ℕ) (ss : List ℕ) → s < first → taken first (s ∷ ss) ≡ taken first ss
taken_shared first s ss l = ap (λ (b : Bool). cond b (taken first ss) (taken first ss + 1)) (lt-ltb s first l)

taken_own : (first s : ℕ) (ss : List ℕ) → first ≤ s → taken first (s ∷ ss) ≡ taken first ss + 1
taken_own first s ss l = ap (λ (b : Bool). cond b (taken first ss) (taken first ss + 1)) (le-ltb s first l)

pub taken_le : (first : ℕ) (ss : List ℕ) → taken first ss ≤ length ss
taken_le first [] = omega arith
taken_le first (s ∷ ss) = omega (arith, one_more (nat_lt s first) (taken first ss) (length ss) (taken_le first ss))

pub taken_lt : (first : ℕ) (ss : List ℕ) (i : ℕ) → i < length ss → get_or ss i 0 < first → taken first ss < length ss
taken_lt first [] i l none = absurd (omega arith)
taken_lt first (s ∷ ss) zero l none = omega (arith, taken_shared first s ss none, taken_le first ss)
taken_lt first (s ∷ ss) (suc i) l none = omega (arith, one_more_lt (nat_lt s first) (taken first ss) (length ss) (taken_lt first ss i (omega arith) none))

pub taken_set : (first : ℕ) (ss : List ℕ) (i x : ℕ) → i < length ss → get_or ss i 0 < first → first ≤ x → taken first (set ss i x) ≡ taken first ss + 1
taken_set first [] i x l none more = absurd (omega arith)
taken_set first (s ∷ ss) zero x l none more = taken_own first x ss more ∙ ap (λ (n : ℕ). n + 1) (sym (taken_shared first s ss none))
taken_set first (s ∷ ss) (suc i) x l none more =
    ap (λ (n : ℕ). cond (nat_lt s first) n (n + 1)) (taken_set first ss i x (omega arith) none more) ∙ one_more_next (nat_lt s first) (taken first ss)

-- an entry that has another shared slot
taken_set_shared : (first : ℕ) (ss : List ℕ) (i x : ℕ) → i < length ss → get_or ss i 0 < first → x < first → taken first (set ss i x) ≡ taken first ss
taken_set_shared first [] i x l none less = absurd (omega arith)
taken_set_shared first (s ∷ ss) zero x l none less = taken_shared first x ss less ∙ sym (taken_shared first s ss none)
taken_set_shared first (s ∷ ss) (suc i) x l none less = ap (λ (n : ℕ). cond (nat_lt s first) n (n + 1)) (taken_set_shared first ss i x (omega arith) none less)

taken_push : (first : ℕ) (ss : List ℕ) (x : ℕ) → x < first → taken first (ss ++ x ∷ []) ≡ taken first ss
taken_push first [] x less = taken_shared first x [] less
taken_push first (s ∷ ss) x less = ap (λ (n : ℕ). cond (nat_lt s first) n (n + 1)) (taken_push first ss x less)

-- the pages that are shown
pub length_shown : (p : Pages) → length (shown p) ≡ p.count
length_shown p =
    let fits : p.count ≤ length (slots p.entries.items) = p.sound.within in
    length-take-le p.count (map (page_of (all_bytes p)) p.entries.items) (omega (arith, length-map p.entries.items (page_of (all_bytes p)), length-map p.entries.items (λ (e : Entry). e.slot)))

pub length-numbers : (p : Pages) → length (numbers (shown p)) ≡ p.count
length-numbers p = length-map (shown p) (λ (g : GuestPage). g.number) ∙ length_shown p

-- no page has a number of 2^20 or more
numbers_below : (bytes : List ℕ) (k : ℕ) (es : List Entry) (n : ℕ) → 2 ^ 20 ≤ n → place_of (numbers (take k (map (page_of bytes) es))) n ≡ None
numbers_below bytes zero es n l = refl
numbers_below bytes (suc k) [] n l = refl
numbers_below bytes (suc k) (e ∷ es) n l =
    let low : e.number < 2 ^ 20 = e.in_range in
    place_of_nowhere e.number (numbers (take k (map (page_of bytes) es))) n (λ same. omega arith) (numbers_below bytes k es n l)

pub shown_below : (p : Pages) (n : ℕ) → 2 ^ 20 ≤ n → place_of (numbers (shown p)) n ≡ None
shown_below p n l = numbers_below (all_bytes p) p.count p.entries.items n l

-- a page with no bytes, for places past the end
abbrev pub blank : GuestPage
blank = record { number = 0; rights = record { read = false; write = false; execute = false }; bytes = [] }

-- some entry of a list that has one
pub an_entry : (es : List Entry) → 0 < length es → Entry
an_entry [] l = absurd (omega arith)
an_entry (e ∷ es) l = e

pub get_slots : (es : List Entry) (i : ℕ) (e : Entry) → i < length es → get_or (slots es) i 0 ≡ (get_or es i e).slot
get_slots es i e l = get_or-map (λ (x : Entry). x.slot) es i e 0 l

pub get_pages : (bytes : List ℕ) (es : List Entry) (i : ℕ) (e : Entry) (d : GuestPage) → i < length es → get_or (map (page_of bytes) es) i d ≡ page_of bytes (get_or es i e)
get_pages bytes es i e d l = get_or-map (page_of bytes) es i e d l

-- the bytes of a slot
pub length_slot : (bytes : List ℕ) (s : ℕ) → page_size * s + page_size ≤ length bytes → length (slot_bytes bytes s) ≡ page_size
unfolding slot_bytes
length_slot bytes s fits = length-take-le page_size (drop (page_size * s) bytes) (omega (arith, length-drop (page_size * s) bytes))

pub get_slot : (bytes : List ℕ) (s o : ℕ) → o < page_size → get_or (slot_bytes bytes s) o 0 ≡ get_or bytes (page_size * s + o) 0
unfolding slot_bytes
get_slot bytes s o l = get_or-take page_size (drop (page_size * s) bytes) o 0 l ∙ get_or-drop (page_size * s) bytes o 0

-- a part of a slot's bytes
pub part_slot : (bytes : List ℕ) (s o n : ℕ) → o + n ≤ page_size → take n (drop o (slot_bytes bytes s)) ≡ take n (drop (page_size * s + o) bytes)
unfolding slot_bytes
part_slot bytes s o n inside =
    ap (λ (x : ℕ). take n (drop o (take x (drop (page_size * s) bytes)))) (let e : page_size ≡ o + (page_size - o) = omega arith in e)
    ∙ ap (take n) (drop-take o (page_size - o) (drop (page_size * s) bytes)) ∙ take-take n (page_size - o) (drop o (drop (page_size * s) bytes)) (omega arith) ∙ ap (take n) (drop-drop o (page_size * s) bytes)

pub same_slot : (old new : List ℕ) (r s : ℕ) → page_size * r + page_size ≤ length old → page_size * s + page_size ≤ length new → ((o : ℕ) → o < page_size → get_or new (page_size * s + o) 0 ≡ get_or old (page_size * r + o) 0) → slot_bytes new s ≡ slot_bytes old r
same_slot old new r s in_old in_new same =
    same_number_lists (slot_bytes new s) (slot_bytes old r) (length_slot new s in_new ∙ sym (length_slot old r in_old))
    (λ o l. let low : o < page_size = omega (arith, length_slot new s in_new) in get_slot new s o low ∙ same o low ∙ sym (get_slot old r o low))

pub zero_slot : (bytes : List ℕ) (s : ℕ) → page_size * s + page_size ≤ length bytes → ((o : ℕ) → o < page_size → get_or bytes (page_size * s + o) 0 ≡ 0) → slot_bytes bytes s ≡ zeros page_size
zero_slot bytes s fits none =
    same_number_lists (slot_bytes bytes s) (zeros page_size) (length_slot bytes s fits ∙ sym (length_zeros page_size))
    (λ o l. let low : o < page_size = omega (arith, length_slot bytes s fits) in get_slot bytes s o low ∙ none o low ∙ sym (get_or_zeros page_size o))

with_bytes : (e : Entry) (b c : List ℕ) → b ≡ c → ◌≡◌ {A = GuestPage} (record { number = e.number; rights = e.rights; bytes = b }) (record { number = e.number; rights = e.rights; bytes = c })
with_bytes e b c same = ap (λ (x : List ℕ). record { number = e.number; rights = e.rights; bytes = x }) same

pub same_page : (old new : List ℕ) (e : Entry) → page_size * e.slot + page_size ≤ length old → page_size * e.slot + page_size ≤ length new → ((o : ℕ) → o < page_size → get_or new (page_size * e.slot + o) 0 ≡ get_or old (page_size * e.slot + o) 0) → page_of new e ≡ page_of old e
same_page old new e in_old in_new same = with_bytes e _ _ (same_slot old new e.slot e.slot in_old in_new same)

-- pages of which one entry is another, and the others stay
pub pages_set : (old new : List ℕ) (es : List Entry) (i : ℕ) (e : Entry) → ((j : ℕ) (d : Entry) → j < length es → j ≢ i → page_of new (get_or es j d) ≡ page_of old (get_or es j d)) → map (page_of new) (set es i e) ≡ set (map (page_of old) es) i (page_of new e)
pages_set old new es i e others =
    map-set (page_of new) es i e
    ∙ same_lists (set (map (page_of new) es) i (page_of new e)) (set (map (page_of old) es) i (page_of new e)) lengths each
  where
    lengths : length (set (map (page_of new) es) i (page_of new e)) ≡ length (set (map (page_of old) es) i (page_of new e))
    lengths = length-set (map (page_of new) es) i (page_of new e) ∙ length-map es (page_of new) ∙ sym (length-map es (page_of old)) ∙ sym (length-set (map (page_of old) es) i (page_of new e))

    each : (k : ℕ) (d : GuestPage) → k < length (set (map (page_of new) es) i (page_of new e)) → get_or (set (map (page_of new) es) i (page_of new e)) k d ≡ get_or (set (map (page_of old) es) i (page_of new e)) k d
    each k d l =
        let within : k < length es = omega (arith, length-set (map (page_of new) es) i (page_of new e), length-map es (page_of new)) in
        let x : Entry = an_entry es (omega arith) in
        ⊎_elim (λ (same : k ≡ i).
        let here : i < length es = omega arith in
        subst (λ (n : ℕ). get_or (set (map (page_of new) es) i (page_of new e)) n d ≡ get_or (set (map (page_of old) es) i (page_of new e)) n d) (sym same)
        (get_or-set_same (map (page_of new) es) i (page_of new e) d (omega (arith, length-map es (page_of new))) ∙ sym (get_or-set_same (map (page_of old) es) i (page_of new e) d (omega (arith, length-map es (page_of old))))))
        (λ (apart : k ≢ i).
        get_or-set_other (map (page_of new) es) i k (page_of new e) d apart ∙ get_pages new es k x d within ∙ others k x within apart
        ∙ sym (get_pages old es k x d within) ∙ sym (get_or-set_other (map (page_of old) es) i k (page_of new e) d apart))
        (cases_eq k i)

-- pages of which one is rewritten are those with another in its place
pub rewritten_set : (old new : List GuestPage) (i o : ℕ) (bytes : List ℕ) (d : GuestPage) → IsRewritten old new i o bytes → new ≡ set old i (get_or new i d)
rewritten_set old new i o bytes d is =
    same_lists new (set old i (get_or new i d)) (is.count ∙ sym (length-set old i (get_or new i d))) each
  where
    each : (k : ℕ) (x : GuestPage) → k < length new → get_or new k x ≡ get_or (set old i (get_or new i d)) k x
    each k x l =
        ⊎_elim (λ (same : k ≡ i).
        subst (λ (n : ℕ). get_or new n x ≡ get_or (set old i (get_or new i d)) n x) (sym same)
        (get_or_default new i x d (omega arith) ∙ sym (get_or-set_same old i (get_or new i d) x (omega (arith, is.count)))))
        (λ (apart : k ≢ i).
        is.others k x (⊎_elim (λ (below : k < i). inl below) (λ (above : i ≤ k). inr (let e : i ≢ k = (λ (h : i ≡ k). apart (sym h)) in omega arith)) (cases_lt k i)) ∙ sym (get_or-set_other old i k (get_or new i d) x apart))
        (cases_eq k i)

-- what stands in the slots of pages
module _ (es : List Entry) (count first : ℕ) (bytes : List ℕ) (room : ℕ) (kept : AreSlots (slots es) count first bytes room) where
  length_slots : length (slots es) ≡ length es
  length_slots = length-map es (λ (e : Entry). e.slot)

  pub fits : (j : ℕ) (d : Entry) → j < length es → page_size * (get_or es j d).slot + page_size ≤ length bytes
  fits j d l = omega (arith, kept.each_in j (omega (arith, length_slots)), get_slots es j d l, kept.whole)

  pub length_page_at : (i : ℕ) (d : GuestPage) → i < count → length (get_or (take count (map (page_of bytes) es)) i d).bytes ≡ page_size
  length_page_at i d l =
      let within : i < length es = omega (arith, kept.within, length_slots) in
      let e : Entry = an_entry es (omega arith) in
      let here : get_or (take count (map (page_of bytes) es)) i d ≡ page_of bytes (get_or es i e) = get_or-take count (map (page_of bytes) es) i d l ∙ get_pages bytes es i e d within in
      ap (λ (p : GuestPage). length p.bytes) here ∙ length_slot bytes (get_or es i e).slot (fits i e within)

  -- bytes that change in one own slot alone
  others_stay : (new : List ℕ) (i s : ℕ) → length new ≡ length bytes → i < length es → get_or (slots es) i 0 ≡ s → first ≤ s
      → ((k : ℕ) → (k < page_size * s) ⊎ (page_size * s + page_size ≤ k) → get_or new k 0 ≡ get_or bytes k 0)
      → (j : ℕ) (d : Entry) → j < length es → j ≢ i → page_of new (get_or es j d) ≡ page_of bytes (get_or es j d)
  others_stay new i s long at is own outside j d l apart =
      same_page bytes new (get_or es j d) (fits j d l) (omega (arith, fits j d l, long)) (λ o low. outside (page_size * (get_or es j d).slot + o) (sides o low))
    where
      t : ℕ
      t = (get_or es j d).slot

      ne : t ≢ s
      ne = λ same. apart (sym (kept.own i j (omega (arith, length_slots)) (omega (arith, length_slots)) (omega (arith, is)) (is ∙ sym same ∙ sym (get_slots es j d l))))

      sides : (o : ℕ) → o < page_size → (page_size * t + o < page_size * s) ⊎ (page_size * s + page_size ≤ page_size * t + o)
      sides o low = ⊎_elim (λ (below : t < s). inl (omega arith)) (λ (above : s ≤ t). inr (omega (arith, ne))) (cases_lt t s)

  -- a slot that is written
  pub written : (new : List ℕ) (i s o : ℕ) (part : List ℕ) → length new ≡ length bytes → i < count → get_or (slots es) i 0 ≡ s → first ≤ s → o + length part ≤ page_size
      → ((k : ℕ) → k < length part → get_or new (page_size * s + o + k) 0 ≡ get_or part k 0)
      → ((k : ℕ) → (k < page_size * s + o) ⊎ (page_size * s + o + length part ≤ k) → get_or new k 0 ≡ get_or bytes k 0)
      → IsRewritten (take count (map (page_of bytes) es)) (take count (map (page_of new) es)) i o part
  written new i s o part long at is own inside put kept_out =
      record {
        count = length-take-le count (map (page_of new) es) (omega (arith, kept.within, length_slots, length-map es (page_of new)))
            ∙ sym (length-take-le count (map (page_of bytes) es) (omega (arith, kept.within, length_slots, length-map es (page_of bytes))));
        others = λ k d sides.
            ⊎_elim (λ (l : k < count). apart k d l (⊎_elim (λ (h : k < i) same. omega arith) (λ (h : i < k) same. omega arith) sides))
            (λ (past : count ≤ k).
            get_or_past (take count (map (page_of new) es)) k d (omega (arith, length-take-le count (map (page_of new) es) (omega (arith, kept.within, length_slots, length-map es (page_of new)))))
            ∙ sym (get_or_past (take count (map (page_of bytes) es)) k d (omega (arith, length-take-le count (map (page_of bytes) es) (omega (arith, kept.within, length_slots, length-map es (page_of bytes)))))))
            (cases_lt k count);
        here = λ d.
            let old_is : page_of bytes e ≡ get_or (take count (map (page_of bytes) es)) i d = sym (get_or-take count (map (page_of bytes) es) i d at ∙ get_pages bytes es i any d within) in
            let new_is : page_of new e ≡ get_or (take count (map (page_of new) es)) i d = sym (get_or-take count (map (page_of new) es) i d at ∙ get_pages new es i any d within) in
            subst (λ (p : GuestPage). Rewrites p (get_or (take count (map (page_of new) es)) i d) o part) old_is
            (subst (λ (p : GuestPage). Rewrites (page_of bytes e) p o part) new_is rewrites);
      }
    where
      within : i < length es
      within = omega (arith, kept.within, length_slots)

      any : Entry
      any = an_entry es (omega (arith, within))

      e : Entry
      e = get_or es i any

      slot_is : e.slot ≡ s
      slot_is = sym (get_slots es i any within) ∙ is

      room_old : page_size * e.slot + page_size ≤ length bytes
      room_old = fits i any within

      apart : (k : ℕ) (d : GuestPage) → k < count → k ≢ i → get_or (take count (map (page_of new) es)) k d ≡ get_or (take count (map (page_of bytes) es)) k d
      apart k d l ne =
          let in_es : k < length es = omega (arith, kept.within, length_slots) in
          get_or-take count (map (page_of new) es) k d l ∙ get_pages new es k any d in_es
          ∙ others_stay new i s long within is own (λ j out. kept_out j (⊎_elim (λ (h : j < page_size * s). inl (omega arith)) (λ (h : page_size * s + page_size ≤ j). inr (omega arith)) out)) k any in_es ne
          ∙ sym (get_or-take count (map (page_of bytes) es) k d l ∙ get_pages bytes es k any d in_es)

      rewrites : Rewrites (page_of bytes e) (page_of new e) o part
      rewrites =
          record {
            number = refl;
            rights = refl;
            long = length_slot new e.slot (omega (arith, room_old, long)) ∙ sym (length_slot bytes e.slot room_old);
            fits = inside;
            inside = λ k l. get_slot new e.slot (o + k) (omega arith) ∙ ap (λ (x : ℕ). get_or new x 0) (let h : page_size * e.slot + (o + k) ≡ page_size * s + o + k = omega (arith, slot_is) in h) ∙ put k l;
            outside = λ k out.
                ⊎_elim (λ (l : k < page_size).
                get_slot new e.slot k l
                ∙ kept_out (page_size * e.slot + k) (⊎_elim (λ (h : k < o). inl (omega (arith, slot_is))) (λ (h : o + length part ≤ k). inr (omega (arith, slot_is))) out)
                ∙ sym (get_slot bytes e.slot k l))
                (λ (past : page_size ≤ k).
                get_or_past (slot_bytes new e.slot) k 0 (omega (arith, length_slot new e.slot (omega (arith, room_old, long))))
                ∙ sym (get_or_past (slot_bytes bytes e.slot) k 0 (omega (arith, length_slot bytes e.slot room_old))))
                (cases_lt k page_size);
          }

  pub written_kept : (new : List ℕ) (more : ℕ) → length new ≡ length bytes → ((o : ℕ) → o < page_size → get_or new o 0 ≡ get_or bytes o 0) → room ≤ more → AreSlots (slots es) count first new more
  written_kept new more long same roomier =
      record {
        within = kept.within;
        few = kept.few;
        few_shared = kept.few_shared;
        zero = λ o low. same o low ∙ kept.zero o low;
        some = kept.some;
        whole = long ∙ kept.whole;
        each_in = kept.each_in;
        own = kept.own;
        roomy = omega (arith, kept.roomy, roomier);
      }

  -- a slot that is taken, with the bytes that the page had
  behind : (part : List ℕ) (k : ℕ) → k < length bytes → get_or (bytes ++ part) k 0 ≡ get_or bytes k 0
  behind part k l = get_or_append_left bytes part 0 k l

  pub taken_same : (now : List ℕ) (i : ℕ) (e d : Entry) → i < length es → now ≡ bytes ++ slot_bytes bytes (get_or es i d).slot → e.number ≡ (get_or es i d).number → e.rights ≡ (get_or es i d).rights → page_size * e.slot ≡ length bytes
      → map (page_of now) (set es i e) ≡ map (page_of bytes) es
  taken_same now i e d at now_is number rights slot =
      ap (λ (bs : List ℕ). map (page_of bs) (set es i e)) now_is
      ∙ pages_set bytes new es i e (λ j x l apart. same_page bytes new (get_or es j x) (fits j x l) (omega (arith, fits j x l, long)) (λ o low. behind part (page_size * (get_or es j x).slot + o) (omega (arith, fits j x l))))
      ∙ ap (λ (p : GuestPage). set (map (page_of bytes) es) i p) (page ∙ sym (get_pages bytes es i d blank at)) ∙ set-get_or (map (page_of bytes) es) i blank
    where
      was : Entry
      was = get_or es i d

      part : List ℕ
      part = slot_bytes bytes was.slot

      new : List ℕ
      new = bytes ++ part

      whole_part : length part ≡ page_size
      whole_part = length_slot bytes was.slot (fits i d at)

      long : length new ≡ length bytes + page_size
      long = omega (arith, length-append bytes part, whole_part)

      bytes_same : slot_bytes new e.slot ≡ slot_bytes bytes was.slot
      bytes_same =
          same_slot bytes new was.slot e.slot (fits i d at) (omega (arith, long, slot))
          (λ o low.
          ap (λ (x : ℕ). get_or new (x + o) 0) slot ∙ get_or-append-add bytes part o 0 ∙ get_slot bytes was.slot o low)

      page : page_of new e ≡ page_of bytes was
      page =
          ap (λ (n : ℕ). record { number = n; rights = e.rights; bytes = slot_bytes new e.slot }) number
          ∙ ap (λ (r : Rights). record { number = was.number; rights = r; bytes = slot_bytes new e.slot }) rights
          ∙ ap (λ (x : List ℕ). record { number = was.number; rights = was.rights; bytes = x }) bytes_same

  pub taken_kept : (now part : List ℕ) (i : ℕ) (e : Entry) (more : ℕ) → i < length es → now ≡ bytes ++ part → get_or (slots es) i 0 < first → length part ≡ page_size → page_size * e.slot ≡ length bytes
      → room ≤ more → AreSlots (slots (set es i e)) count first now more
  taken_kept now part i e more at now_is none whole_part slot roomier =
      subst (λ (ss : List ℕ). AreSlots ss count first now more) (sym (map-set (λ (x : Entry). x.slot) es i e)) (subst (λ (bs : List ℕ). AreSlots (set (slots es) i e.slot) count first bs more) (sym now_is) record {
        within = omega (arith, kept.within, length-set (slots es) i e.slot);
        few = omega (arith, kept.few, length-set (slots es) i e.slot);
        few_shared = kept.few_shared;
        zero = λ o low. behind part o (omega (arith, kept.whole, kept.some)) ∙ kept.zero o low;
        some = kept.some;
        whole = omega (arith, length-append bytes part, whole_part, kept.whole, counted);
        each_in = λ j l.
            ⊎_elim (λ (same : j ≡ i). omega (arith, counted, slot_next, here j same))
            (λ (apart : j ≢ i). omega (arith, counted, get_or-set_other (slots es) i j e.slot 0 apart, kept.each_in j (omega (arith, length-set (slots es) i e.slot))))
            (cases_eq j i);
        own = λ j k in_j in_k some same.
            ⊎_elim (λ (j_is : j ≡ i).
            ⊎_elim (λ (k_is : k ≡ i). j_is ∙ sym k_is)
            (λ (k_apart : k ≢ i). absurd (omega (arith, slot_next, same, here j j_is, get_or-set_other (slots es) i k e.slot 0 k_apart, kept.each_in k (omega (arith, length-set (slots es) i e.slot)))))
            (cases_eq k i))
            (λ (j_apart : j ≢ i).
            ⊎_elim (λ (k_is : k ≡ i). absurd (omega (arith, slot_next, same, here k k_is, get_or-set_other (slots es) i j e.slot 0 j_apart, kept.each_in j (omega (arith, length-set (slots es) i e.slot)))))
            (λ (k_apart : k ≢ i).
            kept.own j k (omega (arith, length-set (slots es) i e.slot)) (omega (arith, length-set (slots es) i e.slot)) (omega (arith, some, get_or-set_other (slots es) i j e.slot 0 j_apart))
            (sym (get_or-set_other (slots es) i j e.slot 0 j_apart) ∙ same ∙ get_or-set_other (slots es) i k e.slot 0 k_apart))
            (cases_eq k i))
            (cases_eq j i);
        roomy = omega (arith, kept.roomy, length-set (slots es) i e.slot);
      })
    where
      slot_next : e.slot ≡ first + taken first (slots es)
      slot_next = omega (arith, slot, kept.whole)

      counted : taken first (set (slots es) i e.slot) ≡ taken first (slots es) + 1
      counted = taken_set first (slots es) i e.slot (omega (arith, length_slots)) none (omega (arith, slot_next))

      here : (j : ℕ) → j ≡ i → get_or (set (slots es) i e.slot) j 0 ≡ e.slot
      here j same = subst (λ (x : ℕ). get_or (set (slots es) i e.slot) x 0 ≡ e.slot) (sym same) (get_or-set_same (slots es) i e.slot 0 (omega (arith, length_slots)))

  -- a page of zeros
  page_is_zero : (now : List ℕ) (e : Entry) (number : ℕ) (rights : Rights) → page_size * e.slot + page_size ≤ length now → e.number ≡ number → e.rights ≡ rights
      → ((k : ℕ) → k < page_size → get_or now (page_size * e.slot + k) 0 ≡ 0) → page_of now e ≡ zero_page rights number
  page_is_zero now e number rights within is_number is_rights none =
      ap (λ (n : ℕ). record { number = n; rights = e.rights; bytes = slot_bytes now e.slot }) is_number
      ∙ ap (λ (r : Rights). record { number = number; rights = r; bytes = slot_bytes now e.slot }) is_rights
      ∙ ap (λ (x : List ℕ). record { number = number; rights = rights; bytes = x }) (zero_slot now e.slot within none)

  -- a page with the slot of zeros
  unwritten : (e : Entry) (number : ℕ) (rights : Rights) → e.slot ≡ 0 → e.number ≡ number → e.rights ≡ rights → page_of bytes e ≡ zero_page rights number
  unwritten e number rights slot is_number is_rights =
      page_is_zero bytes e number rights (omega (arith, slot, kept.whole, kept.some)) is_number is_rights
      (λ o low. ap (λ (x : ℕ). get_or bytes x 0) (let h : page_size * e.slot + o ≡ o = omega (arith, slot) in h) ∙ kept.zero o low)

  -- a page more at a place that another had, with that one's own slot
  pub again : (new : List ℕ) (e : Entry) (number : ℕ) (rights : Rights) → count < length es → length new ≡ length bytes → get_or (slots es) count 0 ≡ e.slot → first ≤ e.slot → e.number ≡ number → e.rights ≡ rights
      → ((k : ℕ) → (k < page_size * e.slot) ⊎ (page_size * e.slot + page_size ≤ k) → get_or new k 0 ≡ get_or bytes k 0) → ((k : ℕ) → k < page_size → get_or new (page_size * e.slot + k) 0 ≡ 0)
      → take (count + 1) (map (page_of new) (set es count e)) ≡ take count (map (page_of bytes) es) ++ zero_page rights number ∷ []
  again new e number rights at long is own is_number is_rights outside none =
      ap (take (count + 1)) (pages_set bytes new es count e (others_stay new count e.slot long at is own outside))
      ∙ take_more_set (map (page_of bytes) es) count (page_of new e) (omega (arith, length-map es (page_of bytes)))
      ∙ ap (λ (p : GuestPage). take count (map (page_of bytes) es) ++ p ∷ []) (page_is_zero new e number rights (omega (arith, long, fits count any at, get_slots es count any at, is)) is_number is_rights none)
    where
      any : Entry
      any = an_entry es (omega arith)

  pub again_kept : (new : List ℕ) (e : Entry) (more : ℕ) → room ≤ more → count < length es → length new ≡ length bytes → get_or (slots es) count 0 ≡ e.slot → first ≤ e.slot
      → ((k : ℕ) → (k < page_size * e.slot) ⊎ (page_size * e.slot + page_size ≤ k) → get_or new k 0 ≡ get_or bytes k 0)
      → AreSlots (slots (set es count e)) (count + 1) first new more
  again_kept new e more roomier at long is own outside =
      subst (λ (ss : List ℕ). AreSlots ss (count + 1) first new more) (sym (map-set (λ (x : Entry). x.slot) es count e ∙ ap (set (slots es) count) (sym is) ∙ set-get_or (slots es) count 0)) record {
        within = omega (arith, length_slots);
        few = kept.few;
        few_shared = kept.few_shared;
        zero = λ o low. outside o (inl (omega (arith, own, kept.some))) ∙ kept.zero o low;
        some = kept.some;
        whole = long ∙ kept.whole;
        each_in = kept.each_in;
        own = kept.own;
        roomy = omega (arith, kept.roomy, roomier);
      }

  -- a page more at a place that another had, which has no slot of its own
  pub again_shared : (e : Entry) (number : ℕ) (rights : Rights) → count < length es → e.slot ≡ 0 → e.number ≡ number → e.rights ≡ rights
      → take (count + 1) (map (page_of bytes) (set es count e)) ≡ take count (map (page_of bytes) es) ++ zero_page rights number ∷ []
  again_shared e number rights at slot is_number is_rights =
      ap (take (count + 1)) (pages_set bytes bytes es count e (λ j d l apart. refl))
      ∙ take_more_set (map (page_of bytes) es) count (page_of bytes e) (omega (arith, length-map es (page_of bytes)))
      ∙ ap (λ (p : GuestPage). take count (map (page_of bytes) es) ++ p ∷ []) (unwritten e number rights slot is_number is_rights)

  pub again_shared_kept : (e : Entry) → count < length es → get_or (slots es) count 0 < first → e.slot ≡ 0 → AreSlots (slots (set es count e)) (count + 1) first bytes room
  again_shared_kept e at none slot =
      subst (λ (ss : List ℕ). AreSlots ss (count + 1) first bytes room) (sym (map-set (λ (x : Entry). x.slot) es count e ∙ ap (set (slots es) count) slot)) record {
        within = omega (arith, length_slots, long);
        few = omega (arith, kept.few, long);
        few_shared = kept.few_shared;
        zero = kept.zero;
        some = kept.some;
        whole = kept.whole ∙ ap (λ (n : ℕ). page_size * (first + n)) (sym same_taken);
        each_in = λ i l.
            ⊎_elim (λ (same : i ≡ count). omega (arith, kept.some, here i same))
            (λ (apart : i ≢ count). omega (arith, same_taken, get_or-set_other (slots es) count i 0 0 apart, kept.each_in i (omega (arith, long))))
            (cases_eq i count);
        own = λ i j in_i in_j some same.
            ⊎_elim (λ (i_is : i ≡ count). absurd (omega (arith, some, kept.some, here i i_is)))
            (λ (i_apart : i ≢ count).
            ⊎_elim (λ (j_is : j ≡ count). absurd (omega (arith, some, same, kept.some, here j j_is)))
            (λ (j_apart : j ≢ count).
            kept.own i j (omega (arith, long)) (omega (arith, long)) (omega (arith, some, get_or-set_other (slots es) count i 0 0 i_apart))
            (sym (get_or-set_other (slots es) count i 0 0 i_apart) ∙ same ∙ get_or-set_other (slots es) count j 0 0 j_apart))
            (cases_eq j count))
            (cases_eq i count);
        roomy = omega (arith, kept.roomy, long);
      }
    where
      long : length (set (slots es) count 0) ≡ length (slots es)
      long = length-set (slots es) count 0

      same_taken : taken first (set (slots es) count 0) ≡ taken first (slots es)
      same_taken = taken_set_shared first (slots es) count 0 (omega (arith, length_slots)) none kept.some

      here : (j : ℕ) → j ≡ count → get_or (set (slots es) count 0) j 0 ≡ 0
      here j same = subst (λ (x : ℕ). get_or (set (slots es) count 0) x 0 ≡ 0) (sym same) (get_or-set_same (slots es) count 0 0 (omega (arith, length_slots)))

  -- a page more behind all entries
  pub pushed : (e : Entry) (number : ℕ) (rights : Rights) → count ≡ length es → e.slot ≡ 0 → e.number ≡ number → e.rights ≡ rights
      → take (count + 1) (map (page_of bytes) (es ++ e ∷ [])) ≡ take count (map (page_of bytes) es) ++ zero_page rights number ∷ []
  pushed e number rights all slot is_number is_rights =
      ap (take (count + 1)) (map-append (page_of bytes) es (e ∷ []))
      ∙ take_all (count + 1) (map (page_of bytes) es ++ page_of bytes e ∷ []) (omega (arith, all, length-append (map (page_of bytes) es) (page_of bytes e ∷ []), length-map es (page_of bytes)))
      ∙ ap (λ (p : GuestPage). map (page_of bytes) es ++ p ∷ []) (unwritten e number rights slot is_number is_rights)
      ∙ ap (λ (ps : List GuestPage). ps ++ zero_page rights number ∷ []) (sym (take_all count (map (page_of bytes) es) (omega (arith, all, length-map es (page_of bytes)))))

  pub pushed_kept : (e : Entry) → count ≡ length es → count < max_pages → e.slot ≡ 0 → page_size * (count + 1) ≤ room → AreSlots (slots (es ++ e ∷ [])) (count + 1) first bytes room
  pushed_kept e all low slot roomier =
      subst (λ (ss : List ℕ). AreSlots ss (count + 1) first bytes room) (sym (map-append (λ (x : Entry). x.slot) es (e ∷ []) ∙ ap (λ (s : ℕ). slots es ++ s ∷ []) slot)) record {
        within = omega (arith, length_slots, longer);
        few = omega (arith, length_slots, longer);
        few_shared = kept.few_shared;
        zero = kept.zero;
        some = kept.some;
        whole = kept.whole ∙ ap (λ (n : ℕ). page_size * (first + n)) (sym same_taken);
        each_in = λ i l.
            ⊎_elim (λ (early : i < length (slots es)). omega (arith, same_taken, get_or_append_left (slots es) (0 ∷ []) 0 i early, kept.each_in i early))
            (λ (last : length (slots es) ≤ i). omega (arith, kept.some, get_or_push (slots es) 0 0 i (omega (arith, longer))))
            (cases_lt i (length (slots es)));
        own = λ i j in_i in_j some same.
            ⊎_elim (λ (early : i < length (slots es)).
            ⊎_elim (λ (early_j : j < length (slots es)).
            kept.own i j early early_j (omega (arith, some, get_or_append_left (slots es) (0 ∷ []) 0 i early))
            (sym (get_or_append_left (slots es) (0 ∷ []) 0 i early) ∙ same ∙ get_or_append_left (slots es) (0 ∷ []) 0 j early_j))
            (λ (last : length (slots es) ≤ j). absurd (omega (arith, some, same, kept.some, get_or_push (slots es) 0 0 j (omega (arith, longer)))))
            (cases_lt j (length (slots es))))
            (λ (last : length (slots es) ≤ i). absurd (omega (arith, some, kept.some, get_or_push (slots es) 0 0 i (omega (arith, longer)))))
            (cases_lt i (length (slots es)));
        roomy = omega (arith, length_slots, longer);
      }
    where
      longer : length (slots es ++ 0 ∷ []) ≡ length (slots es) + 1
      longer = length-append (slots es) (0 ∷ [])

      same_taken : taken first (slots es ++ 0 ∷ []) ≡ taken first (slots es)
      same_taken = taken_push first (slots es) 0 kept.some

pub length_shown_page : (p : Pages) (i : ℕ) (d : GuestPage) → i < p.count → length (get_or (shown p) i d).bytes ≡ page_size
length_shown_page p i d l = length_page_at p.entries.items p.count p.first_own (all_bytes p) _ p.sound i d l

pub within_entries : (p : Pages) (i : ℕ) → i < p.count → i < length p.entries.items
within_entries p i l = omega (arith, l, p.sound.within, length-map p.entries.items (λ (e : Entry). e.slot))

pub get_shown : (p : Pages) (i : ℕ) (d : GuestPage) (e : Entry) → i < p.count → get_or (shown p) i d ≡ page_of (all_bytes p) (get_or p.entries.items i e)
get_shown p i d e l = get_or-take p.count (map (page_of (all_bytes p)) p.entries.items) i d l ∙ get_pages (all_bytes p) p.entries.items i e d (within_entries p i l)

pub slot_set : (es : List Entry) (i : ℕ) (e : Entry) → i < length es → get_or (slots (set es i e)) i 0 ≡ e.slot
slot_set es i e l = ap (λ (ss : List ℕ). get_or ss i 0) (map-set (λ (x : Entry). x.slot) es i e) ∙ get_or-set_same (slots es) i e.slot 0 (omega (arith, l, length-map es (λ (x : Entry). x.slot)))

-- the shared slots: zeros, and the pages of the image
whole_page : (p : Page) → length p.bytes.items ≡ page_size
whole_page p = let long : vec_len p.bytes ≡ page_size = p.is_whole in omega (arith, long, p.bytes.ok.0)

whole_zeros : (s : SharedPages) → length s.zeros.items ≡ page_size
whole_zeros s = let long : vec_len s.zeros ≡ page_size = s.is_whole in omega (arith, long, s.zeros.ok.0)

length_pages : (ps : List Page) → length (flat_map (λ p. p.bytes.items) ps) ≡ page_size * length ps
length_pages [] = refl
length_pages (p ∷ ps) = omega (arith, length-append p.bytes.items (flat_map (λ (q : Page). q.bytes.items) ps), whole_page p, length_pages ps)

pub length_shared : (s : SharedPages) → length (shared_bytes s) ≡ page_size * (length s.pages.items + 1)
unfolding shared_bytes
length_shared s = omega (arith, length-append s.zeros.items (flat_map (λ (q : Page). q.bytes.items) s.pages.items), whole_zeros s, length_pages s.pages.items)

get_pages_byte : (ps : List Page) (i o : ℕ) (d : Page) → i < length ps → o < page_size → get_or (flat_map (λ p. p.bytes.items) ps) (page_size * i + o) 0 ≡ get_or (get_or ps i d).bytes.items o 0
get_pages_byte [] i o d l low = absurd (omega arith)
get_pages_byte (p ∷ ps) zero o d l low =
    ap (λ (x : ℕ). get_or (flat_map (λ (q : Page). q.bytes.items) (p ∷ ps)) x 0) (let e : page_size * 0 + o ≡ o = omega arith in e)
    ∙ get_or_append_left p.bytes.items (flat_map (λ (q : Page). q.bytes.items) ps) 0 o (omega (arith, whole_page p))
get_pages_byte (p ∷ ps) (suc i) o d l low =
    ap (λ (x : ℕ). get_or (flat_map (λ (q : Page). q.bytes.items) (p ∷ ps)) x 0) (let e : page_size * suc i + o ≡ length p.bytes.items + (page_size * i + o) = omega (arith, whole_page p) in e)
    ∙ get_or-append-add p.bytes.items (flat_map (λ (q : Page). q.bytes.items) ps) (page_size * i + o) 0 ∙ get_pages_byte ps i o d (omega arith) low

pub shared_zero : (s : SharedPages) (o : ℕ) → o < page_size → get_or (shared_bytes s) o 0 ≡ 0
unfolding shared_bytes
shared_zero s o low = get_or_append_left s.zeros.items (flat_map (λ (q : Page). q.bytes.items) s.pages.items) 0 o (omega (arith, whole_zeros s)) ∙ s.are_zeros o low

-- the bytes of the slot of zeros
pub slot_of_zeros : (s : SharedPages) → slot_bytes (shared_bytes s) 0 ≡ s.zeros.items
slot_of_zeros s =
    zero_slot (shared_bytes s) 0 (omega (arith, length_shared s)) (λ o low. ap (λ (x : ℕ). get_or (shared_bytes s) x 0) (let e : page_size * 0 + o ≡ o = omega arith in e) ∙ shared_zero s o low)
    ∙ same_number_lists (zeros page_size) s.zeros.items (length_zeros page_size ∙ sym (whole_zeros s)) (λ o l. get_or_zeros page_size o ∙ sym (s.are_zeros o (omega (arith, l, length_zeros page_size))))

-- the bytes of a page's slot
pub slot_of_page : (s : SharedPages) (i : ℕ) (d : Page) → i < length s.pages.items → slot_bytes (shared_bytes s) (i + 1) ≡ (get_or s.pages.items i d).bytes.items
unfolding shared_bytes
slot_of_page s i d l =
    same_number_lists (slot_bytes (shared_bytes s) (i + 1)) (get_or s.pages.items i d).bytes.items
    (length_slot (shared_bytes s) (i + 1) within ∙ sym (whole_page (get_or s.pages.items i d)))
    (λ o short. let low : o < page_size = omega (arith, short, length_slot (shared_bytes s) (i + 1) within) in get_slot (shared_bytes s) (i + 1) o low ∙ byte o low)
  where
    within : page_size * (i + 1) + page_size ≤ length (shared_bytes s)
    within = omega (arith, length_shared s)

    byte : (o : ℕ) → o < page_size → get_or (shared_bytes s) (page_size * (i + 1) + o) 0 ≡ get_or (get_or s.pages.items i d).bytes.items o 0
    byte o low =
        ap (λ (x : ℕ). get_or (shared_bytes s) x 0) (let e : page_size * (i + 1) + o ≡ length s.zeros.items + (page_size * i + o) = omega (arith, whole_zeros s) in e)
        ∙ get_or-append-add s.zeros.items (flat_map (λ (q : Page). q.bytes.items) s.pages.items) (page_size * i + o) 0 ∙ get_pages_byte s.pages.items i o d l low

-- a shared slot has the same bytes whatever the own ones have, and an own slot's stand behind the shared ones
pub shared_part : (front own : List ℕ) (s : ℕ) → page_size * s + page_size ≤ length front → slot_bytes (front ++ own) s ≡ slot_bytes front s
shared_part front own s within =
    same_slot front (front ++ own) s s within (omega (arith, within, length-append front own)) (λ o low. get_or_append_left front own 0 (page_size * s + o) (omega (arith, within)))

-- entries that have shared slots alone
taken_range : (first a n : ℕ) → a + n ≤ first → taken first (range_with_len a n) ≡ 0
taken_range first a zero l = refl
taken_range first a (suc n) l = taken_shared first a (range_with_len (a + 1) n) (omega arith) ∙ taken_range first (a + 1) n (omega arith)

pub begun : (s : SharedPages) (ss own : List ℕ) (count room : ℕ) → ss ≡ range_with_len 1 count → count ≡ length s.pages.items → own ≡ [] → count + 1 ≤ max_pages → page_size * count ≤ room
    → AreSlots ss count (count + 1) (shared_bytes s ++ own) room
begun s ss own count room listed all none low roomy =
    subst (λ (xs : List ℕ). AreSlots xs count (count + 1) (shared_bytes s ++ own) room) (sym listed) record {
      within = omega (arith, long);
      few = omega (arith, long);
      few_shared = low;
      zero = λ o small. get_or_append_left (shared_bytes s) own 0 o (omega (arith, length_shared s)) ∙ shared_zero s o small;
      some = omega arith;
      whole = omega (arith, length-append (shared_bytes s) own, ap (λ (xs : List ℕ). length xs) none, length_shared s, taken_range (count + 1) 1 count (omega arith));
      each_in = λ i l. omega (arith, get_or-range_with_len 1 count i 0 (omega (arith, long)), long);
      own = λ i j in_i in_j some same. absurd (omega (arith, some, get_or-range_with_len 1 count i 0 (omega (arith, long)), long));
      roomy = omega (arith, long);
    }
  where
    long : length (range_with_len 1 count) ≡ count
    long = length-range_with_len 1 count

-- one page of an image more
pub images_more : (ps : List Page) (i : ℕ) (p : Page) → i < length ps → p ≡ get_or ps i p → map of_image (take (i + 1) ps) ≡ map of_image (take i ps) ++ of_image p ∷ []
images_more ps i p l is =
    ap (map of_image) (take_more ps i p l) ∙ map-append of_image (take i ps) (get_or ps i p ∷ []) ∙ ap (λ (q : Page). map of_image (take i ps) ++ of_image q ∷ []) (sym is)

-- where shared and own bytes stand
pub own_at : (front own : List ℕ) (j k : ℕ) → k ≡ length front + j → get_or (front ++ own) k 0 ≡ get_or own j 0
own_at front own j k at = ap (λ (x : ℕ). get_or (front ++ own) x 0) at ∙ get_or-append-add front own j 0

pub drop_own : (front own : List ℕ) (j k : ℕ) → k ≡ length front + j → drop k (front ++ own) ≡ drop j own
drop_own front own j k at =
    ap (λ (x : ℕ). drop x (front ++ own)) at ∙ sym (drop-drop j (length front) (front ++ own)) ∙ ap (drop j) (drop-append_seam front own)

pub own_changed : (front own new : List ℕ) (k : ℕ) → ((j : ℕ) → k ≡ length front + j → get_or new j 0 ≡ get_or own j 0) → get_or (front ++ new) k 0 ≡ get_or (front ++ own) k 0
own_changed front own new k same =
    ⊎_elim (λ (l : k < length front). get_or_append_left front new 0 k l ∙ sym (get_or_append_left front own 0 k l))
    (λ (above : length front ≤ k).
    let at : k ≡ length front + (k - length front) = omega arith in
    own_at front new (k - length front) k at ∙ same (k - length front) at ∙ sym (own_at front own (k - length front) k at))
    (cases_lt k (length front))

pub length_front : (p : Pages) → length (shared_bytes (arc_value p.shared)) ≡ page_size * p.first_own
length_front p = omega (arith, length_shared (arc_value p.shared), p.shares, (arc_value p.shared).pages.ok.0)

pub length_own : (p : Pages) → length p.bytes.items ≡ page_size * taken p.first_own (slots p.entries.items)
length_own p = omega (arith, length-append (shared_bytes (arc_value p.shared)) p.bytes.items, length_front p, p.sound.whole)

-- an entry more for a page of the image
pub listed : (s : SharedPages) (es new : List Entry) (e : Entry) (i place : ℕ) (p : Page) → new ≡ es ++ e ∷ [] → i < length s.pages.items → p ≡ get_or s.pages.items i p
    → e.number ≡ p.number → e.rights ≡ p.rights → e.slot ≡ place + 1 → place ≡ i
    → map (page_of (shared_bytes s)) es ≡ map of_image (take i s.pages.items) → map (page_of (shared_bytes s)) new ≡ map of_image (take (i + 1) s.pages.items)
listed s es new e i place p more l is number rights slot at before =
    ap (map (page_of (shared_bytes s))) more ∙ map-append (page_of (shared_bytes s)) es (e ∷ []) ∙ ap (λ (ps : List GuestPage). ps ++ page_of (shared_bytes s) e ∷ []) before
    ∙ ap (λ (g : GuestPage). map of_image (take i s.pages.items) ++ g ∷ []) page ∙ sym (images_more s.pages.items i p l is)
  where
    bytes_are : slot_bytes (shared_bytes s) e.slot ≡ p.bytes.items
    bytes_are = ap (slot_bytes (shared_bytes s)) (slot ∙ ap (λ (n : ℕ). n + 1) at) ∙ slot_of_page s i p l ∙ ap (λ (q : Page). q.bytes.items) (sym is)

    page : page_of (shared_bytes s) e ≡ of_image p
    page =
        ap (λ (n : ℕ). record { number = n; rights = e.rights; bytes = slot_bytes (shared_bytes s) e.slot }) number
        ∙ ap (λ (r : Rights). record { number = p.number; rights = r; bytes = slot_bytes (shared_bytes s) e.slot }) rights
        ∙ ap (λ (x : List ℕ). record { number = p.number; rights = p.rights; bytes = x }) bytes_are

range_more : (a n : ℕ) → range_with_len a (suc n) ≡ range_with_len a n ++ (a + n) ∷ []
range_more a zero = ap (λ (x : ℕ). x ∷ []) (let e : a ≡ a + 0 = omega arith in e)
range_more a (suc n) = ap (λ (xs : List ℕ). a ∷ xs) (range_more (a + 1) n ∙ ap (λ (x : ℕ). range_with_len (a + 1) n ++ x ∷ []) (let e : a + 1 + n ≡ a + suc n = omega arith in e))

pub listed_slots : (es new : List Entry) (e : Entry) (i place : ℕ) → new ≡ es ++ e ∷ [] → e.slot ≡ place + 1 → place ≡ i → slots es ≡ range_with_len 1 i → slots new ≡ range_with_len 1 (i + 1)
listed_slots es new e i place more slot at before =
    ap slots more ∙ map-append (λ (x : Entry). x.slot) es (e ∷ []) ∙ ap (λ (ss : List ℕ). ss ++ e.slot ∷ []) before
    ∙ ap (λ (x : ℕ). range_with_len 1 i ++ x ∷ []) (let h : e.slot ≡ 1 + i = omega (arith, slot, at) in h) ∙ sym (range_more 1 i) ∙ ap (range_with_len 1) (let h : suc i ≡ i + 1 = omega arith in h)

-- where the bytes of an own slot stand
pub own_end : (p : Pages) (i s : ℕ) → i < length p.entries.items → get_or (slots p.entries.items) i 0 ≡ s → p.first_own ≤ s → (s - p.first_own) * page_size + page_size ≤ length p.bytes.items
own_end p i s l is own = omega (arith, length_own p, own, is, p.sound.each_in i (omega (arith, l, length-map p.entries.items (λ (e : Entry). e.slot))))

pub own_low : (p : Pages) (i s : ℕ) → i < length p.entries.items → get_or (slots p.entries.items) i 0 ≡ s → s < 2 * max_pages
own_low p i s l is = omega (arith, is, p.sound.each_in i (omega (arith, l, length-map p.entries.items (λ (e : Entry). e.slot))), taken_le p.first_own (slots p.entries.items), p.sound.few, p.sound.few_shared)

pub own_place : (p : Pages) (s o : ℕ) → p.first_own ≤ s → page_size * s + o ≡ length (shared_bytes (arc_value p.shared)) + ((s - p.first_own) * page_size + o)
own_place p s o own = omega (arith, length_front p, own)

-- the bytes of all slots where own ones were changed
pub long_changed : (p : Pages) (new : List ℕ) → length new ≡ length p.bytes.items → length (shared_bytes (arc_value p.shared) ++ new) ≡ length (all_bytes p)
long_changed p new long = omega (arith, long, length-append (shared_bytes (arc_value p.shared)) new, length-append (shared_bytes (arc_value p.shared)) p.bytes.items)

pub first_changed : (p : Pages) (new : List ℕ) (o : ℕ) → o < page_size → get_or (shared_bytes (arc_value p.shared) ++ new) o 0 ≡ get_or (all_bytes p) o 0
first_changed p new o low =
    let front : o < length (shared_bytes (arc_value p.shared)) = omega (arith, low, length_front p, p.sound.some) in
    get_or_append_left (shared_bytes (arc_value p.shared)) new 0 o front ∙ sym (get_or_append_left (shared_bytes (arc_value p.shared)) p.bytes.items 0 o front)
