-- The row of a host has the parcels of its places.
use Rattle.std.proofs.Common.{◌≡◌, ◌≢◌, ℕ, zero, suc, ◌+◌, ◌*◌, ◌<◌, ◌≤◌, List, [], ◌∷◌, ◌++◌, length, min, get_or, All, Option, Some, None, Vec, sym, refl, ap, ◌∙◌, subst, length-append, lt_of_not-le, arith}
use mathlib.Core.Option.{some}
use mathlib.Core.Logic.{dite}
use native.Mathlib.Decide.{dec_le, ℕ_discrete}
use lib.ListN.{get_elem?}
use Rattle.std.specs.List.{slice_get}
use Rattle.std.specs.declared.alloc.Global.{Global}
use Rattle.std.proofs.lemmas.Option.{get_or_from_slice_get}
use Rattle.std.proofs.lemmas.List.Elements.{All-weaker, All-from_recursion, recursion_from_All}
use Rattle.host_inbox.specs.declared.entry.Entry.{Entry}
use Rattle.list_weights.specs.Places.{EachAt}
use Rattle.list_weights.specs.Weights.{numbers_below}
use Rattle.host_inbox.specs.Entries.{place_of}
use Rattle.host_inbox.specs.Drains.{numbers_of, IsInboxOf, IsDrained}
use Rattle.host_inbox.specs.inside.Slots.{listed, parcels_from, row_of, AreLaid, AreClosed}
use Rattle.list_weights.proofs.Weights.{is_number}
use Rattle.list_weights.proofs.Permutations.{weigh_permutation}
use Rattle.host_inbox.proofs.Weights.{just_once}
use Rattle.host_inbox.proofs.DrainSteps.{read_at}
use Rattle.host_inbox.proofs.CloseSteps.{find_entry, numbers_weigh}

min_above : (a b : ℕ) → a ≤ b → min a b ≡ a
min_above a b le = omega arith

min_below : (a b : ℕ) → b ≤ a → min a b ≡ b
min_below a b le = omega arith

module _ {T : Type 0} where
  get_front : (xs ys : List T) (p : ℕ) → p < length xs → slice_get (xs ++ ys) p ≡ slice_get xs p
  get_front [] ys p w = absurd (omega arith)
  get_front (x ∷ xs) ys zero w = refl
  get_front (x ∷ xs) ys (suc p) w = get_front xs ys p (omega arith)

  get_end : (xs : List T) (y : T) (p : ℕ) → p ≡ length xs → slice_get (xs ++ y ∷ []) p ≡ Some y
  get_end [] y zero e = refl
  get_end [] y (suc p) e = absurd (omega arith)
  get_end (x ∷ xs) y zero e = absurd (omega arith)
  get_end (x ∷ xs) y (suc p) e = get_end xs y p (omega arith)

  -- what the next place adds
  next_full : (slots : List (Option T)) (from n : ℕ) (x : T) → get_elem? slots (from + n) ≡ some (Some x) → parcels_from slots from (n + 1) ≡ parcels_from slots from n ++ x ∷ []
  next_full slots from n x at = ap (parcels_from slots from) (let e : n + 1 ≡ suc n = omega arith in e) ∙ ap (λ (y : Option T). parcels_from slots from n ++ listed y) (read_at slots (from + n) (Some x) None at)

  next_empty : (slots : List (Option T)) (from n : ℕ) → get_elem? slots (from + n) ≡ some None → parcels_from slots from (n + 1) ≡ parcels_from slots from n ++ []
  next_empty slots from n at = ap (parcels_from slots from) (let e : n + 1 ≡ suc n = omega arith in e) ∙ ap (λ (y : Option T). parcels_from slots from n ++ listed y) (read_at slots (from + n) None None at)

  row_length : (host : ℕ) (entries : List (Entry T)) (slots : List (Option T)) (h : AreLaid host entries slots) (n : ℕ) → n ≤ 16 → length (parcels_from slots (host * 16) n) ≡ min h.claimed n
  row_length host entries slots h zero few = sym (min_below h.claimed 0 (omega arith))
  row_length host entries slots h (suc n) few =
      let before = row_length host entries slots h n (omega arith) in
      let next : parcels_from slots (host * 16) (suc n) ≡ parcels_from slots (host * 16) (n + 1) = ap (parcels_from slots (host * 16)) (let e : suc n ≡ n + 1 = omega arith in e) in
      dite (dec_le h.claimed n)
      (λ (past : h.claimed ≤ n).
      let is = ap length (next ∙ next_empty slots (host * 16) n (h.empty n past (omega arith))) in
      let a = min_above h.claimed n past in
      let b = min_above h.claimed (suc n) (omega arith) in
      omega (arith, length-append (parcels_from slots (host * 16) n) []))
      (λ not.
      let within : n < h.claimed = lt_of_not-le not in
      let full = h.full n within (omega arith) in
      let is = ap length (next ∙ next_full slots (host * 16) n full.0 full.1) in
      let a = min_below h.claimed n (omega arith) in
      let b = min_below h.claimed (suc n) (omega arith) in
      omega (arith, length-append (parcels_from slots (host * 16) n) (full.0 ∷ [])))

  row_get : (host : ℕ) (entries : List (Entry T)) (slots : List (Option T)) (h : AreLaid host entries slots) (n p : ℕ) (x : T) → n ≤ 16 → p < n → p < h.claimed → get_elem? slots (host * 16 + p) ≡ some (Some x)
      → slice_get (parcels_from slots (host * 16) n) p ≡ Some x
  row_get host entries slots h zero p x few within claimed at = absurd (omega arith)
  row_get host entries slots h (suc n) p x few within claimed at =
      let long = row_length host entries slots h n (omega arith) in
      let back : List T = listed (get_or slots (host * 16 + n) None) in
      dite (ℕ_discrete p n)
      (λ (e : p ≡ n).
      let m = min_below h.claimed n (omega arith) in
      let here : get_elem? slots (host * 16 + n) ≡ some (Some x) = sym (ap (λ (k : ℕ). get_elem? slots (host * 16 + k)) e) ∙ at in
      ap (λ (y : Option T). slice_get (parcels_from slots (host * 16) n ++ listed y) p) (read_at slots (host * 16 + n) (Some x) None here)
      ∙ get_end (parcels_from slots (host * 16) n) x p (omega arith))
      (λ (ne : p ≢ n).
      let before : p < n = omega arith in
      let more : p < length (parcels_from slots (host * 16) n) = longer h.claimed n p claimed before long in
      get_front (parcels_from slots (host * 16) n) back p more ∙ row_get host entries slots h n p x (omega arith) before claimed at)
    where
      longer : (c n p : ℕ) → p < c → p < n → {l : ℕ} → l ≡ min c n → p < l
      longer c n p a b e = omega arith

  differ : (x : T) → some (Some x) ≡ some None → ⊥
  differ x e = cc

  -- the row of a host is its inbox
  inbox : (host : ℕ) (entries : List (Entry T)) (slots : List (Option T)) → AreLaid host entries slots → IsInboxOf host entries (parcels_from slots (host * 16) 16)
  inbox host entries slots h = record {
    claimed = h.claimed;
    once = h.once;
    count = row_length host entries slots h 16 (omega arith);
    placed = All-weaker (λ (e : Entry T). e.host ≡ host → e.number < 16 → get_elem? slots (place_of host e.number) ≡ some (Some e.parcel))
        (λ (e : Entry T). e.host ≡ host → e.number < 16 → slice_get (parcels_from slots (host * 16) 16) e.number ≡ Some e.parcel)
        (λ e p of_host small. dite (dec_le h.claimed e.number)
        (λ (past : h.claimed ≤ e.number). absurd (differ e.parcel (sym (p of_host small) ∙ h.empty e.number past small)))
        (λ not. row_get host entries slots h 16 e.number e.parcel (omega arith) small (lt_of_not-le not) (p of_host small)))
        entries (All-from_recursion (λ (e : Entry T). e.host ≡ host → e.number < 16 → get_elem? slots (place_of host e.number) ≡ some (Some e.parcel)) entries h.placed);
  }

  -- and all rows are what is drained
  pub drains : (hosts : ℕ) (entries : List (Entry T)) (slots : List (Option T)) (rows : List (Vec T Global)) → AreClosed hosts entries slots → length rows ≡ hosts
      → EachAt (λ host row. row.items ≡ row_of slots host) rows → IsDrained hosts entries rows
  unfolding row_of
  drains hosts entries slots rows closed count each = record {
    count = count;
    hosts_of = All-from_recursion (λ (e : Entry T). e.host < hosts) entries closed.hosts_of;
    each = λ host row within. subst (IsInboxOf host entries) (sym (each host row within)) (inbox host entries slots (closed.each host (omega arith)));
  }

  -- each parcel of an inbox has an entry of its host
  inbox_holds : (P : ℕ → T → Type 0) (host : ℕ) (es : List (Entry T)) (row : List T) → IsInboxOf host es row → All (λ (e : Entry T). P e.host e.parcel) es → All (P host) row
  inbox_holds P host es row is holds k d within =
      let count = is.count in
      let here : k < is.claimed = omega arith in
      let small : k < 16 = omega arith in
      let one = just_once k is.claimed here in
      let same = weigh_permutation (is_number k) (numbers_of host es) (numbers_below is.claimed) is.once in
      let sum = numbers_weigh host (is_number k) es in
      let Q : Entry T → Type 0 = λ e. P e.host e.parcel × (e.host ≡ host → e.number < 16 → slice_get row e.number ≡ Some e.parcel) in
      let found = find_entry Q host k es (omega arith) (recursion_from_All Q es (λ i e w. (holds i e w, is.placed i e w))) in
      let e : Entry T = found.0 in
      let number : e.number ≡ k = found.3 in
      let there : slice_get row k ≡ Some e.parcel = subst (λ (n : ℕ). slice_get row n ≡ Some e.parcel) number (found.1.1 found.2 (omega arith)) in
      subst (P host) (sym (get_or_from_slice_get row k e.parcel d there)) (subst (λ (n : ℕ). P n e.parcel) found.2 found.1.0)

  -- what holds of each entry with its host holds of each parcel of that host's row
  pub rows_hold : (P : ℕ → T → Type 0) (hosts : ℕ) (es : List (Entry T)) (rows : List (Vec T Global)) → IsDrained hosts es rows → All (λ (e : Entry T). P e.host e.parcel) es
      → EachAt (λ host row. All (P host) row.items) rows
  rows_hold P hosts es rows is holds host row within = inbox_holds P host es (get_or rows host row).items (is.each host row within) holds
