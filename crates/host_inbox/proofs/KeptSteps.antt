-- What is drained and what was given back is what was put.
use Rattle.std.proofs.Common.{◌≡◌, ◌≢◌, ℕ, zero, suc, ◌+◌, ◌<◌, ◌≤◌, ◌==◌, false, List, [], ◌∷◌, length, get_or, All, Option, Some, None, Vec, nat_lt, sym, refl, ap, ◌∙◌, ne_eqb, lt_of_not-le, arith}
use mathlib.Core.Logic.{dite}
use native.Mathlib.Decide.{dec_le, ℕ_discrete}
use Rattle.std.specs.List.{slice_get}
use Rattle.std.specs.declared.alloc.Global.{Global}
use Rattle.std.proofs.lemmas.Bool.{lt-ltb, le-ltb, le-leb, lt-leb}
use Rattle.std.proofs.lemmas.Option.{slice_get_past}
use Rattle.host_inbox.specs.declared.entry.Entry.{Entry}
use Rattle.list_weights.specs.Places.{EachAt}
use Rattle.list_weights.specs.Weights.{weigh, numbers_below, only}
use Rattle.host_inbox.specs.Entries.{entry_weight}
use Rattle.host_inbox.specs.Drains.{numbers_of, IsInboxOf, IsDrained}
use Rattle.host_inbox.specs.Kept.{back_weight, AreKept}
use Rattle.list_weights.proofs.Weights.{weigh_append, weigh_once}
use Rattle.list_weights.proofs.Permutations.{weigh_permutation}
use Rattle.host_inbox.proofs.CloseSteps.{numbers_weigh}

-- the numbers below n + 1 are 0 and those after it
shifted : (f : ℕ → ℕ) (n : ℕ) → weigh f (numbers_below (suc n)) ≡ f 0 + weigh (λ k. f (suc k)) (numbers_below n)
shifted f zero = refl
shifted f (suc n) = omega (arith, weigh_append f (numbers_below (suc n)) (suc n ∷ []), weigh_append (λ k. f (suc k)) (numbers_below n) (n ∷ []), shifted f n)

plus : {X : Type 0} (f g : X → ℕ) (xs : List X) → weigh (λ x. f x + g x) xs ≡ weigh f xs + weigh g xs
plus f g [] = refl
plus f g (x ∷ xs) = omega (arith, plus f g xs)

no_weight : {X : Type 0} (xs : List X) → weigh (λ _. 0) xs ≡ 0
no_weight [] = refl
no_weight (x ∷ xs) = omega (arith, no_weight xs)

module _ {T : Type 0} where
  weight_in : (T → ℕ) → Option T → ℕ
  weight_in h None = 0
  weight_in h (Some x) = h x

  -- a list weighs what lies at its places
  by_place : (h : T → ℕ) (xs : List T) (n : ℕ) → length xs ≤ n → weigh (λ k. weight_in h (slice_get xs k)) (numbers_below n) ≡ weigh h xs
  unfolding weight_in
  by_place h [] n le = no_weight (numbers_below n)
  by_place h (x ∷ xs) zero le = absurd (omega arith)
  by_place h (x ∷ xs) (suc n) le = shifted (λ k. weight_in h (slice_get (x ∷ xs) k)) n ∙ ap (λ w. h x + w) (by_place h xs n (omega arith))

  -- the parcel's weight, where it has a place
  abbrev place_weight : (T → ℕ) → Entry T → ℕ
  place_weight h e = only (nat_lt e.number 16) (h e.parcel)

  abbrev host_weight : (T → ℕ) → ℕ → Entry T → ℕ
  host_weight h host e = only (e.host == host) (place_weight h e)

  one_entry : (h : T → ℕ) (host : ℕ) (row : List T) (e : Entry T) → length row ≤ 16 → (e.host ≡ host → e.number < 16 → slice_get row e.number ≡ Some e.parcel)
      → host_weight h host e ≡ entry_weight host (λ k. weight_in h (slice_get row k)) e
  unfolding weight_in
  one_entry h host row e few placed = dite (ℕ_discrete e.host host)
      (λ (same : e.host ≡ host). ap (λ n. only (e.host == host) n) (dite (dec_le 16 e.number)
      (λ (past : 16 ≤ e.number). ap (λ b. only b (h e.parcel)) (le-ltb e.number 16 past) ∙ sym (ap (weight_in h) (slice_get_past row e.number (omega arith))))
      (λ not. let small : e.number < 16 = lt_of_not-le not in
      ap (λ b. only b (h e.parcel)) (lt-ltb e.number 16 small) ∙ sym (ap (weight_in h) (placed same small)))))
      (λ (ne : e.host ≢ host). let no : (e.host == host) ≡ false = ne_eqb e.host host ne in
      ap (λ b. only b (place_weight h e)) no ∙ sym (ap (λ b. only b (weight_in h (slice_get row e.number))) no))

  all_entries_of : (h : T → ℕ) (host : ℕ) (row : List T) (es : List (Entry T)) → length row ≤ 16 → All (λ e. e.host ≡ host → e.number < 16 → slice_get row e.number ≡ Some e.parcel) es
      → weigh (host_weight h host) es ≡ weigh (entry_weight host (λ k. weight_in h (slice_get row k))) es
  all_entries_of h host row [] few placed = refl
  all_entries_of h host row (e ∷ es) few placed =
      let here = one_entry h host row e few (placed 0 e (omega arith)) in
      let rest = all_entries_of h host row es few (λ k d w. placed (suc k) d (omega arith)) in
      omega arith

  -- a host's inbox weighs what its entries with a place do
  inbox_weighs : (h : T → ℕ) (host : ℕ) (row : List T) (es : List (Entry T)) → IsInboxOf host es row → weigh h row ≡ weigh (host_weight h host) es
  inbox_weighs h host row es is =
      let f : ℕ → ℕ = λ k. weight_in h (slice_get row k) in
      let count = is.count in
      let few : length row ≤ 16 = omega arith in
      let all : length row ≤ is.claimed = omega arith in
      sym (by_place h row is.claimed all)
      ∙ weigh_permutation f (numbers_of host es) (numbers_below is.claimed) is.once
      ∙ numbers_weigh host f es
      ∙ sym (all_entries_of h host row es few is.placed)

  rows_weigh : (g : Vec T Global → ℕ) (F : ℕ → ℕ) (rows : List (Vec T Global)) → EachAt (λ host row. g row ≡ F host) rows → weigh g rows ≡ weigh F (numbers_below (length rows))
  rows_weigh g F [] each = refl
  rows_weigh g F (row ∷ rows) each =
      let here = each 0 row (omega arith) in
      let rest = rows_weigh g (λ k. F (suc k)) rows (λ k d w. each (suc k) d (omega arith)) in
      let shift = shifted F (length rows) in
      omega arith

  -- each entry is of one host
  hosts_weigh : (h : T → ℕ) (hosts : ℕ) (es : List (Entry T)) → All (λ e. e.host < hosts) es → weigh (λ host. weigh (host_weight h host) es) (numbers_below hosts) ≡ weigh (place_weight h) es
  hosts_weigh h hosts [] below = no_weight (numbers_below hosts)
  hosts_weigh h hosts (e ∷ es) below =
      let split = plus (λ host. host_weight h host e) (λ host. weigh (host_weight h host) es) (numbers_below hosts) in
      let one = weigh_once e.host (place_weight h e) hosts (below 0 e (omega arith)) in
      let rest = hosts_weigh h hosts es (λ k d w. below (suc k) d (omega arith)) in
      omega arith

  placed_or_back : (h : T → ℕ) (e : Entry T) → place_weight h e + back_weight h e ≡ h e.parcel
  placed_or_back h e = dite (dec_le 16 e.number)
      (λ (past : 16 ≤ e.number).
      let a : place_weight h e ≡ 0 = ap (λ b. only b (h e.parcel)) (le-ltb e.number 16 past) in
      let b : back_weight h e ≡ h e.parcel = ap (λ b. only b (h e.parcel)) (le-leb 16 e.number past) in
      omega arith)
      (λ not. let small : e.number < 16 = lt_of_not-le not in
      let a : place_weight h e ≡ h e.parcel = ap (λ b. only b (h e.parcel)) (lt-ltb e.number 16 small) in
      let b : back_weight h e ≡ 0 = ap (λ b. only b (h e.parcel)) (lt-leb 16 e.number small) in
      omega arith)

  halves : (h : T → ℕ) (es : List (Entry T)) → weigh (place_weight h) es + weigh (back_weight h) es ≡ weigh (λ e. h e.parcel) es
  halves h [] = refl
  halves h (e ∷ es) = let here = placed_or_back h e in let rest = halves h es in omega arith

  pub keeps_all : (hosts : ℕ) (es : List (Entry T)) (rows : List (Vec T Global)) → IsDrained hosts es rows → AreKept es rows
  keeps_all hosts es rows is h =
      let g : Vec T Global → ℕ = λ row. weigh h row.items in
      let F : ℕ → ℕ = λ host. weigh (host_weight h host) es in
      let by_host : weigh g rows ≡ weigh F (numbers_below hosts) = rows_weigh g F rows (λ host row within. inbox_weighs h host (get_or rows host row).items es (is.each host row within)) ∙ ap (λ n. weigh F (numbers_below n)) is.count in
      let placed = hosts_weigh h hosts es is.hosts_of in
      let both = halves h es in
      omega arith
