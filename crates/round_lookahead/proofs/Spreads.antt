-- Where the parcels of a round are: each that was made lies in a row or in a spill, and no others do.
use Rattle.std.proofs.Common.{◌≡◌, ◌⊎◌, inl, inr, ⊎_elim, ℕ, zero, suc, ◌<◌, List, [], ◌∷◌, ◌++◌, All, Some, Contains, map, length, get_or, nat_le, refl, sym, ap, subst, arith, lt_of_not-le, Vec}
use Rattle.std.specs.List.{flat_map, slice_get}
use mathlib.Core.Logic.{dite}
use native.Mathlib.Decide.{dec_le}
use Rattle.std.proofs.lemmas.Bool.{le-leb}
use Rattle.std.proofs.lemmas.List.Elements.{All-head, All-tail}
use Rattle.std.proofs.lemmas.Option.{get_or_from_slice_get, slice_get_within}
use Rattle.std.specs.declared.alloc.Global.{Global}
use Rattle.sim_base.specs.declared.event.Parcel.{Parcel}
use Rattle.host_inbox.specs.declared.entry.Entry.{Entry}
use Rattle.host_inbox.specs.Drains.{IsDrained}
use Rattle.host_inbox.proofs.RowSteps.{rows_hold}
use Rattle.world_order.proofs.Members.{IsIn, Each, IsIn_left, IsIn_right, IsIn_either, Contains_from_IsIn, IsIn_from_Contains, Each_from_All, All_from_Each, Each_cons, Each-append, IsIn_filter, IsIn_filter_from}
use Rattle.round_lookahead.specs.declared.workers.worked.Worked.{Worked}
use Rattle.round_parts.specs.Arrivals.{Boxed}
use Rattle.round_parts.specs.Posts.{IsPosted, carried, given_back}
use Rattle.round_lookahead.specs.inside.Rounds.{all_parcels}

-- ---- puts and spills

-- an entry has a place in its host's row, and carries the parcel
pub record HasPlace (p : Parcel) (es : List (Entry Boxed)) : Type 0 where
  pub entry : Entry Boxed
  pub there : IsIn entry es
  pub carries : p ≡ entry.parcel.value
  pub small : entry.number < 16

pub record AreSpread (made : List Parcel) (es : List (Entry Boxed)) (spilled : List Parcel) : Type 0 where
  pub puts : (e : Entry Boxed) → IsIn e es → IsIn e.parcel.value made
  pub spills : (p : Parcel) → IsIn p spilled → IsIn p made
  pub back : (p : Parcel) → IsIn p made → IsIn p spilled ⊎ HasPlace p es

put_in : (e : Entry Boxed) (es : List (Entry Boxed)) → IsIn e es → IsIn e.parcel.value (carried es)
put_in e [] i = absurd i
put_in e (x ∷ es) (inl is) = inl (ap (λ (y : Entry Boxed). y.parcel.value) is)
put_in e (x ∷ es) (inr i) = inr (put_in e es i)

carried_by : (p : Parcel) (es : List (Entry Boxed)) → IsIn p (carried es) → (e : Entry Boxed) × IsIn e es × (p ≡ e.parcel.value)
carried_by p [] i = absurd i
carried_by p (x ∷ es) (inl is) = (x, inl refl, is)
carried_by p (x ∷ es) (inr i) = let c = carried_by p es i in (c.0, inr c.1, c.2)

back_or_placed : (p : Parcel) (es : List (Entry Boxed)) (e : Entry Boxed) → IsIn e es → p ≡ e.parcel.value → IsIn p (carried (given_back es)) ⊎ HasPlace p es
back_or_placed p es e i is =
    dite (dec_le 16 e.number)
    (λ past. inl (subst (λ (q : Parcel). IsIn q (carried (given_back es))) (sym is)
    (put_in e (given_back es) (IsIn_filter (λ (x : Entry Boxed). nat_le 16 x.number) e es i (le-leb 16 e.number past)))))
    (λ not. inr (record { entry = e; there = i; carries = is; small = lt_of_not-le not }))

given_from : (p : Parcel) (es : List (Entry Boxed)) → IsIn p (carried (given_back es)) → IsIn p (carried es)
given_from p es i =
    let c = carried_by p (given_back es) i in
    subst (λ (q : Parcel). IsIn q (carried es)) (sym c.2) (put_in c.0 es (IsIn_filter_from (λ (x : Entry Boxed). nat_le 16 x.number) c.0 es c.1).0)

pub spread_one : (all : List Parcel) (es : List (Entry Boxed)) (spill : List Parcel) → IsPosted all es spill → AreSpread all es spill
spread_one all es spill posted = record {
  puts = λ e i. subst (IsIn e.parcel.value) (sym posted.sent) (IsIn_left e.parcel.value (carried es) posted.kept (put_in e es i));
  spills = λ p i. subst (IsIn p) (sym posted.sent)
      (⊎_elim (λ (b : IsIn p (carried (given_back es))). IsIn_left p (carried es) posted.kept (given_from p es b)) (λ (k : IsIn p posted.kept). IsIn_right p (carried es) posted.kept k)
      (IsIn_either p (carried (given_back es)) posted.kept (subst (IsIn p) posted.spilled i)));
  back = λ p i.
      ⊎_elim
      (λ (c : IsIn p (carried es)). let by = carried_by p es c in
      ⊎_elim (λ (b : IsIn p (carried (given_back es))). inl (subst (IsIn p) (sym posted.spilled) (IsIn_left p (carried (given_back es)) posted.kept b))) (λ (h : HasPlace p es). inr h)
      (back_or_placed p es by.0 by.1 by.2))
      (λ (k : IsIn p posted.kept). inl (subst (IsIn p) (sym posted.spilled) (IsIn_right p (carried (given_back es)) posted.kept k)))
      (IsIn_either p (carried es) posted.kept (subst (IsIn p) posted.sent i));
}

pub spread_none : AreSpread [] [] []
spread_none = record { puts = λ e i. absurd i; spills = λ p i. absurd i; back = λ p i. absurd i }

module _ (m n : List Parcel) (es fs : List (Entry Boxed)) (s t : List Parcel) where
  place_left : (p : Parcel) → HasPlace p es → HasPlace p (es ++ fs)
  place_left p h = record { entry = h.entry; there = IsIn_left h.entry es fs h.there; carries = h.carries; small = h.small }

  place_right : (p : Parcel) → HasPlace p fs → HasPlace p (es ++ fs)
  place_right p h = record { entry = h.entry; there = IsIn_right h.entry es fs h.there; carries = h.carries; small = h.small }

  pub spread_more : AreSpread m es s → AreSpread n fs t → AreSpread (m ++ n) (es ++ fs) (s ++ t)
  spread_more a b = record {
    puts = λ e i. ⊎_elim (λ (l : IsIn e es). IsIn_left e.parcel.value m n (a.puts e l)) (λ (r : IsIn e fs). IsIn_right e.parcel.value m n (b.puts e r)) (IsIn_either e es fs i);
    spills = λ p i. ⊎_elim (λ (l : IsIn p s). IsIn_left p m n (a.spills p l)) (λ (r : IsIn p t). IsIn_right p m n (b.spills p r)) (IsIn_either p s t i);
    back = λ p i.
        ⊎_elim
        (λ (l : IsIn p m). ⊎_elim (λ (x : IsIn p s). inl (IsIn_left p s t x)) (λ (h : HasPlace p es). inr (place_left p h)) (a.back p l))
        (λ (r : IsIn p n). ⊎_elim (λ (x : IsIn p t). inl (IsIn_right p s t x)) (λ (h : HasPlace p fs). inr (place_right p h)) (b.back p r))
        (IsIn_either p m n i);
  }

-- ---- rows

abbrev row_parcels : Vec Boxed Global → List Parcel
row_parcels row = map (λ (b : Boxed). b.value) row.items

boxes_in : (Q : Parcel → Type 0) (bs : List Boxed) → All (λ (b : Boxed). Q b.value) bs → Each Q (map (λ (b : Boxed). b.value) bs)
boxes_in Q [] all = λ p i. absurd i
boxes_in Q (b ∷ bs) all = Each_cons Q b.value (map (λ (b : Boxed). b.value) bs) (All-head (λ (b : Boxed). Q b.value) b bs all) (boxes_in Q bs (All-tail (λ (b : Boxed). Q b.value) b bs all))

rows_in : (Q : Parcel → Type 0) (rows : List (Vec Boxed Global)) → All (λ (row : Vec Boxed Global). All (λ (b : Boxed). Q b.value) row.items) rows → Each Q (flat_map row_parcels rows)
rows_in Q [] all = λ p i. absurd i
rows_in Q (row ∷ rows) all =
    Each-append Q (row_parcels row) (flat_map row_parcels rows) (boxes_in Q row.items (All-head (λ (row : Vec Boxed Global). All (λ (b : Boxed). Q b.value) row.items) row rows all))
    (rows_in Q rows (All-tail (λ (row : Vec Boxed Global). All (λ (b : Boxed). Q b.value) row.items) row rows all))

box_in : (b : Boxed) (bs : List Boxed) → IsIn b bs → IsIn b.value (map (λ (b : Boxed). b.value) bs)
box_in b [] i = absurd i
box_in b (x ∷ bs) (inl is) = inl (ap (λ (y : Boxed). y.value) is)
box_in b (x ∷ bs) (inr i) = inr (box_in b bs i)

place_in : (bs : List Boxed) (n : ℕ) (b : Boxed) → slice_get bs n ≡ Some b → IsIn b.value (map (λ (b : Boxed). b.value) bs)
place_in bs n b is = box_in b bs (IsIn_from_Contains b bs (n, slice_get_within bs n b is, get_or_from_slice_get bs n b b is))

row_in : (rows : List (Vec Boxed Global)) (k n : ℕ) (b : Boxed) → k < length rows → ((row : Vec Boxed Global) → slice_get (get_or rows k row).items n ≡ Some b)
    → IsIn b.value (flat_map row_parcels rows)
row_in [] k n b below is = absurd (omega arith)
row_in (row ∷ rows) zero n b below is = IsIn_left b.value (row_parcels row) (flat_map row_parcels rows) (place_in row.items n b (is row))
row_in (row ∷ rows) (suc k) n b below is = IsIn_right b.value (row_parcels row) (flat_map row_parcels rows) (row_in rows k n b (omega arith) (λ d. is d))

-- ---- the round

module _ (hosts : ℕ) (made : List Parcel) (es : List (Entry Boxed)) (rows : List (Vec Boxed Global)) (works : List Worked) (drained : IsDrained hosts es rows)
    (spread : AreSpread made es (flat_map (λ (w : Worked). w.spill.items) works)) where
  abbrev spilled : List Parcel
  spilled = flat_map (λ (w : Worked). w.spill.items) works

  pub into : All (λ (p : Parcel). Contains made p) (all_parcels rows works)
  into =
      All_from_Each (λ (p : Parcel). Contains made p) (flat_map row_parcels rows ++ spilled)
      (Each-append (λ (p : Parcel). Contains made p) (flat_map row_parcels rows) spilled
      (rows_in (λ (p : Parcel). Contains made p) rows
      (rows_hold (λ host (b : Boxed). Contains made b.value) hosts es rows drained
      (All_from_Each (λ (e : Entry Boxed). Contains made e.parcel.value) es (λ e i. Contains_from_IsIn e.parcel.value made (spread.puts e i)))))
      (λ p i. Contains_from_IsIn p made (spread.spills p i)))

  in_row : (p : Parcel) → HasPlace p es → IsIn p (flat_map row_parcels rows)
  in_row p h =
      let e : Entry Boxed = h.entry in
      let below : e.host < hosts = Each_from_All (λ (e : Entry Boxed). e.host < hosts) es drained.hosts_of e h.there in
      let count = drained.count in
      let within : e.host < length rows = omega arith in
      subst (λ (q : Parcel). IsIn q (flat_map row_parcels rows)) (sym h.carries)
      (row_in rows e.host e.number e.parcel within
      (λ row. Each_from_All (λ (x : Entry Boxed). x.host ≡ e.host → x.number < 16 → slice_get (get_or rows e.host row).items x.number ≡ Some x.parcel) es
      (drained.each e.host row within).placed e h.there refl h.small))

  pub back : All (λ (p : Parcel). Contains (all_parcels rows works) p) made
  back =
      All_from_Each (λ (p : Parcel). Contains (all_parcels rows works) p) made
      (λ p i. Contains_from_IsIn p (all_parcels rows works)
      (⊎_elim (λ (s : IsIn p spilled). IsIn_right p (flat_map row_parcels rows) spilled s) (λ (h : HasPlace p es). IsIn_left p (flat_map row_parcels rows) spilled (in_row p h)) (spread.back p i)))
