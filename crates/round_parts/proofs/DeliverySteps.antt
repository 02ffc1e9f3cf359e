-- A packet joins those that wait for its host.
use Rattle.std.proofs.Common.{◌≡◌, ◌≢◌, ⊎_elim, ℕ, ◌<◌, List, [], ◌∷◌, ◌++◌, All, map, length, length-set, get_or, get_or-set_same, get_or-set_other, slice_set, sym, ap, subst, ◌∙◌, arith, IsPermutation, Vec}
use Rattle.std.specs.declared.alloc.Global.{Global}
use Rattle.std.proofs.lemmas.Bool.{cases_eq}
use Rattle.std.proofs.lemmas.List.Elements.{All-push}
use Rattle.std.proofs.lemmas.List.Sorted.{IsPermutation-trans, IsPermutation-to_front, IsPermutation-append_right, IsPermutation-middle}
use Rattle.sim_base.specs.declared.event.Event.{Event}
use Rattle.sim_base.specs.declared.event.Parcel.{Parcel}
use Rattle.host_link.specs.Home.{home}
use Rattle.host_link.specs.Net.{Net}
use Rattle.host_link.specs.Parcels.{parcel_event}
use Rattle.world_order.proofs.Parts.{part-more}
use Rattle.round_parts.specs.Arrivals.{Boxed, arrivals}
use Rattle.round_parts.specs.Rows.{row_arrivals, AreAtHome}
use Rattle.round_parts.proofs.ListFacts.{at_index}

arrivals_more : (bs : List Boxed) (b : Boxed) → arrivals (bs ++ b ∷ []) ≡ arrivals bs ++ parcel_event b.value ∷ []
arrivals_more [] b = Rattle.std.proofs.Common.refl
arrivals_more (x ∷ bs) b = ap (λ (l : List Event). parcel_event x.value ∷ l) (arrivals_more bs b)

pub row-more : (rows : List (Vec Boxed Global)) (to : ℕ) (row new : Vec Boxed Global) (boxed : Boxed) (p : Parcel) → to < length rows → row ≡ get_or rows to row → new.items ≡ row.items ++ boxed ∷ [] → boxed.value ≡ p
    → IsPermutation (row_arrivals (slice_set rows to new)) (parcel_event p ∷ row_arrivals rows)
row-more rows to row new boxed p below at more is =
    let e : Event = parcel_event p in
    let same : arrivals new.items ≡ arrivals row.items ++ e ∷ [] =
    ap arrivals more ∙ arrivals_more row.items boxed ∙ ap (λ (q : Parcel). arrivals row.items ++ parcel_event q ∷ []) is in
    part-more (λ (r : Vec Boxed Global). arrivals r.items) rows to row new (e ∷ []) (at_index rows to row below at)
    (subst (λ (l : List Event). IsPermutation l (e ∷ arrivals row.items)) (sym same) (IsPermutation-to_front (arrivals row.items) e))

-- it lies in the row of its host
pub row-home : (rows : List (Vec Boxed Global)) (to : ℕ) (row new : Vec Boxed Global) (boxed : Boxed) (p : Parcel) → to < length rows → row ≡ get_or rows to row → new.items ≡ row.items ++ boxed ∷ [] → boxed.value ≡ p
    → (net : Net) → home net (parcel_event p) ≡ to → AreAtHome net rows → AreAtHome net (slice_set rows to new)
row-home rows to row new boxed p below at more is net is_to all k r under =
    let same = length-set rows to new in
    ⊎_elim
    (λ (e : k ≡ to).
    let here : get_or (slice_set rows to new) k r ≡ new = ap (λ (n : ℕ). get_or (slice_set rows to new) n r) e ∙ get_or-set_same rows to new r below in
    let theirs : All (λ (b : Boxed). home net (parcel_event b.value) ≡ to) row.items = subst (λ (v : Vec Boxed Global). All (λ (b : Boxed). home net (parcel_event b.value) ≡ to) v.items) (sym at) (all to row below) in
    let mine : home net (parcel_event boxed.value) ≡ to = ap (λ (q : Parcel). home net (parcel_event q)) is ∙ is_to in
    subst (λ (v : Vec Boxed Global). All (λ (b : Boxed). home net (parcel_event b.value) ≡ k) v.items) (sym here)
    (subst (λ (n : ℕ). All (λ (b : Boxed). home net (parcel_event b.value) ≡ n) new.items) (sym e)
    (subst (All (λ (b : Boxed). home net (parcel_event b.value) ≡ to)) (sym more)
    (All-push (λ (b : Boxed). home net (parcel_event b.value) ≡ to) row.items boxed theirs mine))))
    (λ (n : k ≢ to).
    subst (λ (v : Vec Boxed Global). All (λ (b : Boxed). home net (parcel_event b.value) ≡ k) v.items) (sym (get_or-set_other rows to k new r n)) (all k r (omega (arith, under, same))))
    (cases_eq k to)

pub delivered_more : (left rest : List Parcel) (p : Parcel) (old new whole : List Event) → left ≡ p ∷ rest → IsPermutation new (parcel_event p ∷ old)
    → IsPermutation (map parcel_event left ++ old) whole → IsPermutation (map parcel_event rest ++ new) whole
delivered_more left rest p old new whole is more all =
    IsPermutation-trans (map parcel_event rest ++ new) (map parcel_event rest ++ (parcel_event p ∷ old)) whole
    (IsPermutation-append_right (map parcel_event rest) new (parcel_event p ∷ old) more)
    (IsPermutation-trans (map parcel_event rest ++ (parcel_event p ∷ old)) (parcel_event p ∷ (map parcel_event rest ++ old)) whole
    (IsPermutation-middle (map parcel_event rest) (parcel_event p) old)
    (subst (λ (l : List Parcel). IsPermutation (map parcel_event l ++ old) whole) is all))
