-- how a search goes on
use Rattle.std.proofs.Common.{◌≡◌, ℕ, zero, suc, ◌+◌, ◌*◌, ◌/◌, ◌<◌, ◌≤◌, true, false, cond, List, [], ◌∷◌, ◌++◌, length, get_or, set, fold, Option, Some, None, refl, sym, ap, ◌∙◌, subst, inl, inr, ⊎_elim, arith, length-set, replicate, take, drop, append-nil, length-drop}
use Rattle.std.specs.Prelude.{Contains, All, IfSome, IsSome, IsSomeAnd, is_some, count_by, ◌⊎◌}
use Rattle.std.specs.List.Sorted.{IsPermutation}
use Rattle.std.proofs.lemmas.List.{nil_from_length, take_all, get_or-set_same, get_or-set_other, get_or_past, get_or-replicate, length-replicate}
use Rattle.std.proofs.lemmas.List.Sorted.{Contains-permutation, IsPermutation-sym}
use Rattle.std.proofs.lemmas.List.Elements.{All-contains, All-from_recursion, Contains-get_or, Contains-push, Contains-push_cases, Contains-append_left}
use Rattle.std.proofs.lemmas.Bool.Decides.{nat_tests}
use Rattle.std.specs.BinaryHeap.{IsUpperBound, lt_by_cmp}
use Rattle.std.proofs.lemmas.Bool.{cases_eq, cases_lt}
use Rattle.std.proofs.lemmas.List.Sums.{sum_by-cons, sum_by-set, count_by-le-length}
use Rattle.std.proofs.Math.Nat.{mul-le-mul_left}
use Rattle.net_routes.specs.declared.cost.Cost.{Cost}
use Rattle.net_routes.specs.declared.arc.Arc.{Arc}
use Rattle.net_routes.specs.declared.search.Entry.{Entry}
use Rattle.net_routes.specs.Cost.{nothing, IsAsGood}
use Rattle.net_routes.specs.inside.Path.{Leaves, Leads, then_arc, HasPath, IsArc, AreArcs, IsBest}
use Rattle.net_routes.specs.inside.Search.{entry_order, IsSettled, IsReached, IsKnown, IsWaiting, IsMade, IsSearch, AddsArcs, IsFirst, IsNext}
use Rattle.net_routes.proofs.ListLemmas.{contains_cons, contains_head, contains_cases, some_same}
use Rattle.net_routes.proofs.CostLemmas.{good_refl, good_trans, good_extend, path_more}

-- the same entries in another order
waiting_moved : (old new : List Entry) (v t : ℕ) → ((e : Entry) → Contains old e → Contains new e) → IsWaiting old v t → IsWaiting new v t
waiting_moved old new v t kept w = (w.0, kept w.0 w.1, w.2, w.3)

reached_moved : (best : List (Option Cost)) (old new : List Entry) (v : ℕ) (c : Cost) → IsPermutation old new → IsReached best old v c → IsReached best new v c
reached_moved best old new v c p (inl s) = inl s
reached_moved best old new v c p (inr w) = inr (w.0, waiting_moved old new v c.latency (λ e h. Contains-permutation old new e p h) w.1)

pub search_moved : (rows : List (List Arc)) (start : ℕ) (best known : List (Option Cost)) (old new : List Entry) → IsPermutation old new → IsPermutation new old → IsSearch rows start best known old → IsSearch rows start best known new
search_moved rows start best known old new p q s = record {
  size = s.size;
  room = s.room;
  settled = s.settled;
  had = s.had;
  waits = λ e h. s.waits e (Contains-permutation new old e q h);
  ordered = λ v c e t h. s.ordered v c e t (Contains-permutation new old e q h);
  seen = λ v c t. reached_moved best old new v c p (s.seen v c t);
  closed = s.closed;
  source = s.source;
  bounded = s.bounded;
}

not_none : (best : List (Option Cost)) (p v : ℕ) (d : Cost) → IsSettled best p d → p ≡ v → get_or best v None ≡ None → ⊥
not_none best p v d t same none =
    let P : ℕ → Type 0 = λ q. get_or best q None ≡ Some d in
    let there : get_or best v None ≡ Some d = subst P same t in
    let never : ⊥ = cc in
    never

-- an entry of a place that was left is passed over
passed : (best : List (Option Cost)) (e : Entry) (rest : List Entry) (d : Cost) (v : ℕ) (c : Cost) → IsSettled best e.place d → IsReached best (e ∷ rest) v c → IsReached best rest v c
passed best e rest d v c t (inl s) = inl s
passed best e rest d v c t (inr w) =
    ⊎_elim
    (λ (is : e ≡ w.1.0). absurd (not_none best e.place v d t (ap (λ (o : Entry). o.place) is ∙ w.1.2) w.0))
    (λ (there : Contains rest w.1.0). inr (w.0, (w.1.0, there, w.1.2, w.1.3)))
    (contains_cases e rest w.1.0 w.1.1)

pub search_passed : (rows : List (List Arc)) (start : ℕ) (best known : List (Option Cost)) (e : Entry) (rest : List Entry) (d : Cost) → IsSettled best e.place d → IsSearch rows start best known (e ∷ rest) → IsSearch rows start best known rest
search_passed rows start best known e rest d t s = record {
  size = s.size;
  room = s.room;
  settled = s.settled;
  had = s.had;
  waits = λ o h. s.waits o (contains_cons e rest o h);
  ordered = λ v c o u h. s.ordered v c o u (contains_cons e rest o h);
  seen = λ v c u. passed best e rest d v c t (s.seen v c u);
  closed = s.closed;
  source = s.source;
  bounded = s.bounded;
}

-- LEAVING A PLACE

-- what was settled before, and the place that is left now
pub settled_cases : (best : List (Option Cost)) (v : ℕ) (c : Cost) (u : ℕ) (d : Cost) → v < length best → IsSettled (set best v (Some c)) u d → ((u ≡ v) × (c ≡ d)) ⊎ IsSettled best u d
settled_cases best v c u d lt t =
    ⊎_elim
    (λ (same : u ≡ v).
    let P : ℕ → Type 0 = λ p. get_or (set best v (Some c)) p None ≡ Some d in
    let there : get_or (set best v (Some c)) v None ≡ Some d = subst P same t in
    inl (same, some_same c d (sym (get_or-set_same best v (Some c) None lt) ∙ there)))
    (λ (other : u ≡ v → ⊥). inr (sym (get_or-set_other best v u (Some c) None other) ∙ t))
    (cases_eq u v)

settled_now : (best : List (Option Cost)) (v : ℕ) (c : Cost) → v < length best → IsSettled (set best v (Some c)) v c
settled_now best v c lt = get_or-set_same best v (Some c) None lt

settled_still : (best : List (Option Cost)) (v : ℕ) (c : Cost) (u : ℕ) (d : Cost) → get_or best v None ≡ None → IsSettled best u d → IsSettled (set best v (Some c)) u d
settled_still best v c u d open_ t =
    ⊎_elim
    (λ (same : u ≡ v).
    let P : ℕ → Type 0 = λ p. get_or best p None ≡ Some d in
    let there : get_or best v None ≡ Some d = subst P same t in
    absurd (let none : ⊥ = cc in none))
    (λ (other : u ≡ v → ⊥). get_or-set_other best v u (Some c) None other ∙ t)
    (cases_eq u v)

good_same : (c d : Cost) → c ≡ d → IsAsGood c d
good_same c d is = let P : Cost → Type 0 = λ k. IsAsGood c k in subst P is (good_refl c)

good_time : (c d : Cost) → IsAsGood c d → c.latency ≤ d.latency
good_time c d (inl p) = omega (arith, p)
good_time c d (inr p) = omega (arith, p.0)

-- the cheapest place waits no longer than its known cost
pub time_known : (rows : List (List Arc)) (start : ℕ) (best known : List (Option Cost)) (e : Entry) (rest : List Entry) (c : Cost)
    → get_or best e.place None ≡ None → IsFirst e rest → get_or known e.place None ≡ Some c → IsSearch rows start best known (e ∷ rest) → (c.latency ≤ e.latency.0) × (e.latency.0 ≤ c.latency)
time_known rows start best known e rest c none first is s =
    let w = s.waits e (contains_head e rest) in
    let same : w.1 ≡ c = some_same w.1 c (sym w.2 ∙ is) in (
      omega (arith, w.3, ap (λ (k : Cost). k.latency) same),
      ⊎_elim
          (λ (t : (d : Cost) × IsSettled best e.place d × IsAsGood d c). absurd (not_none best e.place e.place t.0 t.1 refl none))
          (λ (t : (get_or best e.place None ≡ None) × IsWaiting (e ∷ rest) e.place c.latency).
          ⊎_elim
          (λ (here : e ≡ t.1.0). omega (arith, ap (λ (o : Entry). o.latency.0) here, t.1.3))
          (λ (there : Contains rest t.1.0). omega (arith, first t.1.0 there, t.1.3))
          (contains_cases e rest t.1.0 t.1.1))
          (s.seen e.place c is),
    )

-- what was known is still reached
reached_still : (rows : List (List Arc)) (start : ℕ) (best known : List (Option Cost)) (e : Entry) (rest new : List Entry) (c : Cost) (v : ℕ) (k : Cost)
    → get_or best e.place None ≡ None → e.place < length best → get_or known e.place None ≡ Some c → ((o : Entry) → Contains rest o → Contains new o)
    → get_or known v None ≡ Some k → IsReached best (e ∷ rest) v k → IsReached (set best e.place (Some c)) new v k
reached_still rows start best known e rest new c v k none lt is kept t (inl s) = inl (s.0, settled_still best e.place c v s.0 none s.1, s.2)
reached_still rows start best known e rest new c v k none lt is kept t (inr w) =
    ⊎_elim
    (λ (same : v ≡ e.place).
    let P : ℕ → Type 0 = λ p. get_or known p None ≡ Some k in
    let Q : ℕ → Type 0 = λ p. IsSettled (set best e.place (Some c)) p c in
    inl (c, subst Q (sym same) (settled_now best e.place c lt), good_same c k (some_same c k (sym is ∙ subst P same t))))
    (λ (other : v ≡ e.place → ⊥).
    ⊎_elim
    (λ (here : e ≡ w.1.0). absurd (other (sym w.1.2 ∙ ap (λ (o : Entry). o.place) (sym here))))
    (λ (there : Contains rest w.1.0). inr (get_or-set_other best e.place v (Some c) None other ∙ w.0, (w.1.0, kept w.1.0 there, w.1.2, w.1.3)))
    (contains_cases e rest w.1.0 w.1.1))
    (cases_eq v e.place)

-- and so is a place to which an arc leads now
reached_made : (best : List (Option Cost)) (new : List Entry) (v : ℕ) (k : Cost) (o : Option Cost) → get_or best v None ≡ o → ((d : Cost) → IsSettled best v d → d.latency < k.latency) → IsWaiting new v k.latency → IsReached best new v k
reached_made best new v k (Some d) is less w = inl (d, is, inl (less d is))
reached_made best new v k None is less w = inr (is, w)

known_still : (c : Cost) (arcs : List Arc) (known seen : List (Option Cost)) (old new : List Entry) (v : ℕ) (k : Cost) → AddsArcs c arcs known seen old new → IsKnown known v k → IsKnown seen v k
known_still c arcs known seen old new v k a w =
    let t = a.lower v w.0 w.1 in
    (t.0, t.1, good_trans t.0 w.0 k t.2 w.2)

count_more : (best : List (Option Cost)) (v : ℕ) (c : Cost) → v < length best → get_or best v None ≡ None → count_by is_some (set best v (Some c)) ≡ count_by is_some best + 1
count_more best v c lt none =
    let step = sum_by-set (λ (o : Option Cost). cond (is_some o) 1 0) best v (Some c) None lt in
    let zero_ : ◌≡◌ {A = ℕ} (cond (is_some (get_or best v None)) 1 0) 0 = rw none refl in
    omega (arith, step, zero_)

part_less : (r p : ℕ) → p ≤ 1000000000 → r * p / 1000000000 ≤ r
part_less r p h = let le : r * p ≤ r * 1000000000 = mul-le-mul_left r h in omega arith

-- everything that a search knows, once the cheapest place is left
pub search_left : (rows : List (List Arc)) (start : ℕ) (best known after : List (Option Cost)) (e : Entry) (rest new : List Entry) (c : Cost)
    → AreArcs rows → get_or best e.place None ≡ None → IsFirst e rest → get_or known e.place None ≡ Some c
    → AddsArcs c (get_or rows e.place []) known after rest new
    → IsSearch rows start best known (e ∷ rest) → IsSearch rows start (set best e.place (Some c)) after new
search_left rows start best known after e rest new c are none first is adds s =
    let b : List (Option Cost) = set best e.place (Some c) in
    let arcs : List Arc = get_or rows e.place [] in
    let head : Contains (e ∷ rest) e = contains_head e rest in
    let lt : e.place < length best = omega (arith, s.size, (s.waits e head).0) in
    let time = time_known rows start best known e rest c none first is s in
    let arc_time : (x : Arc) → Leaves rows e.place x → c.latency < (then_arc c x).latency = λ x l. omega (arith, (are e.place x l).hop.some) in
    let before : (v : ℕ) (d : Cost) → IsSettled b v d → d.latency ≤ c.latency = λ v d t. ⊎_elim
    (λ (now : (v ≡ e.place) × (c ≡ d)). omega (arith, ap (λ (k : Cost). k.latency) now.1))
    (λ (old : IsSettled best v d). omega (arith, s.ordered v d e old head, time.1))
    (settled_cases best e.place c v d lt t) in
    record {
      size = length-set best e.place (Some c) ∙ s.size;
      room = adds.size ∙ s.room;
      settled = λ v k t. ⊎_elim
          (λ (now : (v ≡ e.place) × (c ≡ k)).
          let P : ℕ → Type 0 = λ p. HasPath rows start p k in
          let Q : Cost → Type 0 = λ q. HasPath rows start e.place q in
          subst P (sym now.0) (subst Q now.1 (s.had e.place c is)))
          (λ (old : IsSettled best v k). s.settled v k old)
          (settled_cases best e.place c v k lt t);
      had = λ v k t. ⊎_elim
          (λ (was : get_or known v None ≡ Some k). s.had v k was)
          (λ (m : IsMade c arcs new v k).
          let P : ℕ → Type 0 = λ p. HasPath rows start p k in
          let Q : Cost → Type 0 = λ q. HasPath rows start m.arc.to q in
          subst P m.ends (subst Q m.costs (path_more rows start e.place c m.arc (s.had e.place c is) m.leaves)))
          (adds.from v k t);
      waits = λ o h. ⊎_elim
          (λ (old : Contains rest o).
          let w = s.waits o (contains_cons e rest o old) in
          let k = adds.lower o.place w.1 w.2 in
          (w.0, k.0, k.1, omega (arith, good_time k.0 w.1 k.2, w.3)))
          (λ (w : (x : Arc) × Contains arcs x × (o.place ≡ x.to) × (o.latency.0 ≡ (then_arc c x).latency)).
          let k = adds.added w.0 w.1 in
          let P : ℕ → Type 0 = λ p. (p < length rows) × (d : Cost) × (get_or after p None ≡ Some d) × (d.latency ≤ o.latency.0) in
          subst P (sym w.2) ((are e.place w.0 w.1).ends, k.0, k.1, omega (arith, good_time k.0 (then_arc c w.0) k.2, w.3)))
          (adds.only o h);
      ordered = λ v k o t h. ⊎_elim
          (λ (old : Contains rest o). omega (arith, before v k t, time.0, first o old))
          (λ (w : (x : Arc) × Contains arcs x × (o.place ≡ x.to) × (o.latency.0 ≡ (then_arc c x).latency)). omega (arith, before v k t, arc_time w.0 w.1, w.3))
          (adds.only o h);
      seen = λ v k t. ⊎_elim
          (λ (was : get_or known v None ≡ Some k). reached_still rows start best known e rest new c v k none lt is adds.kept was (s.seen v k was))
          (λ (m : IsMade c arcs new v k).
          let more : c.latency < k.latency = omega (arith, arc_time m.arc m.leaves, ap (λ (q : Cost). q.latency) m.costs) in
          reached_made b new v k (get_or b v None) refl (λ d u. omega (arith, before v d u, more)) m.waits)
          (adds.from v k t);
      closed = λ u k x t l. ⊎_elim
          (λ (now : (u ≡ e.place) × (c ≡ k)).
          let P : Cost → Type 0 = λ q. IsKnown after x.to (then_arc q x) in
          let there : Leaves rows e.place x = (let L : ℕ → Type 0 = λ p. Leaves rows p x in subst L now.0 l) in
          subst P now.1 (adds.added x there))
          (λ (was : IsSettled best u k). known_still c arcs known after rest new x.to (then_arc k x) adds (s.closed u k x was l))
          (settled_cases best e.place c u k lt t);
      source = known_still c arcs known after rest new start nothing adds s.source;
      bounded = λ v k t. ⊎_elim
          (λ (old : get_or known v None ≡ Some k).
          let was = s.bounded v k old in
          (omega (arith, was.0, count_more best e.place c lt none), was.1))
          (λ (m : IsMade c arcs new v k).
          let was = s.bounded e.place c is in
          let x = are e.place m.arc m.leaves in
          let latency : c.latency + m.arc.cost.latency ≡ k.latency = ap (λ (q : Cost). q.latency) m.costs in
          let reliability : c.reliability * m.arc.cost.reliability / 1000000000 ≡ k.reliability = ap (λ (q : Cost). q.reliability) m.costs in
          (omega (arith, was.0, latency, x.hop.within, count_more best e.place c lt none), omega (arith, reliability, was.1, part_less c.reliability m.arc.cost.reliability x.hop.part)))
          (adds.from v k t);
    }

-- THE END

-- what is known was left as cheaply
abbrev pub IsDone : List (Option Cost) → List (Option Cost) → Type 0
IsDone best known = (v : ℕ) (c : Cost) → get_or known v None ≡ Some c → (d : Cost) × IsSettled best v d × IsAsGood d c

known_done : (best known : List (Option Cost)) (v : ℕ) (c : Cost) → IsDone best known → IsKnown known v c → (d : Cost) × IsSettled best v d × IsAsGood d c
known_done best known v c done w =
    let t = done v w.0 w.1 in
    (t.0, t.1, good_trans t.0 w.0 c t.2 w.2)

walk_done : (rows : List (List Arc)) (start : ℕ) (best known : List (Option Cost)) (waiting : List Entry) → IsSearch rows start best known waiting → IsDone best known
    → (u v : ℕ) (path : List Arc) (c d : Cost) → IsSettled best u d → IsAsGood d c → Leads rows u v path → (k : Cost) × IsSettled best v k × IsAsGood k (fold then_arc c path)
walk_done rows start best known waiting s done u v [] c d t g leads = (d, (let P : ℕ → Type 0 = λ p. IsSettled best p d in subst P leads t), g)
walk_done rows start best known waiting s done u v (x ∷ path) c d t g leads =
    let next = known_done best known x.to (then_arc d x) done (s.closed u d x t leads.0) in
    walk_done rows start best known waiting s done x.to v path (then_arc c x) next.0 next.1 (good_trans next.0 (then_arc d x) (then_arc c x) next.2 (good_extend d c x g)) leads.1

pub search_done : (rows : List (List Arc)) (start : ℕ) (best known : List (Option Cost)) (waiting : List Entry) → IsSearch rows start best known waiting → IsDone best known
    → (v : ℕ) (c : Cost) → HasPath rows start v c → (d : Cost) × IsSettled best v d × IsAsGood d c
search_done rows start best known waiting s done v c p =
    let first = known_done best known start nothing done s.source in
    let end_ = walk_done rows start best known waiting s done start v p.path nothing first.0 first.1 first.2 p.leads in
    (end_.0, end_.1, (let P : Cost → Type 0 = λ k. IsAsGood end_.0 k in subst P p.costs end_.2))

nobody_waits : (v t : ℕ) → IsWaiting [] v t → ⊥
nobody_waits v t w = omega (arith, w.1.1)

pub done_empty : (rows : List (List Arc)) (start : ℕ) (best known : List (Option Cost)) → IsSearch rows start best known [] → IsDone best known
done_empty rows start best known s v c t = ⊎_elim
    (λ (left : (d : Cost) × IsSettled best v d × IsAsGood d c). left)
    (λ (w : (get_or best v None ≡ None) × IsWaiting [] v c.latency). absurd (nobody_waits v c.latency w.1))
    (s.seen v c t)

settled_or : (best : List (Option Cost)) (v : ℕ) (o : Option Cost) → o ≡ get_or best v None → length best ≤ count_by is_some best → v < length best → (d : Cost) × IsSettled best v d
settled_or best v (Some d) e full lt = (d, sym e)
settled_or best v None e full lt =
    absurd (omega (arith, count_more best v nothing lt (sym e), count_by-le-length is_some (set best v (Some nothing)), length-set best v (Some nothing)))

all_settled : (best : List (Option Cost)) (v : ℕ) → length best ≤ count_by is_some best → v < length best → (d : Cost) × IsSettled best v d
all_settled best v full lt = settled_or best v (get_or best v None) refl full lt

pub done_full : (rows : List (List Arc)) (start : ℕ) (best known : List (Option Cost)) (waiting : List Entry) → IsSearch rows start best known waiting → length best ≤ count_by is_some best → IsDone best known
done_full rows start best known waiting s full v c t = ⊎_elim
    (λ (left : (d : Cost) × IsSettled best v d × IsAsGood d c). left)
    (λ (w : (get_or best v None ≡ None) × IsWaiting waiting v c.latency).
    let o = w.1.0 in
    let lt : o.place < length best = omega (arith, s.size, (s.waits o w.1.1).0) in
    let u = all_settled best o.place full lt in
    absurd (not_none best o.place v u.0 u.1 w.1.2 w.0))
    (s.seen v c t)

-- WHAT WAITS

greatest_soon : (e o : Entry) → lt_by_cmp entry_order e o ≡ false → e.latency.0 ≤ o.latency.0
greatest_soon e o h = grind (arith, nat_tests, h)

pub first_of : (e : Entry) (others : List Entry) → IsUpperBound entry_order e others → IsFirst e others
first_of e others h = λ o there. greatest_soon e o (All-contains (λ (y : Entry). lt_by_cmp entry_order e y ≡ false) others o (All-from_recursion (λ (y : Entry). lt_by_cmp entry_order e y ≡ false) others h) there)

pub adds_none : (c : Cost) (known : List (Option Cost)) (waiting : List Entry) → AddsArcs c [] known known waiting waiting
adds_none c known waiting = record {
  size = refl;
  kept = λ e h. h;
  added = λ x h. absurd (omega (arith, h.1));
  lower = λ v d t. (d, t, good_refl d);
  from = λ v d t. inl t;
  only = λ e h. inl h;
}

made_more : (c : Cost) (arcs : List Arc) (x : Arc) (old new : List Entry) (v : ℕ) (d : Cost) → ((e : Entry) → Contains old e → Contains new e) → IsMade c arcs old v d → IsMade c (arcs ++ x ∷ []) new v d
made_more c arcs x old new v d kept m = record {
  arc = m.arc;
  leaves = Contains-append_left arcs (x ∷ []) m.arc m.leaves;
  ends = m.ends;
  costs = m.costs;
  waits = waiting_moved old new v d.latency kept m.waits;
}

pub adds_passed : (c : Cost) (arcs : List Arc) (x : Arc) (known seen : List (Option Cost)) (old new : List Entry) → IsKnown seen x.to (then_arc c x) → AddsArcs c arcs known seen old new → AddsArcs c (arcs ++ x ∷ []) known seen old new
adds_passed c arcs x known seen old new t a = record {
  size = a.size;
  kept = a.kept;
  added = λ y h. ⊎_elim
      (λ (was : Contains arcs y). a.added y was)
      (λ (now : x ≡ y). let P : Arc → Type 0 = λ z. IsKnown seen z.to (then_arc c z) in subst P now t)
      (Contains-push_cases arcs x y h);
  lower = a.lower;
  from = λ v d u. ⊎_elim
      (λ (was : get_or known v None ≡ Some d). inl was)
      (λ (m : IsMade c arcs new v d). inr (made_more c arcs x new new v d (λ e h. h) m))
      (a.from v d u);
  only = λ e h. ⊎_elim
      (λ (was : Contains old e). inl was)
      (λ (w : (y : Arc) × Contains arcs y × (e.place ≡ y.to) × (e.latency.0 ≡ (then_arc c y).latency)). inr (w.0, Contains-append_left arcs (x ∷ []) w.0 w.1, w.2, w.3))
      (a.only e h);
}

pub known_from : (seen : List (Option Cost)) (p : ℕ) (c : Cost) (o : Option Cost) → get_or seen p None ≡ o → IsSomeAnd o (λ d. IsAsGood d c) → IsKnown seen p c
known_from seen p c (Some d) is h = (d, is, h)
known_from seen p c None is h = absurd h

pub less_known : (d : Cost) (o : Option Cost) → IfSome o (IsAsGood d) → (j : Cost) → o ≡ Some j → IsAsGood d j
less_known d o h j is = let P : Option Cost → Type 0 = λ q. IfSome q (IsAsGood d) in subst P is h

-- a better cost for one place keeps what is known
known_more : (seen : List (Option Cost)) (p : ℕ) (d : Cost) (v : ℕ) (k : Cost) → p < length seen → ((j : Cost) → get_or seen p None ≡ Some j → IsAsGood d j) → IsKnown seen v k → IsKnown (set seen p (Some d)) v k
known_more seen p d v k lt less w =
    ⊎_elim
    (λ (same : v ≡ p).
    let P : ℕ → Type 0 = λ q. get_or seen q None ≡ Some w.0 in
    let Q : ℕ → Type 0 = λ q. get_or (set seen p (Some d)) q None ≡ Some d in
    (d, subst Q (sym same) (get_or-set_same seen p (Some d) None lt), good_trans d w.0 k (less w.0 (subst P same w.1)) w.2))
    (λ (other : v ≡ p → ⊥). (w.0, get_or-set_other seen p v (Some d) None other ∙ w.1, w.2))
    (cases_eq v p)

pub adds_pushed : (c : Cost) (arcs : List Arc) (x : Arc) (d : Cost) (o : Entry) (known seen : List (Option Cost)) (old mid new : List Entry)
    → x.to < length seen → o.place ≡ x.to → o.latency.0 ≡ d.latency → d ≡ then_arc c x → ((j : Cost) → get_or seen x.to None ≡ Some j → IsAsGood d j) → IsPermutation (o ∷ mid) new
    → AddsArcs c arcs known seen old mid → AddsArcs c (arcs ++ x ∷ []) known (set seen x.to (Some d)) old new
adds_pushed c arcs x d o known seen old mid new lt place time same less p a =
    let here : Contains new o = Contains-permutation (o ∷ mid) new o p (contains_head o mid) in
    let q = IsPermutation-sym (o ∷ mid) new p in
    let still : (e : Entry) → Contains mid e → Contains new e = λ e h. Contains-permutation (o ∷ mid) new e p (contains_cons o mid e h) in
    let costs : o.latency.0 ≡ (then_arc c x).latency = time ∙ ap (λ (k : Cost). k.latency) same in
    record {
      size = length-set seen x.to (Some d) ∙ a.size;
      kept = λ e h. still e (a.kept e h);
      added = λ y h. ⊎_elim
          (λ (was : Contains arcs y). known_more seen x.to d y.to (then_arc c y) lt less (a.added y was))
          (λ (now : x ≡ y).
          let P : Arc → Type 0 = λ z. IsKnown (set seen x.to (Some d)) z.to (then_arc c z) in
          subst P now (d, get_or-set_same seen x.to (Some d) None lt, good_same d (then_arc c x) same))
          (Contains-push_cases arcs x y h);
      lower = λ v k t. known_more seen x.to d v k lt less (a.lower v k t);
      from = λ v k t. ⊎_elim
          (λ (now : (v ≡ x.to) × (d ≡ k)). inr (record {
            arc = x;
            leaves = Contains-push arcs x;
            ends = sym now.0;
            costs = sym same ∙ now.1;
            waits = (o, here, place ∙ sym now.0, omega (arith, time, ap (λ (z : Cost). z.latency) now.1));
          }))
          (λ (was : IsSettled seen v k). ⊎_elim
          (λ (old_ : get_or known v None ≡ Some k). inl old_)
          (λ (m : IsMade c arcs mid v k). inr (made_more c arcs x mid new v k still m))
          (a.from v k was))
          (settled_cases seen x.to d v k lt t);
      only = λ e h. ⊎_elim
          (λ (is : o ≡ e). inr (x, Contains-push arcs x, (let P : Entry → Type 0 = λ z. z.place ≡ x.to in subst P is place), (let P : Entry → Type 0 = λ z. z.latency.0 ≡ (then_arc c x).latency in subst P is costs)))
          (λ (there : Contains mid e). ⊎_elim
          (λ (was : Contains old e). inl was)
          (λ (w : (y : Arc) × Contains arcs y × (e.place ≡ y.to) × (e.latency.0 ≡ (then_arc c y).latency)). inr (w.0, Contains-append_left arcs (x ∷ []) w.0 w.1, w.2, w.3))
          (a.only e there))
          (contains_cases o mid e (Contains-permutation new (o ∷ mid) e q h));
    }

-- THE BEGINNING

-- no cost yet
abbrev pub nobody : Option Cost
nobody = None

unsettled : (n v : ℕ) → get_or (replicate n nobody) v None ≡ None
unsettled n v = ⊎_elim
    (λ (lt : v < n). get_or-replicate n v nobody None lt)
    (λ (ge : n ≤ v). get_or_past (replicate n nobody) v None (omega (arith, length-replicate n nobody)))
    (cases_lt v n)

pub none_settled : (n v : ℕ) (c : Cost) → IsSettled (replicate n nobody) v c → ⊥
none_settled n v c t = let e = unsettled n v in cc

lone : (e o : Entry) → Contains (e ∷ []) o → e ≡ o
lone e o h = ⊎_elim (λ (is : e ≡ o). is) (λ (there : Contains [] o). absurd (omega (arith, there.1))) (contains_cases e [] o h)

pub search_begun : (rows : List (List Arc)) (start n : ℕ) (first : Cost) (e : Entry) (waiting : List Entry) → n ≡ length rows → start < n → first ≡ nothing → e.latency.0 ≡ 0 → e.place ≡ start → IsPermutation (e ∷ []) waiting
    → IsSearch rows start (replicate n nobody) (set (replicate n nobody) start (Some first)) waiting
search_begun rows start n first e waiting size lt is time place p =
    let q = IsPermutation-sym (e ∷ []) waiting p in
    let none : List (Option Cost) = replicate n nobody in
    let room : start < length none = omega (arith, lt, length-replicate n nobody) in
    let only : (o : Entry) → Contains waiting o → e ≡ o = λ o h. lone e o (Contains-permutation waiting (e ∷ []) o q h) in
    let here : IsWaiting waiting start 0 = (e, Contains-permutation (e ∷ []) waiting e p (contains_head e []), place, omega (arith, time)) in
    let whole : HasPath rows start start nothing = record { path = []; leads = refl; costs = refl } in
    let now_known : get_or (set none start (Some first)) start None ≡ Some first = settled_now none start first room in
    let all : (v : ℕ) (c : Cost) → get_or (set none start (Some first)) v None ≡ Some c → (v ≡ start) × (first ≡ c) = λ v c t. ⊎_elim
    (λ (now : (v ≡ start) × (first ≡ c)). now)
    (λ (old : IsSettled none v c). absurd (none_settled n v c old))
    (settled_cases none start first v c room t) in
    record {
      size = length-replicate n nobody ∙ size;
      room = length-set none start (Some first) ∙ length-replicate n nobody ∙ size;
      settled = λ v c t. absurd (none_settled n v c t);
      had = λ v c t.
          let w = all v c t in
          let P : ℕ → Type 0 = λ v. HasPath rows start v c in
          let Q : Cost → Type 0 = λ k. HasPath rows start start k in
          subst P (sym w.0) (subst Q (sym is ∙ w.1) whole);
      waits = λ o h.
          let P : Entry → Type 0 = λ z. z.place ≡ start in
          let there : o.place ≡ start = subst P (only o h) place in
          let Q : ℕ → Type 0 = λ v. (v < length rows) × (c : Cost) × (get_or (set none start (Some first)) v None ≡ Some c) × (c.latency ≤ o.latency.0) in
          subst Q (sym there) (omega (arith, lt, size), first, now_known, omega (arith, ap (λ (c : Cost). c.latency) is));
      ordered = λ v c o t h. absurd (none_settled n v c t);
      seen = λ v c t.
          let w = all v c t in
          inr (unsettled n v, (here.0, here.1, here.2 ∙ sym w.0, omega (arith, here.3)));
      closed = λ u c x t l. absurd (none_settled n u c t);
      source = (first, now_known, good_same first nothing is);
      bounded = λ v c t.
          let w = all v c t in
          let same : c ≡ nothing = sym w.1 ∙ is in
          (omega (arith, ap (λ (k : Cost). k.latency) same), omega (arith, ap (λ (k : Cost). k.reliability) same));
    }

-- WHAT A TEST SAYS

pub unsettled_from : (o : Option Cost) → is_some o ≡ false → o ≡ None
unsettled_from None e = refl
unsettled_from (Some c) e = absurd (let never : ⊥ = cc in never)

pub settled_from : (o : Option Cost) → is_some o ≡ true → (c : Cost) × (o ≡ Some c)
settled_from (Some c) e = (c, refl)
settled_from None e = absurd (let never : ⊥ = cc in never)

-- THE WHOLE SEARCH

-- a place is left
pub search_step : (rows : List (List Arc)) (start : ℕ) (best held known after : List (Option Cost)) (e : Entry) (rest new : List Entry) (cost : Cost) (row : List Arc)
    → AreArcs rows → held ≡ best → get_or known e.place None ≡ Some cost → row ≡ get_or rows e.place []
    → IsNext rows start held known (Some e) rest → AddsArcs cost row known after rest new → IsSearch rows start (set best e.place (Some cost)) after new
search_step rows start best held known after e rest new cost row are same_held is same_row next adds =
    let N : List (Option Cost) → Type 0 = λ b. IsNext rows start b known (Some e) rest in
    let here : IsNext rows start best known (Some e) rest = subst N same_held next in
    let R : List Arc → Type 0 = λ r. AddsArcs cost r known after rest new in
    search_left rows start best known after e rest new cost are here.2 here.1 is (subst R same_row adds) here.0

-- and one more place is left then
pub left_counts : (rows : List (List Arc)) (start : ℕ) (best held known : List (Option Cost)) (e : Entry) (rest : List Entry) (cost : Cost)
    → held ≡ best → IsNext rows start held known (Some e) rest → count_by is_some (set best e.place (Some cost)) ≡ count_by is_some best + 1
left_counts rows start best held known e rest cost same next =
    let N : List (Option Cost) → Type 0 = λ b. IsNext rows start b known (Some e) rest in
    let here : IsNext rows start best known (Some e) rest = subst N same next in
    count_more best e.place cost (omega (arith, here.0.size, (here.0.waits e (contains_head e rest)).0)) here.2

-- what a call left of a list that it was lent
pub written_back : (n : ℕ) (new old : List (Option Cost)) → length new ≡ length old → n ≡ length old → take n (new ++ drop (length new) old) ≡ new
written_back n new old same is =
    let past : drop (length new) old ≡ [] = nil_from_length (drop (length new) old) (omega (arith, length-drop (length new) old, same)) in
    ap (λ (t : List (Option Cost)). take n (new ++ t)) past ∙ ap (λ (t : List (Option Cost)). take n t) (append-nil new) ∙ take_all n new (omega (arith, same, is))

-- what is known of the next place
pub record IsPlace (rows : List (List Arc)) (known : List (Option Cost)) (e : Entry) : Type 0 where
  pub within : e.place < length rows
  pub room : length known ≡ length rows
  pub some : IsSome (get_or known e.place None)
  pub soon : (c : Cost) → get_or known e.place None ≡ Some c → c.latency ≤ length rows * 3600000000000
  pub part : (c : Cost) → get_or known e.place None ≡ Some c → c.reliability ≤ 1000000000

pub next_place : (rows : List (List Arc)) (start : ℕ) (held known : List (Option Cost)) (e : Entry) (rest : List Entry) → IsNext rows start held known (Some e) rest → IsPlace rows known e
next_place rows start held known e rest next =
    let s = next.0 in
    let w = s.waits e (contains_head e rest) in
    record {
      within = w.0;
      room = s.room;
      some = ap (λ (o : Option Cost). is_some o) w.2;
      soon = λ c is. omega (arith, (s.bounded e.place c is).0, count_by-le-length is_some held, s.size);
      part = λ c is. (s.bounded e.place c is).1;
    }

pub row_arcs : (rows : List (List Arc)) (place n : ℕ) (row : List Arc) → AreArcs rows → n ≡ length rows → row ≡ get_or rows place [] → All (IsArc n) row
row_arcs rows place n row are size is k d lt =
    let P : ℕ → Type 0 = λ m. IsArc m (get_or row k d) in
    let R : List Arc → Type 0 = λ r. Contains r (get_or row k d) in
    subst P (sym size) (are place (get_or row k d) (subst R is (Contains-get_or row k d lt)))

best_done : (rows : List (List Arc)) (start : ℕ) (best known : List (Option Cost)) (waiting : List Entry) → IsSearch rows start best known waiting → IsDone best known → IsBest (HasPath rows start) (λ v. get_or best v None)
best_done rows start best known waiting s done = record { goes = s.settled; least = search_done rows start best known waiting s done }

pub best_empty : (rows : List (List Arc)) (start : ℕ) (best held known : List (Option Cost)) (rest : List Entry) → held ≡ best → IsNext rows start held known None rest → IsBest (HasPath rows start) (λ v. get_or best v None)
best_empty rows start best held known rest same next =
    let B : List (Option Cost) → Type 0 = λ b. IsSearch rows start b known [] in
    let W : List Entry → Type 0 = λ w. IsSearch rows start held known w in
    let s : IsSearch rows start best known [] = subst B same (subst W next.1 next.0) in
    best_done rows start best known [] s (done_empty rows start best known s)

pub best_full : (rows : List (List Arc)) (start : ℕ) (best known : List (Option Cost)) (waiting : List Entry) → IsSearch rows start best known waiting → length best ≤ count_by is_some best → IsBest (HasPath rows start) (λ v. get_or best v None)
best_full rows start best known waiting s full = best_done rows start best known waiting s (done_full rows start best known waiting s full)

pub none_counted : (n : ℕ) → count_by is_some (replicate n nobody) ≡ 0
none_counted zero = refl
none_counted (suc n) = omega (arith, sum_by-cons (λ (o : Option Cost). cond (is_some o) 1 0) nobody (replicate n nobody), none_counted n)
