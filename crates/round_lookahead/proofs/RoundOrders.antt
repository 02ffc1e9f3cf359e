-- A round of jobs on a world whose events stand in the order of the jobs; the same round on the same world in another order.
use Rattle.std.proofs.Common.{◌≡◌, ◌≢◌, ℕ, zero, suc, ◌+◌, ◌<◌, ◌≤◌, inl, inr, ⊎_elim, Bool, true, false, ◌==◌, List, [], ◌∷◌, ◌++◌, Option, Some, None, map, flat_map, filter, drop, length, slice_get, refl, sym, ap, subst, ◌∙◌, arith, append_assoc, append-nil, eqb-true, eq-eqb, IsPermutation}
use Rattle.std.specs.Prelude.{if◌then◌else◌}
use Rattle.std.proofs.lemmas.List.Elements.{filter-append}
use Rattle.std.proofs.lemmas.List.{nil_from_length}
use Rattle.std.proofs.lemmas.List.Sorted.{IsPermutation-refl, IsPermutation-trans, IsPermutation-append, IsPermutation-append_right, length_permutation}
use Rattle.sim_base.specs.declared.event.Event.{Event}
use Rattle.list_weights.specs.Weights.{weigh, numbers_below}
use Rattle.list_weights.proofs.Permutations.{weigh_permutation, same_weights}
use Rattle.list_weights.proofs.Weights.{weigh_append}
use Rattle.world_order.specs.Model.{Model}
use Rattle.world_order.specs.Round.{events_at}
use Rattle.world_order.specs.WholeTurns.{RunsTo, Job}
use Rattle.world_order.proofs.Homes.{some_is, get_below}
use Rattle.world_order.proofs.Members.{IsIn, Each, IsIn_either, IsIn_permutation, split_at}
use Rattle.world_order.proofs.Parts.{second_first}
use Rattle.round_lookahead.proofs.WholeRounds.{NumbersApart}

-- ---- lists of parts in another order

flat_map-append : {X Y : Type 0} (f : X → List Y) (xs ys : List X) → flat_map f (xs ++ ys) ≡ flat_map f xs ++ flat_map f ys
flat_map-append f [] ys = refl
flat_map-append f (x ∷ xs) ys = ap (λ (l : List _). f x ++ l) (flat_map-append f xs ys) ∙ sym (append_assoc (f x) (flat_map f xs) (flat_map f ys))

-- what is left of numbers in two orders where one is taken out
others_permutation : (x : ℕ) (xs front back : List ℕ) → IsPermutation (x ∷ xs) (front ++ (x ∷ back)) → IsPermutation xs (front ++ back)
others_permutation x xs front back p = same_weights xs (front ++ back) (λ h.
    let all : weigh h (front ++ (x ∷ back)) ≡ h x + weigh h xs = weigh_permutation h (x ∷ xs) (front ++ (x ∷ back)) p in
    let split : weigh h (front ++ (x ∷ back)) ≡ weigh h front + (h x + weigh h back) = weigh_append h front (x ∷ back) in
    let rest : weigh h (front ++ back) ≡ weigh h front + weigh h back = weigh_append h front back in
    omega arith)

pub parts_permutation : {Y : Type 0} (f : ℕ → List Y) (xs ys : List ℕ) → IsPermutation xs ys → IsPermutation (flat_map f xs) (flat_map f ys)
parts_permutation f [] ys p =
    let none : ys ≡ [] = nil_from_length ys (let e = length_permutation [] ys p in omega arith) in
    subst (λ (l : List ℕ). IsPermutation (flat_map f []) (flat_map f l)) (sym none) (IsPermutation-refl [])
parts_permutation f (x ∷ xs) ys p =
    let s = split_at x ys (IsIn_permutation x (x ∷ xs) ys p (inl refl)) in
    let front = s.0 in
    let back = s.1 in
    let q : IsPermutation xs (front ++ back) = others_permutation x xs front back (subst (IsPermutation (x ∷ xs)) s.2 p) in
    let rest : IsPermutation (flat_map f xs) (flat_map f front ++ flat_map f back) =
    subst (IsPermutation (flat_map f xs)) (flat_map-append f front back) (parts_permutation f xs (front ++ back) q) in
    subst (IsPermutation (f x ++ flat_map f xs)) (sym (ap (flat_map f) s.2 ∙ flat_map-append f front (x ∷ back)))
    (IsPermutation-trans (f x ++ flat_map f xs) (f x ++ (flat_map f front ++ flat_map f back)) (flat_map f front ++ (f x ++ flat_map f back))
    (IsPermutation-append_right (f x) (flat_map f xs) (flat_map f front ++ flat_map f back) rest)
    (second_first (f x) (flat_map f front) (flat_map f back)))

-- ---- parts by their numbers

module _ {X Y : Type 0} (f : X → List Y) where
  abbrev pub part_in : Option X → List Y
  part_in None = []
  part_in (Some x) = f x

  abbrev pub part_at : List X → ℕ → List Y
  part_at xs k = part_in (slice_get xs k)

  get_drop : (xs : List X) (k : ℕ) (x : X) → slice_get xs k ≡ Some x → drop k xs ≡ x ∷ drop (suc k) xs
  get_drop [] k x at = absurd (let e : None ≡ Some x = at in cc)
  get_drop (y ∷ ys) zero x at = ap (λ (z : X). z ∷ ys) (some_is y x at)
  get_drop (y ∷ ys) (suc k) x at = get_drop ys k x at

  drop_all : (xs : List X) → drop (length xs) xs ≡ []
  drop_all [] = refl
  drop_all (x ∷ xs) = drop_all xs

  first_parts : (xs : List X) (n : ℕ) → n ≤ length xs → flat_map (part_at xs) (numbers_below n) ++ flat_map f (drop n xs) ≡ flat_map f xs
  first_parts xs zero within = refl
  first_parts xs (suc n) within =
      let here = get_below xs n (omega arith) in
      let before = first_parts xs n (omega arith) in
      let more : flat_map (part_at xs) (numbers_below n ++ n ∷ []) ≡ flat_map (part_at xs) (numbers_below n) ++ f here.0 =
      flat_map-append (part_at xs) (numbers_below n) (n ∷ [])
      ∙ ap (λ (l : List Y). flat_map (part_at xs) (numbers_below n) ++ l) (append-nil (part_at xs n) ∙ ap part_in here.1) in
      ap (λ (l : List Y). l ++ flat_map f (drop (suc n) xs)) more
      ∙ append_assoc (flat_map (part_at xs) (numbers_below n)) (f here.0) (flat_map f (drop (suc n) xs))
      ∙ ap (λ (l : List Y). flat_map (part_at xs) (numbers_below n) ++ l) (sym (ap (flat_map f) (get_drop xs n here.0 here.1)))
      ∙ before

  pub all_parts : (xs : List X) → flat_map (part_at xs) (numbers_below (length xs)) ≡ flat_map f xs
  all_parts xs =
      sym (append-nil (flat_map (part_at xs) (numbers_below (length xs))))
      ∙ ap (λ (l : List X). flat_map (part_at xs) (numbers_below (length xs)) ++ flat_map f l) (sym (drop_all xs))
      ∙ first_parts xs (length xs) (omega arith)

-- ---- what passes a test

module _ {X : Type 0} (p : X → Bool) where
  keep_if : (x : X) (xs ys : List X) (b : Bool) → b ≡ true → filter p xs ≡ ys → (if b then x ∷ filter p xs else filter p xs) ≡ x ∷ ys
  keep_if x xs ys true is rest = λ i. x ∷ rest i
  keep_if x xs ys false is rest = absurd (cc)

  leave_if : (x : X) (xs ys : List X) (b : Bool) → b ≡ false → filter p xs ≡ ys → (if b then x ∷ filter p xs else filter p xs) ≡ ys
  leave_if x xs ys true is rest = absurd (cc)
  leave_if x xs ys false is rest = rest

  filter_all : (xs : List X) → Each (λ (x : X). p x ≡ true) xs → filter p xs ≡ xs
  filter_all [] each = refl
  filter_all (x ∷ xs) each = keep_if x xs xs (p x) (each x (inl refl)) (filter_all xs (λ y h. each y (inr h)))

  filter_none : (xs : List X) → Each (λ (x : X). p x ≡ false) xs → filter p xs ≡ []
  filter_none [] each = refl
  filter_none (x ∷ xs) each = leave_if x xs [] (p x) (each x (inl refl)) (filter_none xs (λ y h. each y (inr h)))

not_equal : (a b : ℕ) → a ≢ b → (a == b) ≡ false
not_equal a b other = by_value (a == b) refl
  where
    by_value : (v : Bool) → (a == b) ≡ v → v ≡ false
    by_value true is = absurd (other (eqb-true a b is))
    by_value false is = refl

-- ---- jobs with what their hosts started from

module _ {H L : Type 0} (m : Model H L) (end : ℕ) (host : ℕ → H) (held : ℕ → List Event) where
  -- from events of its own, which it held, the job's host ran to what the job leaves
  pub record StartsFrom (job : Job H L) (start : List Event) : Type 0 where
    pub own : Each (λ (e : Event). m.home e ≡ job.number) start
    pub moved : IsPermutation start (held job.number)
    pub runs : RunsTo m job.number end (host job.number) start job.ran

  abbrev pub StartFrom : List (Job H L) → List (List Event) → Type 0
  StartFrom [] [] = Unit {0}
  StartFrom [] (s ∷ ss) = ⊥
  StartFrom (j ∷ js) [] = ⊥
  StartFrom (j ∷ js) (s ∷ ss) = StartsFrom j s × StartFrom js ss

  abbrev pub all_of : List (List Event) → List Event
  all_of starts = flat_map (λ (s : List Event). s) starts

  numbers_of : List (Job H L) → List ℕ
  numbers_of jobs = map (λ (j : Job H L). j.number) jobs

  home_in : (jobs : List (Job H L)) (starts : List (List Event)) → StartFrom jobs starts → (e : Event) → IsIn e (all_of starts) → (j : Job H L) × IsIn j jobs × (m.home e ≡ j.number)
  home_in [] [] from e h = absurd h
  home_in [] (s ∷ ss) from e h = absurd from
  home_in (j ∷ js) [] from e h = absurd from
  home_in (j ∷ js) (s ∷ ss) from e h = ⊎_elim
      (λ (here : IsIn e s). (j, inl refl, from.0.own e here))
      (λ (rest : IsIn e (all_of ss)). let r = home_in js ss from.1 e rest in (r.0, inr r.1, r.2))
      (IsIn_either e s (all_of ss) h)

  -- the job's host has just what it started from
  pub started : (jobs : List (Job H L)) (starts : List (List Event)) → NumbersApart jobs → StartFrom jobs starts
      → Each (λ (j : Job H L). RunsTo m j.number end (host j.number) (events_at m j.number (all_of starts)) j.ran) jobs
  started [] starts apart from j h = absurd h
  started (j ∷ js) [] apart from i h = absurd from
  started (j ∷ js) (s ∷ ss) apart from i (inl same) =
      let mine : events_at m j.number s ≡ s = filter_all (λ (e : Event). m.home e == j.number) s (λ e h. eq-eqb (m.home e) j.number (from.0.own e h)) in
      let none : events_at m j.number (all_of ss) ≡ [] = filter_none (λ (e : Event). m.home e == j.number) (all_of ss) (λ e h.
      (let r = home_in js ss from.1 e h in not_equal (m.home e) j.number (λ is. apart.0 r.0 r.1 (sym r.2 ∙ is)))) in
      let is : events_at m j.number (s ++ all_of ss) ≡ s =
      filter-append (λ (e : Event). m.home e == j.number) s (all_of ss) ∙ (λ k. mine k ++ none k) ∙ append-nil s in
      subst (λ (x : Job H L). RunsTo m x.number end (host x.number) (events_at m x.number (s ++ all_of ss)) x.ran) (sym same)
      (subst (λ (q : List Event). RunsTo m j.number end (host j.number) q j.ran) (sym is) from.0.runs)
  started (j ∷ js) (s ∷ ss) apart from i (inr h) =
      let none : events_at m i.number s ≡ [] = filter_none (λ (e : Event). m.home e == i.number) s (λ e g.
      not_equal (m.home e) i.number (λ is. apart.0 i h (sym is ∙ from.0.own e g))) in
      let is : events_at m i.number (s ++ all_of ss) ≡ events_at m i.number (all_of ss) =
      filter-append (λ (e : Event). m.home e == i.number) s (all_of ss) ∙ ap (λ (l : List Event). l ++ events_at m i.number (all_of ss)) none in
      subst (λ (q : List Event). RunsTo m i.number end (host i.number) q i.ran) (sym is) (started js ss apart.1 from.1 i h)

  in_parts : (jobs : List (Job H L)) (starts : List (List Event)) → StartFrom jobs starts → IsPermutation (all_of starts) (flat_map held (map (λ (j : Job H L). j.number) jobs))
  in_parts [] [] from = IsPermutation-refl []
  in_parts [] (s ∷ ss) from = absurd from
  in_parts (j ∷ js) [] from = absurd from
  in_parts (j ∷ js) (s ∷ ss) from = IsPermutation-append s (held j.number) (all_of ss) (flat_map held (map (λ (i : Job H L). i.number) js)) from.0.moved (in_parts js ss from.1)

  -- all that they started from is all that is held, where each host is taken once
  pub started_all : (jobs : List (Job H L)) (starts : List (List Event)) (n : ℕ) → StartFrom jobs starts → IsPermutation (map (λ (j : Job H L). j.number) jobs) (numbers_below n)
      → IsPermutation (all_of starts) (flat_map held (numbers_below n))
  started_all jobs starts n from once =
      IsPermutation-trans (all_of starts) (flat_map held (map (λ (j : Job H L). j.number) jobs)) (flat_map held (numbers_below n))
      (in_parts jobs starts from)
      (parts_permutation held (map (λ (j : Job H L). j.number) jobs) (numbers_below n) once)

-- ---- each number once

below_number : (n k : ℕ) → IsIn k (numbers_below n) → k < n
below_number zero k h = absurd h
below_number (suc n) k h = ⊎_elim
    (λ (l : IsIn k (numbers_below n)). (let b = below_number n k l in omega arith))
    (λ (r : IsIn k (n ∷ [])). last r)
    (IsIn_either k (numbers_below n) (n ∷ []) h)
  where
    last : IsIn k (n ∷ []) → k < suc n
    last (inl same) = omega arith
    last (inr none) = absurd none
