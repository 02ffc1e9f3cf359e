-- Events apart: how often keys stand in lists.
use Rattle.std.proofs.Common.{◌≡◌, ◌≢◌, ℕ, zero, suc, ◌+◌, ◌≤◌, inl, inr, ⊎_elim, Bool, true, false, List, [], ◌∷◌, ◌++◌, refl, sym, ap, subst, ◌∙◌, arith, sum_by, IsPermutation}
use Rattle.std.specs.Prelude.{if◌then◌else◌}
use Rattle.std.proofs.lemmas.List.Sums.{sum_by-cons}
use Rattle.std.proofs.lemmas.List.Sorted.{sum_by-IsPermutation, IsPermutation-refl, IsPermutation-trans, IsPermutation-cons, IsPermutation-middle, IsPermutation-sym}
use Rattle.sim_base.specs.declared.event.Event.{Event}
use Rattle.sim_base.specs.declared.key.Key.{Key}
use Rattle.world_order.specs.EventOrder.{same_key, copies, AreApart}
use Rattle.world_order.proofs.Keys.{same_key_is, same_key_refl, same_key_other, same_key_of}
use Rattle.world_order.proofs.Members.{IsIn, Each, IsIn_permutation, split_at}

-- 1 where the test holds
abbrev pub one_if : Bool → ℕ
one_if b = if b then 1 else 0

pub copies_append : (k : Key) (es fs : List Event) → copies k (es ++ fs) ≡ copies k es + copies k fs
copies_append k [] fs = omega arith
copies_append k (e ∷ es) fs = omega (arith, copies_append k es fs)

copies_is : (k : Key) (es : List Event) → copies k es ≡ sum_by (λ (e : Event). one_if (same_key k e.key)) es
copies_is k [] = refl
copies_is k (e ∷ es) = omega (arith, copies_is k es, sum_by-cons (λ (e : Event). one_if (same_key k e.key)) e es)

pub copies_permutation : (k : Key) (es fs : List Event) → IsPermutation es fs → copies k fs ≡ copies k es
copies_permutation k es fs p =
    copies_is k fs ∙ sum_by-IsPermutation (λ (e : Event). one_if (same_key k e.key)) es fs p ∙ sym (copies_is k es)

pub AreApart_permutation : (es fs : List Event) → IsPermutation es fs → AreApart es → AreApart fs
AreApart_permutation es fs p apart k = let a = apart k in let c = copies_permutation k es fs p in omega arith

-- who is there is counted
pub copies_there : (e : Event) (es : List Event) → IsIn e es → 1 ≤ copies e.key es
copies_there e [] h = absurd h
copies_there e (x ∷ xs) (inl same) =
    let here : one_if (same_key e.key x.key) ≡ 1 = ap one_if (same_key_of e.key x.key (ap (λ (y : Event). y.key) same)) in
    omega arith
copies_there e (x ∷ xs) (inr h) = omega (arith, copies_there e xs h)

-- and who is counted is there
counted : (k : Key) (x : Event) (xs : List Event) (b : Bool) → same_key k x.key ≡ b → (1 ≤ copies k xs → (e : Event) × IsIn e xs × (k ≡ e.key))
    → 1 ≤ one_if b + copies k xs → (e : Event) × IsIn e (x ∷ xs) × (k ≡ e.key)
counted k x xs true is more some = (x, inl refl, same_key_is k x.key is)
counted k x xs false is more some = let m = more (omega arith) in (m.0, inr m.1, m.2)

pub copies_member : (k : Key) (es : List Event) → 1 ≤ copies k es → (e : Event) × IsIn e es × (k ≡ e.key)
copies_member k [] some = absurd (omega arith)
copies_member k (x ∷ xs) some = counted k x xs (same_key k x.key) refl (copies_member k xs) some

-- none is counted where all have other keys
pub copies_none : (k : Key) (es : List Event) → Each (λ (e : Event). k ≢ e.key) es → copies k es ≡ 0
copies_none k [] others = refl
copies_none k (x ∷ xs) others =
    let here : one_if (same_key k x.key) ≡ 0 = ap one_if (same_key_other k x.key (others x (inl refl))) in
    omega (arith, copies_none k xs (λ e h. others e (inr h)))

-- of events apart, those with one key are one
pub one_of_key : (es : List Event) → AreApart es → (e f : Event) → IsIn e es → IsIn f es → e.key ≡ f.key → e ≡ f
one_of_key [] apart e f h g same = absurd h
one_of_key (x ∷ xs) apart e f (inl a) (inl b) same = a ∙ sym b
one_of_key (x ∷ xs) apart e f (inl a) (inr g) same =
    let here : one_if (same_key f.key x.key) ≡ 1 = ap one_if (same_key_of f.key x.key (sym same ∙ ap (λ (y : Event). y.key) a)) in
    let c = apart f.key in let more = copies_there f xs g in absurd (omega arith)
one_of_key (x ∷ xs) apart e f (inr h) (inl b) same =
    let here : one_if (same_key e.key x.key) ≡ 1 = ap one_if (same_key_of e.key x.key (same ∙ ap (λ (y : Event). y.key) b)) in
    let c = apart e.key in let more = copies_there e xs h in absurd (omega arith)
one_of_key (x ∷ xs) apart e f (inr h) (inr g) same = one_of_key xs (λ k. (let c = apart k in omega arith)) e f h g same

pub apart_left : (es fs : List Event) → AreApart (es ++ fs) → AreApart es
apart_left es fs apart k = let a = apart k in let c = copies_append k es fs in omega arith

pub apart_right : (es fs : List Event) → AreApart (es ++ fs) → AreApart fs
apart_right es fs apart k = let a = apart k in let c = copies_append k es fs in omega arith

-- an event that is taken out is there no more
pub taken_apart : (e : Event) (es : List Event) → AreApart (e ∷ es) → Each (λ (x : Event). x.key ≢ e.key) es
taken_apart e es apart x h same =
    let here : one_if (same_key e.key e.key) ≡ 1 = ap one_if (same_key_refl e.key) in
    let there : 1 ≤ copies e.key es = subst (λ (k : Key). 1 ≤ copies k es) same (copies_there x es h) in
    let a = apart e.key in absurd (omega arith)

pub rest_apart : (e : Event) (es : List Event) → AreApart (e ∷ es) → AreApart es
rest_apart e es apart k = let a = apart k in omega arith

-- lists whose members have no common key
pub apart_append : (es fs : List Event) → AreApart es → AreApart fs → Each (λ (e : Event). Each (λ (f : Event). e.key ≢ f.key) fs) es → AreApart (es ++ fs)
apart_append es fs left right differ k = by_count (copies k es) refl
  where
    by_count : (n : ℕ) → copies k es ≡ n → copies k (es ++ fs) ≤ 1
    by_count zero is = let c = copies_append k es fs in let r = right k in omega arith
    by_count (suc n) is =
        let found = copies_member k es (omega arith) in
        let none : copies k fs ≡ 0 = copies_none k fs (λ f h same. differ found.0 found.1 f h (sym found.2 ∙ same)) in
        let c = copies_append k es fs in let l = left k in omega arith

-- ---- events apart with the same members are the same, but for places

pub same_members : (es fs : List Event) → AreApart es → AreApart fs → ((x : Event) → IsIn x es → IsIn x fs) → ((x : Event) → IsIn x fs → IsIn x es) → IsPermutation es fs
same_members [] [] apart other to back = IsPermutation-refl []
same_members [] (f ∷ fs) apart other to back = absurd (back f (inl refl))
same_members (e ∷ es) fs apart other to back =
    let s = split_at e fs (to e (inl refl)) in
    let rest : List Event = s.0 ++ s.1 in
    let moved : IsPermutation fs (e ∷ rest) = subst (λ (l : List Event). IsPermutation l (e ∷ rest)) (sym s.2) (IsPermutation-middle s.0 e s.1) in
    let other' : AreApart (e ∷ rest) = AreApart_permutation fs (e ∷ rest) moved other in
    let into : (x : Event) → IsIn x es → IsIn x rest = λ x h. ⊎_elim
    (λ (same : x ≡ e). absurd (taken_apart e es apart x h (ap (λ (y : Event). y.key) same)))
    (λ (r : IsIn x rest). r)
    (IsIn_permutation x fs (e ∷ rest) moved (to x (inr h))) in
    let from : (x : Event) → IsIn x rest → IsIn x es = λ x h. ⊎_elim
    (λ (same : x ≡ e). absurd (taken_apart e rest other' x h (ap (λ (y : Event). y.key) same)))
    (λ (r : IsIn x es). r)
    (back x (IsIn_permutation x (e ∷ rest) fs (IsPermutation-sym fs (e ∷ rest) moved) (inr h))) in
    IsPermutation-trans (e ∷ es) (e ∷ rest) fs
    (IsPermutation-cons e es rest (same_members es rest (rest_apart e es apart) (rest_apart e rest other') into from))
    (IsPermutation-sym fs (e ∷ rest) moved)
