-- The event that is taken from a list: none of the list comes before it, and the rest is kept.
use Rattle.std.proofs.Common.{◌≡◌, inl, Bool, true, false, List, [], ◌∷◌, Some, refl, subst, IsPermutation}
use Rattle.std.specs.Prelude.{if◌then◌else◌}
use Rattle.std.proofs.lemmas.List.Sorted.{IsPermutation-refl, IsPermutation-trans, IsPermutation-cons, IsPermutation-insert, IsPermutation-sym}
use Rattle.sim_base.specs.declared.event.Event.{Event}
use Rattle.world_order.specs.EventOrder.{is_before, taken_with, take_least}
use Rattle.world_order.proofs.Keys.{never_before_itself, one_way, not_before_through}
use Rattle.world_order.proofs.Members.{IsIn, Each, Each_cons, IsIn_permutation}

-- no event of the list comes before this one
abbrev pub NoneBefore : Event → List Event → Type 0
NoneBefore f es = Each (λ e. is_before e f ≡ false) es

-- of two events with those behind them
abbrev chosen : Event → List Event → Event → List Event → Bool → Event × List Event
chosen e es f rest b = if b then (f, e ∷ rest) else (e, es)

-- none of the list comes before what is taken with an event
taken_least : (e f : Event) (es rest : List Event) (b : Bool) → is_before f e ≡ b → NoneBefore f es → NoneBefore (chosen e es f rest b).0 (e ∷ es)
taken_least e f es rest true is none = Each_cons (λ x. is_before x f ≡ false) e es (one_way f.key e.key is) none
taken_least e f es rest false is none =
    Each_cons (λ x. is_before x e ≡ false) e es (never_before_itself e.key) (λ x h. not_before_through x.key f.key e.key (none x h) is)

pub take_least_least : (es : List Event) (p : Event × List Event) → take_least es ≡ Some p → NoneBefore p.0 es
take_least_least [] p is = absurd (cc)
take_least_least (e ∷ []) p is =
    let same : (e, []) ≡ p = cc in
    subst (λ (q : Event × List Event). NoneBefore q.0 (e ∷ [])) same (Each_cons (λ x. is_before x e ≡ false) e [] (never_before_itself e.key) (λ x h. absurd h))
take_least_least (e ∷ (x ∷ xs)) p is =
    let q : Event × List Event = taken_with x xs (take_least xs) in
    let same : taken_with e (x ∷ xs) (Some q) ≡ p = cc in
    subst (λ (r : Event × List Event). NoneBefore r.0 (e ∷ x ∷ xs)) same (taken_least e q.0 (x ∷ xs) q.1 (is_before q.0 e) refl (take_least_least (x ∷ xs) q refl))

-- the list is what is taken and the rest, but for places
taken_all : (e f : Event) (es rest : List Event) (b : Bool) → IsPermutation es (f ∷ rest)
    → IsPermutation (e ∷ es) ((chosen e es f rest b).0 ∷ (chosen e es f rest b).1)
taken_all e f es rest true same = IsPermutation-trans _ _ _ (IsPermutation-cons e _ _ same) (IsPermutation-insert (f ∷ rest) 1 e)
taken_all e f es rest false same = IsPermutation-refl _

pub take_least_IsPermutation : (es : List Event) (p : Event × List Event) → take_least es ≡ Some p → IsPermutation es (p.0 ∷ p.1)
take_least_IsPermutation [] p is = absurd (cc)
take_least_IsPermutation (e ∷ []) p is =
    let same : (e, []) ≡ p = cc in
    subst (λ (q : Event × List Event). IsPermutation (e ∷ []) (q.0 ∷ q.1)) same (IsPermutation-refl _)
take_least_IsPermutation (e ∷ (x ∷ xs)) p is =
    let q : Event × List Event = taken_with x xs (take_least xs) in
    let same : taken_with e (x ∷ xs) (Some q) ≡ p = cc in
    subst (λ (r : Event × List Event). IsPermutation (e ∷ x ∷ xs) (r.0 ∷ r.1)) same (taken_all e q.0 (x ∷ xs) q.1 (is_before q.0 e) (take_least_IsPermutation (x ∷ xs) q refl))

-- what is taken was there
pub take_least_there : (es : List Event) (p : Event × List Event) → take_least es ≡ Some p → IsIn p.0 es
take_least_there es p is = IsIn_permutation p.0 (p.0 ∷ p.1) es (IsPermutation-sym es (p.0 ∷ p.1) (take_least_IsPermutation es p is)) (inl refl)
