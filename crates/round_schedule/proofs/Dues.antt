-- Whether an event is due before the end.
use Rattle.std.proofs.Common.{◌≡◌, ℕ, ◌<◌, ◌≤◌, ◌⊎◌, inl, inr, Bool, true, false, ◌||◌, List, [], ◌∷◌, All, Option, Some, None, is_some, option_and_then, nat_lt, refl, sym, ap, subst, ◌∙◌, arith, rules, tests, IsPermutation, length, get_or}
use Rattle.std.specs.Prelude.{if◌then◌else◌}
use Rattle.std.specs.List.{Any, list_any}
use Rattle.std.proofs.lemmas.Bool.{cases_eq}
use Rattle.std.proofs.lemmas.List.Sorted.{list_any-IsPermutation}
use Rattle.sim_base.specs.declared.event.Event.{Event}
use Rattle.sim_base.specs.declared.time.Time.{Time}
use Rattle.event_order.specs.Events.{IsLeastDue}
use Rattle.world_order.specs.EventOrder.{take_least}
use Rattle.world_order.specs.Steps.{given, has_due}
use Rattle.world_order.proofs.Keys.{due_from}
use Rattle.world_order.proofs.Least.{take_least_least, take_least_IsPermutation}
use Rattle.world_order.proofs.Members.{IsIn, Each, Each_from_All, All_from_Each}

not_due : (e : Event) (end : ℕ) → end ≤ e.key.due.nanos → nat_lt e.key.due.nanos end ≡ false
not_due e end late = search (rules)

-- no event is due where all are late
pub none_due : (end : ℕ) (es : List Event) → Each (λ (e : Event). end ≤ e.key.due.nanos) es → has_due end es ≡ false
none_due end [] late = refl
none_due end (e ∷ es) late = ap (λ (b : Bool). b || has_due end es) (not_due e end (late e (inl refl))) ∙ none_due end es (λ x h. late x (inr h))

late_by : (end : ℕ) (e x : Event) (es : List Event) (b : Bool) → nat_lt e.key.due.nanos end ≡ b → (b || has_due end es) ≡ false
    → (has_due end es ≡ false → Each (λ (f : Event). end ≤ f.key.due.nanos) es) → (x ≡ e) ⊎ IsIn x es → end ≤ x.key.due.nanos
late_by end e x es true is none more h = absurd (cc)
late_by end e x es false is none more (inl same) = subst (λ (f : Event). end ≤ f.key.due.nanos) (sym same) (search rules)
late_by end e x es false is none more (inr h) = more none x h

-- all are late where none is due
pub all_late : (end : ℕ) (es : List Event) → has_due end es ≡ false → Each (λ (e : Event). end ≤ e.key.due.nanos) es
all_late end [] none x h = absurd h
all_late end (e ∷ es) none x h = late_by end e x es (nat_lt e.key.due.nanos end) refl none (all_late end es) h

-- ---- the least event

given_some : {A : Type 0} (b : Bool) (a : A) → is_some (given b a) ≡ b
given_some true a = refl
given_some false a = refl

first_due : (end : ℕ) (q : List Event) (e : Event) (rest : List Event) (b : Bool) → take_least q ≡ Some (e, rest) → nat_lt e.key.due.nanos end ≡ b → b ≡ has_due end q
first_due end q e rest true taken is =
    sym (list_any-IsPermutation (λ (x : Event). nat_lt x.key.due.nanos end) q (e ∷ rest) (take_least_IsPermutation q (e, rest) taken) ∙ ap (λ (b : Bool). b || has_due end rest) is)
first_due end q e rest false taken is =
    sym (none_due end q (λ x h. (let first = due_from x.key e.key (take_least_least q (e, rest) taken x h) in
    let late : end ≤ e.key.due.nanos = search (rules, tests) in omega arith)))

nothing_due : (end : ℕ) (q : List Event) → take_least q ≡ None → false ≡ has_due end q
nothing_due end [] is = refl
nothing_due end (e ∷ es) is = absurd (cc)

-- the least event is due where some event is
pub least_due : {A : Type 0} (end : ℕ) (q : List Event) (f : Event × List Event → A) (o : Option (Event × List Event)) → take_least q ≡ o
    → is_some (option_and_then (λ (t : Event × List Event). given (nat_lt t.0.key.due.nanos end) (f t)) o) ≡ has_due end q
least_due end q f None is = nothing_due end q is
least_due end q f (Some (e, rest)) is =
    given_some (nat_lt e.key.due.nanos end) (f (e, rest)) ∙ first_due end q e rest (nat_lt e.key.due.nanos end) is refl

-- ---- the time of the least event

abbrev pub is_due : ℕ → Option Time → Bool
is_due end None = false
is_due end (Some due) = nat_lt due.nanos end

time_by : (end : ℕ) (q : List Event) (due : Time) (b c : Bool) → IsLeastDue q (Some due) → nat_lt due.nanos end ≡ b → has_due end q ≡ c → b ≡ c
time_by end q due true true least is some = refl
time_by end q due false false least is some = refl
time_by end q due true false least is some =
    let (k, e, below, there, same) = least.0 in
    let late : All (λ (x : Event). end ≤ x.key.due.nanos) q = All_from_Each (λ (x : Event). end ≤ x.key.due.nanos) q (all_late end q some) in
    let after : end ≤ e.key.due.nanos = subst (λ (x : Event). end ≤ x.key.due.nanos) there (late k e below) in
    let then_is : end ≤ due.nanos = subst (λ (t : Time). end ≤ t.nanos) same after in
    let before : due.nanos < end = search (rules, tests) in
    absurd (omega arith)
time_by end q due false true least is some =
    let late : end ≤ due.nanos = search (rules, tests) in
    let none = none_due end q (λ x h. (let from = Each_from_All (λ (y : Event). due.nanos ≤ y.key.due.nanos) q least.1 x h in omega arith)) in
    absurd (let e : true ≡ false = sym some ∙ none in cc)

pub time_due : (end : ℕ) (q : List Event) (o : Option Time) → IsLeastDue q o → is_due end o ≡ has_due end q
time_due end q None least = ap (has_due end) (sym least)
time_due end q (Some due) least = time_by end q due (nat_lt due.nanos end) (has_due end q) least refl refl
