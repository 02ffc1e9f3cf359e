-- Events into a queue and out of it.
use Rattle.std.proofs.Common.{◌≡◌, ℕ, ◌+◌, ◌≤◌, Bool, true, false, ◌||◌, List, [], ◌∷◌, ◌++◌, All, Option, Some, None, slice_get, option_map, refl, sym, ap, subst, ◌∙◌, arith, IsPermutation, append-nil, true≢false}
use Rattle.std.specs.Prelude.{if◌then◌else◌}
use Rattle.std.specs.Ordering.{is_lt, ordering_reverse}
use Rattle.std.specs.declared.cmp.Ordering.TheVariants.{Less}
use Rattle.std.proofs.lemmas.List.Elements.{All-nil, All-weaker}
use Rattle.std.proofs.lemmas.List.Sorted.{IsPermutation-refl, IsPermutation-sym, IsPermutation-trans, IsPermutation-append_left, IsPermutation-middle}
use Rattle.sim_base.specs.declared.event.Event.{Event}
use Rattle.sim_base.specs.declared.key.Key.{Key}
use Rattle.sim_base.specs.declared.time.Time.{Time}
use Rattle.sim_base.specs.Key.{key_order}
use Rattle.sim_base.specs.KeyLaws.{key_order_total}
use Rattle.event_order.specs.Events.{IsBefore, IsOrdered, IsLeastDue, has_key, with_event}
use Rattle.event_order.specs.EventsLaws.{with_event_IsPermutation}
use Rattle.host_link.specs.Handing.{with_events, held_once}
use Rattle.world_order.specs.EventOrder.{take_least, taken_with, is_before, same_key, copies, AreApart}
use Rattle.world_order.proofs.Apart.{one_if, copies_append, copies_none, AreApart_permutation}
use Rattle.world_order.proofs.Keys.{same_key_refl, same_key_is, never_before_itself}
use Rattle.world_order.proofs.Least.{take_least_there}
use Rattle.world_order.proofs.Members.{Each_from_All}

-- ---- new keys

none_by : (b r : Bool) (n : ℕ) → one_if b + n ≡ 0 → (n ≡ 0 → r ≡ false) → (b || r) ≡ false
none_by true r n none more = absurd (omega arith)
none_by false r n none more = more (omega arith)

no_key : (key : Key) (es : List Event) → copies key es ≡ 0 → has_key key es ≡ false
no_key key [] none = refl
no_key key (e ∷ es) none = none_by (same_key key e.key) (has_key key es) (copies key es) none (no_key key es)

-- the key of an event that isn't in the queue
pub new_key : (q : List Event) (e : Event) (rest : List Event) → AreApart (q ++ (e ∷ rest)) → has_key e.key q ≡ false
new_key q e rest apart =
    let here : one_if (same_key e.key e.key) ≡ 1 = ap one_if (same_key_refl e.key) in
    let all = copies_append e.key q (e ∷ rest) in
    let most = apart e.key in
    no_key e.key q (omega arith)

-- an event that goes from a list's front to the queue
pub queued : (q : List Event) (e : Event) (rest : List Event) → IsPermutation (with_event e q ++ rest) (q ++ (e ∷ rest))
queued q e rest =
    IsPermutation-trans (with_event e q ++ rest) ((e ∷ q) ++ rest) (q ++ (e ∷ rest))
    (IsPermutation-append_left rest (with_event e q) (e ∷ q) (IsPermutation-sym (e ∷ q) (with_event e q) (with_event_IsPermutation e q)))
    (IsPermutation-sym (q ++ (e ∷ rest)) (e ∷ (q ++ rest)) (IsPermutation-middle q e rest))

-- the same, of what is left of a list and of the whole
pub queued_on : (q new left rest : List Event) (e : Event) (whole : List Event) → new ≡ with_event e q → left ≡ e ∷ rest → IsPermutation (q ++ left) whole → IsPermutation (new ++ rest) whole
queued_on q new left rest e whole new_is left_is moved =
    subst (λ (n : List Event). IsPermutation (n ++ rest) whole) (sym new_is)
    (IsPermutation-trans (with_event e q ++ rest) (q ++ (e ∷ rest)) whole (queued q e rest) (subst (λ (l : List Event). IsPermutation (q ++ l) whole) left_is moved))

pub new_key_on : (q left rest : List Event) (e : Event) (whole : List Event) → left ≡ e ∷ rest → IsPermutation (q ++ left) whole → AreApart whole → has_key e.key q ≡ false
new_key_on q left rest e whole left_is moved apart =
    let there : IsPermutation (q ++ (e ∷ rest)) whole = subst (λ (l : List Event). IsPermutation (q ++ l) whole) left_is moved in
    new_key q e rest (AreApart_permutation whole (q ++ (e ∷ rest)) (IsPermutation-sym (q ++ (e ∷ rest)) whole there) apart)

pub queued_all : (q left whole : List Event) → left ≡ [] → IsPermutation (q ++ left) whole → IsPermutation q whole
queued_all q left whole none moved =
    subst (λ (l : List Event). IsPermutation l whole) (append-nil q) (subst (λ (l : List Event). IsPermutation (q ++ l) whole) none moved)

-- the queue of events that are added one after another
pub begun : (es q : List Event) → AreApart (q ++ es) → IsPermutation (with_events es q) (q ++ es)
begun [] q apart = subst (IsPermutation q) (sym (append-nil q)) (IsPermutation-refl q)
begun (e ∷ es) q apart =
    let new : has_key e.key q ≡ false = new_key q e es apart in
    let moved : IsPermutation (with_event e q ++ es) (q ++ (e ∷ es)) = queued q e es in
    let rest = begun es (with_event e q) (AreApart_permutation (q ++ (e ∷ es)) (with_event e q ++ es) (IsPermutation-sym (with_event e q ++ es) (q ++ (e ∷ es)) moved) apart) in
    subst (λ (b : Bool). IsPermutation (with_events es (held_once b e q)) (q ++ (e ∷ es))) (sym new)
    (IsPermutation-trans (with_events es (with_event e q)) (with_event e q ++ es) (q ++ (e ∷ es)) rest moved)

-- ---- the least event

pub reversed : (a b : Key) → key_order a b ≡ Less → is_lt (key_order b a) ≡ false
reversed a b is = ap is_lt (key_order_total.antisymm b a ∙ ap ordering_reverse is)

first_by : (e : Event) (es : List Event) → All (IsBefore e) es → (o : Option (Event × List Event)) → take_least es ≡ o → taken_with e es o ≡ (e, es)
first_by e es before None is = refl
first_by e es before (Some (f, rest)) is =
    let later : is_before f e ≡ false = reversed e.key f.key (Each_from_All (IsBefore e) es before f (take_least_there es (f, rest) is)) in
    ap (λ (b : Bool). let p : Event × List Event = if b then (f, e ∷ rest) else (e, es) in p) later

-- an event that comes before all others is taken
pub first_taken : (e : Event) (es : List Event) → All (IsBefore e) es → take_least (e ∷ es) ≡ Some (e, es)
first_taken e es before = ap Some (first_by e es before (take_least es) refl)

-- ---- lists in order

-- a list in order has each key once
one_by : (b : Bool) (n : ℕ) → (b ≡ true → n ≡ 0) → n ≤ 1 → one_if b + n ≤ 1
one_by true n none some = let is = none refl in omega arith
one_by false n none some = omega arith

pub ordered_apart : (q : List Event) → IsOrdered q → AreApart q
ordered_apart [] o key = omega arith
ordered_apart (e ∷ es) o key =
    one_by (same_key key e.key) (copies key es)
    (λ is. copies_none key es
    (λ x h same.
    let first : is_lt (key_order e.key x.key) ≡ true = ap is_lt (Each_from_All (IsBefore e) es o.0 x h) in
    let one : e.key ≡ x.key = sym (same_key_is key e.key is) ∙ same in
    let never : is_lt (key_order e.key x.key) ≡ false = subst (λ (k : Key). is_lt (key_order e.key k) ≡ false) one (never_before_itself e.key) in
    absurd (true≢false (sym first ∙ never))))
    (ordered_apart es o.1 key)

-- ---- the first of a list in order

pub first_due : (q : List Event) (e : Event) (rest : List Event) (due : Time) → q ≡ e ∷ rest → Some due ≡ option_map (λ (x : Event). x.key.due) (slice_get q 0) → e.key.due ≡ due
first_due q e rest due is first =
    let same : Some due ≡ Some e.key.due = first ∙ ap (λ (l : List Event). option_map (λ (x : Event). x.key.due) (slice_get l 0)) is in
    cc

-- all events are late where there is none, or where the least is
pub late_none : (end : ℕ) (q : List Event) → IsLeastDue q None → All (λ (e : Event). end ≤ e.key.due.nanos) q
late_none end q none = subst (All (λ (e : Event). end ≤ e.key.due.nanos)) (sym none) (All-nil _)

pub late_all : (end : ℕ) (q : List Event) (due : Time) → IsLeastDue q (Some due) → end ≤ due.nanos → All (λ (e : Event). end ≤ e.key.due.nanos) q
late_all end q due least late =
    All-weaker (λ (e : Event). due.nanos ≤ e.key.due.nanos) (λ (e : Event). end ≤ e.key.due.nanos) (λ e after. omega (arith, after, late)) q least.1
