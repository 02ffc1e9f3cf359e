-- a map from keys, seen as the list of its events
use Rattle.std.proofs.Common.{◌≡◌, ◌≤◌, Bool, true, false, ◌||◌, List, [], ◌∷◌, is_some, if◌then◌else◌, refl, sym, ap, ◌∙◌, Ordering, Less, Equal, Greater, Option, Some, None, option_map, slice_get, subst, arith}
use Rattle.std.specs.Prelude.{Result, Ok, Err, OnOk, OnErr}
use Rattle.std.proofs.lemmas.Bool.{false≢true}
use Rattle.std.proofs.lemmas.List.Elements.{recursion_from_All, All-from_recursion, All-nil, All-cons, All-weaker}
use Rattle.std.proofs.lemmas.List.Sorted.{All-permutation}
use Rattle.std.specs.Cmp.{alike_right}
use Rattle.std.proofs.lemmas.Map.Made.{is_some-lookup}
use Rattle.std.specs.BTreeMap.{insert_entry, is_at}
use Rattle.std.proofs.lemmas.Map.Keys.{sorted_tail, le_from_not_gt}
use Rattle.std.proofs.lemmas.Map.Views.{All-after_first}
use Rattle.std.specs.BTreeMap.Range.{IsLeBy, IsLtBy}
use Rattle.std.specs.List.{All, AllByRecursion, list_any}
use Rattle.std.specs.List.Sorted.{IsStrictlySortedBy}
use Rattle.std.specs.Map.{keys_of, lookup}
use Rattle.std.specs.Ordering.{is_eq, is_gt, is_lt, match_ordering, nat_cmp, ordering_reverse, ordering_then}
use Rattle.sim_base.specs.declared.event.Event.{Event}
use Rattle.sim_base.specs.declared.event.What.{What}
use Rattle.sim_base.specs.declared.key.Key.{Key}
use Rattle.sim_base.specs.Key.{key_order}
use Rattle.sim_base.specs.KeyLaws.{key_order_total}
use Rattle.event_order.specs.Events.{ComesLater, IsBefore, IsOrdered, IsLeastDue, has_key, held, with_event, event_of, events_of}
use Rattle.event_order.specs.EventsLaws.{with_event_IsPermutation}

inserted : (order : Ordering) (key : Key) (what : What) (e : Key × What) (es more : List (Key × What))
    → (is_eq order || has_key key (events_of es)) ≡ false
    → (has_key key (events_of es) ≡ false → events_of more ≡ with_event (event_of (key, what)) (events_of es))
    → events_of (match_ordering order ((key, what) ∷ e ∷ es) ((e.0, what) ∷ es) (e ∷ more))
    ≡ (if is_lt order then event_of (key, what) ∷ event_of e ∷ events_of es else event_of e ∷ with_event (event_of (key, what)) (events_of es))
inserted Less key what e es more new behind = refl
inserted Equal key what e es more new behind = absurd (false≢true (sym new))
inserted Greater key what e es more new behind = ap (λ events. event_of e ∷ events) (behind new)

-- an entry of a new key is an event in its place
pub events_of_insert_entry : (key : Key) (what : What) (es : List (Key × What)) → has_key key (events_of es) ≡ false
    → events_of (insert_entry key_order es key what) ≡ with_event (event_of (key, what)) (events_of es)
events_of_insert_entry key what [] new = refl
events_of_insert_entry key what (e ∷ es) new =
    inserted (key_order key e.0) key what e es (insert_entry key_order es key what) new (events_of_insert_entry key what es)

any_key : (key : Key) (es : List (Key × What)) → list_any (is_at (key_order key)) (keys_of es) ≡ has_key key (events_of es)
any_key key [] = refl
any_key key (e ∷ es) = ap (λ rest. is_eq (key_order key e.0) || rest) (any_key key es)

-- a key is held where the map has an entry for it
pub has_key_events_of : (key : Key) (es : List (Key × What)) → is_some (lookup (is_at (key_order key)) es) ≡ has_key key (events_of es)
has_key_events_of key es = is_some-lookup (is_at (key_order key)) es ∙ any_key key es

later_keys : (event : Event) (es : List (Key × What)) → AllByRecursion (IsLtBy key_order event.key) (keys_of es) → AllByRecursion (IsBefore event) (events_of es)
later_keys event [] h = tt
later_keys event (e ∷ es) h = (h.0, later_keys event es h.1)

-- where the keys come later, the events do
pub All_IsBefore : (event : Event) (es : List (Key × What)) → All (IsLtBy key_order event.key) (keys_of es) → All (IsBefore event) (events_of es)
All_IsBefore event es h = All-from_recursion _ _ (later_keys event es (recursion_from_All _ _ h))

-- when the first event is due
pub due_of_first : (es : List (Key × What)) (e : Key × What) → slice_get es 0 ≡ Some e → option_map (λ (event : Event). event.key.due) (slice_get (events_of es) 0) ≡ Some e.0.due
due_of_first [] e first = cc
due_of_first (x ∷ es) e first = ap (option_map (λ (y : Key × What). y.0.due)) first

-- where the keys are in order, the events are
ordered_events : (es : List (Key × What)) → IsStrictlySortedBy key_order (keys_of es) → IsOrdered (events_of es)
ordered_events [] h = tt
ordered_events (e ∷ es) h =
    (All_IsBefore (event_of e) es (All-after_first key_order e.0 (keys_of es) h), ordered_events es (sorted_tail key_order e.0 (keys_of es) h))

-- the same where the first entry was taken out
pub ordered_taken : (es rest : List (Key × What)) (e : Key × What) → es ≡ e ∷ rest → All (IsLtBy key_order e.0) (keys_of rest) → IsStrictlySortedBy key_order (keys_of rest)
    → IsOrdered (events_of es)
ordered_taken es rest e taken above sorted =
    subst (λ (l : List (Key × What)). IsOrdered (events_of l)) (sym taken) (All_IsBefore (event_of e) rest above, ordered_events rest sorted)

not_gt_first : (o rest : Ordering) → is_gt (ordering_then o rest) ≡ false → is_gt o ≡ false
not_gt_first Less rest is = refl
not_gt_first Equal rest is = refl
not_gt_first Greater rest is = is

-- a key that comes later is not due earlier
due_not_gt : (a b : Key) → is_gt (key_order a b) ≡ false → a.due.nanos ≤ b.due.nanos
due_not_gt a b is = le_from_not_gt a.due.nanos b.due.nanos (not_gt_first (nat_cmp a.due.nanos b.due.nanos) _ is)

later_dues : (key : Key) (es : List (Key × What)) → AllByRecursion (IsLeBy key_order key) (keys_of es)
    → AllByRecursion (λ (e : Event). key.due.nanos ≤ e.key.due.nanos) (events_of es)
later_dues key [] h = tt
later_dues key (e ∷ es) h = (due_not_gt key e.0 h.0, later_dues key es h.1)

-- the first entry's time is the least
pub least_of_first : (es : List (Key × What)) (e : Key × What) → slice_get es 0 ≡ Some e → All (IsLeBy key_order e.0) (keys_of es) → IsLeastDue (events_of es) (Some e.0.due)
least_of_first [] e first all = absurd (cc)
least_of_first (x ∷ es) e first all =
    let dues : Some x.0.due ≡ Some e.0.due = ap (option_map (λ (y : Key × What). y.0.due)) first in
    let same : x.0.due ≡ e.0.due = cc in
    ((0, event_of x, omega arith, refl, same), All-from_recursion _ (events_of (x ∷ es)) (later_dues e.0 (x ∷ es) (recursion_from_All (IsLeBy key_order e.0) (keys_of (x ∷ es)) all)))

-- ---- a list in order

is_less : (o : Ordering) → is_lt o ≡ true → o ≡ Less
is_less Less is = refl
is_less Equal is = absurd (false≢true is)
is_less Greater is = absurd (false≢true is)

-- what comes before a key comes before all that don't come before that key
less_by : (a b c : Key) (o : Ordering) → key_order a b ≡ Less → key_order b c ≡ o → is_gt o ≡ false → key_order a c ≡ Less
less_by a b c Less before is behind = key_order_total.trans a b c before is
less_by a b c Equal before is behind = sym (alike_right key_order_total b c a is) ∙ before
less_by a b c Greater before is behind = absurd (false≢true (sym behind))

leads_later : (event : Event) (key : Key) (es : List (Key × What)) → key_order event.key key ≡ Less → AllByRecursion (IsLeBy key_order key) (keys_of es)
    → AllByRecursion (IsBefore event) (events_of es)
leads_later event key [] before h = tt
leads_later event key (e ∷ es) before h = (less_by event.key key e.0 (key_order key e.0) before refl h.0, leads_later event key es before h.1)

-- what comes before the least key comes before all
pub leads_all : (event : Event) (key : Key) (es : List (Key × What)) → is_lt (key_order event.key key) ≡ true → All (IsLeBy key_order key) (keys_of es)
    → All (IsBefore event) (events_of es)
leads_all event key es before all =
    All-from_recursion (IsBefore event) (events_of es) (leads_later event key es (is_less (key_order event.key key) before) (recursion_from_All (IsLeBy key_order key) (keys_of es) all))

pub comes_later : (event : Event) (es : List (Key × What)) (e : Key × What) → slice_get es 0 ≡ Some e → is_lt (key_order event.key e.0) ≡ false
    → ComesLater event (events_of es)
comes_later event [] e first late = tt
comes_later event (x ∷ es) e first late =
    let same : x ≡ e = cc in subst (λ (y : Key × What). is_lt (key_order event.key y.0) ≡ false) (sym same) late

-- what comes before an event comes before all that it comes before
pub before_all : (a b : Event) (es : List Event) → key_order a.key b.key ≡ Less → All (IsBefore b) es → All (IsBefore a) (b ∷ es)
before_all a b es before all =
    All-cons (IsBefore a) b es before (All-weaker (IsBefore b) (IsBefore a) (λ x behind. key_order_total.trans a.key b.key x.key before behind) es all)

-- the same where a test says so
pub first_of_all : (event e : Event) (es : List Event) → is_lt (key_order event.key e.key) ≡ true → All (IsBefore e) es → All (IsBefore event) (e ∷ es)
first_of_all event e es before all = before_all event e es (is_less (key_order event.key e.key) before) all

new_by : (event : Event) (es : List Event) → AllByRecursion (IsBefore event) es → has_key event.key es ≡ false
new_by event [] all = refl
new_by event (e ∷ es) all = ap (λ (o : Ordering). is_eq o || has_key event.key es) all.0 ∙ new_by event es all.1

-- the key of what comes before all is new
pub new_before : (event : Event) (es : List Event) → All (IsBefore event) es → has_key event.key es ≡ false
new_before event es all = new_by event es (recursion_from_All (IsBefore event) es all)

put_by : (event : Event) (es : List Event) → AllByRecursion (IsBefore event) es → with_event event es ≡ event ∷ es
put_by event [] all = refl
put_by event (e ∷ es) all = ap (λ (o : Ordering). if is_lt o then event ∷ e ∷ es else e ∷ with_event event es) all.0

-- an event that comes before all stands before them
pub put_first : (event : Event) (es : List Event) → All (IsBefore event) es → with_event event es ≡ event ∷ es
put_first event es all = put_by event es (recursion_from_All (IsBefore event) es all)

ordered_by : (o : Ordering) (event e : Event) (es : List Event) → key_order event.key e.key ≡ o → IsOrdered (e ∷ es)
    → (is_eq o || has_key event.key es) ≡ false → (has_key event.key es ≡ false → IsOrdered (with_event event es))
    → IsOrdered (if is_lt o then event ∷ e ∷ es else e ∷ with_event event es)
ordered_by Less event e es is ordered new behind = (before_all event e es is ordered.0, ordered)
ordered_by Equal event e es is ordered new behind = absurd (false≢true (sym new))
ordered_by Greater event e es is ordered new behind =
    let before : key_order e.key event.key ≡ Less = key_order_total.antisymm e.key event.key ∙ ap ordering_reverse is in
    (All-permutation (IsBefore e) (event ∷ es) (with_event event es) (with_event_IsPermutation event es) (All-cons (IsBefore e) event es before ordered.0), behind new)

-- a list in order is so with an event more of a new key
pub ordered_with : (event : Event) (es : List Event) → IsOrdered es → has_key event.key es ≡ false → IsOrdered (with_event event es)
ordered_with event [] ordered new = (All-nil (IsBefore event), tt)
ordered_with event (e ∷ es) ordered new = ordered_by (key_order event.key e.key) event e es refl ordered new (ordered_with event es ordered.1)

-- ---- an event that stands by itself before a map

rest_new : (b r : Bool) → (b || r) ≡ false → r ≡ false
rest_new true r is = absurd (false≢true (sym is))
rest_new false r is = is

pub new_in_rest : (key : Key) (first : Option Event) (es : List (Key × What)) → has_key key (held first es) ≡ false → has_key key (events_of es) ≡ false
new_in_rest key None es new = new
new_in_rest key (Some e) es new = rest_new (is_eq (key_order key e.key)) (has_key key (events_of es)) new

-- an event that comes later joins those of the map
pub follows : (event : Event) (first : Option Event) (es more : List (Key × What)) → ComesLater event (held first es)
    → events_of more ≡ with_event event (events_of es) → held first more ≡ with_event event (held first es)
follows event None es more late is = is
follows event (Some e) es more late is =
    ap (λ (l : List Event). e ∷ l) is ∙ sym (ap (λ (b : Bool). if b then event ∷ e ∷ events_of es else e ∷ with_event event (events_of es)) late)

-- keys before the first event, at it and behind it
pub key_before : (key : Key) (e : Event) (es : List Event) → key_order key e.key ≡ Less → All (IsBefore e) es → false ≡ has_key key (e ∷ es)
key_before key e es before all =
    let event : Event = record { key = key; what = e.what } in
    sym (new_before event (e ∷ es) (before_all event e es before all))

-- what is left by a call that adds an event, or leaves all as it was, is in order
pub ordered_either : {A E : Type 0} (r : Result A E) (event : Event) (old new : List Event) → IsOrdered old → has_key event.key old ≡ false
    → OnOk r (new ≡ with_event event old) → OnErr r (new ≡ old) → IsOrdered new
ordered_either (Ok x) event old new ordered absent ok err = subst IsOrdered (sym ok) (ordered_with event old ordered absent)
ordered_either (Err e) event old new ordered absent ok err = subst IsOrdered (sym err) ordered
