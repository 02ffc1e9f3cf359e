-- lists of events, least key first
use Rattle.std.specs.Prelude.{◌≡◌, ◌≤◌, Bool, false, List, [], ◌∷◌, All, Option, Some, None, map, if◌then◌else◌}
use Rattle.std.specs.List.{Any, list_any}
use Rattle.std.specs.Ordering.{is_eq, is_lt}
use Rattle.std.specs.declared.cmp.Ordering.TheVariants.{Less}
use Rattle.sim_base.specs.declared.event.Event.{Event}
use Rattle.sim_base.specs.declared.event.What.{What}
use Rattle.sim_base.specs.declared.key.Key.{Key}
use Rattle.sim_base.specs.declared.time.Time.{Time}
use Rattle.sim_base.specs.Key.{key_order}

-- the one event's key comes before the other's
abbrev pub IsBefore : Event → Event → Type 0
IsBefore a b = key_order a.key b.key ≡ Less

-- each event's key comes before those of all behind it
abbrev pub IsOrdered : List Event → Type 0
IsOrdered [] = Unit {0}
IsOrdered (e ∷ es) = All (IsBefore e) es × IsOrdered es

-- there is no event, or this is when the first of them is due
abbrev pub IsLeastDue : List Event → Option Time → Type 0
IsLeastDue events None = events ≡ []
IsLeastDue events (Some due) = Any (λ (e : Event). e.key.due ≡ due) events × All (λ (e : Event). due.nanos ≤ e.key.due.nanos) events

-- some event has the key
abbrev pub has_key : Key → List Event → Bool
has_key key events = list_any (λ event. is_eq (key_order key event.key)) events

-- the event stands before the first one whose key its key comes before
abbrev pub with_event : Event → List Event → List Event
with_event event [] = event ∷ []
with_event event (next ∷ events) = if is_lt (key_order event.key next.key) then event ∷ next ∷ events else next ∷ with_event event events

abbrev pub event_of : Key × What → Event
event_of e = record { key = e.0; what = e.1 }

-- the events that a map keeps by their keys
abbrev pub events_of : List (Key × What) → List Event
events_of entries = map event_of entries

-- the first event, where one stands by itself, and behind it those of a map
abbrev pub held : Option Event → List (Key × What) → List Event
held None entries = events_of entries
held (Some event) entries = event ∷ events_of entries

-- the event doesn't come before the first of these, if there is one
abbrev pub ComesLater : Event → List Event → Type 0
ComesLater event [] = Unit {0}
ComesLater event (first ∷ events) = is_lt (key_order event.key first.key) ≡ false
