-- The event of least key in a list of events.
use Rattle.std.specs.Prelude.{ℕ, ◌+◌, ◌≤◌, Bool, List, [], ◌∷◌, Option, Some, None, if◌then◌else◌}
use Rattle.std.specs.Ordering.{is_eq, is_lt}
use Rattle.sim_base.specs.Key.{key_order}
use Rattle.sim_base.specs.declared.event.Event.{Event}
use Rattle.sim_base.specs.declared.key.Key.{Key}

-- whether the key of the first event comes before that of the second
abbrev pub is_before : Event → Event → Bool
is_before e f = is_lt (key_order e.key f.key)

-- of an event and what was taken from those behind it: the event, or the other where that comes before it
abbrev pub taken_with : Event → List Event → Option (Event × List Event) → Event × List Event
taken_with e es None = (e, es)
taken_with e es (Some (f, rest)) = if is_before f e then (f, e ∷ rest) else (e, es)

-- the event of least key, and the others
abbrev pub take_least : List Event → Option (Event × List Event)
take_least [] = None
take_least (e ∷ es) = Some (taken_with e es (take_least es))

-- ---- events apart

abbrev pub same_key : Key → Key → Bool
same_key a b = is_eq (key_order a b)

-- how many of the events have the key
abbrev pub copies : Key → List Event → ℕ
copies key [] = 0
copies key (e ∷ es) = (if same_key key e.key then 1 else 0) + copies key es

-- no two of the events have the same key
abbrev pub AreApart : List Event → Type 0
AreApart events = (key : Key) → copies key events ≤ 1
