-- When the first of some events is due.
use Rattle.std.specs.Prelude.{List, [], ◌∷◌, Option, Some, None, if◌then◌else◌, nat_lt}
use Rattle.sim_base.specs.declared.event.Event.{Event}
use Rattle.sim_base.specs.declared.time.Time.{Time}

-- the lesser of two times, either of which may be missing
abbrev pub lesser_due : Option Time → Option Time → Option Time
lesser_due None b = b
lesser_due (Some x) None = Some x
lesser_due (Some x) (Some y) = if nat_lt y.nanos x.nanos then Some y else Some x

-- when the first of these events is due; none where there is no event
abbrev pub first_due : List Event → Option Time
first_due [] = None
first_due (e ∷ es) = lesser_due (Some e.key.due) (first_due es)
