-- What a round of the code tells of its hosts and workers.
use Rattle.std.specs.Prelude.{ℕ, Bool, true, false, not, ◌&&◌, is_none, is_some, List, [], ◌∷◌, Option, Some, None, option_and_then, position, slice_get}
use Rattle.std.specs.List.{list_all}
use Rattle.sim_base.specs.declared.event.Parcel.{Parcel}
use Rattle.world_order.specs.Steps as order
use Rattle.world_order.specs.declared.step.Spot.{Spot}
use Rattle.world_order.specs.declared.step.Spot.TheVariants.{Place, Spill}
use Rattle.round_schedule.specs.declared.member.Member.{Member}
use Rattle.round_schedule.specs.declared.member.Worker.{Worker}
use Rattle.round_schedule.specs.declared.round.Round.{Round}
use Rattle.round_schedule.specs.Standing.{stage_of}

-- what is there passes a test
abbrev pub passes : {X : Type 0} → (X → Bool) → Option X → Bool
passes p None = false
passes p (Some x) = p x

abbrev pub is_in_hand : ℕ → Member → Bool
is_in_hand worker m = order.is_held worker (stage_of m.stage)

abbrev pub is_waiting : Member → Bool
is_waiting m = order.is_waiting (stage_of m.stage)

abbrev pub is_done : Member → Bool
is_done m = order.is_done (stage_of m.stage)

abbrev pub has_due : ℕ → Member → Bool
has_due end m = order.has_due end m.host.queue

abbrev pub is_free : ℕ → Member → Bool
is_free place m = passes is_none (slice_get m.places.items place)

-- the number of the host in a worker's hand, and the host
abbrev pub held : ℕ → Round → Option ℕ
held worker c = position (is_in_hand worker) c.members.items

abbrev pub in_hand : ℕ → Round → Option Member
in_hand worker c = option_and_then (slice_get c.members.items) (held worker c)

-- the first packet in a worker's hand
abbrev pub first_of : Worker → Option Parcel
first_of worker = slice_get worker.hand.items 0

abbrev pub first_packet : ℕ → Round → Option Parcel
first_packet worker c = option_and_then first_of (slice_get c.workers.items worker)

-- ---- where steps are allowed

abbrev pub may_take : ℕ → ℕ → Round → Bool
may_take worker host c = is_some (slice_get c.workers.items worker) && passes is_waiting (slice_get c.members.items host) && is_none (held worker c)

abbrev pub may_fire : ℕ → Round → Bool
may_fire worker c = is_some (slice_get c.workers.items worker) && passes (has_due c.window.end.nanos) (in_hand worker c)

abbrev pub may_put_at : Spot → Round → Parcel → Bool
may_put_at Spill c parcel = true
may_put_at (Place place) c parcel = passes (is_free place) (slice_get c.members.items parcel.to.index)

abbrev pub may_put : ℕ → Spot → Round → Bool
may_put worker spot c = passes (may_put_at spot c) (first_packet worker c)

abbrev pub is_over : ℕ → Round → Bool
is_over worker c = passes (λ (m : Member). not (has_due c.window.end.nanos m)) (in_hand worker c)

abbrev pub may_give_back : ℕ → Round → Bool
may_give_back worker c = is_over worker c && passes (λ (w : Worker). order.is_empty w.hand.items) (slice_get c.workers.items worker)

abbrev pub may_close : Round → Bool
may_close c = list_all is_done c.members.items
