-- The steps of a round: where each is allowed, and what it does.
use Rattle.std.specs.Prelude.{ℕ, suc, ◌==◌, Bool, true, false, ◌&&◌, not, is_none, is_some, List, [], ◌∷◌, ◌++◌, filter, Option, Some, None, option_map, if◌then◌else◌, nat_lt, slice_get, slice_set}
use Rattle.std.specs.List.{list_any, list_all}
use Rattle.base_texts.specs.Quantity.{◌>>=◌}
use Rattle.sim_base.specs.declared.event.Event.{Event}
use Rattle.world_order.specs.EventOrder.{take_least}
use Rattle.world_order.specs.Model.{Model, Fired}
use Rattle.world_order.specs.Round.{Stage, Waits, InHand, Done, Member, Worker, Round, State, Going, Closed, events_at, world_of}
use Rattle.world_order.specs.World.{World, logged}
use Rattle.world_order.specs.declared.step.Spot.{Spot}
use Rattle.world_order.specs.declared.step.Spot.TheVariants.{Place, Spill}
use Rattle.world_order.specs.declared.step.Step.{Step}
use Rattle.world_order.specs.declared.step.Step.TheVariants.{Take, Fire, Put, Back, Close}

-- the value, where the guard holds
abbrev pub given : {A : Type 0} → Bool → A → Option A
given guard a = if guard then Some a else None

abbrev pub is_waiting : Stage → Bool
is_waiting Waits = true
is_waiting (InHand worker) = false
is_waiting Done = false

abbrev pub is_done : Stage → Bool
is_done Waits = false
is_done (InHand worker) = false
is_done Done = true

abbrev pub is_held : ℕ → Stage → Bool
is_held worker Waits = false
is_held worker (InHand other) = worker == other
is_held worker Done = false

abbrev pub is_empty : {X : Type 0} → List X → Bool
is_empty [] = true
is_empty (x ∷ xs) = false

abbrev pub first : {X : Type 0} → List X → Option (X × List X)
first [] = None
first (x ∷ xs) = Some (x, xs)

-- an event of the list is due before the end
abbrev pub has_due : ℕ → List Event → Bool
has_due end events = list_any (λ e. nat_lt e.key.due.nanos end) events

-- the number of the host in the worker's hand
abbrev pub held : {H : Type 0} → ℕ → List (Member H) → Option ℕ
held worker [] = None
held worker (x ∷ xs) = if is_held worker x.stage then Some 0 else option_map suc (held worker xs)

module _ {H L : Type 0} where
  abbrev pub with_member : ℕ → Member H → Round H L → Round H L
  with_member number x r = record r { members = slice_set r.members number x }

  abbrev pub with_worker : ℕ → Worker → Round H L → Round H L
  with_worker number worker r = record r { workers = slice_set r.workers number worker }

  -- ---- Take: a host that waits comes into the worker's empty hand

  abbrev pub take_host : ℕ → ℕ → Round H L → Option (Round H L)
  take_host w number r = do
    worker ← slice_get r.workers w
    x ← slice_get r.members number
    given (is_waiting x.stage && is_none (held w r.members)) (with_member number (record x { stage = InHand w }) r)
  -- ---- Fire: the least event of the host in hand fires, where it is due before the end

-- the host in a worker's hand, the event that it fires next, and its other events
pub record Ready (H : Type 0) : Type 0 where
  pub number : ℕ
  pub member : Member H
  pub worker : Worker
  pub event : Event
  pub rest : List Event

module _ {H L : Type 0} where
  abbrev pub ready : ℕ → Round H L → Option (Ready H)
  ready w r = do
    number ← held w r.members
    x ← slice_get r.members number
    worker ← slice_get r.workers w
    taken ← take_least x.queue
    given (nat_lt taken.0.key.due.nanos r.end) (record { number = number; member = x; worker = worker; event = taken.0; rest = taken.1 })

  -- its own events join its queue, the packets for others come into the hand
  abbrev pub after_fire : Model H L → ℕ → Round H L → Ready H → Fired H L → Round H L
  after_fire m w r t f = record {
    end = r.end;
    members = slice_set r.members t.number (record (t.member) { host = f.host; queue = t.rest ++ events_at m t.number f.made });
    workers = slice_set r.workers w (record (t.worker) { hand = t.worker.hand ++ filter (λ e. not (m.home e == t.number)) f.made });
    lines = r.lines ++ logged t.event.key f.lines;
  }

  abbrev pub fire_host : Model H L → ℕ → Round H L → Option (Round H L)
  fire_host m w r = do
    t ← ready w r
    Some (after_fire m w r t (m.fire t.number t.member.host t.event))

  -- ---- Put: the first packet of the hand goes to a place of its host that is free, or to the worker's spill

  abbrev pub put_spill : ℕ → Worker → Event → List Event → Round H L → Round H L
  put_spill w worker packet rest r = with_worker w (record { hand = rest; spill = worker.spill ++ packet ∷ [] }) r

  abbrev pub put_place : ℕ → Worker → Event → List Event → ℕ → ℕ → Member H → Round H L → Round H L
  put_place w worker packet rest number place x r =
      with_worker w (record worker { hand = rest }) (with_member number (record x { places = slice_set x.places place (Some packet) }) r)

  abbrev pub put_at : Model H L → ℕ → Worker → Event → List Event → Spot → Round H L → Option (Round H L)
  put_at m w worker packet rest Spill r = Some (put_spill w worker packet rest r)
  put_at m w worker packet rest (Place place) r = do
    x ← slice_get r.members (m.home packet)
    kept ← slice_get x.places place
    given (is_none kept) (put_place w worker packet rest (m.home packet) place x r)

  abbrev pub put_packet : Model H L → ℕ → Spot → Round H L → Option (Round H L)
  put_packet m w spot r = do
    worker ← slice_get r.workers w
    taken ← first worker.hand
    put_at m w worker taken.0 taken.1 spot r

  -- ---- Back: the host in hand has no event due before the end and no packet left, and is done

  abbrev pub give_back : ℕ → Round H L → Option (Round H L)
  give_back w r = do
    number ← held w r.members
    x ← slice_get r.members number
    worker ← slice_get r.workers w
    given (not (has_due r.end x.queue) && is_empty worker.hand) (with_member number (record x { stage = Done }) r)

  -- ---- Close: all hosts are done

  abbrev pub close_round : Round H L → Option (World H L)
  close_round r = given (list_all (λ (x : Member H). is_done x.stage) r.members) (world_of r)

  -- ---- any step

  abbrev pub goes : Option (Round H L) → Option (State H L)
  goes o = option_map Going o

  abbrev pub after_step : Model H L → Step → Round H L → Option (State H L)
  after_step m (Take w host) r = goes (take_host w host.index r)
  after_step m (Fire w) r = goes (fire_host m w r)
  after_step m (Put w spot) r = goes (put_packet m w spot r)
  after_step m (Back w) r = goes (give_back w r)
  after_step m Close r = option_map Closed (close_round r)

  -- the state after a step, where it is allowed; no step is allowed once the round is closed
  unfoldable pub after : Model H L → Step → State H L → Option (State H L)
  after m step (Going r) = after_step m step r
  after m step (Closed w) = None

  abbrev pub is_allowed : Model H L → Step → State H L → Bool
  is_allowed m step s = is_some (after m step s)
