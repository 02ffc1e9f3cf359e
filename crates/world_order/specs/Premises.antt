-- What the laws of worlds and rounds ask of a kind of hosts.
use Rattle.std.specs.Prelude.{◌≡◌, ◌≢◌, ℕ, ◌+◌, ◌<◌, ◌≤◌, List, [], ◌∷◌, length, All, Option, Some, None}
use Rattle.sim_base.specs.declared.event.Event.{Event}
use Rattle.world_order.specs.Model.{Model, Fired}

-- the events are of this source, with these numbers and those that follow
abbrev pub AreNumbered : ℕ → ℕ → List Event → Type 0
AreNumbered source number [] = Unit {0}
AreNumbered source number (e ∷ es) = (e.key.source.index ≡ source) × (e.key.number ≡ number) × AreNumbered source (number + 1) es

-- the time is later by the lookahead at least; without one there is no such time
abbrev pub IsFar : Option ℕ → ℕ → ℕ → Type 0
IsFar None from due = ⊥
IsFar (Some lookahead) from due = from + lookahead ≤ due

-- what firing an event at a host leaves fits
pub record IsFit {H L : Type 0} (m : Model H L) (lookahead : Option ℕ) (limit : ℕ) (IsHost : ℕ → H → Type 0) (IsEvent : Event → Type 0)
    (before : H) (e : Event) (f : Fired H L) : Type 0 where
  -- each event made is due later,
  pub later : All (λ (g : Event). e.key.due.nanos < g.key.due.nanos) f.made
  -- and one that fires at another host by the lookahead at least
  pub far : All (λ (g : Event). m.home g ≢ m.home e → IsFar lookahead e.key.due.nanos g.key.due.nanos) f.made
  -- they have the host's next numbers, which have a limit
  pub numbered : AreNumbered (m.home e) (m.next before) f.made
  pub counted : m.next f.host ≡ m.next before + length f.made
  pub limited : m.next f.host ≤ limit
  -- the host's clock doesn't run ahead
  pub clock : m.clock f.host ≤ e.key.due.nanos
  -- and what holds of hosts and events still does
  pub host : IsHost (m.home e) f.host
  pub events : All IsEvent f.made

-- hosts of a kind, so many, with a lookahead (none where no event that a host makes fires at another) and a limit of numbers, what
-- holds of each host by its number and of each event; every firing of what holds, at a host that fired no later event, fits
pub record Simulation (H L : Type 0) : Type 1 where
  pub model : Model H L
  pub lookahead : Option ℕ
  pub limit : ℕ
  pub count : ℕ
  pub IsHost : ℕ → H → Type 0
  pub IsEvent : Event → Type 0
  pub homes : (e : Event) → IsEvent e → model.home e < count
  pub fit : (host : H) (e : Event) → IsHost (model.home e) host → IsEvent e → model.clock host ≤ e.key.due.nanos
      → IsFit model lookahead limit IsHost IsEvent host e (model.fire (model.home e) host e)
