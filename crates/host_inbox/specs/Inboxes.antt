-- The rule of the inboxes, over their words, their places and what all seats know.
use Rattle.std.specs.Prelude.{◌≡◌, ℕ, ◌+◌, ◌*◌, ◌^◌, ◌<◌, ◌≤◌, List, length, slice_index, Option, Some, None}
use Rattle.std.specs.List.{AllByRecursion}
use mathlib.Core.Option.{Option as Place, some, none}
use lib.ListN.{get_elem?}
use Rattle.atomic_table.specs.Table.{State}
use Rattle.sim_base.specs.Limits.{most_workers}
use Rattle.host_inbox.specs.declared.entry.Entry.{Entry}
use Rattle.host_inbox.specs.declared.entry.Claim.{Claim}
use Rattle.host_inbox.specs.declared.rule.Known.{Known}
use Rattle.host_inbox.specs.declared.rule.Size.{Size}
use Rattle.list_weights.specs.Weights.{weigh, numbers_below}
use Rattle.host_inbox.specs.Entries.{inbox_places, place_of, claim_weight, entry_weight}

module _ {T : Type 0} where
  abbrev pub known : ℕ → List (Entry (Option T)) → List Claim → Known T
  known share entered pending = record { share = share; entered = entered; pending = pending }

  -- how much the numbers weigh that a seat claimed of a host
  abbrev pub known_weight : ℕ → (ℕ → ℕ) → Known T → ℕ
  known_weight host h v = weigh (entry_weight host h) v.entered + weigh (claim_weight host h) v.pending

  -- Where the number has a place, the parcel is there.
  pub record IsEntered (hosts : ℕ) (homes : List (Place (Option T))) (e : Entry (Option T)) : Type 0 where
    pub host : e.host < hosts
    pub placed : e.number < inbox_places → get_elem? homes (place_of e.host e.number) ≡ some (some e.parcel)
    pub full : e.number < inbox_places → (parcel : T) × (e.parcel ≡ Some parcel)

  -- The place of the claim is out with the seat.
  pub record IsPending (hosts : ℕ) (homes : List (Place (Option T))) (c : Claim) : Type 0 where
    pub host : c.host < hosts
    pub number : c.number < inbox_places
    pub out : get_elem? homes (place_of c.host c.number) ≡ some none

  -- What one seat knows is so.
  pub record Fits (hosts : ℕ) (homes : List (Place (Option T))) (v : Known T) : Type 0 where
    pub entered : AllByRecursion (IsEntered hosts homes) v.entered
    pub pending : AllByRecursion (IsPending hosts homes) v.pending
    pub few : length v.entered + length v.pending ≤ v.share * 2 ^ 32

  -- Of each host the numbers that the seats claimed are those below its first word, each once.
  -- Each place from there on is empty, and no seat has it.
  pub record AreInboxes (size : Size) (s : State (Option T) (Known T)) : Type 0 where
    pub words : length s.words ≡ size.hosts + size.hosts
    pub homes : length s.homes ≡ size.hosts * inbox_places
    pub shares : weigh (λ v. v.share) s.views ≡ size.seats
    pub few : size.seats ≤ most_workers
    pub once : (host : ℕ) (h : ℕ → ℕ) → host < size.hosts → weigh (known_weight host h) s.views ≡ weigh h (numbers_below (slice_index s.words host))
    pub free : (host number : ℕ) → host < size.hosts → slice_index s.words host ≤ number → number < inbox_places → get_elem? s.homes (place_of host number) ≡ some (some None)
    pub each : (seat : ℕ) (v : Known T) → get_elem? s.views seat ≡ some v → Fits size.hosts s.homes v
