-- What hosts make for others: events of the net, for hosts of the net.
use Rattle.std.proofs.Common.{◌≡◌, ℕ, ◌-◌, ◌^◌, ◌<◌, ◌≤◌, inl, inr, Bool, true, false, ◌==◌, List, [], ◌∷◌, ◌++◌, All, Some, filter, length, refl, sym, subst, arith, eqb-true}
use Rattle.std.specs.Prelude.{if◌then◌else◌, not}
use Rattle.std.proofs.lemmas.List.Elements.{All-nil, All-cons}
use Rattle.sim_base.specs.declared.event.Event.{Event}
use Rattle.sim_base.specs.declared.event.Parcel.{Parcel}
use Rattle.sim_base.specs.declared.event.What.{What}
use Rattle.sim_base.specs.declared.event.What.TheVariants as what
use Rattle.sim_base.specs.declared.key.Key.{Key}
use Rattle.host_link.specs.declared.line.Line.{Line}
use Rattle.host_link.specs.Net.{Net}
use Rattle.host_state.specs.Fits.{model, fires_before_stop, IsHostOf, IsEventOf}
use Rattle.host_link.specs.Home.{home}
use Rattle.host_state.specs.HostRecord.{HostRecord}
use Rattle.host_link.specs.Outbox.{parcels_of, posted}
use Rattle.host_state.proofs.Simulations.{home_within, firings_fit}
use Rattle.world_order.specs.EventOrder.{take_least}
use Rattle.world_order.specs.Model.{Fired}
use Rattle.world_order.specs.Premises.{IsFit}
use Rattle.world_order.specs.Round.{events_at}
use Rattle.world_order.specs.WholeTurns.{Ran, RunsTo, rests, goes}
use Rattle.world_order.proofs.Keys.{due_from}
use Rattle.world_order.proofs.Least.{take_least_least, take_least_there, take_least_IsPermutation}
use Rattle.world_order.proofs.Members.{IsIn, Each, Each_from_All, Each-append, IsIn_permutation, IsIn_filter_from}
use Rattle.std.proofs.lemmas.List.Sorted.{IsPermutation-sym}
use Rattle.sim_base.specs.Units.{latest_time}

-- ---- where parcels go

within_by : (n to : ℕ) (key : Key) (w : What) (ps : List Parcel) → to < n → All (λ (p : Parcel). p.to.index < n) ps → All (λ (p : Parcel). p.to.index < n) (posted to key w ps)
within_by n to key (what.Packet packet) ps less all = All-cons (λ (p : Parcel). p.to.index < n) _ ps less all
within_by n to key (what.Start p) ps less all = all
within_by n to key (what.Go p) ps less all = all
within_by n to key (what.Shutdown p) ps less all = all
within_by n to key (what.Alarm target serial) ps less all = all
within_by n to key (what.Loop packet) ps less all = all
within_by n to key what.Up ps less all = all
within_by n to key what.Down ps less all = all

within_if : (n : ℕ) (b : Bool) (ps qs : List Parcel) → All (λ (p : Parcel). p.to.index < n) ps → All (λ (p : Parcel). p.to.index < n) qs → All (λ (p : Parcel). p.to.index < n) (if b then ps else qs)
within_if n true ps qs p q = p
within_if n false ps qs p q = q

pub parcels_within : (net : Net) (number : ℕ) (es : List Event) → All (IsEventOf net) es → All (λ (p : Parcel). p.to.index < length net.known.book) (parcels_of net number es)
parcels_within net number es all = go es (Each_from_All (IsEventOf net) es all)
  where
    go : (es : List Event) → Each (IsEventOf net) es → All (λ (p : Parcel). p.to.index < length net.known.book) (parcels_of net number es)
    go [] each = All-nil (λ (p : Parcel). p.to.index < length net.known.book)
    go (e ∷ es) each =
        let rest = go es (λ x h. each x (inr h)) in
        within_if (length net.known.book) (home net e == number) (parcels_of net number es) (posted (home net e) e.key e.what (parcels_of net number es)) rest
        (within_by (length net.known.book) (home net e) e.key e.what (parcels_of net number es) (home_within net e (each e (inl refl))) rest)

-- ---- what a run makes

-- a host of the net between firings, with its events
pub record IsOwn (net : Net) (number : ℕ) (h : HostRecord) (queue : List Event) : Type 0 where
  pub good : IsHostOf net number h
  pub events : Each (IsEventOf net) queue
  pub home : Each (λ (e : Event). home net e ≡ number) queue
  pub clock : Each (λ (e : Event). h.link.time.nanos ≤ e.key.due.nanos) queue

module _ (net : Net) (early : net.stop.nanos ≤ latest_time) (number end : ℕ) where
  abbrev fired : HostRecord → Event → Fired HostRecord Line
  fired h e = fires_before_stop net h e

  module _ (h : HostRecord) (queue : List Event) (own : IsOwn net number h queue) (e : Event) (rest : List Event) (taken : take_least queue ≡ Some (e, rest)) where
    there : IsIn e queue
    there = take_least_there queue (e, rest) taken

    was : (x : Event) → IsIn x rest → IsIn x queue
    was x i = IsIn_permutation x (e ∷ rest) queue (IsPermutation-sym queue (e ∷ rest) (take_least_IsPermutation queue (e, rest) taken)) (inr i)

    fits : IsFit (model net) (Some 0) (2 ^ 64 - 1) (IsHostOf net) (IsEventOf net) h e (fired h e)
    fits =
        firings_fit net (Some 0) (λ i j latency reliability apart route. omega arith) (omega arith) early h e
        (subst (λ (n : ℕ). IsHostOf net n h) (sym (own.home e there)) own.good) (own.events e there) (own.clock e there)

    in_made : (x : Event) → IsIn x (events_at (model net) number (fired h e).made) → IsIn x (fired h e).made × ((home net x == number) ≡ true)
    in_made x i = IsIn_filter_from (λ (g : Event). home net g == number) x (fired h e).made i

    own_after : IsOwn net number (fired h e).host (rest ++ events_at (model net) number (fired h e).made)
    own_after =
        let mine : List Event = events_at (model net) number (fired h e).made in
        let f = fits in
        record {
          good = subst (λ (n : ℕ). IsHostOf net n (fired h e).host) (own.home e there) f.host;
          events = Each-append (IsEventOf net) rest mine (λ x i. own.events x (was x i)) (λ x i. Each_from_All (IsEventOf net) (fired h e).made f.events x (in_made x i).0);
          home = Each-append (λ (g : Event). home net g ≡ number) rest mine (λ x i. own.home x (was x i)) (λ x i. eqb-true (home net x) number (in_made x i).1);
          clock = Each-append (λ (g : Event). (fired h e).host.link.time.nanos ≤ g.key.due.nanos) rest mine
              (λ x i. (let c = f.clock in let o : e.key.due.nanos ≤ x.key.due.nanos = due_from x.key e.key (take_least_least queue (e, rest) taken x (was x i)) in omega arith))
              (λ x i. (let c = f.clock in let l = Each_from_All (λ (g : Event). e.key.due.nanos < g.key.due.nanos) (fired h e).made f.later x (in_made x i).0 in omega arith));
        }

  -- each packet that a run makes is an event of the net
  pub packets_events : (h : HostRecord) (queue : List Event) (ran : Ran HostRecord Line) → IsOwn net number h queue → RunsTo (model net) number end h queue ran → Each (IsEventOf net) ran.packets
  packets_events h queue ran own (rests host q none) = λ x i. absurd i
  packets_events h queue ran own (goes host q e rest more taken due runs) =
      let f = fits h queue own e rest taken in
      Each-append (IsEventOf net) (filter (λ (g : Event). not (home net g == number)) (fired h e).made) more.packets
      (λ x i. Each_from_All (IsEventOf net) (fired h e).made f.events x (IsIn_filter_from (λ (g : Event). not (home net g == number)) x (fired h e).made i).0)
      (packets_events (fired h e).host (rest ++ events_at (model net) number (fired h e).made) more (own_after h queue own e rest taken) runs)
