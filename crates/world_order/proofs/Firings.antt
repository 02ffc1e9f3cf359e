-- What is known of a firing at a host of a simulation.
use Rattle.std.proofs.Common.{◌≡◌, ◌≢◌, ℕ, ◌+◌, ◌<◌, ◌≤◌, inl, inr, ⊎_elim, Bool, true, false, List, [], ◌∷◌, Some, length, slice_get, sym, ap, subst, ◌∙◌, arith}
use Rattle.std.proofs.lemmas.Bool.{cases_eq}
use Rattle.sim_base.specs.declared.event.Event.{Event}
use Rattle.sim_base.specs.declared.key.Key.{Key}
use Rattle.world_order.specs.EventOrder.{same_key, AreApart}
use Rattle.world_order.specs.Model.{Firing, fires, with_host}
use Rattle.world_order.specs.Premises.{AreNumbered, IsFar, IsFit, Simulation}
use Rattle.world_order.specs.Settled.{number_of, next_at}
use Rattle.world_order.proofs.Apart.{one_if, apart_append}
use Rattle.world_order.proofs.Homes.{get_set_same, get_below, fires_is, fires_other, some_is}
use Rattle.world_order.proofs.Members.{IsIn, Each, Each_from_All, Each_cons}

-- ---- events with numbers in a row

pub numbered_source : (source number : ℕ) (es : List Event) → AreNumbered source number es → (x : Event) → IsIn x es → x.key.source.index ≡ source
numbered_source source number [] row x h = absurd h
numbered_source source number (e ∷ es) (is, at, row) x (inl same) = ap (λ (y : Event). y.key.source.index) same ∙ is
numbered_source source number (e ∷ es) (is, at, row) x (inr h) = numbered_source source (number + 1) es row x h

pub numbered_from : (source number : ℕ) (es : List Event) → AreNumbered source number es → (x : Event) → IsIn x es → number ≤ x.key.number
numbered_from source number [] row x h = absurd h
numbered_from source number (e ∷ es) (is, at, row) x (inl same) = let n : x.key.number ≡ number = ap (λ (y : Event). y.key.number) same ∙ at in omega arith
numbered_from source number (e ∷ es) (is, at, row) x (inr h) = let n = numbered_from source (number + 1) es row x h in omega arith

pub numbered_below : (source number : ℕ) (es : List Event) → AreNumbered source number es → (x : Event) → IsIn x es → x.key.number < number + length es
numbered_below source number [] row x h = absurd h
numbered_below source number (e ∷ es) (is, at, row) x (inl same) = let n : x.key.number ≡ number = ap (λ (y : Event). y.key.number) same ∙ at in omega arith
numbered_below source number (e ∷ es) (is, at, row) x (inr h) = let n = numbered_below source (number + 1) es row x h in omega arith

lone_count : (b : Bool) → one_if b + 0 ≤ 1
lone_count true = omega arith
lone_count false = omega arith

pub lone_apart : (e : Event) → AreApart (e ∷ [])
lone_apart e k = lone_count (same_key k e.key)

pub numbered_apart : (source number : ℕ) (es : List Event) → AreNumbered source number es → AreApart es
numbered_apart source number [] row = λ k. omega arith
numbered_apart source number (e ∷ es) (is, at, row) =
    apart_append (e ∷ []) es (lone_apart e) (numbered_apart source (number + 1) es row)
    (Each_cons (λ (x : Event). Each (λ (f : Event). x.key ≢ f.key) es) e []
    (λ f h same. (let n = numbered_from source (number + 1) es row f h in let m : e.key.number ≡ f.key.number = ap (λ (k : Key). k.number) same in absurd (omega arith)))
    (λ x h. absurd h))

-- ---- a firing

module _ {H L : Type 0} where
  -- the host at which the event fires, and what it leaves
  pub record Known (sim : Simulation H L) (hosts : List H) (e : Event) (f : Firing H L) : Type 0 where
    pub before : H
    pub before_at : slice_get hosts (sim.model.home e) ≡ Some before
    pub now : H
    pub now_at : slice_get f.hosts (sim.model.home e) ≡ Some now
    pub later : Each (λ (g : Event). e.key.due.nanos < g.key.due.nanos) f.made
    pub far : Each (λ (g : Event). sim.model.home g ≢ sim.model.home e → IsFar sim.lookahead e.key.due.nanos g.key.due.nanos) f.made
    pub numbered : AreNumbered (sim.model.home e) (sim.model.next before) f.made
    pub counted : sim.model.next now ≡ sim.model.next before + length f.made
    pub limited : sim.model.next now ≤ sim.limit
    pub clock : sim.model.clock now ≤ e.key.due.nanos
    pub host : sim.IsHost (sim.model.home e) now
    pub events : Each sim.IsEvent f.made

  module _ (sim : Simulation H L) (hosts : List H) (e : Event) where
    known_at : (host : H) → slice_get hosts (sim.model.home e) ≡ Some host
        → IsFit sim.model sim.lookahead sim.limit sim.IsHost sim.IsEvent host e (sim.model.fire (sim.model.home e) host e)
        → Known sim hosts e (with_host hosts (sim.model.home e) (sim.model.fire (sim.model.home e) host e))
    known_at host is fit = record {
      before = host;
      before_at = is;
      now = (sim.model.fire (sim.model.home e) host e).host;
      now_at = get_set_same hosts (sim.model.home e) host (sim.model.fire (sim.model.home e) host e).host is;
      later = Each_from_All _ _ fit.later;
      far = Each_from_All _ _ fit.far;
      numbered = fit.numbered;
      counted = fit.counted;
      limited = fit.limited;
      clock = fit.clock;
      host = fit.host;
      events = Each_from_All _ _ fit.events;
    }

    pub known : length hosts ≡ sim.count → sim.IsEvent e → ((i : ℕ) (host : H) → slice_get hosts i ≡ Some host → sim.IsHost i host)
        → ((host : H) → slice_get hosts (sim.model.home e) ≡ Some host → sim.model.clock host ≤ e.key.due.nanos) → Known sim hosts e (fires sim.model hosts e)
    known count good hosts_good clock =
        let below : sim.model.home e < sim.count = sim.homes e good in
        let found = get_below hosts (sim.model.home e) (omega arith) in
        subst (Known sim hosts e) (sym (fires_is sim.model hosts e found.0 found.1))
        (known_at found.0 found.1 (sim.fit found.0 e (hosts_good (sim.model.home e) found.0 found.1) good (clock found.0 found.1)))

    module _ (k : Known sim hosts e (fires sim.model hosts e)) where
      -- a host's numbers don't fall
      next-rises : (source : ℕ) → next_at sim.model hosts source ≤ next_at sim.model (fires sim.model hosts e).hosts source
      next-rises source = ⊎_elim
          (λ (same : source ≡ sim.model.home e).
          let old : next_at sim.model hosts source ≡ sim.model.next k.before = ap (next_at sim.model hosts) same ∙ ap (number_of sim.model) k.before_at in
          let new : next_at sim.model (fires sim.model hosts e).hosts source ≡ sim.model.next k.now = ap (next_at sim.model (fires sim.model hosts e).hosts) same ∙ ap (number_of sim.model) k.now_at in
          let c = k.counted in
          omega arith)
          (λ (other : source ≢ sim.model.home e).
          let same : next_at sim.model (fires sim.model hosts e).hosts source ≡ next_at sim.model hosts source = ap (number_of sim.model) (fires_other sim.model hosts e source other) in
          omega arith)
          (cases_eq source (sim.model.home e))

      -- an event that was numbered before stays below
      pub below_kept : (x : Event) → x.key.number < next_at sim.model hosts x.key.source.index → x.key.number < next_at sim.model (fires sim.model hosts e).hosts x.key.source.index
      below_kept x below = let r = next-rises x.key.source.index in omega arith

      -- an event made is below
      pub below_made : (x : Event) → IsIn x (fires sim.model hosts e).made → x.key.number < next_at sim.model (fires sim.model hosts e).hosts x.key.source.index
      below_made x h =
          let same : x.key.source.index ≡ sim.model.home e = numbered_source _ _ _ k.numbered x h in
          let new : next_at sim.model (fires sim.model hosts e).hosts x.key.source.index ≡ sim.model.next k.now =
          ap (next_at sim.model (fires sim.model hosts e).hosts) same ∙ ap (number_of sim.model) k.now_at in
          let b = numbered_below _ _ _ k.numbered x h in
          let c = k.counted in
          omega arith

      -- an event that was numbered before has another key than one that is made
      pub made_anew : (x g : Event) → x.key.number < next_at sim.model hosts x.key.source.index → IsIn g (fires sim.model hosts e).made → x.key ≢ g.key
      made_anew x g below h same =
          let source : x.key.source.index ≡ sim.model.home e = ap (λ (key : Key). key.source.index) same ∙ numbered_source _ _ _ k.numbered g h in
          let number : x.key.number ≡ g.key.number = ap (λ (key : Key). key.number) same in
          let old : next_at sim.model hosts x.key.source.index ≡ sim.model.next k.before = ap (next_at sim.model hosts) source ∙ ap (number_of sim.model) k.before_at in
          let from = numbered_from _ _ _ k.numbered g h in
          absurd (omega arith)

      -- what holds of each host after the firing, if it holds of its home's and held of the others
      pub hosts_kept : (P : ℕ → H → Type 0) → P (sim.model.home e) k.now → ((i : ℕ) (host : H) → slice_get hosts i ≡ Some host → P i host)
          → (i : ℕ) (host : H) → slice_get (fires sim.model hosts e).hosts i ≡ Some host → P i host
      hosts_kept P here others i host is = ⊎_elim
          (λ (same : i ≡ sim.model.home e).
          let there : slice_get (fires sim.model hosts e).hosts i ≡ Some k.now = ap (slice_get (fires sim.model hosts e).hosts) same ∙ k.now_at in
          let host_is : k.now ≡ host = some_is k.now host (sym there ∙ is) in
          subst (P i) host_is (subst (λ (j : ℕ). P j k.now) (sym same) here))
          (λ (other : i ≢ sim.model.home e). others i host (sym (fires_other sim.model hosts e i other) ∙ is))
          (cases_eq i (sim.model.home e))
