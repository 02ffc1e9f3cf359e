-- Worlds and rounds whose order is forgotten: which events are held, and which lines each key has. Firings in any order.
use Rattle.std.proofs.Common.{◌≡◌, ◌≢◌, ℕ, ◌<◌, ◌≤◌, ◌⊎◌, inl, inr, ⊎_elim, Bool, true, false, List, [], ◌++◌, Option, Some, length, slice_get, refl, sym, ap, subst, ◌∙◌, arith, append_assoc, append-nil}
use Rattle.std.specs.Prelude.{if◌then◌else◌}
use Rattle.std.proofs.lemmas.Bool.{cases_eq}
use Rattle.sim_base.specs.declared.event.Event.{Event}
use Rattle.sim_base.specs.declared.key.Key.{Key}
use Rattle.world_order.specs.EventOrder.{same_key, is_before}
use Rattle.world_order.specs.Model.{Model, fires}
use Rattle.world_order.specs.Premises.{IsFar, Simulation}
use Rattle.world_order.specs.Settled.{next_at}
use Rattle.world_order.proofs.Firings.{Known, known, numbered_apart, below_kept, below_made, made_anew, hosts_kept}
use Rattle.world_order.proofs.Apart.{one_of_key}
use Rattle.world_order.proofs.Homes.{length_fires, fires_other, fires_either, made_same, lines_same, some_is}
use Rattle.world_order.proofs.Keys.{due_from, one_way, same_key_is, same_place}
use Rattle.world_order.proofs.Members.{IsIn}

-- the lines of a key among those of another
abbrev pub own_lines : {L : Type 0} → Key → Key → List L → List L
own_lines k key lines = if same_key k key then lines else []

-- a time from the start on, later by the lookahead, isn't before the end
abbrev pub IsWithin : Option ℕ → ℕ → ℕ → Type 0
IsWithin lookahead start end = (a b : ℕ) → start ≤ a → IsFar lookahead a b → end ≤ b

pub record Scene (H L : Type 0) : Type 1 where
  pub hosts : List H
  pub holds : Event → Type 0
  pub lines : Key → List L

module _ {H L : Type 0} where
  -- two scenes have the same hosts, events and lines
  pub record IsAlike (s t : Scene H L) : Type 0 where
    pub hosts : s.hosts ≡ t.hosts
    pub into : (x : Event) → s.holds x → t.holds x
    pub back : (x : Event) → t.holds x → s.holds x
    pub lines : (k : Key) → s.lines k ≡ t.lines k

  pub alike_refl : (s : Scene H L) → IsAlike s s
  alike_refl s = record { hosts = refl; into = λ x h. h; back = λ x h. h; lines = λ k. refl }

  pub alike_sym : (s t : Scene H L) → IsAlike s t → IsAlike t s
  alike_sym s t a = record { hosts = sym a.hosts; into = a.back; back = a.into; lines = λ k. sym (a.lines k) }

  pub alike_trans : (s t u : Scene H L) → IsAlike s t → IsAlike t u → IsAlike s u
  alike_trans s t u a b = record {
    hosts = a.hosts ∙ b.hosts;
    into = λ x h. b.into x (a.into x h);
    back = λ x h. a.back x (b.back x h);
    lines = λ k. a.lines k ∙ b.lines k;
  }

  -- an event may fire: it is held, due before the end, and none of its home comes before it
  pub record MayFire (m : Model H L) (end : ℕ) (e : Event) (s : Scene H L) : Type 0 where
    pub there : s.holds e
    pub due : e.key.due.nanos < end
    pub first : (x : Event) → s.holds x → m.home x ≡ m.home e → is_before x e ≡ false

  -- what it leaves
  abbrev pub turned : Model H L → Event → Scene H L → Scene H L
  turned m e s = record {
    hosts = (fires m s.hosts e).hosts;
    holds = λ x. (s.holds x × (x.key ≢ e.key)) ⊎ IsIn x (fires m s.hosts e).made;
    lines = λ k. s.lines k ++ own_lines k e.key (fires m s.hosts e).lines;
  }

  pub may_alike : (m : Model H L) (end : ℕ) (e : Event) (s t : Scene H L) → IsAlike s t → MayFire m end e s → MayFire m end e t
  may_alike m end e s t a may = record { there = a.into e may.there; due = may.due; first = λ x h same. may.first x (a.back x h) same }

  pub turned_alike : (m : Model H L) (e : Event) (s t : Scene H L) → IsAlike s t → IsAlike (turned m e s) (turned m e t)
  turned_alike m e s t a =
      let made : (fires m s.hosts e).made ≡ (fires m t.hosts e).made = ap (λ (hosts : List H). (fires m hosts e).made) a.hosts in
      record {
        hosts = ap (λ (hosts : List H). (fires m hosts e).hosts) a.hosts;
        into = λ x h. ⊎_elim
            (λ (old : s.holds x × (x.key ≢ e.key)). inl (a.into x old.0, old.1))
            (λ (new : IsIn x (fires m s.hosts e).made). inr (subst (IsIn x) made new)) h;
        back = λ x h. ⊎_elim
            (λ (old : t.holds x × (x.key ≢ e.key)). inl (a.back x old.0, old.1))
            (λ (new : IsIn x (fires m t.hosts e).made). inr (subst (IsIn x) (sym made) new)) h;
        lines = λ k.
            ap (λ (ls : List L). ls ++ own_lines k e.key (fires m s.hosts e).lines) (a.lines k)
            ∙ ap (λ (hosts : List H). t.lines k ++ own_lines k e.key (fires m hosts e).lines) a.hosts;
      }

  -- ---- what has to hold of a scene between the start of a round and its end

  pub record IsSound (sim : Simulation H L) (start end : ℕ) (s : Scene H L) : Type 0 where
    pub count : length s.hosts ≡ sim.count
    pub one : (x y : Event) → s.holds x → s.holds y → x.key ≡ y.key → x ≡ y
    pub below : (x : Event) → s.holds x → x.key.number < next_at sim.model s.hosts x.key.source.index
    pub events : (x : Event) → s.holds x → sim.IsEvent x
    pub hosts : (i : ℕ) (host : H) → slice_get s.hosts i ≡ Some host → sim.IsHost i host
    pub own_clock : (x : Event) (host : H) → s.holds x → slice_get s.hosts (sim.model.home x) ≡ Some host → sim.model.clock host ≤ x.key.due.nanos
    pub clocks : (x : Event) → s.holds x → x.key.due.nanos < end → (i : ℕ) (host : H) → slice_get s.hosts i ≡ Some host → sim.model.clock host ≤ end
    pub from : (x : Event) → s.holds x → start ≤ x.key.due.nanos

  module _ (sim : Simulation H L) (start end : ℕ) (within : IsWithin sim.lookahead start end) where
    pub fire_known : (e : Event) (s : Scene H L) → IsSound sim start end s → MayFire sim.model end e s → Known sim s.hosts e (fires sim.model s.hosts e)
    fire_known e s sound may = known sim s.hosts e sound.count (sound.events e may.there) sound.hosts (λ host is. sound.own_clock e host may.there is)

    -- an event that is made, and fires elsewhere, is due at the end or later
    pub made_late : (e : Event) (s : Scene H L) → IsSound sim start end s → MayFire sim.model end e s → (x : Event) → IsIn x (fires sim.model s.hosts e).made
        → sim.model.home x ≢ sim.model.home e → end ≤ x.key.due.nanos
    made_late e s sound may x h other =
        within e.key.due.nanos x.key.due.nanos (sound.from e may.there) ((fire_known e s sound may).far x h other)

    module _ (e : Event) (s : Scene H L) (sound : IsSound sim start end s) (may : MayFire sim.model end e s) where
      k : Known sim s.hosts e (fires sim.model s.hosts e)
      k = fire_known e s sound may

      order : (x : Event) → s.holds x → sim.model.home x ≡ sim.model.home e → e.key.due.nanos ≤ x.key.due.nanos
      order x h same = due_from x.key e.key (may.first x h same)

      -- an event held after the firing was held, or was made
      one_after : (x y : Event) → (turned sim.model e s).holds x → (turned sim.model e s).holds y → x.key ≡ y.key → x ≡ y
      one_after x y (inl a) (inl b) same = sound.one x y a.0 b.0 same
      one_after x y (inl a) (inr b) same = absurd (made_anew sim s.hosts e (fire_known e s sound may) x y (sound.below x a.0) b same)
      one_after x y (inr a) (inl b) same = absurd (made_anew sim s.hosts e (fire_known e s sound may) y x (sound.below y b.0) a (sym same))
      one_after x y (inr a) (inr b) same =
          one_of_key (fires sim.model s.hosts e).made (numbered_apart _ _ _ (fire_known e s sound may).numbered) x y a b same

      below_after : (x : Event) → (turned sim.model e s).holds x → x.key.number < next_at sim.model (turned sim.model e s).hosts x.key.source.index
      below_after x (inl a) = below_kept sim s.hosts e (fire_known e s sound may) x (sound.below x a.0)
      below_after x (inr b) = below_made sim s.hosts e (fire_known e s sound may) x b

      events_after : (x : Event) → (turned sim.model e s).holds x → sim.IsEvent x
      events_after x (inl a) = sound.events x a.0
      events_after x (inr b) = (fire_known e s sound may).events x b

      clock_at_home : (x : Event) (host : H) → (turned sim.model e s).holds x → slice_get (turned sim.model e s).hosts (sim.model.home x) ≡ Some host
          → sim.model.home x ≡ sim.model.home e → sim.model.clock host ≤ x.key.due.nanos
      clock_at_home x host (inl a) is same =
          let kn = fire_known e s sound may in
          let now : kn.now ≡ host = some_is kn.now host (sym kn.now_at ∙ sym (ap (slice_get (turned sim.model e s).hosts) same) ∙ is) in
          let c : sim.model.clock host ≤ e.key.due.nanos = subst (λ (h : H). sim.model.clock h ≤ e.key.due.nanos) now kn.clock in
          let o = order x a.0 same in
          omega arith
      clock_at_home x host (inr b) is same =
          let kn = fire_known e s sound may in
          let now : kn.now ≡ host = some_is kn.now host (sym kn.now_at ∙ sym (ap (slice_get (turned sim.model e s).hosts) same) ∙ is) in
          let c : sim.model.clock host ≤ e.key.due.nanos = subst (λ (h : H). sim.model.clock h ≤ e.key.due.nanos) now kn.clock in
          let l = kn.later x b in
          omega arith

      clock_elsewhere : (x : Event) (host : H) → (turned sim.model e s).holds x → slice_get (turned sim.model e s).hosts (sim.model.home x) ≡ Some host
          → sim.model.home x ≢ sim.model.home e → sim.model.clock host ≤ x.key.due.nanos
      clock_elsewhere x host (inl a) is other = sound.own_clock x host a.0 (sym (fires_other sim.model s.hosts e (sim.model.home x) other) ∙ is)
      clock_elsewhere x host (inr b) is other =
          let c = sound.clocks e may.there may.due (sim.model.home x) host (sym (fires_other sim.model s.hosts e (sim.model.home x) other) ∙ is) in
          let l = made_late e s sound may x b other in
          omega arith

      from_after : (x : Event) → (turned sim.model e s).holds x → start ≤ x.key.due.nanos
      from_after x (inl a) = sound.from x a.0
      from_after x (inr b) = let l = (fire_known e s sound may).later x b in let f = sound.from e may.there in omega arith

      pub sound_turned : IsSound sim start end (turned sim.model e s)
      sound_turned = record {
        count = length_fires sim.model s.hosts e ∙ sound.count;
        one = one_after;
        below = below_after;
        events = events_after;
        hosts = hosts_kept sim s.hosts e (fire_known e s sound may) sim.IsHost (fire_known e s sound may).host sound.hosts;
        own_clock = λ x host h is. ⊎_elim (clock_at_home x host h is) (clock_elsewhere x host h is) (cases_eq (sim.model.home x) (sim.model.home e));
        clocks = λ x h due. hosts_kept sim s.hosts e (fire_known e s sound may) (λ i host. sim.model.clock host ≤ end)
            (let c = (fire_known e s sound may).clock in let d = may.due in omega arith)
            (sound.clocks e may.there may.due);
        from = from_after;
      }

    -- ---- two events that may fire

    -- at one home they are the same
    pub one_turn : (e f : Event) (s : Scene H L) → IsSound sim start end s → MayFire sim.model end e s → MayFire sim.model end f s → sim.model.home e ≡ sim.model.home f → e ≡ f
    one_turn e f s sound may other same =
        sound.one e f may.there other.there (same_place e.key f.key (other.first e may.there same) (may.first f other.there (sym same)))

    -- at two homes the one may fire after the other
    module _ (e f : Event) (s : Scene H L) (sound : IsSound sim start end s) (may : MayFire sim.model end e s) (other : MayFire sim.model end f s)
        (differ : sim.model.home e ≢ sim.model.home f) where
      keys_differ : e.key ≢ f.key
      keys_differ same = differ (ap sim.model.home (sound.one e f may.there other.there same))

      late_after : (x : Event) → end ≤ x.key.due.nanos → (b : Bool) → is_before x f ≡ b → is_before x f ≡ false
      late_after x late false is = is
      late_after x late true is = absurd (let d : x.key.due.nanos ≤ f.key.due.nanos = due_from f.key x.key (one_way x.key f.key is) in let u = other.due in omega arith)

      none_first : (x : Event) → (turned sim.model e s).holds x → sim.model.home x ≡ sim.model.home f → is_before x f ≡ false
      none_first x (inl a) same = other.first x a.0 same
      none_first x (inr b) same = late_after x (made_late e s sound may x b (λ here. differ (sym here ∙ same))) (is_before x f) refl

      pub still_may : MayFire sim.model end f (turned sim.model e s)
      still_may = record {
        there = inl (other.there, λ same. keys_differ (sym same));
        due = other.due;
        first = none_first;
      }

      -- what the one makes, the other doesn't change
      made_kept : (fires sim.model (turned sim.model e s).hosts f).made ≡ (fires sim.model s.hosts f).made
      made_kept = made_same sim.model (turned sim.model e s).hosts s.hosts f (fires_other sim.model s.hosts e (sim.model.home f) (λ same. differ (sym same)))

      lines_kept : (fires sim.model (turned sim.model e s).hosts f).lines ≡ (fires sim.model s.hosts f).lines
      lines_kept = lines_same sim.model (turned sim.model e s).hosts s.hosts f (fires_other sim.model s.hosts e (sim.model.home f) (λ same. differ (sym same)))

    module _ (e f : Event) (s : Scene H L) (sound : IsSound sim start end s) (may : MayFire sim.model end e s) (other : MayFire sim.model end f s)
        (differ : sim.model.home e ≢ sim.model.home f) where
      in_other_order : (x : Event) → (turned sim.model f (turned sim.model e s)).holds x → (turned sim.model e (turned sim.model f s)).holds x
      in_other_order x (inl (inl (old, not_e), not_f)) = inl (inl (old, not_f), not_e)
      in_other_order x (inl (inr made, not_f)) =
          inr (subst (IsIn x) (sym (made_kept f e s sound other may (λ same. differ (sym same)))) made)
      in_other_order x (inr made) =
          let here : IsIn x (fires sim.model s.hosts f).made = subst (IsIn x) (made_kept e f s sound may other differ) made in
          inl (inr here, λ same. made_anew sim s.hosts f (fire_known f s sound other) e x (sound.below e may.there) here (sym same))

    two_lines : (key other k : Key) (a b : List L) → key ≢ other → (t u : Bool) → same_key k key ≡ t → same_key k other ≡ u
        → (if t then a else []) ++ (if u then b else []) ≡ (if u then b else []) ++ (if t then a else [])
    two_lines key other k a b differ true true is is' = absurd (differ (sym (same_key_is k key is) ∙ same_key_is k other is'))
    two_lines key other k a b differ true false is is' = append-nil a
    two_lines key other k a b differ false true is is' = sym (append-nil b)
    two_lines key other k a b differ false false is is' = refl

    -- both orders lead to the same
    pub in_either_order : (e f : Event) (s : Scene H L) → IsSound sim start end s → MayFire sim.model end e s → MayFire sim.model end f s → sim.model.home e ≢ sim.model.home f
        → IsAlike (turned sim.model f (turned sim.model e s)) (turned sim.model e (turned sim.model f s))
    in_either_order e f s sound may other differ =
        let differ' : sim.model.home f ≢ sim.model.home e = λ same. differ (sym same) in
        let le : Key → List L = λ k. own_lines k e.key (fires sim.model s.hosts e).lines in
        let lf : Key → List L = λ k. own_lines k f.key (fires sim.model s.hosts f).lines in
        record {
          hosts = fires_either sim.model s.hosts e f differ;
          into = in_other_order e f s sound may other differ;
          back = in_other_order f e s sound other may differ';
          lines = λ k.
              ap (λ (ls : List L). (s.lines k ++ le k) ++ own_lines k f.key ls) (lines_kept e f s sound may other differ)
              ∙ append_assoc (s.lines k) (le k) (lf k)
              ∙ ap (λ (ls : List L). s.lines k ++ ls)
              (two_lines e.key f.key k (fires sim.model s.hosts e).lines (fires sim.model s.hosts f).lines (keys_differ e f s sound may other differ) (same_key k e.key) (same_key k f.key) refl refl)
              ∙ sym (append_assoc (s.lines k) (lf k) (le k))
              ∙ sym (ap (λ (ls : List L). (s.lines k ++ lf k) ++ own_lines k e.key ls) (lines_kept f e s sound other may differ'));
        }
