-- Firings one after another, each of an event that may fire: any such list goes on to the model's end.
use Rattle.std.proofs.Common.{◌≡◌, ◌≢◌, ℕ, ◌≤◌, ◌⊎◌, inl, inr, Bool, true, false, cond, List, [], ◌∷◌, ◌++◌, ◌==◌, refl, sym, ap, subst, ◌∙◌, arith, eqb-true}
use Rattle.std.proofs.lemmas.Bool.{cases_eq}
use Rattle.sim_base.specs.declared.event.Event.{Event}
use Rattle.world_order.specs.Model.{Model}
use Rattle.world_order.specs.Premises.{Simulation}
use Rattle.world_order.specs.Round.{events_at}
use Rattle.world_order.proofs.Scenes.{Scene, IsAlike, alike_sym, alike_trans, MayFire, turned, may_alike, turned_alike, IsSound, IsWithin, sound_turned, one_turn, still_may, in_either_order}

module _ {H L : Type 0} where
  -- these events fire one after another, and lead to a scene
  pub data Runs (m : Model H L) (end : ℕ) (r : Scene H L) : List Event → Scene H L → Type 1 where
    rests : (s : Scene H L) → IsAlike s r → Runs m end r [] s
    turns : (s : Scene H L) (e : Event) (es : List Event) → MayFire m end e s → Runs m end r es (turned m e s) → Runs m end r (e ∷ es) s

  pub runs_alike : (m : Model H L) (end : ℕ) (r : Scene H L) (es : List Event) (s t : Scene H L) → IsAlike s t → Runs m end r es s → Runs m end r es t
  runs_alike m end r es s t a (rests s' b) = rests t (alike_trans t s r (alike_sym s t a) b)
  runs_alike m end r es s t a (turns s' e more may rest) =
      turns t e more (may_alike m end e s t a may) (runs_alike m end r more (turned m e s) (turned m e t) (turned_alike m e s t a) rest)

  -- no event is due before the end
  abbrev pub IsOver : ℕ → Scene H L → Type 0
  IsOver end s = (x : Event) → s.holds x → end ≤ x.key.due.nanos

-- ---- what fires at one home

module _ {H L : Type 0} (m : Model H L) (h : ℕ) where
  at_by : (e : Event) (es fs : List Event) (b : Bool) → events_at m h es ≡ events_at m h fs → cond b (e ∷ events_at m h es) (events_at m h es) ≡ cond b (e ∷ events_at m h fs) (events_at m h fs)
  at_by e es fs b same = ap (λ (l : List Event). cond b (e ∷ l) l) same

  pub at_cons : (e : Event) (es fs : List Event) → events_at m h es ≡ events_at m h fs → events_at m h (e ∷ es) ≡ events_at m h (e ∷ fs)
  at_cons e es fs same = at_by e es fs (m.home e == h) same

  swap_by : (e f : Event) (es : List Event) (b c : Bool) → (b ≡ true → c ≡ true → ⊥)
      → cond b (e ∷ cond c (f ∷ events_at m h es) (events_at m h es)) (cond c (f ∷ events_at m h es) (events_at m h es))
      ≡ cond c (f ∷ cond b (e ∷ events_at m h es) (events_at m h es)) (cond b (e ∷ events_at m h es) (events_at m h es))
  swap_by e f es true true differ = absurd (differ refl refl)
  swap_by e f es true false differ = refl
  swap_by e f es false true differ = refl
  swap_by e f es false false differ = refl

  pub at_swap : (e f : Event) (es : List Event) → m.home e ≢ m.home f → events_at m h (e ∷ f ∷ es) ≡ events_at m h (f ∷ e ∷ es)
  at_swap e f es differ =
      swap_by e f es (m.home e == h) (m.home f == h) (λ b c. differ (eqb-true (m.home e) h b ∙ sym (eqb-true (m.home f) h c)))

module _ {H L : Type 0} (sim : Simulation H L) (start end : ℕ) (within : IsWithin sim.lookahead start end) where
  -- an event that may fire may as well fire first
  pub turn_first : (r : Scene H L) (es : List Event) (s : Scene H L) (e : Event) → IsOver end r → IsSound sim start end s → MayFire sim.model end e s → Runs sim.model end r es s
      → (rest : List Event) × Runs sim.model end r rest (turned sim.model e s) × ((h : ℕ) → events_at sim.model h es ≡ events_at sim.model h (e ∷ rest))
  turn_first r es s e over sound may (rests s' a) =
      absurd (let late : end ≤ e.key.due.nanos = over e (a.into e may.there) in let due = may.due in omega arith)
  turn_first r es s e over sound may (turns s' f more other rest) =
      by_home (λ (first : MayFire sim.model end e (turned sim.model f s)). turn_first r more (turned sim.model f s) e over (sound_turned sim start end within f s sound other) first rest) (cases_eq (sim.model.home e) (sim.model.home f))
    where
      by_home : (MayFire sim.model end e (turned sim.model f s)
          → (rest : List Event) × Runs sim.model end r rest (turned sim.model e (turned sim.model f s)) × ((h : ℕ) → events_at sim.model h more ≡ events_at sim.model h (e ∷ rest)))
          → (sim.model.home e ≡ sim.model.home f) ⊎ (sim.model.home e ≢ sim.model.home f)
          → (rest : List Event) × Runs sim.model end r rest (turned sim.model e s) × ((h : ℕ) → events_at sim.model h (f ∷ more) ≡ events_at sim.model h (e ∷ rest))
      by_home later (inl same) =
          let is : f ≡ e = sym (one_turn sim start end within e f s sound may other same) in
          (more, subst (λ (x : Event). Runs sim.model end r more (turned sim.model x s)) is rest, λ h. ap (λ (x : Event). events_at sim.model h (x ∷ more)) is)
      by_home later (inr differ) =
          let differ' : sim.model.home f ≢ sim.model.home e = λ same. differ (sym same) in
          let found = later (still_may sim start end within f e s sound other may differ') in
          let back : Runs sim.model end r found.0 (turned sim.model f (turned sim.model e s)) =
          runs_alike sim.model end r found.0 (turned sim.model e (turned sim.model f s)) (turned sim.model f (turned sim.model e s))
          (in_either_order sim start end within f e s sound other may differ') found.1 in (
            f ∷ found.0,
            turns (turned sim.model e s) f found.0 (still_may sim start end within e f s sound may other differ) back,
            λ h. at_cons sim.model h f more (e ∷ found.0) (found.2 h) ∙ at_swap sim.model h f e found.0 differ',
          )

  -- and so may any list of events, each of which may fire in its turn
  pub run_first : (r t : Scene H L) (es fs : List Event) (s : Scene H L) → IsOver end r → IsSound sim start end s → Runs sim.model end t fs s → Runs sim.model end r es s
      → (rest : List Event) × Runs sim.model end r rest t × ((h : ℕ) → events_at sim.model h es ≡ events_at sim.model h (fs ++ rest))
  run_first r t es fs s over sound (rests s' a) whole = (es, runs_alike sim.model end r es s t a whole, λ h. refl)
  run_first r t es fs s over sound (turns s' f more may rest) whole =
      let first = turn_first r es s f over sound may whole in
      let later = run_first r t first.0 more (turned sim.model f s) over (sound_turned sim start end within f s sound may) rest first.1 in
      (later.0, later.1, λ h. first.2 h ∙ at_cons sim.model h f first.0 (more ++ later.0) (later.2 h))

  -- one that is over has fired all
  pub over_rest : (r t : Scene H L) (rest : List Event) → IsOver end t → Runs sim.model end r rest t → IsAlike t r
  over_rest r t rest over (rests s a) = a
  over_rest r t rest over (turns s e more may later) =
      absurd (let late : end ≤ e.key.due.nanos = over e may.there in let due = may.due in omega arith)

  pub same_end : (r t : Scene H L) (es fs : List Event) (s : Scene H L) → IsOver end r → IsOver end t → IsSound sim start end s → Runs sim.model end t fs s → Runs sim.model end r es s → IsAlike t r
  same_end r t es fs s over over' sound run whole =
      let found = run_first r t es fs s over sound run whole in
      over_rest r t found.0 over' found.1
