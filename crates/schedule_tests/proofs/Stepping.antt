-- Steps one by one, and the same steps at once.
use Rattle.std.proofs.Common.{◌≡◌, true, false, List, [], ◌∷◌, Option, Some, None, is_some, refl, sym, ap, subst, ◌∙◌}
use Rattle.host_link.specs.declared.line.Line.{Line}
use Rattle.host_link.specs.Net.{Net}
use Rattle.host_state.specs.Fits.{model}
use Rattle.host_state.specs.HostRecord.{HostRecord}
use Rattle.round_schedule.specs.Reaching.{State, Goes, IsReached, MayGo}
use Rattle.round_schedule.specs.Standing.{RoundStands}
use Rattle.round_schedule.specs.declared.round.Round.{Round}
use Rattle.round_schedule.proofs.Going.{reached-more}
use Rattle.run_plan.specs.declared.planned.Run.{Run}
use Rattle.plan_rows.specs.Rows.{net_of}
use Rattle.world_order.specs.Schedule.{after_all}
use Rattle.world_order.specs.Steps.{after, is_allowed}
use Rattle.world_order.specs.World.{World}
use Rattle.world_order.specs.declared.round_window.Window.{Window}
use Rattle.world_order.specs.declared.step.Step.{Step}
use Rattle.world_order.proofs.Jobs.{after_all_cons}
use Rattle.schedule_tests.specs.inside.Played.{AreAllowed, MayTake, HasBegun, first_state, first_world}

no_more : (net : Net) (s : State) → after_all (model net) [] s ≡ Some s
unfolding after_all
no_more net s = refl

-- ---- a round that has begun

module _ (run : Run) (round : Round) (net : Net) (begun : HasBegun run round net) where
  reached : IsReached (net_of run) round.window (first_world run) (first_state run)
  reached = subst (λ (v : Window). IsReached (net_of run) v (first_world run) (first_state run)) (sym begun.window)
      (record { opened = begun.may; workers = 2; steps = []; leads = no_more (net_of run) (first_state run) })

  go_on : (steps : List Step) → AreAllowed (net_of run) steps (first_state run) → MayGo (net_of run) steps round
  go_on steps (t, leads) = record { world = first_world run; state = first_state run; stands = begun.stands; reached = reached; last = t; leads = leads }

  -- steps that are allowed there may be taken
  pub may_go : (steps : List Step) → AreAllowed (net_of run) steps (first_state run) → MayGo net steps round
  may_go steps allowed = subst (λ (n : Net). MayGo n steps round) (sym begun.is_net) (go_on steps allowed)

  pub may_begin : MayGo net [] round
  may_begin = may_go [] (first_state run, no_more (net_of run) (first_state run))

  -- what may be taken from it is allowed from the first state
  pub allowed_first : (steps : List Step) → MayTake net steps round → AreAllowed (net_of run) steps (first_state run)
  allowed_first steps may = subst (λ (n : Net). MayTake n steps round) begun.is_net may (first_world run) (first_state run) begun.stands

-- ---- one by one

-- the first round's states lead, by the steps that were taken, to those of the round now, from which steps may go on
pub record HasPlayed (net : Net) (steps left : List Step) (first round : Round) : Type 0 where
  pub may : MayGo net [] round
  pub stands : (w : World HostRecord Line) (s : State) → RoundStands net w first s
      → (u : State) × RoundStands net w round u × ((t : State) → after_all (model net) left u ≡ Some t → after_all (model net) steps s ≡ Some t)

pub played_start : (net : Net) (steps left : List Step) (first : Round) → left ≡ steps → MayGo net [] first → HasPlayed net steps left first first
played_start net steps left first is may = record {
  may = may;
  stands = λ w s stands. (s, stands, (λ t leads. ap (λ (l : List Step). after_all (model net) l s) (sym is) ∙ leads));
}

some_of : {X : Type 0} (o : Option X) → is_some o ≡ true → (x : X) × (o ≡ Some x)
some_of None is = absurd (let e : false ≡ true = is in cc)
some_of (Some x) is = (x, refl)

one_only : (net : Net) (step : Step) (s t : State) → after (model net) step s ≡ Some t → after_all (model net) (step ∷ []) s ≡ Some t
one_only net step s t is = after_all_cons (model net) step [] s t is ∙ no_more net t

module _ (net : Net) (round : Round) (step : Step) (allowed : (w : World HostRecord Line) (s : State) → RoundStands net w round s → true ≡ is_allowed (model net) step s) where
  next_of : (w : World HostRecord Line) (s : State) → RoundStands net w round s → (t : State) × (after (model net) step s ≡ Some t)
  next_of w s stands = some_of (after (model net) step s) (sym (allowed w s stands))

  -- a step that is allowed may be taken
  pub may_step : MayGo net [] round → MayGo net (step ∷ []) round
  may_step may =
      let (t, is) = next_of may.world may.state may.stands in
      record { world = may.world; state = may.state; stands = may.stands; reached = may.reached; last = t; leads = one_only net step may.state t is }

  module _ (steps left rest : List Step) (first new : Round) (left_is : left ≡ step ∷ rest) (played : HasPlayed net steps left first round) (goes : Goes net (step ∷ []) round new)
      (window : new.window ≡ round.window) where
    on : MayGo net [] new
    on =
        let may = played.may in
        let (t, is) = next_of may.world may.state may.stands in
        record {
          world = may.world;
          state = t;
          stands = goes may.world may.state t may.stands (one_only net step may.state t is);
          reached = subst (λ (v : Window). IsReached net v may.world t) (sym window) (reached-more net round.window may.world may.state t step may.reached is);
          last = t;
          leads = no_more net t;
        }

    pub played_next : HasPlayed net steps rest first new
    played_next = record {
      may = on;
      stands = λ w s stands.
          (let (u, here, leads) = played.stands w s stands in
          let (v, is) = next_of w u here in (
            v,
            goes w u v here (one_only net step u v is),
            (λ t further. leads t (ap (λ (l : List Step). after_all (model net) l u) left_is ∙ after_all_cons (model net) step rest u v is ∙ further)),
          ));
    }

-- all steps were taken
pub played_end : (net : Net) (steps left : List Step) (first round : Round) → left ≡ [] → HasPlayed net steps left first round → MayTake net steps first
played_end net steps left first round none played w s stands =
    let (u, here, leads) = played.stands w s stands in
    (u, leads u (ap (λ (l : List Step). after_all (model net) l u) none ∙ no_more net u))
