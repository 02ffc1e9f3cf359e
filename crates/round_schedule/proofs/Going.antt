-- Steps one after another.
use Rattle.std.specs.Prelude.{Result, OnOk}
use Rattle.std.proofs.Common.{◌≡◌, ℕ, zero, suc, ◌+◌, ◌<◌, ◌≤◌, Ok, Err, length, drop, get_or, arith, List, [], ◌∷◌, ◌++◌, Option, Some, None, option_map, option_and_then, refl, sym, ap, subst, ◌∙◌}
use Rattle.host_link.specs.declared.line.Line.{Line}
use Rattle.host_link.specs.Net.{Net}
use Rattle.host_state.specs.Fits.{model}
use Rattle.host_state.specs.HostRecord.{HostRecord}
use Rattle.world_order.specs.Round as order
use Rattle.world_order.specs.Schedule.{after_all}
use Rattle.world_order.specs.Steps.{after, after_step}
use Rattle.world_order.specs.World.{World}
use Rattle.world_order.specs.declared.round_window.Window.{Window}
use Rattle.world_order.specs.declared.step.Step.{Step}
use Rattle.world_order.proofs.Homes.{some_is}
use Rattle.world_order.proofs.Jobs.{after_all_append}
use Rattle.world_order.proofs.Parts.{from_then}
use Rattle.round_schedule.specs.Reaching.{State, Going, IsReached, MayGo, Goes, May, Does, round_on}
use Rattle.round_schedule.specs.Standing.{GoingStands, RoundStands}
use Rattle.round_schedule.specs.declared.round.Round.{Round}

-- ---- the first of several steps, and those that follow

first_then : (net : Net) (step : Step) (steps : List Step) (s t : State) → after_all (model net) (step ∷ steps) s ≡ Some t
    → (u : State) × (after (model net) step s ≡ Some u) × (after_all (model net) steps u ≡ Some t)
unfolding after_all
first_then net step steps s t is = from_then (after (model net) step s) (after_all (model net) steps) t is

one_step : (net : Net) (step : Step) (s t : State) → after (model net) step s ≡ Some t → after_all (model net) (step ∷ []) s ≡ Some t
unfolding after_all
one_step net step s t is = ap (option_and_then (after_all (model net) [])) is

one_only : (net : Net) (step : Step) (s t : State) → after_all (model net) (step ∷ []) s ≡ Some t → after (model net) step s ≡ Some t
unfolding after_all
one_only net step s t is =
    let a = from_then (after (model net) step s) (after_all (model net) []) t is in
    a.1 ∙ a.2

then_all : (net : Net) (step : Step) (steps : List Step) (s u t : State) → after (model net) step s ≡ Some u → after_all (model net) steps u ≡ Some t → after_all (model net) (step ∷ steps) s ≡ Some t
unfolding after_all
then_all net step steps s u t first rest = ap (option_and_then (after_all (model net) steps)) first ∙ rest

no_steps : (net : Net) (s t : State) → after_all (model net) [] s ≡ Some t → s ≡ t
unfolding after_all
no_steps net s t is = some_is s t is

-- where one more step leads is reached too
pub reached-more : (net : Net) (window : Window) (w : World HostRecord Line) (s t : State) (step : Step) → IsReached net window w s → after (model net) step s ≡ Some t → IsReached net window w t
reached-more net window w s t step reached is = record {
  opened = reached.opened;
  workers = reached.workers;
  steps = reached.steps ++ step ∷ [];
  leads = after_all_append (model net) reached.steps (step ∷ []) (round_on net window reached.workers w) s reached.leads ∙ one_step net step s t is;
}

-- ---- one step

closed_none : (net : Net) (step : Step) (v : World HostRecord Line) (t : State) → after (model net) step (order.Closed v) ≡ Some t → ⊥
unfolding after
closed_none net step v t is = (let e : None ≡ Some t = is in cc)

going_step : (net : Net) (step : Step) (r : Going) (t : State) → after (model net) step (order.Going r) ≡ Some t → after_step (model net) step r ≡ Some t
unfolding after
going_step net step r t is = is

may_by : (net : Net) (step : Step) (c : Round) (w : World HostRecord Line) (s t : State) → RoundStands net w c s → IsReached net c.window w s → after (model net) step s ≡ Some t → May net (after_step (model net) step) c
may_by net step c w (order.Going r) t stands reached is = record {
  world = w;
  round = r;
  next = t;
  stands = stands;
  leads = going_step net step r t is;
  reached = reached;
  reaches = reached-more net c.window w (order.Going r) t step reached is;
}
may_by net step c w (order.Closed v) t stands reached is = absurd (closed_none net step v t is)

-- the step may be taken
pub may_step : (net : Net) (step : Step) (c : Round) → MayGo net (step ∷ []) c → May net (after_step (model net) step) c
may_step net step c may = may_by net step c may.world may.state may.last may.stands may.reached (one_only net step may.state may.last may.leads)

goes_by : (net : Net) (step : Step) (c d : Round) (w : World HostRecord Line) (s t : State) → Does net (after_step (model net) step) c d → RoundStands net w c s → after (model net) step s ≡ Some t → RoundStands net w d t
goes_by net step c d w (order.Going r) t does stands is = does.stands w r t stands (going_step net step r t is)
goes_by net step c d w (order.Closed v) t does stands is = absurd (closed_none net step v t is)

-- the step was taken
pub step_goes : (net : Net) (step : Step) (c d : Round) → Does net (after_step (model net) step) c d → Goes net (step ∷ []) c d
step_goes net step c d does w s t stands is = goes_by net step c d w s t does stands (one_only net step s t is)

-- ---- several steps

-- the steps that are left may be taken, and whatever state the first round stood for, they lead on from one that the round stands for
pub record IsOnWay (net : Net) (steps left : List Step) (first c : Round) : Type 0 where
  pub may : MayGo net left c
  pub window : c.window ≡ first.window
  pub stands : (w : World HostRecord Line) (s t : State) → RoundStands net w first s → after_all (model net) steps s ≡ Some t
      → (u : State) × RoundStands net w c u × (after_all (model net) left u ≡ Some t)

pub on_way_start : (net : Net) (steps : List Step) (c : Round) → MayGo net steps c → IsOnWay net steps steps c c
on_way_start net steps c may = record { may = may; window = refl; stands = λ w s t stands is. (s, stands, is) }

module _ (net : Net) (steps : List Step) (first c d : Round) (step : Step) (rest : List Step) (way : IsOnWay net steps (step ∷ rest) first c) where
  next : (u : State) × (after (model net) step way.may.state ≡ Some u) × (after_all (model net) rest u ≡ Some way.may.last)
  next = first_then net step rest way.may.state way.may.last way.may.leads

  pub may_next : MayGo net (step ∷ []) c
  may_next = record {
    world = way.may.world;
    state = way.may.state;
    stands = way.may.stands;
    reached = way.may.reached;
    last = next.0;
    leads = one_step net step way.may.state next.0 next.1;
  }

  pub on_way_next : Goes net (step ∷ []) c d → d.window ≡ c.window → IsOnWay net steps rest first d
  on_way_next goes window = record {
    may = record {
      world = way.may.world;
      state = next.0;
      stands = goes way.may.world way.may.state next.0 way.may.stands (one_step net step way.may.state next.0 next.1);
      reached = subst (λ (v : Window). IsReached net v way.may.world next.0) (sym window) (reached-more net c.window way.may.world way.may.state next.0 step way.may.reached next.1);
      last = way.may.last;
      leads = next.2;
    };
    window = window ∙ way.window;
    stands = λ w s t stands is.
        let (u, here, leads) = way.stands w s t stands is in
        let a = first_then net step rest u t leads in
        (a.0, goes w u a.0 here (one_step net step u a.0 a.1), a.2);
  }

pub on_way_end : (net : Net) (steps : List Step) (first c : Round) → IsOnWay net steps [] first c → Goes net steps first c
on_way_end net steps first c way w s t stands is =
    let (u, here, leads) = way.stands w s t stands is in
    subst (RoundStands net w c) (no_steps net u t leads) here

-- ---- a list of steps, one after another

left_at : (steps : List Step) (i : ℕ) (d : Step) → i < length steps → drop i steps ≡ get_or steps i d ∷ drop (suc i) steps
left_at [] i d below = absurd (omega arith)
left_at (s ∷ steps) zero d below = refl
left_at (s ∷ steps) (suc i) d below = left_at steps i d (omega arith)

pub steps_left : (steps : List Step) (i : ℕ) (d : Step) → i < length steps → drop i steps ≡ get_or steps i d ∷ drop (i + 1) steps
steps_left steps i d below = left_at steps i d below ∙ ap (λ (j : ℕ). get_or steps i d ∷ drop j steps) (let e : suc i ≡ i + 1 = omega arith in e)

pub no_steps_left : (steps : List Step) (i : ℕ) → length steps ≤ i → drop i steps ≡ []
no_steps_left [] zero all = refl
no_steps_left [] (suc i) all = refl
no_steps_left (s ∷ steps) zero all = absurd (omega arith)
no_steps_left (s ∷ steps) (suc i) all = no_steps_left steps i (omega arith)

-- what a call gives where it answers Ok
pub on_ok : {T E : Type 0} (r : Result T E) (P Q : Type 0) → (P → Q) → OnOk r P → OnOk r Q
on_ok (Ok x) P Q f h = f h
on_ok (Err e) P Q f h = tt
