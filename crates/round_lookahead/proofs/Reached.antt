-- Worlds that a run comes to, round by round.
use Rattle.std.proofs.Common.{◌≡◌, ℕ, ◌-◌, ◌<◌, ◌≤◌, inl, inr, List, [], ◌∷◌, Option, Some, None, All, refl, sym, ap, subst, arith}
use Rattle.std.specs.Prelude.{flat_map}
use Rattle.std.specs.List.{Any}
use Rattle.std.proofs.lemmas.List.Sorted.{IsPermutation-sym, All-permutation}
use Rattle.sim_base.specs.declared.event.Event.{Event}
use Rattle.host_link.specs.Net.{Net}
use Rattle.host_state.specs.Extends.{Extends}
use Rattle.host_state.specs.Fits.{model}
use Rattle.host_state.specs.World.{IsResult}
use Rattle.world_order.specs.Window.{window_end}
use Rattle.world_order.specs.World as order
use Rattle.world_order.proofs.Members.{IsIn, IsIn_permutation, Each, Each_from_All}
use Rattle.world_order.proofs.Orders.{window_upto, run_goes_on}
use Rattle.world_order.proofs.Results.{at_least_one, over_result, settled_result}
use Rattle.world_order.proofs.Turns.{next-none}
use Rattle.round_lookahead.specs.declared.world.pieces.Pieces.{Pieces}
use Rattle.round_lookahead.specs.declared.world.world_state.World.{World}
use Rattle.round_lookahead.specs.Gains.{HasRound}
use Rattle.round_lookahead.specs.Reached.{HasReached, soonest, time_left}
use Rattle.round_lookahead.specs.Tasks.{waiting}
use Rattle.round_lookahead.specs.WorldStands.{HostWorld, nanos_of, HasRounds, IsAhead, IsBetweenRounds, WorldStands}
use Rattle.round_parts.proofs.DueSteps.{any_in}
use Rattle.round_lookahead.proofs.Extending.{result_extends}
use Rattle.round_lookahead.proofs.WorldSteps.{simulation, between_settled, settled_between}

-- ---- each round ends later

soonest_most : (stop : ℕ) (es : List Event) (e : Event) → IsIn e es → soonest stop es ≤ e.key.due.nanos
soonest_most stop [] e h = absurd h
soonest_most stop (x ∷ xs) e (inl same) = (let t : e.key.due.nanos ≡ x.key.due.nanos = ap (λ (y : Event). y.key.due.nanos) same in omega arith)
soonest_most stop (x ∷ xs) e (inr h) = (let r = soonest_most stop xs e h in omega arith)

soonest_least : (stop n : ℕ) (es : List Event) → n ≤ stop → Each (λ (e : Event). n ≤ e.key.due.nanos) es → n ≤ soonest stop es
soonest_least stop n [] within each = within
soonest_least stop n (x ∷ xs) within each = (let here = each x (inl refl) in let rest = soonest_least stop n xs within (λ e h. each e (inr h)) in omega arith)

end_later : (la : Option ℕ) (stop least : ℕ) → IsAhead la → least < stop → least < window_end la stop least
end_later None stop least ahead before = before
end_later (Some l) stop least ahead before = (let a : 0 < l = ahead in omega arith)

-- a world that is not finished has less left after a round
pub round_smaller : (w v : HostWorld) (c d : World) (workers : ℕ) (p : Pieces) → WorldStands c w → HasRound c d workers w v p → d.net ≡ c.net
    → Any (λ (e : Event). e.key.due.nanos < c.net.stop.nanos) (flat_map waiting c.tasks.items) → time_left d < time_left c
round_smaller w v c d workers p stands round same unfinished =
    let la : Option ℕ = nanos_of c.lookahead in
    let stop : ℕ = c.net.stop.nanos in
    let end : ℕ = window_end la stop round.turns.least in
    let first = any_in (λ (e : Event). e.key.due.nanos < c.net.stop.nanos) (flat_map waiting c.tasks.items) unfinished in
    let before : first.0.key.due.nanos < stop = first.2 in
    let from : round.turns.least ≤ first.0.key.due.nanos =
    Each_from_All (λ (e : Event). round.turns.least ≤ e.key.due.nanos) w.events round.turns.from first.0 (IsIn_permutation first.0 (flat_map waiting c.tasks.items) w.events stands.events first.1) in
    let some = any_in (λ (e : Event). e.key.due.nanos ≡ round.turns.least) w.events round.turns.due in
    let old : soonest stop (flat_map waiting c.tasks.items) ≤ some.0.key.due.nanos =
    soonest_most stop (flat_map waiting c.tasks.items) some.0 (IsIn_permutation some.0 w.events (flat_map waiting c.tasks.items) (IsPermutation-sym (flat_map waiting c.tasks.items) w.events stands.events) some.1) in
    let some_due = some.2 in
    let later : round.turns.least < end = end_later la stop round.turns.least stands.rounds.ahead (omega arith) in
    let upto : end ≤ stop = window_upto la stop round.turns.least in
    let new : end ≤ soonest stop (flat_map waiting d.tasks.items) =
    soonest_least stop end (flat_map waiting d.tasks.items) upto
    (λ e h. Each_from_All (λ (x : Event). end ≤ x.key.due.nanos) v.events round.turns.over e (IsIn_permutation e (flat_map waiting d.tasks.items) v.events round.turns.stands.events h)) in
    subst (λ (s : ℕ). s - soonest s (flat_map waiting d.tasks.items) < stop - soonest stop (flat_map waiting c.tasks.items)) (sym (ap (λ (n : Net). n.stop.nanos) same)) (omega arith)

-- ---- so far

-- before the first turn
pub reached_start : (net : Net) (start : HostWorld) → HasReached net start start
reached_start net start = record { time = 0; within = omega arith; turns = order.is_over start (next-none (model net) 0 start (λ e h. omega arith)) refl }

end_from : (la : Option ℕ) (stop least time : ℕ) → time ≤ stop → time ≤ least → time ≤ window_end la stop least
end_from None stop least time within from = within
end_from (Some l) stop least time within from = omega arith

-- a round leads on
pub reached_round : (start w v : HostWorld) (c d : World) (workers : ℕ) (p : Pieces) → HasReached c.net start w → HasRound c d workers w v p → HasReached c.net start v
reached_round start w v c d workers p reached round =
    let la : Option ℕ = nanos_of c.lookahead in
    let stop : ℕ = c.net.stop.nanos in
    let least : ℕ = round.turns.least in
    let end : ℕ = window_end la stop least in
    let some = any_in (λ (e : Event). e.key.due.nanos ≡ least) w.events round.turns.due in
    let over = over_result (model c.net) reached.time w start reached.turns some.0 some.1 in
    let due = some.2 in
    let from : reached.time ≤ least = omega arith in
    record {
      time = end;
      within = window_upto la stop least;
      turns = run_goes_on (model c.net) reached.time end w start v (end_from la stop least reached.time reached.within from) reached.turns round.turns.result;
    }

-- a result of what is reached is one of the start
reached_onward : (net : Net) (start w r : HostWorld) → HasReached net start w → IsResult net r w → IsResult net r start
reached_onward net start w r reached result = run_goes_on (model net) reached.time net.stop.nanos w start r reached.within reached.turns result

-- a world between rounds has a result, which is between rounds
pub result_between : (net : Net) (lookahead : Option ℕ) (w : HostWorld) → HasRounds net lookahead → IsBetweenRounds net w → (r : HostWorld) × IsResult net r w × IsBetweenRounds net r
result_between net lookahead w rounds between =
    let settled = between_settled net lookahead rounds w between in
    let found = at_least_one (simulation net lookahead rounds) net.stop.nanos w settled in
    (found.0, found.1, settled_between net lookahead rounds found.0 (settled_result (simulation net lookahead rounds) net.stop.nanos found.0 w settled found.1))

-- the start has a result, which extends the world that is reached
pub reached_result : (start w : HostWorld) (c : World) → WorldStands c w → HasReached c.net start w → (r : HostWorld) × IsResult c.net r start × Extends w r
reached_result start w c stands reached =
    let (r, result, between) = result_between c.net (nanos_of c.lookahead) w stands.rounds stands.between in
    (r, reached_onward c.net start w r reached result, result_extends c.net c.net.stop.nanos r w result)

-- a finished world is the result
pub reached_end : (start w : HostWorld) (c : World) → WorldStands c w → HasReached c.net start w
    → All (λ (e : Event). c.net.stop.nanos ≤ e.key.due.nanos) (flat_map waiting c.tasks.items) → IsResult c.net w start
reached_end start w c stands reached late =
    let stop : ℕ = c.net.stop.nanos in
    let all = All-permutation (λ (e : Event). stop ≤ e.key.due.nanos) (flat_map waiting c.tasks.items) w.events stands.events late in
    reached_onward c.net start w w reached (order.is_over w (next-none (model c.net) stop w (Each_from_All (λ (e : Event). stop ≤ e.key.due.nanos) w.events all)) refl)
