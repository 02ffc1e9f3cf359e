use Rattle.std.proofs.Common.{◌≡◌, ◌<◌, List, length, map, get_or, false, refl, sym, ap, ◌∙◌, subst, arith}
use Rattle.steal_workers.specs.declared.share.Share.{Share}
use Rattle.steal_workers.specs.declared.seat.Seat.TheInside.{Inside}
use Rattle.steal_workers.specs.inside.Shares.{is_marked, AllMarked}
use Rattle.steal_workers.proofs.ShareLists.{moves_length}
use Rattle.steal_workers.proofs.SeatSteps.{sound_after, same_after, numbers_after, place_within, numbers_once, answers_task, answers_empty, answers_lost}
use Rattle.steal_workers.proofs.seat.Seat.next.Goals as goal
use Rattle.steal_workers.proofs.seat.Seat.next.Goals.{in-Some-unmarked, in-None-unmarked}

pub invariant_of-self : goal.invariant_of-self
invariant_of-self g c =
    let t : Inside g.row.T.Denot = record { place = c.self.inside.place; dealt = c.self.inside.dealt; shares = c.find_among.new.shares; trail = c.then.new.self; tasks = c.self.inside.tasks } in
    sound_after c.self.inside t c.self.invariant c.find_among.ensures.same refl refl refl
    (numbers_after c.self.inside.trail c.then.new.self c.in-Some.number _ _ c.self.invariant.numbers c.then.ensures c.in-Some.ensures.found.taken)

pub invariant_of-self-in-None : goal.invariant_of-self-in-None
invariant_of-self-in-None g c =
    let t : Inside g.row.T.Denot = record { place = c.self.inside.place; dealt = c.self.inside.dealt; shares = c.find_among.new.shares; trail = c.self.inside.trail; tasks = c.self.inside.tasks } in
    sound_after c.self.inside t c.self.invariant c.find_among.ensures.same refl refl refl (λ h. c.self.invariant.numbers h ∙ sym (c.in-None.ensures.found h))

pub returns-in-Some-clause-same : goal.returns-in-Some-clause-same
returns-in-Some-clause-same g c =
    let t : Inside g.row.T.Denot = record { place = c.self.inside.place; dealt = c.self.inside.dealt; shares = c.find_among.new.shares; trail = c.then.new.self; tasks = c.self.inside.tasks } in
    rw (← c.self.view_is) (same_after c.self.inside t c.find_among.ensures.same refl refl)

pub returns-in-Some-clause-answer : goal.returns-in-Some-clause-answer
returns-in-Some-clause-answer g c =
    let t : Inside g.row.T.Denot = record { place = c.self.inside.place; dealt = c.self.inside.dealt; shares = c.find_among.new.shares; trail = c.then.new.self; tasks = c.self.inside.tasks } in
    rw (← c.self.view_is) (answers_task c.self.inside t c.in-Some.number c.in-Some.task c.self.invariant c.in-Some.ensures.found c.then.ensures)

pub returns-in-Some-clause-place : goal.returns-in-Some-clause-place
returns-in-Some-clause-place g c =
    let t : Inside g.row.T.Denot = record { place = c.self.inside.place; dealt = c.self.inside.dealt; shares = c.find_among.new.shares; trail = c.then.new.self; tasks = c.self.inside.tasks } in
    place_within t (invariant_of-self g c)

pub returns-in-Some-clause-once : goal.returns-in-Some-clause-once
returns-in-Some-clause-once g c =
    let t : Inside g.row.T.Denot = record { place = c.self.inside.place; dealt = c.self.inside.dealt; shares = c.find_among.new.shares; trail = c.then.new.self; tasks = c.self.inside.tasks } in
    numbers_once t (invariant_of-self g c)

pub overflow_cast-result : goal.overflow_cast-result
overflow_cast-result g c =
    let few = c.self.invariant.few in
    let long = moves_length _ _ c.find_among.ensures.same ∙ refl in
    let read = ap length c.as_slice.ensures.value in
    let within = c.in-Some-unmarked.ensures.0 in
    omega arith

pub returns-after-unmarked-clause-same : goal.returns-after-unmarked-clause-same
returns-after-unmarked-clause-same g c =
    let t : Inside g.row.T.Denot = record { place = c.self.inside.place; dealt = c.self.inside.dealt; shares = c.find_among.new.shares; trail = c.self.inside.trail; tasks = c.self.inside.tasks } in
    rw (← c.self.view_is) (same_after c.self.inside t c.find_among.ensures.same refl refl)

pub returns-after-unmarked-clause-answer : goal.returns-after-unmarked-clause-answer
returns-after-unmarked-clause-answer g c =
    let t : Inside g.row.T.Denot = record { place = c.self.inside.place; dealt = c.self.inside.dealt; shares = c.find_among.new.shares; trail = c.self.inside.trail; tasks = c.self.inside.tasks } in
    let read = c.as_slice.ensures.value in
    let long : length c.find_among.new.shares.items ≡ length c.self.inside.shares.items = moves_length _ _ c.find_among.ensures.same in
    let place = c.self.invariant.place in
    let within : t.place < length t.shares.items = omega arith in
    rw (← c.self.view_is) (elim c.match-unmarked.branch [
      | in-Some-unmarked w ↦ rw w.result-is (answers_lost c.self.inside t w.in-Some-unmarked.deque within refl c.in-None.ensures.marked
          (subst (λ (l : List (Share g.row.T.Denot)). (w.in-Some-unmarked.deque < length l) × (get_or (map is_marked l) w.in-Some-unmarked.deque false ≡ false)) read w.in-Some-unmarked.ensures))
      | in-None-unmarked w ↦ rw w.result-is (answers_empty c.self.inside t refl (subst AllMarked read w.in-None-unmarked.ensures))
    ])

pub returns-after-unmarked-clause-place : goal.returns-after-unmarked-clause-place
returns-after-unmarked-clause-place g c =
    let t : Inside g.row.T.Denot = record { place = c.self.inside.place; dealt = c.self.inside.dealt; shares = c.find_among.new.shares; trail = c.self.inside.trail; tasks = c.self.inside.tasks } in
    place_within t (invariant_of-self-in-None g c)

pub returns-after-unmarked-clause-once : goal.returns-after-unmarked-clause-once
returns-after-unmarked-clause-once g c =
    let t : Inside g.row.T.Denot = record { place = c.self.inside.place; dealt = c.self.inside.dealt; shares = c.find_among.new.shares; trail = c.self.inside.trail; tasks = c.self.inside.tasks } in
    numbers_once t (invariant_of-self-in-None g c)
