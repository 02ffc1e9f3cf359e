use Rattle.std.proofs.Common.{◌≡◌, ◌+◌, ◌<◌, ◌≤◌, ℕ, [], ◌∷◌, ◌++◌, length, get_or, ap, sym, ◌∙◌, subst, length-append, arith}
use Rattle.std.proofs.lemmas.List.{get_or-map, length-map}
use Rattle.std.proofs.Math.Seq.{map-set_same}
use Rattle.steal_workers.specs.declared.share.Share.{Share}
use Rattle.steal_workers.specs.declared.seat.Stack.{Stack}
use Rattle.list_weights.specs.Places.{EachAt}
use Rattle.list_weights.specs.Weights.{weigh}
use Rattle.steal_workers.specs.Deals.{Deal}
use Rattle.steal_workers.specs.WholeDeals.{common_deal}
use Rattle.steal_workers.specs.Gathers.{IsStack, IsShareAt, AreOwnMarked, places, share_taken}
use Rattle.list_weights.proofs.Places.{EachAt_push}
use Rattle.list_weights.proofs.Weights.{weigh_append}
use Rattle.steal_workers.proofs.DeckSteps.{each_at_set}
use Rattle.steal_workers.proofs.GatherSteps.{stack_front, stack_top, all_taken_less}
use Rattle.steal_workers.proofs.gathering.pop_each.Goals as goal

pub loop-seat-preserved : goal.loop-seat-preserved
loop-seat-preserved g c =
    let T = g.row.T.Denot in
    let inv = c.loop-seat.invariant in
    let P = AreOwnMarked c.args._seats.now.value.items in
    let deal : Deal T = common_deal c.args._seats.now.value.items in
    let d = c.args._deque in
    let stacks = c.loop-seat.stacks in
    let s = c.loop-seat.seat in
    let e = c.index-stacks-seat.result in
    let old : Stack T = get_or stacks s e in
    let new : Stack T = c.pop-share.new.stack in
    let share : Share T = c.pop-share.result in
    let popped : old.shares.items ≡ new.shares.items ++ share ∷ [] = c.pop-share.ensures.0 in
    let place : new.place ≡ old.place = c.pop-share.ensures.1 in
    let wide : length stacks ≡ length c.args.stacks.now = sym (length-map stacks (λ (k : Stack T). k.place)) ∙ ap length inv.same_places ∙ length-map c.args.stacks.now (λ (k : Stack T). k.place) in
    let within : s < length stacks = (let t = c.loop-seat-test.true in omega arith) in
    let whole : IsStack P deal (d + 1) old = (inv.stacks s e within).1 (omega arith) in
    let count = inv.count in
    let F : ℕ → Stack T → Type 0 = λ j stack. (j < s + 1 → IsStack P deal d stack) × (s + 1 ≤ j → IsStack P deal (d + 1) stack) in
    let G : ℕ → Share T → Type 0 = λ j top. IsShareAt P deal d (get_or (places c.args.stacks.now) j 0) top in
    let named : old.place ≡ get_or (places c.args.stacks.now) (length c.loop-seat.column.items) 0 =
    sym (get_or-map (λ (k : Stack T). k.place) stacks s e 0 within) ∙ (λ i. get_or (inv.same_places i) (sym count i) 0) in
    record {
      same_places = map-set_same (λ (k : Stack T). k.place) stacks s new e place ∙ inv.same_places;
      stacks = each_at_set F stacks s new ((λ less. stack_front P deal d old new share whole popped place), λ more. absurd (omega arith))
          (λ j k ne w. let t = inv.stacks j k w in ((λ less. t.0 (omega arith)), λ more. t.1 (omega arith)));
      count = ap length c.push_reserved.ensures.items ∙ (let l = length-append c.loop-seat.column.items (share ∷ []) in omega arith);
      tops = subst (EachAt G) (sym c.push_reserved.ensures.items)
          (EachAt_push G c.loop-seat.column.items share inv.tops (subst (λ (n : ℕ). IsShareAt P deal d n share) named (stack_top P deal d old new share whole popped)));
      taken = λ h.
          let before = inv.taken h in
          let less = all_taken_less h stacks s e new share within popped in
          let joins : weigh (share_taken h) c.push_reserved.new.self.items ≡ weigh (share_taken h) (c.loop-seat.column.items ++ share ∷ []) = ap (weigh (share_taken h)) c.push_reserved.ensures.items in
          omega (arith, weigh_append (share_taken h) c.loop-seat.column.items (share ∷ []));
      capacity = c.push_reserved.ensures.capacity ∙ inv.capacity;
    }

pub returns-clause-popped : goal.returns-clause-popped
returns-clause-popped g c =
    let inv = c.loop-seat.invariant in
    let T = g.row.T.Denot in
    let wide : length c.loop-seat.stacks ≡ length c.args.stacks.now = sym (length-map c.loop-seat.stacks (λ (k : Stack T). k.place)) ∙ ap length inv.same_places ∙ length-map c.args.stacks.now (λ (k : Stack T). k.place) in
    let at_end : c.loop-seat.seat ≡ length c.args.stacks.now = (let t = c.loop-seat-test.false in let e = c.loop-seat.auto.seat-end in omega arith) in
    record {
      same_places = inv.same_places;
      stacks = λ k e w. (inv.stacks k e w).0 (omega arith);
      count = inv.count ∙ at_end;
      tops = inv.tops;
      taken = inv.taken;
    }
