use Rattle.std.proofs.Common.{◌≡◌, ◌+◌, ◌<◌, true, false, List, [], ◌∷◌, ◌++◌, Some, length, get_or, refl, ap, sym, ◌∙◌, subst, length-append, arith}
use Rattle.std.proofs.lemmas.List.{nil_from_length}
use Rattle.std.proofs.lemmas.List.Elements.{All-pop}
use Rattle.std.specs.declared.alloc.Global.{Global}
use Rattle.atomic_blocks.specs.Lent.{RowsId}
use Rattle.crossbeam_deque.specs.Handles.{IsPassOf, worker_deque, worker_view, view}
use Rattle.steal_workers.specs.declared.hand.Hand.{Hand}
use Rattle.steal_workers.specs.declared.share.Share.{Share}
use Rattle.list_weights.specs.Weights.{weigh}
use Rattle.steal_workers.specs.inside.Handles.{deque_of, is_own}
use Rattle.steal_workers.specs.inside.Shares.{IsShare}
use Rattle.steal_workers.specs.Gathers.{share_taken}
use Rattle.list_weights.proofs.Weights.{weigh_append}
use Rattle.steal_workers.proofs.Steps.{merges}
use Rattle.steal_workers.proofs.WholeSteps.{IsOwnerOut, owner_out, all_back}
use Rattle.steal_workers.proofs.gathering.whole.Goals as goal

pub claim-requires : goal.claim-requires
claim-requires g c =
    let inv = c.loop-share.invariant in
    let P : Share g.row.T.Denot → Type 0 = λ s. IsShare s × (deque_of s.handle ≡ worker_deque c.own-deque.result) × (is_own s.handle ≡ false) in
    let last = (All-pop P c.loop-share.column.items c.pop.new.self.items (Some c.in-Some.share) c.in-Some.ensures.items inv.rest).1 in
    (last.0.0, last.2)

pub absorb-requires-clause-table : goal.absorb-requires-clause-table
absorb-requires-clause-table g c =
    let inv = c.loop-share.invariant in
    let P : Share g.row.T.Denot → Type 0 = λ s. IsShare s × (deque_of s.handle ≡ worker_deque c.own-deque.result) × (is_own s.handle ≡ false) in
    let last = (All-pop P c.loop-share.column.items c.pop.new.self.items (Some c.in-Some.share) c.in-Some.ensures.items inv.rest).1 in
    subst (λ (d : RowsId × Global). IsPassOf d c.claim.result) (last.1 ∙ sym inv.same) c.claim.ensures.0

pub absorb-requires-clause-rule : goal.absorb-requires-clause-rule
absorb-requires-clause-rule g c = merges _ _ _ _ c.loop-share.invariant.deals

pub loop-share-preserved : goal.loop-share-preserved
loop-share-preserved g c =
    let inv = c.loop-share.invariant in
    let P : Share g.row.T.Denot → Type 0 = λ s. IsShare s × (deque_of s.handle ≡ worker_deque c.own-deque.result) × (is_own s.handle ≡ false) in
    let popped : c.loop-share.column.items ≡ c.pop.new.self.items ++ c.in-Some.share ∷ [] = c.in-Some.ensures.items in
    let split = All-pop P c.loop-share.column.items c.pop.new.self.items (Some c.in-Some.share) popped inv.rest in
    let rule = c.absorb.ensures.rule in
    let claimed = c.claim.ensures.1 in
    let long = ap length popped in
    record {
      fifo = c.absorb.ensures.same.0.1 ∙ inv.fifo;
      same = c.absorb.ensures.same.0.0 ∙ inv.same;
      deals = ap (λ (v : Hand g.row.T.Denot). v.deals) rule ∙ inv.deals;
      dealt = ap (λ (v : Hand g.row.T.Denot). v.dealt) rule ∙ inv.dealt;
      share = (
          let now : (worker_view c.absorb.new.self).share ≡ (worker_view c.loop-share.deque).share + (view c.claim.result).share = ap (λ (v : Hand g.row.T.Denot). v.share) rule in
          let one : (view c.claim.result).share ≡ 1 = ap (λ (v : Hand g.row.T.Denot). v.share) claimed ∙ split.1.0.1 in
          let before = inv.share in
          omega (arith, length-append c.pop.new.self.items (c.in-Some.share ∷ []))
          );
      taken = λ h.
          let before = inv.taken h in
          let now : weigh h (worker_view c.absorb.new.self).taken ≡ weigh h ((worker_view c.loop-share.deque).taken ++ (view c.claim.result).taken) = ap (λ (v : Hand g.row.T.Denot). weigh h v.taken) rule in
          let theirs : weigh h (view c.claim.result).taken ≡ share_taken h c.in-Some.share = ap (λ (v : Hand g.row.T.Denot). weigh h v.taken) claimed in
          let column : weigh (share_taken h) c.loop-share.column.items ≡ weigh (share_taken h) (c.pop.new.self.items ++ c.in-Some.share ∷ []) = ap (weigh (share_taken h)) popped in
          omega (arith, weigh_append h (worker_view c.loop-share.deque).taken (view c.claim.result).taken, weigh_append (share_taken h) c.pop.new.self.items (c.in-Some.share ∷ []));
      rest = split.0;
      capacity = c.pop.ensures.capacity ∙ inv.capacity;
    }

pub loop-share-init : goal.loop-share-init
loop-share-init g c =
    let T = g.row.T.Denot in
    let xs = c.args.column.now.items in
    let x = c.swap_remove.result in
    let read = c.as_slice.ensures.value in
    let within : c.owner_in-place.result < length xs = (let w = c.owner_in-place.ensures.within in let l = ap length read in omega arith) in
    let own : is_own x.handle ≡ true = ap (λ (s : Share T). is_own s.handle) c.swap_remove.ensures.value ∙ subst (λ (l : List (Share T)). is_own (get_or l c.owner_in-place.result x).handle ≡ true) read (c.owner_in-place.ensures.owner x) in
    let out : IsOwnerOut xs c.swap_remove.new.self.items x = owner_out xs c.swap_remove.new.self.items x c.owner_in-place.result c.requires.shares c.requires.owner within c.swap_remove.ensures.value own c.swap_remove.ensures.items in
    record {
      fifo = c.own-deque.ensures.deque.1;
      same = refl;
      deals = c.own-deque.ensures.view.1;
      dealt = refl;
      share = refl;
      taken = λ h. refl;
      rest = λ k e w. (let o = out.others_left k e w in (o.0, o.1 ∙ sym c.own-deque.ensures.deque.0, o.2));
      capacity = refl;
    }

pub returns-clause-back : goal.returns-clause-back
returns-clause-back g c =
    let T = g.row.T.Denot in
    let inv = c.loop-share.invariant in
    let xs = c.args.column.now.items in
    let x = c.swap_remove.result in
    let read = c.as_slice.ensures.value in
    let within : c.owner_in-place.result < length xs = (let w = c.owner_in-place.ensures.within in let l = ap length read in omega arith) in
    let own : is_own x.handle ≡ true = ap (λ (s : Share T). is_own s.handle) c.swap_remove.ensures.value ∙ subst (λ (l : List (Share T)). is_own (get_or l c.owner_in-place.result x).handle ≡ true) read (c.owner_in-place.ensures.owner x) in
    let out : IsOwnerOut xs c.swap_remove.new.self.items x = owner_out xs c.swap_remove.new.self.items x c.owner_in-place.result c.requires.shares c.requires.owner within c.swap_remove.ensures.value own c.swap_remove.ensures.items in
    let none : c.loop-share.column.items ≡ [] = nil_from_length c.loop-share.column.items (let e = c.in_default.ensures.cases.0 in omega (arith, c.loop-share.column.ok.0)) in
    let empty : length c.loop-share.column.items ≡ 0 = ap length none in
    all_back xs c.swap_remove.new.self.items x (worker_view c.own-deque.result) (worker_view c.loop-share.deque) out c.own-deque.ensures.view.0 inv.deals inv.dealt
    (let s = inv.share in omega arith)
    (λ h. let t = inv.taken h in let n : weigh (share_taken h) c.loop-share.column.items ≡ 0 = ap (weigh (share_taken h)) none in omega arith)
