use Rattle.std.proofs.Common.{◌≡◌, ◌++◌, ◌∷◌, [], List, Option, Some, IsSome, length, map, sym, ap, ◌∙◌, arith, Vec, Global}
use Rattle.std.specs.Prelude.{option_map}
use Rattle.std.specs.Vec.Iter.{into_iter_items}
use Rattle.run_files.specs.Written.{written_in}
use Rattle.round_lookahead.specs.declared.workers.host_task.HostTask.{HostTask}
use Rattle.round_lookahead.specs.declared.world.backs.Back.{Back}
use Rattle.round_parts.specs.Arrivals.{Boxed}
use Rattle.round_lookahead.specs.inside.Retasks.{seen_in}
use Rattle.round_lookahead.proofs.BackSteps.{maps_more, seen-more}
use Rattle.round_parts.proofs.ListFacts.{rest_of}
use Rattle.round_lookahead.proofs.world.retasking.retask.Goals as goal

pub loop-slot-preserved : goal.loop-slot-preserved
loop-slot-preserved c =
    let slot : Option Back = c.in-Some.slot in
    let b : Back = c.in-Some-slot.back in
    let is : slot ≡ Some b = c.in-Some-slot.is in
    let left : List (Option Back) = into_iter_items c.loop-slot.slot-iterator in
    let rest : List (Option Back) = into_iter_items c.next.new.self in
    let rows : List (Vec Boxed Global) = into_iter_items c.loop-slot.rows in
    let more : List (Vec Boxed Global) = into_iter_items c.next-in-loop-slot.new.self in
    let row : Vec Boxed Global = c.in-Some-next.parcels in
    let left_is : left ≡ slot ∷ rest = c.in-Some.ensures.steps.0 in
    let rows_are : rows ≡ row ∷ more = c.in-Some-next.ensures.items in
    let old : List HostTask = c.loop-slot.retasked.tasks.items in
    let new : List HostTask = c.add.new.self.tasks.items in
    let one = c.in_ok-add.ensures.task in
    let t : HostTask = one.task in
    let pushed : new ≡ old ++ t ∷ [] = one.joins in
    let i = c.loop-slot.invariant in
    record {
      count = (let long = i.count in let a : length left ≡ length (slot ∷ rest) = ap length left_is in let e : length rows ≡ length (row ∷ more) = ap length rows_are in omega arith);
      taken = rest_of (λ (s : Option Back). IsSome s) left rest slot left_is i.taken;
      ids = seen-more (λ (x : HostTask). Some x.id) (option_map (λ (x : Back). x.id)) old new t left rest slot (seen_in (λ (x : Back). x.id) c.args.slots.items) pushed left_is
          (ap Some one.id ∙ ap (option_map (λ (x : Back). x.id)) (sym is)) i.ids;
      hosts = seen-more (λ (x : HostTask). Some x.host) (option_map (λ (x : Back). x.host)) old new t left rest slot (seen_in (λ (x : Back). x.host) c.args.slots.items) pushed left_is
          (ap Some one.host ∙ ap (option_map (λ (x : Back). x.host)) (sym is)) i.hosts;
      parcels = maps_more (λ (x : HostTask). x.parcels) old new t more c.args.rows.items pushed
          (ap (λ (v : Vec Boxed Global). map (λ (x : HostTask). x.parcels) old ++ v ∷ more) one.parcels_are
          ∙ ap (λ (l : List (Vec Boxed Global)). map (λ (x : HostTask). x.parcels) old ++ l) (sym rows_are) ∙ i.parcels);
      outputs = seen-more Some (option_map (λ (x : Back). x.outputs.items)) (written_in c.loop-slot.retasked.outputs) (written_in c.add.new.self.outputs) b.outputs.items left rest slot
          (seen_in (λ (x : Back). x.outputs.items) c.args.slots.items) c.in_ok-add.ensures.outputs left_is (ap (option_map (λ (x : Back). x.outputs.items)) (sym is)) i.outputs;
    }
