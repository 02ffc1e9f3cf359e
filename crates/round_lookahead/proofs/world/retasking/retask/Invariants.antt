use Rattle.std.proofs.Common.{◌≡◌, ◌++◌, Some, All, IsSome, length, map}
use Rattle.std.specs.Vec.Iter.{into_iter_items}
use Rattle.run_files.specs.Written.{written_in}
use Rattle.round_lookahead.specs.inside.Retasks.{seen_in}
use Rattle.round_lookahead.proofs.world.retasking.retask.Given as goal

-- what is left completes the whole
abbrev pub invariant-loop-slot : goal.invariant-loop-slot
invariant-loop-slot l = record {
  count : length (into_iter_items l.rows) ≡ length (into_iter_items l.slot-iterator);
  taken : All (λ slot. IsSome slot) (into_iter_items l.slot-iterator);
  ids : map (λ t. Some t.id) l.retasked.tasks.items ++ seen_in (λ b. b.id) (into_iter_items l.slot-iterator) ≡ seen_in (λ b. b.id) l.fn.slots.items;
  hosts : map (λ t. Some t.host) l.retasked.tasks.items ++ seen_in (λ b. b.host) (into_iter_items l.slot-iterator) ≡ seen_in (λ b. b.host) l.fn.slots.items;
  parcels : map (λ t. t.parcels) l.retasked.tasks.items ++ into_iter_items l.rows ≡ l.fn.rows.items;
  outputs : map Some (written_in l.retasked.outputs) ++ seen_in (λ b. b.outputs.items) (into_iter_items l.slot-iterator) ≡ seen_in (λ b. b.outputs.items) l.fn.slots.items;
}
