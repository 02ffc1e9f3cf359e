-- Hosts that wait again.
use Rattle.std.specs.Prelude.{◌≡◌, List, [], ◌∷◌, ◌++◌, Option, Some, map, option_map, Vec}
use Rattle.std.specs.declared.alloc.Global.{Global}
use Rattle.run_files.specs.Written.{written_in}
use Rattle.round_lookahead.specs.declared.workers.host_task.HostTask.{HostTask}
use Rattle.round_lookahead.specs.declared.world.backs.Back.{Back}
use Rattle.round_lookahead.specs.declared.world.retasking.Retasked.{Retasked}
use Rattle.round_parts.specs.Arrivals.{Boxed}

-- one task more is that of the host that came back, with these packets
pub record IsRetasked (back : Back) (parcels : Vec Boxed Global) (old new : List HostTask) : Type 0 where
  pub task : HostTask
  pub id : task.id ≡ back.id
  pub host : task.host ≡ back.host
  pub parcels_are : task.parcels ≡ parcels
  pub joins : new ≡ old ++ task ∷ []

-- what is seen of the hosts in slots
abbrev pub seen_in : {Y : Type 0} → (Back → Y) → List (Option Back) → List (Option Y)
seen_in f slots = map (option_map f) slots

-- the host of each slot waits with the packets of its row
pub record AreRetasked (slots : List (Option Back)) (rows : List (Vec Boxed Global)) (r : Retasked) : Type 0 where
  pub ids : map (λ (t : HostTask). Some t.id) r.tasks.items ≡ seen_in (λ (b : Back). b.id) slots
  pub hosts : map (λ (t : HostTask). Some t.host) r.tasks.items ≡ seen_in (λ (b : Back). b.host) slots
  pub parcels : map (λ (t : HostTask). t.parcels) r.tasks.items ≡ rows
  pub outputs : map Some (written_in r.outputs) ≡ seen_in (λ (b : Back). b.outputs.items) slots
