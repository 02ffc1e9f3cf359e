-- What all workers of a round leave.
use Rattle.std.specs.Prelude.{◌≡◌, ℕ, suc, ◌+◌, List, [], ◌∷◌, ◌++◌, map, flat_map, length, All, Contains, IsPermutation, Vec}
use Rattle.std.specs.declared.alloc.Global.{Global}
use Rattle.sim_base.specs.declared.event.Parcel.{Parcel}
use Rattle.list_weights.specs.Weights.{weigh, numbers_below}
use Rattle.list_weights.specs.Places.{EachAt}
use Rattle.steal_workers.specs.Gathers.{joined}
use Rattle.host_link.specs.Net.{Net}
use Rattle.host_state.specs.HostRecord.{HostRecord}
use Rattle.round_lookahead.specs.declared.workers.host_task.HostTask.{HostTask}
use Rattle.round_lookahead.specs.declared.workers.worked.Worked.{Worked}
use Rattle.round_parts.specs.Arrivals.{Boxed}
use Rattle.round_lookahead.specs.Works.{HostJob, AreDone, numbers, parcels_made}

-- the work of workers, from that number on: each one's jobs
abbrev pub AreWorks : Net → ℕ → List HostTask → (ℕ → HostRecord) → ℕ → List (List HostJob) → List Worked → Type 0
AreWorks net end tasks rec worker [] [] = Unit {0}
AreWorks net end tasks rec worker [] (w ∷ works) = ⊥
AreWorks net end tasks rec worker (jobs ∷ more) [] = ⊥
AreWorks net end tasks rec worker (jobs ∷ more) (w ∷ works) = AreDone net end worker tasks rec jobs w.done.items × AreWorks net end tasks rec (suc worker) more works

-- what parcels weigh that lie in rows or in spills
abbrev pub parcel_weight : (Parcel → ℕ) → List (Vec Boxed Global) → List Worked → ℕ
parcel_weight h rows works = weigh (λ (row : Vec Boxed Global). weigh (λ (b : Boxed). h b.value) row.items) rows + weigh (λ (w : Worked). weigh h w.spill.items) works

-- the parcels that lie in rows or in spills
abbrev pub all_parcels : List (Vec Boxed Global) → List Worked → List Parcel
all_parcels rows works = flat_map (λ (row : Vec Boxed Global). map (λ (b : Boxed). b.value) row.items) rows ++ flat_map (λ (w : Worked). w.spill.items) works

-- a row for each host, with parcels for it alone
pub record AreRows (hosts : ℕ) (rows : List (Vec Boxed Global)) : Type 0 where
  pub count : length rows ≡ hosts
  pub theirs : EachAt (λ host (row : Vec Boxed Global). All (λ (b : Boxed). b.value.to.index ≡ host) row.items) rows

-- Each worker's jobs were done, each host was taken by one job, and what the jobs made lies in rows and spills: those parcels and no
-- others, each as often as made, however parcels are weighed.
pub record IsRound (net : Net) (end : ℕ) (tasks : List HostTask) (rec : ℕ → HostRecord) (works : List Worked) (rows : List (Vec Boxed Global)) : Type 0 where
  pub jobs : List (List HostJob)
  pub done : AreWorks net end tasks rec 0 jobs works
  pub each_once : IsPermutation (numbers (joined jobs)) (numbers_below (length tasks))
  pub parcels : (h : Parcel → ℕ) → parcel_weight h rows works ≡ weigh h (parcels_made net (joined jobs))
  pub rows_are : AreRows (length tasks) rows
  pub into : All (λ (p : Parcel). Contains (parcels_made net (joined jobs)) p) (all_parcels rows works)
  pub back : All (λ (p : Parcel). Contains (all_parcels rows works) p) (parcels_made net (joined jobs))
