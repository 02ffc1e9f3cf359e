-- One job more.
use Rattle.std.proofs.Common.{◌≡◌, ℕ, ◌≤◌, List, [], ◌∷◌, ◌++◌, length, refl, sym, ap, ◌∙◌, arith, append_assoc, append-nil}
use Rattle.sim_base.specs.declared.event.Parcel.{Parcel}
use Rattle.host_link.specs.Net.{Net}
use Rattle.host_state.specs.HostRecord.{HostRecord}
use Rattle.list_weights.specs.Weights.{weigh, numbers_below}
use Rattle.list_weights.proofs.Weights.{weigh_ones, length_numbers_below}
use Rattle.round_lookahead.specs.declared.workers.host_task.HostTask.{HostTask}
use Rattle.round_lookahead.specs.declared.workers.worked.Done.{Done}
use Rattle.round_lookahead.specs.Works.{HostJob, IsDone, AreDone, numbers, parcels_by, parcels_made}

pub done_more : (net : Net) (end worker : ℕ) (tasks : List HostTask) (rec : ℕ → HostRecord) (jobs : List HostJob) (ds : List Done) (job : HostJob) (d : Done)
    → AreDone net end worker tasks rec jobs ds → IsDone net end worker tasks rec job d → AreDone net end worker tasks rec (jobs ++ job ∷ []) (ds ++ d ∷ [])
done_more net end worker tasks rec [] [] job d done is = (is, tt)
done_more net end worker tasks rec [] (e ∷ ds) job d done is = absurd done
done_more net end worker tasks rec (j ∷ jobs) [] job d done is = absurd done
done_more net end worker tasks rec (j ∷ jobs) (e ∷ ds) job d done is = (done.0, done_more net end worker tasks rec jobs ds job d done.1 is)

pub made_append : (net : Net) (jobs more : List HostJob) → parcels_made net (jobs ++ more) ≡ parcels_made net jobs ++ parcels_made net more
made_append net [] more = refl
made_append net (job ∷ jobs) more = ap (λ (l : List Parcel). parcels_by net job ++ l) (made_append net jobs more) ∙ sym (append_assoc (parcels_by net job) (parcels_made net jobs) (parcels_made net more))

pub made_more : (net : Net) (jobs : List HostJob) (job : HostJob) → parcels_made net (jobs ++ job ∷ []) ≡ parcels_made net jobs ++ parcels_by net job
made_more net jobs job = made_append net jobs (job ∷ []) ∙ ap (λ (l : List Parcel). parcels_made net jobs ++ l) (append-nil (parcels_by net job))

pub numbers_append : (jobs more : List HostJob) → numbers (jobs ++ more) ≡ numbers jobs ++ numbers more
numbers_append [] more = refl
numbers_append (job ∷ jobs) more = ap (λ (l : List ℕ). job.number ∷ l) (numbers_append jobs more)

-- a number more is gained
pub gained_more : (start old new : List ℕ) (jobs : List HostJob) (job : HostJob) (n : ℕ) → job.number ≡ n → new ≡ old ++ n ∷ [] → old ≡ start ++ numbers jobs → new ≡ start ++ numbers (jobs ++ job ∷ [])
gained_more start old new jobs job n is more gained =
    more ∙ ap (λ (l : List ℕ). l ++ n ∷ []) gained ∙ append_assoc start (numbers jobs) (n ∷ []) ∙ ap (λ (k : ℕ). start ++ (numbers jobs ++ k ∷ [])) (sym is)
    ∙ ap (λ (l : List ℕ). start ++ l) (sym (numbers_append jobs (job ∷ [])))

-- ---- as many numbers as tasks

pub no_more : (ns : List ℕ) (count : ℕ) → weigh (λ _. 1) ns ≤ weigh (λ _. 1) (numbers_below count) → length ns ≤ count
no_more ns count less = omega (arith, weigh_ones ns, weigh_ones (numbers_below count), length_numbers_below count)
