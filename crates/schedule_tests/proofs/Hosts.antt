-- The hosts of rows, as each begins, stand for those of the opening world.
use Rattle.std.proofs.Common.{◌≡◌, ℕ, zero, suc, List, [], ◌∷◌, ◌++◌, length, map, All, Some, None, slice_get, refl, sym, ap, subst, ◌∙◌, arith, IsPermutation, append_assoc, append-nil}
use Rattle.std.specs.Prelude.{flat_map}
use Rattle.std.proofs.lemmas.List.Sorted.{IsPermutation-refl, IsPermutation-append}
use Rattle.sim_base.specs.declared.event.Event.{Event}
use Rattle.host_state.specs.declared.host.Host.{Host}
use Rattle.host_link.specs.Net.{Net}
use Rattle.host_rows.specs.declared.row.Row.{Row}
use Rattle.host_state.specs.Fits.{FitsNet}
use Rattle.host_link.specs.Home.{home}
use Rattle.host_state.specs.HostRecord.{HostRecord}
use Rattle.host_state.specs.HostStands.{Begins, Stands}
use Rattle.host_state.specs.Opening.{opening}
use Rattle.host_state.proofs.Openings.{opens_fit}
use Rattle.world_order.proofs.Homes.{some_is, get_below, below_get}
use Rattle.world_order.proofs.Members.{IsIn_permutation, Each_from_All, All_from_Each}
use Rattle.host_state.specs.World.{AreRows, opening_world}
use Rattle.round_lookahead.proofs.WorldOpenings.{opened_queue}
use Rattle.round_schedule.specs.Standing.{EachStands, HostsStand}
use Rattle.round_schedule.proofs.Openings.{pair_none, pair_more}

abbrev Begun : List Row → List Host → Type 0
Begun rows hosts = EachStands (λ i. Begins) rows hosts

-- ---- host by host

-- so far the hosts of the first rows are there
pub record IsOpening (rows left : List Row) (hosts : List Host) : Type 0 where
  pub done : List Row
  pub rows_are : rows ≡ done ++ left
  pub begun : Begun done hosts

pub opening_start : (rows left : List Row) (hosts : List Host) → rows ≡ left → hosts ≡ [] → IsOpening rows left hosts
opening_start rows left hosts same none = record { done = []; rows_are = same; begun = subst (Begun []) (sym none) (pair_none (λ i. Begins)) }

pub opening_next : (rows left rest : List Row) (hosts new : List Host) (row : Row) (host : Host) → left ≡ row ∷ rest → IsOpening rows left hosts → Begins row host → new ≡ hosts ++ host ∷ []
    → IsOpening rows rest new
opening_next rows left rest hosts new row host left_is going begins new_is = record {
  done = going.done ++ row ∷ [];
  rows_are = going.rows_are ∙ ap (λ (l : List Row). going.done ++ l) left_is ∙ sym (append_assoc going.done (row ∷ []) rest);
  begun = subst (Begun (going.done ++ row ∷ [])) (sym new_is) (pair_more Begins going.done hosts row host going.begun begins);
}

-- a row that is left is one of the rows
row_at : (done : List Row) (row : Row) (rest : List Row) → slice_get (done ++ (row ∷ rest)) (length done) ≡ Some row
row_at [] row rest = refl
row_at (r ∷ done) row rest = row_at done row rest

pub row_fits : (net : Net) (rows left rest : List Row) (row : Row) (hosts : List Host) → AreRows net rows → left ≡ row ∷ rest → IsOpening rows left hosts → FitsNet net row
row_fits net rows left rest row hosts are left_is going =
    are.fit (length going.done) row (ap (λ (l : List Row). slice_get l (length going.done)) (going.rows_are ∙ ap (λ (l : List Row). going.done ++ l) left_is) ∙ row_at going.done row rest)

-- ---- all hosts

length_map : {A B : Type 0} (f : A → B) (xs : List A) → length (map f xs) ≡ length xs
length_map f [] = refl
length_map f (x ∷ xs) = ap suc (length_map f xs)

-- the host of the opening world at a row's place
at_row : (rows : List Row) (i : ℕ) (row : Row) (h : HostRecord) → slice_get rows i ≡ Some row → slice_get (map (λ (row : Row). (opening row).host) rows) i ≡ Some h → (opening row).host ≡ h
at_row [] i row h at there = absurd (let e : None ≡ Some row = at in cc)
at_row (r ∷ rows) zero row h at there = ap (λ (x : Row). (opening x).host) (sym (some_is r row at)) ∙ some_is (opening r).host h there
at_row (r ∷ rows) (suc i) row h at there = at_row rows i row h at there

rest_begun : (row : Row) (rows : List Row) (host : Host) (hosts : List Host) → Begun (row ∷ rows) (host ∷ hosts) → Begun rows hosts
rest_begun row rows host hosts begun = record { count = (let n = begun.count in omega arith); each = λ i r c at there. begun.each (suc i) r c at there }

-- all events together
events_are : (net : Net) (rows : List Row) (hosts : List Host) → ((i : ℕ) (row : Row) → slice_get rows i ≡ Some row → FitsNet net row) → Begun rows hosts
    → IsPermutation (flat_map (λ (c : Host). c.queue) hosts) (flat_map (λ (row : Row). (opening row).made) rows)
events_are net [] [] fit begun = IsPermutation-refl []
events_are net [] (c ∷ hosts) fit begun = absurd (let n = begun.count in omega arith)
events_are net (row ∷ rows) [] fit begun = absurd (let n = begun.count in omega arith)
events_are net (row ∷ rows) (c ∷ hosts) fit begun =
    IsPermutation-append c.queue (opening row).made (flat_map (λ (c : Host). c.queue) hosts) (flat_map (λ (row : Row). (opening row).made) rows)
    (opened_queue net row (fit 0 row refl) c (begun.each 0 row c refl refl))
    (events_are net rows hosts (λ i r at. fit (suc i) r at) (rest_begun row rows c hosts begun))

module _ (net : Net) (rows : List Row) (hosts : List Host) (are : AreRows net rows) (begun : Begun rows hosts) where
  -- the row of a host
  row_of : (i : ℕ) (c : Host) → slice_get hosts i ≡ Some c → (row : Row) × (slice_get rows i ≡ Some row) × Begins row c
  row_of i c there =
      let below = below_get hosts i c there in
      let n = begun.count in
      let (row, at) = get_below rows i (omega arith) in
      (row, at, begun.each i row c at there)

  own : (i : ℕ) (c : Host) → slice_get hosts i ≡ Some c → All (λ (e : Event). home net e ≡ i) c.queue
  own i c there =
      let (row, at, begins) = row_of i c there in
      let fits = are.fit i row at in
      subst (λ (k : ℕ). All (λ (e : Event). home net e ≡ k) c.queue) (are.places i row at)
      (All_from_Each (λ (e : Event). home net e ≡ row.host.index) c.queue
      (λ e h. Each_from_All (λ (x : Event). home net x ≡ row.host.index) (opening row).made (opens_fit net row fits).own e
      (IsIn_permutation e c.queue (opening row).made (opened_queue net row fits c begins) h)))

  stands_at : (i : ℕ) (c : Host) (h : HostRecord) → slice_get hosts i ≡ Some c → slice_get (map (λ (row : Row). (opening row).host) rows) i ≡ Some h → Stands c h
  stands_at i c h there at = let (row, here, begins) = row_of i c there in subst (Stands c) (at_row rows i row h here at) begins.host

  pub hosts_stand : HostsStand net hosts (opening_world rows)
  hosts_stand = record {
    hosts = record { count = sym begun.count ∙ sym (length_map (λ (row : Row). (opening row).host) rows); each = stands_at };
    events = events_are net rows hosts are.fit begun;
    home = own;
  }

pub opening_end : (net : Net) (rows left : List Row) (hosts : List Host) → AreRows net rows → left ≡ [] → IsOpening rows left hosts → HostsStand net hosts (opening_world rows)
opening_end net rows left hosts are none going =
    let all : rows ≡ going.done = going.rows_are ∙ ap (λ (l : List Row). going.done ++ l) none ∙ append-nil going.done in
    hosts_stand net rows hosts are (subst (λ (l : List Row). Begun l hosts) (sym all) going.begun)
