-- The world in which all hosts begin.
use Rattle.std.proofs.Common.{◌≡◌, ℕ, zero, suc, ◌+◌, ◌-◌, ◌<◌, ◌≤◌, ⊎_elim, List, [], ◌∷◌, ◌++◌, length, map, Some, None, slice_get, refl, sym, ap, subst, ◌∙◌, arith, IsPermutation, append_assoc, append-nil}
use Rattle.std.specs.Prelude.{flat_map}
use Rattle.std.proofs.lemmas.List.Sorted.{IsPermutation-refl, IsPermutation-append}
use Rattle.sim_base.specs.declared.event.Event.{Event}
use Rattle.sim_base.specs.declared.host.HostId.{HostId}
use Rattle.sim_base.specs.declared.key.Key.{Key}
use Rattle.host_state.specs.declared.host.Host.{Host}
use Rattle.host_link.specs.Net.{Net}
use Rattle.host_rows.specs.declared.row.Row.{Row}
use Rattle.host_state.specs.Opening.{opening}
use Rattle.host_state.specs.Fits.{model, IsEventOf, IsHostOf, FitsNet, OpensFit}
use Rattle.host_link.specs.Home.{home}
use Rattle.host_state.specs.HostRecord.{HostRecord}
use Rattle.host_link.specs.Handing.{with_events}
use Rattle.host_state.specs.HostStands.{Begins}
use Rattle.run_files.specs.Listed.{HostNames, listed, names_of}
use Rattle.host_state.specs.Gains.{names_in}
use Rattle.host_state.proofs.Openings.{opens_fit}
use Rattle.host_state.proofs.Queues.{begun}
use Rattle.world_order.specs.EventOrder.{AreApart}
use Rattle.world_order.specs.Settled.{next_at}
use Rattle.world_order.proofs.Apart.{apart_append}
use Rattle.world_order.proofs.Firings.{numbered_apart, numbered_source, numbered_below}
use Rattle.world_order.proofs.Homes.{some_is}
use Rattle.world_order.proofs.Members.{IsIn, Each, IsIn_either, IsIn_permutation, Each_from_All, All_from_Each, Each-append}
use Rattle.round_lookahead.specs.declared.workers.host_task.HostTask.{HostTask}
use Rattle.round_lookahead.specs.declared.world.world_state.World.{World}
use Rattle.round_parts.specs.Arrivals.{Boxed, arrivals}
use Rattle.round_parts.specs.Counts.{counts_of}
use Rattle.round_lookahead.specs.OpeningWorld.{AreHostRows, IsOpened, opening_world}
use Rattle.round_lookahead.specs.inside.OpeningWorld.{AreOpened}
use Rattle.round_lookahead.specs.Tasks.{waiting}
use Rattle.round_lookahead.specs.WorldStands.{nanos_of, HasRounds, IsBetweenRounds, StandsAt, WorldStands}

-- the hosts of rows, and what they begin with
abbrev hosts_of : List Row → List HostRecord
hosts_of rows = map (λ (row : Row). (opening row).host) rows

abbrev made_of : List Row → List Event
made_of rows = flat_map (λ (row : Row). (opening row).made) rows

-- what the hosts from number k on begin with fits
abbrev AllOpen : Net → ℕ → List Row → Type 0
AllOpen net k [] = Unit {0}
AllOpen net k (row ∷ rows) = OpensFit net k (opening row) × AllOpen net (k + 1) rows

all_open : (net : Net) (k : ℕ) (rows : List Row) → ((i : ℕ) (row : Row) → slice_get rows i ≡ Some row → (row.host.index ≡ k + i) × FitsNet net row) → AllOpen net k rows
all_open net k [] each = tt
all_open net k (row ∷ rows) each =
    let (at, fits) = each 0 row refl in
    let here : row.host.index ≡ k = omega arith in (
      subst (λ (i : ℕ). OpensFit net i (opening row)) here (opens_fit net row fits),
      all_open net (k + 1) rows (λ i r is. (let (there, fit) = each (suc i) r is in ((let a : r.host.index ≡ k + 1 + i = omega arith in a), fit))),
    )

module _ (net : Net) where
  opened_source : (k : ℕ) (rows : List Row) → AllOpen net k rows → (x : Event) → IsIn x (made_of rows) → k ≤ x.key.source.index
  opened_source k [] all x h = absurd h
  opened_source k (row ∷ rows) all x h = ⊎_elim
      (λ (l : IsIn x (opening row).made). (let s = numbered_source k 0 (opening row).made all.0.numbered x l in omega arith))
      (λ (r : IsIn x (made_of rows)). (let s = opened_source (k + 1) rows all.1 x r in omega arith))
      (IsIn_either x (opening row).made (made_of rows) h)

  opened_apart : (k : ℕ) (rows : List Row) → AllOpen net k rows → AreApart (made_of rows)
  opened_apart k [] all = λ key. omega arith
  opened_apart k (row ∷ rows) all =
      apart_append (opening row).made (made_of rows) (numbered_apart k 0 (opening row).made all.0.numbered) (opened_apart (k + 1) rows all.1)
      (λ x h g in_rest same.
      (let s = numbered_source k 0 (opening row).made all.0.numbered x h in
      let t = opened_source (k + 1) rows all.1 g in_rest in
      let e : x.key.source.index ≡ g.key.source.index = ap (λ (key : Key). key.source.index) same in
      absurd (omega arith)))

  opened_below : (k : ℕ) (rows : List Row) → AllOpen net k rows → (x : Event) → IsIn x (made_of rows) → x.key.number < next_at (model net) (hosts_of rows) (x.key.source.index - k)
  opened_below k [] all x h = absurd h
  opened_below k (row ∷ rows) all x h = ⊎_elim
      (λ (l : IsIn x (opening row).made).
      let s = numbered_source k 0 (opening row).made all.0.numbered x l in
      let b = numbered_below k 0 (opening row).made all.0.numbered x l in
      let c = all.0.counted in
      let first : x.key.source.index - k ≡ 0 = omega arith in
      let here : x.key.number < next_at (model net) (hosts_of (row ∷ rows)) 0 = omega arith in
      subst (λ (i : ℕ). x.key.number < next_at (model net) (hosts_of (row ∷ rows)) i) (sym first) here)
      (λ (r : IsIn x (made_of rows)).
      let s = opened_source (k + 1) rows all.1 x r in
      let later : x.key.source.index - k ≡ suc (x.key.source.index - (k + 1)) = omega arith in
      subst (λ (i : ℕ). x.key.number < next_at (model net) (hosts_of (row ∷ rows)) i) (sym later) (opened_below (k + 1) rows all.1 x r))
      (IsIn_either x (opening row).made (made_of rows) h)

  opened_events : (k : ℕ) (rows : List Row) → AllOpen net k rows → Each (IsEventOf net) (made_of rows)
  opened_events k [] all = λ x h. absurd h
  opened_events k (row ∷ rows) all =
      Each-append (IsEventOf net) (opening row).made (made_of rows) (Each_from_All (IsEventOf net) (opening row).made all.0.events) (opened_events (k + 1) rows all.1)

  opened_host : (k : ℕ) (rows : List Row) → AllOpen net k rows → (i : ℕ) (h : HostRecord) → slice_get (hosts_of rows) i ≡ Some h → IsHostOf net (k + i) h × (h.link.time.nanos ≡ 0)
  opened_host k [] all i h is = absurd (let e : None ≡ Some h = is in cc)
  opened_host k (row ∷ rows) all zero h is =
      let same : (opening row).host ≡ h = (let e : Some (opening row).host ≡ Some h = is in cc) in
      let at : k ≡ k + 0 = omega arith in
      (subst (λ (i : ℕ). IsHostOf net i h) at (subst (IsHostOf net k) same all.0.host), ap (λ (r : HostRecord). r.link.time.nanos) (sym same) ∙ all.0.clock)
  opened_host k (row ∷ rows) all (suc i) h is =
      let r = opened_host (k + 1) rows all.1 i h is in
      let at : k + 1 + i ≡ k + suc i = omega arith in
      (subst (λ (j : ℕ). IsHostOf net j h) at r.0, r.1)

length_hosts : (rows : List Row) → length (hosts_of rows) ≡ length rows
length_hosts [] = refl
length_hosts (row ∷ rows) = ap suc (length_hosts rows)

-- the opening world of a net's rows is one between rounds
pub opened_between : (net : Net) (rows : List Row) (are : AreHostRows net rows) → IsBetweenRounds net (opening_world rows)
opened_between net rows are =
    let all : AllOpen net 0 rows = all_open net 0 rows (λ i row is. ((let p = are.places i row is in omega arith), are.fit i row is)) in
    record {
      count = length_hosts rows ∙ are.count;
      apart = opened_apart net 0 rows all;
      below = All_from_Each (λ (x : Event). x.key.number < next_at (model net) (hosts_of rows) x.key.source.index) (made_of rows)
          (λ x h. (let whole : x.key.source.index - 0 ≡ x.key.source.index = omega arith in
          subst (λ (i : ℕ). x.key.number < next_at (model net) (hosts_of rows) i) whole (opened_below net 0 rows all x h)));
      events = All_from_Each (IsEventOf net) (made_of rows) (opened_events net 0 rows all);
      hosts = λ i h is. (let r = opened_host net 0 rows all i h is in let at : 0 + i ≡ i = omega arith in subst (λ (j : ℕ). IsHostOf net j h) at r.0);
      clock = λ i h is. (let r = (opened_host net 0 rows all i h is).1 in All_from_Each (λ (x : Event). h.link.time.nanos ≤ x.key.due.nanos) (made_of rows) (λ x there. omega arith));
    }

-- ---- one host

module _ (net : Net) (row : Row) (fits : FitsNet net row) where
  held_moved : IsPermutation (with_events (opening row).made []) (opening row).made
  held_moved = begun (opening row).made [] (numbered_apart row.host.index 0 (opening row).made (opens_fit net row fits).numbered)

  pub opened_queue : (c : Host) → Begins row c → IsPermutation c.queue (opening row).made
  opened_queue c begins = subst (λ (q : List Event). IsPermutation q (opening row).made) (sym begins.queue) held_moved

  opened_waiting : (t : HostTask) → IsOpened row t → IsPermutation (waiting t) (opening row).made
  opened_waiting t o =
      subst (λ (l : List Event). IsPermutation l (opening row).made) (sym (ap (λ (bs : List Boxed). t.host.value.queue ++ arrivals bs) o.parcels ∙ append-nil t.host.value.queue)) (opened_queue t.host.value o.host)

  pub opened_stands : (t : HostTask) → IsOpened row t → StandsAt net row.host.index t (opening row).host
  opened_stands t o = record {
    id = ap (λ (h : HostId). h.index) o.id;
    stands = o.host.host;
    home = All_from_Each (λ (e : Event). home net e ≡ row.host.index) (waiting t)
        (λ e h. Each_from_All (λ (x : Event). home net x ≡ row.host.index) (opening row).made (opens_fit net row fits).own e
        (IsIn_permutation e (waiting t) (opening row).made (opened_waiting t o) h));
  }

-- ---- host by host

pub opened_more : (rows : List Row) (ts : List HostTask) (row : Row) (t : HostTask) → AreOpened rows ts → IsOpened row t → AreOpened (rows ++ row ∷ []) (ts ++ t ∷ [])
opened_more [] [] row t are is = (is, tt)
opened_more [] (u ∷ ts) row t are is = absurd are
opened_more (r ∷ rows) [] row t are is = absurd are
opened_more (r ∷ rows) (u ∷ ts) row t are is = (are.0, opened_more rows ts row t are.1 is)

row_at : (done : List Row) (row : Row) (rest : List Row) → slice_get (done ++ (row ∷ rest)) (length done) ≡ Some row
row_at [] row rest = refl
row_at (r ∷ done) row rest = row_at done row rest

-- so far the hosts of the first rows are there
abbrev pub OpenedSoFar : List Row → List Row → List HostTask → Type 0
OpenedSoFar rows left ts = (done : List Row) × (rows ≡ done ++ left) × AreOpened done ts

pub row_fits : (net : Net) (rows left rest : List Row) (row : Row) (ts : List HostTask) → AreHostRows net rows → left ≡ row ∷ rest → OpenedSoFar rows left ts → FitsNet net row
row_fits net rows left rest row ts are left_is (done, is, opened) =
    are.fit (length done) row (ap (λ (l : List Row). slice_get l (length done)) (is ∙ ap (λ (l : List Row). done ++ l) left_is) ∙ row_at done row rest)

pub opened_next : (rows left rest : List Row) (row : Row) (old new : List HostTask) (t : HostTask) → left ≡ row ∷ rest → OpenedSoFar rows left old → IsOpened row t → new ≡ old ++ t ∷ [] → OpenedSoFar rows rest new
opened_next rows left rest row old new t left_is (done, is, opened) one more = (
  done ++ (row ∷ []),
  is ∙ ap (λ (l : List Row). done ++ l) left_is ∙ sym (append_assoc done (row ∷ []) rest),
  subst (AreOpened (done ++ row ∷ [])) (sym more) (opened_more done old row t opened one),
)

pub opened_all : (rows left : List Row) (ts : List HostTask) → left ≡ [] → OpenedSoFar rows left ts → AreOpened rows ts
opened_all rows left ts none (done, is, opened) =
    subst (λ (l : List Row). AreOpened l ts) (sym (is ∙ ap (λ (l : List Row). done ++ l) none ∙ append-nil done)) opened

-- ---- all hosts

length_opened : (rows : List Row) (ts : List HostTask) → AreOpened rows ts → length ts ≡ length rows
length_opened [] [] are = refl
length_opened [] (t ∷ ts) are = absurd are
length_opened (r ∷ rows) [] are = absurd are
length_opened (r ∷ rows) (t ∷ ts) are = ap suc (length_opened rows ts are.1)

opened_at : (rows : List Row) (ts : List HostTask) → AreOpened rows ts → (k : ℕ) (t : HostTask) → slice_get ts k ≡ Some t → (row : Row) × (slice_get rows k ≡ Some row) × IsOpened row t
opened_at [] [] are k t at = absurd (let e : None ≡ Some t = at in cc)
opened_at [] (u ∷ ts) are k t at = absurd are
opened_at (r ∷ rows) [] are k t at = absurd are
opened_at (r ∷ rows) (u ∷ ts) are zero t at = (r, refl, subst (IsOpened r) (some_is u t at) are.0)
opened_at (r ∷ rows) (u ∷ ts) are (suc k) t at = opened_at rows ts are.1 k t at

host_of : (rows : List Row) (k : ℕ) (row : Row) → slice_get rows k ≡ Some row → slice_get (hosts_of rows) k ≡ Some (opening row).host
host_of [] k row at = absurd (let e : None ≡ Some row = at in cc)
host_of (r ∷ rows) zero row at = ap (λ (x : Row). Some (opening x).host) (some_is r row at)
host_of (r ∷ rows) (suc k) row at = host_of rows k row at

events_opened : (net : Net) (rows : List Row) (ts : List HostTask) → ((i : ℕ) (row : Row) → slice_get rows i ≡ Some row → FitsNet net row) → AreOpened rows ts → IsPermutation (flat_map waiting ts) (made_of rows)
events_opened net [] [] fit are = IsPermutation-refl []
events_opened net [] (t ∷ ts) fit are = absurd are
events_opened net (r ∷ rows) [] fit are = absurd are
events_opened net (r ∷ rows) (t ∷ ts) fit are =
    IsPermutation-append (waiting t) (opening r).made (flat_map waiting ts) (made_of rows) (opened_waiting net r (fit 0 r refl) t are.0)
    (events_opened net rows ts (λ i row at. fit (suc i) row at) are.1)

names_opened : (rows : List Row) → names_in (opening_world rows) ≡ map listed rows
names_opened [] = refl
names_opened (r ∷ rows) = ap (λ (l : List HostNames). listed r ∷ l) (names_opened rows)

pub starts_so : (c : World) (rows : List Row) → AreHostRows c.net rows → HasRounds c.net (nanos_of c.lookahead) → AreOpened rows c.tasks.items → names_of c.listing ≡ map listed rows → c.counts ≡ counts_of []
    → WorldStands c (opening_world rows)
starts_so c rows are rounds opened names counts = record {
  rounds = rounds;
  count = length_opened rows c.tasks.items opened ∙ sym (length_hosts rows);
  listed = names ∙ sym (names_opened rows);
  hosts = λ k t h at there.
      (let o = opened_at rows c.tasks.items opened k t at in
      let same : (opening o.0).host ≡ h = some_is (opening o.0).host h (sym (host_of rows k o.0 o.1) ∙ there) in
      subst (StandsAt c.net k t) same (subst (λ (n : ℕ). StandsAt c.net n t (opening o.0).host) (are.places k o.0 o.1) (opened_stands c.net o.0 (are.fit k o.0 o.1) t o.2)));
  events = events_opened c.net rows c.tasks.items are.fit opened;
  counts = counts;
  between = opened_between c.net rows are;
}
