-- What a turn leaves of all hosts.
use Rattle.std.proofs.Common.{◌≡◌, ◌≢◌, ℕ, inl, inr, ⊎_elim, Bool, true, false, List, [], ◌∷◌, ◌++◌, Option, Some, None, option_map, nat_lt, slice_get, refl, sym, ap, subst, ◌∙◌}
use Rattle.std.specs.Prelude.{if◌then◌else◌}
use Rattle.std.proofs.lemmas.Bool.Decides.{eqb_tells}
use Rattle.std.proofs.lemmas.Option.{slice_get-map}
use Rattle.sim_base.specs.declared.event.Event.{Event}
use Rattle.sim_base.specs.declared.event.What.TheVariants as what
use Rattle.host_link.specs.declared.line.Line.{Line}
use Rattle.host_link.specs.Net.{Net}
use Rattle.host_rows.specs.declared.row.Row.{Row}
use Rattle.host_state.specs.Fire.{fire}
use Rattle.host_state.specs.Fits.{model, fires_before_stop}
use Rattle.host_link.specs.Home.{home, home_of}
use Rattle.host_state.specs.HostRecord.{HostRecord}
use Rattle.host_state.specs.Opening.{opening}
use Rattle.host_state.specs.World.{World, AreRows, opening_world}
use Rattle.host_state.proofs.Openings.{opens_fit}
use Rattle.world_order.specs.EventOrder.{is_before, taken_with, take_least}
use Rattle.world_order.specs.Model.{Fired, fires, fires_at}
use Rattle.world_order.specs.World.{after_firing, by_least, next}
use Rattle.world_order.proofs.Homes.{fires_other, get_set_same, some_is}
use Rattle.host_laws.specs.Waiting.{HasGo, HaveGoes, AllHaveGoes}
use Rattle.host_laws.proofs.Links.{by_if}
use Rattle.host_laws.proofs.Passing.{go_before}
use Rattle.host_laws.proofs.Firing.{none_goes, goes_after, number_after}

-- the least event is taken out: a Go is that one, or among the others
abbrev HasGoIn : ℕ → ℕ → Event × List Event → Type 0
HasGoIn n p t = HasGo n p (t.0 ∷ t.1)

go_with : (n p : ℕ) (e : Event) (es : List Event) (found : Option (Event × List Event)) → ((t : Event × List Event) → found ≡ Some t → HasGo n p es → HasGoIn n p t)
    → HasGo n p (e ∷ es) → HasGoIn n p (taken_with e es found)
go_with n p e es None behind h = h
go_with n p e es (Some (f, rest)) behind h =
    by_if (HasGoIn n p) (is_before f e) (f, e ∷ rest) (e, es)
    (λ b. ⊎_elim (λ g. inr (inl g)) (λ g. ⊎_elim (λ k. inl k) (λ k. inr (inr k)) (behind (f, rest) refl g)) h)
    (λ b. h)

go_taken : (n p : ℕ) (events : List Event) (t : Event × List Event) → take_least events ≡ Some t → HasGo n p events → HasGoIn n p t
go_taken n p [] t is h = absurd h
go_taken n p (e ∷ es) t is h =
    subst (HasGoIn n p) (some_is (taken_with e es (take_least es)) t is)
    (go_with n p e es (take_least es) (λ u found g. go_taken n p es u found g) h)

pub goes_taken : (h : HostRecord) (events : List Event) (e : Event) (rest : List Event) → take_least events ≡ Some (e, rest) → HaveGoes h events → HaveGoes h (e ∷ rest)
goes_taken h events e rest is goes = λ p r at on left. go_taken h.link.number p events (e, rest) is (goes p r at on left)

-- a Go fires at its source
go_home : (net : Net) (e : Event) (p : ℕ) → e.what ≡ what.Go p → home net e ≡ e.key.source.index
go_home net e p is = ap (home_of net e.key.source.index) is

-- a host elsewhere keeps its processes, and their Goes
goes_elsewhere : (net : Net) (h : HostRecord) (e : Event) (rest made : List Event) → h.link.number ≢ home net e → HaveGoes h (e ∷ rest) → HaveGoes h (rest ++ made)
goes_elsewhere net h e rest made apart goes = λ p r at on left.
    ⊎_elim (λ g. absurd (apart (sym g.1 ∙ sym (go_home net e p g.0)))) (λ g. go_before h.link.number p rest made g) (goes p r at on left)

fires_early : (net : Net) (h : HostRecord) (e : Event) (b : Bool) → b ≡ true → (if b then fire net h e else record { host = h; made = []; lines = [] }) ≡ fire net h e
fires_early net h e true is = refl
fires_early net h e false is = absurd (cc)

module _ (net : Net) (w : World) (e : Event) (rest : List Event) (goes : (i : ℕ) (h : HostRecord) → slice_get w.hosts i ≡ Some h → (h.link.number ≡ i) × HaveGoes h (e ∷ rest))
    (early : nat_lt e.key.due.nanos net.stop.nanos ≡ true) where
  abbrev Kept : ℕ → HostRecord → List Event → Type 0
  Kept i h made = (h.link.number ≡ i) × HaveGoes h (rest ++ made)

  -- the host at which it fires
  fired_here : (found : Option HostRecord) → slice_get w.hosts (home net e) ≡ found → (k : HostRecord) → slice_get (fires_at (model net) w.hosts e found).hosts (home net e) ≡ Some k
      → Kept (home net e) k (fires_at (model net) w.hosts e found).made
  fired_here None is k at = let none : None ≡ Some k = sym is ∙ at in absurd (cc)
  fired_here (Some h) is k at =
      let f : Fired HostRecord Line = fires_before_stop net h e in
      let same : f ≡ fire net h e = fires_early net h e (nat_lt e.key.due.nanos net.stop.nanos) early in
      let host : f.host ≡ k = some_is f.host k (sym (get_set_same w.hosts (home net e) h f.host is) ∙ at) in
      let was = goes (home net e) h is in
      subst (λ (x : HostRecord). Kept (home net e) x f.made) host
      (subst (λ (x : Fired HostRecord Line). Kept (home net e) x.host x.made) (sym same) (number_after net h e ∙ was.0, goes_after net h e rest was.1))

  all_after : AllHaveGoes (after_firing w e rest (fires (model net) w.hosts e))
  all_after i k at =
      ⊎_elim
      (λ same.
      let here : home net e ≡ i = sym same.1 in
      subst (λ (j : ℕ). Kept j k (fires (model net) w.hosts e).made) here
      (fired_here (slice_get w.hosts (home net e)) refl k (subst (λ (j : ℕ). slice_get (fires (model net) w.hosts e).hosts j ≡ Some k) (sym here) at)))
      (λ other.
      let was = goes i k (sym (fires_other (model net) w.hosts e i other.1) ∙ at) in
      (was.0, goes_elsewhere net k e rest (fires (model net) w.hosts e).made (λ is. other.1 (sym was.0 ∙ is)) was.1))
      (eqb_tells i (home net e))

taken_after : (net : Net) (w v : World) (found : Option (Event × List Event)) → AllHaveGoes w → take_least w.events ≡ found → by_least (model net) net.stop.nanos w found ≡ Some v → AllHaveGoes v
taken_after net w v None goes is leads = absurd (cc)
taken_after net w v (Some (e, rest)) goes is leads =
    by_if (λ (o : Option World). o ≡ Some v → AllHaveGoes v) (nat_lt e.key.due.nanos net.stop.nanos) _ _
    (λ early same.
    subst AllHaveGoes (some_is _ v same)
    (all_after net w e rest (λ i h at. let was = goes i h at in (was.0, goes_taken h w.events e rest is was.1)) early))
    (λ late same. absurd (cc)) leads

pub turn_goes : (net : Net) (w v : World) → AllHaveGoes w → next (model net) net.stop.nanos w ≡ Some v → AllHaveGoes v
unfolding next
turn_goes net w v goes leads = taken_after net w v (take_least w.events) goes refl leads

-- where a run begins
opened_row : (rows : List Row) (i : ℕ) (found : Option Row) (h : HostRecord) → slice_get rows i ≡ found → option_map (λ (row : Row). (opening row).host) found ≡ Some h
    → (row : Row) × ((slice_get rows i ≡ Some row) × ((opening row).host ≡ h))
opened_row rows i None h is at = absurd (cc)
opened_row rows i (Some row) h is at = (row, (is, some_is (opening row).host h at))

pub opening_goes : (net : Net) (rows : List Row) → AreRows net rows → AllHaveGoes (opening_world rows)
opening_goes net rows are i h at =
    let found = opened_row rows i (slice_get rows i) h refl (sym (slice_get-map (λ (row : Row). (opening row).host) rows i) ∙ at) in
    let row : Row = found.0 in
    let fits = opens_fit net row (are.fit i row found.1.0) in
    subst (λ (k : HostRecord). (k.link.number ≡ i) × HaveGoes k (opening_world rows).events) found.1.1
    (fits.host.number ∙ are.places i row found.1.0, none_goes row (opening_world rows).events)
