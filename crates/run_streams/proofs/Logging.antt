-- each line of the packet log of a run was logged by an event, and tells whether its packet stays at its host
use Rattle.std.proofs.Common.{◌≡◌, List, [], ◌∷◌, Contains, Option, Some, None, nat_lt, true, slice_get, refl, sym, subst}
use Rattle.std.specs.List.Sorted.{IsPermutation}
use Rattle.std.proofs.lemmas.List.Sorted.{Contains-permutation, IsPermutation-sym}
use Rattle.sim_base.specs.declared.event.Event.{Event}
use Rattle.tcp_streams.proofs.Members.{Contains_here, Contains_there}
use Rattle.host_link.specs.declared.line.Line.{Line}
use Rattle.host_link.specs.Net.{Net}
use Rattle.host_rows.specs.declared.row.Row.{Row}
use Rattle.host_state.specs.Fire.{fire}
use Rattle.host_state.specs.Fits.{model}
use Rattle.host_link.specs.Home.{home}
use Rattle.host_state.specs.HostRecord.{HostRecord}
use Rattle.host_state.specs.World.{World, opening_world}
use Rattle.world_order.specs.Model.{Fired, with_host, fires_at}
use Rattle.world_order.specs.World.{Logged, logged, after_firing}
use Rattle.run_streams.specs.Past.{WasLogged}
use Rattle.run_streams.specs.Run.{IsReached, AreHosts}
use Rattle.run_streams.specs.Run.IsReached.{begins, turns}
use Rattle.run_streams.proofs.Every.{Every, every_append, every_member}
use Rattle.run_streams.proofs.Firing.{fires_so}
use Rattle.run_streams.proofs.HomeLinks.{IsLineOf}
use Rattle.run_streams.proofs.Homes.{lines_tell}
use Rattle.run_streams.proofs.Worlds.{turn_of}

module _ (net : Net) (rows : List Row) (are : AreHosts net rows) where
  abbrev Told : List (Logged Line) → Type 0
  Told log = Every (WasLogged net rows) log

  module _ (w : World) (e : Event) (h : HostRecord) (reached : IsReached net (opening_world rows) w) (waits : Contains w.events e) (there : slice_get w.hosts (home net e) ≡ Some h) where
    line_was : (line : Line) → Contains (fire net h e).lines line → WasLogged net rows (record { key = e.key; line = line })
    line_was line c =
        let is = every_member (IsLineOf (home net e) h.row.address e.what) (fire net h e).lines line (lines_tell net rows are w e h reached waits there) c in
        record { before = w; reached = reached; event = e; waits = waits; key = refl; at = sym is.0; host = h; there = there; logged = c; tells = is.1 }

    lines_were : (lines : List Line) → ((line : Line) → Contains lines line → Contains (fire net h e).lines line) → Told (logged e.key lines)
    lines_were [] from = tt
    lines_were (line ∷ lines) from =
        (line_was line (from line (Contains_here line lines)), lines_were lines (λ x c. from x (Contains_there line x lines c)))

  fires_told : (w : World) (e : Event) (rest : List Event) (o : Option HostRecord) → slice_get w.hosts (home net e) ≡ o → IsPermutation w.events (e ∷ rest) → nat_lt e.key.due.nanos net.stop.nanos ≡ true → IsReached net (opening_world rows) w → Told w.log → Told (after_firing w e rest (fires_at (model net) w.hosts e o)).log
  fires_told w e rest None at taken due reached told = every_append (WasLogged net rows) w.log [] told tt
  fires_told w e rest (Some h) at taken due reached told =
      let there : Contains w.events e = Contains-permutation (e ∷ rest) w.events e (IsPermutation-sym w.events (e ∷ rest) taken) (Contains_here e rest) in
      subst (λ (f : Fired HostRecord Line). Told (after_firing w e rest (with_host w.hosts (home net e) f)).log) (sym (fires_so net h e due))
      (every_append (WasLogged net rows) w.log (logged e.key (fire net h e).lines) told (lines_were w e h reached there at (fire net h e).lines (λ line c. c)))

  run_told : (w : World) → IsReached net (opening_world rows) w → Told w.log
  run_told w (begins v same) = subst (λ (x : World). Told x.log) same tt
  run_told w (turns u v reached k) =
      let turn = turn_of net u v k in
      subst (λ (x : World). Told x.log) turn.is
      (fires_told u turn.event turn.rest (slice_get u.hosts (home net turn.event)) refl turn.taken turn.due reached (run_told u reached))

  pub was_logged : (w : World) (l : Logged Line) → IsReached net (opening_world rows) w → Contains w.log l → WasLogged net rows l
  was_logged w l reached c = every_member (WasLogged net rows) w.log l (run_told w reached) c
