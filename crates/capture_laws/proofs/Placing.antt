-- the lines of a run are placed by addresses as their packets go
use Rattle.std.proofs.Common.{◌≡◌, ℕ, ◌==◌, ◌&&◌, not, Bool, true, false, List, [], ◌∷◌, Contains, Option, Some, slice_get, refl, sym, ap, subst, ◌∙◌, arith}
use Rattle.std.specs.Prelude.{if◌then◌else◌}
use Rattle.std.specs.List.{filter}
use Rattle.std.proofs.lemmas.Bool.Decides.{nat_tests}
use Rattle.sim_base.specs.declared.act.Act.{Act}
use Rattle.sim_base.specs.declared.act.Act.TheVariants.{Send, Recv, SockFull, NoPort, Lost, FullUp, FullDown, Codel}
use Rattle.sim_base.specs.declared.address.Ip.{Ip}
use Rattle.sim_base.specs.declared.event.What.{What}
use Rattle.sim_base.specs.declared.packet.Packet.{Packet}
use Rattle.tcp_streams.proofs.Members.{Contains_here, Contains_there}
use Rattle.run_files.specs.Captures.{is_at, is_sent, passes, is_on_lo, lo_of}
use Rattle.host_state.specs.HostRecord.{HostRecord}
use Rattle.host_link.specs.Logs.{lines_of}
use Rattle.host_link.specs.Sending.{stays_here}
use Rattle.host_state.specs.World.{World, opening_world}
use Rattle.host_link.specs.declared.line.Line.{Line}
use Rattle.host_link.specs.Net.{Net}
use Rattle.host_rows.specs.declared.row.Row.{Row}
use Rattle.world_order.specs.World.{Logged}
use Rattle.run_streams.specs.Past.{stays, TellsStays}
use Rattle.run_streams.specs.Run.{IsReached, AreHosts}
use Rattle.run_streams.proofs.Homes.{run_homed}
use Rattle.run_streams.proofs.Logging.{was_logged}
use Rattle.capture_laws.specs.Loopback.{past_of, IsPlaced}

one_row : (o : Option Row) (a b : Row) → o ≡ Some a → o ≡ Some b → a ≡ b
one_row o a b e k = let both : Some a ≡ Some b = sym e ∙ k in cc

is_number : (n i : ℕ) → (n == i) ≡ true → n ≡ i
is_number n i e = grind (arith, nat_tests)

module _ (net : Net) (rows : List Row) (are : AreHosts net rows) (w : World) (reached : IsReached net (opening_world rows) w) (i : ℕ) (h : HostRecord) (at : slice_get w.hosts i ≡ Some h) where
  -- the address of a host is that of its row
  same_address : (v : World) (k : HostRecord) → IsReached net (opening_world rows) v → slice_get v.hosts i ≡ Some k → k.row.address ≡ h.row.address
  same_address v k was there =
      let a = run_homed net rows are v was i k there in
      let b = run_homed net rows are w reached i h at in
      a.address ∙ (ap (λ (row : Row). row.address) (one_row (slice_get rows i) a.row b.row a.there b.there) ∙ sym b.address)

  pub placed : (l : Logged Line) → Contains w.log l → l.line.host.index ≡ i → IsPlaced net rows h.row.address l
  placed l c here =
      let was = was_logged net rows are w l reached c in
      let there : slice_get was.before.hosts i ≡ Some was.host = subst (λ (k : ℕ). slice_get was.before.hosts k ≡ Some was.host) (was.at ∙ here) was.there in
      let tells : TellsStays h.row.address was.event.what l.line = subst (λ (a : Ip). TellsStays a was.event.what l.line) (same_address was.before was.host was.reached there) was.tells in
      record {
        was = was;
        lo = ap (λ (b : Bool). is_sent l.line.act && b) tells;
        eth0 = ap (λ (b : Bool). passes l.line.act && not b) tells;
      }

  -- what is sent stays where it is for the host itself
  sent_stays : (own : Ip) (cause : What) (act : Act) (p : Packet) → (is_sent act && stays own cause act p) ≡ (is_sent act && stays_here own p)
  sent_stays own cause Send p = refl
  sent_stays own cause Recv p = refl
  sent_stays own cause SockFull p = refl
  sent_stays own cause NoPort p = refl
  sent_stays own cause Lost p = refl
  sent_stays own cause FullUp p = refl
  sent_stays own cause FullDown p = refl
  sent_stays own cause Codel p = refl

  abbrev on_lo : Line → Bool
  on_lo line = is_at i line && is_on_lo h.row.address line

  abbrev on_past : Line → Bool
  on_past line = is_at i line && (is_sent line.act && stays_here h.row.address line.packet)

  past_by : (l : Logged Line) (here : Bool) → is_at i l.line ≡ here → Contains w.log l → (here && is_on_lo h.row.address l.line) ≡ (here && (is_sent l.line.act && stays_here h.row.address l.line.packet))
  past_by l false e c = refl
  past_by l true e c =
      let p = placed l c (is_number l.line.host.index i e) in
      p.lo ∙ sent_stays h.row.address p.was.event.what l.line.act l.line.packet

  past : (log : List (Logged Line)) → ((l : Logged Line) → Contains log l → Contains w.log l) → filter on_lo (lines_of log) ≡ filter on_past (lines_of log)
  past [] from = refl
  past (l ∷ log) from =
      let rest = past log (λ x c. from x (Contains_there l x log c)) in
      ap (λ (b : Bool). if b then l.line ∷ filter on_lo (lines_of log) else filter on_lo (lines_of log)) (past_by l (is_at i l.line) refl (from l (Contains_here l log)))
      ∙ ap (λ (ls : List Line). if on_past l.line then l.line ∷ ls else ls) rest

  pub lo_is_past : lo_of i h.row.address (lines_of w.log) ≡ past_of i h.row.address (lines_of w.log)
  lo_is_past = past w.log (λ l c. c)
