-- the printed lines of connections tell of faithful streams
use Rattle.std.proofs.Common.{◌≡◌, ℕ, ◌≤◌, ◌==◌, ◌||◌, Bool, true, false, List, map, flat_map, find, Contains, Option, Some, None, unwrap_or, slice_get, refl, sym, ap, subst, ◌∙◌, arith}
use Rattle.std.proofs.lemmas.Bool.Decides.{nat_tests}
use Rattle.std.proofs.lemmas.List.Folds.{flat_map-map}
use Rattle.sim_base.specs.Addresses.{loopback, is_same_ip}
use Rattle.sim_base.specs.declared.address.Addr.{Addr}
use Rattle.sock_tcp.specs.connection.Tcb.{Tcb}
use Rattle.tcp_laws.proofs.Tests.{by_test}
use Rattle.tcp_streams.specs.Exchange as streams
use Rattle.tcp_streams.specs.Frame.{everywhere}
use Rattle.tcp_streams.specs.Sound.{IsSound}
use Rattle.tcp_streams.specs.Stream.{is_at}
use Rattle.tcp_streams.proofs.Ends.{ends_of}
use Rattle.tcp_streams.proofs.Members.{IsIn_from_Contains, found}
use Rattle.tcp_streams.proofs.Promise.{exchange_sound}
use Rattle.out_text.specs.declared.streams.Fate.TheVariants.{Counted}
use Rattle.out_text.specs.declared.streams.Stream.{Stream}
use Rattle.host_sockets.specs.declared.streams.HostStream.{HostStream}
use Rattle.host_sockets.specs.Streams.{streams_of}
use Rattle.stream_pairs.specs.Directions.{Kept, is_within, is_between, is_long, unused, kept_at, other_end, direction, directions}
use Rattle.host_link.specs.Net.{Net}
use Rattle.host_rows.specs.declared.row.Row.{Row}
use Rattle.host_state.specs.HostRecord.{HostRecord}
use Rattle.host_state.specs.World.{World, opening_world}
use Rattle.host_state.specs.WorldStreams.{kept_by, streams_in}
use Rattle.socket_streams.specs.Inside.{IsHome}
use Rattle.run_streams.specs.Exchanges.{host_records, world_records}
use Rattle.run_streams.specs.Run.{IsReached, AreHosts}
use Rattle.run_streams.proofs.Alone.{flat_gives, map_gives, mapped_from, alone}
use Rattle.run_streams.proofs.Counts.{Holds, unused_holds, ends_hold, told_of_fate}
use Rattle.run_streams.proofs.Every.{AllAt, flat_member}
use Rattle.run_streams.proofs.Homes.{IsHomed}
use Rattle.run_streams.proofs.Insides.{within}
use Rattle.run_streams.proofs.Kept.{IsOnly, only_kept, only_found}
use Rattle.run_streams.proofs.Worlds.{run_led, wide}

-- by what was found, or else by what stands for nothing
by_found : {A : Type 0} (P : A → Type 0) (o : Option A) (none : A) → P none → ((a : A) → o ≡ Some a → P a) → P (unwrap_or o none)
by_found P None none here f = here
by_found P (Some a) none here f = f a refl

by_other : (P : HostStream → Type 0) (own peer : Addr) (o : Option Kept) → P (unused own peer) → ((k : Kept) → o ≡ Some k → (s : HostStream) → find (is_between own peer) k.streams ≡ Some s → P s) → P (kept_at own peer o)
by_other P own peer None here f = here
by_other P own peer (Some k) here f =
    by_found P (find (is_between own peer) k.streams) (unused own peer) here (f k refl)

-- an address of the host that isn't 127.0.0.1 is its own
own_address : (a b : Bool) → a ≡ false → (a || b) ≡ true → b ≡ true
own_address true b e k = cc
own_address false b e k = k

same_address : (a b c : ℕ) → (a == b) ≡ true → (a == c) ≡ true → (b == c) ≡ true
same_address a b c e k = grind (arith, nat_tests)

module _ (net : Net) (rows : List Row) (w : World) (are : AreHosts net rows) (reached : IsReached net (opening_world rows) w) (homed : AllAt (IsHomed rows) w.hosts) where
  sound : (i : ℕ) (h : HostRecord) (r : Tcb) → slice_get w.hosts i ≡ Some h → Contains (host_records h) r → IsSound r
  sound i h r at c =
      let led = run_led net rows w reached in
      exchange_sound everywhere led.exchanges led.steps r
      (subst (λ (n : streams.Exchange). Contains n.records r) (sym led.last) (flat_member host_records w.hosts i h r at c))

  -- a record between hosts is at the host that has its own address
  at_address : (i : ℕ) (h : HostRecord) (own peer : Addr) (r : Tcb) → (at : slice_get w.hosts i ≡ Some h) → is_same_ip own.ip loopback ≡ false → Contains (host_records h) r → is_at own peer r ≡ true → is_same_ip own.ip (homed i h at).row.address ≡ true
  at_address i h own peer r at outside c ends =
      let home = homed i h at in
      let here : IsHome home.row.address own.ip =
      subst (λ (a : Addr). IsHome home.row.address a.ip) (ends_of own peer r ends).0 (home.records r c) in
      own_address (is_same_ip own.ip loopback) (is_same_ip own.ip home.row.address) outside here

  -- so the only one of a host is the only one of all
  wide_only : (i : ℕ) (h : HostRecord) (own peer : Addr) (s : HostStream) → slice_get w.hosts i ≡ Some h → is_same_ip own.ip loopback ≡ false → IsOnly own peer (host_records h) s → IsOnly own peer (world_records w) s
  wide_only i h own peer s at outside only = record {
    tcb = only.tcb;
    among = flat_member host_records w.hosts i h only.tcb at only.among;
    ends = only.ends;
    once = alone (is_at own peer) host_records w.hosts i h at
        (λ j k r there c ends.
        let here = homed i h at in
        let elsewhere = homed j k there in
        are.apart i j here.row elsewhere.row here.there elsewhere.there
        (same_address own.ip.bits here.row.address.bits elsewhere.row.address.bits
        (at_address i h own peer only.tcb at outside only.among only.ends)
        (at_address j k own peer r there outside c ends)))
        ∙ only.once;
    is = only.is;
  }

  abbrev all : List Kept
  all = map kept_by w.hosts

  -- what is told where neither end was used again, and neither wrote too much
  abbrev HoldsIfTold : HostStream → HostStream → Type 0
  HoldsIfTold s o = o.reused ≡ false → is_long o ≡ false → Holds s o

  module _ (i : ℕ) (h : HostRecord) (s : HostStream) (at : slice_get w.hosts i ≡ Some h) (writer : IsOnly s.own s.peer (host_records h) s) (short : is_long s ≡ false) where
    within_host : is_within s ≡ true → HoldsIfTold s (kept_at s.peer s.own (Some (kept_by h)))
    within_host stays =
        by_other (HoldsIfTold s) s.peer s.own (Some (kept_by h)) (λ once few. unused_holds s.peer s.own s)
        (λ k is o e once few.
        let same : kept_by h ≡ k = cc in
        let reader = only_found s.peer s.own h.parts.sockets o (ap (λ (x : Kept). find (is_between s.peer s.own) x.streams) same ∙ e) once in
        ends_hold s.own s.peer (host_records h) s o writer reader short few (sound i h reader.tcb at reader.among)
        (within net rows w i h s.own s.peer are.outside are.placed reached at stays))

    neither : (a b : Bool) → (a || b) ≡ false → (a ≡ false) × (b ≡ false)
    neither true b e = cc
    neither false b e = (refl, e)

    between_hosts : is_within s ≡ false → HoldsIfTold s (kept_at s.peer s.own (find (λ (k : Kept). is_same_ip s.peer.ip k.address) all))
    unfolding wide_only
    between_hosts away =
        let outside = neither (is_same_ip s.own.ip loopback) (is_same_ip s.peer.ip loopback) away in
        by_other (HoldsIfTold s) s.peer s.own (find (λ (k : Kept). is_same_ip s.peer.ip k.address) all) (λ once few. unused_holds s.peer s.own s)
        (λ k is o e once few.
        let f = found (λ (x : Kept). is_same_ip s.peer.ip x.address) all k is in
        let g = map_gives kept_by w.hosts k f.0 in
        let reader = only_found s.peer s.own g.element.parts.sockets o (ap (λ (x : Kept). find (is_between s.peer s.own) x.streams) (sym g.is) ∙ e) once in
        ends_hold s.own s.peer (world_records w) s o (wide_only i h s.own s.peer s at outside.0 writer) (wide_only g.place g.element s.peer s.own o g.there outside.1 reader) short few
        (sound g.place g.element reader.tcb g.there reader.among)
        (wide net rows w s.own s.peer reached))

    ends_told : HoldsIfTold s (other_end all (kept_by h) s)
    ends_told =
        by_test (λ (o : Option Kept). HoldsIfTold s (kept_at s.peer s.own o)) (is_within s) (Some (kept_by h)) (find (λ (k : Kept). is_same_ip s.peer.ip k.address) all)
        within_host between_hosts

  -- one line
  pub record Line (n m : ℕ) (ended : Bool) : Type 0 where
    pub most : m ≤ n
    pub whole : ended ≡ true → m ≡ n

  direction_holds : (i : ℕ) (h : HostRecord) (s : HostStream) (x : Stream) (n m : ℕ) (ended : Bool) → slice_get w.hosts i ≡ Some h → Contains (streams_of h.parts.sockets) s → x ≡ direction all (kept_by h) s → x.fate ≡ Counted n m ended → Line n m ended
  direction_holds i h s x n m ended at c is e =
      let o = other_end all (kept_by h) s in
      let told = told_of_fate s o n m ended (ap (λ (y : Stream). y.fate) (sym is) ∙ e) in
      let holds = ends_told i h s at (only_kept h.parts.sockets s c told.once) told.short told.other_once told.other_short in
      record {
        most = subst (λ (x : ℕ). m ≤ x) told.written (subst (λ (x : ℕ). x ≤ s.written) told.read holds.most);
        whole = λ k. sym told.read ∙ (holds.whole (told.seen ∙ k) ∙ told.written);
      }

  pub line_holds : (x : Stream) (n m : ℕ) (ended : Bool) → Contains (streams_in w) x → x.fate ≡ Counted n m ended → Line n m ended
  unfolding directions
  line_holds x n m ended c e =
      let of_host : HostRecord → List Stream = λ h. map (direction all (kept_by h)) (streams_of h.parts.sockets) in
      let there : Contains (flat_map of_host w.hosts) x =
      subst (λ (xs : List Stream). Contains xs x) (flat_map-map (λ (k : Kept). map (direction all k) k.streams) kept_by w.hosts) c in
      let host = flat_gives of_host w.hosts x there in
      let from = mapped_from (direction all (kept_by host.element)) (streams_of host.element.parts.sockets) x (IsIn_from_Contains x (of_host host.element) host.is) in
      direction_holds host.place host.element from.0 x n m ended host.there from.1.0 from.1.1 e
