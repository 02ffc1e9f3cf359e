-- The hosts of a net are what the laws of worlds and rounds ask for.
use Rattle.std.proofs.Common.{◌≡◌, ◌≢◌, ℕ, ◌+◌, ◌-◌, ◌^◌, ◌<◌, ◌≤◌, Bool, true, false, List, [], ◌∷◌, ◌++◌, length, Option, Some, None, nat_lt, cond, refl, sym, ap, subst, ◌∙◌, unwrap_or, arith, rules, tests}
use Rattle.std.specs.Prelude.{All, if◌then◌else◌}
use Rattle.std.specs.List.{position_from}
use Rattle.std.proofs.lemmas.List.Elements.{All-nil, All-weaker}
use Rattle.sim_base.specs.Units.{latest_time}
use Rattle.sim_base.specs.declared.address.Ip.{Ip}
use Rattle.sim_base.specs.declared.event.Event.{Event}
use Rattle.sim_base.specs.declared.event.What.{What}
use Rattle.sim_base.specs.declared.event.What.TheVariants as what
use Rattle.sim_base.specs.declared.time.Time.{Time}
use Rattle.sim_base.specs.Addresses.{host_at, is_same_ip}
use Rattle.world_order.specs.Model.{Fired}
use Rattle.world_order.specs.Premises.{AreNumbered, IsFar, IsFit, Simulation}
use Rattle.host_link.specs.declared.line.Line.{Line}
use Rattle.host_link.specs.Net.{Net}
use Rattle.host_state.specs.Fire.{at_time, has_acted, fire}
use Rattle.host_state.specs.Fits.{model, fires_before_stop, IsEventOf, IsHostOf, IsLookaheadOf, IsShort, FiringsFit}
use Rattle.host_link.specs.Home.{home, home_of}
use Rattle.host_state.specs.HostRecord.{HostRecord}
use Rattle.host_state.proofs.Growth.{IsMade, IsSound, Grows, by_if}
use Rattle.host_state.proofs.HostGrowth.{grows_acted}

-- ---- where events fire

found_at : (i k n : ℕ) (here : Bool) (later : Option ℕ) → (later ≡ Some k → k < (i + 1) + n) → cond here (Some i) later ≡ Some k → k < i + (n + 1)
found_at i k n true later more e = let same : i ≡ k = cc in omega arith
found_at i k n false later more e = let below : k < (i + 1) + n = more e in omega arith

found_below : {K : Type 0} (test : K → Bool) (i k : ℕ) (xs : List K) → position_from test i xs ≡ Some k → k < i + length xs
found_below test i k [] e = absurd (cc)
found_below test i k (x ∷ xs) e =
    let below : k < i + (length xs + 1) = found_at i k (length xs) (test x) (position_from test (i + 1) xs) (found_below test (i + 1) k xs) e in
    omega arith

host_below : (hosts : List Ip) (ip : Ip) (k : ℕ) → host_at hosts ip ≡ Some k → k < length hosts
unfolding host_at
host_below hosts ip k e = let below : k < 0 + length hosts = found_below (is_same_ip ip) 0 k hosts e in omega arith

home_below : (count source : ℕ) (found : Option ℕ) → source < count → ((k : ℕ) → found ≡ Some k → k < count) → unwrap_or found source < count
home_below count source None own told = own
home_below count source (Some k) own told = told k refl

home_in : (net : Net) (source : ℕ) (w : What) → source < length net.known.book → home_of net source w < length net.known.book
home_in net source (what.Packet packet) own = home_below _ source (host_at net.known.book packet.to.ip) own (λ k e. host_below net.known.book packet.to.ip k e)
home_in net source (what.Start p) own = own
home_in net source (what.Go p) own = own
home_in net source (what.Shutdown p) own = own
home_in net source (what.Alarm target serial) own = own
home_in net source (what.Loop packet) own = own
home_in net source what.Up own = own
home_in net source what.Down own = own

-- an event fires at a host of the net
pub home_within : (net : Net) (e : Event) → IsEventOf net e → home net e < length net.known.book
home_within net e event = home_in net e.key.source.index e.what event.source

-- ---- firings

-- before the stop an event fires
fires_if : (b : Bool) (fired unfired : Fired HostRecord Line) → b ≡ true → (if b then fired else unfired) ≡ fired
fires_if true fired unfired is = refl
fires_if false fired unfired is = absurd (cc)

pub fires_before_stop_is : (net : Net) (host : HostRecord) (e : Event) → e.key.due.nanos < net.stop.nanos → fires_before_stop net host e ≡ fire net host e
fires_before_stop_is net host e before =
    let is : nat_lt e.key.due.nanos net.stop.nanos ≡ true = search rules in
    fires_if (nat_lt e.key.due.nanos net.stop.nanos) (fire net host e) (record { host = host; made = []; lines = [] }) is

module _ (net : Net) (lookahead : Option ℕ) (routes : IsLookaheadOf net lookahead) (short : IsShort lookahead) (early : net.stop.nanos ≤ latest_time)
    (host : HostRecord) (e : Event) (good : IsHostOf net (home net e) host) (clock : host.link.time.nanos ≤ e.key.due.nanos) where
  abbrev Made : Event → Type 0
  Made g = IsMade net lookahead host.link.number e.key.due g

  fired_fits : e.key.due.nanos < net.stop.nanos → IsFit (model net) lookahead (2 ^ 64 - 1) (IsHostOf net) (IsEventOf net) host e (fire net host e)
  fired_fits before =
      let within : host.link.number < length net.known.book = subst (λ (n : ℕ). n < length net.known.book) (sym good.number) good.within in
      let sound : IsSound net (at_time e.key.due host).link =
      record { within = within; early = omega arith; limited = good.limited; up = good.up; down = good.down } in
      let g : Grows net lookahead (at_time e.key.due host).link (has_acted net e host).link = grows_acted net lookahead routes short e host sound in
      let es : List Event = (has_acted net e host).link.made in
      let made : es ≡ g.more = g.made ∙ ap (λ (xs : List Event). xs ++ g.more) good.made in
      let each : All Made es = subst (λ (xs : List Event). All Made xs) (sym made) g.each in
      let numbered : AreNumbered (home net e) host.link.next es =
      subst (λ (n : ℕ). AreNumbered n host.link.next es) good.number
      (subst (λ (xs : List Event). AreNumbered host.link.number host.link.next xs) (sym made) g.numbered) in
      let time : (has_acted net e host).link.time.nanos ≡ e.key.due.nanos = ap (λ (t : Time). t.nanos) g.time in
      record {
        later = All-weaker Made (λ (x : Event). e.key.due.nanos < x.key.due.nanos) (λ x m. m.later) es each;
        far = All-weaker Made (λ (x : Event). home net x ≢ home net e → IsFar lookahead e.key.due.nanos x.key.due.nanos)
            (λ x m differ. m.far (λ same. differ (same ∙ good.number))) es each;
        numbered = numbered;
        counted = g.counted ∙ ap (λ (xs : List Event). host.link.next + length xs) (sym made);
        limited = g.sound.limited;
        clock = omega arith;
        host = record {
          number = g.number ∙ good.number;
          within = good.within;
          limited = g.sound.limited;
          up = g.sound.up;
          down = g.sound.down;
          made = refl;
          lines = refl;
        };
        events = All-weaker Made (IsEventOf net) (λ x m. m.event) es each;
      }

  nothing_fits : IsFit (model net) lookahead (2 ^ 64 - 1) (IsHostOf net) (IsEventOf net) host e (record { host = host; made = []; lines = [] })
  nothing_fits = record {
    later = All-nil _;
    far = All-nil _;
    numbered = tt;
    counted = omega arith;
    limited = good.limited;
    clock = clock;
    host = good;
    events = All-nil _;
  }

  fits : IsFit (model net) lookahead (2 ^ 64 - 1) (IsHostOf net) (IsEventOf net) host e (fires_before_stop net host e)
  fits =
      by_if (IsFit (model net) lookahead (2 ^ 64 - 1) (IsHostOf net) (IsEventOf net) host e) (nat_lt e.key.due.nanos net.stop.nanos) _ _
      (λ is. let before : e.key.due.nanos < net.stop.nanos = search (rules, tests) in fired_fits before)
      (λ is. nothing_fits)

pub firings_fit : (net : Net) (lookahead : Option ℕ) → IsLookaheadOf net lookahead → IsShort lookahead → net.stop.nanos ≤ latest_time → FiringsFit net lookahead
firings_fit net lookahead routes short early = λ host e good event clock. fits net lookahead routes short early host e good clock

-- the hosts of a net, with a lookahead of its routes
abbrev pub simulation : (net : Net) (lookahead : Option ℕ) → IsLookaheadOf net lookahead → IsShort lookahead → net.stop.nanos ≤ latest_time → Simulation HostRecord Line
simulation net lookahead routes short early = record {
  model = model net;
  lookahead = lookahead;
  limit = 2 ^ 64 - 1;
  count = length net.known.book;
  IsHost = IsHostOf net;
  IsEvent = IsEventOf net;
  homes = λ e event. home_within net e event;
  fit = firings_fit net lookahead routes short early;
}
