-- What a host begins with fits.
use Rattle.std.proofs.Common.{◌≡◌, ℕ, ◌+◌, ◌-◌, ◌^◌, ◌<◌, ◌≤◌, true, List, [], ◌∷◌, ◌++◌, length, All, Option, Some, None, nat_lt, refl, ◌∙◌, arith}
use Rattle.std.proofs.lemmas.Bool.Decides.{nat_tests}
use Rattle.std.proofs.lemmas.List.{length_push}
use Rattle.std.proofs.lemmas.List.Elements.{All-push}
use Rattle.sim_base.specs.declared.event.Event.{Event}
use Rattle.sim_base.specs.declared.event.What.{What}
use Rattle.sim_base.specs.declared.event.What.TheVariants as what
use Rattle.sim_base.specs.declared.time.Time.{Time}
use Rattle.net_iface.specs.Lane.{AllFit}
use Rattle.host_link.specs.Net.{Net}
use Rattle.host_rows.specs.declared.row.ProcessRow.{ProcessRow}
use Rattle.host_rows.specs.declared.row.Row.{Row}
use Rattle.host_state.specs.Fits.{FitsWhat, FitsNet, IsEventOf, OpensFit}
use Rattle.host_link.specs.Home.{home, home_of}
use Rattle.host_link.specs.Link.{LinkState, new_link, event_of, numbers}
use Rattle.host_link.specs.Beginning.{begins_shutdown, begins_process, begins_all}
use Rattle.host_state.specs.Opening.{host_begins, opening}
use Rattle.world_order.specs.Premises.{AreNumbered}
use Rattle.host_state.proofs.Growth.{by_if}

-- one event more
AreNumbered_push : (n start : ℕ) (es : List Event) (e : Event) → AreNumbered n start es → e.key.source.index ≡ n → e.key.number ≡ start + length es → AreNumbered n start (es ++ e ∷ [])
AreNumbered_push n start [] e numbered source number = let first : e.key.number ≡ start = omega (arith, number) in (source, first, tt)
AreNumbered_push n start (f ∷ es) e numbered source number =
    let next : e.key.number ≡ (start + 1) + length es = omega (arith, number) in
    (numbered.0, numbered.1, AreNumbered_push n (start + 1) es e numbered.2 source next)

below : (a b : ℕ) → nat_lt a b ≡ true → a + 1 ≤ b
below a b e = grind (arith, nat_tests)

-- the events that a host begins with
record Opens (net : Net) (n : ℕ) (link : LinkState) : Type 0 where
  number : link.number ≡ n
  within : n < length net.known.book
  time : link.time.nanos ≡ 0
  numbered : AreNumbered n 0 link.made
  counted : link.next ≡ length link.made
  limited : link.next ≤ 2 ^ 64 - 1
  events : All (IsEventOf net) link.made
  own : All (λ (e : Event). home net e ≡ n) link.made
  up : AllFit link.up.waiting
  down : AllFit link.down.waiting

module _ (net : Net) (n : ℕ) where
  numbers_opens : (at : Time) (w : What) (link : LinkState) → Opens net n link → FitsWhat net w → home_of net link.number w ≡ link.number → Opens net n (numbers at w link)
  unfolding numbers
  numbers_opens at w link k fits here = by_if (Opens net n) (nat_lt link.next (2 ^ 64 - 1)) _ _
      (λ more. record {
        number = k.number;
        within = k.within;
        time = k.time;
        numbered = AreNumbered_push n 0 link.made (event_of link at w) k.numbered k.number (omega (arith, k.counted));
        counted = omega (arith, k.counted, length_push link.made (event_of link at w));
        limited = below link.next (2 ^ 64 - 1) more;
        events = All-push (IsEventOf net) link.made (event_of link at w) k.events (record { source = rw k.number k.within; what = fits });
        own = All-push (λ (e : Event). home net e ≡ n) link.made (event_of link at w) k.own (here ∙ k.number);
        up = k.up;
        down = k.down;
      })
      (λ full. k)

  shutdown_opens : (p : ℕ) (due : Option Time) (link : LinkState) → Opens net n link → Opens net n (begins_shutdown p due link)
  shutdown_opens p None link k = k
  shutdown_opens p (Some due) link k = numbers_opens due (what.Shutdown p) link k tt refl

  process_opens : (p : ℕ) (row : ProcessRow) (link : LinkState) → Opens net n link → Opens net n (begins_process p row link)
  process_opens p row link k = shutdown_opens p row.shutdown _ (numbers_opens row.start (what.Start p) link k tt refl)

  all_opens : (p : ℕ) (rows : List ProcessRow) (link : LinkState) → Opens net n link → Opens net n (begins_all p rows link)
  unfolding begins_all
  all_opens p [] link k = k
  all_opens p (row ∷ rows) link k = all_opens (p + 1) rows (begins_process p row link) (process_opens p row link k)

new_opens : (net : Net) (row : Row) → row.host.index < length net.known.book → Opens net row.host.index (new_link row)
new_opens net row within = record {
  number = refl;
  within = within;
  time = refl;
  numbered = tt;
  counted = refl;
  limited = omega arith;
  events = λ k d h. absurd (omega (arith, h));
  own = λ k d h. absurd (omega (arith, h));
  up = tt;
  down = tt;
}

pub opens_fit : (net : Net) (row : Row) → FitsNet net row → OpensFit net row.host.index (opening row)
opens_fit net row fits =
    let k : Opens net row.host.index (host_begins row).link = all_opens net row.host.index 0 row.processes (new_link row) (new_opens net row fits.within) in
    record {
      host = record { number = k.number; within = k.within; limited = k.limited; up = k.up; down = k.down; made = refl; lines = refl };
      clock = k.time;
      numbered = k.numbered;
      counted = k.counted;
      written = refl;
      events = k.events;
      own = k.own;
    }
