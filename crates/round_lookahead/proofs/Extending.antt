-- A world later in a run has the same rows, and more that was written and logged.
use Rattle.std.proofs.Common.{◌≡◌, ℕ, zero, suc, List, [], ◌∷◌, ◌++◌, map, length, Option, Some, None, nat_lt, slice_get, slice_set, refl, sym, ap, subst, ◌∙◌, append_assoc, append-nil}
use Rattle.sim_base.specs.declared.event.Event.{Event}
use Rattle.file_calls.specs.declared.task.Output.{Output}
use Rattle.host_link.specs.declared.line.Line.{Line}
use Rattle.host_link.specs.Net.{Net}
use Rattle.host_state.specs.Extends.{IsLater, AreLater, Extends}
use Rattle.host_state.specs.Fire.{fire, wrote}
use Rattle.host_state.specs.Fits.{model, fires_before_stop}
use Rattle.host_link.specs.Home.{home}
use Rattle.host_state.specs.HostRecord.{HostRecord}
use Rattle.host_state.specs.World.{World}
use Rattle.host_state.proofs.Growth.{by_if}
use Rattle.round_lookahead.proofs.RowsKept.{row_kept}
use Rattle.world_order.specs.Model.{Fired, fires, fires_at}
use Rattle.world_order.specs.World as order
use Rattle.world_order.proofs.Homes.{some_is}
use Rattle.world_order.proofs.Turns.{next_turn}

later_refl : (h : HostRecord) → IsLater h h
later_refl h = record { row = refl; more = []; written = sym (append-nil h.written) }

later_trans : (h k l : HostRecord) → IsLater h k → IsLater k l → IsLater h l
later_trans h k l a b = record {
  row = b.row ∙ a.row;
  more = a.more ++ b.more;
  written = b.written ∙ ap (λ (os : List Output). os ++ b.more) a.written ∙ append_assoc h.written a.more b.more;
}

all_refl : (hs : List HostRecord) → AreLater hs hs
all_refl [] = tt
all_refl (h ∷ hs) = (later_refl h, all_refl hs)

all_trans : (hs ks ls : List HostRecord) → AreLater hs ks → AreLater ks ls → AreLater hs ls
all_trans [] [] [] a b = tt
all_trans [] [] (l ∷ ls) a b = absurd b
all_trans [] (k ∷ ks) ls a b = absurd a
all_trans (h ∷ hs) [] ls a b = absurd a
all_trans (h ∷ hs) (k ∷ ks) [] a b = absurd b
all_trans (h ∷ hs) (k ∷ ks) (l ∷ ls) a b = (later_trans h k l a.0 b.0, all_trans hs ks ls a.1 b.1)

pub extends_refl : (w : World) → Extends w w
extends_refl w = record { hosts = all_refl w.hosts; more = []; log = sym (append-nil w.log) }

pub extends_trans : (w v u : World) → Extends w v → Extends v u → Extends w u
extends_trans w v u a b = record {
  hosts = all_trans w.hosts v.hosts u.hosts a.hosts b.hosts;
  more = a.more ++ b.more;
  log = b.log ∙ ap (λ (ls : List (order.Logged Line)). ls ++ b.more) a.log ∙ append_assoc w.log a.more b.more;
}

-- as many hosts, with the same rows
pub later_count : (hs ks : List HostRecord) → AreLater hs ks → length ks ≡ length hs
later_count [] [] a = refl
later_count [] (k ∷ ks) a = absurd a
later_count (h ∷ hs) [] a = absurd a
later_count (h ∷ hs) (k ∷ ks) a = ap suc (later_count hs ks a.1)

pub later_rows : (hs ks : List HostRecord) → AreLater hs ks → map (λ (h : HostRecord). h.row) ks ≡ map (λ (h : HostRecord). h.row) hs
later_rows [] [] a = refl
later_rows [] (k ∷ ks) a = absurd a
later_rows (h ∷ hs) [] a = absurd a
later_rows (h ∷ hs) (k ∷ ks) a = λ i. a.0.row i ∷ later_rows hs ks a.1 i

-- ---- a firing

fired_later : (net : Net) (h : HostRecord) (e : Event) → IsLater h (fires_before_stop net h e).host
fired_later net h e =
    by_if (λ (f : Fired HostRecord Line). IsLater h f.host) (nat_lt e.key.due.nanos net.stop.nanos) (fire net h e) (record { host = h; made = []; lines = [] })
    (λ _. record { row = row_kept net e h; more = wrote net h e; written = refl })
    (λ _. later_refl h)

later_set : (hs : List HostRecord) (i : ℕ) (h k : HostRecord) → slice_get hs i ≡ Some h → IsLater h k → AreLater hs (slice_set hs i k)
later_set [] i h k at is = absurd (let e : None ≡ Some h = at in cc)
later_set (x ∷ xs) zero h k at is = (subst (λ (y : HostRecord). IsLater y k) (sym (some_is x h at)) is, all_refl xs)
later_set (x ∷ xs) (suc i) h k at is = (later_refl x, later_set xs i h k at is)

fires_later : (net : Net) (hosts : List HostRecord) (e : Event) (found : Option HostRecord) → slice_get hosts (home net e) ≡ found → AreLater hosts (fires_at (model net) hosts e found).hosts
fires_later net hosts e None at = all_refl hosts
fires_later net hosts e (Some h) at = later_set hosts (home net e) h (fires_before_stop net h e).host at (fired_later net h e)

-- ---- turns

turn_extends : (net : Net) (stop : ℕ) (w v : World) → order.next (model net) stop w ≡ Some v → Extends w v
turn_extends net stop w v is =
    let t = next_turn (model net) stop w v is in
    subst (Extends w) t.after
    (record {
      hosts = fires_later net w.hosts t.event (slice_get w.hosts (home net t.event)) refl;
      more = order.logged t.event.key (fires (model net) w.hosts t.event).lines;
      log = refl;
    })

-- the result of a run, up to any stop, extends the world that the run is from
pub result_extends : (net : Net) (stop : ℕ) (r w : World) → order.IsResult (model net) stop r w → Extends w r
result_extends net stop r w (order.is_over w' over same) = subst (Extends w) same (extends_refl w)
result_extends net stop r w (order.goes_on w' v is rest) = extends_trans w v r (turn_extends net stop w v is) (result_extends net stop r v rest)
