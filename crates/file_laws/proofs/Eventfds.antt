-- an eventfd's life counts its rises
use Rattle.std.proofs.Common.{◌≡◌, ℕ, ◌+◌, Bool, true, false, List, [], ◌∷◌, Some, nat_lt, if◌then◌else◌, refl, sym, ap, subst}
use Rattle.sim_base.specs.Poll.{pollerr, pollhup, pollrdhup}
use Rattle.host_fds.specs.declared.eventfd.Eventfd.{Eventfd}
use Rattle.host_fds.specs.declared.rises.Rises.{Rises}
use Rattle.host_fds.specs.Eventfd.{new_eventfd, acted, has_room, ready}
use Rattle.host_fds.specs.Rises.{counted, rose}
use Rattle.host_files.specs.Slots.{at}
use Rattle.pipe_laws.specs.Eventfds.{EventfdAct, Adds, Takes, eventfd_after, eventfd_after_all, rises_in, rise_count}
use Rattle.pipe_laws.proofs.Eventfds.{never_rises, input_counted, output_counted}
use Rattle.file_laws.specs.Counted.{AreCounts, EventfdIsCounted}
use Rattle.file_laws.specs.Kinds.{eventfds}
use Rattle.file_laws.specs.Lives.{SlotAct, Life, slots_of, life_of, left_by}
use Rattle.file_laws.proofs.Bits.{eventfd_counted}
use Rattle.file_laws.proofs.Lives.{lives}

left_after : (acts : List EventfdAct) (e f : Eventfd) → left_by eventfds acts (Some e) ≡ Some f → f ≡ eventfd_after_all acts e
left_after [] e f h = cc
left_after (Adds number ∷ acts) e f h = left_after acts (eventfd_after (Adds number) e) f h
left_after (Takes ∷ acts) e f h = left_after acts (eventfd_after Takes e) f h

-- the eventfd after a number was added, if there was room for it
added : Bool → ℕ → Eventfd → Eventfd
added room number e = if room then acted e (nat_lt 0 number) (record e { count = e.count + number }) else e

module _ (bit : ℕ) (field : Rises → ℕ) where
  abbrev Moves : Type 0
  Moves = (act : EventfdAct) (e : Eventfd) → field (eventfd_after act e).rises ≡ counted (rises_in bit act e) (field e.rises)

  -- a bit by which nothing is put in
  rests : (e : Eventfd) → field e.rises ≡ counted (rose bit (ready e) (ready e)) (field e.rises)
  rests e = ap (λ (b : Bool). counted b (field e.rises)) (sym (never_rises bit (ready e)))

err_added : (room : Bool) (number : ℕ) (e : Eventfd) → (added room number e).rises.error ≡ counted (rose pollerr (ready e) (ready (added room number e))) e.rises.error
unfolding added
err_added true number e = refl
err_added false number e = rests pollerr (λ r. r.error) e

hup_added : (room : Bool) (number : ℕ) (e : Eventfd) → (added room number e).rises.hangup ≡ counted (rose pollhup (ready e) (ready (added room number e))) e.rises.hangup
unfolding added
hup_added true number e = refl
hup_added false number e = rests pollhup (λ r. r.hangup) e

end_added : (room : Bool) (number : ℕ) (e : Eventfd) → (added room number e).rises.peer_end ≡ counted (rose pollrdhup (ready e) (ready (added room number e))) e.rises.peer_end
unfolding added
end_added true number e = refl
end_added false number e = rests pollrdhup (λ r. r.peer_end) e

err_moves : Moves pollerr (λ r. r.error)
unfolding added
err_moves (Adds number) e = err_added (has_room number e) number e
err_moves Takes e = refl

hup_moves : Moves pollhup (λ r. r.hangup)
unfolding added
hup_moves (Adds number) e = hup_added (has_room number e) number e
hup_moves Takes e = refl

end_moves : Moves pollrdhup (λ r. r.peer_end)
unfolding added
end_moves (Adds number) e = end_added (has_room number e) number e
end_moves Takes e = refl

counts : (acts : List EventfdAct) (count : ℕ) (semaphore : Bool) → AreCounts (eventfd_after_all acts (new_eventfd count semaphore)).rises (λ bit. rise_count bit acts (new_eventfd count semaphore))
counts acts count semaphore = record {
  input = input_counted acts count semaphore;
  output = output_counted acts count semaphore;
  error = eventfd_counted pollerr (λ r. r.error) err_moves acts count semaphore refl;
  hangup = eventfd_counted pollhup (λ r. r.hangup) hup_moves acts count semaphore refl;
  peer_end = eventfd_counted pollrdhup (λ r. r.peer_end) end_moves acts count semaphore refl;
}

pub eventfd_is_counted : (history : List (SlotAct (ℕ × Bool) EventfdAct)) (k : ℕ) (e : Eventfd) → at k (slots_of eventfds history) ≡ Some e → (life : Life (ℕ × Bool) EventfdAct) × ((life_of eventfds k history ≡ Some life) × EventfdIsCounted life e)
eventfd_is_counted history k e there =
    let l = lives eventfds history k e there in
    let first = new_eventfd l.lived.made.0 l.lived.made.1 in
    let same : e ≡ eventfd_after_all l.lived.acts first = left_after l.lived.acts first e l.left in (
      l.lived,
      (
        l.is,
        record {
          state = same;
          rises = subst (λ (f : Eventfd). AreCounts f.rises (λ bit. rise_count bit l.lived.acts first)) (sym same) (counts l.lived.acts l.lived.made.0 l.lived.made.1);
        },
      ),
    )
