-- Rises that an eventfd keeps are those that are counted.
use Rattle.std.proofs.Common.{◌≡◌, ℕ, ◌+◌, Bool, true, false, not, ◌&&◌, ◌||◌, if◌then◌else◌, List, [], ◌∷◌, nat_lt, refl, sym, ap, ◌∙◌}
use Rattle.sim_base.specs.Poll.{pollin, pollout}
use Rattle.host_fds.specs.declared.eventfd.Eventfd.{Eventfd}
use Rattle.host_fds.specs.Eventfd.{new_eventfd, acted, has_room, ready}
use Rattle.host_fds.specs.Rises.{counted, has_bit, rose}
use Rattle.pipe_laws.specs.Eventfds.{EventfdAct, Adds, Takes, eventfd_after, eventfd_after_all, rises_in_each, rise_count}
use Rattle.pipe_laws.proofs.Counting.{run, counted_from_none}

-- a bit doesn't rise where nothing changes
holds_still : (b : Bool) → (b && not b) ≡ false
holds_still true = refl
holds_still false = refl

pub never_rises : (bit ready : ℕ) → rose bit ready ready ≡ false
never_rises bit ready = holds_still (has_bit bit ready)

-- the eventfd after a number was added, if there was room for it
added : Bool → ℕ → Eventfd → Eventfd
added room number e = if room then acted e (nat_lt 0 number) (record e { count = e.count + number }) else e

input_added : (room : Bool) (number : ℕ) (e : Eventfd)
    → (added room number e).rises.input ≡ counted ((room && nat_lt 0 number) || rose pollin (ready e) (ready (added room number e))) e.rises.input
unfolding added
input_added true number e = refl
input_added false number e = ap (λ b. counted b e.rises.input) (sym (never_rises pollin (ready e)))

output_added : (room : Bool) (number : ℕ) (e : Eventfd)
    → (added room number e).rises.output ≡ counted (rose pollout (ready e) (ready (added room number e))) e.rises.output
unfolding added
output_added true number e = refl
output_added false number e = ap (λ b. counted b e.rises.output) (sym (never_rises pollout (ready e)))

input : (acts : List EventfdAct) (e : Eventfd) → (eventfd_after_all acts e).rises.input ≡ run (rises_in_each pollin acts e) e.rises.input
unfolding added
input [] e = refl
input (Adds n ∷ acts) e = input acts (eventfd_after (Adds n) e) ∙ ap (run (rises_in_each pollin acts (eventfd_after (Adds n) e))) (input_added (has_room n e) n e)
input (Takes ∷ acts) e = input acts (eventfd_after Takes e)

output : (acts : List EventfdAct) (e : Eventfd) → (eventfd_after_all acts e).rises.output ≡ run (rises_in_each pollout acts e) e.rises.output
unfolding added
output [] e = refl
output (Adds n ∷ acts) e = output acts (eventfd_after (Adds n) e) ∙ ap (run (rises_in_each pollout acts (eventfd_after (Adds n) e))) (output_added (has_room n e) n e)
output (Takes ∷ acts) e = output acts (eventfd_after Takes e)

pub input_counted : (acts : List EventfdAct) (count : ℕ) (semaphore : Bool)
    → (eventfd_after_all acts (new_eventfd count semaphore)).rises.input ≡ rise_count pollin acts (new_eventfd count semaphore)
input_counted acts count semaphore = input acts (new_eventfd count semaphore) ∙ counted_from_none (rises_in_each pollin acts (new_eventfd count semaphore))

pub output_counted : (acts : List EventfdAct) (count : ℕ) (semaphore : Bool)
    → (eventfd_after_all acts (new_eventfd count semaphore)).rises.output ≡ rise_count pollout acts (new_eventfd count semaphore)
output_counted acts count semaphore = output acts (new_eventfd count semaphore) ∙ counted_from_none (rises_in_each pollout acts (new_eventfd count semaphore))
