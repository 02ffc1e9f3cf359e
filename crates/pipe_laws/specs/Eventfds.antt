-- Acts on an eventfd, one after another, and how often a bit of poll(2) came to hold for it.
use Rattle.std.specs.Prelude.{ℕ, ◌||◌, ◌==◌, ◌&&◌, Bool, false, List, [], ◌∷◌, count_by, min, nat_lt}
use Rattle.sim_base.specs.Poll.{pollin}
use Rattle.host_fds.specs.declared.eventfd.Eventfd.{Eventfd}
use Rattle.host_fds.specs.Eventfd.{has_room, written, read, ready}
use Rattle.host_fds.specs.Rises.{rose, most}

-- a number is added, where there is room for it, or a read takes what it takes
pub data EventfdAct : Type 0 where
  Adds : ℕ → EventfdAct
  Takes : EventfdAct

abbrev pub eventfd_after : EventfdAct → Eventfd → Eventfd
eventfd_after (Adds number) e = written number e
eventfd_after Takes e = read e

abbrev pub eventfd_after_all : List EventfdAct → Eventfd → Eventfd
eventfd_after_all [] e = e
eventfd_after_all (act ∷ acts) e = eventfd_after_all acts (eventfd_after act e)

-- an act puts something in where it adds a number above 0 for which there is room
abbrev pub puts_in : EventfdAct → Eventfd → Bool
puts_in (Adds number) e = has_room number e && nat_lt 0 number
puts_in Takes e = false

-- whether the bit rose in an act, and in each of some acts
abbrev pub rises_in : ℕ → EventfdAct → Eventfd → Bool
rises_in bit act e = (bit == pollin && puts_in act e) || rose bit (ready e) (ready (eventfd_after act e))

abbrev pub rises_in_each : ℕ → List EventfdAct → Eventfd → List Bool
rises_in_each bit [] e = []
rises_in_each bit (act ∷ acts) e = rises_in bit act e ∷ rises_in_each bit acts (eventfd_after act e)

-- in how many of them; a count stands still at the most that it counts to
abbrev pub rise_count : ℕ → List EventfdAct → Eventfd → ℕ
rise_count bit acts e = min (count_by (λ b. b) (rises_in_each bit acts e)) most
