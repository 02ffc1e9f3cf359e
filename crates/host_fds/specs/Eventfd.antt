-- An eventfd, as eventfd(2) has it: a counter, and how often it became ready.
use Rattle.std.specs.Prelude.{ℕ, ◌+◌, ◌-◌, ◌^◌, Bool, false, min, if◌then◌else◌, nat_lt, nat_le}
use Rattle.sim_base.specs.Poll.{pollin, pollout}
use Rattle.host_fds.specs.Pipe.{bit_of}
use Rattle.host_fds.specs.Rises.{no_rises, moved}
use Rattle.host_fds.specs.declared.eventfd.Eventfd.{Eventfd}

-- the most that it counts to
abbrev pub most : ℕ
most = 2 ^ 64 - 2

abbrev pub new_eventfd : ℕ → Bool → Eventfd
new_eventfd count semaphore = record { count = count; semaphore = semaphore; rises = no_rises }

-- its readiness: that there is a count, and that there is room for 1
abbrev pub ready : Eventfd → ℕ
ready e = bit_of pollin (nat_lt 0 e.count) + bit_of pollout (nat_lt e.count most)

-- what an act leaves of it: every act ends so
abbrev pub acted : Eventfd → Bool → Eventfd → Eventfd
acted before put_in e = record e { rises = moved (ready before) (ready e) put_in e.rises }

-- a read takes all of the count, and of a semaphore's 1
abbrev pub taken : Eventfd → ℕ
taken e = if e.semaphore then min 1 e.count else e.count

abbrev pub read : Eventfd → Eventfd
read e = acted e false (record e { count = e.count - taken e })

-- a write adds a number, where the sum isn't past the most
abbrev pub has_room : ℕ → Eventfd → Bool
has_room number e = nat_le (e.count + number) most

abbrev pub written : ℕ → Eventfd → Eventfd
written number e = if has_room number e then acted e (nat_lt 0 number) (record e { count = e.count + number }) else e
