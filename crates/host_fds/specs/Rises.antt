-- How often each bit of poll(2) came to hold for an object.
use Rattle.std.specs.Prelude.{ℕ, ◌+◌, ◌-◌, ◌^◌, ◌==◌, ◌&&◌, ◌||◌, Bool, not, min, bit_and, if◌then◌else◌}
use Rattle.sim_base.specs.Poll.{pollin, pollout, pollerr, pollhup, pollrdhup}
use Rattle.host_fds.specs.declared.rises.Rises.{Rises}

abbrev pub no_rises : Rises
no_rises = record { input = 0; output = 0; error = 0; hangup = 0; peer_end = 0 }

-- a count stands still at the most that it counts to
abbrev pub most : ℕ
most = 2 ^ 64 - 1

abbrev pub counted : Bool → ℕ → ℕ
counted rose count = if rose then min (count + 1) most else count

-- a bit that is among some
abbrev pub has_bit : ℕ → ℕ → Bool
has_bit bit bits = not (bit_and bits bit == 0)

-- an act has a bit rise where it holds after the act and didn't before
abbrev pub rose : ℕ → ℕ → ℕ → Bool
rose bit before after = has_bit bit after && not (has_bit bit before)

-- the rises after an act, by the bits that held before and after it; POLLIN rises also where the act put something in
abbrev pub moved : ℕ → ℕ → Bool → Rises → Rises
moved before after put_in r = record {
  input = counted (put_in || rose pollin before after) r.input;
  output = counted (rose pollout before after) r.output;
  error = counted (rose pollerr before after) r.error;
  hangup = counted (rose pollhup before after) r.hangup;
  peer_end = counted (rose pollrdhup before after) r.peer_end;
}
