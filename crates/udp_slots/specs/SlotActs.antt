-- What acts on one UDP socket do.
use Rattle.std.specs.Prelude.{◌≡◌, ℕ, Option, Some, None, Result, Ok, Err}
use Rattle.sim_base.specs.declared.errno.Errno.TheVariants.{Ebadf}
use Rattle.sock_udp.specs.declared.datagram.Datagram.{Datagram}
use Rattle.sock_udp.specs.Socket.{UdpState}
use Rattle.host_wants.specs.declared.error.CallError.{CallError}
use Rattle.host_wants.specs.declared.error.CallError.TheVariants as error
use Rattle.host_wants.specs.declared.error.Refusal.{Refusal}
use Rattle.host_wants.specs.declared.error.Refusal.TheVariants as refusal
use Rattle.udp_slots.specs.Slots.{oldest_datagram}

-- what the code does in a socket's place
abbrev pub SlotDoes : {A : Type 0} → (UdpState → Result (A × UdpState) Refusal) → Option UdpState → Option UdpState → Result A CallError → Type 0
SlotDoes act None new (Ok a) = ⊥
SlotDoes act None new (Err (error.Refused why)) = (why ≡ refusal.Errno Ebadf) × (new ≡ None)
SlotDoes act None new (Err error.NoMemory) = Unit {0}
SlotDoes act (Some u) new (Ok a) = (u' : UdpState) × ((act u ≡ Ok (a, u')) × (new ≡ Some u'))
SlotDoes act (Some u) new (Err (error.Refused why)) = (act u ≡ Err why) × (new ≡ Some u)
SlotDoes act (Some u) new (Err error.NoMemory) = Unit {0}

abbrev pub GivesOldest : ℕ → UdpState → UdpState → Result Datagram CallError → Type 0
GivesOldest count old new (Ok datagram) = oldest_datagram old old.waiting count ≡ Ok (datagram, new)
GivesOldest count old new (Err (error.Refused why)) = (oldest_datagram old old.waiting count ≡ Err why) × (new ≡ old)
GivesOldest count old new (Err error.NoMemory) = Unit {0}
