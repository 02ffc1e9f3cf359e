-- Addresses in a guest's memory, as struct sockaddr_in has them (ip(7)): 16 bytes, of which two are the family AF_INET, little-endian,
-- two the port and four the address, both big-endian, and eight are zero.
use Rattle.std.specs.Prelude.{ℕ, ◌==◌, ◌||◌, ◌&&◌, Bool, not, min, List, ◌++◌, take, drop, replicate, Option, Some, None, option_map, option_and_then, if◌then◌else◌}
use Rattle.std.specs.Int.{w16, w32, from_le_bytes, from_be_bytes, to_le_bytes, to_be_bytes}
use Rattle.sim_base.specs.declared.address.Addr.{Addr}
use Rattle.guest_mem.specs.Memory.{Memory}
use Rattle.guest_args.specs.Span.{int_size, span, can_write, filled}
use Rattle.guest_args.specs.declared.address.AddressPlace.{AddressPlace}

-- how long an address is
abbrev pub address_size : ℕ
address_size = 16

-- AF_INET
abbrev pub inet : ℕ
inet = 2

-- of the given length at most the bytes of an address count
abbrev pub address_span : ℕ → ℕ
address_span length = min length address_size

abbrev pub family_of : List ℕ → ℕ
family_of bytes = from_le_bytes w16 (take 2 bytes)

abbrev pub sockaddr_of : List ℕ → Addr
sockaddr_of bytes = record { ip = record { bits = from_be_bytes w32 (take 4 (drop 4 bytes)) }; port = from_be_bytes w16 (take 2 (drop 2 bytes)) }

-- the bytes of an address
abbrev pub sockaddr : Addr → List ℕ
sockaddr at = to_le_bytes w16 inet ++ (to_be_bytes w16 at.port ++ (to_be_bytes w32 at.ip.bits ++ replicate 8 0))

-- the int at an address
abbrev pub word : ℕ → Memory → Option ℕ
word at memory = option_map (from_le_bytes w32) (span int_size at memory)

-- where the address goes that a call answers: at most so many bytes from an address on, and its length, an int, elsewhere.
-- A null pointer means that it isn't wanted
abbrev pub is_wanted : ℕ → ℕ → Bool
is_wanted at length_at = not (at == 0 || length_at == 0)

abbrev pub place_at : ℕ → ℕ → Memory → ℕ → Option AddressPlace
place_at at length_at memory length =
    if can_write int_size length_at memory && can_write (address_span length) at memory
    then Some (record { at = at; length = length; length_at = length_at })
    else None

-- None where a byte of the spans isn't mapped with the right that it needs
abbrev pub wanted_place : ℕ → ℕ → Memory → Option (Option AddressPlace)
wanted_place at length_at memory =
    if is_wanted at length_at then option_map Some (option_and_then (place_at at length_at memory) (word length_at memory)) else Some None

-- the memory with an address where it is wanted, cut at the given length, and with its whole length
abbrev pub answered : Option AddressPlace → Addr → Memory → Memory
answered None address memory = memory
answered (Some place) address memory =
    filled place.length_at (to_le_bytes w32 address_size) (filled place.at (take (address_span place.length) (sockaddr address)) memory)
