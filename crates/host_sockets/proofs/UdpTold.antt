-- what is told of UDP sockets by what they are bound and connected to
use Rattle.std.proofs.Common.{◌≡◌, ℕ, zero, suc, ◌+◌, List, [], ◌∷◌, ◌++◌, length, set, Bool, not, cond, nat_lt, Option, Some, None, is_none, refl, ap, ◌∙◌}
use Rattle.std.specs.List.{position, position_or_len, flat_map}
use Rattle.sim_base.specs.declared.address.Addr.{Addr}
use Rattle.sock_udp.specs.Socket.{UdpState}
use Rattle.sock_udp.specs.declared.ends.UdpEnds.{UdpEnds}
use Rattle.udp_table.specs.Table.{bound_ends}
use Rattle.udp_table.specs.Table.{takes_in as row_takes, end_in, local_in as row_local}
use Rattle.host_sockets.specs.Arriving.{takes_in}
use Rattle.udp_slots.specs.Bindings.{ends_of_slot, ends_of_slots}
use Rattle.udp_slots.specs.Slots.{local_in}
use Rattle.host_sockets.specs.Udp.{udp_end}
use Rattle.host_sockets.specs.TcpSocket.{bound_end}

pub told_set : (slots : List (Option UdpState)) (k : ℕ) (slot : Option UdpState) → set (ends_of_slots slots) k (ends_of_slot slot) ≡ ends_of_slots (set slots k slot)
told_set [] k slot = refl
told_set (x ∷ slots) zero slot = refl
told_set (x ∷ slots) (suc k) slot = ap (λ (es : List (Option UdpEnds)). ends_of_slot x ∷ es) (told_set slots k slot)

pub told_push : (slots : List (Option UdpState)) (slot : Option UdpState) → ends_of_slots slots ++ ends_of_slot slot ∷ [] ≡ ends_of_slots (slots ++ slot ∷ [])
told_push [] slot = refl
told_push (x ∷ slots) slot = ap (λ (es : List (Option UdpEnds)). ends_of_slot x ∷ es) (told_push slots slot)

-- tests that agree find the same place
first_same : (p : Option UdpState → Bool) (q : Option UdpEnds → Bool) → ((slot : Option UdpState) → q (ends_of_slot slot) ≡ p slot) → (slots : List (Option UdpState)) → position_or_len q (ends_of_slots slots) ≡ position_or_len p slots
first_same p q same [] = refl
first_same p q same (x ∷ slots) =
    ap (λ (b : Bool). cond (not b) (1 + position_or_len q (ends_of_slots slots)) 0) (same x)
    ∙ ap (λ (n : ℕ). cond (not (p x)) (1 + n) 0) (first_same p q same slots)

long_same : (slots : List (Option UdpState)) → length (ends_of_slots slots) ≡ length slots
long_same [] = refl
long_same (x ∷ slots) = ap suc (long_same slots)

none_same : (slot : Option UdpState) → is_none (ends_of_slot slot) ≡ is_none slot
none_same None = refl
none_same (Some u) = refl

pub free_told : (slots : List (Option UdpState)) → position_or_len is_none (ends_of_slots slots) ≡ position_or_len is_none slots
free_told slots = first_same is_none is_none none_same slots

takes_same : (from to : Addr) (slot : Option UdpState) → row_takes from to (ends_of_slot slot) ≡ takes_in from to slot
takes_same from to None = refl
takes_same from to (Some u) = refl

pub taker_told : (from to : Addr) (slots : List (Option UdpState)) → position (row_takes from to) (ends_of_slots slots) ≡ position (takes_in from to) slots
taker_told from to slots =
    ap (λ (n : ℕ). cond (nat_lt n (length (ends_of_slots slots))) (Some n) None) (first_same (takes_in from to) (row_takes from to) (takes_same from to) slots)
    ∙ ap (λ (l : ℕ). cond (nat_lt (position_or_len (takes_in from to) slots) l) (Some (position_or_len (takes_in from to) slots)) None) (long_same slots)

end_same : (local : Option Addr) → end_in local ≡ bound_end local
end_same None = refl
end_same (Some at) = refl

local_same : (slot : Option UdpState) → row_local (ends_of_slot slot) ≡ local_in slot
local_same None = refl
local_same (Some u) = refl

pub ends_told : (slots : List (Option UdpState)) → bound_ends (ends_of_slots slots) ≡ flat_map udp_end slots
ends_told [] = refl
ends_told (x ∷ slots) =
    ap (λ (es : List Addr). es ++ bound_ends (ends_of_slots slots)) (ap end_in (local_same x) ∙ end_same (local_in x))
    ∙ ap (λ (es : List Addr). udp_end x ++ es) (ends_told slots)

-- a socket acted, and the table was told
pub told_then : (slots : List (Option UdpState)) (table new : List (Option UdpEnds)) (k : ℕ) (slot : Option UdpState) (ends : Option UdpEnds)
    → table ≡ ends_of_slots slots → ends ≡ ends_of_slot slot → new ≡ set table k ends → new ≡ ends_of_slots (set slots k slot)
told_then slots table new k slot ends told is put =
    put ∙ (ap (λ (rows : List (Option UdpEnds)). set rows k ends) told ∙ (ap (set (ends_of_slots slots) k) is ∙ told_set slots k slot))

row_of : Option Addr → Option Addr → UdpEnds
row_of local peer = record { local = local; peer = peer }

pub row_is : (ends : UdpEnds) (u : UdpState) → ends.local ≡ u.local → ends.peer ≡ u.peer → Some ends ≡ ends_of_slot (Some u)
unfolding row_of
row_is ends u local peer = ap (λ (at : Option Addr). Some (row_of at ends.peer)) local ∙ ap (λ (at : Option Addr). Some (row_of u.local at)) peer
