-- how many sockets have each given port
use Rattle.std.proofs.Common.{◌≡◌, ℕ, ◌+◌, ◌-◌, ◌≤◌, List, [], ◌∷◌, Option, Some, None, refl, subst, arith}
use Rattle.std.specs.List.{sum_by}
use Rattle.std.proofs.lemmas.List.Sums.{sum_by-cons, sum_by-append}
use Rattle.sim_base.specs.declared.address.Addr.{Addr}
use Rattle.number_sets.specs.Ports.{given_end, once, had}
use Rattle.number_sets.proofs.PortsCounted.{counted_in}
use Rattle.sock_udp.specs.declared.ends.UdpEnds.{UdpEnds}
use Rattle.udp_table.specs.Table.{local_in, end_in, bound_ends}
use Rattle.udp_table.specs.inside.Indexing.{times, Changes}

end_had : (n : ℕ) (local : Option Addr) → once (given_end local) n ≡ sum_by (had n) (end_in local)
end_had n None = refl
end_had n (Some at) = let cons = sum_by-cons (had n) at [] in omega arith

-- they are counted by their ends
pub all_had : (n : ℕ) (places : List (Option UdpEnds)) → sum_by (times n) places ≡ sum_by (had n) (bound_ends places)
all_had n [] = refl
all_had n (p ∷ places) =
    let cons = sum_by-cons (times n) p places in
    let both = sum_by-append (had n) (end_in (local_in p)) (bound_ends places) in
    let here = end_had n (local_in p) in
    let rest = all_had n places in
    omega arith

-- one socket has another port
pub changed_sum : (place : ℕ) (was is : Option UdpEnds) (old new : List (Option UdpEnds)) (n : ℕ) → Changes place was is old new → sum_by (times n) old + times n is - times n was ≡ sum_by (times n) new
changed_sum place was is old new n h =
    let held : times n was ≤ sum_by (times n) old = subst (λ (x : Option UdpEnds). times n x ≤ sum_by (times n) old) h.was (counted_in (times n) None old place refl) in
    let sums = h.sums n in
    omega arith
