use Rattle.std.proofs.Common.{◌≡◌, ℕ, ◌≤◌, length, cond, nat_lt, Option, Some, None, is_none, not, unwrap_or, ap, ◌∙◌, arith}
use Rattle.std.specs.List.{position_or_len}
use Rattle.std.proofs.lemmas.Bool.Decides.{nat_tests}
use Rattle.std.proofs.lemmas.List.Sums.{prefix_len-le-length}
use Rattle.sock_udp.specs.declared.ends.UdpEnds.{UdpEnds}
use Rattle.udp_table.proofs.table.free_place_in.Goals as goal

chosen : (at count : ℕ) → at ≤ count → unwrap_or (cond (nat_lt at count) (Some at) None) count ≡ at
chosen at count b = grind (arith, nat_tests)

pub returns : goal.returns
returns c =
    let xs = c.args.places.now in
    let within = prefix_len-le-length (λ (place : Option UdpEnds). not (is_none place)) xs in
    let same = chosen (position_or_len is_none xs) (length xs) within in
    c.unwrap_or.ensures ∙ (ap (λ (o : Option ℕ). unwrap_or o (length xs)) c.first_free.ensures ∙ same)
