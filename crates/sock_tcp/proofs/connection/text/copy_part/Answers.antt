use Rattle.std.proofs.Common.{◌≡◌, ℕ, List, ◌++◌, ◌-◌, length, take, drop, ap, ◌∙◌}
use Rattle.sock_tcp.proofs.Connections.Parts.{part_of}
use Rattle.sock_tcp.proofs.connection.text.copy_part.Goals as goal

pub returns : goal.returns
returns c =
    let part = part_of c.args.front.now c.args.back.now c.args.at c.args.count in
    let rest : List ℕ = take (length c.args.front.now - c.min.result) (drop c.min.result c.args.front.now) in
    let first : c.extend_from_slice.new.self.items ≡ take c.min-from_first.result rest =
    c.in_ok-extend_from_slice.ensures.items
    ∙ ap (λ (xs : List ℕ). xs ++ take c.min-from_first.result rest) c.in_ok-text.ensures.items in
    let second = c.in_ok-extend_from_slice-2.ensures.items in
    cc (part, first, second)
