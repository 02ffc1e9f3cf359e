use Rattle.std.proofs.Common.{◌≡◌, ◌-◌, ◌<◌, ◌^◌, List, ℕ, drop, take, sym, ◌∙◌, arith, subst}
use Rattle.std.proofs.lemmas.List.{length-drop, take_all}
use Rattle.std.proofs.lemmas.Str.{IsUtf8-from_ascii}
use Rattle.std.specs.Str.{IsUtf8}
use Rattle.out_text.specs.Address.{addr_text}
use Rattle.out_text.proofs.Addresses.{ascii_addr}
use Rattle.out_text.proofs.pushed.push_addr.Goals as goal

pub unreachable-requires : goal.unreachable-requires
unreachable-requires c =
    let start : ℕ = c.write_addr-start.result in
    let bytes : List ℕ = c.write_addr-start.new.into in
    let text : take (21 - start) (drop start bytes) ≡ addr_text c.args.addr =
    take_all (21 - start) (drop start bytes) (omega (arith, length-drop start bytes, c.write_addr-start.array_long)) ∙ c.write_addr-start.ensures.written in
    let low : c.args.addr.ip.bits < 2 ^ 32 = omega arith in
    let port : c.args.addr.port < 2 ^ 16 = omega arith in
    c.in_default.ensures.cases.0 (subst (λ (bs : List ℕ). IsUtf8 bs) (sym text) (IsUtf8-from_ascii (addr_text c.args.addr) (ascii_addr c.args.addr low port)))
