-- The texts of addresses are ASCII.
use Rattle.std.proofs.Common.{◌+◌, ◌^◌, ◌<◌, ◌∷◌, ◌++◌, ℕ, List, arith}
use Rattle.std.proofs.lemmas.Fmt.{IsAscii-decimal}
use Rattle.std.proofs.lemmas.Str.{IsAscii-append}
use Rattle.std.proofs.lemmas.Str.Ascii.{IsAscii-cons}
use Rattle.std.specs.Fmt.{decimal}
use Rattle.std.specs.Str.{IsAscii}
use Rattle.sim_base.specs.declared.address.Addr.{Addr}
use Rattle.out_text.specs.Address.{addr_text, ip_text}

behind : (n separator : ℕ) (text : List ℕ) → n < 2 ^ 64 → separator < 128 → IsAscii text → IsAscii (decimal n ++ separator ∷ text)
behind n separator text low ascii is = IsAscii-append (decimal n) (separator ∷ text) (IsAscii-decimal n low) (IsAscii-cons separator text ascii is)

pub ascii_addr : (addr : Addr) → addr.ip.bits < 2 ^ 32 → addr.port < 2 ^ 16 → IsAscii (addr_text addr)
ascii_addr addr bits port =
    IsAscii-append (ip_text addr.ip) (58 ∷ decimal addr.port)
    (behind _ 46 _ (omega (arith, bits)) (omega arith) (behind _ 46 _ (omega (arith, bits)) (omega arith) (behind _ 46 _ (omega (arith, bits)) (omega arith) (IsAscii-decimal _ (omega (arith, bits))))))
    (IsAscii-cons 58 (decimal addr.port) (omega arith) (IsAscii-decimal addr.port (omega (arith, port))))
