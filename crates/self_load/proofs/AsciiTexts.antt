-- Texts of bytes below 128.
use Rattle.std.proofs.Common.{◌≡◌, true, List, [], ◌∷◌, ℕ}
use Rattle.std.specs.Prelude.{nat_lt}
use Rattle.std.specs.List.{list_all}
use Rattle.std.specs.Str.{IsAscii}
use Rattle.std.proofs.lemmas.Bool.{and_parts, ltb-true}
use Rattle.std.proofs.lemmas.Str.Ascii.{IsAscii-nil, IsAscii-cons}

-- by a test of each byte
pub ascii : (bytes : List ℕ) → list_all (λ b. nat_lt b 128) bytes ≡ true → IsAscii bytes
ascii [] h = IsAscii-nil
ascii (b ∷ bytes) h =
    let k = and_parts (nat_lt b 128) (list_all (λ c. nat_lt c 128) bytes) h in
    IsAscii-cons b bytes (ltb-true b 128 k.0) (ascii bytes k.1)
