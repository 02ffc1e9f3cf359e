-- Addresses as texts, by four numbers with points between them (RFC 791; the dotted form of RFC 1123, section 2.1).
use Rattle.std.specs.Prelude.{ℕ, ◌+◌, ◌*◌, Bool, ◌&&◌, ◌==◌, nat_lt, if◌then◌else◌, List, length, slice_index, Option, Some, None}
use Rattle.std.specs.List.{before_first, after_first}
use Rattle.sim_base.specs.Ascii.{full_stop, digit_0}
use Rattle.base_texts.specs.Quantity.{◌>>=◌}
use Rattle.sim_base.specs.declared.address.Ip.{Ip}
use Rattle.shd_values.specs.Number.{number_of}

-- .
abbrev pub is_point : ℕ → Bool
is_point b = b == full_stop

-- a number of 0 to 255 without leading zeros
abbrev pub octet : List ℕ → Option ℕ
octet text = if nat_lt 1 (length text) && slice_index text 0 == digit_0 then None
    else (number_of text >>= λ n. if nat_lt n 256 then Some n else None)

abbrev pub behind_point : List ℕ → List ℕ
behind_point text = after_first is_point text

-- an address a.b.c.d
abbrev pub address_of : List ℕ → Option Ip
address_of text = do
  a ← octet (before_first is_point text)
  b ← octet (before_first is_point (behind_point text))
  c ← octet (before_first is_point (behind_point (behind_point text)))
  d ← octet (behind_point (behind_point (behind_point text)))
  Some (record { bits = ((a * 256 + b) * 256 + c) * 256 + d })
