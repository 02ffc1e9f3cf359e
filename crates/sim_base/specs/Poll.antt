-- the bits of poll(2), as Linux has them
use Rattle.std.specs.Prelude.{ℕ}

abbrev pub pollin : ℕ
pollin = 1

abbrev pub pollout : ℕ
pollout = 4

abbrev pub pollerr : ℕ
pollerr = 8

abbrev pub pollhup : ℕ
pollhup = 16

abbrev pub pollnval : ℕ
pollnval = 32

-- POLLRDHUP: the peer has ended its writing
abbrev pub pollrdhup : ℕ
pollrdhup = 0x2000
