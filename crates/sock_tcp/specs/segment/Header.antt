-- what a segment's header says beside its ports (RFC 9293, section 3.1)
use Rattle.std.specs.Prelude.{ℕ, Bool, not, ◌==◌, bit_and}
use Rattle.sim_base.specs.Packet.{fin_flag, syn_flag, rst_flag, ack_flag}
use Rattle.sock_tcp.specs.declared.segment.header.Header.{Header}

-- whether a bit of the flags is set
abbrev pub has_flag : ℕ → ℕ → Bool
has_flag flags flag = not (bit_and flags flag == 0)

-- the header of these flags, numbers and window
abbrev pub header_of : ℕ → ℕ → ℕ → ℕ → Header
header_of flags seq ack window = record {
  fin = has_flag flags fin_flag;
  syn = has_flag flags syn_flag;
  rst = has_flag flags rst_flag;
  has_ack = has_flag flags ack_flag;
  seq = seq;
  ack = ack;
  window = window;
}
