-- The packet log (this project's own profile): one line for each thing that happens to a packet.
use Rattle.std.specs.Prelude.{ℕ, ◌+◌, List, [], ◌∷◌, ◌++◌, Bool, not, codes, if◌then◌else◌, ◌==◌, bit_and}
use Rattle.std.specs.Fmt.{decimal}
use Rattle.std.specs.List.{join_with_byte}
use Rattle.sim_base.specs.Ascii.{space}
use Rattle.sim_base.specs.Packet.{packet_size, syn_flag, ack_flag, fin_flag, rst_flag}
use Rattle.sim_base.specs.declared.act.Act.{Act}
use Rattle.sim_base.specs.declared.act.Act.TheVariants.{Send, Lost, FullUp, FullDown, Recv, SockFull, NoPort, Codel}
use Rattle.sim_base.specs.declared.packet.Load.{Load}
use Rattle.sim_base.specs.declared.packet.Load.TheVariants.{Udp, Tcp}
use Rattle.sim_base.specs.declared.packet.Packet.{Packet}
use Rattle.out_text.specs.Address.{addr_text}
use Rattle.sim_base.specs.declared.time.Time.{Time}

-- what happened to a packet, when, and the name of the host where it did
pub record LogLine : Type 0 where
  pub time : Time
  pub host : List ℕ
  pub act : Act
  pub packet : Packet

-- what happened
abbrev pub act_word : Act → List ℕ
act_word Send = codes "send"
act_word Lost = codes "lost"
act_word FullUp = codes "fullup"
act_word FullDown = codes "fulldown"
act_word Recv = codes "recv"
act_word SockFull = codes "sockfull"
act_word NoPort = codes "noport"
act_word Codel = codes "codel"

abbrev pub protocol_word : Load → List ℕ
protocol_word (Udp text) = codes "udp"
protocol_word (Tcp flags seq ack window text) = codes "tcp"

-- whether a flag is set
abbrev pub is_set : ℕ → ℕ → Bool
is_set flags flag = not (bit_and flags flag == 0)

-- the letter of a flag, where it is set
abbrev pub letter : ℕ → ℕ → List ℕ → List ℕ
letter flags flag name = if is_set flags flag then name else []

-- the letters of those of SYN, ACK, FIN and RST that are set, in this order, or a dash where none is
abbrev pub flags_word : ℕ → List ℕ
flags_word flags = if is_set flags (syn_flag + (ack_flag + (fin_flag + rst_flag)))
    then letter flags syn_flag (codes "S") ++ (letter flags ack_flag (codes "A") ++ (letter flags fin_flag (codes "F") ++ letter flags rst_flag (codes "R")))
    else codes "-"

-- FLAGS SEQ ACK, of a segment
abbrev pub segment_words : Load → List (List ℕ)
segment_words (Udp text) = []
segment_words (Tcp flags seq ack window text) = flags_word flags ∷ decimal seq ∷ decimal ack ∷ []

-- PROTO SRC DST SIZE, and of a segment FLAGS SEQ ACK
abbrev pub packet_words : Packet → List (List ℕ)
packet_words p = protocol_word p.load ∷ addr_text p.from ∷ addr_text p.to ∷ decimal (packet_size p) ∷ segment_words p.load

-- TIME HOST ACT, the time in nanoseconds, and the words of the packet
abbrev pub log_words : LogLine → List (List ℕ)
log_words l = decimal l.time.nanos ∷ l.host ∷ act_word l.act ∷ packet_words l.packet

-- the words with a space between each two, and a line end
abbrev pub log_line : LogLine → List ℕ
log_line l = join_with_byte space (log_words l) ++ codes "\n"
