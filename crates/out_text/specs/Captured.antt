-- What a capture tells (this project's own profile): one line for each record.
use Rattle.std.specs.Prelude.{ℕ, List, [], ◌∷◌, ◌++◌, codes}
use Rattle.std.specs.Fmt.{decimal}
use Rattle.std.specs.List.{join_with_byte}
use Rattle.sim_base.specs.Ascii.{space}
use Rattle.sim_base.specs.declared.packet.Packet.{Packet}
use Rattle.sim_base.specs.declared.time.Time.{Time}
use Rattle.out_text.specs.Log.{packet_words}

-- TIME, in nanoseconds, and the words of the packet: a line of the packet log without its host and its act
abbrev pub packet_line : Time → Packet → List ℕ
packet_line time p = join_with_byte space (decimal time.nanos ∷ packet_words p) ++ codes "\n"

-- TIME cut KEPT WHOLE: how many bytes were kept, and how many the packet had
abbrev pub cut_line : Time → ℕ → ℕ → List ℕ
cut_line time kept whole = join_with_byte space (decimal time.nanos ∷ codes "cut" ∷ decimal kept ∷ decimal whole ∷ []) ++ codes "\n"
