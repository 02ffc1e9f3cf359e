-- The lines of a capture, record by record.
use Rattle.std.proofs.Common.{ℕ, List, [], ◌∷◌, ◌++◌, Option, refl, sym, ap, ◌∙◌, append_assoc, append-nil}
use Rattle.sim_base.specs.declared.packet.Packet.{Packet}
use Rattle.pcap_text.specs.Packets.{IsPacketIn}
use Rattle.pcap_text.specs.declared.capture.Record.{Record}
use Rattle.run_answers.specs.Captured.{line_with, AreLinesOf}

-- one record more
pub lines_more : (rs : List Record) (r : Record) (lines : List ℕ) (found : Option Packet) → AreLinesOf rs lines → IsPacketIn r found → AreLinesOf (rs ++ r ∷ []) (lines ++ line_with r found)
lines_more [] r lines found are is = (found, [], is, refl, ap (λ (ls : List ℕ). ls ++ line_with r found) are ∙ sym (append-nil (line_with r found)))
lines_more (x ∷ rs) r lines found (of_x, rest, is_x, are, whole) is =
    (of_x, rest ++ line_with r found, is_x, lines_more rs r rest found are is, ap (λ (ls : List ℕ). ls ++ line_with r found) whole ∙ append_assoc (line_with x of_x) rest (line_with r found))
