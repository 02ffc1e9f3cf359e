-- One more line whose packet's numbers fit.
use Rattle.std.proofs.Common.{List, [], ◌∷◌, ◌++◌}
use Rattle.pcap_text.specs.Packets.{Fits}
use Rattle.run_files.specs.LinesFit.{AllFit}
use Rattle.host_link.specs.declared.line.Line.{Line}

pub fit_push : (lines : List Line) (line : Line) → AllFit lines → Fits line.packet → AllFit (lines ++ line ∷ [])
fit_push [] line fit here = (here, tt)
fit_push (l ∷ ls) line fit here = (fit.0, fit_push ls line fit.1 here)
