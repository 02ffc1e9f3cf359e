-- what a run is given, images, texts and addresses, and what it logs
use Rattle.std.specs.List.{AllByRecursion}
use Rattle.elf_load.specs.ProgramImage.{ProgramImage}
use Rattle.host_link.specs.declared.line.Line.{Line}
use Rattle.host_link.specs.Net.{Net}
use Rattle.host_rows.specs.declared.row.ProcessRow.{ProcessRow}
use Rattle.host_rows.specs.declared.row.Row.{Row}
use Rattle.std.specs.Prelude.{List}
use Rattle.pcap_text.specs.Laws.{IsWhole}
use Rattle.run_fits.specs.Bytes.{AreBytes, AreTexts, CellsHaveBytes}
use Rattle.run_fits.specs.Sockets.{FitsIp}

-- the image of a program
abbrev pub ImageHasBytes : ProgramImage → Type 0
ImageHasBytes image = CellsHaveBytes image.cells

-- what a net lends to all hosts: the images, and the text of /etc/hosts
pub record NetHasBytes (net : Net) : Type 0 where
  pub images : AllByRecursion ImageHasBytes net.images
  pub hosts : AreBytes net.known.hosts

-- the texts of a process
abbrev pub ProcessHasBytes : ProcessRow → Type 0
ProcessHasBytes p = AreTexts p.arguments × AreTexts p.environment

-- the address of a host, and the texts of its processes
abbrev pub RowFits : Row → Type 0
RowFits row = FitsIp row.address × AllByRecursion ProcessHasBytes row.processes

abbrev pub RowsFit : List Row → Type 0
RowsFit rows = AllByRecursion RowFits rows

-- lines of the packet log of whole packets
abbrev pub AllWhole : List Line → Type 0
AllWhole lines = AllByRecursion (λ (l : Line). IsWhole l.packet) lines
