-- The line of each fault of an input.
use Rattle.std.specs.Prelude.{ℕ, List, ◌++◌, Some, codes}
use Rattle.std.specs.Fmt.{decimal}
use Rattle.elf_load.specs.Fault as elf
use Rattle.gml_graph.specs.Fault as graph
use Rattle.pcap_text.specs.Fault as pcap
use Rattle.pcap_text.specs.declared.fault.PcapFault.{PcapFault}
use Rattle.yaml_tree.specs.Fault as tree
use Rattle.shd_config.specs.Fault as config
use Rattle.out_text.specs.Faults.{usage_line, bad_option_line, file_line, at_line, text_name, told_at, no_route_line}
use Rattle.command_line.specs.Command.{name_text}
use Rattle.command_line.specs.declared.fault.WordsFault.{WordsFault}
use Rattle.command_line.specs.declared.fault.WordsFault.TheVariants.{Usage, BadOption}
use Rattle.run_plan.specs.Fault as host_fault
use Rattle.run_plan.specs.declared.fault.Fault.{Fault}
use Rattle.run_plan.specs.declared.fault.Fault.TheVariants.{Words, NotFound, TooLong, Tree, Config, Graph, Host, NoRoute, Elf, Exists, Capture}

abbrev pub words_line : WordsFault → List ℕ
words_line Usage = usage_line
words_line (BadOption name) = bad_option_line (name_text name)

-- capture KIND at N
abbrev pub capture_text : PcapFault → List ℕ
capture_text fault = codes "capture " ++ (pcap.word_of fault.kind ++ (codes " at " ++ decimal fault.at))

-- the line that tells a fault
abbrev pub line_of : Fault → List ℕ
line_of (Words fault) = words_line fault
line_of (NotFound file) = file_line file (codes "not found")
line_of (TooLong file) = file_line file (codes "too long")
line_of (Tree file fault) = at_line file fault.line (tree.word_of fault.kind)
line_of (Config file fault) = at_line file fault.line (told_at (Some fault.path) (config.word_of fault.kind))
line_of (Graph file inline fault) = at_line (text_name file inline) fault.line (graph.word_of fault.kind)
line_of (Host file line host kind) = at_line file line (told_at (Some (codes "hosts." ++ host)) (host_fault.word_of kind))
line_of (NoRoute from to) = no_route_line from to
line_of (Elf path fault) = file_line path (codes "ELF " ++ elf.word_of fault)
line_of (Exists directory) = file_line directory (codes "exists")
line_of (Capture file fault) = file_line file (capture_text fault)
