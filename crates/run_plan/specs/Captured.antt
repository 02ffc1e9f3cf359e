-- The capture in a file.
use Rattle.std.specs.Prelude.{ℕ, List, Result, Ok, Err}
use Rattle.pcap_text.specs.Reading.{pcap}
use Rattle.pcap_text.specs.declared.capture.Capture.{Capture}
use Rattle.pcap_text.specs.declared.fault.PcapFault.{PcapFault}
use Rattle.run_plan.specs.declared.fault.Fault.{Fault}
use Rattle.run_plan.specs.declared.fault.Fault.TheVariants as fault

abbrev pub or_capture_fault : List ℕ → Result Capture PcapFault → Result Capture Fault
or_capture_fault name (Ok c) = Ok c
or_capture_fault name (Err f) = Err (fault.Capture name f)

-- the capture that the bytes of this file are
abbrev pub captured : List ℕ → List ℕ → Result Capture Fault
captured name bytes = or_capture_fault name (pcap bytes)
