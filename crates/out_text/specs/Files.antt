-- The names and the last lines of a process's files, and the names of captures (this project's own profile).
use Rattle.std.specs.Prelude.{ℕ, List, ◌++◌, Bool, true, false, codes}
use Rattle.std.specs.Fmt.{decimal}
use Rattle.sim_base.specs.Signal.{signal_name}
use Rattle.sim_base.specs.declared.state.State.{State}
use Rattle.sim_base.specs.declared.state.State.TheVariants.{NotStarted, Running, Exited, Signaled}
use Rattle.out_text.specs.declared.files.FileKind.{FileKind}
use Rattle.out_text.specs.declared.files.FileKind.TheVariants.{Stdout, Stderr, Exit}

-- the state of a process, as a word or two
abbrev pub state_text : State → List ℕ
state_text NotStarted = codes "not started"
state_text Running = codes "running"
state_text (Exited status) = codes "exited " ++ decimal status
state_text (Signaled signal) = codes "signaled " ++ signal_name signal

-- what the file of the final state holds
abbrev pub state_line : State → List ℕ
state_line state = state_text state ++ codes "\n"

abbrev pub file_suffix : FileKind → List ℕ
file_suffix Stdout = codes ".stdout"
file_suffix Stderr = codes ".stderr"
file_suffix Exit = codes ".exit"

-- HOST/PROGRAM.PID
abbrev pub process_text : List ℕ → List ℕ → ℕ → List ℕ
process_text host program pid = host ++ (codes "/" ++ (program ++ (codes "." ++ decimal pid)))

-- hosts/HOST/PROGRAM.PID and a suffix, below the data directory
abbrev pub file_name : List ℕ → List ℕ → ℕ → FileKind → List ℕ
file_name host program pid kind = codes "hosts/" ++ (host ++ (codes "/" ++ (program ++ (codes "." ++ (decimal pid ++ file_suffix kind)))))

-- the interface whose packets a capture has: that of loopback, or that to the network
abbrev pub interface_name : Bool → List ℕ
interface_name true = codes "lo"
interface_name false = codes "eth0"

-- hosts/HOST/INTERFACE.pcap, below the data directory
abbrev pub capture_name : List ℕ → Bool → List ℕ
capture_name host loopback = codes "hosts/" ++ (host ++ (codes "/" ++ (interface_name loopback ++ codes ".pcap")))
