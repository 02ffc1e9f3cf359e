-- the numbers and names of signals on RISC-V Linux (signal(7))
use Rattle.std.specs.Prelude.{ℕ, List, codes}
use Rattle.sim_base.specs.declared.signal.Signal.{Signal}
use Rattle.sim_base.specs.declared.signal.Signal.TheVariants.{SigHup, SigInt, SigQuit, SigIll, SigTrap, SigAbrt, SigBus, SigFpe, SigKill, SigUsr1, SigSegv, SigUsr2, SigPipe, SigAlrm, SigTerm, SigXcpu}

abbrev pub signal_number : Signal → ℕ
signal_number SigHup = 1
signal_number SigInt = 2
signal_number SigQuit = 3
signal_number SigIll = 4
signal_number SigTrap = 5
signal_number SigAbrt = 6
signal_number SigBus = 7
signal_number SigFpe = 8
signal_number SigKill = 9
signal_number SigUsr1 = 10
signal_number SigSegv = 11
signal_number SigUsr2 = 12
signal_number SigPipe = 13
signal_number SigAlrm = 14
signal_number SigTerm = 15
signal_number SigXcpu = 24

-- the name in upper case
abbrev pub signal_name : Signal → List ℕ
signal_name SigHup = codes "SIGHUP"
signal_name SigInt = codes "SIGINT"
signal_name SigQuit = codes "SIGQUIT"
signal_name SigIll = codes "SIGILL"
signal_name SigTrap = codes "SIGTRAP"
signal_name SigAbrt = codes "SIGABRT"
signal_name SigBus = codes "SIGBUS"
signal_name SigFpe = codes "SIGFPE"
signal_name SigKill = codes "SIGKILL"
signal_name SigUsr1 = codes "SIGUSR1"
signal_name SigSegv = codes "SIGSEGV"
signal_name SigUsr2 = codes "SIGUSR2"
signal_name SigPipe = codes "SIGPIPE"
signal_name SigAlrm = codes "SIGALRM"
signal_name SigTerm = codes "SIGTERM"
signal_name SigXcpu = codes "SIGXCPU"
