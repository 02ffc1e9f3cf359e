-- The numbers of system calls on 32-bit RISC-V Linux, and which row each has.
use Rattle.std.specs.Prelude.{ℕ, ◌==◌, Option, Some, None, if◌then◌else◌}
use Rattle.call_parts.specs.declared.call.Call.{Call}
use Rattle.call_parts.specs.declared.call.Call.TheVariants as call
use Rattle.call_parts.specs.declared.call.PlainCall.{PlainCall}
use Rattle.call_parts.specs.declared.call.PlainCall.TheVariants as plain
use Rattle.call_parts.specs.declared.call.NetworkCall.{NetworkCall}
use Rattle.call_parts.specs.declared.call.NetworkCall.TheVariants as network
use Rattle.call_parts.specs.declared.call.WaitingCall.{WaitingCall}
use Rattle.call_parts.specs.declared.call.WaitingCall.TheVariants as waiting

-- calls that need no sockets
abbrev pub plain_of : ℕ → Option PlainCall
plain_of n =
    if n == 19 then Some plain.Eventfd2
    else if n == 20 then Some plain.EpollCreate
    else if n == 21 then Some plain.EpollCtl
    else if n == 25 then Some plain.Fcntl
    else if n == 56 then Some plain.Openat
    else if n == 59 then Some plain.Pipe2
    else if n == 85 then Some plain.TimerfdCreate
    else if n == 172 then Some plain.Getpid
    else if n == 208 then Some plain.Setsockopt
    else if n == 214 then Some plain.Brk
    else if n == 278 then Some plain.Getrandom
    else if n == 403 then Some plain.ClockGettime
    else if n == 411 then Some plain.TimerfdSettime
    else None

-- calls on sockets alone
abbrev pub network_of : ℕ → Option NetworkCall
network_of n =
    if n == 198 then Some network.Socket
    else if n == 200 then Some network.Bind
    else if n == 201 then Some network.Listen
    else if n == 204 then Some network.Getsockname
    else if n == 205 then Some network.Getpeername
    else if n == 209 then Some network.Getsockopt
    else if n == 210 then Some network.Shutdown
    else None

-- calls that may wait
abbrev pub waiting_of : ℕ → Option WaitingCall
waiting_of n =
    if n == 22 then Some waiting.EpollWait
    else if n == 63 then Some waiting.Read
    else if n == 64 then Some waiting.Write
    else if n == 202 then Some waiting.Accept
    else if n == 203 then Some waiting.Connect
    else if n == 206 then Some waiting.Sendto
    else if n == 207 then Some waiting.Recvfrom
    else if n == 407 then Some waiting.ClockNanosleep
    else if n == 414 then Some waiting.Ppoll
    else None

-- close(2), and the end of a process: exit(2) 93, exit_group(2) 94
abbrev pub other_of : ℕ → Option Call
other_of n =
    if n == 57 then Some call.Close
    else if n == 93 then Some call.Exit
    else if n == 94 then Some call.Exit
    else None

abbrev pub call_by : Option PlainCall → Option NetworkCall → Option WaitingCall → Option Call → Option Call
call_by (Some p) net wait other = Some (call.Plain p)
call_by None (Some n) wait other = Some (call.Network n)
call_by None None (Some w) other = Some (call.Waiting w)
call_by None None None other = other

abbrev pub call_of : ℕ → Option Call
call_of n = call_by (plain_of n) (network_of n) (waiting_of n) (other_of n)
