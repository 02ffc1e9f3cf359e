-- Flags, as Linux has them on RISC-V (open(2), pipe(2), send(2)).
use Rattle.std.specs.Prelude.{ℕ, ◌+◌, ◌-◌, ◌==◌, Bool, not, bit_and}
use Rattle.sim_base.specs.Poll.{pollin, pollout, pollerr, pollhup, pollrdhup}
use Rattle.sim_base.specs.Units.{max_u32}

-- O_NONBLOCK, also as SOCK_NONBLOCK and TFD_NONBLOCK
abbrev pub o_nonblock : ℕ
o_nonblock = 0x800

-- O_CLOEXEC, which has no effect, since there is no exec
abbrev pub o_cloexec : ℕ
o_cloexec = 0x80000

-- EPOLLONESHOT and EPOLLET
abbrev pub epolloneshot : ℕ
epolloneshot = 0x40000000

abbrev pub epollet : ℕ
epollet = 0x80000000

-- MSG_DONTWAIT and MSG_NOSIGNAL
abbrev pub msg_dontwait : ℕ
msg_dontwait = 0x40

abbrev pub msg_nosignal : ℕ
msg_nosignal = 0x4000

-- EFD_SEMAPHORE
abbrev pub efd_semaphore : ℕ
efd_semaphore = 1

abbrev pub has : ℕ → ℕ → Bool
has flag flags = not (bit_and flags flag == 0)

-- the bits beside O_NONBLOCK and O_CLOEXEC
abbrev pub beside_open : ℕ → ℕ
beside_open flags = bit_and flags (max_u32 - (o_nonblock + o_cloexec))

-- the bits beside EFD_SEMAPHORE, O_NONBLOCK and O_CLOEXEC
abbrev pub beside_eventfd : ℕ → ℕ
beside_eventfd flags = bit_and flags (max_u32 - (efd_semaphore + (o_nonblock + o_cloexec)))

-- the bits beside O_CLOEXEC
abbrev pub beside_cloexec : ℕ → ℕ
beside_cloexec flags = bit_and flags (max_u32 - o_cloexec)

-- the bits beside those that an epoll may be asked for
abbrev pub epoll_events : ℕ
epoll_events = pollin + (pollout + (pollerr + (pollhup + (pollrdhup + (epolloneshot + epollet)))))

abbrev pub beside_epoll : ℕ → ℕ
beside_epoll events = bit_and events (max_u32 - epoll_events)

-- the bits beside MSG_DONTWAIT and MSG_NOSIGNAL
abbrev pub beside_message : ℕ → ℕ
beside_message flags = bit_and flags (max_u32 - (msg_dontwait + msg_nosignal))
