-- Numbers of Linux's calls on 32-bit RISC-V, by Linux's names.
use Rattle.std.specs.Prelude.{ℕ}

-- ---- fcntl(2): what is asked for

abbrev pub f_getfd : ℕ
f_getfd = 1

abbrev pub f_setfd : ℕ
f_setfd = 2

abbrev pub f_getfl : ℕ
f_getfl = 3

abbrev pub f_setfl : ℕ
f_setfl = 4

-- ---- openat(2): the access mode, in the low bits of the flags

abbrev pub o_rdonly : ℕ
o_rdonly = 0

abbrev pub o_accmode : ℕ
o_accmode = 3

-- the most bytes of a path, with the zero byte behind it
abbrev pub path_max : ℕ
path_max = 4096

-- ---- the descriptors of the standard output and the standard error (stdin(3))

abbrev pub stdout_fileno : ℕ
stdout_fileno = 1

abbrev pub stderr_fileno : ℕ
stderr_fileno = 2

-- ---- socket(2), setsockopt(2), getsockopt(2), shutdown(2)

abbrev pub sock_stream : ℕ
sock_stream = 1

abbrev pub sock_dgram : ℕ
sock_dgram = 2

abbrev pub ipproto_tcp : ℕ
ipproto_tcp = 6

abbrev pub ipproto_udp : ℕ
ipproto_udp = 17

abbrev pub sol_socket : ℕ
sol_socket = 1

abbrev pub so_reuseaddr : ℕ
so_reuseaddr = 2

abbrev pub so_type : ℕ
so_type = 3

abbrev pub so_error : ℕ
so_error = 4

abbrev pub so_keepalive : ℕ
so_keepalive = 9

abbrev pub tcp_nodelay : ℕ
tcp_nodelay = 1

abbrev pub shut_rd : ℕ
shut_rd = 0

abbrev pub shut_wr : ℕ
shut_wr = 1

abbrev pub shut_rdwr : ℕ
shut_rdwr = 2

-- ---- clock_nanosleep(2), timerfd_settime(2): the time is one of a clock. TFD_TIMER_ABSTIME is the same

abbrev pub timer_abstime : ℕ
timer_abstime = 1

-- the bytes of a setting of a timer: the interval, and behind it the time of the first expiry
abbrev pub itimerspec_size : ℕ
itimerspec_size = 32

-- the bytes of the number of expiries that a read of a timer gives
abbrev pub expiries_size : ℕ
expiries_size = 8

-- ---- eventfd(2): the bytes of what is read and written

abbrev pub eventfd_size : ℕ
eventfd_size = 8

-- ---- getrandom(2)

abbrev pub grnd_nonblock : ℕ
grnd_nonblock = 1

abbrev pub grnd_random : ℕ
grnd_random = 2

-- ---- epoll_ctl(2): what is done with an entry

abbrev pub epoll_ctl_add : ℕ
epoll_ctl_add = 1

abbrev pub epoll_ctl_del : ℕ
epoll_ctl_del = 2

abbrev pub epoll_ctl_mod : ℕ
epoll_ctl_mod = 3
