-- the error numbers of RISC-V Linux (errno(3))
use Rattle.std.specs.Prelude.{ℕ}
use Rattle.sim_base.specs.declared.errno.Errno.{Errno}
use Rattle.sim_base.specs.declared.errno.Errno.TheVariants.{Eperm, Enoent, Ebadf, Eagain, Eacces, Efault, Eexist, Einval, Emfile, Epipe, Enosys, Enotsock, Edestaddrreq, Emsgsize, Enoprotoopt, Eprotonosupport, Eopnotsupp, Eafnosupport, Eaddrinuse, Eaddrnotavail, Enetunreach, Econnreset, Eisconn, Enotconn, Etimedout, Econnrefused, Ealready, Einprogress}

abbrev pub errno_number : Errno → ℕ
errno_number Eperm = 1
errno_number Enoent = 2
errno_number Ebadf = 9
errno_number Eagain = 11
errno_number Eacces = 13
errno_number Efault = 14
errno_number Eexist = 17
errno_number Einval = 22
errno_number Emfile = 24
errno_number Epipe = 32
errno_number Enosys = 38
errno_number Enotsock = 88
errno_number Edestaddrreq = 89
errno_number Emsgsize = 90
errno_number Enoprotoopt = 92
errno_number Eprotonosupport = 93
errno_number Eopnotsupp = 95
errno_number Eafnosupport = 97
errno_number Eaddrinuse = 98
errno_number Eaddrnotavail = 99
errno_number Enetunreach = 101
errno_number Econnreset = 104
errno_number Eisconn = 106
errno_number Enotconn = 107
errno_number Etimedout = 110
errno_number Econnrefused = 111
errno_number Ealready = 114
errno_number Einprogress = 115
