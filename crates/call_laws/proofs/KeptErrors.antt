-- Errors that connections keep.
use Rattle.std.proofs.Common.{◌≡◌, ℕ, Bool, List, length, Option, Err, refl}
use Rattle.sim_base.specs.declared.address.Addr.{Addr}
use Rattle.sim_base.specs.declared.address.Ip.{Ip}
use Rattle.sim_base.specs.declared.errno.Errno.{Errno}
use Rattle.sim_base.specs.declared.time.Time.{Time}
use Rattle.host_wants.specs.declared.error.Refusal.TheVariants as refusal
use Rattle.host_sockets.specs.Sockets.{SocketsRecord}
use Rattle.host_wants.specs.Wanted.{Wanted}
use Rattle.host_sockets.specs.Connecting.{connect_asked, connects, connects_taking}
use Rattle.host_sockets.specs.Moving.{send_asked, sends_taking, recv_asked, receives_taking}
use Rattle.call_laws.specs.Laws.{TakesError}

pub connect_takes : (hosts : List Ip) (now : Time) (k : ℕ) (to : Addr) (t : SocketsRecord) (w : Wanted) (errno : Errno) → connect_asked hosts k to t ≡ Err (refusal.Kept errno)
    → TakesError now k errno t w (connects_taking hosts now k to t w)
unfolding connects connects_taking
connect_takes hosts now k to t w errno e = rw e refl

pub send_takes : (hosts : List Ip) (now : Time) (k : ℕ) (bytes : List ℕ) (to : Option Addr) (quiet : Bool) (t : SocketsRecord) (w : Wanted) (errno : Errno)
    → send_asked hosts k (length bytes) to quiet t ≡ Err (refusal.Kept errno) → TakesError now k errno t w (sends_taking hosts now k bytes to quiet t w)
unfolding sends_taking
send_takes hosts now k bytes to quiet t w errno e = rw e refl

pub receive_takes : (now : Time) (k count : ℕ) (t : SocketsRecord) (w : Wanted) (errno : Errno) → recv_asked k t ≡ Err (refusal.Kept errno)
    → TakesError now k errno t w (receives_taking now k count t w)
unfolding receives_taking
receive_takes now k count t w errno e = rw e refl
