-- What is told of objects of all kinds but some.
use Rattle.std.proofs.Common.{◌≡◌, ◌≢◌, ℕ, refl}
use Rattle.sim_base.specs.declared.time.Time.{Time}
use Rattle.host_fds.specs.Rises.{no_rises}
use Rattle.host_files.specs.declared.file.Object.{Object}
use Rattle.host_files.specs.declared.file.Object.TheVariants as kind
use Rattle.host_files.specs.Epolls.{EpollsState}
use Rattle.host_files.specs.Files.{FilesState}
use Rattle.host_sockets.specs.Sockets.{SocketsRecord}
use Rattle.file_calls.specs.declared.task.Shared.{Shared}
use Rattle.host_calls.specs.Parts.{Scene}
use Rattle.host_calls.specs.Closing.{ends, without_epoll}
use Rattle.host_calls.specs.Ready.{object_ready, bits_seen, object_rises, readiness}

-- no object is of a kind
abbrev No : (ℕ → Object) → Object → Type 0
No kind object = (k : ℕ) → object ≢ kind k

pub other_bits : (now : Time) (object : Object) (files : FilesState) (t : SocketsRecord) → No kind.Tcp object
    → bits_seen now object files t ≡ object_ready now object files t
other_bits now kind.Input files t tcp = refl
other_bits now kind.Output files t tcp = refl
other_bits now kind.Errors files t tcp = refl
other_bits now (kind.Hosts read) files t tcp = refl
other_bits now (kind.ReadEnd k) files t tcp = refl
other_bits now (kind.WriteEnd k) files t tcp = refl
other_bits now (kind.Timer k) files t tcp = refl
other_bits now (kind.Eventfd k) files t tcp = refl
other_bits now (kind.Epoll k) files t tcp = refl
other_bits now (kind.Udp k) files t tcp = refl
other_bits now (kind.Tcp k) files t tcp = absurd (tcp k refl)

pub other_ready : (now : Time) (object : Object) (s : Scene) → No kind.Epoll object
    → readiness now object s ≡ object_ready now object s.shared.files s.sockets
other_ready now kind.Input s epoll = refl
other_ready now kind.Output s epoll = refl
other_ready now kind.Errors s epoll = refl
other_ready now (kind.Hosts read) s epoll = refl
other_ready now (kind.ReadEnd k) s epoll = refl
other_ready now (kind.WriteEnd k) s epoll = refl
other_ready now (kind.Timer k) s epoll = refl
other_ready now (kind.Eventfd k) s epoll = refl
other_ready now (kind.Epoll k) s epoll = absurd (epoll k refl)
other_ready now (kind.Udp k) s epoll = refl
other_ready now (kind.Tcp k) s epoll = refl

pub other_rises : (now : Time) (object : Object) (files : FilesState) (t : SocketsRecord)
    → No kind.ReadEnd object → No kind.WriteEnd object → No kind.Timer object → No kind.Eventfd object → No kind.Udp object → No kind.Tcp object
    → object_rises now object files t ≡ no_rises
other_rises now kind.Input files t read write timer eventfd udp tcp = refl
other_rises now kind.Output files t read write timer eventfd udp tcp = refl
other_rises now kind.Errors files t read write timer eventfd udp tcp = refl
other_rises now (kind.Hosts at) files t read write timer eventfd udp tcp = refl
other_rises now (kind.ReadEnd k) files t read write timer eventfd udp tcp = absurd (read k refl)
other_rises now (kind.WriteEnd k) files t read write timer eventfd udp tcp = absurd (write k refl)
other_rises now (kind.Timer k) files t read write timer eventfd udp tcp = absurd (timer k refl)
other_rises now (kind.Eventfd k) files t read write timer eventfd udp tcp = absurd (eventfd k refl)
other_rises now (kind.Epoll k) files t read write timer eventfd udp tcp = refl
other_rises now (kind.Udp k) files t read write timer eventfd udp tcp = absurd (udp k refl)
other_rises now (kind.Tcp k) files t read write timer eventfd udp tcp = absurd (tcp k refl)

pub other_ends : (now : Time) (object : Object) (shared : Shared) (t : SocketsRecord)
    → No kind.ReadEnd object → No kind.WriteEnd object → No kind.Timer object → No kind.Eventfd object → No kind.Udp object → No kind.Tcp object
    → ends now object shared t ≡ (shared, t)
other_ends now kind.Input shared t read write timer eventfd udp tcp = refl
other_ends now kind.Output shared t read write timer eventfd udp tcp = refl
other_ends now kind.Errors shared t read write timer eventfd udp tcp = refl
other_ends now (kind.Hosts at) shared t read write timer eventfd udp tcp = refl
other_ends now (kind.ReadEnd k) shared t read write timer eventfd udp tcp = absurd (read k refl)
other_ends now (kind.WriteEnd k) shared t read write timer eventfd udp tcp = absurd (write k refl)
other_ends now (kind.Timer k) shared t read write timer eventfd udp tcp = absurd (timer k refl)
other_ends now (kind.Eventfd k) shared t read write timer eventfd udp tcp = absurd (eventfd k refl)
other_ends now (kind.Epoll k) shared t read write timer eventfd udp tcp = refl
other_ends now (kind.Udp k) shared t read write timer eventfd udp tcp = absurd (udp k refl)
other_ends now (kind.Tcp k) shared t read write timer eventfd udp tcp = absurd (tcp k refl)

pub other_epolls : (object : Object) (epolls : EpollsState) → No kind.Epoll object → without_epoll object epolls ≡ epolls
other_epolls kind.Input epolls epoll = refl
other_epolls kind.Output epolls epoll = refl
other_epolls kind.Errors epolls epoll = refl
other_epolls (kind.Hosts read) epolls epoll = refl
other_epolls (kind.ReadEnd k) epolls epoll = refl
other_epolls (kind.WriteEnd k) epolls epoll = refl
other_epolls (kind.Timer k) epolls epoll = refl
other_epolls (kind.Eventfd k) epolls epoll = refl
other_epolls (kind.Epoll k) epolls epoll = absurd (epoll k refl)
other_epolls (kind.Udp k) epolls epoll = refl
other_epolls (kind.Tcp k) epolls epoll = refl
