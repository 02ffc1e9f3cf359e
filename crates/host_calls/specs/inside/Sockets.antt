-- A socket as the code makes it.
use Rattle.std.specs.Prelude.{◌≡◌, ℕ, Bool, if◌then◌else◌}
use Rattle.host_files.specs.declared.file.Object.{Object}
use Rattle.host_files.specs.declared.file.Object.TheVariants as kind
use Rattle.host_sockets.specs.declared.sockets.Sockets.{Sockets}
use Rattle.host_sockets.specs.Sockets.{SocketsRecord, new_tcp}
use Rattle.host_sockets.specs.StandsFor.{Stand}
use Rattle.host_sockets.specs.Udp.{new_udp}

abbrev pub as_object : (ℕ → Object) → ℕ × SocketsRecord → Object × SocketsRecord
as_object object (k, t) = (object k, t)

abbrev pub new_object : Bool → SocketsRecord → Object × SocketsRecord
new_object stream t = if stream then as_object kind.Tcp (new_tcp t) else as_object kind.Udp (new_udp t)

abbrev pub Makes : Object × SocketsRecord → Object → Sockets → Type 0
Makes (o, t) object c = (object ≡ o) × Stand c t
