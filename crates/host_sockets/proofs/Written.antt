-- how many bytes a connection takes, and what it gives
use Rattle.std.proofs.Common.{◌≡◌, ℕ, ◌≤◌, List, [], ◌++◌, length, take, drop, min, Bool, true, false, cond, Option, Some, None, ap, ◌∙◌, arith}
use Rattle.std.proofs.lemmas.List.{length-take}
use Rattle.std.proofs.Math.Seq.{take-append_seam}
use Rattle.sock_tcp.specs.declared.connection.conn.Conn.{Conn}
use Rattle.sock_tcp.specs.connection.Tcb.{Tcb}
use Rattle.sock_tcp.specs.connection.Process.{bytes_taken, bytes_read, room}
use Rattle.sock_tcp.specs.connection.StandsFor.{StandsFor}
use Rattle.sock_tcp.specs.segment.Control.{takes_bytes}
use Rattle.host_sockets.specs.Moving.{count_taken}
use Rattle.host_sockets.specs.StandsFor.{ConnStands}

taken_if : (b : Bool) (n : ℕ) (bytes : List ℕ) → length (cond b (take n bytes) []) ≤ length bytes
taken_if true n bytes = omega (arith, length-take n bytes)
taken_if false n bytes = omega arith

-- at most all of them
pub taken_fits : (bytes : List ℕ) (r : Tcb) → length (bytes_taken bytes r) ≤ length bytes
unfolding bytes_taken
taken_fits bytes r = taken_if (takes_bytes r.control) (room r) bytes

pub counts_taken : (o : Option Tcb) (conn : Conn) (bytes : List ℕ) (n count : ℕ) → ConnStands (Some conn) o → ((r : Tcb) → StandsFor conn r → n ≡ length (bytes_taken bytes r)) → count ≡ min n (length bytes) → count ≡ count_taken bytes o
counts_taken None conn bytes n count stands told e = absurd stands
counts_taken (Some r) conn bytes n count stands told e =
    let fits = taken_fits bytes r in
    let same : n ≡ length (bytes_taken bytes r) = told r stands in
    omega arith

-- what a slice of so many bytes is given, cut to what was given
pub bytes_cut : (count given : ℕ) (r : Tcb) (into left bytes : List ℕ) → length into ≡ count → given ≡ length (bytes_read (length into) r) → left ≡ bytes_read (length into) r ++ drop given into → bytes ≡ take given left → bytes ≡ bytes_read count r
bytes_cut count given r into left bytes size given_is left_is is =
    is
    ∙ (ap (take given) left_is
    ∙ (ap (λ n. take n (bytes_read (length into) r ++ drop given into)) given_is
    ∙ (take-append_seam (bytes_read (length into) r) (drop given into)
    ∙ ap (λ n. bytes_read n r) size)))

pub cut_fits : (count given : ℕ) (left bytes : List ℕ) → length left ≡ count → bytes ≡ take given left → length bytes ≤ count
cut_fits count given left bytes size is = omega (arith, ap length is, length-take given left)

-- the whole of what was lent
pub whole_lent : (n : ℕ) (left behind : List ℕ) → n ≡ length left → take n (left ++ behind) ≡ left
whole_lent n left behind e = ap (λ (m : ℕ). take m (left ++ behind)) e ∙ take-append_seam left behind
