-- a record of a socket that is let go, or stays
use Rattle.std.proofs.Common.{◌≡◌, ℕ, List, [], ◌∷◌, ◌++◌, Bool, true, false, Option, Some, None, if◌then◌else◌, Result, Ok, Err, OnOk, refl, sym, ap, subst, append-nil, ◌∙◌}
use Rattle.sim_base.specs.declared.packet.Packet.{Packet}
use Rattle.sim_base.specs.declared.time.Time.{Time}
use Rattle.sock_tcp.specs.declared.connection.carried.Carried.{Carried}
use Rattle.sock_tcp.specs.declared.connection.conn.Conn.{Conn}
use Rattle.sock_tcp.specs.declared.connection.effects.Effects.{Effects}
use Rattle.sock_tcp.specs.connection.Carried.{carried_of, with_gone}
use Rattle.sock_tcp.specs.connection.StandsFor.{StandsFor}
use Rattle.sock_tcp.specs.connection.Tcb.{Tcb, Turn}
use Rattle.sock_tcp.specs.connection.Timer.{timer_of}
use Rattle.host_sockets.specs.declared.tcp_sock.TcpSock.{TcpSock}
use Rattle.host_sockets.specs.TcpActs.{Acted, unacted, is_let_go, fresh_again, let_go, starts, turned}
use Rattle.host_sockets.specs.TcpSocket.{TcpSocket, with_tcb}
use Rattle.host_sockets.specs.SocketsStand.{ConnStands, SocketStands}
use Rattle.host_sockets.specs.inside.StandsFor.{Brings}
use Rattle.host_wants.specs.Wanted.{Wanted, sends}

pub record_is : (o : Option Conn) (q : Option Tcb) (conn : Conn) (r : Tcb) → ConnStands o q → o ≡ Some conn → q ≡ Some r → StandsFor conn r
record_is None q conn r h e f = cc
record_is (Some c) None conn r h e f = cc
record_is (Some c) (Some x) conn r h e f =
    let one : c ≡ conn = cc in
    let two : x ≡ r = cc in
    subst (λ (k : Conn). StandsFor k r) one (subst (λ (t : Tcb). StandsFor c t) two h)

let_go_if : Bool → Tcb → TcpSocket → Wanted → Acted
let_go_if b r s w = if b then record { socket = fresh_again s; wanted = w; gone = r ∷ [] } else unacted s w

pub goes : (r : Tcb) (s : TcpSocket) (w : Wanted) (carried : Carried) (before gone : List Carried) → is_let_go r s ≡ true → carried ≡ carried_of r → gone ≡ before ++ carried ∷ [] → gone ≡ with_gone (let_go r s w).gone before
unfolding let_go_if
goes r s w carried before gone b one e =
    let left : (let_go r s w).gone ≡ r ∷ [] = ap (λ t. (let_go_if t r s w).gone) b in
    e ∙ (ap (λ c. before ++ c ∷ []) one ∙ ap (λ rs. with_gone rs before) (sym left))

pub stays : (r : Tcb) (s : TcpSocket) (w : Wanted) (gone : List Carried) → is_let_go r s ≡ false → gone ≡ with_gone (let_go r s w).gone gone
unfolding let_go_if
stays r s w gone b =
    let left : (let_go r s w).gone ≡ [] = ap (λ t. (let_go_if t r s w).gone) b in
    sym (ap (λ rs. with_gone rs gone) left ∙ append-nil gone)

-- a timer that starts leaves the record, and a record that goes what is wanted
starts_record : (now : Time) (k : ℕ) (timer : Option Time) (s : TcpSocket) (w : Wanted) → (starts now k timer s w).0.tcb ≡ s.tcb
starts_record now k None s w = refl
starts_record now k (Some length) s w = refl

wants_same : (b : Bool) (r : Tcb) (s : TcpSocket) (w : Wanted) → (let_go_if b r s w).wanted ≡ w
unfolding let_go_if
wants_same true r s w = refl
wants_same false r s w = refl

-- segments were sent and a timer started, and the record is let go or stays
pub brings_about : {A E : Type 0} (now : Time) (k : ℕ) (old mid new : TcpSock) (effects : Effects) (w w1 w2 : Wanted) (before left : List Carried) (answer : Result A E) → w1 ≡ sends effects.segments.items w → ((s : TcpSocket) → SocketStands old s → SocketStands mid (starts now k effects.timer s w1).0) → ((s : TcpSocket) → w2 ≡ (starts now k effects.timer s w1).1)
    → OnOk answer ((s : TcpSocket) (r : Tcb) (w : Wanted) → SocketStands mid s → s.tcb ≡ Some r → SocketStands new (let_go r s w).socket)
    → OnOk answer ((s : TcpSocket) (r : Tcb) (w : Wanted) → SocketStands mid s → s.tcb ≡ Some r → left ≡ with_gone (let_go r s w).gone before)
    → OnOk answer ((s : TcpSocket) (t : Turn) → SocketStands old (with_tcb t.tcb s) → effects.segments.items ≡ t.sent → effects.timer ≡ timer_of t → Brings new w2 before left (turned now k t s w))
unfolding turned let_go_if
brings_about now k old mid new effects w w1 w2 before left (Err e) sent stands wanted goes_on gone = tt
brings_about now k old mid new effects w w1 w2 before left (Ok a) sent stands wanted goes_on gone = λ s t h segments timer.
    let from : TcpSocket = with_tcb t.tcb s in
    let same : starts now k effects.timer from w1 ≡ starts now k (timer_of t) from (sends t.sent w) =
    ap (λ (x : Wanted). starts now k effects.timer from x) (sent ∙ ap (λ (ps : List Packet). sends ps w) segments) ∙ ap (λ (o : Option Time). starts now k o from (sends t.sent w)) timer in
    let started : TcpSocket × Wanted = starts now k (timer_of t) from (sends t.sent w) in
    let there : SocketStands mid started.0 = subst (λ (p : TcpSocket × Wanted). SocketStands mid p.0) same (stands from h) in
    let has : started.0.tcb ≡ Some t.tcb = starts_record now k (timer_of t) from (sends t.sent w) in
    record {
      socket = goes_on started.0 t.tcb started.1 there has;
      wanted = wanted from ∙ (ap (λ (p : TcpSocket × Wanted). p.1) same ∙ sym (wants_same (is_let_go t.tcb started.0) t.tcb started.0 started.1));
      gone = gone started.0 t.tcb started.1 there has;
    }
