-- in which states the SYN was heard and the FIN was taken
use Rattle.std.proofs.Common.{◌≡◌, ℕ, ◌≤◌, nat_lt, Bool, true, false, refl, ◌∙◌}
use Rattle.sock_tcp.specs.declared.segment.state.TcpState.{TcpState}
use Rattle.sock_tcp.specs.declared.segment.state.TcpState.TheVariants.{SynSent, SynReceived, Established, FinWait1, FinWait2, CloseWait, Closing, LastAck, TimeWait, Ended, Vanished}
use Rattle.sock_tcp.specs.segment.State.{is_opening, is_sending, is_syn_sent, is_syn_received, takes_text, after_own_fin}
use Rattle.sock_tcp.specs.connection.Tcb.{Turn, data_end, changed}
use Rattle.sock_tcp.specs.connection.Segment.{sends_syn_ack}
use Rattle.sock_tcp.specs.connection.Timer.{needs_timer, judged, restarted, restarts}
use Rattle.sock_tcp.specs.connection.Retransmission.{sends_again_text, sends_again, sends_syn, sends_syn_again, sends_one}
use Rattle.sock_tcp.specs.connection.Output.{fin_is_next, moves_next, sends_fin, follows}
use Rattle.sock_tcp.specs.connection.Congestion.{flight_of, tells_loss}
use Rattle.sock_tcp.specs.connection.Arrival.{own_fin_acknowledged, state_advanced, advanced, restarts_timer, advances, duplicate_heard, hears_duplicate, notices}
use Rattle.tcp_laws.specs.Received.{FitsTaken}
use Rattle.tcp_laws.proofs.Tests.{by_test}

-- where text is taken, the SYN was and the FIN wasn't
abbrev pub IsOpen : Turn → Type 0
IsOpen t = takes_text t.tcb.control.state ≡ true → (t.tcb.control.fin_taken ≡ false) × (1 ≤ t.tcb.rcv)

pub open_stage : (state : TcpState) (taken : Bool) (rcv : ℕ) → takes_text state ≡ true → FitsTaken state taken rcv → (taken ≡ false) × (1 ≤ rcv)
open_stage SynSent taken rcv t h = cc
open_stage SynReceived taken rcv t h = cc
open_stage Established taken rcv t h = h
open_stage FinWait1 taken rcv t h = h
open_stage FinWait2 taken rcv t h = h
open_stage CloseWait taken rcv t h = cc
open_stage Closing taken rcv t h = cc
open_stage LastAck taken rcv t h = cc
open_stage TimeWait taken rcv t h = cc
open_stage Ended taken rcv t h = cc
open_stage Vanished taken rcv t h = cc

pub half_open : (state : TcpState) (taken : Bool) (rcv : ℕ) → is_syn_received state ≡ true → FitsTaken state taken rcv → (taken ≡ false) × (1 ≤ rcv)
half_open SynSent taken rcv t h = cc
half_open SynReceived taken rcv t h = h
half_open Established taken rcv t h = cc
half_open FinWait1 taken rcv t h = cc
half_open FinWait2 taken rcv t h = cc
half_open CloseWait taken rcv t h = cc
half_open Closing taken rcv t h = cc
half_open LastAck taken rcv t h = cc
half_open TimeWait taken rcv t h = cc
half_open Ended taken rcv t h = cc
half_open Vanished taken rcv t h = cc

pub unopened : (state : TcpState) (taken : Bool) (rcv : ℕ) → is_syn_sent state ≡ true → FitsTaken state taken rcv → rcv ≡ 0
unopened SynSent taken rcv t h = h
unopened SynReceived taken rcv t h = cc
unopened Established taken rcv t h = cc
unopened FinWait1 taken rcv t h = cc
unopened FinWait2 taken rcv t h = cc
unopened CloseWait taken rcv t h = cc
unopened Closing taken rcv t h = cc
unopened LastAck taken rcv t h = cc
unopened TimeWait taken rcv t h = cc
unopened Ended taken rcv t h = cc
unopened Vanished taken rcv t h = cc

still_open : (state : TcpState) → takes_text (after_own_fin state) ≡ true → takes_text state ≡ true
still_open SynSent t = t
still_open SynReceived t = t
still_open Established t = t
still_open FinWait1 t = refl
still_open FinWait2 t = t
still_open CloseWait t = t
still_open Closing t = cc
still_open LastAck t = cc
still_open TimeWait t = t
still_open Ended t = t
still_open Vanished t = t

pub open_advanced : (fin : Bool) (state : TcpState) → takes_text (state_advanced fin state) ≡ true → takes_text state ≡ true
open_advanced true state t = still_open state t
open_advanced false state t = t

-- the state as it is where numbers are acknowledged
state_judged : (t : Turn) → (judged t).tcb.control.state ≡ t.tcb.control.state
unfolding judged
state_judged t =
    let P : Turn → Type 0 = λ u. u.tcb.control.state ≡ t.tcb.control.state in
    by_test P (needs_timer t.tcb) _ _
    (λ e. by_test P t.tcb.control.timer _ _ (λ k. refl) (λ k. refl))
    (λ e. refl)

pub state_advances : (by window : ℕ) (t : Turn) → (advances by window t).tcb.control.state ≡ state_advanced (own_fin_acknowledged by t.tcb) t.tcb.control.state
unfolding advances advanced restarts restarted
state_advances by window t =
    state_judged _
    ∙ by_test (λ (u : Turn). u.tcb.control.state ≡ state_advanced (own_fin_acknowledged by t.tcb) t.tcb.control.state) (restarts_timer by window t.tcb.control) _ _ (λ e. refl) (λ e. refl)

state_sends_fin : (t : Turn) → (sends_fin t).tcb.control.state ≡ t.tcb.control.state
unfolding sends_fin
state_sends_fin t =
    by_test (λ (u : Turn). u.tcb.control.state ≡ t.tcb.control.state) (fin_is_next t.tcb) _ _ (λ e. refl) (λ e. refl)

state_sends_again : (t : Turn) → (sends_again t).tcb.control.state ≡ t.tcb.control.state
unfolding sends_again sends_again_text
state_sends_again t =
    by_test (λ (u : Turn). u.tcb.control.state ≡ t.tcb.control.state) (nat_lt t.tcb.una (data_end t.tcb)) _ _
    (λ e. refl)
    (λ e. state_sends_fin (changed (moves_next t.tcb.una) t))

state_sends_syn_again : (t : Turn) → (sends_syn_again t).tcb.control.state ≡ t.tcb.control.state
unfolding sends_syn_again sends_syn sends_syn_ack
state_sends_syn_again t =
    by_test (λ (u : Turn). u.tcb.control.state ≡ t.tcb.control.state) (is_syn_sent t.tcb.control.state) _ _ (λ e. refl) (λ e. refl)

state_follows : (t : Turn) → (follows t).tcb.control.state ≡ t.tcb.control.state
unfolding follows
state_follows t = refl

state_sends_one : (t : Turn) → (sends_one t).tcb.control.state ≡ t.tcb.control.state
unfolding sends_one
state_sends_one t =
    let P : Turn → Type 0 = λ u. u.tcb.control.state ≡ t.tcb.control.state in
    by_test P (is_opening t.tcb.control.state) _ _
    (λ e. state_sends_syn_again t)
    (λ e.
    by_test P (is_sending t.tcb.control.state) _ _
    (λ k. state_follows (sends_again t) ∙ state_sends_again t)
    (λ k. refl))

state_hears_duplicate : (t : Turn) → (hears_duplicate t).tcb.control.state ≡ t.tcb.control.state
unfolding hears_duplicate
state_hears_duplicate t =
    by_test (λ (u : Turn). u.tcb.control.state ≡ t.tcb.control.state) (tells_loss t.tcb.una (flight_of t.tcb)) _ _
    (λ e. state_sends_one (changed duplicate_heard t))
    (λ e. refl)

pub state_notices : (duplicate : Bool) (t : Turn) → (notices duplicate t).tcb.control.state ≡ t.tcb.control.state
unfolding notices
state_notices duplicate t =
    by_test (λ (u : Turn). u.tcb.control.state ≡ t.tcb.control.state) duplicate _ _ (λ e. state_hears_duplicate t) (λ e. refl)
