-- what a record hears, and which acts leave it as it was
use Rattle.std.proofs.Common.{◌≡◌, ℕ, nat_lt, List, Bool, ◌&&◌, ◌||◌, refl, ◌∙◌}
use Rattle.sim_base.specs.declared.errno.Errno.{Errno}
use Rattle.sock_tcp.specs.segment.State.{is_over, is_time_wait, is_opening, is_syn_sent, is_syn_received, is_sending, is_synchronized}
use Rattle.sock_tcp.specs.segment.Control.{writing_ended}
use Rattle.sock_tcp.specs.connection.Tcb.{Tcb, Turn, data_end, unread, changed, with_control}
use Rattle.sock_tcp.specs.connection.Segment.{sends_ack, sends_syn_ack, sends_reset, sends_refusal}
use Rattle.sock_tcp.specs.connection.Ending.{ended, vanished, ends, vanishes}
use Rattle.sock_tcp.specs.connection.Timer.{needs_timer, judged, restarted, restarts, is_in_flight}
use Rattle.sock_tcp.specs.connection.Output.{sends_text, sends_fin, fin_is_next, follows, moves_next, output}
use Rattle.sock_tcp.specs.connection.Retransmission.{sends_again_text, sends_again, sends_syn, sends_syn_again, sends_one}
use Rattle.sock_tcp.specs.connection.Congestion.{flight_of, tells_loss}
use Rattle.sock_tcp.specs.connection.Arrival.{established, establishes, advanced, restarts_timer, advances, duplicate_heard, hears_duplicate, notices, unless_over, answers, waits_again, concludes}
use Rattle.sock_tcp.specs.connection.Process.{writes, pays_ack, flows_on, flows, ends_writing, socket_closed, closes_socket, closes, error_taken, backs_off, counts_expiry, retries_once, gives_up, expires_running, expires}
use Rattle.tcp_laws.proofs.Tests.{by_test}

pub record Ear : Type 0 where
  pub irs : ℕ
  pub rcv : ℕ
  pub received : List ℕ
  pub read : ℕ
  pub discarded : ℕ
  pub ended : Bool
  pub taken : Bool
  pub saw : Bool

abbrev pub ear : Tcb → Ear
ear r = record {
  irs = r.irs;
  rcv = r.rcv;
  received = r.received;
  read = r.read;
  discarded = r.discarded;
  ended = r.control.reading_ended;
  taken = r.control.fin_taken;
  saw = r.control.saw_end;
}

-- a call on its way hears what a record does
abbrev pub HearsAs : Ear → Turn → Type 0
HearsAs e t = ear t.tcb ≡ e

-- what is sent, and the timer
pub judged_ear : (t : Turn) → HearsAs (ear t.tcb) (judged t)
unfolding judged
judged_ear t =
    by_test (HearsAs (ear t.tcb)) (needs_timer t.tcb) _ _
    (λ e. by_test (HearsAs (ear t.tcb)) t.tcb.control.timer _ _ (λ k. refl) (λ k. refl))
    (λ e. refl)

pub restarts_ear : (t : Turn) → HearsAs (ear t.tcb) (restarts t)
unfolding restarts restarted
restarts_ear t = refl

pub sends_ack_ear : (t : Turn) → HearsAs (ear t.tcb) (sends_ack t)
unfolding sends_ack
sends_ack_ear t = refl

pub sends_syn_ack_ear : (t : Turn) → HearsAs (ear t.tcb) (sends_syn_ack t)
unfolding sends_syn_ack
sends_syn_ack_ear t = refl

pub sends_reset_ear : (t : Turn) → HearsAs (ear t.tcb) (sends_reset t)
unfolding sends_reset
sends_reset_ear t = refl

pub sends_refusal_ear : (ack : ℕ) (t : Turn) → HearsAs (ear t.tcb) (sends_refusal ack t)
unfolding sends_refusal
sends_refusal_ear ack t = refl

pub ends_ear : (error : Errno) (t : Turn) → HearsAs (ear t.tcb) (ends error t)
unfolding ends ended
ends_ear error t = refl

pub vanishes_ear : (t : Turn) → HearsAs (ear t.tcb) (vanishes t)
unfolding vanishes vanished
vanishes_ear t = refl

sends_fin_ear : (t : Turn) → HearsAs (ear t.tcb) (sends_fin t)
unfolding sends_fin
sends_fin_ear t = by_test (HearsAs (ear t.tcb)) (fin_is_next t.tcb) _ _ (λ e. refl) (λ e. refl)

sends_text_ear : (t : Turn) → HearsAs (ear t.tcb) (sends_text t)
unfolding sends_text
sends_text_ear t = refl

follows_ear : (t : Turn) → HearsAs (ear t.tcb) (follows t)
unfolding follows
follows_ear t = refl

pub output_ear : (t : Turn) → HearsAs (ear t.tcb) (output t)
unfolding output
output_ear t =
    by_test (HearsAs (ear t.tcb)) (is_sending t.tcb.control.state) _ _
    (λ e. follows_ear (sends_fin (sends_text t)) ∙ (sends_fin_ear (sends_text t) ∙ sends_text_ear t))
    (λ e. refl)

-- what goes out again
sends_again_text_ear : (t : Turn) → HearsAs (ear t.tcb) (sends_again_text t)
unfolding sends_again_text
sends_again_text_ear t = refl

sends_again_ear : (t : Turn) → HearsAs (ear t.tcb) (sends_again t)
unfolding sends_again
sends_again_ear t =
    by_test (HearsAs (ear t.tcb)) (nat_lt t.tcb.una (data_end t.tcb)) _ _
    (λ e. sends_again_text_ear t)
    (λ e. sends_fin_ear (changed (moves_next t.tcb.una) t))

sends_syn_again_ear : (t : Turn) → HearsAs (ear t.tcb) (sends_syn_again t)
unfolding sends_syn_again sends_syn sends_syn_ack
sends_syn_again_ear t =
    by_test (HearsAs (ear t.tcb)) (is_syn_sent t.tcb.control.state) _ _ (λ e. refl) (λ e. refl)

pub sends_one_ear : (t : Turn) → HearsAs (ear t.tcb) (sends_one t)
unfolding sends_one
sends_one_ear t =
    by_test (HearsAs (ear t.tcb)) (is_opening t.tcb.control.state) _ _
    (λ e. sends_syn_again_ear t)
    (λ e.
    by_test (HearsAs (ear t.tcb)) (is_sending t.tcb.control.state) _ _
    (λ k. follows_ear (sends_again t) ∙ sends_again_ear t)
    (λ k. refl))

-- acknowledgements
pub establishes_ear : (window : ℕ) (t : Turn) → HearsAs (ear t.tcb) (establishes window t)
unfolding establishes established restarts restarted
establishes_ear window t = judged_ear (restarts (changed (established window) t))

advanced_ear : (by window : ℕ) (r : Tcb) → ear (advanced by window r) ≡ ear r
unfolding advanced
advanced_ear by window r = refl

pub advances_ear : (by window : ℕ) (t : Turn) → HearsAs (ear t.tcb) (advances by window t)
unfolding advances
advances_ear by window t =
    let moved = changed (advanced by window) t in
    judged_ear _
    ∙ by_test (HearsAs (ear t.tcb)) (restarts_timer by window t.tcb.control) _ _
    (λ e. restarts_ear moved ∙ advanced_ear by window t.tcb)
    (λ e. advanced_ear by window t.tcb)

hears_duplicate_ear : (t : Turn) → HearsAs (ear t.tcb) (hears_duplicate t)
unfolding hears_duplicate
hears_duplicate_ear t =
    by_test (HearsAs (ear t.tcb)) (tells_loss t.tcb.una (flight_of t.tcb)) _ _
    (λ e. sends_one_ear (changed duplicate_heard t))
    (λ e. refl)

pub notices_ear : (duplicate : Bool) (t : Turn) → HearsAs (ear t.tcb) (notices duplicate t)
unfolding notices
notices_ear duplicate t =
    by_test (HearsAs (ear t.tcb)) duplicate _ _ (λ e. hears_duplicate_ear t) (λ e. refl)

-- the answer to a segment
answers_ear : (wanted : Bool) (t : Turn) → HearsAs (ear t.tcb) (answers wanted t)
unfolding answers
answers_ear wanted t = by_test (HearsAs (ear t.tcb)) wanted _ _ (λ e. sends_ack_ear t) (λ e. refl)

waits_again_ear : (fin : Bool) (t : Turn) → HearsAs (ear t.tcb) (waits_again fin t)
unfolding waits_again
waits_again_ear fin t =
    by_test (HearsAs (ear t.tcb)) (fin && is_time_wait t.tcb.control.state) _ _
    (λ e. restarts_ear t)
    (λ e. refl)

concludes_ear : (wanted fin : Bool) (t : Turn) → HearsAs (ear t.tcb) (concludes wanted fin t)
unfolding concludes
concludes_ear wanted fin t =
    output_ear (waits_again fin (answers wanted t)) ∙ (waits_again_ear fin (answers wanted t) ∙ answers_ear wanted t)

pub unless_over_ear : (act : Turn → Turn) (t : Turn) → HearsAs (ear t.tcb) (act t) → HearsAs (ear t.tcb) (unless_over act t)
unfolding unless_over
unless_over_ear act t h =
    by_test (HearsAs (ear t.tcb)) (is_over t.tcb.control.state) _ _ (λ e. refl) (λ e. h)

pub concluded_ear : (wanted fin : Bool) (t : Turn) → HearsAs (ear t.tcb) (unless_over (concludes wanted fin) t)
concluded_ear wanted fin t = unless_over_ear (concludes wanted fin) t (concludes_ear wanted fin t)

-- calls of the process
pub writes_ear : (bytes : List ℕ) (t : Turn) → HearsAs (ear t.tcb) (changed (writes bytes) t)
unfolding writes
writes_ear bytes t = refl

pays_ack_ear : (t : Turn) → HearsAs (ear t.tcb) (pays_ack t)
unfolding pays_ack sends_ack
pays_ack_ear t = by_test (HearsAs (ear t.tcb)) t.tcb.control.owes_ack _ _ (λ e. refl) (λ e. refl)

pub flows_ear : (t : Turn) → HearsAs (ear t.tcb) (flows t)
unfolding flows
flows_ear t =
    judged_ear (unless_over flows_on t)
    ∙ unless_over_ear flows_on t (output_ear (pays_ack t) ∙ pays_ack_ear t)

pub ends_writing_ear : (t : Turn) → HearsAs (ear t.tcb) (ends_writing t)
unfolding ends_writing writing_ended
ends_writing_ear t =
    by_test (HearsAs (ear t.tcb)) (is_opening t.tcb.control.state) _ _
    (λ e. refl)
    (λ e. output_ear (changed (with_control writing_ended) t))

closes_socket_ear : (t : Turn) → HearsAs (ear t.tcb) (closes_socket t)
unfolding closes_socket
closes_socket_ear t =
    by_test (HearsAs (ear t.tcb)) (is_syn_sent t.tcb.control.state || is_over t.tcb.control.state) _ _
    (λ e. vanishes_ear t)
    (λ e.
    by_test (HearsAs (ear t.tcb)) (nat_lt 0 (unread t.tcb)) _ _
    (λ k. vanishes_ear (sends_reset t) ∙ sends_reset_ear t)
    (λ k. ends_writing_ear t))

pub closes_ear : (t : Turn) → HearsAs (ear t.tcb) (closes t)
unfolding closes
closes_ear t =
    let u = changed (with_control socket_closed) t in judged_ear (closes_socket u) ∙ closes_socket_ear u

pub error_taken_ear : (t : Turn) → HearsAs (ear t.tcb) (changed error_taken t)
unfolding error_taken
error_taken_ear t = refl

-- the timer
backs_off_ear : (r : Tcb) → ear (backs_off r) ≡ ear r
unfolding backs_off
backs_off_ear r =
    by_test (λ (s : Tcb). ear s ≡ ear r) (is_synchronized r.control.state && is_in_flight r) _ _ (λ e. refl) (λ e. refl)

retries_once_ear : (t : Turn) → HearsAs (ear t.tcb) (retries_once t)
unfolding retries_once
retries_once_ear t =
    sends_one_ear (counts_expiry (changed backs_off t)) ∙ backs_off_ear t.tcb

gives_up_ear : (t : Turn) → HearsAs (ear t.tcb) (gives_up t)
unfolding gives_up
gives_up_ear t =
    by_test (HearsAs (ear t.tcb)) (is_syn_received t.tcb.control.state) _ _ (λ e. vanishes_ear t) (λ e. ends_ear _ t)

expires_running_ear : (t : Turn) → HearsAs (ear t.tcb) (expires_running t)
unfolding expires_running
expires_running_ear t =
    by_test (HearsAs (ear t.tcb)) (is_time_wait t.tcb.control.state) _ _
    (λ e. vanishes_ear t)
    (λ e.
    by_test (HearsAs (ear t.tcb)) (nat_lt t.tcb.control.retries 6) _ _ (λ k. retries_once_ear t) (λ k. gives_up_ear t))

pub expires_ear : (t : Turn) → HearsAs (ear t.tcb) (expires t)
unfolding expires
expires_ear t =
    by_test (HearsAs (ear t.tcb)) t.tcb.control.timer _ _
    (λ e. judged_ear (expires_running t) ∙ expires_running_ear t)
    (λ e. refl)
