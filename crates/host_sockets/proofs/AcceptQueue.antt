-- no connection waits to be accepted exactly where the accept queue is empty
use Rattle.std.proofs.Common.{◌≡◌, ℕ, zero, suc, ◌==◌, ◌<◌, List, [], ◌∷◌, All, length, true, false, Option, Some, is_none, slice_get, refl, sym, ap, ◌∙◌, arith}
use Rattle.std.proofs.lemmas.Bool.Decides.{nat_tests}
use Rattle.sock_tcp.specs.declared.listener.Listener.{Listener}
use Rattle.sock_tcp.specs.connection.Tcb.{Tcb}
use Rattle.sock_tcp.specs.listener.Listen.{Listen, accepted_at, accepted_from, accepts}
use Rattle.sock_tcp.specs.listener.ListensFor.{ListensFor}

record_there : (records : List Tcb) (place : ℕ) → place < length records → (r : Tcb) × (slice_get records place ≡ Some r)
record_there [] place b = absurd (omega arith)
record_there (r ∷ records) zero b = (r, refl)
record_there (r ∷ records) (suc place) b = record_there records place (omega arith)

not_zero : (n k : ℕ) → n ≡ suc k → (n == 0) ≡ false
not_zero n k e = grind (arith, nat_tests)

is_zero : (n : ℕ) → n ≡ 0 → (n == 0) ≡ true
is_zero n e = grind (arith, nat_tests)

from : (l : Listen) (queue : List ℕ) → All (λ place. place < length l.records) queue → (n : ℕ) → n ≡ length queue → (n == 0) ≡ is_none (accepted_from queue l)
from l [] all n e = is_zero n e
from l (place ∷ behind) all n e =
    let here = record_there l.records place (all 0 0 (omega arith)) in
    not_zero n (length behind) e ∙ ap (λ (o : Option Tcb). is_none (accepted_at place o l)) (sym here.1)

pub none_waits : (k : Listener) (l : Listen) (n : ℕ) → ListensFor k l → n ≡ length l.accept_queue → (n == 0) ≡ is_none (accepts l)
unfolding accepts
none_waits k l n h e = from l l.accept_queue h.places n e
