-- a listener's connections that are accepted, and those that are reset
use Rattle.std.proofs.Common.{◌≡◌, ℕ, ◌<◌, List, [], ◌∷◌, length, Option, Some, None, slice_get, sym, ap, subst, ◌∙◌, arith}
use Rattle.std.specs.List.{All}
use Rattle.std.proofs.lemmas.List.Elements.{All-nil, All-head}
use Rattle.sock_tcp.specs.declared.connection.conn.Conn.{Conn}
use Rattle.sock_tcp.specs.declared.connection.effects.Effects.{Effects}
use Rattle.sock_tcp.specs.declared.listener.Listener.{Listener}
use Rattle.sock_tcp.specs.connection.Tcb.{Tcb}
use Rattle.sock_tcp.specs.connection.Resets.{resets_of}
use Rattle.sock_tcp.specs.connection.StandsFor.{StandsFor, StandsAll}
use Rattle.sock_tcp.specs.listener.Listen.{Listen, without, accepted_at, accepted_from, accepts, hears_close}
use Rattle.sock_tcp.specs.listener.ListensFor.{ListensFor, Tells, AcceptsAs}
use Rattle.sock_tcp.proofs.Connections.Places.{same_length, record_at}

-- nothing is accepted where the queue is empty
none_from : (queue : List ℕ) (k : Listener) (l : Listen) → None ≡ slice_get queue 0 → ListensFor k l → AcceptsAs (accepted_from queue l) l None k
none_from [] k l e h = h
none_from (place ∷ behind) k l e h = cc

pub accepts_none : (k : Listener) (l : Listen) → ListensFor k l → None ≡ slice_get l.accept_queue 0 → AcceptsAs (accepts l) l None k
unfolding accepts
accepts_none k l h e = none_from l.accept_queue k l e h

-- the first place of the queue is that of a record
place_below : (queue : List ℕ) (place n : ℕ) → slice_get queue 0 ≡ Some place → All (λ at. at < n) queue → place < n
place_below [] place n e h = cc
place_below (first ∷ behind) place n e h =
    let same : first ≡ place = cc in
    subst (λ (x : ℕ). x < n) same (All-head (λ at. at < n) first behind h)

pub first_below : (k : Listener) (l : Listen) (place : ℕ) → slice_get k.accept_queue.items 0 ≡ Some place → ListensFor k l → place < length k.records.items
first_below k l place e h =
    let at : slice_get l.accept_queue 0 ≡ Some place = ap (λ xs. slice_get xs 0) (sym h.accept_queue) ∙ e in
    omega (arith, place_below l.accept_queue place (length l.records) at h.places, same_length k.records.items l.records h.records)

-- else the record there is accepted
first_from : (queue : List ℕ) (place : ℕ) (r : Tcb) (k' : Listener) (l : Listen) (conn : Conn) → slice_get queue 0 ≡ Some place → slice_get l.records place ≡ Some r → StandsFor conn r → ListensFor k' (without place l) → AcceptsAs (accepted_from queue l) l (Some conn) k'
first_from [] place r k' l conn e at s h = cc
first_from (first ∷ behind) place r k' l conn e at s h =
    let same : first ≡ place = cc in
    let is : accepted_from (first ∷ behind) l ≡ Some (r, without place l) =
    ap (λ n. accepted_at n (slice_get l.records n) l) same ∙ ap (λ o. accepted_at place o l) at in
    subst (λ (o : Option (Tcb × Listen)). AcceptsAs o l (Some conn) k') (sym is) (s, h)

pub accepts_first : (k k' : Listener) (l : Listen) (place : ℕ) (conn : Conn) → ListensFor k l → Some place ≡ slice_get l.accept_queue 0 → place < length k.records.items → ((m : Listen) → ListensFor k m → (r : Tcb) → slice_get m.records place ≡ Some r → StandsFor conn r) → ((m : Listen) → ListensFor k m → ListensFor k' (without place m)) → AcceptsAs (accepts l) l (Some conn) k'
unfolding accepts
accepts_first k k' l place conn h e b stands rest =
    let found = record_at k.records.items l.records place h.records b in
    first_from l.accept_queue place found.0 k' l conn (sym e) found.1 (stands l h found.0 found.1) (rest l h)

-- a listener that was closed
pub tells_close : (k k' : Listener) (l : Listen) (e : Effects) → ListensFor k l → k'.local ≡ k.local → k'.limit ≡ k.limit → k'.records.items ≡ [] → k'.accept_queue.items ≡ [] → e.segments.items ≡ resets_of l.records → e.timer ≡ None → Tells k' e (hears_close l)
unfolding hears_close
tells_close k k' l e h local limit records queue segments timer = record {
  listen = record {
    local = local ∙ h.local;
    limit = limit ∙ h.limit;
    records = subst (λ (xs : List Conn). StandsAll xs []) (sym records) tt;
    accept_queue = queue;
    places = All-nil (λ (place : ℕ). place < 0);
  };
  segments = segments;
  timer = timer;
}
