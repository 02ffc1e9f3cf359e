-- an act in the place of a UDP socket is an act of all
use Rattle.std.proofs.Common.{◌≡◌, ℕ, zero, suc, ◌<◌, ◌≤◌, List, [], ◌∷◌, length, get_or, set, Option, Some, None, slice_get, Result, Ok, Err, refl, sym, ap, subst, ◌∙◌, arith}
use Rattle.sim_base.specs.declared.act.Act.{Act}
use Rattle.sim_base.specs.declared.address.Addr.{Addr}
use Rattle.sim_base.specs.declared.errno.Errno.TheVariants.{Ebadf}
use Rattle.sock_udp.specs.Socket.{UdpState, arrive}
use Rattle.host_wants.specs.declared.error.CallError.{CallError}
use Rattle.host_wants.specs.declared.error.CallError.TheVariants as error
use Rattle.host_wants.specs.declared.error.Refusal.{Refusal}
use Rattle.host_wants.specs.declared.error.Refusal.TheVariants as refusal
use Rattle.host_sockets.specs.declared.sockets.Sockets.{Sockets}
use Rattle.host_sockets.specs.declared.glance.Glance.{Glance}
use Rattle.host_sockets.specs.Rises.{udp_glance, slot_glance, moved_at}
use Rattle.host_sockets.specs.Sockets.{SocketsRecord}
use Rattle.host_sockets.specs.StandsFor.{AllStand, Stand, Becomes}
use Rattle.host_sockets.specs.Udp.{udp_in, socket_in, with_udp, udp_acts, acted_udp}
use Rattle.udp_slots.specs.SlotActs.{SlotDoes}
use Rattle.udp_slots.specs.Slots.{slot_arrives}
use Rattle.host_sockets.specs.Arriving.{datagram_in}
use Rattle.host_sockets.proofs.Endings.{UdpActEnds, same_moved}

slot_there : (slots : List (Option UdpState)) (k : ℕ) (d : Option UdpState) → k < length slots → slice_get slots k ≡ Some (get_or slots k d)
slot_there [] k d b = absurd (omega arith)
slot_there (x ∷ slots) zero d b = refl
slot_there (x ∷ slots) (suc k) d b = slot_there slots k d (omega arith)

slot_past : (slots : List (Option UdpState)) (k : ℕ) → length slots ≤ k → slice_get slots k ≡ None
slot_past [] k b = refl
slot_past (x ∷ slots) zero b = absurd (omega arith)
slot_past (x ∷ slots) (suc k) b = slot_past slots k (omega arith)

set_same : (slots : List (Option UdpState)) (k : ℕ) (x : Option UdpState) → slice_get slots k ≡ Some x → set slots k x ≡ slots
set_same [] k x e = refl
set_same (y ∷ slots) zero x e = let same : y ≡ x = cc in ap (λ (z : Option UdpState). z ∷ slots) (sym same)
set_same (y ∷ slots) (suc k) x e = ap (λ (zs : List (Option UdpState)). y ∷ zs) (set_same slots k x e)

pub slot_at : (c : Sockets) (t : SocketsRecord) (k : ℕ) (slot : Option UdpState) → Stand c t → k < length c.udp.slots.items → slot ≡ get_or c.udp.slots.items k slot → slice_get t.udp k ≡ Some slot
slot_at c t k slot h b is =
    ap (λ (slots : List (Option UdpState)). slice_get slots k) (sym h.udp) ∙ (slot_there c.udp.slots.items k slot b ∙ ap (λ (x : Option UdpState). Some x) (sym is))

pub told_udp : {A : Type 0} (c : Sockets) (t : SocketsRecord) (k : ℕ) (slot : Option UdpState) (f : Option UdpState → A) → Stand c t → k < length c.udp.slots.items → slot ≡ get_or c.udp.slots.items k slot → f slot ≡ f (udp_in k t)
told_udp c t k slot f h b is = ap (λ (o : Option (Option UdpState)). f (socket_in o)) (sym (slot_at c t k slot h b is))

pub told_no_udp : {A : Type 0} (c : Sockets) (t : SocketsRecord) (k : ℕ) (f : Option UdpState → A) → Stand c t → length c.udp.slots.items ≤ k → f None ≡ f (udp_in k t)
told_no_udp c t k f h b =
    ap (λ (o : Option (Option UdpState)). f (socket_in o)) (sym (ap (λ (slots : List (Option UdpState)). slice_get slots k) (sym h.udp) ∙ slot_past c.udp.slots.items k b))

-- another socket stands at the place, and its rises have moved on
stand_udp : (c c' : Sockets) (t : SocketsRecord) (k : ℕ) (before : Glance) (old new : UdpState) → Stand c t → before ≡ udp_glance old → UdpActEnds c c' k before (Some new) → Stand c' (with_udp k old new t)
stand_udp c c' t k before old new h seen ends = record {
  own = ends.own ∙ h.own;
  udp = ends.udp ∙ ap (λ (slots : List (Option UdpState)). set slots k (Some new)) h.udp;
  tcp = subst (λ xs. AllStand xs t.tcp) (sym ends.tcp) h.tcp;
  udp_risen = ends.udp_risen ∙ (ap (λ (g : Glance). moved_at k g (udp_glance new) c.udp_risen.items) seen ∙ ap (moved_at k (udp_glance old) (udp_glance new)) h.udp_risen);
  tcp_risen = ends.tcp_risen ∙ h.tcp_risen;
  gone = ends.gone ∙ h.gone;
}

-- or the same one, and they haven't
stand_same_udp : (c c' : Sockets) (t : SocketsRecord) (k : ℕ) (before : Glance) (old new : Option UdpState) → Stand c t → slice_get t.udp k ≡ Some old → new ≡ old → before ≡ slot_glance old → UdpActEnds c c' k before new → Stand c' t
stand_same_udp c c' t k before old new h at e seen ends = record {
  own = ends.own ∙ h.own;
  udp = ends.udp ∙ (ap (λ (slots : List (Option UdpState)). set slots k new) h.udp ∙ (ap (set t.udp k) e ∙ set_same t.udp k old at));
  tcp = subst (λ xs. AllStand xs t.tcp) (sym ends.tcp) h.tcp;
  udp_risen = ends.udp_risen
      ∙ (ap (λ (g : Glance). moved_at k g (slot_glance new) c.udp_risen.items) seen
      ∙ (ap (λ (o : Option UdpState). moved_at k (slot_glance old) (slot_glance o) c.udp_risen.items) e
      ∙ (same_moved (slot_glance old) c.udp_risen.items k ∙ h.udp_risen)));
  tcp_risen = ends.tcp_risen ∙ h.tcp_risen;
  gone = ends.gone ∙ h.gone;
}

-- by cases on what stood there and what the act answers
does : {A : Type 0} (act : UdpState → Result (A × UdpState) Refusal) (c c' : Sockets) (t : SocketsRecord) (k : ℕ) (before : Glance) (old new : Option UdpState) (result : Result A CallError) → Stand c t → slice_get t.udp k ≡ Some old → before ≡ slot_glance old → SlotDoes act old new result → UdpActEnds c c' k before new → Becomes (acted_udp act k (socket_in (Some old)) t) t c' result
does act c c' t k before None new (Ok a) h at seen d ends = absurd d
does act c c' t k before None new (Err (error.Refused why)) h at seen d ends = (ap (λ (r : Refusal). Err r) (sym d.0), stand_same_udp c c' t k before None new h at d.1 seen ends)
does act c c' t k before None new (Err error.NoMemory) h at seen d ends = tt
does act c c' t k before (Some u) new (Ok a) h at seen d ends =
    (with_udp k u d.0 t, (rw d.1.0 refl, stand_udp c c' t k before u d.0 h seen (subst (UdpActEnds c c' k before) d.1.1 ends)))
does act c c' t k before (Some u) new (Err (error.Refused why)) h at seen d ends = (rw d.0 refl, stand_same_udp c c' t k before (Some u) new h at d.1 seen ends)
does act c c' t k before (Some u) new (Err error.NoMemory) h at seen d ends = tt

pub becomes_udp : {A : Type 0} (act : UdpState → Result (A × UdpState) Refusal) (c c' : Sockets) (t : SocketsRecord) (k : ℕ) (before : Glance) (old new : Option UdpState) (result : Result A CallError) → Stand c t → k < length c.udp.slots.items → old ≡ get_or c.udp.slots.items k old → before ≡ slot_glance old → SlotDoes act old new result → UdpActEnds c c' k before new → Becomes (udp_acts act k t) t c' result
becomes_udp act c c' t k before old new result h b is seen d ends =
    let at = slot_at c t k old h b is in
    subst (λ (o : Option (Option UdpState)). Becomes (acted_udp act k (socket_in o) t) t c' result) (sym at) (does act c c' t k before old new result h at seen d ends)

-- a datagram that arrives
pub arrived_udp : (c c' : Sockets) (t : SocketsRecord) (k : ℕ) (before : Glance) (from : Addr) (bytes : List ℕ) (old new : Option UdpState) (act : Act) → Stand c t → k < length c.udp.slots.items → old ≡ get_or c.udp.slots.items k old → before ≡ slot_glance old → (act, new) ≡ slot_arrives from bytes old → UdpActEnds c c' k before new → (act ≡ (datagram_in from bytes k (udp_in k t) t).0) × Stand c' (datagram_in from bytes k (udp_in k t) t).1
arrived_udp c c' t k before from bytes old new act h b is seen e ends =
    let at = slot_at c t k old h b is in
    subst (λ (o : Option (Option UdpState)). (act ≡ (datagram_in from bytes k (socket_in o) t).0) × Stand c' (datagram_in from bytes k (socket_in o) t).1) (sym at) (by_slot old at seen e)
  where
    by_slot : (old : Option UdpState) → slice_get t.udp k ≡ Some old → before ≡ slot_glance old → (act, new) ≡ slot_arrives from bytes old → (act ≡ (datagram_in from bytes k old t).0) × Stand c' (datagram_in from bytes k old t).1
    by_slot None at seen e = (ap (λ (x : Act × Option UdpState). x.0) e, stand_same_udp c c' t k before None new h at (ap (λ (x : Act × Option UdpState). x.1) e) seen ends)
    by_slot (Some u) at seen e = (
      ap (λ (x : Act × Option UdpState). x.0) e,
      stand_udp c c' t k before u (arrive from bytes u).1 h seen (subst (UdpActEnds c c' k before) (ap (λ (x : Act × Option UdpState). x.1) e) ends),
    )

pub refused_udp : {A : Type 0} (act : UdpState → Result (A × UdpState) Refusal) (c : Sockets) (t : SocketsRecord) (k : ℕ) → Stand c t → length c.udp.slots.items ≤ k → Becomes {A = A} (udp_acts act k t) t c (Err (error.Refused (refusal.Errno Ebadf)))
refused_udp act c t k h b = (sym (told_no_udp c t k (λ o. acted_udp act k o t) h b), h)

-- acts that agree on the socket that stands there are one
pub slot_same : {A : Type 0} (f g : UdpState → Result (A × UdpState) Refusal) (old new : Option UdpState) (result : Result A CallError) → ((u : UdpState) → old ≡ Some u → f u ≡ g u) → SlotDoes f old new result → SlotDoes g old new result
slot_same f g None new (Ok a) same d = d
slot_same f g None new (Err (error.Refused why)) same d = d
slot_same f g None new (Err error.NoMemory) same d = d
slot_same f g (Some u) new (Ok a) same d = (d.0, (sym (same u refl) ∙ d.1.0, d.1.1))
slot_same f g (Some u) new (Err (error.Refused why)) same d = (sym (same u refl) ∙ d.0, d.1)
slot_same f g (Some u) new (Err error.NoMemory) same d = d
