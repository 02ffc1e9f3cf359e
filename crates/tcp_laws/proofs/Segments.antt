-- what each kind of segment carries
use Rattle.std.proofs.Common.{◌≡◌, ℕ, zero, suc, ◌+◌, ◌≤◌, List, [], ◌∷◌, ◌++◌, length, take, drop, Bool, true, ◌⊎◌, inl, inr, refl, sym, ap, subst, ◌∙◌, length-append, arith}
use Rattle.std.proofs.lemmas.List.{length-take, length-drop}
use Rattle.sim_base.specs.Packet.{fin_flag, syn_flag, rst_flag, ack_flag}
use Rattle.sim_base.specs.declared.address.Addr.{Addr}
use Rattle.sim_base.specs.declared.packet.Packet.{Packet}
use Rattle.sim_base.specs.declared.packet.Load.{Load}
use Rattle.sim_base.specs.declared.packet.Load.TheVariants.{Udp, Tcp}
use Rattle.sock_tcp.specs.declared.segment.control.Control.{Control}
use Rattle.sock_tcp.specs.declared.segment.header.Header.{Header}
use Rattle.sock_tcp.specs.segment.Header.{header_of}
use Rattle.sock_tcp.specs.segment.Number.{wire}
use Rattle.sock_tcp.specs.connection.Retransmission.{probe_length}
use Rattle.sock_tcp.specs.segment.Control.{without_ack, send_window}
use Rattle.sock_tcp.specs.connection.Tcb.{Tcb, data_end}
use Rattle.sock_tcp.specs.connection.Segment.{with_ack}
use Rattle.sock_tcp.specs.connection.Output.{cut, pieces, text_segments}
use Rattle.tcp_laws.specs.Sending.{IsAt, stream, Carries, LoadCarries, Sent, AreSent, AreOf}
use Rattle.tcp_laws.specs.Window.{LoadWithin, AreWithin, LoadAgain, FitWindow}
use Rattle.tcp_laws.proofs.Places.{nothing_at, IsAt_take, IsAt_drop, IsAt_append}

-- one more segment, and more of them
AreSent_push : (own other : Addr) (iss : ℕ) (written : List ℕ) (wanted : Bool) (packets : List Packet) (p : Packet) → AreSent own other iss written wanted packets → Sent own other iss written wanted p → AreSent own other iss written wanted (packets ++ p ∷ [])
AreSent_push own other iss written wanted [] p h s = (s, tt)
AreSent_push own other iss written wanted (q ∷ packets) p h s =
    (h.0, AreSent_push own other iss written wanted packets p h.1 s)

AreSent_append : (own other : Addr) (iss : ℕ) (written : List ℕ) (wanted : Bool) (packets more : List Packet) → AreSent own other iss written wanted packets → AreSent own other iss written wanted more → AreSent own other iss written wanted (packets ++ more)
AreSent_append own other iss written wanted [] more h s = s
AreSent_append own other iss written wanted (q ∷ packets) more h s =
    (h.0, AreSent_append own other iss written wanted packets more h.1 s)

-- as what was written grows, and writing ends
part_grows : (written bytes more text : List ℕ) (place : ℕ) → bytes ≡ written ++ more → IsAt place text (stream written) → IsAt place text (stream bytes)
part_grows written bytes more text place e p =
    subst (λ (xs : List ℕ). IsAt place text (stream xs)) (sym e) (IsAt_append place text (stream written) more p)

pub Carries_grows : (iss : ℕ) (written bytes more : List ℕ) (before after : Bool) (h : Header) (text : List ℕ) → bytes ≡ written ++ more → (before ≡ true → (after ≡ true) × (more ≡ [])) → Carries iss written before h text → Carries iss bytes after h text
Carries_grows iss written bytes more before after h text e k c =
    let long : length bytes ≡ length written + length more = ap length e ∙ length-append written more in
    record {
      offset = c.offset;
      seq = c.seq;
      within = omega (arith, c.within, long);
      syn = c.syn;
      part = part_grows written bytes more text c.offset e c.part;
      fin = λ f.
          let was = c.fin f in
          let now = k was.0 in
          let none : length more ≡ 0 = ap length now.1 in
          (now.0, omega (arith, was.1, long, none));
    }

pub LoadCarries_grows : (iss : ℕ) (written bytes more : List ℕ) (before after : Bool) (load : Load) → bytes ≡ written ++ more → (before ≡ true → (after ≡ true) × (more ≡ [])) → LoadCarries iss written before load → LoadCarries iss bytes after load
LoadCarries_grows iss written bytes more before after (Udp text) e k c = c
LoadCarries_grows iss written bytes more before after (Tcp flags seq ack window text) e k (inl r) = inl r
LoadCarries_grows iss written bytes more before after (Tcp flags seq ack window text) e k (inr c) =
    inr (Carries_grows iss written bytes more before after (header_of flags seq ack window) text e k c)

pub AreSent_grows : (own other : Addr) (iss : ℕ) (written bytes more : List ℕ) (before after : Bool) (packets : List Packet) → bytes ≡ written ++ more → (before ≡ true → (after ≡ true) × (more ≡ [])) → AreSent own other iss written before packets → AreSent own other iss bytes after packets
AreSent_grows own other iss written bytes more before after [] e k h = tt
AreSent_grows own other iss written bytes more before after (p ∷ packets) e k h = (
  record {
    from = h.0.from;
    to = h.0.to;
    load = LoadCarries_grows iss written bytes more before after p.load e k h.0.load;
  },
  AreSent_grows own other iss written bytes more before after packets e k h.1,
)

abbrev pub SentBy : Tcb → Packet → Type 0
SentBy r p = Sent r.control.local r.control.peer r.iss r.written r.control.fin_wanted p

pub sent_push : (r : Tcb) (packets : List Packet) (p : Packet) → AreOf r packets → SentBy r p → AreOf r (packets ++ p ∷ [])
sent_push r packets p h s =
    AreSent_push r.control.local r.control.peer r.iss r.written r.control.fin_wanted packets p h s

pub sent_append : (r : Tcb) (packets more : List Packet) → AreOf r packets → AreOf r more → AreOf r (packets ++ more)
sent_append r packets more h s =
    AreSent_append r.control.local r.control.peer r.iss r.written r.control.fin_wanted packets more h s

-- an ACK
pub ack_sent : (r : Tcb) (offset : ℕ) → offset ≤ 2 + length r.written → SentBy r (with_ack r ack_flag offset [])
unfolding with_ack
ack_sent r offset b = record {
  from = refl;
  to = refl;
  load = inr (record {
    offset = offset;
    seq = refl;
    within = b;
    syn = λ e. absurd (cc);
    part = nothing_at offset (stream r.written);
    fin = λ e. absurd (cc);
  });
}

-- a SYN and ACK
pub syn_ack_sent : (r : Tcb) (offset : ℕ) → offset ≡ 0 → SentBy r (with_ack r (syn_flag + ack_flag) offset [])
unfolding with_ack
syn_ack_sent r offset z = record {
  from = refl;
  to = refl;
  load = inr (record {
    offset = offset;
    seq = refl;
    within = omega arith;
    syn = λ e. z;
    part = nothing_at offset (stream r.written);
    fin = λ e. absurd (cc);
  });
}

-- a FIN
pub fin_sent : (r : Tcb) (offset : ℕ) → offset ≡ data_end r → r.control.fin_wanted ≡ true → SentBy r (with_ack r (fin_flag + ack_flag) offset [])
unfolding with_ack
fin_sent r offset e w = record {
  from = refl;
  to = refl;
  load = inr (record {
    offset = offset;
    seq = refl;
    within = omega arith;
    syn = λ f. absurd (cc);
    part = nothing_at offset (stream r.written);
    fin = λ f. (w, omega arith);
  });
}

-- a SYN
pub syn_sent : (r : Tcb) (offset : ℕ) → offset ≡ 0 → SentBy r (without_ack r.control syn_flag (wire r.iss offset))
unfolding without_ack
syn_sent r offset z = record {
  from = refl;
  to = refl;
  load = inr (record {
    offset = offset;
    seq = refl;
    within = omega arith;
    syn = λ e. z;
    part = nothing_at offset (stream r.written);
    fin = λ e. absurd (cc);
  });
}

-- a RST
pub reset_sent : (r : Tcb) (seq : ℕ) → SentBy r (without_ack r.control rst_flag seq)
unfolding without_ack
reset_sent r seq = record { from = refl; to = refl; load = inl refl }

-- text
pub text_sent : (r : Tcb) (offset : ℕ) (text : List ℕ) → offset ≤ 2 + length r.written → IsAt offset text (stream r.written) → SentBy r (with_ack r ack_flag offset text)
unfolding with_ack
text_sent r offset text b at = record {
  from = refl;
  to = refl;
  load = inr (record {
    offset = offset;
    seq = refl;
    within = b;
    syn = λ e. absurd (cc);
    part = at;
    fin = λ e. absurd (cc);
  });
}

cut_sent : (c : Control) (iss : ℕ) (written : List ℕ) (ack window size count offset : ℕ) (text : List ℕ) → offset + length text ≤ 2 + length written → IsAt offset text (stream written) → AreSent c.local c.peer iss written c.fin_wanted (text_segments c iss offset ack window (cut size count text))
cut_sent c iss written ack window size zero offset text b at = tt
cut_sent c iss written ack window size (suc count) offset [] b at = tt
cut_sent c iss written ack window size (suc count) offset (x ∷ text) b at =
    let whole : List ℕ = x ∷ text in
    let lengths : length (take size whole) + length (drop size whole) ≡ length whole = omega (arith, length-take size whole, length-drop size whole) in (
      record {
        from = refl;
        to = refl;
        load = inr (record {
          offset = offset;
          seq = refl;
          within = omega arith;
          syn = λ e. absurd (cc);
          part = IsAt_take offset size whole (stream written) at;
          fin = λ e. absurd (cc);
        });
      },
      cut_sent c iss written ack window size count (offset + length (take size whole)) (drop size whole) (omega (arith, lengths, b)) (IsAt_drop offset size whole (stream written) at),
    )

pub pieces_sent : (c : Control) (iss : ℕ) (written : List ℕ) (ack window offset : ℕ) (text : List ℕ) → offset + length text ≤ 2 + length written → IsAt offset text (stream written) → AreSent c.local c.peer iss written c.fin_wanted (text_segments c iss offset ack window (pieces text))
unfolding pieces
pieces_sent c iss written ack window offset text b at =
    cut_sent c iss written ack window 1460 (length text) offset text b at

-- segments without text, and those before the end of a window
AreWithin_push : (iss una window : ℕ) (packets : List Packet) (p : Packet) → AreWithin iss una window packets → LoadWithin iss una window p.load → AreWithin iss una window (packets ++ p ∷ [])
AreWithin_push iss una window [] p h s = (s, tt)
AreWithin_push iss una window (q ∷ packets) p h s =
    (h.0, AreWithin_push iss una window packets p h.1 s)

AreWithin_append : (iss una window : ℕ) (packets more : List Packet) → AreWithin iss una window packets → AreWithin iss una window more → AreWithin iss una window (packets ++ more)
AreWithin_append iss una window [] more h s = s
AreWithin_append iss una window (q ∷ packets) more h s =
    (h.0, AreWithin_append iss una window packets more h.1 s)

abbrev pub WithinOf : Tcb → Packet → Type 0
WithinOf r p = LoadWithin r.iss r.una (send_window r.control) p.load

pub within_push : (again : Bool) (r : Tcb) (packets : List Packet) (p : Packet) → FitWindow again r packets → WithinOf r p → FitWindow again r (packets ++ p ∷ [])
within_push again r packets p (inl h) s = inl (AreWithin_push r.iss r.una (send_window r.control) packets p h s)
within_push again r [] p (inr h) s = absurd h.1
within_push again r (q ∷ packets) p (inr h) s = inr (h.0, (h.1.0, AreWithin_push r.iss r.una (send_window r.control) packets p h.1.1 s))

pub within_append : (again : Bool) (r : Tcb) (packets more : List Packet) → FitWindow again r packets → AreWithin r.iss r.una (send_window r.control) more → FitWindow again r (packets ++ more)
within_append again r packets more (inl h) s = inl (AreWithin_append r.iss r.una (send_window r.control) packets more h s)
within_append again r [] more (inr h) s = absurd h.1
within_append again r (q ∷ packets) more (inr h) s = inr (h.0, (h.1.0, AreWithin_append r.iss r.una (send_window r.control) packets more h.1.1 s))

pub no_text : (r : Tcb) (flags offset : ℕ) → WithinOf r (with_ack r flags offset [])
unfolding with_ack
no_text r flags offset = inl refl

pub no_text_either : (r : Tcb) (flags seq : ℕ) → WithinOf r (without_ack r.control flags seq)
unfolding without_ack
no_text_either r flags seq = inl refl

pub text_again : (r : Tcb) (text : List ℕ) → LoadAgain r.iss r.una r.control.window (with_ack r ack_flag r.una (take (probe_length r) text)).load
unfolding with_ack
text_again r text =
    record { number = refl; most = omega (arith, length-take (probe_length r) text) }

cut_within : (c : Control) (iss una limit ack window size count offset : ℕ) (text : List ℕ) → una ≤ offset → offset + length text ≤ una + limit → AreWithin iss una limit (text_segments c iss offset ack window (cut size count text))
cut_within c iss una limit ack window size zero offset text a b = tt
cut_within c iss una limit ack window size (suc count) offset [] a b = tt
cut_within c iss una limit ack window size (suc count) offset (x ∷ text) a b =
    let whole : List ℕ = x ∷ text in
    let first = length-take size whole in
    let rest = length-drop size whole in (
      inr (record { offset = offset; number = refl; from = a; end = omega (arith, first, b) }),
      cut_within c iss una limit ack window size count (offset + length (take size whole)) (drop size whole) (omega (arith, a)) (omega (arith, first, rest, b)),
    )

none_within : (c : Control) (iss una limit ack window offset : ℕ) (text : List ℕ) → length text ≡ 0 → AreWithin iss una limit (text_segments c iss offset ack window (cut 1460 (length text) text))
none_within c iss una limit ack window offset [] z = tt
none_within c iss una limit ack window offset (x ∷ text) z = absurd (omega arith)

pub pieces_within : (c : Control) (iss una limit ack window offset : ℕ) (text : List ℕ) → una ≤ offset → (length text ≡ 0) ⊎ (offset + length text ≤ una + limit) → AreWithin iss una limit (text_segments c iss offset ack window (pieces text))
unfolding pieces
pieces_within c iss una limit ack window offset text a (inl z) = none_within c iss una limit ack window offset text z
pieces_within c iss una limit ack window offset text a (inr b) = cut_within c iss una limit ack window 1460 (length text) offset text a b
