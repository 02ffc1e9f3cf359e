-- a socket at a place of a list, or behind it
use Rattle.std.proofs.Common.{◌≡◌, ℕ, ◌<◌, ◌≤◌, List, [], ◌∷◌, ◌++◌, length, set, Bool, true, false, nat_lt, if◌then◌else◌, sym, ap, subst, ◌∙◌, arith}
use Rattle.std.proofs.lemmas.Bool.Decides.{nat_tests}
use Rattle.host_fds.specs.Rises.{no_rises}
use Rattle.host_sockets.specs.declared.sockets.Sockets.{Sockets}
use Rattle.host_sockets.specs.declared.tcp_sock.TcpSock.{TcpSock}
use Rattle.host_sockets.specs.TcpSocket.{TcpSocket}
use Rattle.host_sockets.specs.Sockets.{SocketsRecord, put_at, put_tcp_at}
use Rattle.host_sockets.specs.StandsFor.{SocketStands, AllStand, Stand}
use Rattle.host_sockets.proofs.Places.{same_length, stands_set, stands_push}

below : (place n : ℕ) → place < n → nat_lt place n ≡ true
below place n h = grind (arith, nat_tests)

above : (place n : ℕ) → n ≤ place → nat_lt place n ≡ false
above place n h = grind (arith, nat_tests)

pub put_within : (c c' : Sockets) (t : SocketsRecord) (place : ℕ) (sock : TcpSock) (s : TcpSocket) → Stand c t → SocketStands sock s → place < length c.tcp.items → c'.own ≡ c.own → c'.udp.slots.items ≡ c.udp.slots.items → c'.tcp.items ≡ set c.tcp.items place sock → c'.udp_risen.items ≡ c.udp_risen.items → c'.tcp_risen.items ≡ put_at place no_rises c.tcp_risen.items → c'.gone.items ≡ c.gone.items → Stand c' (put_tcp_at place s t)
put_within c c' t place sock s h stands b own udp tcp udp_risen tcp_risen gone =
    let same = same_length c.tcp.items t.tcp h.tcp in
    let within : nat_lt place (length t.tcp) ≡ true = below place (length t.tcp) (omega arith) in
    record {
      own = own ∙ h.own;
      udp = udp ∙ h.udp;
      tcp = subst (λ (xs : List TcpSock). AllStand xs (put_at place s t.tcp)) (sym tcp)
          (subst (λ (b : Bool). AllStand (set c.tcp.items place sock) (if b then set t.tcp place s else t.tcp ++ s ∷ [])) (sym within)
          (stands_set c.tcp.items t.tcp place sock s h.tcp stands));
      udp_risen = udp_risen ∙ h.udp_risen;
      tcp_risen = tcp_risen ∙ ap (put_at place no_rises) h.tcp_risen;
      gone = gone ∙ h.gone;
    }

pub put_behind : (c c' : Sockets) (t : SocketsRecord) (place : ℕ) (sock : TcpSock) (s : TcpSocket) → Stand c t → SocketStands sock s → length c.tcp.items ≤ place → c'.own ≡ c.own → c'.udp.slots.items ≡ c.udp.slots.items → c'.tcp.items ≡ c.tcp.items ++ sock ∷ [] → c'.udp_risen.items ≡ c.udp_risen.items → c'.tcp_risen.items ≡ put_at place no_rises c.tcp_risen.items → c'.gone.items ≡ c.gone.items → Stand c' (put_tcp_at place s t)
put_behind c c' t place sock s h stands b own udp tcp udp_risen tcp_risen gone =
    let same = same_length c.tcp.items t.tcp h.tcp in
    let past : nat_lt place (length t.tcp) ≡ false = above place (length t.tcp) (omega arith) in
    record {
      own = own ∙ h.own;
      udp = udp ∙ h.udp;
      tcp = subst (λ (xs : List TcpSock). AllStand xs (put_at place s t.tcp)) (sym tcp)
          (subst (λ (b : Bool). AllStand (c.tcp.items ++ sock ∷ []) (if b then set t.tcp place s else t.tcp ++ s ∷ [])) (sym past)
          (stands_push c.tcp.items t.tcp sock s h.tcp stands));
      udp_risen = udp_risen ∙ h.udp_risen;
      tcp_risen = tcp_risen ∙ ap (put_at place no_rises) h.tcp_risen;
      gone = gone ∙ h.gone;
    }
