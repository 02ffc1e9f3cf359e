-- sockets and what they stand for, place by place
use Rattle.std.proofs.Common.{◌≡◌, ℕ, zero, suc, ◌+◌, ◌<◌, ◌≤◌, List, [], ◌∷◌, ◌++◌, length, get_or, set, drop, Bool, true, false, cond, not, nat_lt, Some, None, slice_get, unwrap_or, Option, refl, sym, ap, subst, ◌∙◌, add-one, arith}
use Rattle.std.specs.List.{position, position_or_len}
use Rattle.std.proofs.lemmas.List.Sums.{prefix_len-le-length}
use Rattle.std.proofs.lemmas.Bool.Decides.{nat_tests}
use Rattle.host_sockets.specs.declared.tcp_sock.TcpSock.{TcpSock}
use Rattle.host_sockets.specs.TcpSocket.{TcpSocket}
use Rattle.host_sockets.specs.StandsFor.{SocketStands, AllStand}

pub same_length : (socks : List TcpSock) (sockets : List TcpSocket) → AllStand socks sockets → length socks ≡ length sockets
same_length [] [] h = refl
same_length [] (s ∷ sockets) h = absurd h
same_length (c ∷ socks) [] h = absurd h
same_length (c ∷ socks) (s ∷ sockets) h = ap suc (same_length socks sockets h.1)

-- a socket stands at each place
pub socket_at : (socks : List TcpSock) (sockets : List TcpSocket) (place : ℕ) → AllStand socks sockets → place < length socks → (s : TcpSocket) × (slice_get sockets place ≡ Some s)
socket_at [] sockets place h b = absurd (omega arith)
socket_at (c ∷ socks) [] place h b = absurd h
socket_at (c ∷ socks) (s ∷ sockets) zero h b = (s, refl)
socket_at (c ∷ socks) (s ∷ sockets) (suc place) h b = socket_at socks sockets place h.1 (omega arith)

pub no_socket_at : (socks : List TcpSock) (sockets : List TcpSocket) (place : ℕ) → AllStand socks sockets → length socks ≤ place → slice_get sockets place ≡ None
no_socket_at [] [] place h b = refl
no_socket_at [] (s ∷ sockets) place h b = absurd h
no_socket_at (c ∷ socks) [] place h b = absurd h
no_socket_at (c ∷ socks) (s ∷ sockets) zero h b = absurd (omega arith)
no_socket_at (c ∷ socks) (s ∷ sockets) (suc place) h b = no_socket_at socks sockets place h.1 (omega arith)

pub stands_at : (socks : List TcpSock) (sockets : List TcpSocket) (place : ℕ) (s : TcpSocket) (d : TcpSock) → AllStand socks sockets → slice_get sockets place ≡ Some s → SocketStands (get_or socks place d) s
stands_at [] [] place s d h e = cc
stands_at [] (x ∷ sockets) place s d h e = absurd h
stands_at (c ∷ socks) [] place s d h e = absurd h
stands_at (c ∷ socks) (x ∷ sockets) zero s d h e = let same : x ≡ s = cc in subst (λ (y : TcpSocket). SocketStands c y) same h.0
stands_at (c ∷ socks) (x ∷ sockets) (suc place) s d h e = stands_at socks sockets place s d h.1 e

pub stands_set : (socks : List TcpSock) (sockets : List TcpSocket) (place : ℕ) (c : TcpSock) (s : TcpSocket) → AllStand socks sockets → SocketStands c s → AllStand (set socks place c) (set sockets place s)
stands_set [] [] place c s h here = tt
stands_set [] (x ∷ sockets) place c s h here = absurd h
stands_set (y ∷ socks) [] place c s h here = absurd h
stands_set (y ∷ socks) (x ∷ sockets) zero c s h here = (here, h.1)
stands_set (y ∷ socks) (x ∷ sockets) (suc place) c s h here = (h.0, stands_set socks sockets place c s h.1 here)

pub stands_push : (socks : List TcpSock) (sockets : List TcpSocket) (c : TcpSock) (s : TcpSocket) → AllStand socks sockets → SocketStands c s → AllStand (socks ++ c ∷ []) (sockets ++ s ∷ [])
stands_push [] [] c s h here = (here, tt)
stands_push [] (x ∷ sockets) c s h here = absurd h
stands_push (y ∷ socks) [] c s h here = absurd h
stands_push (y ∷ socks) (x ∷ sockets) c s h here = (h.0, stands_push socks sockets c s h.1 here)

-- the list from a place on begins with what is there
pub drop_at : (sockets : List TcpSocket) (place : ℕ) (s : TcpSocket) → slice_get sockets place ≡ Some s → drop place sockets ≡ s ∷ drop (suc place) sockets
drop_at [] place s e = cc
drop_at (x ∷ sockets) zero s e = let same : x ≡ s = cc in ap (λ (y : TcpSocket). y ∷ sockets) same
drop_at (x ∷ sockets) (suc place) s e = drop_at sockets place s e

-- looking for a place: none of those before is it
abbrev pub PassedBy : (TcpSocket → Bool) → List TcpSocket → ℕ → Type 0
PassedBy p sockets place = position_or_len p sockets ≡ place + position_or_len p (drop place sockets)

pub begins : (p : TcpSocket → Bool) (sockets : List TcpSocket) → PassedBy p sockets 0
begins p sockets = omega arith

pub passes : (p : TcpSocket → Bool) (sockets : List TcpSocket) (place : ℕ) (s : TcpSocket) → PassedBy p sockets place → slice_get sockets place ≡ Some s → p s ≡ false → PassedBy p sockets (place + 1)
passes p sockets place s before e fails =
    let here = ap (position_or_len p) (drop_at sockets place s e) in
    let one : position_or_len p (s ∷ drop (suc place) sockets) ≡ 1 + position_or_len p (drop (suc place) sockets) =
    ap (λ b. cond (not b) (1 + position_or_len p (drop (suc place) sockets)) 0) fails in
    let next : position_or_len p sockets ≡ suc place + position_or_len p (drop (suc place) sockets) = omega arith in
    subst (λ n. position_or_len p sockets ≡ n + position_or_len p (drop n sockets)) (sym (add-one place)) next

pub finds : (p : TcpSocket → Bool) (sockets : List TcpSocket) (place : ℕ) (s : TcpSocket) → PassedBy p sockets place → slice_get sockets place ≡ Some s → p s ≡ true → position_or_len p sockets ≡ place
finds p sockets place s before e holds =
    let here = ap (position_or_len p) (drop_at sockets place s e) in
    let none : position_or_len p (s ∷ drop (suc place) sockets) ≡ 0 =
    ap (λ b. cond (not b) (1 + position_or_len p (drop (suc place) sockets)) 0) holds in
    omega arith

-- what the code finds is what is there
pub found : (p : TcpSocket → Bool) (sockets : List TcpSocket) (place : ℕ) → position_or_len p sockets ≡ place → place < length sockets → Some place ≡ position p sockets
found p sockets place e b = chosen place (position_or_len p sockets) (length sockets) e b
  where
    chosen : (place at count : ℕ) → at ≡ place → place < count → Some place ≡ cond (nat_lt at count) (Some at) None
    chosen place at count e b = grind (arith, nat_tests)

pub found_none : (p : TcpSocket → Bool) (sockets : List TcpSocket) → position_or_len p sockets ≡ length sockets → None ≡ position p sockets
found_none p sockets e = chosen (position_or_len p sockets) (length sockets) e
  where
    chosen : (at count : ℕ) → at ≡ count → None ≡ cond (nat_lt at count) (Some at) None
    chosen at count e = grind (arith, nat_tests)

pub place_within : (p : TcpSocket → Bool) (sockets : List TcpSocket) → position_or_len p sockets ≤ length sockets
place_within p sockets = prefix_len-le-length (λ s. not (p s)) sockets

pub sought_here : (p : TcpSocket → Bool) (socks : List TcpSock) (sockets : List TcpSocket) (place : ℕ) (sock : TcpSock) → AllStand socks sockets → PassedBy p sockets place → place < length socks → sock ≡ get_or socks place sock → ((s : TcpSocket) → SocketStands sock s → true ≡ p s) → Some place ≡ position p sockets
sought_here p socks sockets place sock h before b is holds =
    let at = socket_at socks sockets place h b in
    let stands = subst (λ (x : TcpSock). SocketStands x at.0) (sym is) (stands_at socks sockets place at.0 sock h at.1) in
    let same = same_length socks sockets h in
    found p sockets place (finds p sockets place at.0 before at.1 (sym (holds at.0 stands))) (omega arith)

pub sought_next : (p : TcpSocket → Bool) (socks : List TcpSock) (sockets : List TcpSocket) (place : ℕ) (sock : TcpSock) → AllStand socks sockets → PassedBy p sockets place → place < length socks → sock ≡ get_or socks place sock → ((s : TcpSocket) → SocketStands sock s → false ≡ p s) → PassedBy p sockets (place + 1)
sought_next p socks sockets place sock h before b is fails =
    let at = socket_at socks sockets place h b in
    let stands = subst (λ (x : TcpSock). SocketStands x at.0) (sym is) (stands_at socks sockets place at.0 sock h at.1) in
    passes p sockets place at.0 before at.1 (sym (fails at.0 stands))

pub sought_none : (p : TcpSocket → Bool) (socks : List TcpSock) (sockets : List TcpSocket) (place : ℕ) → AllStand socks sockets → PassedBy p sockets place → length socks ≤ place → None ≡ position p sockets
sought_none p socks sockets place h before b =
    let same = same_length socks sockets h in
    let within = place_within p sockets in
    found_none p sockets (omega arith)

-- a list with what is there at a place put there again
pub socket_same : (sockets : List TcpSocket) (place : ℕ) (s : TcpSocket) → slice_get sockets place ≡ Some s → set sockets place s ≡ sockets
socket_same [] place s e = refl
socket_same (x ∷ sockets) zero s e = let same : x ≡ s = cc in ap (λ (y : TcpSocket). y ∷ sockets) (sym same)
socket_same (x ∷ sockets) (suc place) s e = ap (λ (xs : List TcpSocket). x ∷ xs) (socket_same sockets place s e)

-- the first place that is sought, or else the end
chosen_or : (b : Bool) (at n : ℕ) → (b ≡ false → n ≡ at) → unwrap_or (cond b (Some at) None) n ≡ at
chosen_or true at n h = refl
chosen_or false at n h = h refl

not_below : (at count n : ℕ) → at ≤ count → n ≡ count → nat_lt at count ≡ false → n ≡ at
not_below at count n b e h = grind (arith, nat_tests)

first_of_all : (p : TcpSocket → Bool) (sockets : List TcpSocket) (n : ℕ) → n ≡ length sockets → unwrap_or (position p sockets) n ≡ position_or_len p sockets
first_of_all p sockets n e =
    chosen_or (nat_lt (position_or_len p sockets) (length sockets)) (position_or_len p sockets) n (not_below (position_or_len p sockets) (length sockets) n (place_within p sockets) e)

pub first_or_behind : (p : TcpSocket → Bool) (socks seen : List TcpSock) (sockets : List TcpSocket) (found : Option ℕ) (n result : ℕ) → AllStand socks sockets → seen ≡ socks → (AllStand seen sockets → found ≡ position p sockets) → n ≡ length socks → result ≡ unwrap_or found n → result ≡ position_or_len p sockets
first_or_behind p socks seen sockets found n result h same finds e is =
    let at = finds (subst (λ (xs : List TcpSock). AllStand xs sockets) (sym same) h) in
    is ∙ (ap (λ (o : Option ℕ). unwrap_or o n) at ∙ first_of_all p sockets n (e ∙ same_length socks sockets h))
