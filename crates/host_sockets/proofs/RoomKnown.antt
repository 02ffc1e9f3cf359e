-- what is known of free places
use Rattle.std.proofs.Common.{◌≡◌, ◌≢◌, ℕ, zero, suc, ◌+◌, ◌<◌, ◌≤◌, List, [], ◌∷◌, length, get_or, min, Bool, true, false, not, cond, ◌&&◌, ◌||◌, ◌==◌, Some, slice_get, refl, sym, ap, subst, ◌∙◌, arith, inl, inr}
use Rattle.std.specs.List.{position_or_len}
use Rattle.std.proofs.lemmas.Bool.{cases_eq, eq-eqb}
use Rattle.std.proofs.lemmas.Bool.Decides.{nat_tests}
use Rattle.host_sockets.specs.declared.tcp_sock.TcpSock.{TcpSock}
use Rattle.host_sockets.specs.TcpSocket.{TcpSocket, is_free}
use Rattle.host_sockets.specs.SocketsStand.{SocketStands, AllStand}
use Rattle.host_sockets.specs.inside.Indexing.{Knows}
use Rattle.host_sockets.proofs.Endings.{read_there}

differs_test : (n m : ℕ) → n ≢ m → (n == m) ≡ false
differs_test n m differs = grind (arith, nat_tests)

not_not : (b : Bool) → not (not b) ≡ b
not_not true = refl
not_not false = refl

-- what is read at a place is what is there
pub element_is : (socks : List TcpSock) (place : ℕ) (sock c : TcpSock) → sock ≡ get_or socks place sock → slice_get socks place ≡ Some c → c ≡ sock
element_is socks place sock c is at = sym (read_there socks place c sock at) ∙ sym is

-- the place that acted is entered
pub knows_now : (old new : ℕ → Bool) (socks : List TcpSock) (place : ℕ) (here : Bool) → Knows old (λ k. k ≢ place) socks
    → ((n : ℕ) → n ≢ place → new n ≡ old n) → new place ≡ here → ((c : TcpSock) (s : TcpSocket) → slice_get socks place ≡ Some c → SocketStands c s → here ≡ not (is_free s))
    → Knows new (λ k. Unit {0}) socks
knows_now old new socks place here h others is told = λ k c s all at stands. elim (cases_eq k place) [
  | inl same ↦ ap new same ∙ (is ∙ told c s (subst (λ (n : ℕ). slice_get socks n ≡ Some c) same at) stands)
  | inr apart ↦ others k apart ∙ h k c s apart at stands
]

pub knows_put : (old new : ℕ → Bool) (socks : List TcpSock) (place : ℕ) (sock : TcpSock) → Knows old (λ k. k ≢ place) socks → ((n : ℕ) → new n ≡ (n == place || old n))
    → sock ≡ get_or socks place sock → ((s : TcpSocket) → SocketStands sock s → is_free s ≡ false) → Knows new (λ k. Unit {0}) socks
knows_put old new socks place sock h step is told = knows_now old new socks place true h
    (λ n apart. step n ∙ ap (λ (b : Bool). b || old n) (differs_test n place apart))
    (step place ∙ ap (λ (b : Bool). b || old place) (eq-eqb place place refl))
    (λ c s at stands. sym (ap (λ (b : Bool). not b) (told s (subst (λ (x : TcpSock). SocketStands x s) (element_is socks place sock c is at) stands))))

pub knows_out : (old new : ℕ → Bool) (socks : List TcpSock) (place : ℕ) (sock : TcpSock) → Knows old (λ k. k ≢ place) socks → ((n : ℕ) → new n ≡ (not (n == place) && old n))
    → sock ≡ get_or socks place sock → ((s : TcpSocket) → SocketStands sock s → is_free s ≡ true) → Knows new (λ k. Unit {0}) socks
knows_out old new socks place sock h step is told = knows_now old new socks place false h
    (λ n apart. step n ∙ ap (λ (b : Bool). not b && old n) (differs_test n place apart))
    (step place ∙ ap (λ (b : Bool). not b && old place) (eq-eqb place place refl))
    (λ c s at stands. sym (ap (λ (b : Bool). not b) (told s (subst (λ (x : TcpSock). SocketStands x s) (element_is socks place sock c is at) stands))))

-- where nothing is behind, there is nothing to enter
pub knows_behind : (taken : ℕ → Bool) (socks : List TcpSock) (place : ℕ) → length socks ≤ place → Knows taken (λ k. k ≢ place) socks → Knows taken (λ k. Unit {0}) socks
knows_behind taken socks place behind h = λ k c s all at stands. h k c s (λ same. no_socket socks k c (omega arith) at) at stands
  where
    no_socket : (socks : List TcpSock) (k : ℕ) (c : TcpSock) → length socks ≤ k → slice_get socks k ≡ Some c → ⊥
    no_socket [] zero c b e = cc
    no_socket [] (suc k) c b e = cc
    no_socket (x ∷ socks) zero c b e = absurd (omega arith)
    no_socket (x ∷ socks) (suc k) c b e = no_socket socks k c (omega arith) e

-- the least place that isn't taken is the first free one

pub first_free : (taken : ℕ → Bool) (socks : List TcpSock) (sockets : List TcpSocket) (place : ℕ) → AllStand socks sockets → Knows taken (λ k. Unit {0}) socks
    → taken place ≡ false → ((n : ℕ) → n < place → taken n ≡ true) → min place (length socks) ≡ position_or_len is_free sockets
first_free taken [] [] place h knows absent least = omega arith
first_free taken [] (s ∷ sockets) place h knows absent least = absurd h
first_free taken (c ∷ socks) [] place h knows absent least = absurd h
first_free taken (c ∷ socks) (s ∷ sockets) zero h knows absent least =
    let free : is_free s ≡ true = sym (not_not (is_free s)) ∙ ap (λ (b : Bool). not b) (sym (knows 0 c s tt refl h.0) ∙ absent) in
    let none : position_or_len is_free (s ∷ sockets) ≡ 0 = ap (λ (b : Bool). cond (not b) (1 + position_or_len is_free sockets) 0) free in
    omega arith
first_free taken (c ∷ socks) (s ∷ sockets) (suc place) h knows absent least =
    let held : is_free s ≡ false = sym (not_not (is_free s)) ∙ ap (λ (b : Bool). not b) (sym (knows 0 c s tt refl h.0) ∙ least 0 (omega arith)) in
    let one : position_or_len is_free (s ∷ sockets) ≡ 1 + position_or_len is_free sockets = ap (λ (b : Bool). cond (not b) (1 + position_or_len is_free sockets) 0) held in
    let rest = first_free (λ n. taken (suc n)) socks sockets place h.1 (λ k x y all at stands. knows (suc k) x y tt at stands) absent (λ n less. least (suc n) (omega arith)) in
    omega arith
