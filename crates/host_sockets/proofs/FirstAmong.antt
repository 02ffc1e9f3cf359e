-- the first of some places whose socket is looked for
use Rattle.std.proofs.Common.{◌≡◌, ◌≢◌, ℕ, zero, suc, ◌+◌, ◌<◌, ◌≤◌, ◌⊎◌, inl, inr, List, [], ◌∷◌, length, Bool, true, false, cond, not, ◌||◌, ◌==◌, nat_lt, Option, Some, None, slice_get, if◌then◌else◌, refl, sym, ap, subst, ◌∙◌, arith}
use Rattle.std.specs.List.{list_any, position, position_or_len}
use Rattle.std.proofs.lemmas.Bool.{eqb-true, cases_eq}
use Rattle.std.proofs.lemmas.Bool.Decides.{nat_tests}
use Rattle.host_sockets.specs.declared.tcp_sock.TcpSock.{TcpSock}
use Rattle.host_sockets.specs.TcpSocket.{TcpSocket}
use Rattle.host_sockets.specs.SocketsStand.{SocketStands, AllStand}
use Rattle.host_sockets.specs.inside.Lookup.{earlier}
use Rattle.host_sockets.proofs.EndsFound.{by_bool, some_is}
use Rattle.host_sockets.proofs.Places.{same_length, socket_at, found, found_none}

abbrev pub AtMost : Option ℕ → ℕ → Type 0
AtMost None k = ⊥
AtMost (Some b) k = b ≤ k

-- what is the best so far, where some of the places are left to look at
pub record Best (p : TcpSocket → Bool) (socks : List TcpSock) (last : ℕ) (places : List ℕ) (best : Option ℕ) (rest : List ℕ) : Type 0 where
  pub is : (b : ℕ) (c : TcpSock) (s : TcpSocket) → best ≡ Some b → slice_get socks b ≡ Some c → SocketStands c s → p s ≡ true
  pub within : (b : ℕ) → best ≡ Some b → b < length socks
  pub least : (k : ℕ) (c : TcpSock) (s : TcpSocket) → slice_get socks k ≡ Some c → SocketStands c s → p s ≡ true
      → (k ≡ last) ⊎ (list_any (λ j. j == k) places ≡ true) → AtMost best k ⊎ (list_any (λ j. j == k) rest ≡ true)

-- what one look says
abbrev pub Holds : (TcpSocket → Bool) → List TcpSock → ℕ → Type 0
Holds p socks place = (c : TcpSock) (s : TcpSocket) → slice_get socks place ≡ Some c → SocketStands c s → p s ≡ true

abbrev pub Either : (TcpSocket → Bool) → List TcpSock → Option ℕ → ℕ → Option ℕ → Type 0
Either p socks best place new = (new ≡ best) ⊎ ((new ≡ Some (earlier best place)) × ((place < length socks) × Holds p socks place))

abbrev pub Told : (TcpSocket → Bool) → List TcpSock → Option ℕ → ℕ → Option ℕ → Type 0
Told p socks best place new = (c : TcpSock) (s : TcpSocket) → slice_get socks place ≡ Some c → SocketStands c s → p s ≡ true → new ≡ Some (earlier best place)

chosen_is : (b : Bool) (x y r : ℕ) → (if b then y else x) ≡ r → (x ≡ r) ⊎ (y ≡ r)
chosen_is true x y r e = inr e
chosen_is false x y r e = inl e

earlier_is : (best : Option ℕ) (place r : ℕ) → earlier best place ≡ r → (best ≡ Some r) ⊎ (place ≡ r)
earlier_is None place r e = inr e
earlier_is (Some x) place r e =
    elim (chosen_is (nat_lt place x) x place r e) as (λ _. (Some x ≡ Some r) ⊎ (place ≡ r)) [ inl same ↦ inl (ap (λ (n : ℕ). Some n) same) | inr same ↦ inr same ]

chosen_le : (x y : ℕ) → ((if nat_lt y x then y else x) ≤ x) × ((if nat_lt y x then y else x) ≤ y)
chosen_le x y = (grind (arith, nat_tests), grind (arith, nat_tests))

earlier_le : (best : Option ℕ) (place k : ℕ) → AtMost best k → earlier best place ≤ k
earlier_le None place k h = absurd h
earlier_le (Some x) place k h = let le = (chosen_le x place).0 in omega arith

earlier_place : (best : Option ℕ) (place : ℕ) → earlier best place ≤ place
earlier_place None place = omega arith
earlier_place (Some x) place = (chosen_le x place).1

looked_is : (p : TcpSocket → Bool) (socks : List TcpSock) (best new : Option ℕ) (place b : ℕ) → Either p socks best place new → new ≡ Some b → (best ≡ Some b) ⊎ ((place ≡ b) × ((place < length socks) × Holds p socks place))
looked_is p socks best new place b (inl same) e = inl (sym same ∙ e)
looked_is p socks best new place b (inr (e1, found)) e =
    elim (earlier_is best place b (some_is (earlier best place) b (sym e1 ∙ e))) as (λ _. (best ≡ Some b) ⊎ ((place ≡ b) × ((place < length socks) × Holds p socks place)))
    [ inl same ↦ inl same | inr same ↦ inr (same, found) ]

looked_le : (p : TcpSocket → Bool) (socks : List TcpSock) (best new : Option ℕ) (place k : ℕ) → Either p socks best place new → AtMost best k → AtMost new k
looked_le p socks best new place k (inl same) h = subst (λ (o : Option ℕ). AtMost o k) (sym same) h
looked_le p socks best new place k (inr (e, found)) h = subst (λ (o : Option ℕ). AtMost o k) (sym e) (earlier_le best place k h)

any_first : (a b : Bool) → (a || b) ≡ true → (a ≡ true) ⊎ (b ≡ true)
any_first true b e = inl refl
any_first false b e = inr e

-- one look more
pub looked : (p : TcpSocket → Bool) (socks : List TcpSock) (last : ℕ) (places : List ℕ) (best new : Option ℕ) (place : ℕ) (rest : List ℕ) → Best p socks last places best (place ∷ rest) → Either p socks best place new → Told p socks best place new → Best p socks last places new rest
looked p socks last places best new place rest h either told = record {
  is = λ b c s e at stands. elim (looked_is p socks best new place b either e) as (λ _. p s ≡ true) [
    | inl old ↦ h.is b c s old at stands
    | inr here ↦ here.1.1 c s (subst (λ (n : ℕ). slice_get socks n ≡ Some c) (sym here.0) at) stands
  ];
  within = λ b e. elim (looked_is p socks best new place b either e) as (λ _. b < length socks) [
    | inl old ↦ h.within b old
    | inr here ↦ subst (λ (n : ℕ). n < length socks) here.0 here.1.0
  ];
  least = λ k c s at stands holds which. elim (h.least k c s at stands holds which) as (λ _. AtMost new k ⊎ (list_any (λ j. j == k) rest ≡ true)) [
    | inl old ↦ inl (looked_le p socks best new place k either old)
    | inr any ↦ elim (any_first (place == k) (list_any (λ j. j == k) rest) any) as (λ _. AtMost new k ⊎ (list_any (λ j. j == k) rest ≡ true)) [
      | inl same ↦ inl (reached k c s at stands holds (eqb-true place k same))
      | inr later ↦ inr later
    ]
  ];
}
  where
    reached : (k : ℕ) (c : TcpSock) (s : TcpSocket) → slice_get socks k ≡ Some c → SocketStands c s → p s ≡ true → place ≡ k → AtMost new k
    reached k c s at stands holds same =
        let is = told c s (subst (λ (n : ℕ). slice_get socks n ≡ Some c) (sym same) at) stands holds in
        subst (λ (o : Option ℕ). AtMost o k) (sym is) (subst (λ (n : ℕ). earlier best place ≤ n) same (earlier_place best place))

-- the first look is at the last place
pub first_look : (p : TcpSocket → Bool) (socks : List TcpSock) (last : ℕ) (places : List ℕ) (new : Option ℕ) → Either p socks None last new → Told p socks None last new → Best p socks last places new places
first_look p socks last places new either told = record {
  is = λ b c s e at stands. elim (looked_is p socks None new last b either e) as (λ _. p s ≡ true) [
    | inl old ↦ absurd (none_is b old)
    | inr here ↦ here.1.1 c s (subst (λ (n : ℕ). slice_get socks n ≡ Some c) (sym here.0) at) stands
  ];
  within = λ b e. elim (looked_is p socks None new last b either e) as (λ _. b < length socks) [
    | inl old ↦ absurd (none_is b old)
    | inr here ↦ subst (λ (n : ℕ). n < length socks) here.0 here.1.0
  ];
  least = λ k c s at stands holds which. elim which as (λ _. AtMost new k ⊎ (list_any (λ j. j == k) places ≡ true)) [
    | inl same ↦ inl (reached k c s at stands holds same)
    | inr any ↦ inr any
  ];
}
  where
    none_is : (b : ℕ) → None ≡ Some b → ⊥
    none_is b e = cc

    reached : (k : ℕ) (c : TcpSock) (s : TcpSocket) → slice_get socks k ≡ Some c → SocketStands c s → p s ≡ true → k ≡ last → AtMost new k
    reached k c s at stands holds same =
        let is = told c s (subst (λ (n : ℕ). slice_get socks n ≡ Some c) same at) stands holds in
        subst (λ (o : Option ℕ). AtMost o k) (sym is) (subst (λ (n : ℕ). last ≤ n) (sym same) (omega arith))

-- a socket stands for what is at its place
sock_at : (socks : List TcpSock) (sockets : List TcpSocket) (k : ℕ) (s : TcpSocket) → AllStand socks sockets → slice_get sockets k ≡ Some s → (c : TcpSock) × ((slice_get socks k ≡ Some c) × SocketStands c s)
sock_at [] [] k s h e = cc
sock_at [] (x ∷ sockets) k s h e = absurd h
sock_at (c ∷ socks) [] k s h e = absurd h
sock_at (c ∷ socks) (x ∷ sockets) zero s h e = (c, (refl, subst (λ (y : TcpSocket). SocketStands c y) (some_is x s e) h.0))
sock_at (c ∷ socks) (x ∷ sockets) (suc k) s h e = sock_at socks sockets k s h.1 e

first_at : (p : TcpSocket → Bool) (sockets : List TcpSocket) (b : ℕ) (s : TcpSocket) → slice_get sockets b ≡ Some s → p s ≡ true → ((j : ℕ) (x : TcpSocket) → j < b → slice_get sockets j ≡ Some x → p x ≡ true → ⊥) → position_or_len p sockets ≡ b
first_at p [] b s at holds before = cc
first_at p (x ∷ sockets) zero s at holds before =
    ap (λ b. cond (not b) (1 + position_or_len p sockets) 0) (ap p (some_is x s at) ∙ holds)
first_at p (x ∷ sockets) (suc b) s at holds before =
    by_bool (p x) (λ here. absurd (before zero x (omega arith) refl here))
    (λ fails.
    let one : position_or_len p (x ∷ sockets) ≡ 1 + position_or_len p sockets = ap (λ b. cond (not b) (1 + position_or_len p sockets) 0) fails in
    let rest = first_at p sockets b s at holds (λ j y b at. before (suc j) y (omega arith) at) in
    omega arith)

none_at : (p : TcpSocket → Bool) (sockets : List TcpSocket) → ((j : ℕ) (x : TcpSocket) → slice_get sockets j ≡ Some x → p x ≡ true → ⊥) → position_or_len p sockets ≡ length sockets
none_at p [] none = refl
none_at p (x ∷ sockets) none =
    by_bool (p x) (λ holds. absurd (none zero x refl holds))
    (λ fails.
    let one : position_or_len p (x ∷ sockets) ≡ 1 + position_or_len p sockets = ap (λ b. cond (not b) (1 + position_or_len p sockets) 0) fails in
    let rest = none_at p sockets (λ j y at. none (suc j) y at) in
    omega arith)

-- all were looked at
pub looked_at_all : (p : TcpSocket → Bool) (socks : List TcpSock) (last : ℕ) (places : List ℕ) (best : Option ℕ) → Best p socks last places best [] → (sockets : List TcpSocket) → AllStand socks sockets → ((k : ℕ) (c : TcpSock) (s : TcpSocket) → k ≢ last → slice_get socks k ≡ Some c → SocketStands c s → p s ≡ true → list_any (λ j. j == k) places ≡ true) → best ≡ position p sockets
looked_at_all p socks last places best h sockets stand among = all best refl
  where
    reached : (k : ℕ) (s : TcpSocket) → slice_get sockets k ≡ Some s → p s ≡ true → AtMost best k
    reached k s at holds =
        let there = sock_at socks sockets k s stand at in
        elim (h.least k there.0 s there.1.0 there.1.1 holds (elim (cases_eq k last) as (λ _. (k ≡ last) ⊎ (list_any (λ j. j == k) places ≡ true)) [
          | inl same ↦ inl same
          | inr apart ↦ inr (among k there.0 s apart there.1.0 there.1.1 holds)
        ])) as (λ _. AtMost best k) [
          | inl old ↦ old
          | inr any ↦ absurd (nothing any)
        ]
      where
        nothing : false ≡ true → ⊥
        nothing e = cc

    all : (o : Option ℕ) → best ≡ o → o ≡ position p sockets
    all None e = found_none p sockets (none_at p sockets (λ j x at holds. subst (λ (o : Option ℕ). AtMost o j) e (reached j x at holds)))
    all (Some b) e =
        let there = socket_at socks sockets b stand (h.within b e) in
        let sock = sock_at socks sockets b there.0 stand there.1 in
        let holds = h.is b sock.0 there.0 e sock.1.0 sock.1.1 in
        let first = first_at p sockets b there.0 there.1 holds (λ j x lt at holds. let le = subst (λ (o : Option ℕ). AtMost o j) e (reached j x at holds) in omega arith) in
        let same = same_length socks sockets stand in
        let b1 = h.within b e in
        found p sockets b first (omega arith)
