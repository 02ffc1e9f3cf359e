-- which sockets are there where one is put back, made or closed
use Rattle.std.proofs.Common.{◌≡◌, ◌≢◌, ℕ, zero, suc, ◌+◌, ◌<◌, ◌≤◌, Bool, true, false, cond, not, ◌||◌, List, [], ◌∷◌, ◌++◌, length, set, Option, Some, None, is_some, is_none, nat_lt, slice_get, if◌then◌else◌, refl, sym, ap, subst, ◌∙◌, arith, one-add}
use Rattle.std.specs.List.{position_or_len}
use Rattle.std.proofs.lemmas.Bool.Decides.{nat_tests}
use Rattle.std.proofs.lemmas.List.Sums.{prefix_len-le-length}
use Rattle.sock_tcp.specs.connection.Tcb.{Tcb}
use Rattle.sock_udp.specs.Socket.{UdpState}
use Rattle.host_sockets.specs.Sockets.{SocketsRecord, with_tcp, put_at, tcp_place, put_tcp_at}
use Rattle.host_sockets.specs.TcpSocket.{TcpSocket, is_free}
use Rattle.host_sockets.specs.Udp.{socket_in, with_udp, udp_in, udp_place, put_udp_at, closes_udp}
use Rattle.call_rises.specs.Sockets.{has_udp, is_held, has_tcp}

-- the same sockets are there
pub record SameThere (t u : SocketsRecord) : Type 0 where
  pub udp : (k : ℕ) → has_udp k t ≡ has_udp k u
  pub tcp : (k : ℕ) → has_tcp k t ≡ has_tcp k u

pub same_there : (t : SocketsRecord) → SameThere t t
same_there t = record { udp = λ k. refl; tcp = λ k. refl }

-- all that are there stay there
pub record AllStay (t u : SocketsRecord) : Type 0 where
  pub udp : (k : ℕ) → has_udp k t ≡ true → has_udp k u ≡ true
  pub tcp : (k : ℕ) → has_tcp k t ≡ true → has_tcp k u ≡ true

pub all_stay : (t : SocketsRecord) → AllStay t t
all_stay t = record { udp = λ k h. h; tcp = λ k h. h }

pub same_stay : (t u : SocketsRecord) → SameThere t u → AllStay t u
same_stay t u same = record { udp = λ k h. sym (same.udp k) ∙ h; tcp = λ k h. sym (same.tcp k) ∙ h }

pub same_were : (t u : SocketsRecord) → SameThere t u → AllStay u t
same_were t u same = record { udp = λ k h. same.udp k ∙ h; tcp = λ k h. same.tcp k ∙ h }

pub not_both : (b : Bool) → b ≡ true → b ≡ false → ⊥
not_both true e k = cc
not_both false e k = cc

-- ---- elements of lists

get_apart : {A : Type 0} (xs : List A) (place k : ℕ) (a : A) → place ≢ k → slice_get (set xs place a) k ≡ slice_get xs k
get_apart [] place k a apart = refl
get_apart (x ∷ xs) zero zero a apart = absurd (apart refl)
get_apart (x ∷ xs) zero (suc k) a apart = refl
get_apart (x ∷ xs) (suc place) zero a apart = refl
get_apart (x ∷ xs) (suc place) (suc k) a apart = get_apart xs place k a (λ e. apart (ap suc e))

get_set : {A : Type 0} (xs : List A) (place : ℕ) (a : A) → place < length xs → slice_get (set xs place a) place ≡ Some a
get_set [] place a b = absurd (omega arith)
get_set (x ∷ xs) zero a b = refl
get_set (x ∷ xs) (suc place) a b = get_set xs place a (omega arith)

get_pushed : {A : Type 0} (xs : List A) (place : ℕ) (a : A) → place ≡ length xs → slice_get (xs ++ a ∷ []) place ≡ Some a
get_pushed [] zero a e = refl
get_pushed [] (suc place) a e = absurd (omega arith)
get_pushed (x ∷ xs) zero a e = absurd (omega arith)
get_pushed (x ∷ xs) (suc place) a e = get_pushed xs place a (omega arith)

get_before : {A : Type 0} (xs : List A) (k : ℕ) (a : A) → k ≢ length xs → slice_get (xs ++ a ∷ []) k ≡ slice_get xs k
get_before [] zero a apart = absurd (apart refl)
get_before [] (suc k) a apart = refl
get_before (x ∷ xs) zero a apart = refl
get_before (x ∷ xs) (suc k) a apart = get_before xs k a (λ e. apart (omega arith))

below_is : (a b : ℕ) → nat_lt a b ≡ true → a < b
below_is a b e = grind (arith, nat_tests)

last_is : (a b : ℕ) → nat_lt a b ≡ false → a ≤ b → a ≡ b
last_is a b e within = grind (arith, nat_tests)

put_here : {A : Type 0} (xs : List A) (place : ℕ) (a : A) → place ≤ length xs → slice_get (put_at place a xs) place ≡ Some a
put_here {A} xs place a within = by_place (nat_lt place (length xs)) refl
  where
    by_place : (c : Bool) → nat_lt place (length xs) ≡ c → slice_get (if c then set xs place a else xs ++ a ∷ []) place ≡ Some a
    by_place true e = get_set xs place a (below_is place (length xs) e)
    by_place false e = get_pushed xs place a (last_is place (length xs) e within)

put_apart : {A : Type 0} (xs : List A) (place k : ℕ) (a : A) → place ≤ length xs → place ≢ k → slice_get (put_at place a xs) k ≡ slice_get xs k
put_apart {A} xs place k a within apart = by_place (nat_lt place (length xs)) refl
  where
    by_place : (c : Bool) → nat_lt place (length xs) ≡ c → slice_get (if c then set xs place a else xs ++ a ∷ []) k ≡ slice_get xs k
    by_place true e = get_apart xs place k a apart
    by_place false e = get_before xs k a (λ same. apart (last_is place (length xs) e within ∙ sym same))

place_within : {A : Type 0} (p : A → Bool) (xs : List A) → position_or_len p xs ≤ length xs
place_within p xs = prefix_len-le-length (λ s. not (p s)) xs

-- ---- a TCP socket is put back

held_set : (xs : List TcpSocket) (j k : ℕ) (old new : TcpSocket) → slice_get xs j ≡ Some old → old.held ≡ new.held → is_held (slice_get xs k) ≡ is_held (slice_get (set xs j new) k)
held_set [] j k old new at e = cc
held_set (x ∷ xs) zero zero old new at e = let same : x ≡ old = cc in ap (λ (s : TcpSocket). s.held) same ∙ e
held_set (x ∷ xs) zero (suc k) old new at e = refl
held_set (x ∷ xs) (suc j) zero old new at e = refl
held_set (x ∷ xs) (suc j) (suc k) old new at e = held_set xs j k old new at e

pub same_tcp : (k : ℕ) (old new : TcpSocket) (gone : List Tcb) (t : SocketsRecord) → slice_get t.tcp k ≡ Some old → old.held ≡ new.held → SameThere t (record (with_tcp k old new t) { gone = gone })
same_tcp k old new gone t at e = record { udp = λ j. refl; tcp = λ j. held_set t.tcp k j old new at e }

-- or is held no more
held_gone : (xs : List TcpSocket) (k : ℕ) (new : TcpSocket) → new.held ≡ false → is_held (slice_get (set xs k new) k) ≡ false
held_gone [] k new e = refl
held_gone (x ∷ xs) zero new e = e
held_gone (x ∷ xs) (suc k) new e = held_gone xs k new e

-- what is left where a socket is gone
pub record OneGone (k : ℕ) (has others : ℕ → SocketsRecord → Bool) (t u : SocketsRecord) : Type 0 where
  pub gone : has k u ≡ false
  pub apart : (j : ℕ) → k ≢ j → has j t ≡ has j u
  pub same : (j : ℕ) → others j t ≡ others j u

pub gone_tcp : (k : ℕ) (old new : TcpSocket) (gone : List Tcb) (t : SocketsRecord) → new.held ≡ false → OneGone k has_tcp has_udp t (record (with_tcp k old new t) { gone = gone })
gone_tcp k old new gone t e = record {
  gone = held_gone t.tcp k new e;
  apart = λ j apart. ap is_held (sym (get_apart t.tcp k j new apart));
  same = λ j. refl;
}

-- ---- a UDP socket is put back, or closed

slot_set : (slots : List (Option UdpState)) (j k : ℕ) (old new : UdpState) → socket_in (slice_get slots j) ≡ Some old → is_some (socket_in (slice_get slots k)) ≡ is_some (socket_in (slice_get (set slots j (Some new)) k))
slot_set [] j k old new at = cc
slot_set (x ∷ slots) zero zero old new at = ap is_some at
slot_set (x ∷ slots) zero (suc k) old new at = refl
slot_set (x ∷ slots) (suc j) zero old new at = refl
slot_set (x ∷ slots) (suc j) (suc k) old new at = slot_set slots j k old new at

pub same_udp : (k : ℕ) (old new : UdpState) (t : SocketsRecord) → udp_in k t ≡ Some old → SameThere t (with_udp k old new t)
same_udp k old new t at = record { udp = λ j. slot_set t.udp k j old new at; tcp = λ j. refl }

slot_gone : (slots : List (Option UdpState)) (k : ℕ) → is_some (socket_in (slice_get (set slots k None) k)) ≡ false
slot_gone [] k = refl
slot_gone (x ∷ slots) zero = refl
slot_gone (x ∷ slots) (suc k) = slot_gone slots k

abbrev is_taken : Option (Option UdpState) → Bool
is_taken o = is_some (socket_in o)

pub gone_udp : (k : ℕ) (t : SocketsRecord) → OneGone k has_udp has_tcp t (closes_udp k t)
unfolding closes_udp
gone_udp k t = record {
  gone = slot_gone t.udp k;
  apart = λ j apart. ap is_taken (sym (get_apart t.udp k j None apart));
  same = λ j. refl;
}

-- ---- one is made, at a number that none has

pub record OneMade (k : ℕ) (has others : ℕ → SocketsRecord → Bool) (t u : SocketsRecord) : Type 0 where
  pub is_new : has k t ≡ false
  pub is_here : has k u ≡ true
  pub apart : (j : ℕ) → k ≢ j → has j t ≡ has j u
  pub same : (j : ℕ) → others j t ≡ others j u

free_not_held : (h b : Bool) → not (h || b) ≡ true → h ≡ false
free_not_held true b e = cc
free_not_held false b e = refl

free_held : (xs : List TcpSocket) → is_held (slice_get xs (position_or_len is_free xs)) ≡ false
free_held [] = refl
free_held (x ∷ xs) = by_free (is_free x) refl (free_held xs)
  where
    by_free : (b : Bool) → is_free x ≡ b → is_held (slice_get xs (position_or_len is_free xs)) ≡ false → is_held (slice_get (x ∷ xs) (position_or_len is_free (x ∷ xs))) ≡ false
    by_free true e rest =
        let none : position_or_len is_free (x ∷ xs) ≡ 0 = ap (λ (b : Bool). cond (not b) (1 + position_or_len is_free xs) 0) e in
        subst (λ (n : ℕ). is_held (slice_get (x ∷ xs) n) ≡ false) (sym none) (free_not_held x.held _ e)
    by_free false e rest =
        let one : position_or_len is_free (x ∷ xs) ≡ suc (position_or_len is_free xs) = ap (λ (b : Bool). cond (not b) (1 + position_or_len is_free xs) 0) e ∙ one-add (position_or_len is_free xs) in
        subst (λ (n : ℕ). is_held (slice_get (x ∷ xs) n) ≡ false) (sym one) rest

pub free_tcp : (t : SocketsRecord) → has_tcp (tcp_place t) t ≡ false
free_tcp t = free_held t.tcp

pub made_tcp : (s : TcpSocket) (t : SocketsRecord) → s.held ≡ true → OneMade (tcp_place t) has_tcp has_udp t (put_tcp_at (tcp_place t) s t)
made_tcp s t e =
    let within = place_within is_free t.tcp in
    record {
      is_new = free_tcp t;
      is_here = ap is_held (put_here t.tcp (tcp_place t) s within) ∙ e;
      apart = λ j apart. ap is_held (sym (put_apart t.tcp (tcp_place t) j s within apart));
      same = λ j. refl;
    }

free_slot : (slots : List (Option UdpState)) → is_some (socket_in (slice_get slots (position_or_len is_none slots))) ≡ false
free_slot [] = refl
free_slot (None ∷ slots) = refl
free_slot (Some u ∷ slots) = rw one-add (free_slot slots)

pub made_udp : (u : UdpState) (t : SocketsRecord) → OneMade (udp_place t) has_udp has_tcp t (put_udp_at (udp_place t) u t)
made_udp u t =
    let within = place_within is_none t.udp in
    record {
      is_new = free_slot t.udp;
      is_here = ap is_taken (put_here t.udp (udp_place t) (Some u) within);
      apart = λ j apart. ap is_taken (sym (put_apart t.udp (udp_place t) j (Some u) within apart));
      same = λ j. refl;
    }
