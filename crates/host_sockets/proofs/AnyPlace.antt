-- whether any has it, by the places of those that have
use Rattle.std.proofs.Common.{◌≡◌, ◌+◌, ◌<◌, List, [], ◌∷◌, length, Bool, true, false, cond, not, ◌||◌, is_some, refl, sym, ap, ◌∙◌, arith}
use Rattle.std.specs.List.{list_any, position, position_or_len}
use Rattle.host_sockets.specs.TcpSocket.{TcpSocket}
use Rattle.host_sockets.proofs.EndsFound.{by_bool}
use Rattle.host_sockets.proofs.Places.{found, found_none}

any_below : (p : TcpSocket → Bool) (xs : List TcpSocket) → list_any p xs ≡ true → position_or_len p xs < length xs
any_below p [] e = cc
any_below p (x ∷ xs) e =
    by_bool (p x)
    (λ here.
    let none : position_or_len p (x ∷ xs) ≡ 0 = ap (λ b. cond (not b) (1 + position_or_len p xs) 0) here in
    omega arith)
    (λ fails.
    let one : position_or_len p (x ∷ xs) ≡ 1 + position_or_len p xs = ap (λ b. cond (not b) (1 + position_or_len p xs) 0) fails in
    let rest = any_below p xs (ap (λ b. b || list_any p xs) (sym fails) ∙ e) in
    omega arith)

any_behind : (p : TcpSocket → Bool) (xs : List TcpSocket) → list_any p xs ≡ false → position_or_len p xs ≡ length xs
any_behind p [] e = refl
any_behind p (x ∷ xs) e =
    by_bool (p x)
    (λ here. absurd (never (sym (ap (λ b. b || list_any p xs) here) ∙ e)))
    (λ fails.
    let one : position_or_len p (x ∷ xs) ≡ 1 + position_or_len p xs = ap (λ b. cond (not b) (1 + position_or_len p xs) 0) fails in
    let rest = any_behind p xs (ap (λ b. b || list_any p xs) (sym fails) ∙ e) in
    omega arith)
  where
    never : true ≡ false → ⊥
    never e = cc

pub some_any : (p : TcpSocket → Bool) (xs : List TcpSocket) → is_some (position p xs) ≡ list_any p xs
some_any p xs =
    by_bool (list_any p xs)
    (λ here. sym (ap is_some (found p xs (position_or_len p xs) refl (any_below p xs here))) ∙ sym here)
    (λ fails. sym (ap is_some (found_none p xs (any_behind p xs fails))) ∙ sym fails)

swap : (a b c d : Bool) → ((a || b) || (c || d)) ≡ ((a || c) || (b || d))
swap true b c d = refl
swap false true true d = refl
swap false true false d = refl
swap false false c d = refl

any_or : (f g : TcpSocket → Bool) (xs : List TcpSocket) → list_any (λ s. f s || g s) xs ≡ (list_any f xs || list_any g xs)
any_or f g [] = refl
any_or f g (x ∷ xs) = ap (λ b. (f x || g x) || b) (any_or f g xs) ∙ swap (f x) (g x) (list_any f xs) (list_any g xs)

then_or : (r a b : Bool) → r ≡ true → r ≡ a → r ≡ (a || b)
then_or true a b h e = ap (λ x. x || b) e
then_or false a b h e = cc

pub then_any : (f g : TcpSocket → Bool) (xs : List TcpSocket) (r : Bool) → r ≡ true → r ≡ list_any f xs → r ≡ list_any (λ s. f s || g s) xs
then_any f g xs r h e = then_or r (list_any f xs) (list_any g xs) h e ∙ sym (any_or f g xs)

pub else_any : (f g : TcpSocket → Bool) (xs : List TcpSocket) (r s : Bool) → r ≡ false → r ≡ list_any f xs → s ≡ list_any g xs → s ≡ list_any (λ s. f s || g s) xs
else_any f g xs r s h e is = is ∙ (ap (λ x. x || list_any g xs) (sym h ∙ e) ∙ sym (any_or f g xs))
