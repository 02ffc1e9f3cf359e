-- The entries of an epoll stand by rising descriptors.
use Rattle.std.proofs.Common.{◌≡◌, ℕ, ◌-◌, ◌<◌, Bool, true, false, List, [], ◌∷◌, refl, sym, subst, arith, one-add}
use Rattle.std.proofs.lemmas.Bool.Decides.{nat_tests}
use Rattle.host_fds.specs.declared.epoll.Seen.{Seen}
use Rattle.host_fds.specs.declared.epoll.Watch.{Watch}
use Rattle.host_fds.specs.Epoll.{names, without, is_behind, put_in, is_told, reported}
use Rattle.pipe_laws.specs.Watching.{EpollAct, Puts, Drops, Tells, epoll_after, epoll_after_all, Above, Rise}

either : {P : Type 0} (b : Bool) → (b ≡ true → P) → (b ≡ false → P) → P
either true yes_ no_ = yes_ refl
either false yes_ no_ = no_ refl

-- no entry is of a descriptor
abbrev Differ : ℕ → List Watch → Type 0
Differ fd [] = Unit {0}
Differ fd (w ∷ entries) = (names fd w ≡ false) × Differ fd entries

-- dropped entries
without_hit : (fd : ℕ) (w : Watch) (ws : List Watch) → names fd w ≡ true → without fd (w ∷ ws) ≡ without fd ws
without_hit fd w ws h = rw h refl

without_miss : (fd : ℕ) (w : Watch) (ws : List Watch) → names fd w ≡ false → without fd (w ∷ ws) ≡ w ∷ without fd ws
without_miss fd w ws h = rw h refl

above_without : (k fd : ℕ) (ws : List Watch) → Above k ws → Above k (without fd ws)
above_without k fd [] h = tt
above_without k fd (w ∷ ws) (first, rest) =
    either (names fd w)
    (λ h. subst (Above k) (sym (without_hit fd w ws h)) (above_without k fd ws rest))
    (λ h. subst (Above k) (sym (without_miss fd w ws h)) (first, above_without k fd ws rest))

rise_without : (fd : ℕ) (ws : List Watch) → Rise ws → Rise (without fd ws)
rise_without fd [] h = tt
rise_without fd (w ∷ ws) (above, rise) =
    either (names fd w)
    (λ h. subst Rise (sym (without_hit fd w ws h)) (rise_without fd ws rise))
    (λ h. subst Rise (sym (without_miss fd w ws h)) (above_without w.fd fd ws above, rise_without fd ws rise))

differ_without : (fd : ℕ) (ws : List Watch) → Differ fd (without fd ws)
differ_without fd [] = tt
differ_without fd (w ∷ ws) =
    either (names fd w)
    (λ h. subst (Differ fd) (sym (without_hit fd w ws h)) (differ_without fd ws))
    (λ h. subst (Differ fd) (sym (without_miss fd w ws h)) (h, differ_without fd ws))

-- an entry that is put
put_here : (w x : Watch) (xs : List Watch) → is_behind w.fd x ≡ true → put_in w (x ∷ xs) ≡ w ∷ x ∷ xs
put_here w x xs h = rw h refl

put_later : (w x : Watch) (xs : List Watch) → is_behind w.fd x ≡ false → put_in w (x ∷ xs) ≡ x ∷ put_in w xs
put_later w x xs h = rw h (rw one-add refl)

above_more : (k n : ℕ) (ws : List Watch) → k < n → Above n ws → Above k ws
above_more k n [] less h = tt
above_more k n (w ∷ ws) less (first, rest) = (omega arith, above_more k n ws less rest)

above_put : (k : ℕ) (w : Watch) (ws : List Watch) → k < w.fd → Above k ws → Above k (put_in w ws)
above_put k w [] less h = (less, tt)
above_put k w (x ∷ xs) less (first, rest) =
    either (is_behind w.fd x)
    (λ h. subst (Above k) (sym (put_here w x xs h)) (less, (first, rest)))
    (λ h. subst (Above k) (sym (put_later w x xs h)) (first, above_put k w xs less rest))

is_less : (w x : Watch) → is_behind w.fd x ≡ true → w.fd < x.fd
is_less w x h = grind (arith, nat_tests)

is_more : (w x : Watch) → is_behind w.fd x ≡ false → names w.fd x ≡ false → x.fd < w.fd
is_more w x h k = grind (arith, nat_tests)

rise_put : (w : Watch) (ws : List Watch) → Differ w.fd ws → Rise ws → Rise (put_in w ws)
rise_put w [] differ h = (tt, tt)
rise_put w (x ∷ xs) (other, differ) (above, rise) =
    either (is_behind w.fd x)
    (λ h. subst Rise (sym (put_here w x xs h)) ((is_less w x h, above_more w.fd x.fd xs (is_less w x h) above), (above, rise)))
    (λ h. subst Rise (sym (put_later w x xs h)) (above_put x.fd w xs (is_more w x h other) above, rise_put w xs differ rise))

-- entries that are told stay where they are
above_reported : (k room : ℕ) (seen : List Seen) (ws : List Watch) → Above k ws → Above k (reported room seen ws)
unfolding reported
above_reported k room [] ws h = h
above_reported k room (s ∷ seen) [] h = tt
above_reported k room (s ∷ seen) (w ∷ ws) (first, rest) =
    either (is_told room w s) (λ h. rw h (first, above_reported k (room - 1) seen ws rest)) (λ h. rw h (first, above_reported k room seen ws rest))

rise_reported : (room : ℕ) (seen : List Seen) (ws : List Watch) → Rise ws → Rise (reported room seen ws)
unfolding reported
rise_reported room [] ws h = h
rise_reported room (s ∷ seen) [] h = tt
rise_reported room (s ∷ seen) (w ∷ ws) (above, rise) =
    either (is_told room w s)
    (λ h. rw h (above_reported w.fd (room - 1) seen ws above, rise_reported (room - 1) seen ws rise))
    (λ h. rw h (above_reported w.fd room seen ws above, rise_reported room seen ws rise))

pub act_rises : (act : EpollAct) (ws : List Watch) → Rise ws → Rise (epoll_after act ws)
act_rises (Puts w) ws h = rise_put w (without w.fd ws) (differ_without w.fd ws) (rise_without w.fd ws h)
act_rises (Drops fd) ws h = rise_without fd ws h
act_rises (Tells room seen) ws h = rise_reported room seen ws h

all_rise : (acts : List EpollAct) (ws : List Watch) → Rise ws → Rise (epoll_after_all acts ws)
all_rise [] ws h = h
all_rise (act ∷ acts) ws h = all_rise acts (epoll_after act ws) (act_rises act ws h)

pub entries_rise : (acts : List EpollAct) → Rise (epoll_after_all acts [])
entries_rise acts = all_rise acts [] tt
