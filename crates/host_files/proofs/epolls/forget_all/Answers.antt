use Rattle.std.proofs.Common.{◌≡◌, ℕ, zero, suc, ◌+◌, ◌<◌, List, [], ◌∷◌, ◌++◌, length, take, drop, map, get_or, set, Option, sym, ap, ◌∙◌, arith, add-one}
use Rattle.host_fds.specs.declared.epoll.Watch.{Watch}
use Rattle.host_files.specs.Epolls.{EpollsState, forgets}
use Rattle.host_files.proofs.epolls.forget_all.Goals as goal

-- one more of a list whose first ones have acted
acts_on : {A : Type 0} (f : A → A) (xs : List A) (place : ℕ) (x : A) → place < length xs → x ≡ get_or (map f (take place xs) ++ drop place xs) place x → set (map f (take place xs) ++ drop place xs) place (f x) ≡ map f (take (suc place) xs) ++ drop (suc place) xs
acts_on f [] place x b is = absurd (omega arith)
acts_on f (y ∷ xs) zero x b is = ap (λ z. f z ∷ xs) is
acts_on f (y ∷ xs) (suc place) x b is = ap (λ ys. f y ∷ ys) (acts_on f xs place x (omega arith) is)

forgets_on : (fd : ℕ) (first slots : EpollsState) (place : ℕ) (old new : Option (List Watch)) → place < length first → slots ≡ map (forgets fd) (take place first) ++ drop place first → old ≡ get_or slots place old → new ≡ forgets fd old → set slots place new ≡ map (forgets fd) (take (place + 1) first) ++ drop (place + 1) first
forgets_on fd first slots place old new b so_far is e =
    let one : set slots place new ≡ map (forgets fd) (take (suc place) first) ++ drop (suc place) first =
    ap (set slots place) e
    ∙ (ap (λ (xs : EpollsState). set xs place (forgets fd old)) so_far
    ∙ acts_on (forgets fd) first place old b (is ∙ ap (λ (xs : EpollsState). get_or xs place old) so_far)) in
    rw add-one one

pub loop-place-preserved : goal.loop-place-preserved
loop-place-preserved c =
    forgets_on c.args.fd c.args.slots.now c.loop-place.slots c.loop-place.place c.index-slots-place.result c.remove_slot.new.slot c.loop-place-test.true c.loop-place.invariant c.index-slots-place.is (c.remove_slot.ensures.forgets ∙ ap (forgets c.args.fd) (sym c.index-slots-place.is))
