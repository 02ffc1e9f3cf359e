-- What an epoll tells where there is less room than there are entries, or more.
use Rattle.std.proofs.Common.{◌≡◌, ℕ, ◌-◌, ◌<◌, ◌≤◌, Bool, true, false, ◌&&◌, nat_lt, nat_le, min, if◌then◌else◌, List, [], ◌∷◌, ◌++◌, length, take, drop, slice_set, Option, None, Some, refl, ap, ap₂, ◌∙◌, arith}
use Rattle.std.proofs.Math.Seq.{take-append_seam}
use Rattle.std.proofs.lemmas.Bool.Decides.{nat_tests}
use Rattle.host_fds.specs.declared.epoll.Entry.{Entry}
use Rattle.host_fds.specs.declared.epoll.Seen.{Seen}
use Rattle.host_fds.specs.declared.epoll.Watch.{Watch}
use Rattle.host_fds.specs.Epoll.{told, reported, is_told, is_due, entry_of, report_of}
use Rattle.host_files.specs.Epolls.{EpollsState, epoll_at, told_by, after_report, entries_reported}
use Rattle.host_files.specs.Slots.{after}

pub is_above : (n : ℕ) → 0 < n → nat_lt 0 n ≡ true
is_above n h = grind (arith, nat_tests)

-- there is no use for more room than there is seen
some_room : (room : ℕ) (w : Watch) (s : Seen) → 0 < room → is_told room w s ≡ is_due w s
some_room room w s h = ap (λ b. b && is_due w s) (is_above room h)

told_enough : (all : List Seen) (ws : List Watch) (a b : ℕ) → length all ≤ a → length all ≤ b → told a all ws ≡ told b all ws
unfolding told
told_enough [] ws a b h k = refl
told_enough (s ∷ all) [] a b h k = refl
told_enough (s ∷ all) (w ∷ ws) a b h k =
    rw (some_room a w s (omega arith), some_room b w s (omega arith))
    (ap₂ (λ x y. if is_due w s then entry_of w s ∷ x else y)
    (told_enough all ws (a - 1) (b - 1) (omega arith) (omega arith)) (told_enough all ws a b (omega arith) (omega arith)))

left_enough : (all : List Seen) (ws : List Watch) (a b : ℕ) → length all ≤ a → length all ≤ b → reported a all ws ≡ reported b all ws
unfolding reported
left_enough [] ws a b h k = refl
left_enough (s ∷ all) [] a b h k = refl
left_enough (s ∷ all) (w ∷ ws) a b h k =
    rw (some_room a w s (omega arith), some_room b w s (omega arith))
    (ap₂ (λ x y. if is_due w s then report_of w s ∷ x else w ∷ y)
    (left_enough all ws (a - 1) (b - 1) (omega arith) (omega arith)) (left_enough all ws a b (omega arith) (omega arith)))

by_least : {A : Type 0} (f : ℕ → A) (n m : ℕ) → ((a b : ℕ) → m ≤ a → m ≤ b → f a ≡ f b) → f (min n m) ≡ f n
by_least f n m same = least (nat_le n m) refl
  where
    least : (b : Bool) → nat_le n m ≡ b → f (min n m) ≡ f n
    least true e = let is : min n m ≡ n = grind (arith, nat_tests) in ap f is
    least false e = let more : m ≤ n = grind (arith, nat_tests) in same (min n m) n (omega arith) more

told_least : (room : ℕ) (all : List Seen) (entries : Option (List Watch)) → told_by (min room (length all)) all entries ≡ told_by room all entries
told_least room all None = refl
told_least room all (Some ws) = by_least (λ n. told n all ws) room (length all) (told_enough all ws)

left_least : (room : ℕ) (all : List Seen) (entries : Option (List Watch)) → after (after_report (min room (length all)) all) entries ≡ after (after_report room all) entries
left_least room all None = refl
left_least room all (Some ws) = ap Some (by_least (λ n. reported n all ws) room (length all) (left_enough all ws))

pub reported_least : (room : ℕ) (all : List Seen) (place : ℕ) (s : EpollsState) → entries_reported (min room (length all)) all place s ≡ entries_reported room all place s
reported_least room all place s = ap (slice_set s place) (left_least room all (epoll_at place s))

-- what a list gives back that was lent whole
pub all_lent : (n : ℕ) (lent behind : List Entry) → n ≡ length lent → take n (lent ++ behind) ≡ lent
all_lent n lent behind e = ap (λ m. take m (lent ++ behind)) e ∙ take-append_seam lent behind

-- what is told where there is room for so many
pub tells_least : (room found : ℕ) (all : List Seen) (entries : Option (List Watch)) (into left items : List Entry)
    → length into ≡ min room (length all) → found ≡ length (told_by (length into) all entries)
    → left ≡ told_by (length into) all entries ++ drop found into → items ≡ take found left → items ≡ told_by room all entries
tells_least room found all entries into left items size found_is left_is items_is =
    items_is
    ∙ ap (take found) left_is
    ∙ ap (λ n. take n (told_by (length into) all entries ++ drop found into)) found_is
    ∙ take-append_seam (told_by (length into) all entries) (drop found into)
    ∙ ap (λ n. told_by n all entries) size
    ∙ told_least room all entries
