-- what a wait tells: the first entries that are due
use Rattle.std.proofs.Common.{◌≡◌, ℕ, zero, suc, ◌-◌, Bool, true, false, ◌&&◌, List, [], ◌∷◌, take, filter, map, cond, nat_lt, if◌then◌else◌, refl, ap, subst, arith}
use Rattle.std.proofs.lemmas.Bool.Decides.{nat_tests}
use Rattle.host_fds.specs.declared.epoll.Entry.{Entry}
use Rattle.host_fds.specs.declared.epoll.Seen.{Seen}
use Rattle.host_fds.specs.declared.epoll.Watch.{Watch}
use Rattle.host_fds.specs.Epoll.{entry_of, is_due, told}

nothing : (room : ℕ) → [] ≡ take {A = Entry} room []
nothing zero = refl
nothing (suc n) = refl

module _ (sees : Watch → Seen) where
  abbrev due : Watch → Bool
  due w = is_due w (sees w)

  abbrev entry : Watch → Entry
  entry w = entry_of w (sees w)

  abbrev all_due : List Watch → List Entry
  all_due entries = map entry (filter due entries)

  -- the first entry, by whether there is room and it is due
  tells_by : (free now : Bool) (room : ℕ) (w : Watch) (entries : List Watch) → nat_lt 0 room ≡ free → ((n : ℕ) → told n (map sees entries) entries ≡ take n (all_due entries)) → (if free && now then entry w ∷ told (room - 1) (map sees entries) entries else told room (map sees entries) entries) ≡ take room (map entry (cond now (w ∷ filter due entries) (filter due entries)))
  tells_by true true room w entries e rest =
      let some : suc (room - 1) ≡ room = grind (arith, nat_tests) in
      subst (λ (n : ℕ). entry w ∷ told (room - 1) (map sees entries) entries ≡ take n (entry w ∷ all_due entries)) some
      (ap (λ (more : List Entry). entry w ∷ more) (rest (room - 1)))
  tells_by true false room w entries e rest = rest room
  tells_by false true room w entries e rest =
      let none : 0 ≡ room = grind (arith, nat_tests) in
      subst (λ (n : ℕ). told n (map sees entries) entries ≡ take n (entry w ∷ all_due entries)) none (rest 0)
  tells_by false false room w entries e rest = rest room

  tells : (room : ℕ) (entries : List Watch) → told room (map sees entries) entries ≡ take room (all_due entries)
  unfolding told
  tells room [] = nothing room
  tells room (w ∷ entries) = tells_by (nat_lt 0 room) (due w) room w entries refl (λ n. tells n entries)

pub the_first : (room : ℕ) (sees : Watch → Seen) (entries : List Watch) → told room (map sees entries) entries ≡ take room (map (λ (w : Watch). entry_of w (sees w)) (filter (λ (w : Watch). is_due w (sees w)) entries))
the_first room sees entries = tells sees room entries
