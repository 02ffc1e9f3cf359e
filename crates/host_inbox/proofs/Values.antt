-- The definitions on small values.
use Rattle.std.proofs.Common.{◌≡◌, ℕ, List, [], ◌∷◌, refl}
use Rattle.host_inbox.specs.declared.entry.Entry.{Entry}
use Rattle.list_weights.specs.Weights.{weigh}
use Rattle.host_inbox.specs.Entries.{entry, place_of}
use Rattle.host_inbox.specs.Drains.{numbers_of}
use Rattle.host_inbox.specs.Kept.{back_weight}

-- three parcels for host 1, of which the last has no place, and one for host 0
three_and_one : List (Entry ℕ)
three_and_one = entry 1 0 70 ∷ entry 0 0 71 ∷ entry 1 1 72 ∷ entry 1 16 73 ∷ []

numbers_of_one : numbers_of 1 three_and_one ≡ 0 ∷ 1 ∷ 16 ∷ []
unfolding three_and_one
numbers_of_one = refl

numbers_of_none : numbers_of 2 three_and_one ≡ []
unfolding three_and_one
numbers_of_none = refl

given_back : weigh (back_weight (λ parcel. parcel)) three_and_one ≡ 73
unfolding three_and_one
given_back = refl

places_of_two : (place_of 2 0 ≡ 32) × (place_of 2 15 ≡ 47) × (place_of 3 0 ≡ 48)
places_of_two = (refl, refl, refl)
