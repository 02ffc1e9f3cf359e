-- Nothing was taken by a seat that is new.
use Rattle.std.proofs.Common.{◌≡◌, ℕ, zero, suc, ◌+◌, ◌<◌, ◌==◌, false, List, [], ◌∷◌, map, length, get_or, All, refl, ap, ◌∙◌, arith}
use Rattle.steal_workers.specs.declared.share.Share.{Share}
use Rattle.list_weights.specs.Weights.{weigh}
use Rattle.steal_workers.specs.inside.Items.{number_weight}
use Rattle.steal_workers.specs.inside.Handles.{is_own}
use Rattle.steal_workers.specs.inside.Shares.{IsShare, taken_from, is_own_share, taken_weight, taken_weights}
use Rattle.steal_workers.specs.inside.Unused.{IsUnused}

module _ {T : Type 0} where
  nothing : (h : ℕ → ℕ) (xs : List (Share T)) → ((j : ℕ) (e : Share T) → j < length xs → taken_from (get_or xs j e) ≡ []) → taken_weights h xs ≡ 0
  nothing h [] each = refl
  nothing h (x ∷ xs) each =
      let here : taken_weight h x ≡ 0 = ap (weigh (number_weight h)) (each 0 x (omega arith)) in
      omega (arith, nothing h xs (λ j e w. each (suc j) e (omega arith)))

  pub unused_shares : (place : ℕ) (xs : List (Share T)) → IsUnused place xs → All IsShare xs
  unused_shares place xs h = λ k d w. (h k d w).0

  own_at : (place : ℕ) (xs : List (Share T)) (j d : ℕ) → ((k : ℕ) (e : Share T) → k < length xs → is_own (get_or xs k e).handle ≡ (k + j == place)) → d < length xs
      → get_or (map is_own_share xs) d false ≡ (d + j == place)
  own_at place [] j d h w = absurd (omega arith)
  own_at place (x ∷ xs) j zero h w = h 0 x w
  own_at place (x ∷ xs) j (suc d) h w =
      own_at place xs (suc j) d (λ k e v. h (suc k) e (omega arith) ∙ ap (λ n. n == place) (let n : suc k + j ≡ k + suc j = omega arith in n)) (omega arith)
      ∙ ap (λ n. n == place) (let n : d + suc j ≡ suc d + j = omega arith in n)

  pub unused_own : (place : ℕ) (xs : List (Share T)) → IsUnused place xs → (d : ℕ) → d < length xs → get_or (map is_own_share xs) d false ≡ (d == place)
  unused_own place xs h d w = own_at place xs 0 d (λ k e v. (h k e v).3 ∙ ap (λ n. n == place) (let n : k ≡ k + 0 = omega arith in n)) w ∙ ap (λ n. n == place) (let n : d + 0 ≡ d = omega arith in n)

  pub unused_numbers : (place : ℕ) (xs : List (Share T)) → IsUnused place xs → (h : ℕ → ℕ) → weigh h [] ≡ taken_weights h xs
  unused_numbers place xs u h = let n = nothing h xs (λ j e w. (u j e w).1) in omega arith
