-- The names of a run's hosts: those of its rows, and no two alike.
use Rattle.std.proofs.Common.{◌≡◌, ℕ, suc, Bool, true, false, List, [], ◌∷◌, map, slice_get, Some, All, refl, sym, ap, arith}
use Rattle.std.specs.List.{AllByRecursion, IsDistinct}
use Rattle.std.specs.Str.{bytes_eq}
use Rattle.std.proofs.lemmas.Slice.Eq.{bytes_eq-Decides}
use Rattle.run_files.specs.Listed.{HostNames, HasIds, listed}
use Rattle.host_state.specs.Gains.{names_in}
use Rattle.host_state.specs.World.{opening_world}
use Rattle.host_rows.specs.declared.row.Row.{Row}
use Rattle.net_run.specs.Grown.{HaveOwnFiles}
use Rattle.run_plan.specs.Names.{AreApart}

pub opening_names : (rows : List Row) → names_in (opening_world rows) ≡ map listed rows
opening_names [] = refl
opening_names (row ∷ rows) = ap (λ (l : List HostNames). listed row ∷ l) (opening_names rows)

differ : (x : List ℕ) (ys : List (List ℕ)) → ((i : ℕ) → slice_get ys i ≡ Some x → ⊥) → AllByRecursion (λ (y : List ℕ). bytes_eq x y ≡ false) ys
differ x [] none = tt
differ x (y ∷ ys) none = (go (bytes_eq x y) refl, differ x ys (λ i e. none (suc i) e)) where
  go : (b : Bool) → bytes_eq x y ≡ b → bytes_eq x y ≡ false
  go true e = absurd (none 0 (ap Some (sym ((bytes_eq-Decides x y).0 e))))
  go false e = e

distinct : (xs : List (List ℕ)) → AreApart xs → IsDistinct bytes_eq xs
unfolding IsDistinct
distinct [] apart = tt
distinct (x ∷ xs) apart = (
  differ x xs (λ i e. let same : suc i ≡ 0 = apart x (suc i) 0 e refl in absurd (omega arith)),
  distinct xs (λ y i j a b. let same : suc i ≡ suc j = apart y (suc i) (suc j) a b in omega arith),
)

-- hosts of which no two have one name have files of their own
pub own_files : (hosts : List HostNames) → AreApart (map (λ (h : HostNames). h.name) hosts) → All HasIds hosts → HaveOwnFiles hosts
own_files hosts apart ids = record { names = distinct (map (λ (h : HostNames). h.name) hosts) apart; ids = ids }
