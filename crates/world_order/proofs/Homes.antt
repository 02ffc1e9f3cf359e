-- Firings at hosts: what a firing leaves at its home and elsewhere; firings at two homes in either order.
use Rattle.std.proofs.Common.{◌≡◌, ◌≢◌, ℕ, zero, suc, ◌<◌, List, [], ◌∷◌, Option, Some, None, length, slice_get, slice_set, refl, sym, ap, ◌∙◌, arith, length-set}
use Rattle.std.proofs.lemmas.List.{set_comm}
use Rattle.sim_base.specs.declared.event.Event.{Event}
use Rattle.world_order.specs.Model.{Model, fires, fires_at, with_host}

module _ {X : Type 0} where
  pub get_set_same : (xs : List X) (i : ℕ) (x v : X) → slice_get xs i ≡ Some x → slice_get (slice_set xs i v) i ≡ Some v
  get_set_same [] i x v is = absurd (let e : None ≡ Some x = is in cc)
  get_set_same (y ∷ ys) zero x v is = refl
  get_set_same (y ∷ ys) (suc i) x v is = get_set_same ys i x v is

  pub get_set_other : (xs : List X) (i j : ℕ) (v : X) → j ≢ i → slice_get (slice_set xs i v) j ≡ slice_get xs j
  get_set_other [] i j v other = refl
  get_set_other (y ∷ ys) zero zero v other = absurd (other refl)
  get_set_other (y ∷ ys) zero (suc j) v other = refl
  get_set_other (y ∷ ys) (suc i) zero v other = refl
  get_set_other (y ∷ ys) (suc i) (suc j) v other = get_set_other ys i j v (λ e. other (ap suc e))

  pub get_below : (xs : List X) (i : ℕ) → i < length xs → (x : X) × (slice_get xs i ≡ Some x)
  get_below [] i below = absurd (omega arith)
  get_below (y ∷ ys) zero below = (y, refl)
  get_below (y ∷ ys) (suc i) below = get_below ys i (omega arith)

  pub below_get : (xs : List X) (i : ℕ) (x : X) → slice_get xs i ≡ Some x → i < length xs
  below_get [] i x is = absurd (let e : None ≡ Some x = is in cc)
  below_get (y ∷ ys) zero x is = omega arith
  below_get (y ∷ ys) (suc i) x is = let r = below_get ys i x is in omega arith

pub some_is : {X : Type 0} (x y : X) → Some x ≡ Some y → x ≡ y
some_is x y e = cc

module _ {H L : Type 0} where
  -- ---- one firing

  pub fires_is : (m : Model H L) (hosts : List H) (e : Event) (host : H) → slice_get hosts (m.home e) ≡ Some host
      → fires m hosts e ≡ with_host hosts (m.home e) (m.fire (m.home e) host e)
  fires_is m hosts e host is = ap (fires_at m hosts e) is

  length_at : (m : Model H L) (hosts : List H) (e : Event) (o : Option H) → length (fires_at m hosts e o).hosts ≡ length hosts
  length_at m hosts e None = refl
  length_at m hosts e (Some host) = length-set hosts (m.home e) (m.fire (m.home e) host e).host

  pub length_fires : (m : Model H L) (hosts : List H) (e : Event) → length (fires m hosts e).hosts ≡ length hosts
  length_fires m hosts e = length_at m hosts e (slice_get hosts (m.home e))

  other_at : (m : Model H L) (hosts : List H) (e : Event) (j : ℕ) (o : Option H) → j ≢ m.home e → slice_get (fires_at m hosts e o).hosts j ≡ slice_get hosts j
  other_at m hosts e j None other = refl
  other_at m hosts e j (Some host) other = get_set_other hosts (m.home e) j _ other

  -- the other hosts stay as they are
  pub fires_other : (m : Model H L) (hosts : List H) (e : Event) (j : ℕ) → j ≢ m.home e → slice_get (fires m hosts e).hosts j ≡ slice_get hosts j
  fires_other m hosts e j other = other_at m hosts e j (slice_get hosts (m.home e)) other

  -- ---- two firings at two homes

  made_at : (m : Model H L) (hosts others : List H) (e : Event) (o : Option H) → (fires_at m hosts e o).made ≡ (fires_at m others e o).made
  made_at m hosts others e None = refl
  made_at m hosts others e (Some host) = refl

  lines_at : (m : Model H L) (hosts others : List H) (e : Event) (o : Option H) → (fires_at m hosts e o).lines ≡ (fires_at m others e o).lines
  lines_at m hosts others e None = refl
  lines_at m hosts others e (Some host) = refl

  module _ (m : Model H L) (hosts others : List H) (e : Event) (same : slice_get hosts (m.home e) ≡ slice_get others (m.home e)) where
    pub made_same : (fires m hosts e).made ≡ (fires m others e).made
    made_same = made_at m hosts others e (slice_get hosts (m.home e)) ∙ ap (λ (o : Option H). (fires_at m others e o).made) same

    pub lines_same : (fires m hosts e).lines ≡ (fires m others e).lines
    lines_same = lines_at m hosts others e (slice_get hosts (m.home e)) ∙ ap (λ (o : Option H). (fires_at m others e o).lines) same

  hosts_either : (m : Model H L) (hosts : List H) (e f : Event) (o p : Option H) → m.home e ≢ m.home f
      → (fires_at m (fires_at m hosts e o).hosts f p).hosts ≡ (fires_at m (fires_at m hosts f p).hosts e o).hosts
  hosts_either m hosts e f None None differ = refl
  hosts_either m hosts e f None (Some q) differ = refl
  hosts_either m hosts e f (Some h) None differ = refl
  hosts_either m hosts e f (Some h) (Some q) differ = set_comm hosts (m.home e) (m.home f) _ _ differ

  -- the same hosts in either order
  pub fires_either : (m : Model H L) (hosts : List H) (e f : Event) → m.home e ≢ m.home f
      → (fires m (fires m hosts e).hosts f).hosts ≡ (fires m (fires m hosts f).hosts e).hosts
  fires_either m hosts e f differ =
      ap (λ (p : Option H). (fires_at m (fires m hosts e).hosts f p).hosts) (fires_other m hosts e (m.home f) (λ same. differ (sym same)))
      ∙ hosts_either m hosts e f (slice_get hosts (m.home e)) (slice_get hosts (m.home f)) differ
      ∙ ap (λ (o : Option H). (fires_at m (fires m hosts f).hosts e o).hosts) (sym (fires_other m hosts f (m.home e) differ))
