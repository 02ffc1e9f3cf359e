-- both sides of a test
use Rattle.std.proofs.Common.{◌≡◌, Bool, true, false, if◌then◌else◌, refl}

pub by_test : {A : Type 0} (P : A → Type 0) (b : Bool) (x y : A) → (b ≡ true → P x) → (b ≡ false → P y) → P (if b then x else y)
by_test P true x y then_case else_case = then_case refl
by_test P false x y then_case else_case = else_case refl

pub by_tests : {A B : Type 0} (P : A → B → Type 0) (b : Bool) (x y : A) (u v : B) → (b ≡ true → P x u) → (b ≡ false → P y v) → P (if b then x else y) (if b then u else v)
by_tests P true x y u v then_case else_case = then_case refl
by_tests P false x y u v then_case else_case = else_case refl
