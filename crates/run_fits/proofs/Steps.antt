-- what holds of the answers of steps, of which each may refuse
use Rattle.std.proofs.Common.{Err, IfSome, None, Ok, Option, Result, Some, refl, subst, ◌≡◌}
use Rattle.sim_base.specs.Refusals.{or_refuse, ◌>>=◌, ◌>>◌}

-- of what is answered this holds
abbrev pub Gives : {A E : Type 0} → (A → Type 0) → Result A E → Type 0
Gives P (Ok a) = P a
Gives P (Err why) = Unit {0}

pub given : {A E : Type 0} (P : A → Type 0) (found : Option A) (why : E) → IfSome found P → Gives P (or_refuse found why)
given P None why h = tt
given P (Some a) why h = h

pub told : {A E : Type 0} (P : A → Type 0) (r : Result A E) (a : A) → Gives P r → r ≡ Ok a → P a
told P (Ok b) a h e = let same : b ≡ a = cc in subst P same h
told P (Err why) a h e = absurd (cc)

-- one step behind another, and the last one
pub steps : {A B E : Type 0} (P : B → Type 0) (first : Result A E) (next : A → Result B E) → ((a : A) → first ≡ Ok a → Gives P (next a)) → Gives P (first >>= next)
steps P (Ok a) next h = h a refl
steps P (Err why) next h = tt

pub tries : {B E : Type 0} (P : B → Type 0) (first : Result (Unit {0}) E) (next : Result B E) → Gives P next → Gives P (first >> next)
tries P (Ok u) next h = h
tries P (Err why) next h = tt

-- a step of which something is known
pub knows : {A B E : Type 0} (Q : A → Type 0) (P : B → Type 0) (first : Result A E) (next : A → Result B E) → Gives Q first → ((a : A) → Q a → Gives P (next a)) → Gives P (first >>= next)
knows Q P (Ok a) next g h = h a g
knows Q P (Err why) next g h = tt
