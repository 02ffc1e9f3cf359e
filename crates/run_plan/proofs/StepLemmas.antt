-- Steps one after another.
use Rattle.std.proofs.Common.{◌≡◌, List, [], ◌∷◌, ◌++◌, append_assoc, Option, Some, None, refl, sym, ap, inl, inr}
use Rattle.std.specs.Prelude.{IfSome, Result, Ok, Err}
use Rattle.sim_base.specs.Refusals as refusals
use Rattle.run_plan.specs.Reading.{Reading, Stops, Meets, gives, ◌>>=◌}
use Rattle.run_plan.specs.declared.fault.Fault.{Fault}
use Rattle.run_plan.specs.declared.fault.ReadStop.{ReadStop}
use Rattle.run_plan.specs.declared.fault.ReadStop.TheVariants.{Refused, ReadFailed, NoMemory}

-- ---- what a told source gives

pub when_told : {A : Type 0} {P Q : A → Type 0} (o : Option A) → ((a : A) → P a → Q a) → IfSome o P → IfSome o Q
when_told None f h = tt
when_told (Some a) f h = f a h

pub when_both : {A : Type 0} {P Q R : A → Type 0} (o : Option A) → ((a : A) → P a → Q a → R a) → IfSome o P → IfSome o Q → IfSome o R
when_both None f h k = tt
when_both (Some a) f h k = f a h k

pub always_told : {A : Type 0} {P : A → Type 0} (o : Option A) → ((a : A) → P a) → IfSome o P
always_told None f = tt
always_told (Some a) f = f a

-- ---- steps

-- the first part stops
pub stops_first : {A B : Type 0} (first : Reading A) (next : A → Reading B) (stop : ReadStop) → Stops first stop → Stops (first >>= next) stop
stops_first first next (Refused fault) h = inl h
stops_first first next (ReadFailed name) h = inl h
stops_first first next NoMemory h = tt

-- the first part gave a value, and the next one stops
pub stops_next : {A B : Type 0} (first : Reading A) (next : A → Reading B) (a : A) (stop : ReadStop) → first.answers (Ok a) → Stops (next a) stop → Stops (first >>= next) stop
stops_next first next a (Refused fault) h k = inr (a, h, k)
stops_next first next a (ReadFailed name) h k = inr (a, h, k)
stops_next first next a NoMemory h k = tt

-- the first part gave a value, and the next one answers so
pub goes_on : {A B C : Type 0} (view : C → B) (first : Reading A) (next : A → Reading B) (a : A) (result : Result C ReadStop)
    → first.answers (Ok a) → Meets view (next a) result → Meets view (first >>= next) result
goes_on view first next a (Ok c) h k = (a, h, k)
goes_on view first next a (Err stop) h k = stops_next first next a stop h k

-- a function stops where its part does
pub stops : {A B : Type 0} (part : Result A Fault) (whole : Result B Fault) (stop : ReadStop)
    → ((f : Fault) → part ≡ Err f → whole ≡ Err f) → Stops (gives part) stop → Stops (gives whole) stop
stops part whole (Refused fault) h k = h fault k
stops part whole (ReadFailed name) h k = k
stops part whole NoMemory h k = tt

-- ---- lists that are read item by item

-- the items stand before those of the rest
abbrev pub ahead : {A E : Type 0} → List A → Result (List A) E → Result (List A) E
ahead xs (Ok ys) = Ok (xs ++ ys)
ahead xs (Err stop) = Err stop

pub ahead_more : {A E : Type 0} (xs : List A) (x : A) (rest : Result (List A) E) → ahead xs (ahead (x ∷ []) rest) ≡ ahead (xs ++ x ∷ []) rest
ahead_more xs x (Ok ys) = ap Ok (sym (append_assoc xs (x ∷ []) ys))
ahead_more xs x (Err stop) = refl

pub ahead_then : {A E : Type 0} (x : A) (rest : Result (List A) E) → refusals.◌>>=◌ rest (λ ys. Ok (x ∷ ys)) ≡ ahead (x ∷ []) rest
ahead_then x (Ok ys) = refl
ahead_then x (Err stop) = refl
