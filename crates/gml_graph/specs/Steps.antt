-- Reading step by step: a value, or the first fault.
use Rattle.std.specs.Prelude.{◌≡◌, ℕ, List, [], ◌∷◌, Result, Ok, Err}
use Rattle.sim_base.specs.Refusals.{◌>>=◌}
use Rattle.gml_graph.specs.declared.fault.GmlKind.{GmlKind}
use Rattle.gml_graph.specs.declared.fault.GmlFault.{GmlFault}
use Rattle.gml_graph.specs.declared.fault.GmlError.{GmlError}
use Rattle.gml_graph.specs.declared.fault.GmlError.TheVariants as errors

-- a step for each item, from the left on, up to the first fault
abbrev pub through : {S A : Type 0} → (S → A → Result S GmlFault) → S → List A → Result S GmlFault
through step s [] = Ok s
through step s (x ∷ xs) = step s x >>= λ next. through step next xs

abbrev pub refused : {A : Type 0} → GmlKind → ℕ → Result A GmlFault
refused kind line = Err (record { line = line; kind = kind })

-- What a call returned, seen by view, is what was read, unless memory ran out.
abbrev pub Fails : {Y : Type 0} → GmlError → Result Y GmlFault → Type 0
Fails errors.NoMemory read = Unit {0}
Fails (errors.Fault f) read = read ≡ Err f

abbrev pub Gives : {X Y : Type 0} → (X → Y) → Result X GmlError → Result Y GmlFault → Type 0
Gives view (Ok x) read = read ≡ Ok (view x)
Gives view (Err e) read = Fails e read

abbrev pub Sees : {X Y : Type 0} → (X → Y) → Result X GmlFault → Result Y GmlFault → Type 0
Sees view (Ok x) read = read ≡ Ok (view x)
Sees view (Err f) read = read ≡ Err f
