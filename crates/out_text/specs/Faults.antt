-- The lines of the error stream (this project's own profile), one definition for each of them.
use Rattle.std.specs.Prelude.{ℕ, List, ◌++◌, Option, Some, None, option_map, Bool, true, false, codes}
use Rattle.std.specs.Fmt.{decimal}
use Rattle.out_text.specs.Files.{state_text, process_text}
use Rattle.out_text.specs.declared.faults.FaultText.{FaultText}
use Rattle.out_text.specs.declared.faults.FaultText.TheVariants.{Usage, BadOption, File, At, NoRoute, Unmet}

abbrev pub usage_line : List ℕ
usage_line = codes "shadow: usage: shadow [options] CONFIG\n"

-- shadow: --NAME: bad value
abbrev pub bad_option_line : List ℕ → List ℕ
bad_option_line name = codes "shadow: --" ++ (name ++ codes ": bad value\n")

-- shadow: FILE: WHAT
abbrev pub file_line : List ℕ → List ℕ → List ℕ
file_line file what = codes "shadow: " ++ (file ++ (codes ": " ++ (what ++ codes "\n")))

-- FILE, or FILE: graph for a graph that stands inside the configuration FILE
abbrev pub text_name : List ℕ → Bool → List ℕ
text_name file true = file ++ codes ": graph"
text_name file false = file

-- WHAT, or PATH: WHAT
abbrev pub told_at : Option (List ℕ) → List ℕ → List ℕ
told_at None what = what
told_at (Some path) what = path ++ (codes ": " ++ what)

-- shadow: FILE:LINE: WHAT
abbrev pub at_line : List ℕ → ℕ → List ℕ → List ℕ
at_line file line told = codes "shadow: " ++ (file ++ (codes ":" ++ (decimal line ++ (codes ": " ++ (told ++ codes "\n")))))

-- shadow: no route from node A to node B
abbrev pub no_route_line : ℕ → ℕ → List ℕ
no_route_line from to = codes "shadow: no route from node " ++ (decimal from ++ (codes " to node " ++ (decimal to ++ codes "\n")))

-- shadow: HOST/PROGRAM.PID: STATE, expected STATE
abbrev pub unmet_line : List ℕ → List ℕ → List ℕ → List ℕ
unmet_line process state expected = codes "shadow: " ++ (process ++ (codes ": " ++ (state ++ (codes ", expected " ++ (expected ++ codes "\n")))))

-- shadow: note: PATH has no effect
abbrev pub note_line : List ℕ → List ℕ
note_line path = codes "shadow: note: " ++ (path ++ codes " has no effect\n")

-- the line that tells a fault of the input, or an expectation that wasn't met
abbrev pub fault_line : FaultText → List ℕ
fault_line Usage = usage_line
fault_line (BadOption name) = bad_option_line name.now
fault_line (File file what) = file_line file.now what.now
fault_line (At file inline line path what) = at_line (text_name file.now inline) line (told_at (option_map (λ p. p.now) path) what.now)
fault_line (NoRoute from to) = no_route_line from to
fault_line (Unmet host program pid state expected) = unmet_line (process_text host.now program.now pid) (state_text state) (state_text expected)
