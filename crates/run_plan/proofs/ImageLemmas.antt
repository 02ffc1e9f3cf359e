-- Images that are read one after another.
use Rattle.std.proofs.Common.{◌≡◌, List, [], ◌∷◌, ◌++◌, ◌+◌, ◌≤◌, ℕ, length, drop, append_assoc, refl, sym, subst}
use Rattle.std.proofs.lemmas.List.{at_drop_all, append-nil}
use Rattle.std.specs.Prelude.{Ok}
use Rattle.elf_load.specs.ProgramImage.{ProgramImage}
use Rattle.run_outside.specs.Files.{Held}
use Rattle.run_plan.specs.File.{reads}
use Rattle.run_plan.specs.Program.{program}
use Rattle.run_plan.specs.Programs.{images}
use Rattle.run_plan.specs.Reading.{Reading, gives, Stops, ◌>>=◌}
use Rattle.run_plan.specs.declared.fault.ReadStop.{ReadStop}
use Rattle.run_plan.proofs.StepLemmas.{stops_first, stops_next}

-- the images of the others behind the first one
abbrev pub with_first : Held → List (List ℕ) → ProgramImage → Reading (List ProgramImage)
with_first held others first = images held others >>= (λ rest. gives (Ok (first ∷ rest)))

-- ---- the loop over paths, which comes to the one at i with these images

module _ (held : Held) (paths : List (List ℕ)) where
  -- what is answered of the rest is answered of all
  pub record AreBehind (i : ℕ) (all : List ProgramImage) : Type 0 where
    pub rest : (ys : List ProgramImage) → (images held (drop i paths)).answers (Ok ys) → (images held paths).answers (Ok (all ++ ys))
    pub stops : (stop : ReadStop) → Stops (images held (drop i paths)) stop → Stops (images held paths) stop

  pub none_behind : AreBehind 0 []
  none_behind = record { rest = λ ys h. h; stops = λ stop h. h }

  module _ (i : ℕ) (all : List ProgramImage) (inv : AreBehind i all) where
    pub image_stops : (path : List ℕ) (stop : ReadStop) → drop i paths ≡ path ∷ drop (i + 1) paths → Stops (reads path (program held path)) stop → Stops (images held paths) stop
    image_stops path stop at h =
        inv.stops stop (subst (λ (ps : List (List ℕ)). Stops (images held ps) stop) (sym at) (stops_first (reads path (program held path)) (with_first held (drop (i + 1) paths)) stop h))

    pub image_read : (path : List ℕ) (image : ProgramImage) → drop i paths ≡ path ∷ drop (i + 1) paths → program held path ≡ Ok image → AreBehind (i + 1) (all ++ image ∷ [])
    image_read path image at h = record {
      rest = λ ys k.
          subst (λ (zs : List ProgramImage). (images held paths).answers (Ok zs)) (sym (append_assoc all (image ∷ []) ys))
          (inv.rest (image ∷ ys) (subst (λ (ps : List (List ℕ)). (images held ps).answers (Ok (image ∷ ys))) (sym at) (image, h, (ys, k, refl))));
      stops = λ stop k.
          inv.stops stop (subst (λ (ps : List (List ℕ)). Stops (images held ps) stop) (sym at)
          (stops_next (reads path (program held path)) (with_first held (drop (i + 1) paths)) image stop h
          (stops_first (images held (drop (i + 1) paths)) (λ rest. gives (Ok (image ∷ rest))) stop k)));
    }

    pub images_end : length paths ≤ i → (images held paths).answers (Ok all)
    images_end h =
        subst (λ (xs : List ProgramImage). (images held paths).answers (Ok xs)) (append-nil all)
        (inv.rest [] (subst (λ (ps : List (List ℕ)). (images held ps).answers (Ok [])) (sym (at_drop_all (λ (ps : List (List ℕ)). ps) paths i h)) refl))
