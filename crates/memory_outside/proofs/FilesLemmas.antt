-- files kept in a map, after a change of the map
use Rattle.std.proofs.Common.{◌≡◌, ℕ, Bool, true, false, cond, List, [], ◌++◌, Option, Some, String, Vec, option_map, unwrap_or, refl, sym, ap, ◌∙◌, string_bytes}
use Rattle.std.specs.Cmp.Lexicographic.{slice_cmp}
use Rattle.std.specs.Ordering.{nat_cmp}
use Rattle.std.specs.Str.{bytes_eq}
use Rattle.std.specs.String.{string_cmp}
use Rattle.std.specs.BTreeMap.{BTreeMap, UpdatesBy, IsEmpty, IsUnchanged, is_at, get_by_text}
use Rattle.std.specs.Map.{lookup}
use Rattle.std.proofs.lemmas.Map.Text.{btree_map_updates_text}
use Rattle.std.proofs.lemmas.Slice.Eq.{bytes_eq-Decides}
use Rattle.run_outside.specs.Files.{Held, no_files, with_file, add_to_file}
use Rattle.memory_outside.specs.Files.{files_of}

-- the files of a map's entries
abbrev pub of_entries : {Y Z : Type 0} → List (String Y × Vec ℕ Z) → Held
of_entries es name = option_map (λ v. v.items) (lookup (is_at (λ k. slice_cmp nat_cmp name (string_bytes k))) es)

pub files_of_empty : {Y Z : Type 0} (m : BTreeMap (String Y) (Vec ℕ Z)) → IsEmpty m → files_of m ≡ no_files
files_of_empty m e = ap of_entries e

pub files_of_unchanged : {Y Z : Type 0} (old new : BTreeMap (String Y) (Vec ℕ Z)) → IsUnchanged old new → files_of new ≡ files_of old
files_of_unchanged old new e = ap of_entries e

module _ {Y Z : Type 0} (name : List ℕ) (old new : BTreeMap (String Y) (Vec ℕ Z)) (v : Vec ℕ Z)
    (u : UpdatesBy string_cmp (λ k. slice_cmp nat_cmp name (string_bytes k)) old new (Some v)) where
  chosen : (b : Bool) (x y : Option (Vec ℕ Z)) → option_map (λ (w : Vec ℕ Z). w.items) (cond b x y) ≡ cond b (option_map (λ (w : Vec ℕ Z). w.items) x) (option_map (λ (w : Vec ℕ Z). w.items) y)
  chosen true x y = refl
  chosen false x y = refl

  -- what stands at each name
  pub at_name : (other : List ℕ) → files_of new other ≡ cond (bytes_eq name other) (Some v.items) (files_of old other)
  at_name other =
      ap (option_map (λ (w : Vec ℕ Z). w.items)) (btree_map_updates_text name old new (Some v) u other)
      ∙ chosen (bytes_eq name other) (Some v) (get_by_text old other)

  -- the file was put
  pub files_of_with_file : files_of new ≡ with_file name v.items (files_of old)
  files_of_with_file = λ i other. at_name other i

  -- a file's bytes are what they were with a piece more
  pub files_of_add_to_file : (piece : List ℕ) → v.items ≡ unwrap_or (files_of old name) [] ++ piece → files_of new ≡ add_to_file name piece (files_of old)
  files_of_add_to_file piece e = λ i other. (at_name other ∙ more other (bytes_eq name other) refl) i where
    more : (other : List ℕ) (b : Bool) → bytes_eq name other ≡ b → cond b (Some v.items) (files_of old other) ≡ cond b (Some (unwrap_or (files_of old other) [] ++ piece)) (files_of old other)
    more other true t = ap Some (e ∙ ap (λ n. unwrap_or (files_of old n) [] ++ piece) ((bytes_eq-Decides name other).0 t))
    more other false t = refl

  -- a file's bytes are what they were
  pub files_of_same : files_of old name ≡ Some v.items → files_of new ≡ files_of old
  files_of_same e = λ i other. (at_name other ∙ kept other (bytes_eq name other) refl) i where
    kept : (other : List ℕ) (b : Bool) → bytes_eq name other ≡ b → cond b (Some v.items) (files_of old other) ≡ files_of old other
    kept other true t = sym e ∙ ap (files_of old) ((bytes_eq-Decides name other).0 t)
    kept other false t = refl
