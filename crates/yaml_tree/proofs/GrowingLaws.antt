-- The entries that rows make, put in one after another.
use Rattle.std.proofs.Common.{◌≡◌, ℕ, Bool, true, false, cond, List, [], ◌∷◌, ◌++◌, length, refl, ap, sym, ◌∙◌, arith, eqb-true}
use Rattle.std.specs.Prelude.{◌==◌, ◌||◌, ◌↔◌, IsTrue}
use Rattle.std.specs.List.{list_any}
use Rattle.std.specs.Cmp.Lexicographic.{pointwise}
use Rattle.std.proofs.lemmas.Bool.{false≢true}
use Rattle.indexmap.specs.IndexMap.{insert_all}
use Rattle.yaml_tree.specs.Entries.{has_key, with_entry}
use Rattle.yaml_tree.specs.declared.entries.Child.{Child}
use Rattle.yaml_tree.proofs.KnownLaws.{has_key_with_entry}

-- one row more is one entry more
pub one_row_more : (entries rows : List (List ℕ × Child)) (key : List ℕ) (child : Child) → insert_all (pointwise ◌==◌) entries (rows ++ (key, child) ∷ []) ≡ with_entry (insert_all (pointwise ◌==◌) entries rows) key child
one_row_more entries [] key child = refl
one_row_more entries (row ∷ rows) key child = one_row_more (with_entry entries row.0 row.1) rows key child

any_more : (a b c : Bool) → (a || b || c) ≡ (a || (b || c))
any_more true b c = refl
any_more false b c = refl

nothing_more : (a : Bool) → a ≡ (a || false)
nothing_more true = refl
nothing_more false = refl

-- a key has an entry where it had one, and where a row has it
has_key_insert_all : (key : List ℕ) (entries rows : List (List ℕ × Child)) → has_key key (insert_all (pointwise ◌==◌) entries rows) ≡ (has_key key entries || list_any (λ row. pointwise ◌==◌ key row.0) rows)
has_key_insert_all key entries [] = nothing_more (has_key key entries)
has_key_insert_all key entries (row ∷ rows) = has_key_insert_all key (with_entry entries row.0 row.1) rows
    ∙ (ap (λ t. t || list_any (λ other. pointwise ◌==◌ key other.0) rows) (has_key_with_entry key row.0 entries row.1)
    ∙ any_more (has_key key entries) (pointwise ◌==◌ key row.0) (list_any (λ other. pointwise ◌==◌ key other.0) rows))

pub key_of_rows : (key : List ℕ) (rows : List (List ℕ × Child)) → has_key key (insert_all (pointwise ◌==◌) [] rows) ≡ list_any (λ row. pointwise ◌==◌ key row.0) rows
key_of_rows key rows = has_key_insert_all key [] rows

-- some rows are some entries
stays_filled : (entry : List ℕ × Child) (entries rows : List (List ℕ × Child)) → insert_all (pointwise ◌==◌) (entry ∷ entries) rows ≡ [] → ⊥
stays_filled entry entries [] e = absurd (omega (arith, ap length e))
stays_filled entry entries (row ∷ rows) e = by (pointwise ◌==◌ row.0 entry.0) (stays_filled (entry.0, row.1) entries rows) (stays_filled entry (with_entry entries row.0 row.1) rows) e
  where
    by : (t : Bool) → (insert_all (pointwise ◌==◌) ((entry.0, row.1) ∷ entries) rows ≡ [] → ⊥) → (insert_all (pointwise ◌==◌) (entry ∷ with_entry entries row.0 row.1) rows ≡ [] → ⊥) →
        insert_all (pointwise ◌==◌) (cond t ((entry.0, row.1) ∷ entries) (entry ∷ with_entry entries row.0 row.1)) rows ≡ [] → ⊥
    by true f g = f
    by false f g = g

-- there are no entries exactly where there are no rows
pub empty_as_rows : (rows : List (List ℕ × Child)) (none : Bool) (entries : List (List ℕ × Child)) → insert_all (pointwise ◌==◌) [] rows ≡ entries → none ≡ (length rows == 0) → (IsTrue none ↔ entries ≡ [])
empty_as_rows [] true entries view h = (λ _. sym view, λ _. refl)
empty_as_rows [] false entries view h = absurd (false≢true h)
empty_as_rows (row ∷ rows) true entries view h = absurd (omega (arith, eqb-true (length (row ∷ rows)) 0 (sym h)))
empty_as_rows (row ∷ rows) false entries view h = (λ t. absurd (false≢true t), λ e. absurd (stays_filled row [] rows (view ∙ e)))
