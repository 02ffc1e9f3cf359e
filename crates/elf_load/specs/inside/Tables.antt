-- What the tables of an index of pages hold.
use Rattle.std.specs.Prelude.{◌≡◌, refl, ℕ, ◌+◌, ◌*◌, ◌^◌, ◌/◌, ◌%◌, ◌<◌, ◌≤◌, List, length, if◌then◌else◌, ◌==◌, slice_index, Some, None, Option}

-- the tables of a root, and the entries of a table: together as many as there are page numbers
abbrev pub root_size : ℕ
root_size = 1024

abbrev pub table_size : ℕ
table_size = 1024

sizes_fill : root_size * table_size ≡ 2 ^ 20
sizes_fill = refl

-- the entry that says that there is no place
abbrev pub no_place : ℕ
no_place = 65535

-- what an entry says
abbrev pub place_kept : ℕ → Option ℕ
place_kept place = if place == no_place then None else Some place

-- where the entry of a page number stands: the tables stand one behind another, and the root has the one of each table_size numbers
abbrev pub entry_place : List ℕ → ℕ → ℕ
entry_place root n = slice_index root (n / table_size) * table_size + n % table_size

-- What is kept of a root and its tables: the root's are there, the first one is blank, and any other stands once in the root.
pub record AreTables (root places : List ℕ) : Type 0 where
  pub whole : length root ≡ root_size
  pub even : length places % table_size ≡ 0
  pub each_in : (i : ℕ) → i < root_size → slice_index root i * table_size + table_size ≤ length places
  pub blank : (k : ℕ) → k < table_size → slice_index places k ≡ no_place
  pub own : (i j : ℕ) → i < root_size → j < root_size → 0 < slice_index root i → slice_index root i ≡ slice_index root j → i ≡ j
