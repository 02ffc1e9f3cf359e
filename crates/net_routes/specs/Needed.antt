-- Which routes hosts need. A list of nodes has the node of each host.
use Rattle.std.specs.Prelude.{◌≡◌, ◌≢◌, ℕ, ◌<◌, List, length, slice_index}

-- the element at an index
pub record IsAt (xs : List ℕ) (i x : ℕ) : Type 0 where
  pub within : i < length xs
  pub is : slice_index xs i ≡ x

-- One host is on a, and another one is on b.
pub record IsNeeded (nodes : List ℕ) (a b : ℕ) : Type 0 where
  pub first : ℕ
  pub second : ℕ
  pub others : first ≢ second
  pub from : IsAt nodes first a
  pub to : IsAt nodes second b
