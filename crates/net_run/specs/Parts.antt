-- What stands where, when only a part of it was put.
use Rattle.std.specs.Prelude.{◌≡◌, ℕ, List, ◌++◌, ◌⊎◌, Option, Some, None}
use Rattle.run_outside.specs.Sink.{Content}

-- bytes that stood there before are followed by some, and the whole by the rest
pub record IsBetween (old new whole : List ℕ) : Type 0 where
  pub added : List ℕ
  pub rest : List ℕ
  pub new_is : new ≡ old ++ added
  pub whole_is : whole ≡ new ++ rest

-- a file that is there holds a front of what the whole has
abbrev pub IsFrontOf : Option (List ℕ) → Option (List ℕ) → Type 0
IsFrontOf None whole = Unit {0}
IsFrontOf (Some bytes) whole = (rest : List ℕ) × (whole ≡ Some (bytes ++ rest))

-- each target holds what it held and a front of what the whole adds there. Directory and files are either as they were,
-- or the directory was begun and each of its files is one of the whole's
pub record IsPart (old new whole : Content) : Type 0 where
  pub out : IsBetween old.out new.out whole.out
  pub err : IsBetween old.err new.err whole.err
  pub files : ((new.there ≡ old.there) × (new.files ≡ old.files))
      ⊎ ((new.there ≡ whole.there) × ((name : List ℕ) → IsFrontOf (new.files name) (whole.files name)))

-- bytes are followed by the rest of others
pub record IsPrefix (xs ys : List ℕ) : Type 0 where
  pub rest : List ℕ
  pub whole : ys ≡ xs ++ rest

-- each target has what it had, and perhaps more
pub record Grows (old new : Content) : Type 0 where
  pub there : new.there ≡ old.there
  pub out : IsPrefix old.out new.out
  pub err : IsPrefix old.err new.err
  pub files : (name : List ℕ) → IsFrontOf (old.files name) (new.files name)

-- what stands now is an old content that grew, and a whole is what stands now, grown
pub record Between (old : Content) (new : Option Content) (whole : Content) : Type 0 where
  pub now : Content
  pub now_is : new ≡ Some now
  pub grown : Grows old now
  pub rest : Grows now whole
