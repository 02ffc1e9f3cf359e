-- Flow forms that are read piece by piece, and the first pieces that can't stand.
use Rattle.std.proofs.Common.{◌≡◌, true, false, [], ◌∷◌, Some, None, codes, refl}
use Rattle.yaml_tokens.specs.declared.piece.Bracket.TheVariants.{Square, Curly}
use Rattle.yaml_tokens.specs.declared.piece.Piece.TheVariants.{Opening, Closing, Comma, CellKey, CellScalar, CellAnchor, CellAlias}
use Rattle.yaml_tree.specs.Flows.{spelling}
use Rattle.yaml_tree.specs.Flows.Flow.{absent, word, called, item, pair, form}
use Rattle.yaml_tree.proofs.Shapes.{with_pieces}
use Rattle.yaml_tree.proofs.Shapes.Shape.{start, done}

-- `[b, c]`
items_read : with_pieces (spelling (form Square (item (item (absent) (word (CellScalar (Some (codes "b"))))) (word (CellScalar (Some (codes "c"))))) false)) start ≡ Some (done (form Square (item (item (absent) (word (CellScalar (Some (codes "b"))))) (word (CellScalar (Some (codes "c"))))) false))
items_read = refl

-- `{a: [], b: {}, }`
empty_read : with_pieces (spelling (form Curly (pair (pair (absent) (CellKey (codes "a")) (form Square (absent) false)) (CellKey (codes "b")) (form Curly (absent) false)) true)) start ≡ Some (done (form Curly (pair (pair (absent) (CellKey (codes "a")) (form Square (absent) false)) (CellKey (codes "b")) (form Curly (absent) false)) true))
empty_read = refl

-- `[[a], {b: [c, ]}]`
nested_read : with_pieces (spelling (form Square (item (item (absent) (form Square (item (absent) (word (CellScalar (Some (codes "a"))))) false)) (form Curly (pair (absent) (CellKey (codes "b")) (form Square (item (absent) (word (CellScalar (Some (codes "c"))))) true)) false)) false)) start ≡ Some (done (form Square (item (item (absent) (form Square (item (absent) (word (CellScalar (Some (codes "a"))))) false)) (form Curly (pair (absent) (CellKey (codes "b")) (form Square (item (absent) (word (CellScalar (Some (codes "c"))))) true)) false)) false))
nested_read = refl

-- `[&x, *x, &y {a: &z}]`
names_read : with_pieces (spelling (form Square (item (item (item (absent) (called (CellAnchor (codes "x")) (absent))) (word (CellAlias (codes "x")))) (called (CellAnchor (codes "y")) (form Curly (pair (absent) (CellKey (codes "a")) (called (CellAnchor (codes "z")) (absent))) false))) false)) start ≡ Some (done (form Square (item (item (item (absent) (called (CellAnchor (codes "x")) (absent))) (word (CellAlias (codes "x")))) (called (CellAnchor (codes "y")) (form Curly (pair (absent) (CellKey (codes "a")) (called (CellAnchor (codes "z")) (absent))) false))) false))
names_read = refl

-- `[a,,`
two_commas : with_pieces (Opening Square ∷ CellScalar (Some (codes "a")) ∷ Comma ∷ Comma ∷ []) start ≡ None
two_commas = refl

-- `[,`
comma_first : with_pieces (Opening Square ∷ Comma ∷ []) start ≡ None
comma_first = refl

-- `{a: }`
key_without_value : with_pieces (Opening Curly ∷ CellKey (codes "a") ∷ Closing Curly ∷ []) start ≡ None
key_without_value = refl

-- `{a`
scalar_for_a_key : with_pieces (Opening Curly ∷ CellScalar (Some (codes "a")) ∷ []) start ≡ None
scalar_for_a_key = refl

-- `[a: `
key_for_an_item : with_pieces (Opening Square ∷ CellKey (codes "a") ∷ []) start ≡ None
key_for_an_item = refl

-- `[a}`
other_bracket : with_pieces (Opening Square ∷ CellScalar (Some (codes "a")) ∷ Closing Curly ∷ []) start ≡ None
other_bracket = refl

-- `[&x &y`
two_names : with_pieces (Opening Square ∷ CellAnchor (codes "x") ∷ CellAnchor (codes "y") ∷ []) start ≡ None
two_names = refl

-- `[&x *y`
named_alias : with_pieces (Opening Square ∷ CellAnchor (codes "x") ∷ CellAlias (codes "y") ∷ []) start ≡ None
named_alias = refl
