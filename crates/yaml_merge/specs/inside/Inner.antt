-- What an owned node says.
use Rattle.std.specs.Prelude.{ℕ, Bool, true, false, List, [], Option, Some, None}
use Rattle.std.specs.List.{flat_map}
use Rattle.yaml_tree.specs.Said.{Said}
use Rattle.yaml_tree.specs.Said.Said.{null, text, sequence, mapping}
use Rattle.yaml_merge.specs.Rows.{with_items, with_pairs}
use Rattle.yaml_merge.specs.Sources.{pairs_of}
use Rattle.yaml_merge.specs.declared.plain.Inner.{Inner}
use Rattle.yaml_merge.specs.declared.plain.Inner.TheVariants.{Null, Text, Sequence, Mapping}
use Rattle.yaml_merge.specs.declared.plain.Pair.{Pair}

abbrev pub said_of : ℕ → Inner → Said
said_of line Null = null line
said_of line (Text t) = text line t
said_of line (Sequence v) = with_items (sequence line) v.items
said_of line (Mapping v) = with_pairs (mapping line) v.items

abbrev pub null_inside : Inner → Bool
null_inside Null = true
null_inside (Text t) = false
null_inside (Sequence v) = false
null_inside (Mapping v) = false

abbrev pub text_inside : Inner → Option (List ℕ)
text_inside Null = None
text_inside (Text t) = Some t
text_inside (Sequence v) = None
text_inside (Mapping v) = None

abbrev pub items_inside : Inner → Option (List Said)
items_inside Null = None
items_inside (Text t) = None
items_inside (Sequence v) = Some v.items
items_inside (Mapping v) = None

abbrev pub pairs_inside : Inner → Option (List Pair)
pairs_inside Null = None
pairs_inside (Text t) = None
pairs_inside (Sequence v) = None
pairs_inside (Mapping v) = Some v.items

abbrev pub pairs_held : Inner → List Pair
pairs_held Null = []
pairs_held (Text t) = []
pairs_held (Sequence v) = []
pairs_held (Mapping v) = v.items

abbrev pub sources_held : Inner → List Pair
sources_held Null = []
sources_held (Text t) = []
sources_held (Sequence v) = flat_map pairs_of v.items
sources_held (Mapping v) = v.items
