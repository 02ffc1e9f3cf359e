-- What holds of each tree that a text has.
use Rattle.std.specs.Prelude.{◌≡◌, Bool, true, false}
use Rattle.std.specs.Str.{IsUtf8}
use Rattle.yaml_tree.specs.Said.{Said, has_key}
use Rattle.yaml_tree.specs.Said.Said.{null, text, unknown, sequence, mapping, with_item, with_pair}

-- the rows of a collection are items alone
abbrev pub are_items : Said → Bool
are_items (sequence line) = true
are_items (with_item before value) = are_items before
are_items _ = false

-- the rows of a collection are pairs alone
abbrev pub are_pairs : Said → Bool
are_pairs (mapping line) = true
are_pairs (with_pair before line key value) = are_pairs before
are_pairs _ = false

-- the rows of each collection are of one kind, no mapping has a key twice, and each text is UTF-8
abbrev pub IsPlain : Said → Type 0
IsPlain (null line) = Unit {0}
IsPlain (text line bytes) = IsUtf8 bytes
IsPlain (unknown line) = ⊥
IsPlain (sequence line) = Unit {0}
IsPlain (mapping line) = Unit {0}
IsPlain (with_item before value) = (are_items before ≡ true) × IsPlain before × IsPlain value
IsPlain (with_pair before line key value) = (are_pairs before ≡ true) × IsUtf8 key × (has_key key before ≡ false) × IsPlain before × IsPlain value
