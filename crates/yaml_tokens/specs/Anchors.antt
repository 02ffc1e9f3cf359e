-- Anchors of nodes: `&NAME` and `*NAME`, as this project's own profile of YAML 1.2 (6.9.2, 7.1) has them.
use Rattle.std.specs.Prelude.{ℕ, Bool, ◌&&◌, ◌||◌, not, List, ◌==◌, take, drop}
use Rattle.std.specs.List.{prefix_len}
use Rattle.std.specs.Char.{is_ascii_alphanumeric}
use Rattle.sim_base.specs.Ascii.{hyphen, underscore}
use Rattle.yaml_tokens.specs.Scalars.{is_nothing}

-- letters, digits, `_` and `-`
abbrev pub is_name_byte : ℕ → Bool
is_name_byte b = is_ascii_alphanumeric b || ((b == underscore) || (b == hyphen))

abbrev pub name_len : List ℕ → ℕ
name_len bytes = prefix_len is_name_byte bytes

abbrev pub name_at : List ℕ → List ℕ
name_at bytes = take (name_len bytes) bytes

abbrev pub after_name : List ℕ → List ℕ
after_name bytes = drop (name_len bytes) bytes

-- a name, and behind it what passes the test
abbrev pub has_name : (List ℕ → Bool) → List ℕ → Bool
has_name may_follow bytes = not (is_nothing (name_at bytes)) && may_follow (after_name bytes)
