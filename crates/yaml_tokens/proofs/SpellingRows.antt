-- Scalars in quotes of the standard's own examples (YAML 1.2.2, examples 2.17, 5.13 and 7.7), as they are read and as
-- they are spelled.
use Rattle.std.specs.Prelude.{◌≡◌, ◌++◌, [], ◌∷◌, codes, refl}
use Rattle.std.specs.Char.{encode_utf8}
use Rattle.sim_base.specs.Ascii.{capital_a, line_feed, small_n, small_u, small_x}
use Rattle.yaml_tokens.specs.Scalars.{scalar_at, scan_of, single_quoted, double_len, unescaped}
use Rattle.yaml_tokens.specs.Spelling.{IsSingleQuoted, IsDoubleQuoted, Numbered, Escaped, number_behind}
use Rattle.yaml_tokens.specs.declared.odd.Odd.TheVariants as odd
use Rattle.yaml_tokens.specs.declared.scan.Scan.TheVariants.{Quoted, Refused}

-- a character by its number stands as UTF-8
smile : scalar_at (codes "\"Sosa did fine.\\u263A\"") ≡ Quoted (codes "Sosa did fine." ++ 0xE2 ∷ 0x98 ∷ 0xBA ∷ []) 22
unfolding scalar_at scan_of double_len unescaped encode_utf8
smile = refl

line_ends : scalar_at (codes "\"\\x0d\\x0a is \\r\\n\"") ≡ Quoted (codes "\r\n is \r\n") 18
unfolding scalar_at scan_of double_len unescaped encode_utf8
line_ends = refl

escapes : scalar_at (codes "\"\\\\ \\\" \\n \\r \\t \\0 \\x41 \\u0041\" # c") ≡ Quoted (codes "\\ \" \n \r \t " ++ 0 ∷ codes " A A") 31
unfolding scalar_at scan_of double_len unescaped encode_utf8
escapes = refl

howdy : scalar_at (codes "'\"Howdy!\" he cried.'") ≡ Quoted (codes "\"Howdy!\" he cried.") 20
unfolding scalar_at scan_of single_quoted
howdy = refl

no_comment : scalar_at (codes "' # Not a ''comment''.'") ≡ Quoted (codes " # Not a 'comment'.") 23
unfolding scalar_at scan_of single_quoted
no_comment = refl

tie_fighter : scalar_at (codes "'|\\-*-/|'") ≡ Quoted (codes "|\\-*-/|") 9
unfolding scalar_at scan_of single_quoted
tie_fighter = refl

here : scalar_at (codes "'here''s to \"quotes\"'") ≡ Quoted (codes "here's to \"quotes\"") 21
unfolding scalar_at scan_of single_quoted
here = refl

here_spelled : IsSingleQuoted (codes "'here''s to \"quotes\"'") (codes "here's to \"quotes\"") 21
here_spelled = record { rest = []; spelled = refl; closed = refl; counted = refl }

-- an escape of the standard's that the profile leaves out, and half a surrogate pair
bell : scalar_at (codes "\"\\a\"") ≡ Refused odd.Syntax
unfolding scalar_at scan_of double_len unescaped
bell = refl

half_a_pair : scalar_at (codes "\"\\ud83d\"") ≡ Refused odd.Syntax
unfolding scalar_at scan_of double_len unescaped
half_a_pair = refl

letters_spelled : IsDoubleQuoted (codes "\"\\x41\\u0041\\n\", b") (codes "AA\n") 14
unfolding number_behind encode_utf8
letters_spelled =
    record {
      parts = Numbered small_x (codes "41") capital_a ∷ Numbered small_u (codes "0041") capital_a ∷ Escaped small_n line_feed ∷ [];
      rest = codes ", b";
      each = ((refl, refl, refl), ((refl, refl, refl), (refl, tt)));
      spelled = refl;
      meant = refl;
      counted = refl;
    }
