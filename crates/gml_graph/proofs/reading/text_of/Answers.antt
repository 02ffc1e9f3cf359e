use Rattle.std.proofs.Common.{ℕ, ◌≡◌, Bool, true, false, List, take, fold, Ok, Err, refl, sym, ◌∙◌}
use Rattle.std.specs.Str.{IsUtf8, is_utf8}
use Rattle.std.specs.Str.Lossy.{utf8_valid_len}
use Rattle.std.proofs.lemmas.Str.{is_utf8-from_IsUtf8, IsUtf8-from_is_utf8}
use Rattle.gml_graph.specs.declared.fault.GmlKind.TheVariants.{NotUtf8}
use Rattle.gml_graph.specs.Tokens.{next_line}
use Rattle.gml_graph.specs.Gml.{utf8_at}
use Rattle.gml_graph.proofs.reading.text_of.Goals as goal

utf8_at_is : (bs : List ℕ) → IsUtf8 bs → utf8_at bs ≡ Ok tt
utf8_at_is bs u = rw (is_utf8-from_IsUtf8 bs u) refl

not_utf8 : (bs : List ℕ) (b : Bool) → b ≡ is_utf8 bs → (IsUtf8 bs → ⊥) → is_utf8 bs ≡ false
not_utf8 bs false e none = sym e
not_utf8 bs true e none = absurd (none (IsUtf8-from_is_utf8 bs (sym e)))

broken_at : (bs : List ℕ) (line n : ℕ) → (IsUtf8 bs → ⊥) → n ≡ utf8_valid_len bs → line ≡ fold next_line 1 (take n bs) → utf8_at bs ≡ Err (record { line = line; kind = NotUtf8 })
broken_at bs line n none e l = rw (not_utf8 bs (is_utf8 bs) refl none, l, e) refl

pub returns-in-Ok : goal.returns-in-Ok
returns-in-Ok c = (c.in-Ok.ensures.cases.0, utf8_at_is c.args.bytes.now c.in-Ok.ensures.cases.1)

pub returns-in-Err : goal.returns-in-Err
returns-in-Err c = broken_at c.args.bytes.now c.line_behind.result c.valid_up_to.result c.in-Err.ensures.cases.0 (c.valid_up_to.ensures ∙ c.in-Err.ensures.valid_len) c.line_behind.ensures.value
