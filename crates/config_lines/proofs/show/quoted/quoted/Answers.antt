use Rattle.std.proofs.Common.{◌≡◌, ℕ, ◌++◌, List, [], ◌∷◌, map, refl, sym, ap, ◌∙◌, append_assoc, string_bytes, codes, flat_map}
use Rattle.std.proofs.lemmas.Iterator.{YieldsList-from_chars}
use Rattle.std.proofs.lemmas.Iterator.Consumers.{YieldsList-end}
use Rattle.std.specs.Str.{chars}
use Rattle.config_lines.specs.Quoted.{escaped, quoted}
use Rattle.config_lines.proofs.show.quoted.quoted.Goals as goal

same_map : (xs : List ℕ) → map (λ x. x) xs ≡ xs
same_map [] = refl
same_map (x ∷ xs) = ap (λ rest. x ∷ rest) (same_map xs)

pub returns : goal.returns
unfolding quoted
returns c =
    let t = YieldsList-end (YieldsList-from_chars c.args.text.now c.utf8.text cc) c.loop-character.yielded _ c.loop-character.yielded_by _ _ c.in-None.is c.next.ensures.steps in
    let all : c.loop-character.yielded ≡ chars c.args.text.now = sym (same_map c.loop-character.yielded) ∙ t.0 in
    let written : string_bytes c.push_str.new.self ≡ string_bytes c.loop-character.out ++ codes "\"" = cc (c.in_ok-push_str.ensures.bytes) in
    written
    ∙ (ap (λ s. s ++ codes "\"") c.loop-character.invariant
    ∙ (append_assoc (codes "\"") (flat_map escaped c.loop-character.yielded) (codes "\"")
    ∙ ap (λ cs. codes "\"" ++ (flat_map escaped cs ++ codes "\"")) all))
