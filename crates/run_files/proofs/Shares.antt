-- The text of lines in shares is that of the lines.
use Rattle.std.proofs.Common.{◌≡◌, ℕ, suc, ◌<◌, ◌++◌, List, [], ◌∷◌, map, length, slice_index_or, refl, sym, ap, subst, ◌∙◌, arith, append_assoc, append-nil}
use Rattle.std.specs.Prelude.{flat_map, Result, Ok, Err, Vec, IfOk}
use Rattle.std.specs.declared.alloc.Global.{Global}
use Rattle.std.proofs.lemmas.Grind.{flat_map-append}
use Rattle.std.proofs.lemmas.List.{map-append}
use Rattle.sim_base.specs.declared.memory.NoMemory.{NoMemory}
use Rattle.host_link.specs.declared.line.Line.{Line}
use Rattle.host_link.specs.declared.line.Logged.{Logged}
use Rattle.host_link.specs.Logs.{kept_lines}
use Rattle.out_text.specs.Log.{log_line}
use Rattle.run_files.specs.Grown.{told_line}
use Rattle.run_files.specs.Listed.{HostNames}
use Rattle.run_files.specs.inside.Shares.{AreJoined, lines_in}

-- the text of lines
abbrev pub told : List HostNames → List Logged → List ℕ
told hosts lines = flat_map log_line (map (told_line hosts) (kept_lines lines))

pub told_behind : (hosts : List HostNames) (a b : List Logged) → told hosts (a ++ b) ≡ told hosts a ++ told hosts b
told_behind hosts a b =
    ap (λ (l : List Line). flat_map log_line (map (told_line hosts) l)) (map-append (λ (l : Logged). l.line) a b)
    ∙ ap (flat_map log_line) (map-append (told_line hosts) (kept_lines a) (kept_lines b))
    ∙ flat_map-append log_line (map (told_line hosts) (kept_lines a)) (map (told_line hosts) (kept_lines b))

pub lines_behind : (shares : List (Vec Logged Global)) (more : List (Vec Logged Global)) → lines_in (shares ++ more) ≡ lines_in shares ++ lines_in more
lines_behind shares more = flat_map-append (λ (share : Vec Logged Global). share.items) shares more

-- each text, where there is one, is that of the share at its place
pub AreTold : List HostNames → List (Vec Logged Global) → List (Result (List ℕ) NoMemory) → Type 0
AreTold hosts [] texts = texts ≡ []
AreTold hosts (share ∷ shares) [] = ⊥
AreTold hosts (share ∷ shares) (text ∷ texts) = IfOk text (λ t. t ≡ told hosts share.items) × AreTold hosts shares texts

pub joined_told : (hosts : List HostNames) (shares : List (Vec Logged Global)) (texts : List (Result (List ℕ) NoMemory)) (text : List ℕ)
    → AreTold hosts shares texts → AreJoined texts text → text ≡ told hosts (lines_in shares)
unfolding AreJoined AreTold
joined_told hosts [] [] text each joined = joined
joined_told hosts [] (first ∷ texts) text each joined = let no : ⊥ = omega (arith, ap length each) in absurd no
joined_told hosts (share ∷ shares) [] text each joined = absurd each
joined_told hosts (share ∷ shares) (Err e ∷ texts) text each joined = absurd joined
joined_told hosts (share ∷ shares) (Ok first ∷ texts) text each (left, is, rest) =
    is ∙ ap (λ l. l ++ left) each.0 ∙ ap (λ l. told hosts share.items ++ l) (joined_told hosts shares texts left each.1 rest)
    ∙ sym (told_behind hosts share.items (lines_in shares))

-- one text more is joined
pub joins_next : (texts here rest : List (Result (List ℕ) NoMemory)) (first : Result (List ℕ) NoMemory) (all text grown left : List ℕ)
    → ((l : List ℕ) → AreJoined here l → AreJoined texts (all ++ l)) → here ≡ first ∷ rest → first ≡ Ok text → grown ≡ all ++ text
    → AreJoined rest left → AreJoined texts (grown ++ left)
unfolding AreJoined
joins_next texts here rest first all text grown left so_far here_is first_is grown_is joined =
    let whole : here ≡ Ok text ∷ rest = here_is ∙ ap (λ r. r ∷ rest) first_is in
    subst (λ l. AreJoined texts l) (sym (append_assoc all text left) ∙ sym (ap (λ l. l ++ left) grown_is))
    (so_far (text ++ left) (subst (λ ts. AreJoined ts (text ++ left)) (sym whole) (left, refl, joined)))

-- all texts are joined
pub joins_all : (texts here : List (Result (List ℕ) NoMemory)) (all : List ℕ)
    → ((l : List ℕ) → AreJoined here l → AreJoined texts (all ++ l)) → here ≡ [] → AreJoined texts all
unfolding AreJoined
joins_all texts here all so_far none =
    subst (λ l. AreJoined texts l) (append-nil all) (so_far [] (subst (λ ts. AreJoined ts []) (sym none) refl))

-- texts by place, as threads give them
pub told_each : (hosts : List HostNames) (shares : List (Vec Logged Global)) (texts : List (Result (List ℕ) NoMemory)) → length texts ≡ length shares
    → ((i : ℕ) (d : Result (List ℕ) NoMemory) → i < length shares → (share : Vec Logged Global) × (((e : Vec Logged Global) → slice_index_or shares i e ≡ share) × IfOk (slice_index_or texts i d) (λ t. t ≡ told hosts share.items)))
    → AreTold hosts shares texts
unfolding AreTold
told_each hosts [] [] len each = refl
told_each hosts [] (text ∷ texts) len each = let no : ⊥ = omega (arith, len) in absurd no
told_each hosts (share ∷ shares) [] len each = let no : ⊥ = omega (arith, len) in absurd no
told_each hosts (share ∷ shares) (text ∷ texts) len each =
    let same : length texts ≡ length shares = omega (arith, len) in
    let first = each 0 text (let some : 0 < suc (length shares) = omega arith in some) in
    let is : share ≡ first.0 = first.1.0 share in (
      subst (λ (s : Vec Logged Global). IfOk text (λ t. t ≡ told hosts s.items)) (sym is) first.1.1,
      told_each hosts shares texts same (λ i d less. each (suc i) d (let more : suc i < suc (length shares) = omega (arith, less) in more)),
    )

pub told_if_joined : (hosts : List HostNames) (shares : List (Vec Logged Global)) (texts : List (Result (List ℕ) NoMemory)) (text : Result (List ℕ) NoMemory)
    → AreTold hosts shares texts → IfOk text (AreJoined texts) → IfOk text (λ t. t ≡ told hosts (lines_in shares))
told_if_joined hosts shares texts (Ok t) each joined = joined_told hosts shares texts t each joined
told_if_joined hosts shares texts (Err e) each joined = joined
