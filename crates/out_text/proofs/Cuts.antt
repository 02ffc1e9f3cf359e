-- Lists that are cut at a byte.
use Rattle.std.proofs.Common.{◌≡◌, ◌∙◌, ℕ, Bool, true, false, not, ◌&&◌, ◌==◌, List, [], ◌∷◌, ◌++◌, refl, sym, ap, subst, arith}
use Rattle.std.specs.List.{join_with_byte}
use Rattle.out_text.specs.Laws.{lacks}

pub same_head : (x y : ℕ) (xs ys : List ℕ) → x ∷ xs ≡ y ∷ ys → x ≡ y
same_head x y xs ys e = cc

pub same_tail : (x y : ℕ) (xs ys : List ℕ) → x ∷ xs ≡ y ∷ ys → xs ≡ ys
same_tail x y xs ys e = cc

eqb_same : (x : ℕ) → (x == x) ≡ true
eqb_same x = grind arith

lacks_tail : (c x : ℕ) (xs : List ℕ) → lacks c (x ∷ xs) ≡ true → lacks c xs ≡ true
lacks_tail c x xs l = go (x == c) l
  where
    go : (t : Bool) → (not t && lacks c xs) ≡ true → lacks c xs ≡ true
    go true l = cc
    go false l = l

lacks_head : (c : ℕ) (xs : List ℕ) → lacks c (c ∷ xs) ≡ true → ⊥
lacks_head c xs l = go (c == c) (eqb_same c) l
  where
    go : (t : Bool) → t ≡ true → (not t && lacks c xs) ≡ true → ⊥
    go true e l = cc
    go false e l = cc

-- a list that lacks the byte isn't one that has it
pub not_inner : (c : ℕ) (a b y : List ℕ) → lacks c a ≡ true → a ≡ b ++ (c ∷ y) → ⊥
not_inner c [] [] y l e = cc
not_inner c [] (h ∷ b) y l e = cc
not_inner c (x ∷ a) [] y l e = lacks_head c a (subst (λ (z : ℕ). lacks c (z ∷ a) ≡ true) (same_head x c a y e) l)
not_inner c (x ∷ a) (h ∷ b) y l e = not_inner c a b y (lacks_tail c x a l) (same_tail x h a (b ++ (c ∷ y)) e)

-- what stands before the first such byte, and what stands behind it
pub cut_at_first : (c : ℕ) (a b x y : List ℕ) → lacks c a ≡ true → lacks c b ≡ true → a ++ (c ∷ x) ≡ b ++ (c ∷ y) → (a ≡ b) × (x ≡ y)
cut_at_first c [] [] x y l m e = (refl, same_tail c c x y e)
cut_at_first c [] (h ∷ b) x y l m e = absurd (lacks_head c b (subst (λ (z : ℕ). lacks c (z ∷ b) ≡ true) (sym (same_head c h x (b ++ (c ∷ y)) e)) m))
cut_at_first c (g ∷ a) [] x y l m e = absurd (lacks_head c a (subst (λ (z : ℕ). lacks c (z ∷ a) ≡ true) (same_head g c (a ++ (c ∷ x)) y e) l))
cut_at_first c (g ∷ a) (h ∷ b) x y l m e =
    let rest = cut_at_first c a b x y (lacks_tail c g a l) (lacks_tail c h b m) (same_tail g h (a ++ (c ∷ x)) (b ++ (c ∷ y)) e) in
    let first : g ≡ h = same_head g h (a ++ (c ∷ x)) (b ++ (c ∷ y)) e in
    let both : g ∷ a ≡ h ∷ b = ap (λ (z : ℕ). z ∷ a) first ∙ ap (λ (zs : List ℕ). h ∷ zs) rest.0 in
    (both, rest.1)

-- what stands before the last such byte, and what stands behind it
pub cut_at_last : (c : ℕ) (a b x y : List ℕ) → lacks c x ≡ true → lacks c y ≡ true → a ++ (c ∷ x) ≡ b ++ (c ∷ y) → (a ≡ b) × (x ≡ y)
cut_at_last c [] [] x y l m e = (refl, same_tail c c x y e)
cut_at_last c [] (h ∷ b) x y l m e = absurd (not_inner c x b y l (same_tail c h x (b ++ (c ∷ y)) e))
cut_at_last c (g ∷ a) [] x y l m e = absurd (not_inner c y a x m (sym (same_tail g c (a ++ (c ∷ x)) y e)))
cut_at_last c (g ∷ a) (h ∷ b) x y l m e =
    let rest = cut_at_last c a b x y l m (same_tail g h (a ++ (c ∷ x)) (b ++ (c ∷ y)) e) in
    let first : g ≡ h = same_head g h (a ++ (c ∷ x)) (b ++ (c ∷ y)) e in
    let both : g ∷ a ≡ h ∷ b = ap (λ (z : ℕ). z ∷ a) first ∙ ap (λ (zs : List ℕ). h ∷ zs) rest.0 in
    (both, rest.1)

-- lists of words that lack the byte
abbrev pub Lack : ℕ → List (List ℕ) → Type 0
Lack c [] = Unit {0}
Lack c (word ∷ words) = (lacks c word ≡ true) × Lack c words

-- a word that lacks the byte is no row of two words or more
word_is_no_row : (c : ℕ) (v w : List ℕ) (word : List ℕ) (words : List (List ℕ)) → lacks c v ≡ true → v ≡ w ++ (c ∷ join_with_byte c (word ∷ words)) → ⊥
word_is_no_row c v w word words l e = not_inner c v w (join_with_byte c (word ∷ words)) l e

-- words that are put in a row with the byte between each two can be told again
pub same_words : (c : ℕ) (v w : List ℕ) (vs ws : List (List ℕ)) → Lack c (v ∷ vs) → Lack c (w ∷ ws)
    → join_with_byte c (v ∷ vs) ≡ join_with_byte c (w ∷ ws) → v ∷ vs ≡ w ∷ ws
same_words c v w [] [] l m e = ap (λ (z : List ℕ). z ∷ []) e
same_words c v w [] (word ∷ words) l m e = absurd (word_is_no_row c v w word words l.0 e)
same_words c v w (word ∷ words) [] l m e = absurd (word_is_no_row c w v word words m.0 (sym e))
same_words c v w (x ∷ xs) (y ∷ ys) l m e =
    let cut = cut_at_first c v w (join_with_byte c (x ∷ xs)) (join_with_byte c (y ∷ ys)) l.0 m.0 e in
    let rest = same_words c x y xs ys l.1 m.1 cut.1 in
    ap (λ (z : List ℕ). z ∷ x ∷ xs) cut.0 ∙ ap (λ (zs : List (List ℕ)). w ∷ zs) rest
