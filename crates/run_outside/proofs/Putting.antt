-- adding pieces to a target, one after another
use Rattle.std.proofs.Common.{◌≡◌, ℕ, ◌+◌, ◌≤◌, ◌⊎◌, inl, inr, Bool, true, false, cond, List, [], ◌++◌, length, take, drop, Option, Some, None, option_map, unwrap_or, refl, sym, ap, ◌∙◌, append_assoc, arith, rules, length-drop}
use Rattle.std.proofs.lemmas.Grind.{common_steps}
use Rattle.std.proofs.Math.Seq.{take-add}
use Rattle.std.specs.Str.{bytes_eq}
use Rattle.run_outside.specs.declared.sink.SinkTarget.{SinkTarget}
use Rattle.run_outside.specs.declared.sink.SinkTarget.TheVariants as target
use Rattle.run_outside.specs.Files.{Held, add_to_file}
use Rattle.run_outside.specs.Sink.{Content, add}

twice : (b : Bool) (x y : List ℕ) (f : Option (List ℕ)) → cond b (Some (unwrap_or (cond b (Some (unwrap_or f [] ++ x)) f) [] ++ y)) (cond b (Some (unwrap_or f [] ++ x)) f) ≡ cond b (Some (unwrap_or f [] ++ (x ++ y))) f
twice true x y f = ap Some (append_assoc (unwrap_or f []) x y)
twice false x y f = refl

pub add_to_file_append : (name x y : List ℕ) (files : Held) → add_to_file name y (add_to_file name x files) ≡ add_to_file name (x ++ y) files
add_to_file_append name x y files = λ i other. twice (bytes_eq name other) x y (files other) i

-- two pieces, one after the other, are the two as one
pub add_append : (p : SinkTarget) (x y : List ℕ) (c : Content) → add p y (add p x c) ≡ add p (x ++ y) c
add_append target.Out x y c = ap (λ (out : List ℕ). record c { out = out }) (append_assoc c.out x y)
add_append target.Err x y c = ap (λ (err : List ℕ). record c { err = err }) (append_assoc c.err x y)
add_append (target.File name) x y c = ap (λ (files : Held). record c { files = files }) (add_to_file_append name x y c.files)

pub add_append_told : (p : SinkTarget) (x y : List ℕ) (o : Option Content) → option_map (add p y) (option_map (add p x) o) ≡ option_map (add p (x ++ y)) o
add_append_told p x y None = refl
add_append_told p x y (Some c) = ap Some (add_append p x y c)

-- the front of the piece was put, and the rest is left
pub record HasPut (p : SinkTarget) (piece rest : List ℕ) (old now : Option Content) : Type 0 where
  pub count : ℕ
  pub within : count ≤ length piece
  pub left : rest ≡ drop count piece
  pub stands : ((count ≡ 0) × (now ≡ old)) ⊎ (now ≡ option_map (add p (take count piece)) old)

drop-drop : (i k : ℕ) (xs : List ℕ) → drop k (drop i xs) ≡ drop (i + k) xs
drop-drop i k xs = search (rules, common_steps)

from_start : (piece : List ℕ) (n count : ℕ) → count ≡ 0 → take n (drop count piece) ≡ take (count + n) piece
from_start piece n count z = ap (λ i. take n (drop i piece)) z ∙ ap (λ k. take k piece) same where
  same : n ≡ count + n
  same = omega arith

front_more : (p : SinkTarget) (piece : List ℕ) (count n : ℕ) (old now new : Option Content)
    → ((count ≡ 0) × (now ≡ old)) ⊎ (now ≡ option_map (add p (take count piece)) old)
    → new ≡ option_map (add p (take n (drop count piece))) now
    → new ≡ option_map (add p (take (count + n) piece)) old
front_more p piece count n old now new (inl h) e =
    e ∙ ap (λ o. option_map (add p (take n (drop count piece))) o) h.1
    ∙ ap (λ xs. option_map (add p xs) old) (from_start piece n count h.0)
front_more p piece count n old now new (inr h) e =
    e ∙ ap (λ o. option_map (add p (take n (drop count piece))) o) h
    ∙ add_append_told p (take count piece) (take n (drop count piece)) old
    ∙ ap (λ xs. option_map (add p xs) old) (sym (take-add count n piece))

-- a piece of the rest was put
pub HasPut_more : (p : SinkTarget) (piece rest : List ℕ) (n : ℕ) (old now new : Option Content) → n ≤ length rest
    → new ≡ option_map (add p (take n rest)) now → HasPut p piece rest old now → HasPut p piece (drop n rest) old new
HasPut_more p piece rest n old now new within e h = record {
  count = h.count + n;
  within = omega (arith, h.within, ap length h.left, length-drop h.count piece);
  left = ap (drop n) h.left ∙ drop-drop h.count n piece;
  stands = inr (front_more p piece h.count n old now new h.stands (e ∙ ap (λ xs. option_map (add p (take n xs)) now) h.left));
}
