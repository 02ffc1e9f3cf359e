-- text that is cut into pieces and sent
use Rattle.std.proofs.Common.{◌≡◌, ℕ, zero, suc, ◌+◌, ◌-◌, ◌<◌, ◌≤◌, List, [], ◌∷◌, ◌++◌, length, take, drop, min, refl, sym, ap, ◌∙◌, ⊎_elim, append_assoc, append-nil, lit≤, arith}
use Rattle.std.proofs.lemmas.List.{length-drop, length-take, drop-take, drop-drop, take-take, take_all}
use Rattle.std.proofs.lemmas.Bool.{cases_lt}
use Rattle.std.proofs.Math.Nat.{le_of_lt}
use Rattle.std.proofs.Math.ListN.{drop_of_length-le}
use Rattle.sim_base.specs.declared.packet.Packet.{Packet}
use Rattle.sock_tcp.specs.declared.segment.control.Control.{Control}
use Rattle.sock_tcp.specs.segment.Number.{wire}
use Rattle.sock_tcp.specs.segment.Control.{segment}
use Rattle.sock_tcp.specs.connection.Output.{cut, pieces, text_segments}
use Rattle.sock_tcp.proofs.Segments.Numbers.{wire_wire}

-- the count doesn't matter where it is large enough
cut_count : (size j k : ℕ) (text : List ℕ) → 1 ≤ size → length text ≤ j → length text ≤ k → cut size j text ≡ cut size k text
cut_count size zero zero text s a b = refl
cut_count size zero (suc k) [] s a b = refl
cut_count size zero (suc k) (x ∷ text) s a b = absurd (omega arith)
cut_count size (suc j) zero [] s a b = refl
cut_count size (suc j) zero (x ∷ text) s a b = absurd (omega arith)
cut_count size (suc j) (suc k) [] s a b = refl
cut_count size (suc j) (suc k) (x ∷ text) s a b =
    let d = length-drop size (x ∷ text) in
    ap (λ rest. take size (x ∷ text) ∷ rest) (cut_count size j k (drop size (x ∷ text)) s (omega arith) (omega arith))

-- the first piece, and then the others
cut_first : (size : ℕ) (text : List ℕ) → 1 ≤ size → 1 ≤ length text → cut size (length text) text ≡ take size text ∷ cut size (length (drop size text)) (drop size text)
cut_first size [] s b = absurd (omega arith)
cut_first size (x ∷ text) s b =
    let d = length-drop size (x ∷ text) in
    ap (λ rest. take size (x ∷ text) ∷ rest) (cut_count size (length text) (length (drop size (x ∷ text))) (drop size (x ∷ text)) s (omega arith) (omega arith))

-- the first part of a front, and what follows it there
first_part : (size k : ℕ) (text : List ℕ) → take size (take k text) ≡ take (min size k) text
first_part size k text =
    ⊎_elim
    (λ h. let e : min size k ≡ size = omega arith in take-take size k text (le_of_lt h) ∙ ap (λ n. take n text) (sym e))
    (λ h. let e : min size k ≡ k = omega arith in let b : length (take k text) ≤ size = omega (arith, length-take k text) in take_all size (take k text) b ∙ ap (λ n. take n text) (sym e))
    (cases_lt size k)

rest_part : (size k : ℕ) (text : List ℕ) → drop size (take k text) ≡ take (k - min size k) (drop (min size k) text)
rest_part size k text =
    ⊎_elim
    (λ h.
    let e : min size k ≡ size = omega arith in
    let f : size + (k - size) ≡ k = omega arith in
    ap (λ n. drop size (take n text)) (sym f) ∙ (drop-take size (k - size) text ∙ ap (λ n. take (k - n) (drop n text)) (sym e)))
    (λ h.
    let e : k - min size k ≡ 0 = omega arith in
    let b : length (take k text) ≤ size = omega (arith, length-take k text) in
    drop_of_length-le (take k text) b ∙ ap (λ n. take n (drop (min size k) text)) (sym e))
    (cases_lt size k)

-- the text between two places of a buffer
between : ℕ → ℕ → List ℕ → List ℕ
between at to items = take (to - at) (drop at items)

length-between : (at to : ℕ) (items : List ℕ) → to ≤ length items → length (between at to items) ≡ to - at
unfolding between
length-between at to items h = omega (arith, length-take (to - at) (drop at items), length-drop at items)

between_first : (size at to : ℕ) (items : List ℕ) → take size (between at to items) ≡ take (min size (to - at)) (drop at items)
unfolding between
between_first size at to items = first_part size (to - at) (drop at items)

between_rest : (size at to : ℕ) (items : List ℕ) → drop size (between at to items) ≡ between (at + min size (to - at)) to items
unfolding between
between_rest size at to items =
    let n = min size (to - at) in
    let e : to - at - n ≡ to - (at + n) = omega arith in
    rest_part size (to - at) (drop at items) ∙ (ap (λ k. take k (drop n (drop at items))) e ∙ ap (take (to - (at + n))) (drop-drop n at items))

cut_all : ℕ → List ℕ → List (List ℕ)
cut_all size text = cut size (length text) text

-- the segments from a place on: the first one, and those from its end on
step_of_size : (size : ℕ) (c : Control) (start at ack window to : ℕ) (items : List ℕ) → 1 ≤ size → at < to → to ≤ length items → text_segments c start at ack window (cut_all size (between at to items)) ≡ segment c 16 (wire start at) ack window (take (min size (to - at)) (drop at items)) ∷ text_segments c start (at + min size (to - at)) ack window (cut_all size (between (at + min size (to - at)) to items))
unfolding cut_all
step_of_size size c start at ack window to items s h k =
    let n = min size (to - at) in
    let text = between at to items in
    let first = between_first size at to items in
    let l : length (take size text) ≡ n = omega (arith, length-take size text, length-between at to items k) in
    ap (text_segments c start at ack window) (cut_first size text s (omega (arith, length-between at to items k)))
    ∙ (ap (λ piece. segment c 16 (wire start at) ack window piece ∷ text_segments c start (at + length (take size text)) ack window (cut size (length (drop size text)) (drop size text))) first
    ∙ (ap (λ m. segment c 16 (wire start at) ack window (take n (drop at items)) ∷ text_segments c start (at + m) ack window (cut size (length (drop size text)) (drop size text))) l
    ∙ ap (λ rest. segment c 16 (wire start at) ack window (take n (drop at items)) ∷ text_segments c start (at + n) ack window (cut size (length rest) rest)) (between_rest size at to items)))

pub text_segments_step : (c : Control) (start at ack window to : ℕ) (items : List ℕ) → at < to → to ≤ length items → text_segments c start at ack window (pieces (take (to - at) (drop at items))) ≡ segment c 16 (wire start at) ack window (take (min 1460 (to - at)) (drop at items)) ∷ text_segments c start (at + min 1460 (to - at)) ack window (pieces (take (to - (at + min 1460 (to - at))) (drop (at + min 1460 (to - at)) items)))
unfolding pieces cut_all between
text_segments_step c start at ack window to items h k = step_of_size 1460 c start at ack window to items (lit≤ tt) h k

-- no text gives no segment
pub text_segments_none : (c : Control) (start at ack window k : ℕ) (text : List ℕ) → k ≡ 0 → text_segments c start at ack window (pieces (take k text)) ≡ []
unfolding pieces
text_segments_none c start at ack window k text e = ap (λ n. text_segments c start at ack window (pieces (take n text))) e

-- the numbers may be counted from any place
pub text_segments_wire : (c : Control) (start una at ack window : ℕ) (texts : List (List ℕ)) → text_segments c (wire start una) at ack window texts ≡ text_segments c start (una + at) ack window texts
text_segments_wire c start una at ack window [] = refl
text_segments_wire c start una at ack window (piece ∷ rest) =
    let e : una + (at + length piece) ≡ una + at + length piece = omega arith in
    ap (λ n. segment c 16 n ack window piece ∷ text_segments c (wire start una) (at + length piece) ack window rest) (wire_wire start una at)
    ∙ ap (λ texts. segment c 16 (wire start (una + at)) ack window piece ∷ texts) (text_segments_wire c start una (at + length piece) ack window rest ∙ ap (λ n. text_segments c start n ack window rest) e)

abbrev Segments : Type 0
Segments = List Packet

-- one segment more, and the others from its end on
pub pieces_more : (done whole : Segments) (c : Control) (start at ack window to : ℕ) (items : List ℕ) → at < to → to ≤ length items → done ++ text_segments c start at ack window (pieces (take (to - at) (drop at items))) ≡ whole → (done ++ segment c 16 (wire start at) ack window (take (min 1460 (to - at)) (drop at items)) ∷ []) ++ text_segments c start (at + min 1460 (to - at)) ack window (pieces (take (to - (at + min 1460 (to - at))) (drop (at + min 1460 (to - at)) items))) ≡ whole
pieces_more done whole c start at ack window to items h k e =
    rw append_assoc (ap (λ rest. done ++ rest) (sym (text_segments_step c start at ack window to items h k)) ∙ e)

-- and at the end no more
pub pieces_all : (done whole : Segments) (c : Control) (start at ack window to : ℕ) (items : List ℕ) → to ≤ at → done ++ text_segments c start at ack window (pieces (take (to - at) (drop at items))) ≡ whole → done ≡ whole
pieces_all done whole c start at ack window to items h e =
    sym (ap (λ rest. done ++ rest) (text_segments_none c start at ack window (to - at) (drop at items) (omega arith)) ∙ append-nil done) ∙ e
