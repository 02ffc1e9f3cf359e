-- A line of the log determines what it tells, and a file's name the process and what the file holds.
use Rattle.std.proofs.Common.{◌≡◌, ◌∙◌, ℕ, ◌<◌, ◌^◌, List, ◌∷◌, ◌++◌, refl, sym, ap, arith, codes, append_assoc}
use Rattle.std.specs.Prelude.{IsTrue}
use Rattle.std.specs.Fmt.{decimal}
use Rattle.std.specs.List.{join_with_byte}
use Rattle.std.proofs.lemmas.Fmt.{decimal_injective}
use Rattle.std.proofs.lemmas.List.{append_cancel_left, append_cancel_right}
use Rattle.sim_base.specs.Ascii.{full_stop, slash, space}
use Rattle.sim_base.specs.Packet.{packet_size}
use Rattle.sim_base.specs.declared.packet.Load.{Load}
use Rattle.sim_base.specs.declared.time.Time.{Time}
use Rattle.sim_base.specs.declared.packet.Load.TheVariants.{Udp, Tcp}
use Rattle.out_text.specs.Files.{file_name, file_suffix}
use Rattle.out_text.specs.Laws.{lacks, FitsLoad, IsLogged, SameLoad, TellsSame}
use Rattle.out_text.specs.Log.{LogLine, flags_word, segment_words, log_words, log_line}
use Rattle.out_text.specs.declared.files.FileKind.{FileKind}
use Rattle.out_text.proofs.Cuts.{Lack, cut_at_first, cut_at_last, same_words}
use Rattle.out_text.proofs.Words.{decimal_lacks, addr_lacks_space, same_addr, same_act, act_lacks_space, protocol_lacks_space, flags_lack_space, same_flags, kind_word, kind_lacks_dot, suffix_is, same_kind}

-- ---- lines of the log

segment_lacks : (d : Load) → FitsLoad d → Lack space (segment_words d)
segment_lacks (Udp text) fits = tt
segment_lacks (Tcp flags seq ack window text) fits =
    let s : seq < 2 ^ 32 = fits.0 in
    let a : ack < 2 ^ 32 = fits.1 in
    (flags_lack_space flags, (decimal_lacks space seq refl (omega arith), (decimal_lacks space ack refl (omega arith), tt)))

line_lacks : (l : LogLine) → IsLogged l → Lack space (log_words l)
line_lacks l h = (
  decimal_lacks space l.time.nanos refl h.time,
  (
    h.host,
    (
      act_lacks_space l.act,
      (
        protocol_lacks_space l.packet.load,
        (addr_lacks_space l.packet.from h.from, (addr_lacks_space l.packet.to h.to, (decimal_lacks space (packet_size l.packet) refl h.size, segment_lacks l.packet.load h.load))),
      ),
    ),
  ),
)

same_load : (d e : Load) → FitsLoad d → FitsLoad e → segment_words d ≡ segment_words e → SameLoad d e
same_load (Udp text) (Udp other) h k same = tt
same_load (Udp text) (Tcp flags seq ack window other) h k same = cc
same_load (Tcp flags seq ack window text) (Udp other) h k same = cc
same_load (Tcp flags seq ack window text) (Tcp flags' seq' ack' window' text') h k same =
    let f : flags_word flags ≡ flags_word flags' = cc in
    let s : decimal seq ≡ decimal seq' = cc in
    let a : decimal ack ≡ decimal ack' = cc in
    let s0 : seq < 2 ^ 32 = h.0 in
    let s1 : seq' < 2 ^ 32 = k.0 in
    let a0 : ack < 2 ^ 32 = h.1 in
    let a1 : ack' < 2 ^ 32 = k.1 in
    (same_flags flags flags' f, decimal_injective seq seq' (omega arith) (omega arith) s, decimal_injective ack ack' (omega arith) (omega arith) a)

told_by : (t t' h h' a a' p p' f f' o o' z z' : List ℕ) (s s' : List (List ℕ))
    → t ∷ h ∷ a ∷ p ∷ f ∷ o ∷ z ∷ s ≡ t' ∷ h' ∷ a' ∷ p' ∷ f' ∷ o' ∷ z' ∷ s'
    → (t ≡ t') × (h ≡ h') × (a ≡ a') × (f ≡ f') × (o ≡ o') × (z ≡ z') × (s ≡ s')
told_by t t' h h' a a' p p' f f' o o' z z' s s' e = (cc, cc, cc, cc, cc, cc, cc)

abbrev time_of : ℕ → Time
time_of n = record { nanos = n }

-- lines with one text tell the same
pub one_line : (a b : LogLine) → IsLogged a → IsLogged b → log_line a ≡ log_line b → TellsSame a b
one_line a b h k e =
    let rows : join_with_byte space (log_words a) ≡ join_with_byte space (log_words b) = append_cancel_right _ _ (codes "\n") e in
    let words : log_words a ≡ log_words b = same_words space _ _ _ _ (line_lacks a h) (line_lacks b k) rows in
    let told = told_by _ _ _ _ _ _ _ _ _ _ _ _ _ _ _ _ words in
    record {
      time = ap time_of (decimal_injective a.time.nanos b.time.nanos h.time k.time told.0);
      host = told.1;
      act = same_act a.act b.act told.2;
      from = same_addr a.packet.from b.packet.from h.from k.from told.3;
      to = same_addr a.packet.to b.packet.to h.to k.to told.4;
      size = decimal_injective (packet_size a.packet) (packet_size b.packet) h.size k.size told.5;
      load = same_load a.packet.load b.packet.load h.load k.load told.6;
    }

-- ---- names of files

regrouped : (p d w : List ℕ) → p ++ (full_stop ∷ (d ++ (full_stop ∷ w))) ≡ (p ++ (full_stop ∷ d)) ++ (full_stop ∷ w)
regrouped p d w = sym (append_assoc p (full_stop ∷ d) (full_stop ∷ w))

with_word : (p d : List ℕ) (k : FileKind) → p ++ (full_stop ∷ (d ++ file_suffix k)) ≡ (p ++ (full_stop ∷ d)) ++ (full_stop ∷ kind_word k)
with_word p d k = ap (λ (s : List ℕ). p ++ (full_stop ∷ (d ++ s))) (suffix_is k) ∙ regrouped p d (kind_word k)

-- files with one name are of one process, and hold the same
pub one_file : (h g p q : List ℕ) (m n : ℕ) (k l : FileKind) → IsTrue (lacks slash h) → IsTrue (lacks slash g) → m < 2 ^ 32 → n < 2 ^ 32
    → file_name h p m k ≡ file_name g q n l → (h ≡ g) × (p ≡ q) × (m ≡ n) × (k ≡ l)
one_file h g p q m n k l hl gl ms ns e =
    let name = append_cancel_left (codes "hosts/") _ _ e in
    let host = cut_at_first slash h g _ _ hl gl name in
    let rest : (p ++ (full_stop ∷ decimal m)) ++ (full_stop ∷ kind_word k) ≡ (q ++ (full_stop ∷ decimal n)) ++ (full_stop ∷ kind_word l) =
    sym (with_word p (decimal m) k) ∙ (host.1 ∙ with_word q (decimal n) l) in
    let kind = cut_at_last full_stop (p ++ (full_stop ∷ decimal m)) (q ++ (full_stop ∷ decimal n)) (kind_word k) (kind_word l) (kind_lacks_dot k) (kind_lacks_dot l) rest in
    let program = cut_at_last full_stop p q (decimal m) (decimal n) (decimal_lacks full_stop m refl (omega arith)) (decimal_lacks full_stop n refl (omega arith)) kind.0 in
    (host.0, program.0, decimal_injective m n (omega arith) (omega arith) program.1, same_kind k l kind.1)
