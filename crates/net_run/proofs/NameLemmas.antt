-- The names of files: each tells its host, its process and its kind, and none is that of a capture or of the packet log.
use Rattle.std.proofs.Common.{◌≡◌, ℕ, zero, suc, ◌+◌, ◌<◌, ◌^◌, Bool, true, false, not, ◌&&◌, ◌==◌, ◌≢◌, List, [], ◌∷◌, ◌++◌, length, take, drop, get_or, Option, Some, None, option_map, refl, sym, ap, ◌∙◌, ⊎_elim, arith, codes, append_assoc, eq-eqb, ne_eqb, length-drop, get_or-drop}
use Rattle.std.specs.Prelude.{if◌then◌else◌}
use Rattle.std.specs.Fmt.{decimal}
use Rattle.std.specs.Path.{rfind_below, rsplit_once}
use Rattle.std.proofs.lemmas.Fmt.{decimal_injective}
use Rattle.std.proofs.lemmas.Bool.{cases_eq}
use Rattle.std.proofs.lemmas.List.{append_cancel_left}
use Rattle.out_text.specs.Files.{file_name, file_suffix, capture_name, interface_name}
use Rattle.out_text.specs.Laws.{lacks}
use Rattle.out_text.specs.declared.files.FileKind.{FileKind}
use Rattle.out_text.specs.declared.files.FileKind.TheVariants.{Stdout, Stderr, Exit}
use Rattle.out_text.proofs.Cuts.{cut_at_last}
use Rattle.out_text.proofs.Words.{decimal_lacks, both_lack, kind_word, kind_lacks_dot, suffix_is, same_kind}
use Rattle.run_files.specs.Files.{log_name, last_part, program_of}

-- ---- what a name tells

suffix_lacks_slash : (k : FileKind) → lacks 47 (file_suffix k) ≡ true
suffix_lacks_slash Stdout = refl
suffix_lacks_slash Stderr = refl
suffix_lacks_slash Exit = refl

abbrev tail : List ℕ → ℕ → FileKind → List ℕ
tail p m k = p ++ (codes "." ++ (decimal m ++ file_suffix k))

tail_lacks_slash : (p : List ℕ) (m : ℕ) (k : FileKind) → lacks 47 p ≡ true → m < 2 ^ 64 → lacks 47 (tail p m k) ≡ true
tail_lacks_slash p m k plain small =
    both_lack 47 p (codes "." ++ (decimal m ++ file_suffix k)) plain
    (both_lack 47 (codes ".") (decimal m ++ file_suffix k) refl (both_lack 47 (decimal m) (file_suffix k) (decimal_lacks 47 m refl small) (suffix_lacks_slash k)))

with_word : (p d : List ℕ) (k : FileKind) → p ++ (46 ∷ (d ++ file_suffix k)) ≡ (p ++ (46 ∷ d)) ++ (46 ∷ kind_word k)
with_word p d k = ap (λ (s : List ℕ). p ++ (46 ∷ (d ++ s))) (suffix_is k) ∙ sym (append_assoc p (46 ∷ d) (46 ∷ kind_word k))

-- a file's name tells its host, program, process and kind, where the program's name has no slash
pub same_file : (h g p q : List ℕ) (m n : ℕ) (k l : FileKind) → lacks 47 p ≡ true → lacks 47 q ≡ true → m < 2 ^ 64 → n < 2 ^ 64
    → file_name h p m k ≡ file_name g q n l → (h ≡ g) × (p ≡ q) × (m ≡ n) × (k ≡ l)
same_file h g p q m n k l pl ql ms ns e =
    let name = append_cancel_left (codes "hosts/") _ _ e in
    let host = cut_at_last 47 h g (tail p m k) (tail q n l) (tail_lacks_slash p m k pl ms) (tail_lacks_slash q n l ql ns) name in
    let rest : (p ++ (46 ∷ decimal m)) ++ (46 ∷ kind_word k) ≡ (q ++ (46 ∷ decimal n)) ++ (46 ∷ kind_word l) =
    sym (with_word p (decimal m) k) ∙ (host.1 ∙ with_word q (decimal n) l) in
    let kind = cut_at_last 46 (p ++ (46 ∷ decimal m)) (q ++ (46 ∷ decimal n)) (kind_word k) (kind_word l) (kind_lacks_dot k) (kind_lacks_dot l) rest in
    let program = cut_at_last 46 p q (decimal m) (decimal n) (decimal_lacks 46 m refl ms) (decimal_lacks 46 n refl ns) kind.0 in
    (host.0, program.0, decimal_injective m n ms ns program.1, same_kind k l kind.1)

apart : ◌≡◌ {A = ℕ} 112 104 → ⊥
apart e = omega arith

first_byte : (x y : ℕ) (xs ys : List ℕ) → x ∷ xs ≡ y ∷ ys → x ≡ y
first_byte x y xs ys e = cc

-- the packet log isn't a process's file
pub log_is_no_file : (h p : List ℕ) (m : ℕ) (k : FileKind) → log_name ≡ file_name h p m k → ⊥
log_is_no_file h p m k e = apart (first_byte 112 104 _ _ e)

-- ---- captures

abbrev capture_tail : Bool → List ℕ
capture_tail loopback = interface_name loopback ++ codes ".pcap"

capture_lacks_slash : (k : Bool) → lacks 47 (capture_tail k) ≡ true
capture_lacks_slash true = refl
capture_lacks_slash false = refl

same_interface : (j k : Bool) → capture_tail j ≡ capture_tail k → j ≡ k
same_interface true true e = refl
same_interface false false e = refl
same_interface true false e = absurd (let f : ◌≡◌ {A = ℕ} 108 101 = first_byte 108 101 _ _ e in omega arith)
same_interface false true e = absurd (let f : ◌≡◌ {A = ℕ} 101 108 = first_byte 101 108 _ _ e in omega arith)

-- a capture's name tells its host and its interface
pub same_capture : (h g : List ℕ) (j k : Bool) → capture_name h j ≡ capture_name g k → (h ≡ g) × (j ≡ k)
same_capture h g j k e =
    let name = append_cancel_left (codes "hosts/") _ _ e in
    let host = cut_at_last 47 h g (capture_tail j) (capture_tail k) (capture_lacks_slash j) (capture_lacks_slash k) name in
    (host.0, same_interface j k host.1)

-- the last byte of bytes that stand behind another one
abbrev last_of : ℕ → List ℕ → ℕ
last_of byte [] = byte
last_of byte (x ∷ xs) = last_of x xs

last_behind : (byte : ℕ) (xs : List ℕ) (y : ℕ) (ys : List ℕ) → last_of byte (xs ++ (y ∷ ys)) ≡ last_of y ys
last_behind byte [] y ys = refl
last_behind byte (x ∷ xs) y ys = last_behind x xs y ys

last_of_capture : (g : List ℕ) (k : Bool) → last_of 0 (capture_name g k) ≡ 112
last_of_capture g true = last_behind 47 g 47 (capture_tail true)
last_of_capture g false = last_behind 47 g 47 (capture_tail false)

abbrev last_of_kind : FileKind → ℕ
last_of_kind Stdout = 116
last_of_kind Stderr = 114
last_of_kind Exit = 116

last_of_suffix : (d : List ℕ) (k : FileKind) → last_of 46 (d ++ file_suffix k) ≡ last_of_kind k
last_of_suffix d Stdout = last_behind 46 d 46 _
last_of_suffix d Stderr = last_behind 46 d 46 _
last_of_suffix d Exit = last_behind 46 d 46 _

last_of_file : (h p : List ℕ) (m : ℕ) (k : FileKind) → last_of 0 (file_name h p m k) ≡ last_of_kind k
last_of_file h p m k = last_behind 47 h 47 (tail p m k) ∙ last_behind 47 p 46 (decimal m ++ file_suffix k) ∙ last_of_suffix (decimal m) k

other_end : (k : FileKind) → last_of_kind k ≡ 112 → ⊥
other_end Stdout e = omega arith
other_end Stderr e = omega arith
other_end Exit e = omega arith

-- a capture isn't a process's file, and not the packet log
pub capture_is_no_file : (g h p : List ℕ) (loopback : Bool) (m : ℕ) (k : FileKind) → capture_name g loopback ≡ file_name h p m k → ⊥
capture_is_no_file g h p loopback m k e = other_end k (sym (last_of_file h p m k) ∙ sym (ap (last_of 0) e) ∙ last_of_capture g loopback)

pub log_is_no_capture : (h : List ℕ) (loopback : Bool) → log_name ≡ capture_name h loopback → ⊥
log_is_no_capture h loopback e = apart (first_byte 112 104 _ _ e)

-- ---- the part of a path behind its last slash has no slash

lacks_all : (c : ℕ) (text : List ℕ) → ((i : ℕ) → i < length text → get_or text i 0 ≡ c → ⊥) → lacks c text ≡ true
lacks_all c [] none = refl
lacks_all c (x ∷ xs) none = ap (λ (b : Bool). not b && lacks c xs) (ne_eqb x c (none 0 (omega arith))) ∙ lacks_all c xs (λ i below is. none (suc i) (omega arith) is)

-- behind the byte that was found; where none was, everywhere
abbrev Behind : Option ℕ → ℕ → Type 0
Behind None i = Unit {0}
Behind (Some k) i = k < i

none_behind : (c : ℕ) (text : List ℕ) (n i : ℕ) → Behind (rfind_below c text n) i → i < n → get_or text i 0 ≡ c → ⊥
none_behind c text zero i behind below is = absurd (omega arith)
none_behind c text (suc n) i behind below is = go (get_or text n 0 == c) refl behind (λ h less. none_behind c text n i h less is) where
  go : (b : Bool) → (get_or text n 0 == c) ≡ b → Behind (if b then Some n else rfind_below c text n) i → (Behind (rfind_below c text n) i → i < n → ⊥) → ⊥
  go true e h later = let far : n < i = h in absurd (omega arith)
  go false e h later = ⊎_elim
      (λ (same : i ≡ n). let e2 : (get_or text n 0 == c) ≡ true = eq-eqb (get_or text n 0) c (ap (λ (j : ℕ). get_or text j 0) (sym same) ∙ is) in absurd (let t : true ≡ false = sym e2 ∙ e in cc))
      (λ (other : i ≢ n). later h (omega arith))
      (cases_eq i n)

pub program_is_plain : (path : List ℕ) → lacks 47 (program_of path) ≡ true
unfolding program_of rsplit_once
program_is_plain path = go (rfind_below 47 path (length path)) (λ i behind below is. none_behind 47 path (length path) i behind below is) where
  go : (o : Option ℕ) → ((i : ℕ) → Behind o i → i < length path → get_or path i 0 ≡ 47 → ⊥)
      → lacks 47 (last_part path (option_map (λ (i : ℕ). (take i path, drop (i + 1) path)) o)) ≡ true
  go None none = lacks_all 47 path (λ i below is. none i tt below is)
  go (Some k) none = lacks_all 47 (drop (k + 1) path) (λ i below is.
      none (k + 1 + i) (omega arith) (omega (arith, length-drop (k + 1) path)) (sym (get_or-drop (k + 1) path i 0) ∙ is))
