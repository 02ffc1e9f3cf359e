-- The words of a line of the log, and of a file's name: none has a byte that separates words, and each tells what it stands for.
use Rattle.std.proofs.Common.{◌≡◌, ◌∙◌, ℕ, ◌<◌, ◌^◌, ◌/◌, ◌%◌, Bool, true, false, not, ◌&&◌, ◌==◌, List, [], ◌∷◌, ◌++◌, refl, sym, ap, subst, arith, codes}
use Rattle.std.specs.Prelude.{if◌then◌else◌, bit_and, nat_lt}
use Rattle.std.specs.Char.{digit_value}
use Rattle.std.specs.Fmt.{decimal}
use Rattle.std.specs.List.{list_any}
use Rattle.std.specs.Str.{bytes_eq}
use Rattle.std.specs.Str.Parse.{AllDigits}
use Rattle.std.proofs.lemmas.Fmt.{decimal_is_IsNumeral, decimal_injective}
use Rattle.std.proofs.lemmas.Nat.{and_assoc}
use Rattle.std.specs.Int.Bits.{and_zero_l}
use Rattle.std.proofs.lemmas.List.Folds.{list_all-append}
use Rattle.sim_base.specs.Ascii.{colon, full_stop, space}
use Rattle.sim_base.specs.declared.act.Act.{Act}
use Rattle.sim_base.specs.declared.act.Act.TheVariants.{Send, Lost, FullUp, FullDown, Recv, SockFull, NoPort, Codel}
use Rattle.sim_base.specs.declared.address.Addr.{Addr}
use Rattle.sim_base.specs.declared.address.Ip.{Ip}
use Rattle.sim_base.specs.declared.packet.Load.{Load}
use Rattle.sim_base.specs.declared.packet.Load.TheVariants.{Udp, Tcp}
use Rattle.out_text.specs.Address.{ip_text, addr_text}
use Rattle.out_text.specs.Files.{file_suffix}
use Rattle.out_text.specs.Laws.{lacks, FitsAddr, SameFlags}
use Rattle.out_text.specs.Log.{act_word, protocol_word, is_set, flags_word}
use Rattle.out_text.specs.declared.files.FileKind.{FileKind}
use Rattle.out_text.specs.declared.files.FileKind.TheVariants.{Stdout, Stderr, Exit}
use Rattle.out_text.proofs.Cuts.{cut_at_first, cut_at_last}

-- ---- numbers

is_no_digit : (c d : ℕ) → nat_lt (digit_value c) 10 ≡ false → digit_value d < 10 → (d == c) ≡ true → ⊥
is_no_digit c d far near e = let same : d ≡ c = grind arith in let close : digit_value c < 10 = subst (λ (x : ℕ). digit_value x < 10) same near in grind arith

lacks_more : (c d : ℕ) (ds : List ℕ) → ((d == c) ≡ true → ⊥) → lacks c ds ≡ true → lacks c (d ∷ ds) ≡ true
lacks_more c d ds other rest = go (d == c) refl
  where
    go : (t : Bool) → (d == c) ≡ t → (not t && lacks c ds) ≡ true
    go true e = absurd (other e)
    go false e = rest

digits_lack : (c : ℕ) (ds : List ℕ) → nat_lt (digit_value c) 10 ≡ false → AllDigits 10 ds → lacks c ds ≡ true
digits_lack c [] far digits = refl
digits_lack c (d ∷ ds) far digits = lacks_more c d ds (is_no_digit c d far digits.0) (digits_lack c ds far digits.1)

pub decimal_lacks : (c n : ℕ) → nat_lt (digit_value c) 10 ≡ false → n < 2 ^ 64 → lacks c (decimal n) ≡ true
decimal_lacks c n far small = digits_lack c (decimal n) far (decimal_is_IsNumeral n small).0.1

pub both_lack : (c : ℕ) (xs ys : List ℕ) → lacks c xs ≡ true → lacks c ys ≡ true → lacks c (xs ++ ys) ≡ true
both_lack c xs ys l m = list_all-append (λ b. not (b == c)) xs ys ∙ (ap (λ (t : Bool). t && lacks c ys) l ∙ m)

-- ---- addresses

ip_lacks : (c : ℕ) (ip : Ip) → nat_lt (digit_value c) 10 ≡ false → (full_stop == c) ≡ false → ip.bits < 2 ^ 32 → lacks c (ip_text ip) ≡ true
ip_lacks c ip far other small =
    let dot : (ds : List ℕ) → lacks c ds ≡ true → lacks c (full_stop ∷ ds) ≡ true = λ ds l. ap (λ (t : Bool). not t && lacks c ds) other ∙ l in
    both_lack c (decimal (ip.bits / 2 ^ 24)) _ (decimal_lacks c _ far (omega arith))
    (dot _ (both_lack c (decimal (ip.bits / 2 ^ 16 % 256)) _ (decimal_lacks c _ far (omega arith))
    (dot _ (both_lack c (decimal (ip.bits / 2 ^ 8 % 256)) _ (decimal_lacks c _ far (omega arith))
    (dot _ (decimal_lacks c (ip.bits % 256) far (omega arith)))))))

pub addr_lacks_space : (a : Addr) → FitsAddr a → lacks space (addr_text a) ≡ true
addr_lacks_space a fits = both_lack space (ip_text a.ip) (colon ∷ decimal a.port) (ip_lacks space a.ip refl refl fits.ip) (decimal_lacks space a.port refl (let small : a.port < 2 ^ 16 = fits.port in omega arith))

same_bits : (m n : ℕ) → m / 2 ^ 24 ≡ n / 2 ^ 24 → m / 2 ^ 16 % 256 ≡ n / 2 ^ 16 % 256 → m / 2 ^ 8 % 256 ≡ n / 2 ^ 8 % 256 → m % 256 ≡ n % 256 → m ≡ n
same_bits m n a b c d = omega arith

same_number : (m n : ℕ) → m < 2 ^ 32 → n < 2 ^ 32 → decimal m ≡ decimal n → m ≡ n
same_number m n k l e = decimal_injective m n (omega arith) (omega arith) e

same_ip : (a b : Ip) → a.bits < 2 ^ 32 → b.bits < 2 ^ 32 → ip_text a ≡ ip_text b → a ≡ b
same_ip a b k l e =
    let one = cut_at_first full_stop (decimal (a.bits / 2 ^ 24)) (decimal (b.bits / 2 ^ 24)) _ _ (decimal_lacks full_stop _ refl (omega arith)) (decimal_lacks full_stop _ refl (omega arith)) e in
    let two = cut_at_first full_stop (decimal (a.bits / 2 ^ 16 % 256)) (decimal (b.bits / 2 ^ 16 % 256)) _ _ (decimal_lacks full_stop _ refl (omega arith)) (decimal_lacks full_stop _ refl (omega arith)) one.1 in
    let three = cut_at_first full_stop (decimal (a.bits / 2 ^ 8 % 256)) (decimal (b.bits / 2 ^ 8 % 256)) _ _ (decimal_lacks full_stop _ refl (omega arith)) (decimal_lacks full_stop _ refl (omega arith)) two.1 in
    let bits : a.bits ≡ b.bits = same_bits a.bits b.bits
    (same_number _ _ (omega arith) (omega arith) one.0) (same_number _ _ (omega arith) (omega arith) two.0)
    (same_number _ _ (omega arith) (omega arith) three.0) (same_number _ _ (omega arith) (omega arith) three.1) in
    ap (λ (n : ℕ). ip_of n) bits
  where
    ip_of : ℕ → Ip
    ip_of n = record { bits = n }

pub same_addr : (a b : Addr) → FitsAddr a → FitsAddr b → addr_text a ≡ addr_text b → a ≡ b
same_addr a b k l e =
    let small : a.port < 2 ^ 16 = k.port in
    let small' : b.port < 2 ^ 16 = l.port in
    let cut = cut_at_last colon (ip_text a.ip) (ip_text b.ip) (decimal a.port) (decimal b.port) (decimal_lacks colon a.port refl (omega arith)) (decimal_lacks colon b.port refl (omega arith)) e in
    let ip : a.ip ≡ b.ip = same_ip a.ip b.ip k.ip l.ip cut.0 in
    let port : a.port ≡ b.port = same_number a.port b.port (omega arith) (omega arith) cut.1 in
    addr_at ip port
  where
    addr_of : Ip → ℕ → Addr
    addr_of ip port = record { ip = ip; port = port }

    addr_at : a.ip ≡ b.ip → a.port ≡ b.port → a ≡ b
    addr_at i p = ap (λ (x : Ip). addr_of x a.port) i ∙ ap (λ (n : ℕ). addr_of b.ip n) p

-- ---- acts and protocols

abbrev act_of : List ℕ → Act
act_of word = if bytes_eq word (codes "send") then Send else (if bytes_eq word (codes "lost") then Lost else (if bytes_eq word (codes "fullup") then FullUp else (if bytes_eq word (codes "fulldown") then FullDown else (if bytes_eq word (codes "recv") then Recv else (if bytes_eq word (codes "sockfull") then SockFull else (if bytes_eq word (codes "noport") then NoPort else (Codel)))))))

act_of-word : (a : Act) → act_of (act_word a) ≡ a
act_of-word Send = refl
act_of-word Lost = refl
act_of-word FullUp = refl
act_of-word FullDown = refl
act_of-word Recv = refl
act_of-word SockFull = refl
act_of-word NoPort = refl
act_of-word Codel = refl

pub same_act : (a b : Act) → act_word a ≡ act_word b → a ≡ b
same_act a b e = sym (act_of-word a) ∙ (ap (λ (word : List ℕ). act_of word) e ∙ act_of-word b)

pub act_lacks_space : (a : Act) → lacks space (act_word a) ≡ true
act_lacks_space Send = refl
act_lacks_space Lost = refl
act_lacks_space FullUp = refl
act_lacks_space FullDown = refl
act_lacks_space Recv = refl
act_lacks_space SockFull = refl
act_lacks_space NoPort = refl
act_lacks_space Codel = refl

pub protocol_lacks_space : (d : Load) → lacks space (protocol_word d) ≡ true
protocol_lacks_space (Udp text) = refl
protocol_lacks_space (Tcp flags seq ack window text) = refl

-- ---- flags

abbrev letters_of : Bool → Bool → Bool → Bool → Bool → List ℕ
letters_of any s a f r = if any then (if s then codes "S" else []) ++ ((if a then codes "A" else []) ++ ((if f then codes "F" else []) ++ (if r then codes "R" else []))) else codes "-"

letters_lack_space : (any s a f r : Bool) → lacks space (letters_of any s a f r) ≡ true
letters_lack_space false s a f r = refl
letters_lack_space true true true true true = refl
letters_lack_space true true true true false = refl
letters_lack_space true true true false true = refl
letters_lack_space true true true false false = refl
letters_lack_space true true false true true = refl
letters_lack_space true true false true false = refl
letters_lack_space true true false false true = refl
letters_lack_space true true false false false = refl
letters_lack_space true false true true true = refl
letters_lack_space true false true true false = refl
letters_lack_space true false true false true = refl
letters_lack_space true false true false false = refl
letters_lack_space true false false true true = refl
letters_lack_space true false false true false = refl
letters_lack_space true false false false true = refl
letters_lack_space true false false false false = refl

pub flags_lack_space : (flags : ℕ) → lacks space (flags_word flags) ≡ true
flags_lack_space flags = letters_lack_space (is_set flags 23) (is_set flags 2) (is_set flags 16) (is_set flags 1) (is_set flags 4)

abbrev has : ℕ → List ℕ → Bool
has c = list_any (λ b. b == c)

s_told : (any s a f r : Bool) → (any ≡ false → s ≡ false) → has 83 (letters_of any s a f r) ≡ s
s_told false s a f r none = sym (none refl)
s_told true true true true true none = refl
s_told true true true true false none = refl
s_told true true true false true none = refl
s_told true true true false false none = refl
s_told true true false true true none = refl
s_told true true false true false none = refl
s_told true true false false true none = refl
s_told true true false false false none = refl
s_told true false true true true none = refl
s_told true false true true false none = refl
s_told true false true false true none = refl
s_told true false true false false none = refl
s_told true false false true true none = refl
s_told true false false true false none = refl
s_told true false false false true none = refl
s_told true false false false false none = refl

a_told : (any s a f r : Bool) → (any ≡ false → a ≡ false) → has 65 (letters_of any s a f r) ≡ a
a_told false s a f r none = sym (none refl)
a_told true true true true true none = refl
a_told true true true true false none = refl
a_told true true true false true none = refl
a_told true true true false false none = refl
a_told true true false true true none = refl
a_told true true false true false none = refl
a_told true true false false true none = refl
a_told true true false false false none = refl
a_told true false true true true none = refl
a_told true false true true false none = refl
a_told true false true false true none = refl
a_told true false true false false none = refl
a_told true false false true true none = refl
a_told true false false true false none = refl
a_told true false false false true none = refl
a_told true false false false false none = refl

f_told : (any s a f r : Bool) → (any ≡ false → f ≡ false) → has 70 (letters_of any s a f r) ≡ f
f_told false s a f r none = sym (none refl)
f_told true true true true true none = refl
f_told true true true true false none = refl
f_told true true true false true none = refl
f_told true true true false false none = refl
f_told true true false true true none = refl
f_told true true false true false none = refl
f_told true true false false true none = refl
f_told true true false false false none = refl
f_told true false true true true none = refl
f_told true false true true false none = refl
f_told true false true false true none = refl
f_told true false true false false none = refl
f_told true false false true true none = refl
f_told true false false true false none = refl
f_told true false false false true none = refl
f_told true false false false false none = refl

r_told : (any s a f r : Bool) → (any ≡ false → r ≡ false) → has 82 (letters_of any s a f r) ≡ r
r_told false s a f r none = sym (none refl)
r_told true true true true true none = refl
r_told true true true true false none = refl
r_told true true true false true none = refl
r_told true true true false false none = refl
r_told true true false true true none = refl
r_told true true false true false none = refl
r_told true true false false true none = refl
r_told true true false false false none = refl
r_told true false true true true none = refl
r_told true false true true false none = refl
r_told true false true false true none = refl
r_told true false true false false none = refl
r_told true false false true true none = refl
r_told true false false true false none = refl
r_told true false false false true none = refl
r_told true false false false false none = refl

zero_of : (n : ℕ) → not (n == 0) ≡ false → n ≡ 0
zero_of n e = grind arith

none_set : (flags flag : ℕ) → bit_and 23 flag ≡ flag → is_set flags 23 ≡ false → is_set flags flag ≡ false
none_set flags flag within none =
    let zero : bit_and flags 23 ≡ 0 = zero_of (bit_and flags 23) none in
    let at_flag : bit_and flags flag ≡ 0 = sym (ap (λ (w : ℕ). bit_and flags w) within) ∙ (sym (and_assoc flag flags 23) ∙ (ap (λ (w : ℕ). bit_and w flag) zero ∙ and_zero_l flag)) in
    ap (λ (w : ℕ). not (w == 0)) at_flag

pub same_flags : (f g : ℕ) → flags_word f ≡ flags_word g → SameFlags f g
same_flags f g e =
    let all : (c : ℕ) → has c (flags_word f) ≡ has c (flags_word g) = λ c. ap (λ (w : List ℕ). has c w) e in
    record {
      syn = sym (s_told (is_set f 23) (is_set f 2) (is_set f 16) (is_set f 1) (is_set f 4) (none_set f 2 refl)) ∙ (all 83 ∙ s_told (is_set g 23) (is_set g 2) (is_set g 16) (is_set g 1) (is_set g 4) (none_set g 2 refl));
      ack = sym (a_told (is_set f 23) (is_set f 2) (is_set f 16) (is_set f 1) (is_set f 4) (none_set f 16 refl)) ∙ (all 65 ∙ a_told (is_set g 23) (is_set g 2) (is_set g 16) (is_set g 1) (is_set g 4) (none_set g 16 refl));
      fin = sym (f_told (is_set f 23) (is_set f 2) (is_set f 16) (is_set f 1) (is_set f 4) (none_set f 1 refl)) ∙ (all 70 ∙ f_told (is_set g 23) (is_set g 2) (is_set g 16) (is_set g 1) (is_set g 4) (none_set g 1 refl));
      rst = sym (r_told (is_set f 23) (is_set f 2) (is_set f 16) (is_set f 1) (is_set f 4) (none_set f 4 refl)) ∙ (all 82 ∙ r_told (is_set g 23) (is_set g 2) (is_set g 16) (is_set g 1) (is_set g 4) (none_set g 4 refl));
    }

-- ---- kinds of files

abbrev pub kind_word : FileKind → List ℕ
kind_word Stdout = codes "stdout"
kind_word Stderr = codes "stderr"
kind_word Exit = codes "exit"

pub kind_lacks_dot : (k : FileKind) → lacks full_stop (kind_word k) ≡ true
kind_lacks_dot Stdout = refl
kind_lacks_dot Stderr = refl
kind_lacks_dot Exit = refl

pub suffix_is : (k : FileKind) → file_suffix k ≡ full_stop ∷ kind_word k
suffix_is Stdout = refl
suffix_is Stderr = refl
suffix_is Exit = refl

abbrev kind_of : List ℕ → FileKind
kind_of word = if bytes_eq word (codes "stdout") then Stdout else (if bytes_eq word (codes "stderr") then Stderr else Exit)

kind_of-word : (k : FileKind) → kind_of (kind_word k) ≡ k
kind_of-word Stdout = refl
kind_of-word Stderr = refl
kind_of-word Exit = refl

pub same_kind : (a b : FileKind) → kind_word a ≡ kind_word b → a ≡ b
same_kind a b e = sym (kind_of-word a) ∙ (ap (λ (word : List ℕ). kind_of word) e ∙ kind_of-word b)
