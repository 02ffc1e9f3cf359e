-- Reading records one after the other, as a loop does.
use Rattle.std.proofs.Common.{◌≡◌, ◌==◌, Bool, true, false, ℕ, zero, suc, ◌+◌, ◌-◌, ◌<◌, ◌≤◌, List, [], ◌∷◌, ◌++◌, length, drop, Option, Some, None, Result, Ok, Err, refl, sym, ap, ◌∙◌, append_assoc, arith}
use Rattle.std.proofs.lemmas.Bool.Decides.{nat_tests}
use Rattle.std.proofs.lemmas.List.{append-nil}
use Rattle.pcap_text.specs.declared.capture.Record.{Record}
use Rattle.pcap_text.specs.declared.fault.PcapError.{PcapError}
use Rattle.pcap_text.specs.declared.fault.PcapError.TheVariants.{Fault, NoMemory}
use Rattle.pcap_text.specs.declared.fault.PcapFault.{PcapFault}
use Rattle.pcap_text.specs.declared.fault.PcapKind.{PcapKind}
use Rattle.pcap_text.specs.Reading.{first, record_checks, record_of, kept_of, before, records, IsFound, IsRefusal}
use Rattle.pcap_text.specs.Writing.{front_size}

-- what was read before, and what is still read
abbrev pub joined : List Record → Result (List Record) PcapFault → Result (List Record) PcapFault
joined front (Ok rs) = Ok (front ++ rs)
joined front (Err fault) = Err fault

-- bytes of the record before are passed over
past : (unit size at skip : ℕ) (bytes : List ℕ) → skip ≤ length bytes → records unit size at skip bytes ≡ records unit size (at + skip) 0 (drop skip bytes)
unfolding records
past unit size at zero bytes fits = ap (λ (n : ℕ). records unit size n 0 bytes) (omega arith)
past unit size at (suc skip) [] fits = absurd (omega arith)
past unit size at (suc skip) (b ∷ bytes) fits =
    let same : at + 1 + skip ≡ at + suc skip = omega arith in
    past unit size (at + 1) skip bytes (omega arith) ∙ ap (λ (n : ℕ). records unit size n 0 (drop skip bytes)) same

moved : (unit size at b kept : ℕ) (bytes : List ℕ) → front_size + kept ≤ length (b ∷ bytes)
    → records unit size (at + 1) (front_size - 1 + kept) bytes ≡ records unit size (at + (front_size + kept)) 0 (drop (front_size + kept) (b ∷ bytes))
moved unit size at b kept bytes fits =
    let same : suc (front_size - 1 + kept) ≡ front_size + kept = omega arith in
    let there : at + 1 + (front_size - 1 + kept) ≡ at + (front_size + kept) = omega arith in
    past unit size (at + 1) (front_size - 1 + kept) bytes (omega arith)
    ∙ ap (λ (n : ℕ). records unit size n 0 (drop (front_size - 1 + kept) bytes)) there
    ∙ ap (λ (n : ℕ). records unit size (at + (front_size + kept)) 0 (drop n (b ∷ bytes))) same

before_sound : (at : ℕ) (found : Option PcapKind) (r : Record) (others : Result (List Record) PcapFault) → found ≡ None → before at found r others ≡ joined (r ∷ []) others
before_sound at found r (Ok rs) e = ap (λ (o : Option PcapKind). before at o r (Ok rs)) e
before_sound at found r (Err fault) e = ap (λ (o : Option PcapKind). before at o r (Err fault)) e

-- a sound record at the front, and those behind it
pub one_more : (unit size at : ℕ) (bytes : List ℕ) → first (record_checks unit size bytes) ≡ None → front_size + kept_of bytes ≤ length bytes
    → records unit size at 0 bytes ≡ joined (record_of unit bytes ∷ []) (records unit size (at + (front_size + kept_of bytes)) 0 (drop (front_size + kept_of bytes) bytes))
unfolding records
one_more unit size at [] sound fits = absurd (omega arith)
one_more unit size at (b ∷ bytes) sound fits =
    before_sound at (first (record_checks unit size (b ∷ bytes))) (record_of unit (b ∷ bytes)) (records unit size (at + 1) (front_size - 1 + kept_of (b ∷ bytes)) bytes) sound
    ∙ ap (joined (record_of unit (b ∷ bytes) ∷ [])) (moved unit size at b (kept_of (b ∷ bytes)) bytes fits)

joined_joined : (front : List Record) (r : Record) (others : Result (List Record) PcapFault) → joined front (joined (r ∷ []) others) ≡ joined (front ++ r ∷ []) others
joined_joined front r (Ok rs) = ap (λ (all : List Record). Ok all) (sym (append_assoc front (r ∷ []) rs))
joined_joined front r (Err fault) = refl

goes_on : (front : List Record) (unit size at : ℕ) (bytes : List ℕ) (total : Result (List Record) PcapFault) → first (record_checks unit size bytes) ≡ None
    → front_size + kept_of bytes ≤ length bytes → joined front (records unit size at 0 bytes) ≡ total
    → joined (front ++ record_of unit bytes ∷ []) (records unit size (at + (front_size + kept_of bytes)) 0 (drop (front_size + kept_of bytes) bytes)) ≡ total
goes_on front unit size at bytes total sound fits so_far =
    sym (ap (joined front) (one_more unit size at bytes sound fits) ∙ joined_joined front (record_of unit bytes) (records unit size (at + (front_size + kept_of bytes)) 0 (drop (front_size + kept_of bytes) bytes)))
    ∙ so_far

-- the loop takes one more record
pub takes : (front items : List Record) (r : Record) (unit size at taken : ℕ) (bytes after : List ℕ) (total : Result (List Record) PcapFault)
    → first (record_checks unit size bytes) ≡ None → front_size + kept_of bytes ≤ length bytes → joined front (records unit size at 0 bytes) ≡ total
    → items ≡ front ++ r ∷ [] → r ≡ record_of unit bytes → taken ≡ front_size + kept_of bytes → after ≡ drop (front_size + kept_of bytes) bytes
    → joined items (records unit size (at + taken) 0 after) ≡ total
takes front items r unit size at taken bytes after total sound fits so_far items_are r_is taken_is after_is =
    ap (λ (rs : List Record). joined rs (records unit size (at + taken) 0 after)) (items_are ∙ ap (λ (x : Record). front ++ x ∷ []) r_is)
    ∙ ap (λ (n : ℕ). joined (front ++ record_of unit bytes ∷ []) (records unit size (at + n) 0 after)) taken_is
    ∙ ap (λ (bs : List ℕ). joined (front ++ record_of unit bytes ∷ []) (records unit size (at + (front_size + kept_of bytes)) 0 bs)) after_is
    ∙ goes_on front unit size at bytes total sound fits so_far

pub some_left : (empty : Bool) (n : ℕ) → empty ≡ (n == 0) → empty ≡ false → 0 < n
some_left empty n e f = grind (arith, nat_tests)

pub none_left : (empty : Bool) (n : ℕ) → empty ≡ (n == 0) → empty ≡ true → n ≡ 0
none_left empty n e f = grind (arith, nat_tests)

before_fault : (at : ℕ) (found : Option PcapKind) (r : Record) (others : Result (List Record) PcapFault) (kind : PcapKind) → found ≡ Some kind → before at found r others ≡ Err (record { at = at; kind = kind })
before_fault at found r others kind e = ap (λ (o : Option PcapKind). before at o r others) e

-- or it meets a fault
pub stops : (e : PcapError) (front : List Record) (unit size at : ℕ) (bytes : List ℕ) (total : Result (List Record) PcapFault) → 0 < length bytes
    → IsFound at (first (record_checks unit size bytes)) e → joined front (records unit size at 0 bytes) ≡ total → IsRefusal total e
unfolding records
stops NoMemory front unit size at bytes total some found so_far = tt
stops (Fault fault) front unit size at [] total some found so_far = absurd (omega arith)
stops (Fault fault) front unit size at (b ∷ bytes) total some found so_far =
    let here : PcapFault = record { at = at; kind = fault.kind } in
    let place : here ≡ fault = ap (λ (n : ℕ). record { at = n; kind = fault.kind }) (sym found.1) in
    sym so_far
    ∙ ap (joined front) (before_fault at (first (record_checks unit size (b ∷ bytes))) (record_of unit (b ∷ bytes)) (records unit size (at + 1) (front_size - 1 + kept_of (b ∷ bytes)) bytes) fault.kind found.0)
    ∙ ap (λ (f : PcapFault). Err f) place

-- or nothing is left
pub is_done : (front : List Record) (unit size at : ℕ) (bytes : List ℕ) (total : Result (List Record) PcapFault) → length bytes ≡ 0
    → joined front (records unit size at 0 bytes) ≡ total → total ≡ Ok front
unfolding records
is_done front unit size at [] total none so_far = sym so_far ∙ ap (λ (rs : List Record). Ok rs) (append-nil front)
is_done front unit size at (b ∷ bytes) total none so_far = absurd (omega arith)
