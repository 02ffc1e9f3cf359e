-- The records of lines are read as those of their packets.
use Rattle.std.proofs.Common.{◌≡◌, ℕ, ◌<◌, ◌≤◌, ◌^◌, ◌&&◌, Bool, true, false, List, [], ◌∷◌, ◌++◌, map, Option, Some, None, Ok, refl, sym, ap, subst, ◌∙◌, arith}
use Rattle.std.specs.Prelude.{◌↔◌, nat_le, if◌then◌else◌}
use Rattle.std.specs.List.{flat_map, filter, AllByRecursion}
use Rattle.std.proofs.lemmas.Bool.{le-leb}
use Rattle.sim_base.specs.Packet.{packet_size, max_packet}
use Rattle.sim_base.specs.Units.{latest_time}
use Rattle.sim_base.specs.declared.address.Ip.{Ip}
use Rattle.sim_base.specs.declared.packet.Packet.{Packet}
use Rattle.pcap_text.specs.Datagram.{datagram_bytes}
use Rattle.pcap_text.specs.Laws.{Taken, MayBeRecorded}
use Rattle.pcap_text.specs.Laws as laws
use Rattle.pcap_text.specs.Packets.{Fits, KeepsWhole, IsPacketIn}
use Rattle.pcap_text.specs.Reading.{pcap}
use Rattle.pcap_text.specs.Writing.{head, packet_record}
use Rattle.pcap_text.specs.declared.capture.Record.{Record}
use Rattle.pcap_text.proofs.Datagrams.{datagram_size, is_datagram, one_packet}
use Rattle.pcap_text.proofs.Written.{read_back}
use Rattle.run_files.specs.Captures.{has_record, line_record, records_of, is_at, is_on_eth0, is_on_lo, eth0_of, lo_of}
use Rattle.run_files.specs.LinesFit.{AllFit}
use Rattle.host_link.specs.declared.line.Line.{Line}
use Rattle.run_answers.specs.Captured.{line_with, AreLinesOf}
use Rattle.capture_laws.specs.ReadAgain.{IsInRange, AllInRange, whole_record, told, AreReadAgain}

abbrev taken : Line → Taken
taken l = record { time = l.time; packet = l.packet }

has_its_record : (l : Line) → IsInRange l → has_record l ≡ true
has_its_record l h =
    let small : nat_le (packet_size l.packet) max_packet ≡ true = le-leb (packet_size l.packet) max_packet h.size in
    ap (λ (b : Bool). b && nat_le l.time.nanos latest_time) small ∙ le-leb l.time.nanos latest_time h.time

record_is : (size : ℕ) (l : Line) → IsInRange l → line_record size l ≡ packet_record size l.time l.packet
record_is size l h =
    ap (λ (b : Bool). if b then packet_record size l.time l.packet else []) (has_its_record l h)

records_are : (size : ℕ) (lines : List Line) → AllInRange lines → records_of size lines ≡ flat_map (λ (t : Taken). packet_record size t.time t.packet) (map taken lines)
records_are size [] h = refl
records_are size (l ∷ ls) h =
    ap (λ (bs : List ℕ). bs ++ records_of size ls) (record_is size l h.0)
    ∙ ap (λ (bs : List ℕ). packet_record size l.time l.packet ++ bs) (records_are size ls h.1)

recorded : (lines : List Line) → AllFit lines → AllInRange lines → AllByRecursion MayBeRecorded (map taken lines)
recorded [] fit h = tt
recorded (l ∷ ls) fit h = (record { time = h.0.time; size = h.0.size; fits = fit.0 }, recorded ls fit.1 h.1)

wholes : (lines : List Line) → map laws.whole_record (map taken lines) ≡ map whole_record lines
wholes [] = refl
wholes (l ∷ ls) = ap (λ (rs : List Record). whole_record l ∷ rs) (wholes ls)

-- ---- a whole record is told as its packet

keeps_whole : (l : Line) → Fits l.packet → IsInRange l → KeepsWhole (whole_record l) l.packet
keeps_whole l fit h = record {
  whole = datagram_size l.packet;
  fits = fit;
  datagram_is = is_datagram l.packet (datagram_bytes l.packet) (omega (arith, h.size)) refl;
}

found_is : (l : Line) (found : Option Packet) → KeepsWhole (whole_record l) l.packet → IsPacketIn (whole_record l) found → found ≡ Some l.packet
found_is l None keeps none = absurd (none l.packet keeps)
found_is l (Some p) keeps is =
    ap (λ (q : Packet). Some q) (one_packet p l.packet (datagram_bytes l.packet) is.fits keeps.fits is.datagram_is keeps.datagram_is)

is_found : (l : Line) (found : Option Packet) → KeepsWhole (whole_record l) l.packet → found ≡ Some l.packet → IsPacketIn (whole_record l) found
is_found l found keeps is = subst (IsPacketIn (whole_record l)) (sym is) keeps

each_told : (lines : List Line) → AllFit lines → AllInRange lines → AllByRecursion (λ (l : Line). (found : Option Packet) → IsPacketIn (whole_record l) found ↔ (found ≡ Some l.packet)) lines
each_told [] fit h = tt
each_told (l ∷ ls) fit h =
    ((λ found. (found_is l found (keeps_whole l fit.0 h.0), is_found l found (keeps_whole l fit.0 h.0))), each_told ls fit.1 h.1)

-- ---- what is listed

listed_are : (lines : List Line) → AllFit lines → AllInRange lines → (text : List ℕ) → AreLinesOf (map whole_record lines) text → text ≡ flat_map told lines
listed_are [] fit h text are = are
listed_are (l ∷ ls) fit h text (found, rest, is, are, whole) =
    whole
    ∙ (ap (λ (p : Option Packet). line_with (whole_record l) p ++ rest) (found_is l found (keeps_whole l fit.0 h.0) is)
    ∙ ap (λ (more : List ℕ). told l ++ more) (listed_are ls fit.1 h.1 rest are))

all_listed : (lines : List Line) → AllFit lines → AllInRange lines → AreLinesOf (map whole_record lines) (flat_map told lines)
all_listed [] fit h = refl
all_listed (l ∷ ls) fit h = (Some l.packet, flat_map told ls, keeps_whole l fit.0 h.0, all_listed ls fit.1 h.1, refl)

are_listed : (lines : List Line) → AllFit lines → AllInRange lines → (text : List ℕ) → text ≡ flat_map told lines → AreLinesOf (map whole_record lines) text
are_listed lines fit h text is = subst (AreLinesOf (map whole_record lines)) (sym is) (all_listed lines fit h)

pub read_again : (size : ℕ) (lines : List Line) → max_packet ≤ size → size < 2 ^ 32 → AllFit lines → AllInRange lines → AreReadAgain size lines
read_again size lines large fits fit h =
    let back = read_back size (map taken lines) large fits (recorded lines fit h) in
    record {
      records = ap (λ (bs : List ℕ). pcap (head size ++ bs)) (records_are size lines h)
          ∙ (back.records ∙ ap (λ (rs : List Record). Ok (record { size = size; records = rs })) (wholes lines));
      packets = each_told lines fit h;
      listed = λ text. (listed_are lines fit h text, are_listed lines fit h text);
    }

-- ---- some of the lines

cond_all : (P : Line → Type 0) (b : Bool) (l : Line) (ls : List Line) → P l → AllByRecursion P ls → AllByRecursion P (if b then l ∷ ls else ls)
cond_all P true l ls here each = (here, each)
cond_all P false l ls here each = each

pub filtered : (P : Line → Type 0) (test : Line → Bool) (lines : List Line) → AllByRecursion P lines → AllByRecursion P (filter test lines)
filtered P test [] each = tt
filtered P test (l ∷ ls) each = cond_all P (test l) l (filter test ls) each.0 (filtered P test ls each.1)

pub eth0_again : (size number : ℕ) (own : Ip) (lines : List Line) → max_packet ≤ size → size < 2 ^ 32 → AllFit lines → AllInRange lines → AreReadAgain size (eth0_of number own lines)
eth0_again size number own lines large fits fit range =
    let test = λ (line : Line). is_at number line && is_on_eth0 own line in
    read_again size (eth0_of number own lines) large fits (filtered (λ (l : Line). Fits l.packet) test lines fit) (filtered IsInRange test lines range)

pub lo_again : (size number : ℕ) (own : Ip) (lines : List Line) → max_packet ≤ size → size < 2 ^ 32 → AllFit lines → AllInRange lines → AreReadAgain size (lo_of number own lines)
lo_again size number own lines large fits fit range =
    let test = λ (line : Line). is_at number line && is_on_lo own line in
    read_again size (lo_of number own lines) large fits (filtered (λ (l : Line). Fits l.packet) test lines fit) (filtered IsInRange test lines range)
