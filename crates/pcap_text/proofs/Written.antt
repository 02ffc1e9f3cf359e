-- What was written is read again.
use Rattle.std.proofs.Common.{◌≡◌, ℕ, ◌+◌, ◌-◌, ◌*◌, ◌/◌, ◌%◌, ◌^◌, ◌<◌, ◌≤◌, Bool, false, List, [], ◌∷◌, ◌++◌, length, take, drop, map, Option, Some, None, Ok, refl, sym, ap, ◌∙◌, arith, length-append}
use Rattle.std.specs.Prelude.{nat_lt}
use Rattle.std.specs.Int.{w32, to_le_bytes, from_le_bytes}
use Rattle.std.specs.List.{flat_map, AllByRecursion}
use Rattle.std.proofs.lemmas.Bool.{le-ltb, lt-leb, or_from}
use Rattle.std.proofs.lemmas.List.{take_all, take_at, drop_at}
use Rattle.std.proofs.lemmas.Nat.{from_le_bytes-to_le_bytes_4}
use Rattle.sim_base.specs.Packet.{packet_size, max_packet}
use Rattle.sim_base.specs.declared.packet.Packet.{Packet}
use Rattle.sim_base.specs.Units.{second, unix_start}
use Rattle.pcap_text.specs.declared.capture.Record.{Record}
use Rattle.pcap_text.specs.declared.fault.PcapKind.TheVariants.{Truncated, Magic, Version, Link, Time, Length}
use Rattle.pcap_text.specs.Datagram.{datagram_bytes}
use Rattle.pcap_text.specs.Laws.{Taken, MayBeRecorded, whole_record, IsReadBack}
use Rattle.pcap_text.specs.Packets.{IsEach}
use Rattle.pcap_text.specs.Reading.{first, head_checks, record_checks, record_of, seconds_of, nanos_of, kept_of, whole_of, records, behind, pcap}
use Rattle.pcap_text.specs.Writing.{head, record_front, packet_record, head_size, front_size}
use Rattle.pcap_text.proofs.Datagrams.{datagram_size, is_datagram}
use Rattle.pcap_text.proofs.RecordLemmas.{joined, one_more}

none_of : (a b c : Bool) → a ≡ false → b ≡ false → c ≡ false → first ((a, Truncated) ∷ (b, Time) ∷ (c, Length) ∷ []) ≡ None
none_of a b c p q r =
    ap (λ (x : Bool). first ((x, Truncated) ∷ (b, Time) ∷ (c, Length) ∷ [])) p
    ∙ ap (λ (x : Bool). first ((false, Truncated) ∷ (x, Time) ∷ (c, Length) ∷ [])) q
    ∙ ap (λ (x : Bool). first ((false, Truncated) ∷ (false, Time) ∷ (x, Length) ∷ [])) r

-- ---- a record

abbrev recorded : ℕ → ℕ → List ℕ → Record
recorded nanos whole kept = record { time = record { nanos = nanos }; whole = whole; kept = kept }

-- a record's numbers and its bytes, all kept
record MayBeWritten (size seconds nanos whole : ℕ) (kept : List ℕ) : Type 0 where
  late : unix_start ≤ seconds
  seconds_fit : seconds < 2 ^ 32
  below_second : nanos < second
  within : length kept ≤ whole
  whole_fits : whole < 2 ^ 32
  captured : length kept ≤ size

abbrev bytes_of : ℕ → ℕ → ℕ → List ℕ → List ℕ → List ℕ
bytes_of seconds nanos whole kept rest = (record_front seconds nanos (length kept) whole ++ kept) ++ rest

module _ (size seconds nanos whole : ℕ) (kept rest : List ℕ) (h : MayBeWritten size seconds nanos whole kept) where
  seconds_again : seconds_of (bytes_of seconds nanos whole kept rest) ≡ seconds
  seconds_again = from_le_bytes-to_le_bytes_4 seconds h.seconds_fit

  nanos_again : nanos_of 1 (bytes_of seconds nanos whole kept rest) ≡ nanos
  nanos_again =
      let below : nanos < 2 ^ 32 = omega (arith, h.below_second) in
      let same : from_le_bytes w32 (to_le_bytes w32 nanos) ≡ nanos = from_le_bytes-to_le_bytes_4 nanos below in
      ap (λ (n : ℕ). n * 1) same ∙ omega arith

  kept_again : kept_of (bytes_of seconds nanos whole kept rest) ≡ length kept
  kept_again =
      let below : length kept < 2 ^ 32 = omega (arith, h.within, h.whole_fits) in
      from_le_bytes-to_le_bytes_4 (length kept) below

  whole_again : whole_of (bytes_of seconds nanos whole kept rest) ≡ whole
  whole_again = from_le_bytes-to_le_bytes_4 whole h.whole_fits

  size_again : length (bytes_of seconds nanos whole kept rest) ≡ front_size + (length kept + length rest)
  size_again = omega (arith, length-append kept rest)

  sound : first (record_checks 1 size (bytes_of seconds nanos whole kept rest)) ≡ None
  unfolding record_checks
  sound =
      none_of _ _ _
      (or_from _ _ (le-ltb (length (bytes_of seconds nanos whole kept rest)) front_size (omega (arith, size_again)))
      (le-ltb (length (bytes_of seconds nanos whole kept rest)) (front_size + kept_of (bytes_of seconds nanos whole kept rest)) (omega (arith, size_again, kept_again))))
      (or_from _ _ (le-ltb (seconds_of (bytes_of seconds nanos whole kept rest)) unix_start (omega (arith, seconds_again, h.late)))
      (lt-leb second (nanos_of 1 (bytes_of seconds nanos whole kept rest)) (omega (arith, nanos_again, h.below_second))))
      (or_from _ _ (le-ltb (whole_of (bytes_of seconds nanos whole kept rest)) (kept_of (bytes_of seconds nanos whole kept rest)) (omega (arith, whole_again, kept_again, h.within)))
      (le-ltb size (kept_of (bytes_of seconds nanos whole kept rest)) (omega (arith, kept_again, h.captured))))

  record_again : record_of 1 (bytes_of seconds nanos whole kept rest) ≡ recorded ((seconds - unix_start) * second + nanos) whole kept
  record_again =
      let text : take (kept_of (bytes_of seconds nanos whole kept rest)) (kept ++ rest) ≡ kept = take_at kept rest (kept_of (bytes_of seconds nanos whole kept rest)) (sym kept_again) in
      ap (λ (n : ℕ). recorded ((n - unix_start) * second + nanos_of 1 (bytes_of seconds nanos whole kept rest)) (whole_of (bytes_of seconds nanos whole kept rest)) (take (kept_of (bytes_of seconds nanos whole kept rest)) (kept ++ rest))) seconds_again
      ∙ ap (λ (n : ℕ). recorded ((seconds - unix_start) * second + n) (whole_of (bytes_of seconds nanos whole kept rest)) (take (kept_of (bytes_of seconds nanos whole kept rest)) (kept ++ rest))) nanos_again
      ∙ ap (λ (n : ℕ). recorded ((seconds - unix_start) * second + nanos) n (take (kept_of (bytes_of seconds nanos whole kept rest)) (kept ++ rest))) whole_again
      ∙ ap (λ (d : List ℕ). recorded ((seconds - unix_start) * second + nanos) whole d) text

  rest_again : drop (front_size + kept_of (bytes_of seconds nanos whole kept rest)) (bytes_of seconds nanos whole kept rest) ≡ rest
  rest_again = ap (λ (n : ℕ). drop (front_size + n) (bytes_of seconds nanos whole kept rest)) kept_again ∙ drop_at (record_front seconds nanos (length kept) whole ++ kept) rest (front_size + length kept) (omega arith)

  -- a record that was written, and those behind it
  front_again : (at : ℕ) → records 1 size at 0 (bytes_of seconds nanos whole kept rest) ≡ joined (recorded ((seconds - unix_start) * second + nanos) whole kept ∷ []) (records 1 size (at + (front_size + length kept)) 0 rest)
  front_again at =
      one_more 1 size at (bytes_of seconds nanos whole kept rest) sound (omega (arith, size_again, kept_again))
      ∙ ap (λ (r : Record). joined (r ∷ []) (records 1 size (at + (front_size + kept_of (bytes_of seconds nanos whole kept rest))) 0 (drop (front_size + kept_of (bytes_of seconds nanos whole kept rest)) (bytes_of seconds nanos whole kept rest)))) record_again
      ∙ ap (λ (n : ℕ). joined (recorded ((seconds - unix_start) * second + nanos) whole kept ∷ []) (records 1 size (at + (front_size + n)) 0 (drop (front_size + kept_of (bytes_of seconds nanos whole kept rest)) (bytes_of seconds nanos whole kept rest)))) kept_again
      ∙ ap (λ (d : List ℕ). joined (recorded ((seconds - unix_start) * second + nanos) whole kept ∷ []) (records 1 size (at + (front_size + length kept)) 0 d)) rest_again

-- ---- the record of a packet

same_time : (t : ℕ) → (unix_start + t / second - unix_start) * second + t % second ≡ t
same_time t = omega arith

packet_again : (size at : ℕ) (t : Taken) (rest : List ℕ) → max_packet ≤ size → MayBeRecorded t
    → records 1 size at 0 (packet_record size t.time t.packet ++ rest) ≡ joined (whole_record t ∷ []) (records 1 size (at + (front_size + length (datagram_bytes t.packet))) 0 rest)
packet_again size at t rest large h =
    let d = datagram_bytes t.packet in
    let d_size : length d ≡ packet_size t.packet = datagram_size t.packet in
    let all : take size d ≡ d = take_all size d (omega (arith, h.size)) in
    let seconds = unix_start + t.time.nanos / second in
    let nanos = t.time.nanos % second in
    let may : MayBeWritten size seconds nanos (packet_size t.packet) d = record {
      late = omega arith;
      seconds_fit = omega (arith, h.time);
      below_second = omega arith;
      within = omega arith;
      whole_fits = omega (arith, h.size);
      captured = omega (arith, h.size);
    } in
    ap (λ (k : List ℕ). records 1 size at 0 (bytes_of seconds nanos (packet_size t.packet) k rest)) all
    ∙ front_again size seconds nanos (packet_size t.packet) d rest may at
    ∙ ap (λ (n : ℕ). joined (recorded n (packet_size t.packet) d ∷ []) (records 1 size (at + (front_size + length d)) 0 rest)) (same_time t.time.nanos)

records_again : (size at : ℕ) (ts : List Taken) → max_packet ≤ size → AllByRecursion MayBeRecorded ts
    → records 1 size at 0 (flat_map (λ t. packet_record size t.time t.packet) ts) ≡ Ok (map whole_record ts)
unfolding records
records_again size at [] large h = refl
records_again size at (t ∷ ts) large h =
    packet_again size at t (flat_map (λ u. packet_record size u.time u.packet) ts) large h.0
    ∙ ap (joined (whole_record t ∷ [])) (records_again size (at + (front_size + length (datagram_bytes t.packet))) ts large h.1)

-- ---- the head

head_again : (size : ℕ) (rest : List ℕ) → size < 2 ^ 32 → pcap (head size ++ rest) ≡ behind None size (records 1 size head_size 0 rest)
unfolding pcap head_checks
head_again size rest fits =
    let long : nat_lt (length (head size ++ rest)) head_size ≡ false = le-ltb (length (head size ++ rest)) head_size (omega arith) in
    ap (λ (b : Bool). behind (first ((b, Truncated) ∷ (false, Magic) ∷ (false, Version) ∷ (false, Link) ∷ [])) (from_le_bytes w32 (to_le_bytes w32 size)) (records 1 (from_le_bytes w32 (to_le_bytes w32 size)) head_size 0 rest)) long
    ∙ ap (λ (n : ℕ). behind None n (records 1 n head_size 0 rest)) (from_le_bytes-to_le_bytes_4 size fits)

packets_again : (ts : List Taken) → AllByRecursion MayBeRecorded ts → AllByRecursion (λ t. (found : Option Packet) → IsEach (whole_record t).kept found → found ≡ Some t.packet) ts
packets_again [] h = tt
packets_again (t ∷ ts) h = ((λ found each. each t.packet h.0.fits (is_datagram t.packet (datagram_bytes t.packet) (omega (arith, h.0.size)) refl)), packets_again ts h.1)

pub read_back : (size : ℕ) (ts : List Taken) → max_packet ≤ size → size < 2 ^ 32 → AllByRecursion MayBeRecorded ts → IsReadBack size ts
read_back size ts large fits h = record {
  records = head_again size (flat_map (λ t. packet_record size t.time t.packet) ts) fits ∙ ap (behind None size) (records_again size head_size ts large h);
  packets = packets_again ts h;
}
