-- the plan of a run, and the texts and images that it is given
use Rattle.std.proofs.Common.{Bool, IfOk, List, None, Ok, Result, Some, [], arith, bytes_eq, codes, decimal, false, if◌then◌else◌, map, mod-lt, nat_lt, refl, slice_index, subst, suc, true, zero, ℕ, ◌%◌, ◌+◌, ◌/◌, ◌<◌, ◌∷◌, ◌≡◌, ◌≤◌}
use Rattle.std.proofs.lemmas.Fmt.{IsAscii-decimal}
use Rattle.std.proofs.lemmas.List.Elements.{recursion_from_All}
use Rattle.std.proofs.lemmas.Str.{IsUtf8-append, IsUtf8-from_ascii}
use Rattle.run_plan.specs.declared.ring.TheConstants.{RING}
use Rattle.std.proofs.lemmas.Bool.{and_parts}
use Rattle.std.proofs.lemmas.Bool.Decides.{nat_tests}
use Rattle.std.specs.List.{list_all, range_with_len}
use Rattle.std.specs.Str.{IsUtf8}
use Rattle.capture_laws.proofs.Texts.{all_small}
use Rattle.capture_laws.specs.Given.{HoldBytes}
use Rattle.command_line.specs.Asked.{asked}
use Rattle.command_line.specs.declared.asked.Subject.{Subject}
use Rattle.command_line.specs.declared.asked.Subject.TheVariants.{Capture, File, SelfLoad}
use Rattle.config_texts.proofs.Reading.{config_text}
use Rattle.config_texts.proofs.Trees.{plain_text}
use Rattle.config_texts.specs.Texts.{HasTexts, HostIsText}
use Rattle.gml_graph.specs.declared.graph.Graph.{Graph}
use Rattle.run_fits.specs.Bytes.{AreBytes}
use Rattle.run_plan.proofs.ConfiguredLemmas.{configured_is}
use Rattle.run_plan.proofs.InRangeLemmas.{asked_in_range}
use Rattle.run_plan.proofs.LimitLemmas.{each_ring_host, small_address}
use Rattle.run_plan.specs.Configured.{configured}
use Rattle.run_plan.specs.InRange.{IsInRange}
use Rattle.run_plan.specs.Plan.{plan_of, run_of}
use Rattle.run_plan.specs.Planned.{file_planned, manner_of, planned, planned_of, self_load_planned}
use Rattle.run_plan.specs.Ring.{ring, ring_files}
use Rattle.run_plan.specs.SelfLoad.{address_number, host_name, next_host, ring_host, self_load_config, self_load_graph}
use Rattle.run_plan.specs.declared.plan.Plan.{Plan}
use Rattle.run_plan.specs.declared.planned.Manner.{Manner}
use Rattle.run_plan.specs.declared.planned.Planned.TheVariants.{Runs}
use Rattle.run_plan.specs.declared.planned.Run.{Run}
use Rattle.shd_config.specs.declared.config.Config.{Config}
use Rattle.shd_config.specs.declared.fault.ConfigFault.{ConfigFault}
use Rattle.shd_config.specs.declared.overrides.Overrides.{Overrides}
use Rattle.run_outside.specs.Files.{Held}
use Rattle.stream_lines.proofs.Planned.{asked_is, is_run, no_run}
use Rattle.text_trees.proofs.TextTrees.{text_plain}

-- a plan is that of a configuration of texts over some files, which hold bytes where those that are given do
pub record IsPlanOver (held : Held) (plan : Plan) : Type 0 where
  pub files : Held
  pub name : List ℕ
  pub graph : Graph
  pub configuration : Config
  pub is : (run_of files name graph configuration).answers (Ok plan)
  pub texts : HasTexts configuration
  pub bytes : HoldBytes held → HoldBytes files

-- ---- a file

text_of_file : (name text : List ℕ) (o : Overrides) (c : Config) → (configured name text o).answers (Ok c) → HasTexts c
text_of_file name text o c h =
    let is = configured_is name text o c h in
    subst (λ (read : Result Config ConfigFault). IfOk read HasTexts) is.2 (config_text o _ is.0 (plain_text is.0 (text_plain text is.0 is.1)))

over_file : (held : Held) (name : List ℕ) (c : Config) (plan : Plan) → HasTexts c → (plan_of held name c).answers (Ok plan) → IsPlanOver held plan
unfolding plan_of
over_file held name c plan texts (graph, g, h) = record { files = held; name = name; graph = graph; configuration = c; is = h; texts = texts; bytes = λ hold. hold }

file_over : (m : Manner) (held : Held) (name : List ℕ) (run : Run) → (file_planned m held name).answers (Ok (Runs run)) → IsPlanOver held run.plan
unfolding file_planned
file_over m held name run (text, h, (c, k, s)) =
    is_run (IsPlanOver held) m.shows_config c (plan_of held name c) m false run (λ plan p. over_file held name c plan (text_of_file name text m.overrides c k) p) s

-- ---- a self-load

ascii : (text : List ℕ) → list_all (λ b. nat_lt b 128) text ≡ true → (i : ℕ) → slice_index text i < 128
ascii [] e i = omega arith
ascii (b ∷ text) e zero = let low = (and_parts (nat_lt b 128) (list_all (λ b. nat_lt b 128) text) e).0 in grind (arith, nat_tests, low)
ascii (b ∷ text) e (suc i) = ascii text (and_parts (nat_lt b 128) (list_all (λ b. nat_lt b 128) text) e).1 i

ascii_text : (text : List ℕ) → list_all (λ b. nat_lt b 128) text ≡ true → IsUtf8 text
ascii_text text e = IsUtf8-from_ascii text (ascii text e)

digit_text : (n : ℕ) → IsUtf8 (decimal (n % 10))
digit_text n = let few : n % 10 < 10 = mod-lt n (omega arith) in IsUtf8-from_ascii (decimal (n % 10)) (IsAscii-decimal (n % 10) (omega (arith, few)))

name_text : (i : ℕ) → IsUtf8 (host_name i)
name_text i =
    let a = digit_text (i / 1000) in
    let b = digit_text (i / 100) in
    let c = digit_text (i / 10) in
    let d = digit_text i in
    IsUtf8-append (codes "h") _ (ascii_text (codes "h") refl)
    (IsUtf8-append (decimal (i / 1000 % 10)) _ a (IsUtf8-append (decimal (i / 100 % 10)) _ b (IsUtf8-append (decimal (i / 10 % 10)) (decimal (i % 10)) c d)))

ring_text : (n i : ℕ) → i < n → n ≤ 4096 → HostIsText (ring_host n i)
ring_text n i less few =
    let next : (i + 1) % n < n = mod-lt (i + 1) (omega (arith, less)) in
    let number = address_number (next_host n i) in
    let small = small_address (next_host n i) (omega (arith, next, few)) in
    (name_text i, ((ascii_text (codes "ring") refl, (IsUtf8-from_ascii (decimal number) (IsAscii-decimal number (omega (arith, small))), tt), tt), tt))

self_load_texts : (o : Overrides) (n : ℕ) → n ≤ 4096 → HasTexts (self_load_config o n)
unfolding self_load_config
self_load_texts o n few =
    recursion_from_All HostIsText (map (ring_host n) (range_with_len 0 n)) (each_ring_host HostIsText n (λ i less. ring_text n i less few))

ring_are : AreBytes ring
unfolding ring
ring_are = all_small RING refl

ring_hold : HoldBytes ring_files
ring_hold name bytes e = by (bytes_eq (codes "ring") name) e
  where
    by : (b : Bool) → (if b then Some ring else None) ≡ Some bytes → AreBytes bytes
    by true k = let same : ring ≡ bytes = cc in subst AreBytes same ring_are
    by false k = absurd (cc)

self_load_over : (m : Manner) (hosts : ℕ) (held : Held) (run : Run) → IsInRange (SelfLoad hosts) → (self_load_planned m hosts).answers (Ok (Runs run)) → IsPlanOver held run.plan
unfolding self_load_planned
self_load_over m hosts held run range s =
    let c : Config = self_load_config m.overrides hosts in
    is_run (IsPlanOver held) m.shows_config c (run_of ring_files (codes "self-load") (self_load_graph hosts) c) m true run
    (λ plan p. record {
      files = ring_files;
      name = codes "self-load";
      graph = self_load_graph hosts;
      configuration = c;
      is = p;
      texts = self_load_texts m.overrides hosts range.1;
      bytes = λ hold. ring_hold;
    }) s

-- ---- what is asked

subject_over : (held : Held) (m : Manner) (subject : Subject) (run : Run) → IsInRange subject → (planned_of held m subject).answers (Ok (Runs run)) → IsPlanOver held run.plan
subject_over held m (File name) run range h = file_over m held name run h
subject_over held m (SelfLoad hosts) run range h = self_load_over m hosts held run range h
subject_over held m (Capture name) run range h = absurd (no_run m held name run h)

pub run_over : (words : List (List ℕ)) (held : Held) (run : Run) → (planned words held).answers (Ok (Runs run)) → IsPlanOver held run.plan
unfolding planned
run_over words held run (a, e, h) =
    let range = asked_in_range words a (asked_is (asked words) a e) in subject_over held (manner_of a) a.subject run range.subject h
