-- An input shows one content and one status.
use Rattle.std.proofs.Common.{◌≡◌, ℕ, ◌≤◌, Bool, true, false, List, [], ◌∷◌, ◌++◌, Option, Some, None, nat_le, Result, Ok, Err, refl, sym, ap, subst, ◌∙◌, inl, inr, rules}
use Rattle.std.specs.Prelude.{if◌then◌else◌}
use Rattle.run_outside.specs.Files.{Held}
use Rattle.sim_base.specs.Packet.{packet_size}
use Rattle.run_outside.specs.Sink.{Content, add, begun}
use Rattle.run_outside.specs.declared.sink.SinkTarget.TheVariants as target
use Rattle.sim_base.specs.declared.packet.Packet.{Packet}
use Rattle.host_state.specs.World.{World, IsResult, opening_world}
use Rattle.host_link.specs.Net.{Net}
use Rattle.net_run.specs.Pieces.{with_pieces}
use Rattle.net_run.specs.Shown.{status_of}
use Rattle.pcap_text.specs.Datagram.{datagram, datagram_bytes, longest}
use Rattle.pcap_text.specs.Packets.{Fits, IsPacketIn}
use Rattle.pcap_text.specs.declared.capture.Capture.{Capture}
use Rattle.pcap_text.specs.declared.capture.Record.{Record}
use Rattle.run_plan.specs.Line.{line_of}
use Rattle.run_plan.specs.Planned.{planned}
use Rattle.run_plan.specs.declared.fault.Fault.{Fault}
use Rattle.run_plan.specs.declared.fault.Fault.TheVariants.{Exists}
use Rattle.run_plan.specs.declared.planned.Planned.{Planned}
use Rattle.run_plan.specs.declared.planned.Planned.TheVariants as plan
use Rattle.run_plan.specs.declared.planned.Run.{Run}
use Rattle.config_lines.specs.Shown.{shown}
use Rattle.shd_config.specs.declared.config.Config.{Config}
use Rattle.run_answers.specs.Captured.{line_with, AreLinesOf}
use Rattle.shadow_top.specs.Input.{Input, IsPlanned, IsFirstFault, IsToShow, IsToList, IsToRun, directory_of}
use Rattle.plan_rows.specs.Rows.{rows_of, net_of}
use Rattle.shadow_top.specs.Shown.{IsShown, IsRunTo, IsRefused, IsConfigShown, IsCaptureListed, IsRun, pieces_of, refused, configured, listed, ran}

-- ---- what is told of plans, datagrams and results

abbrev pub OnePlan : Type 0
OnePlan = (words : List (List ℕ)) (held : Held) (r s : Result Planned Fault) → (planned words held).answers r → (planned words held).answers s → r ≡ s

abbrev pub OneDatagram : Type 0
OneDatagram = (a b : Packet) → Fits a → Fits b → packet_size a ≤ longest → packet_size b ≤ longest → datagram a ≡ datagram b → a ≡ b

abbrev pub OneResult : Type 0
OneResult = (net : Net) (w r s : World) → IsResult net r w → IsResult net s w → r ≡ s

-- ---- what is asked

same_run : (r s : Run) → ◌≡◌ {A = Planned} (plan.Runs r) (plan.Runs s) → r ≡ s
same_run r s h = cc

same_config : (c d : Config) → ◌≡◌ {A = Planned} (plan.Shows c) (plan.Shows d) → c ≡ d
same_config c d h = cc

same_capture : (c d : Capture) → ◌≡◌ {A = Planned} (plan.Lists c) (plan.Lists d) → c ≡ d
same_capture c d h = cc

listed_or_run : (c : Capture) (r : Run) → ◌≡◌ {A = Planned} (plan.Lists c) (plan.Runs r) → ⊥
listed_or_run c r h = cc

shown_or_listed : (c : Config) (d : Capture) → ◌≡◌ {A = Planned} (plan.Shows c) (plan.Lists d) → ⊥
shown_or_listed c d h = cc

shown_or_run : (c : Config) (r : Run) → ◌≡◌ {A = Planned} (plan.Shows c) (plan.Runs r) → ⊥
shown_or_run c r h = cc

there_or_free : (b : Bool) → b ≡ true → b ≡ false → ⊥
there_or_free b h k = cc

same_plan : (p q : Planned) → ◌≡◌ {A = Result Planned Fault} (Ok p) (Ok q) → p ≡ q
same_plan p q h = cc

same_fault : (f g : Fault) → ◌≡◌ {A = Result Planned Fault} (Err f) (Err g) → f ≡ g
same_fault f g h = cc

plan_or_fault : (p : Planned) (f : Fault) → ◌≡◌ {A = Result Planned Fault} (Ok p) (Err f) → ⊥
plan_or_fault p f h = cc

module _ (plans : OnePlan) (i : Input) where
  one_plan : (p q : Planned) → IsPlanned i (Ok p) → IsPlanned i (Ok q) → p ≡ q
  one_plan p q h k = same_plan p q (plans i.words i.held (Ok p) (Ok q) h k)

  no_plan : (p : Planned) (f : Fault) → IsPlanned i (Ok p) → IsPlanned i (Err f) → ⊥
  no_plan p f h k = plan_or_fault p f (plans i.words i.held (Ok p) (Err f) h k)

  pub one_run : (r s : Run) → IsPlanned i (Ok (plan.Runs r)) → IsPlanned i (Ok (plan.Runs s)) → r ≡ s
  one_run r s h k = same_run r s (one_plan (plan.Runs r) (plan.Runs s) h k)

  one_fault : (f g : Fault) → IsFirstFault i f → IsFirstFault i g → f ≡ g
  one_fault f g (inl h) (inl k) = same_fault f g (plans i.words i.held (Err f) (Err g) h k)
  one_fault f g (inl h) (inr k) = absurd (no_plan (plan.Runs k.run) f k.asked h)
  one_fault f g (inr h) (inl k) = absurd (no_plan (plan.Runs h.run) g h.asked k)
  one_fault f g (inr h) (inr k) = h.fault_is ∙ ap (λ (r : Run). Exists (directory_of r)) (one_run h.run k.run h.asked k.asked) ∙ sym k.fault_is

  not_to_show : (f : Fault) (c : Config) → IsFirstFault i f → IsToShow i c → ⊥
  not_to_show f c (inl h) k = no_plan (plan.Shows c) f k h
  not_to_show f c (inr h) k = shown_or_run c h.run (one_plan (plan.Shows c) (plan.Runs h.run) k h.asked)

  pub not_to_run : (f : Fault) (r : Run) → IsFirstFault i f → IsToRun i r → ⊥
  not_to_run f r (inl h) k = no_plan (plan.Runs r) f k.asked h
  not_to_run f r (inr h) k = there_or_free (i.there (directory_of r)) (ap (λ (s : Run). i.there (directory_of s)) (one_run r h.run k.asked h.asked) ∙ h.there) k.free

  not_to_list : (f : Fault) (c : Capture) → IsFirstFault i f → IsToList i c → ⊥
  not_to_list f c (inl h) k = no_plan (plan.Lists c) f k h
  not_to_list f c (inr h) k = listed_or_run c h.run (one_plan (plan.Lists c) (plan.Runs h.run) k h.asked)

  pub list_or_run : (c : Capture) (r : Run) → IsToList i c → IsToRun i r → ⊥
  list_or_run c r h k = listed_or_run c r (one_plan (plan.Lists c) (plan.Runs r) h k.asked)

  show_or_list : (c : Config) (d : Capture) → IsToShow i c → IsToList i d → ⊥
  show_or_list c d h k = shown_or_listed c d (one_plan (plan.Shows c) (plan.Lists d) h k)

  pub show_or_run : (c : Config) (r : Run) → IsToShow i c → IsToRun i r → ⊥
  show_or_run c r h k = shown_or_run c r (one_plan (plan.Shows c) (plan.Runs r) h k.asked)

-- ---- what is shown

-- a packet that has a datagram isn't longer than one may be
not_longer : (p : Packet) (bytes : List ℕ) (b : Bool) → nat_le (packet_size p) longest ≡ b → (if b then Some (datagram_bytes p) else None) ≡ Some bytes → packet_size p ≤ longest
not_longer p bytes true short h = search rules
not_longer p bytes false short h = absurd (let e : None ≡ Some bytes = h in cc)

of_length : (p : Packet) (bytes : List ℕ) → datagram p ≡ Some bytes → packet_size p ≤ longest
of_length p bytes h = not_longer p bytes (nat_le (packet_size p) longest) refl h

-- a record keeps the whole datagram of one packet at most
one_packet : OneDatagram → (r : Record) (f g : Option Packet) → IsPacketIn r f → IsPacketIn r g → f ≡ g
one_packet datagrams r None None h k = refl
one_packet datagrams r None (Some q) h k = absurd (h q k)
one_packet datagrams r (Some p) None h k = absurd (k p h)
one_packet datagrams r (Some p) (Some q) h k =
    ap Some (datagrams p q h.fits k.fits (of_length p r.kept h.datagram_is) (of_length q r.kept k.datagram_is) (h.datagram_is ∙ sym k.datagram_is))

-- so records have one text
one_text : OneDatagram → (rs : List Record) (a b : List ℕ) → AreLinesOf rs a → AreLinesOf rs b → a ≡ b
one_text datagrams [] a b h k = h ∙ sym k
one_text datagrams (r ∷ rs) a b (f, x, is, are, whole) (g, y, is', are', whole') =
    whole
    ∙ ap (λ (found : Option Packet). line_with r found ++ x) (one_packet datagrams r f g is is')
    ∙ ap (λ (rest : List ℕ). line_with r g ++ rest) (one_text datagrams rs x y are are')
    ∙ sym whole'

pub one_world : OneResult → (run : Run) (w v : World) → IsRunTo run w → IsRunTo run v → w ≡ v
one_world results run w v h k = results (net_of run) (opening_world (rows_of run)) w v h k

abbrev Same : Content → Content → ℕ → ℕ → Type 0
Same one other status another = (one ≡ other) × (status ≡ another)

module _ (plans : OnePlan) (datagrams : OneDatagram) (results : OneResult) (i : Input) (old one other : Content) (status another : ℕ) where
  both_refused : IsRefused i old one status → IsRefused i old other another → Same one other status another
  both_refused h k =
      let same = one_fault plans i h.fault k.fault h.first k.first in (h.line ∙ ap (λ (f : Fault). add target.Err (line_of f) old) same ∙ sym k.line, h.status_is ∙ sym k.status_is)

  both_configured : IsConfigShown i old one status → IsConfigShown i old other another → Same one other status another
  both_configured h k =
      let same = same_config h.config k.config (one_plan plans i (plan.Shows h.config) (plan.Shows k.config) h.asked k.asked) in
      (h.text ∙ ap (λ (c : Config). add target.Out (shown c) old) same ∙ sym k.text, h.status_is ∙ sym k.status_is)

  both_listed : IsCaptureListed i old one status → IsCaptureListed i old other another → Same one other status another
  both_listed h k =
      let same = same_capture h.capture k.capture (one_plan plans i (plan.Lists h.capture) (plan.Lists k.capture) h.asked k.asked) in
      let text = one_text datagrams k.capture.records h.lines k.lines (subst (λ (c : Capture). AreLinesOf c.records h.lines) same h.lines_are) k.lines_are in
      (h.text ∙ ap (λ (lines : List ℕ). add target.Out lines old) text ∙ sym k.text, h.status_is ∙ sym k.status_is)

  both_ran : IsRun i old one status → IsRun i old other another → Same one other status another
  both_ran h k =
      let run = one_run plans i h.run k.run h.asked.asked k.asked.asked in
      let world = one_world results k.run h.world k.world (subst (λ (r : Run). IsRunTo r h.world) run h.result) k.result in (
        h.content
            ∙ ap (λ (r : Run). with_pieces (pieces_of r h.world) (begun (directory_of r) old)) run
            ∙ ap (λ (w : World). with_pieces (pieces_of k.run w) (begun (directory_of k.run) old)) world
            ∙ sym k.content,
        h.status_is ∙ ap (λ (w : World). status_of w) world ∙ sym k.status_is,
      )

  pub one_shown : IsShown i old one status → IsShown i old other another → Same one other status another
  one_shown (refused h) (refused k) = both_refused h k
  one_shown (refused h) (configured k) = absurd (not_to_show plans i h.fault k.config h.first k.asked)
  one_shown (refused h) (listed k) = absurd (not_to_list plans i h.fault k.capture h.first k.asked)
  one_shown (refused h) (ran k) = absurd (not_to_run plans i h.fault k.run h.first k.asked)
  one_shown (configured h) (refused k) = absurd (not_to_show plans i k.fault h.config k.first h.asked)
  one_shown (configured h) (configured k) = both_configured h k
  one_shown (configured h) (listed k) = absurd (show_or_list plans i h.config k.capture h.asked k.asked)
  one_shown (configured h) (ran k) = absurd (show_or_run plans i h.config k.run h.asked k.asked)
  one_shown (listed h) (refused k) = absurd (not_to_list plans i k.fault h.capture k.first h.asked)
  one_shown (listed h) (configured k) = absurd (show_or_list plans i k.config h.capture k.asked h.asked)
  one_shown (listed h) (listed k) = both_listed h k
  one_shown (listed h) (ran k) = absurd (list_or_run plans i h.capture k.run h.asked k.asked)
  one_shown (ran h) (refused k) = absurd (not_to_run plans i k.fault h.run k.first h.asked)
  one_shown (ran h) (configured k) = absurd (show_or_run plans i k.config h.run k.asked h.asked)
  one_shown (ran h) (listed k) = absurd (list_or_run plans i k.capture h.run k.asked h.asked)
  one_shown (ran h) (ran k) = both_ran h k
