-- What is put at the end of a run.
use Rattle.std.proofs.Common.{◌≡◌, ℕ, zero, suc, ◌+◌, ◌<◌, ◌≤◌, ◌^◌, ◌⊎◌, inl, inr, ⊎_elim, Bool, true, false, All, List, [], ◌∷◌, ◌++◌, length, map, Option, Some, None, option_map, slice_get, Result, Ok, Err, OnOk, OnErr, IfOk, Vec, Global, append-nil, refl, sym, ap, subst, ◌∙◌, arith}
use Rattle.std.specs.Prelude.{if◌then◌else◌, min}
use Rattle.std.specs.List.{fold}
use Rattle.std.proofs.lemmas.List.{length-map, length_push}
use Rattle.std.proofs.lemmas.Option.{get_or_from_slice_get}
use Rattle.run_outside.specs.Sink.{Content}
use Rattle.sim_base.specs.Units.{max_u64}
use Rattle.sim_base.specs.declared.act.Act.{Act}
use Rattle.run_outside.specs.declared.sink.WriteError.{WriteError}
use Rattle.sim_base.specs.declared.state.State.{State}
use Rattle.host_state.specs.HostRecord.{HostRecord, process_state}
use Rattle.host_state.specs.Extends.{AreLater, Extends}
use Rattle.host_link.specs.Logs.{lines_of}
use Rattle.host_state.specs.World.{World}
use Rattle.run_files.specs.declared.listed.Listing.{Listing}
use Rattle.host_link.specs.declared.line.Line.{Line}
use Rattle.out_text.specs.Summary.{is_send, is_lost, is_recv, acts_counted, summary_of}
use Rattle.out_text.specs.Log.{LogLine}
use Rattle.out_text.specs.declared.summary.Summary.{Summary}
use Rattle.net_run.specs.Grown.{IsUnderway}
use Rattle.run_files.specs.Listed.{HostNames, HasIds, listed, listed_process, names_of}
use Rattle.host_state.specs.Gains.{names_in}
use Rattle.net_run.specs.Parts.{Between}
use Rattle.run_files.specs.Files.{Put}
use Rattle.file_calls.specs.Guest.{first_id}
use Rattle.net_run.specs.Pieces.{with_pieces, PutsFront}
use Rattle.net_run.specs.Rest.{all_rest, summary_in, unmet_of_hosts, TellsStates, AreTold}
use Rattle.net_run.specs.Shown.{named, named_log, run_pieces, status_by, status_of}
use Rattle.round_parts.specs.Counts as lines
use Rattle.round_parts.specs.Counts.{counts_of}
use Rattle.round_lookahead.specs.WorldStands.{WorldStands}
use Rattle.round_parts.specs.declared.counts.Counts.{Counts}
use Rattle.round_lookahead.specs.declared.world.world_state.World as rounds
use Rattle.shadow_top.specs.inside.Ending.{TellsAll, PutsEnd}
use Rattle.shadow_top.specs.inside.Rounds.{StandsAt}
use Rattle.shadow_top.proofs.GrowLemmas.{AreBetween, Grows-refl, Grows_with_pieces, between_part}
use Rattle.shadow_top.proofs.RoundLemmas.{AreFronts, at_count}

-- an element that is there, and what f makes of it
get_below : {X : Type 0} (xs : List X) (i : ℕ) → i < length xs → (x : X) × (slice_get xs i ≡ Some x)
get_below [] i below = absurd (omega arith)
get_below (y ∷ ys) zero below = (y, refl)
get_below (y ∷ ys) (suc i) below = get_below ys i (omega arith)

get-map : {X Y : Type 0} (f : X → Y) (xs : List X) (i : ℕ) (x : X) → slice_get xs i ≡ Some x → slice_get (map f xs) i ≡ Some (f x)
get-map f [] i x at = absurd (let e : None ≡ Some x = at in cc)
get-map f (y ∷ ys) zero x at = ap (option_map f) at
get-map f (y ∷ ys) (suc i) x at = get-map f ys i x at

-- one more at the end
pub at_more : {A : Type 0} (xs : List A) (x y : A) (i : ℕ) → slice_get (xs ++ x ∷ []) i ≡ Some y → (slice_get xs i ≡ Some y) ⊎ ((i ≡ length xs) × (x ≡ y))
at_more [] x y zero at = inr (refl, (let e : Some x ≡ Some y = at in cc))
at_more [] x y (suc i) at = absurd (let e : None ≡ Some y = at in cc)
at_more (z ∷ zs) x y zero at = inl at
at_more (z ∷ zs) x y (suc i) at = ⊎_elim (λ (l : slice_get zs i ≡ Some y). inl l) (λ (r : (i ≡ length zs) × (x ≡ y)). inr (ap suc r.0, r.1)) (at_more zs x y i at)

pub none_there : {A P : Type 0} (xs : List A) (i : ℕ) (x : A) → xs ≡ [] → slice_get xs i ≡ Some x → P
none_there [] i x none at = absurd (let e : None ≡ Some x = at in cc)
none_there (y ∷ ys) i x none at = absurd (cc)

pub one_more : {A : Type 0} (old new : List A) (x : A) (n : ℕ) → new ≡ old ++ x ∷ [] → length old ≡ n → length new ≡ n + 1
one_more old new x n is count = ap length is ∙ length_push old x ∙ ap (λ (k : ℕ). k + 1) count

-- ---- the states of a host

-- one more process
pub states_more : (old new : List State) (state : State) (n : ℕ) (h : HostRecord) → new ≡ old ++ state ∷ [] → length old ≡ n
    → ((p : ℕ) (s : State) → slice_get old p ≡ Some s → s ≡ process_state p h) → state ≡ process_state n h → (p : ℕ) (s : State) → slice_get new p ≡ Some s → s ≡ process_state p h
states_more old new state n h is count each here p s at =
    ⊎_elim
    (λ (l : slice_get old p ≡ Some s). each p s l)
    (λ (r : (p ≡ length old) × (state ≡ s)). sym r.1 ∙ here ∙ ap (λ (k : ℕ). process_state k h) (sym (r.0 ∙ count)))
    (at_more old state s p (sym (ap (λ (l : List State). slice_get l p) is) ∙ at))

-- ---- the states of all hosts

pub tasks_count : (c : rounds.World) (w : World) → WorldStands c w → length c.tasks.items ≡ length (names_of c.listing)
tasks_count c w at = at.count ∙ sym (at_count c w at)

pub few_hosts : (c : rounds.World) (w : World) → WorldStands c w → length (names_of c.listing) ≤ 65536
few_hosts c w at =
    let listed = at_count c w at in
    let count = at.between.count in
    let few = at.rounds.few in
    omega arith

-- a host has no more processes than ids
pub few_processes : (names : List HostNames) (i count : ℕ) → i < length names → All HasIds names → ((n : HostNames) → slice_get names i ≡ Some n → count ≡ length n.processes) → count ≤ 2 ^ 32
few_processes names i count below ids counted =
    let n = get_below names i below in
    let has : HasIds n.0 = subst HasIds (get_or_from_slice_get names i n.0 n.0 n.1) (ids i n.0 below) in
    let few : first_id + length n.0.processes ≤ 2 ^ 32 = has in
    let is = counted n.0 n.1 in
    omega arith

-- one more host
pub all-more : (c : rounds.World) (w : World) → WorldStands c w → (old new : List (Vec State Global)) (v : Vec State Global) (n count : ℕ) → new ≡ old ++ v ∷ [] → length old ≡ n
    → ((k : ℕ) (h : HostRecord) (states : Vec State Global) → slice_get w.hosts k ≡ Some h → slice_get old k ≡ Some states → TellsStates h states.items)
    → ((names : HostNames) → slice_get (names_of c.listing) n ≡ Some names → count ≡ length names.processes)
    → ((h : HostRecord) → WorldStands c w → slice_get w.hosts n ≡ Some h → count ≡ length h.row.processes → TellsStates h v.items)
    → (k : ℕ) (h : HostRecord) (states : Vec State Global) → slice_get w.hosts k ≡ Some h → slice_get new k ≡ Some states → TellsStates h states.items
all-more c w at old new v n count is long each counted here k h states there told =
    ⊎_elim
    (λ (l : slice_get old k ≡ Some states). each k h states there l)
    (λ (r : (k ≡ length old) × (v ≡ states)).
    (let at_n : slice_get w.hosts n ≡ Some h = subst (λ (i : ℕ). slice_get w.hosts i ≡ Some h) (r.0 ∙ long) there in
    let listed_there : slice_get (names_of c.listing) n ≡ Some (listed h.row) =
    ap (λ (ns : List HostNames). slice_get ns n) at.listed ∙ get-map (λ (x : HostRecord). listed x.row) w.hosts n h at_n in
    subst (λ (s : Vec State Global). TellsStates h s.items) r.1 (here h at at_n (counted (listed h.row) listed_there ∙ length-map h.row.processes listed_process))))
    (at_more old v states k (sym (ap (λ (l : List (Vec State Global)). slice_get l k) is) ∙ told))

-- ---- the summary

pub no_summary : (w : World) (load : Bool) → load ≡ false → (let none : Option Summary = None in none) ≡ summary_in load w
no_summary w load is = sym (ap (λ (b : Bool). summary_in b w) is)

-- lines are counted by their acts, whatever name they tell
abbrev counts_one : Bool → ℕ → ℕ
counts_one told n = n + (if told then 1 else 0)

counted_from : (is_one : Act → Bool) (hs : List HostRecord) (ls : List Line) (n : ℕ)
    → fold (λ (m : ℕ) (line : LogLine). counts_one (is_one line.act) m) n (map (named hs) ls) ≡ fold (λ (m : ℕ) (line : Line). counts_one (is_one line.act) m) n ls
counted_from is_one hs [] n = refl
counted_from is_one hs (l ∷ ls) n = counted_from is_one hs ls (counts_one (is_one l.act) n)

counted : (is_one : Act → Bool) (w : World) → acts_counted is_one (named_log w) ≡ lines.acts_counted is_one (lines_of w.log)
counted is_one w = ap (λ (n : ℕ). min n max_u64) (counted_from is_one w.hosts (lines_of w.log) 0)

abbrev with_counts : ℕ → Counts → Summary
with_counts hosts c = record { hosts = hosts; sent = c.sent; lost = c.lost; received = c.received }

pub summary_told : (w : World) (load : Bool) (hosts : ℕ) (c : Counts) → load ≡ true → hosts ≡ length w.hosts → c ≡ counts_of (lines_of w.log) → Some (with_counts hosts c) ≡ summary_in load w
summary_told w load hosts c load_is many is =
    let sent = counted is_send w in
    let lost = counted is_lost w in
    let received = counted is_recv w in
    let told : summary_of (length w.hosts) (named_log w) ≡ with_counts (length w.hosts) (counts_of (lines_of w.log)) = (λ i. record { hosts = length w.hosts; sent = sent i; lost = lost i; received = received i }) in
    ap (λ (n : ℕ). Some (with_counts n c)) many ∙ ap (λ (k : Counts). Some (with_counts (length w.hosts) k)) is ∙ ap Some (sym told) ∙ sym (ap (λ (b : Bool). summary_in b w) load_is)

-- ---- what is put at the end

-- what is told of a list is told of each of its lists
told_list : (told : List (Vec State Global)) (k : ℕ) (states : List State) → slice_get (map (λ (v : Vec State Global). v.items) told) k ≡ Some states
    → (v : Vec State Global) × (slice_get told k ≡ Some v) × (v.items ≡ states)
told_list [] k states at = absurd (let e : None ≡ Some states = at in cc)
told_list (v ∷ told) zero states at = (v, refl, (let e : Some v.items ≡ Some states = at in cc))
told_list (v ∷ told) (suc k) states at = told_list told k states at

told_count : (told : List (Vec State Global)) → length (map (λ (v : Vec State Global). v.items) told) ≡ length told
told_count [] = refl
told_count (v ∷ told) = ap suc (told_count told)

pub small : (ps : List Put) → status_by ps ≤ 1
small [] = omega arith
small (p ∷ ps) = omega arith

-- what is told of the end: what stands and the rest are all that the world shows, and the status is its
abbrev pub End : Type 0
End = (names : List HostNames) (begun : Content) (now : Option Content) (w : World) (states : List (List State)) (load : Bool) → IsUnderway names begun now w → AreTold w states
    → option_map (with_pieces (all_rest names states (summary_in load w))) now ≡ Some (with_pieces (run_pieces load w) begun)

abbrev pub HaveStatus : Type 0
HaveStatus = (w : World) (states : List (List State)) → AreTold w states → status_by (unmet_of_hosts (names_in w) states) ≡ status_of w

-- a world extends itself
later_refl : (hs : List HostRecord) → AreLater hs hs
later_refl [] = tt
later_refl (h ∷ hs) = (record { row = refl; more = []; written = sym (append-nil h.written) }, later_refl hs)

extends_refl : (w : World) → Extends w w
extends_refl w = record { hosts = later_refl w.hosts; more = []; log = sym (append-nil w.log) }

-- no memory for the states
pub end_without : AreFronts → (load : Bool) (w : World) (old mid : Option Content) (error : WriteError) → StandsAt w old mid
    → PutsEnd load w old mid (let r : Result ℕ WriteError = Err error in r)
end_without fronts load w old mid error stands = λ begun is. fronts (names_in w) begun mid w w load (stands begun is) (extends_refl w)

module _ (ends : End) (counts : HaveStatus) (parts : AreBetween) (load : Bool) (w : World) (old mid new : Option Content) (told : List (Vec State Global)) (all : TellsAll w told) (stands : StandsAt w old mid) (summary : Option Summary) (is : summary ≡ summary_in load w) where
  abbrev states : List (List State)
  states = map (λ (v : Vec State Global). v.items) told

  count : length states ≡ length w.hosts
  count = told_count told ∙ all.count

  tells : (k : ℕ) (h : HostRecord) (s : List State) → slice_get w.hosts k ≡ Some h → slice_get states k ≡ Some s → TellsStates h s
  tells k h s there at = (let (v, at_v, same) = told_list told k s at in subst (TellsStates h) same (all.each k h v there at_v))

  are_told : AreTold w states
  are_told = record { count = count; each = tells }

  abbrev names : List HostNames
  names = names_in w

  abbrev rest : List Put
  rest = all_rest names states (summary_in load w)

  -- the rest was put in part
  in_part : (begun : Content) → IsUnderway names begun mid w → PutsFront rest mid new → Between begun new (with_pieces (run_pieces load w) begun)
  in_part begun u front =
      let whole : Content = with_pieces (run_pieces load w) begun in
      let stood : Content = with_pieces u.puts begun in
      let is_whole : Some (with_pieces rest stood) ≡ Some whole = sym (ap (option_map (with_pieces rest)) u.now_is) ∙ ends names begun mid w states load u are_told in
      between_part parts rest begun stood whole new (Grows_with_pieces parts u.puts begun) (subst (λ (o : Option Content). PutsFront rest o new) u.now_is front)
      (record { now = whole; now_is = is_whole; grown = Grows_with_pieces parts (run_pieces load w) begun; rest = Grows-refl whole })

  pub end_told : (r : Result ℕ WriteError) → IfOk r (λ s. s ≡ status_by (unmet_of_hosts names states)) → OnOk r (new ≡ option_map (with_pieces (all_rest names states summary)) mid)
      → OnErr r (PutsFront (all_rest names states summary) mid new) → PutsEnd load w old new r
  end_told (Ok status) status_is put front = (
    λ begun e. put ∙ ap (λ (s : Option Summary). option_map (with_pieces (all_rest names states s)) mid) is ∙ ends names begun mid w states load (stands begun e) are_told,
    status_is ∙ counts w states are_told,
  )
  end_told (Err error) status_is put front = λ begun e.
      in_part begun (stands begun e) (subst (λ (s : Option Summary). PutsFront (all_rest names states s) mid new) is front)

  -- the same, by what the code lists
  pub end_told_by : (listing : Listing) → names_of listing ≡ names_in w → (r : Result ℕ WriteError) → IfOk r (λ s. s ≡ status_by (unmet_of_hosts (names_of listing) states))
      → OnOk r (new ≡ option_map (with_pieces (all_rest (names_of listing) states summary)) mid) → OnErr r (PutsFront (all_rest (names_of listing) states summary) mid new) → PutsEnd load w old new r
  end_told_by listing same r status_is put front =
      end_told r (subst (λ (ns : List HostNames). IfOk r (λ s. s ≡ status_by (unmet_of_hosts ns states))) same status_is)
      (subst (λ (ns : List HostNames). OnOk r (new ≡ option_map (with_pieces (all_rest ns states summary)) mid)) same put)
      (subst (λ (ns : List HostNames). OnErr r (PutsFront (all_rest ns states summary) mid new)) same front)
