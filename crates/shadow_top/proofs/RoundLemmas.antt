-- The rounds of a run, and what is put meanwhile.
use Rattle.std.proofs.Common.{◌≡◌, ℕ, ◌≤◌, Bool, List, [], All, Option, None, Some, option_map, Result, Ok, Err, OnOk, OnErr, length, sym, ap, subst, refl, ◌∙◌}
use Rattle.std.specs.Prelude.{flat_map}
use Rattle.std.proofs.lemmas.List.{length-map}
use Rattle.run_outside.specs.Sink.{Content}
use Rattle.sim_base.specs.declared.event.Event.{Event}
use Rattle.run_outside.specs.declared.sink.WriteError.{WriteError}
use Rattle.file_calls.specs.declared.task.Output.{Output}
use Rattle.host_state.specs.Extends.{Extends}
use Rattle.run_files.specs.Files.{Put}
use Rattle.host_state.specs.Gains.{Gains, names_in}
use Rattle.run_files.specs.Grown.{all_grown, with_bytes}
use Rattle.host_state.specs.HostRecord.{HostRecord}
use Rattle.run_files.specs.LinesFit.{AllFit}
use Rattle.run_files.specs.Listed.{HostNames, listed, names_of}
use Rattle.host_link.specs.Logs.{lines_of}
use Rattle.host_state.specs.World.{World, IsResult, opening_world}
use Rattle.host_link.specs.declared.line.Line.{Line}
use Rattle.host_link.specs.Net.{Net}
use Rattle.host_rows.specs.declared.row.Row.{Row}
use Rattle.net_run.specs.Grown.{HaveOwnFiles, IsUnderway}
use Rattle.net_run.specs.Heads.{all_heads}
use Rattle.net_run.specs.Parts.{Between, Grows}
use Rattle.net_run.specs.Pieces.{with_pieces, PutsFront}
use Rattle.net_run.specs.Shown.{run_pieces}
use Rattle.round_lookahead.specs.Gains.{HasRound}
use Rattle.round_lookahead.specs.Reached.{HasReached}
use Rattle.round_lookahead.specs.Tasks.{waiting}
use Rattle.round_lookahead.specs.WorldStands.{WorldStands}
use Rattle.round_lookahead.specs.declared.world.pieces.Pieces.{Pieces}
use Rattle.round_lookahead.specs.declared.world.world_state.World as rounds
use Rattle.shadow_top.specs.inside.Rounds.{gained_by, StandsAt, HasAllRounds, PutsInPart, PutsRounds}
use Rattle.shadow_top.proofs.FitLemmas.{fit_append}
use Rattle.shadow_top.proofs.GrowLemmas.{AreBetween, Grows-refl, Grows-trans, Grows_with_pieces, between_part, told_nothing}

-- ---- what is told of runs

-- a round leads a run on; rounds that have finished have reached the result; and a result extends what is reached
abbrev pub LeadOn : Type 0
LeadOn = (start w v : World) (old new : rounds.World) (workers : ℕ) (p : Pieces) → HasReached old.net start w → HasRound old new workers w v p → HasReached old.net start v

abbrev pub Finish : Type 0
Finish = (start w : World) (c : rounds.World) → WorldStands c w → HasReached c.net start w → All (λ (e : Event). c.net.stop.nanos ≤ e.key.due.nanos) (flat_map waiting c.tasks.items) → IsResult c.net w start

abbrev pub AreExtended : Type 0
AreExtended = (start w : World) (c : rounds.World) → WorldStands c w → HasReached c.net start w → (r : World) × IsResult c.net r start × Extends w r

-- heads are what stands at the beginning; what a round gained is put behind what stands; and that is a front of what a later world shows
abbrev pub BeginWithHeads : Type 0
BeginWithHeads = (rows : List Row) (begun : Content) → HaveOwnFiles (names_in (opening_world rows))
    → IsUnderway (names_in (opening_world rows)) begun (Some (with_pieces (all_heads (names_in (opening_world rows))) begun)) (opening_world rows)

abbrev pub Grow : Type 0
Grow = (names : List HostNames) (begun : Content) (now : Option Content) (w v : World) (outputs : List (List Output)) (lines : List Line) → IsUnderway names begun now w → Gains w v outputs lines
    → IsUnderway names begun (option_map (with_pieces (with_bytes (all_grown names outputs lines))) now) v

abbrev pub AreFronts : Type 0
AreFronts = (names : List HostNames) (begun : Content) (now : Option Content) (w later : World) (load : Bool) → IsUnderway names begun now w → Extends w later
    → Between begun now (with_pieces (run_pieces load later) begun)

-- the listing has all hosts
pub at_count : (c : rounds.World) (w : World) → WorldStands c w → length (names_of c.listing) ≡ length w.hosts
at_count c w at = ap length at.listed ∙ length-map w.hosts (λ (h : HostRecord). listed h.row)

-- ---- so far

-- the run has come to a world, and stands there; where the lines at first are of packets whose numbers fit, all are
pub record HasCome (c d : rounds.World) (start : World) (old now : Option Content) : Type 0 where
  pub world : World
  pub net : d.net ≡ c.net
  pub at : WorldStands d world
  pub reached : HasReached c.net start world
  pub stands : StandsAt world old now
  pub fit : AllFit (lines_of start.log) → AllFit (lines_of world.log)

-- nothing is gathered yet
pub come_start : (c : rounds.World) (w : World) (old now : Option Content) (gathered : List Put) → gathered ≡ [] → HasReached c.net w w → WorldStands c w → StandsAt w old now
    → HasCome c c w old (option_map (with_pieces gathered) now)
come_start c w old now gathered none reached at stands = record {
  world = w;
  net = refl;
  at = at;
  reached = reached;
  stands = subst (StandsAt w old) (sym (ap (λ (ps : List Put). option_map (with_pieces ps) now) none ∙ told_nothing now)) stands;
  fit = λ h. h;
}

module _ (c d : rounds.World) (start : World) (old mid : Option Content) (come : HasCome c d start old mid) where
  reached_here : HasReached d.net start come.world
  reached_here = subst (λ (n : Net). HasReached n start come.world) (sym come.net) come.reached

  -- no event is due any more
  pub come_end : Finish → All (λ (e : Event). d.net.stop.nanos ≤ e.key.due.nanos) (flat_map waiting d.tasks.items) → HasAllRounds c d start old mid
  come_end finish late = record {
    world = come.world;
    result = subst (λ (n : Net). IsResult n come.world start) come.net (finish start come.world d come.at reached_here late);
    at = come.at;
    stands = come.stands;
    fit = come.fit;
  }

  module _ (lead : LeadOn) (grow : Grow) (e : rounds.World) (workers : ℕ) (v : World) (p : Pieces) (same : e.net ≡ d.net) (round : HasRound d e workers come.world v p) (new : Option Content) where
    reached_next : HasReached d.net start v
    reached_next = lead start come.world v d e workers p reached_here round

    abbrev gained : List Put
    gained = with_bytes (all_grown (names_in come.world) round.files.outputs round.files.lines)

    underway_next : (begun : Content) → old ≡ Some begun → IsUnderway (names_in come.world) begun (option_map (with_pieces gained) mid) v
    underway_next begun is = grow (names_in come.world) begun mid come.world v round.files.outputs round.files.lines (come.stands begun is) round.files.gained

    -- what a round gained was put
    pub come_further : new ≡ option_map (with_pieces (gained_by p)) mid → HasCome c e start old new
    come_further put = record {
      world = v;
      net = same ∙ come.net;
      at = round.turns.stands;
      reached = subst (λ (n : Net). HasReached n start v) come.net reached_next;
      stands = λ begun is.
          (let next = underway_next begun is in
          subst (λ (names : List HostNames). IsUnderway names begun new v) next.names_are
          (subst (λ (o : Option Content). IsUnderway (names_in come.world) begun o v) (sym (put ∙ ap (λ (l : List Put). option_map (with_pieces l) mid) round.files.files_are)) next));
      fit = λ h. subst AllFit (sym round.files.gained.log) (fit_append (lines_of come.world.log) round.files.lines (come.fit h) round.files.fit);
    }

-- ---- what is gathered

-- what a round gained is put behind what was gathered before
pub gathered_more : (old more new : List Put) → ((at : Content) → with_pieces new at ≡ with_pieces more (with_pieces old at)) → (o : Option Content)
    → option_map (with_pieces new) o ≡ option_map (with_pieces more) (option_map (with_pieces old) o)
gathered_more old more new is None = refl
gathered_more old more new is (Some c) = ap Some (is c)

-- the same, of which some was put
pub gathered_left : (old more new left : List Put) (o p : Option Content) → option_map (with_pieces left) p ≡ option_map (with_pieces new) o → ((at : Content) → with_pieces new at ≡ with_pieces more (with_pieces old at))
    → option_map (with_pieces left) p ≡ option_map (with_pieces more) (option_map (with_pieces old) o)
gathered_left old more new left o p put is = put ∙ gathered_more old more new is o

-- what stands is what stood when the run began, grown
abbrev pub HasGrown : Option Content → Option Content → Type 0
HasGrown old now = (begun : Content) → old ≡ Some begun → (stood : Content) × (now ≡ Some stood) × Grows begun stood

module _ (parts : AreBetween) where
  pub grown_start : (w : World) (old now : Option Content) → StandsAt w old now → HasGrown old now
  grown_start w old now at = λ begun is. (let u = at begun is in (with_pieces u.puts begun, u.now_is, Grows_with_pieces parts u.puts begun))

  pub grown_further : (puts : List Put) (old now new : Option Content) → HasGrown old now → new ≡ option_map (with_pieces puts) now → HasGrown old new
  grown_further puts old now new grown is = λ begun at.
      (let (stood, now_is, grows) = grown begun at in
      (with_pieces puts stood, is ∙ ap (option_map (with_pieces puts)) now_is, Grows-trans begun stood (with_pieces puts stood) grows (Grows_with_pieces parts puts stood)))

  -- some of what was gathered was put: each target holds a front of what the result shows
  module _ (c d : rounds.World) (start : World) (old now : Option Content) (gathered : List Put) (come : HasCome c d start old (option_map (with_pieces gathered) now)) (grown : HasGrown old now) where
    pub come_part : AreExtended → AreFronts → (new : Option Content) → PutsFront gathered now new → PutsInPart c start old new
    come_part extended fronts new front =
        let (r, result, later) = extended start come.world d come.at (reached_here c d start old (option_map (with_pieces gathered) now) come) in (
          r,
          subst (λ (n : Net). IsResult n r start) come.net result,
          λ begun is load.
              (let (stood, now_is, grows) = grown begun is in
              let whole : Content = with_pieces (run_pieces load r) begun in
              let all : Between begun (option_map (with_pieces gathered) now) whole = fronts (names_in come.world) begun (option_map (with_pieces gathered) now) come.world r load (come.stands begun is) later in
              between_part parts gathered begun stood whole new grows
              (subst (λ (o : Option Content). PutsFront gathered o new) now_is front)
              (subst (λ (o : Option Content). Between begun (option_map (with_pieces gathered) o) whole) now_is all)),
        )

    -- no round is left, and all that was gathered was put, or some of it
    pub rounds_told : Finish → AreExtended → AreFronts → All (λ (e : Event). d.net.stop.nanos ≤ e.key.due.nanos) (flat_map waiting d.tasks.items) → (new : Option Content) (r : Result (Unit {0}) WriteError)
        → OnOk r (new ≡ option_map (with_pieces gathered) now) → OnErr r (PutsFront gathered now new) → PutsRounds c d start old new r
    rounds_told finish extended fronts late new (Ok done) put front =
        subst (HasAllRounds c d start old) (sym put) (come_end c d start old (option_map (with_pieces gathered) now) come finish late)
    rounds_told finish extended fronts late new (Err error) put front = come_part extended fronts new front

-- ---- the beginning

module _ (c : rounds.World) (rows : List Row) (at : WorldStands c (opening_world rows)) (own : HaveOwnFiles (names_of c.listing)) (begin : BeginWithHeads) where
  abbrev names : List HostNames
  names = names_in (opening_world rows)

  own_names : HaveOwnFiles names
  own_names = subst HaveOwnFiles at.listed own

  -- the heads of captures were put
  pub heads_put : (old new : Option Content) → new ≡ option_map (with_pieces (all_heads (names_of c.listing))) old → StandsAt (opening_world rows) old new
  heads_put old new put = λ begun is.
      subst (λ (o : Option Content). IsUnderway names begun o (opening_world rows))
      (sym (put ∙ ap (λ (hosts : List HostNames). option_map (with_pieces (all_heads hosts)) old) at.listed ∙ ap (option_map (with_pieces (all_heads names))) is))
      (begin rows begun own_names)

  module _ (reached : HasReached c.net (opening_world rows) (opening_world rows)) (extended : AreExtended) (fronts : AreFronts) (parts : AreBetween) where
    -- or some of them
    pub heads_stopped : (old new : Option Content) → PutsFront (all_heads (names_of c.listing)) old new → PutsInPart c (opening_world rows) old new
    heads_stopped old new front =
        let (r, result, later) = extended (opening_world rows) (opening_world rows) c at reached in (
          r,
          result,
          λ begun is load.
              between_part parts (all_heads names) begun begun (with_pieces (run_pieces load r) begun) new (Grows-refl begun)
              (subst (λ (o : Option Content). PutsFront (all_heads names) o new) is (subst (λ (hosts : List HostNames). PutsFront (all_heads hosts) old new) at.listed front))
              (fronts names begun (Some (with_pieces (all_heads names) begun)) (opening_world rows) r load (begin rows begun own_names) later),
        )
