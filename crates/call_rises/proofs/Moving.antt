-- acts one behind another, and rows that lead by them
use Rattle.std.proofs.Common.{◌≡◌, ℕ, Bool, true, false, if◌then◌else◌, List, [], ◌∷◌, ◌++◌, Option, Some, None, is_some, Result, Ok, Err, refl, sym, ap, subst, ◌∙◌}
use Rattle.sim_base.specs.Refusals.{◌>>=◌, ◌>>◌, or_refuse}
use Rattle.host_files.specs.Epolls.{EpollsState}
use Rattle.host_files.specs.Files.{FilesState}
use Rattle.host_files.specs.Slots.{at}
use Rattle.host_wants.specs.declared.error.Refusal.{Refusal}
use Rattle.pipe_laws.specs.Acts.{PipeAct}
use Rattle.pipe_laws.specs.Eventfds.{EventfdAct}
use Rattle.file_laws.specs.Kinds.{pipes, eventfds, timers}
use Rattle.file_laws.specs.Lives.{Kind, SlotAct, makes, does, ends, slots_acted, slots_after, Lasts}
use Rattle.file_laws.specs.Timers.{TimerAct}
use Rattle.call_rises.specs.Moves.{AreAt, AllRise, FilesMove}
use Rattle.call_rises.proofs.There.{AllStay, all_stay}
use Rattle.call_rises.proofs.Views.{View, Named, Fewer, Grows, grows_so, quiet, named_both}

-- what holds either way holds of the choice
pub by_test : {X : Type 0} (P : X → Type 0) (b : Bool) (x y : X) → (b ≡ true → P x) → (b ≡ false → P y) → P (if b then x else y)
by_test P true x y f g = f refl
by_test P false x y f g = g refl

pub slots_on : {M A B : Type 0} (kind : Kind M A B) (acts more : List (SlotAct M B)) (x : List (Option A)) → slots_after kind (acts ++ more) x ≡ slots_after kind more (slots_after kind acts x)
slots_on kind [] more x = refl
slots_on kind (act ∷ acts) more x = slots_on kind acts more (slots_acted kind act x)

pub slots_joined : {M A B : Type 0} (kind : Kind M A B) (acts more : List (SlotAct M B)) (x y z : List (Option A)) → slots_after kind acts x ≡ y → slots_after kind more y ≡ z → slots_after kind (acts ++ more) x ≡ z
slots_joined {M} {A} kind acts more x y z e k =
    slots_on kind acts more x ∙ (ap (λ (u : List (Option A)). slots_after kind more u) e ∙ k)

at_both : (now : ℕ) (acts more : List (SlotAct ℕ TimerAct)) → AreAt now acts → AreAt now more → AreAt now (acts ++ more)
at_both now [] more h k = k
at_both now (makes clock ∷ acts) more h k = at_both now acts more h k
at_both now (does j act ∷ acts) more h k = (h.0, at_both now acts more h.1 k)
at_both now (ends j ∷ acts) more h k = at_both now acts more h k

lasts_both : {M A B : Type 0} (kind : Kind M A B) (k : ℕ) (acts more : List (SlotAct M B)) (x : List (Option A)) → Lasts kind k acts x → Lasts kind k more (slots_after kind acts x) → Lasts kind k (acts ++ more) x
lasts_both kind k [] more x a b = b
lasts_both kind k (act ∷ acts) more x a b = (a.0, lasts_both kind k acts more (slots_acted kind act x) a.1 b)

-- what lasts through both, where nothing is made by the second
pub lasts_joined : {M A B : Type 0} (kind : Kind M A B) (k : ℕ) (acts more : List (SlotAct M B)) (x y : List (Option A)) → slots_after kind acts x ≡ y → Lasts kind k acts x → Lasts kind k more y → Lasts kind k (acts ++ more) x
lasts_joined {A = A} kind k acts more x y e a b =
    lasts_both kind k acts more x a (subst (λ (u : List (Option A)). Lasts kind k more u) (sym e) b)

one_lasts : {M A B : Type 0} (kind : Kind M A B) (act : SlotAct M B) (x y : List (Option A)) → slots_acted kind act x ≡ y → (k : ℕ) → is_some (at k x) ≡ true → is_some (at k y) ≡ true → Lasts kind k (act ∷ []) x
one_lasts {A = A} kind act x y e k before after =
    (subst (λ (u : List (Option A)). is_some (at k u) ≡ true) (sym e) after, tt)

module _ (now : ℕ) where
  -- none of them changes
  pub stays : (x y : FilesState) → x.pipes ≡ y.pipes → x.eventfds ≡ y.eventfds → x.timers ≡ y.timers → FilesMove now x y
  stays x y p e t = record {
    on_pipes = [];
    on_eventfds = [];
    on_timers = [];
    timely = tt;
    pipes_after = p;
    eventfds_after = e;
    timers_after = t;
    pipes_last = λ k before after. tt;
    eventfds_last = λ k before after. tt;
    timers_last = λ k before after. tt;
  }

  pub none : (x : FilesState) → FilesMove now x x
  none x = stays x x refl refl refl

  pub on_pipe : (act : SlotAct (Unit {0}) PipeAct) (x y : FilesState) → slots_acted pipes act x.pipes ≡ y.pipes → x.eventfds ≡ y.eventfds → x.timers ≡ y.timers → FilesMove now x y
  on_pipe act x y p e t = record {
    on_pipes = act ∷ [];
    on_eventfds = [];
    on_timers = [];
    timely = tt;
    pipes_after = p;
    eventfds_after = e;
    timers_after = t;
    pipes_last = one_lasts pipes act x.pipes y.pipes p;
    eventfds_last = λ k before after. tt;
    timers_last = λ k before after. tt;
  }

  pub on_eventfd : (act : SlotAct (ℕ × Bool) EventfdAct) (x y : FilesState) → x.pipes ≡ y.pipes → slots_acted eventfds act x.eventfds ≡ y.eventfds → x.timers ≡ y.timers → FilesMove now x y
  on_eventfd act x y p e t = record {
    on_pipes = [];
    on_eventfds = act ∷ [];
    on_timers = [];
    timely = tt;
    pipes_after = p;
    eventfds_after = e;
    timers_after = t;
    pipes_last = λ k before after. tt;
    eventfds_last = one_lasts eventfds act x.eventfds y.eventfds e;
    timers_last = λ k before after. tt;
  }

  pub on_timer : (act : SlotAct ℕ TimerAct) (x y : FilesState) → AreAt now (act ∷ []) → x.pipes ≡ y.pipes → x.eventfds ≡ y.eventfds → slots_acted timers act x.timers ≡ y.timers → FilesMove now x y
  on_timer act x y at p e t = record {
    on_pipes = [];
    on_eventfds = [];
    on_timers = act ∷ [];
    timely = at;
    pipes_after = p;
    eventfds_after = e;
    timers_after = t;
    pipes_last = λ k before after. tt;
    eventfds_last = λ k before after. tt;
    timers_last = one_lasts timers act x.timers y.timers t;
  }

  -- one behind another, where the second makes nothing
  pub record MakesNone (x y : FilesState) : Type 0 where
    pub pipes : (k : ℕ) → is_some (at k y.pipes) ≡ true → is_some (at k x.pipes) ≡ true
    pub eventfds : (k : ℕ) → is_some (at k y.eventfds) ≡ true → is_some (at k x.eventfds) ≡ true
    pub timers : (k : ℕ) → is_some (at k y.timers) ≡ true → is_some (at k x.timers) ≡ true

  pub both : (x y z : FilesState) → FilesMove now x y → FilesMove now y z → MakesNone y z → FilesMove now x z
  both x y z a b none = record {
    on_pipes = a.on_pipes ++ b.on_pipes;
    on_eventfds = a.on_eventfds ++ b.on_eventfds;
    on_timers = a.on_timers ++ b.on_timers;
    timely = at_both now a.on_timers b.on_timers a.timely b.timely;
    pipes_after = slots_joined pipes a.on_pipes b.on_pipes x.pipes y.pipes z.pipes a.pipes_after b.pipes_after;
    eventfds_after = slots_joined eventfds a.on_eventfds b.on_eventfds x.eventfds y.eventfds z.eventfds a.eventfds_after b.eventfds_after;
    timers_after = slots_joined timers a.on_timers b.on_timers x.timers y.timers z.timers a.timers_after b.timers_after;
    pipes_last = λ k before after.
        lasts_joined pipes k a.on_pipes b.on_pipes x.pipes y.pipes a.pipes_after (a.pipes_last k before (none.pipes k after)) (b.pipes_last k (none.pipes k after) after);
    eventfds_last = λ k before after.
        lasts_joined eventfds k a.on_eventfds b.on_eventfds x.eventfds y.eventfds a.eventfds_after (a.eventfds_last k before (none.eventfds k after)) (b.eventfds_last k (none.eventfds k after) after);
    timers_last = λ k before after.
        lasts_joined timers k a.on_timers b.on_timers x.timers y.timers a.timers_after (a.timers_last k before (none.timers k after)) (b.timers_last k (none.timers k after) after);
  }

-- what an act does to a host's files, to the epolls of its process, and to what its descriptors name
pub record Moved (now : ℕ) (v w : View) : Type 0 where
  pub files : FilesMove now v.files w.files
  pub epolls : AllRise v.epolls → AllRise w.epolls
  pub names : Named now v w

pub moved_by : (now : ℕ) (v w : View) → FilesMove now v.files w.files → v.epolls ≡ w.epolls → Named now v w → Moved now v w
moved_by now v w m same named = record {
  files = m;
  epolls = subst (λ (g : EpollsState). AllRise v.epolls → AllRise g) same (λ rise. rise);
  names = named;
}

-- nothing is opened or closed, and all that was there still is
pub moved : (now : ℕ) (v w : View) → FilesMove now v.files w.files → v.table ≡ w.table → v.files.files ≡ w.files.files → v.epolls ≡ w.epolls → Grows v.files w.files → AllStay v.sockets w.sockets → Moved now v w
moved now v w m table files epolls grows stay = moved_by now v w m epolls (quiet now v w table files epolls grows stay)

pub moved_none : (now : ℕ) (v : View) → Moved now v v
moved_none now v = moved now v v (none now v.files) refl refl refl (grows_so v.files v.files refl refl refl) (all_stay v.sockets)

pub moved_both : (now : ℕ) (v u w : View) → Moved now v u → Moved now u w → Fewer u w → Moved now v w
moved_both now v u w a b fewer = record {
  files = both now v.files u.files w.files a.files b.files (record { pipes = fewer.pipes; eventfds = fewer.eventfds; timers = fewer.timers });
  epolls = λ rise. b.epolls (a.epolls rise);
  names = named_both now v u w a.names b.names fewer;
}

-- of whatever a row leaves this holds
pub record Leads {A S : Type 0} (P : S → Type 0) (row : Result (A × S) Refusal) : Type 0 where
  pub leads : (a : A) (s : S) → row ≡ Ok (a, s) → P s

abbrev left_in : {A S : Type 0} → Result (A × S) Refusal → S → S
left_in (Ok (a, s)) t = s
left_in (Err why) t = t

module _ {S : Type 0} (P : S → Type 0) where
  pub answers : {A : Type 0} (a : A) (s : S) → P s → Leads P (Ok (a, s))
  answers {A} a s m = record {
    leads = λ b after e. subst P (ap (λ (r : Result (A × S) Refusal). left_in r s) e) m;
  }

  pub refused : {A : Type 0} (why : Refusal) → Leads {A = A} P (Err why)
  refused why = record { leads = λ b after e. cc }

  pub asks : {A B : Type 0} (asked : Result B Refusal) (f : B → Result (A × S) Refusal) → ((b : B) → Leads P (f b)) → Leads P (asked >>= f)
  asks (Ok b) f h = h b
  asks (Err why) f h = refused why

  pub asks_so : {A B : Type 0} (asked : Result B Refusal) (f : B → Result (A × S) Refusal) → ((b : B) → asked ≡ Ok b → Leads P (f b)) → Leads P (asked >>= f)
  asks_so (Ok b) f h = h b refl
  asks_so (Err why) f h = refused why

  pub tries : {A B : Type 0} (asked : Result B Refusal) (rest : Result (A × S) Refusal) → Leads P rest → Leads P (asked >> rest)
  tries (Ok b) rest h = h
  tries (Err why) rest h = refused why

-- what holds of the answer of a question
pub record Gives {B : Type 0} (P : B → Type 0) (asked : Result B Refusal) : Type 0 where
  pub gives : (b : B) → asked ≡ Ok b → P b

module _ {B : Type 0} (P : B → Type 0) where
  pub given : (b : B) → P b → Gives P (Ok b)
  given b h = record { gives = λ c e. let same : b ≡ c = cc in subst P same h }

  pub not_given : (why : Refusal) → Gives P (Err why)
  not_given why = record { gives = λ b e. let no : ⊥ = cc in absurd no }

  pub given_by : {A : Type 0} (asked : Result A Refusal) (f : A → Result B Refusal) → ((a : A) → asked ≡ Ok a → Gives P (f a)) → Gives P (asked >>= f)
  given_by (Ok a) f h = h a refl
  given_by (Err why) f h = not_given why

  pub given_after : {A : Type 0} (asked : Result A Refusal) (rest : Result B Refusal) → Gives P rest → Gives P (asked >> rest)
  given_after (Ok a) rest h = h
  given_after (Err why) rest h = not_given why

  pub given_some : (o : Option B) (why : Refusal) → ((b : B) → o ≡ Some b → P b) → Gives P (or_refuse o why)
  given_some None why h = not_given why
  given_some (Some b) why h = given b (h b refl)
